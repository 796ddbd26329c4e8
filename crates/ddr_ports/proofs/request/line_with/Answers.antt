use Rattle.std.proofs.Common.{arith}
use Rattle.ddr_ports.proofs.Writes.{put_mid-zeros}
use Rattle.ddr_ports.proofs.request.line_with.Goals as goal

pub returns : goal.returns
returns c = put_mid-zeros 64 c.args.start _ c.args.bytes.now _ c.requires (omega arith) c.copy_from_slice.ensures.after
