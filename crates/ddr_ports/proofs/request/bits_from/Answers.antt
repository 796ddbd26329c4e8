use Rattle.ddr_ports.proofs.Masks.{bits_from-shifted}
use Rattle.ddr_ports.proofs.request.bits_from.Goals as goal

pub returns : goal.returns
returns c = bits_from-shifted c.args.start c.args.count c.requires.some c.requires.within
