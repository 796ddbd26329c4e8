-- The clocks of a request are those of the configuration's distances.
use Rattle.std.proofs.Common.{◌∙◌, ap}
use Rattle.std.specs.Prelude.{nat_le}
use Rattle.ddr_latency.specs.Latency.{alone}
use Rattle.ddr_latency.proofs.clocks.leaves_time.Goals as goal

pub returns : goal.returns
returns c = ap (λ n. nat_le n c.args.config.now.timing.refi) (c.alone.ensures.exact ∙ ap alone c.of.ensures)
