-- Where the clock is spent, no cycle is told.
use Rattle.std.proofs.Common.{ap, arith}
use Rattle.ddr_channel.specs.Kept.{Kept, state_of}
use Rattle.ddr_channel.proofs.CycleLemmas.{awake}
use Rattle.ddr_channel.proofs.channel.Channel.rest_now.Goals as goal

pub returns-then-now-eq-CLOCK_STOP : goal.returns-then-now-eq-CLOCK_STOP
returns-then-now-eq-CLOCK_STOP c = awake c.now-now.result (state_of c.args.self.now) (omega (arith, c.now-now.ensures.value, ap (λ (k : Kept). k.now) c.self.view_is))
