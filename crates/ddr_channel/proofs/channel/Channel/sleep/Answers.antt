-- The cycle was looked up.
use Rattle.std.proofs.Common.{sym, subst}
use Rattle.ddr_channel.specs.Kept.{Kept, state_of}
use Rattle.ddr_channel.specs.Quiet.{IsStillUntil}
use Rattle.ddr_channel.proofs.SleepLemmas.{whole_asleep}
use Rattle.ddr_channel.proofs.channel.Channel.sleep.Goals as goal

pub invariant_of-self : goal.invariant_of-self
invariant_of-self c =
    whole_asleep c.self.inside c.rest_now-rest.result.until c.rest_now-rest.result.must_refresh c.self.invariant
    (subst (λ (k : Kept). IsStillUntil c.rest_now-rest.result.until (state_of k)) (sym c.self.view_is) c.rest_now-rest.ensures)
