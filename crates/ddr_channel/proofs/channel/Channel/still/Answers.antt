-- Before the first choice and the first completion each cycle is quiet.
use Rattle.std.proofs.Common.{◌-◌, Some, None, sym, ap, subst, ◌∙◌, arith}
use Rattle.std.proofs.lemmas.Grind.{common_steps}
use Rattle.ddr_address_map.specs.Requests.{Completion}
use Rattle.ddr_channel.specs.Kept.{Kept, state_of}
use Rattle.ddr_channel.specs.Quiet.{IsQuiet}
use Rattle.ddr_channel.specs.View.{kept_of}
use Rattle.ddr_channel.proofs.SleepLemmas.{quiet_from}
use Rattle.ddr_channel.proofs.channel.Channel.still.Goals as goal

pub returns-in-Some : goal.returns-in-Some
returns-in-Some c =
    let due = ap (λ (d : Completion). d.due) c.first.view_is in
    subst (λ n. IsQuiet n (state_of c.args.self.now)) (sym (c.saturating_sub.ensures ∙ ap (λ n. c.min.result - n) (c.now-now.ensures.value ∙ ap (λ (k : Kept). k.now) c.self.view_is)))
    (subst (λ (k : Kept). IsQuiet (c.min.result - k.now) (state_of k)) c.self.view_is
    (quiet_from c.min.result c.self.inside.still_until (state_of (kept_of c.self.inside)) (Some c.in-Some.first.now)
    (grind (arith, common_steps, c.min.ensures, c.min-still.ensures))
    (grind (arith, common_steps, c.min.ensures, c.min-still.ensures))
    (grind (arith, common_steps, c.min.ensures, due))
    (sym c.in-Some.ensures) c.self.invariant.sound.due c.self.invariant.sound.begun c.self.invariant.still))

pub returns-in-None : goal.returns-in-None
returns-in-None c =
    subst (λ n. IsQuiet n (state_of c.args.self.now)) (sym (c.saturating_sub-in-None.ensures ∙ ap (λ n. c.min-still.result - n) (c.now-now.ensures.value ∙ ap (λ (k : Kept). k.now) c.self.view_is)))
    (subst (λ (k : Kept). IsQuiet (c.min-still.result - k.now) (state_of k)) c.self.view_is
    (quiet_from c.min-still.result c.self.inside.still_until (state_of (kept_of c.self.inside)) None
    (grind (arith, common_steps, c.min-still.ensures))
    (grind (arith, common_steps, c.min-still.ensures))
    tt
    (sym c.in-None.ensures) c.self.invariant.sound.due c.self.invariant.sound.begun c.self.invariant.still))
