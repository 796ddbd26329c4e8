-- Quiet cycles change the clock, the debts and the drain mode, and are so many calls more.
use Rattle.std.proofs.Common.{sym, ap, subst, ◌∙◌}
use Rattle.ddr_channel.specs.Kept.{Kept, state_of}
use Rattle.ddr_channel.specs.Quiet.{IsQuiet, after_cycles, drain_after}
use Rattle.ddr_channel.specs.View.{kept_of}
use Rattle.ddr_channel.proofs.QuietLemmas.{cycles_clock, fields_passed, stands_passed, state_passed, ticks_left}
use Rattle.ddr_channel.proofs.SleepLemmas.{whole_passed}
use Rattle.ddr_channel.proofs.channel.Channel.pass.Goals as goal

pub pass-requires : goal.pass-requires
pass-requires c =
    ticks_left c.self.inside c.args.count c.self.invariant (subst (λ (k : Kept). IsQuiet c.args.count (state_of k)) (sym c.self.view_is) c.requires)

pub pass-requires-2 : goal.pass-requires-2
pass-requires-2 c =
    cycles_clock c.args.count (state_of (kept_of c.self.inside)) (subst (λ (k : Kept). IsQuiet c.args.count (state_of k)) (sym c.self.view_is) c.requires) c.self.invariant.clock

pub invariant_of-self : goal.invariant_of-self
invariant_of-self c =
    whole_passed c.self.inside c.args.count c.drain_after-self-inside.result c.pass.new.debts c.pass-2.new.self c.self.invariant
    (subst (λ (k : Kept). IsQuiet c.args.count (state_of k)) (sym c.self.view_is) c.requires)
    (c.drain_after-self-inside.ensures ∙ ap (λ (k : Kept). drain_after c.args.count (state_of k)) (sym c.self.view_is)) c.pass.ensures c.pass-2.ensures.bus

pub returns-clause-state : goal.returns-clause-state
returns-clause-state c =
    state_passed c.self.inside c.args.count c.drain_after-self-inside.result c.pass.new.debts c.pass-2.new.self
    (subst (λ (k : Kept). IsQuiet c.args.count (state_of k)) (sym c.self.view_is) c.requires)
    (c.drain_after-self-inside.ensures ∙ ap (λ (k : Kept). drain_after c.args.count (state_of k)) (sym c.self.view_is)) c.pass-2.ensures.bus
    ∙ ap (λ (k : Kept). after_cycles c.args.count (state_of k)) c.self.view_is

pub returns-clause-stands : goal.returns-clause-stands
returns-clause-stands c = λ calls stands.
    stands_passed c.args.count c.args.self.now (kept_of (fields_passed c.self.inside c.drain_after-self-inside.result c.pass.new.debts c.pass-2.new.self)) calls stands c.requires
    (state_passed c.self.inside c.args.count c.drain_after-self-inside.result c.pass.new.debts c.pass-2.new.self
    (subst (λ (k : Kept). IsQuiet c.args.count (state_of k)) (sym c.self.view_is) c.requires)
    (c.drain_after-self-inside.ensures ∙ ap (λ (k : Kept). drain_after c.args.count (state_of k)) (sym c.self.view_is)) c.pass-2.ensures.bus
    ∙ ap (λ (k : Kept). after_cycles c.args.count (state_of k)) c.self.view_is)
