-- Admission is one call more, whether the queue is full or not.
use Rattle.std.proofs.Common.{refl, sym, subst}
use Rattle.std.proofs.lemmas.Bool.{false≢true}
use Rattle.ddr_hazards.specs.PendingList.{PendingList}
use Rattle.ddr_channel.specs.Kept.{Kept}
use Rattle.ddr_channel.specs.Promise.{StandsFor}
use Rattle.ddr_channel.specs.Sound.{IsServed}
use Rattle.ddr_channel.specs.View.{IsWhole}
use Rattle.ddr_channel.proofs.ChannelLemmas.{whole_admitted, stands_with, stands_without}
use Rattle.ddr_channel.proofs.channel.Channel.admit.Goals as goal

pub invariant_of-self : goal.invariant_of-self
invariant_of-self c = subst (λ (p : PendingList). IsWhole (record c.self.inside { pending = p })) (sym c.in_err-admit.ensures.err.1) c.self.invariant

pub invariant_of-self-2 : goal.invariant_of-self-2
invariant_of-self-2 c =
    whole_admitted c.self.inside c.admit.new.self c.args.request c.now-now.result c.self.invariant
    (subst (λ (k : Kept). IsServed k.config c.args.request.place) (sym c.self.view_is) c.requires) c.now-now.ensures.value c.in_ok-admit.ensures.ok

pub returns-clause-stands : goal.returns-clause-stands
returns-clause-stands c = λ calls stands.
    stands_with c.self.inside c.admit.new.self c.args.request c.now-now.result calls c.self.invariant
    (subst (λ (k : Kept). IsServed k.config c.args.request.place) (sym c.self.view_is) c.requires) c.now-now.ensures.value c.in_ok-admit.ensures.ok
    (λ is. false≢true (c.in_ok-admit.ensures.full.1 is)) (subst (λ (k : Kept). StandsFor k calls) (sym c.self.view_is) stands)

pub returns-in_err-admit-clause-stands : goal.returns-in_err-admit-clause-stands
returns-in_err-admit-clause-stands c = λ calls stands.
    stands_without c.self.inside c.admit.new.self c.args.request calls c.self.invariant
    (subst (λ (k : Kept). IsServed k.config c.args.request.place) (sym c.self.view_is) c.requires)
    (c.in_err-admit.ensures.full.0 refl) c.in_err-admit.ensures.err.1 (subst (λ (k : Kept). StandsFor k calls) (sym c.self.view_is) stands)
