-- A cycle that is made is one call more, and what it told is so.
use Rattle.std.proofs.Common.{◌≡◌, List, Option, IfSome, sym, ap, subst, ◌∙◌, arith}
use Rattle.std.specs.Option.{is_some}
use Rattle.ddr_trace.specs.Commands.{is_column}
use Rattle.ddr_channel.specs.declared.issued.Issued.{Issued}
use Rattle.ddr_arbiter.specs.declared.choice.Choice.TheVariants as choice
use Rattle.ddr_channel.specs.Choice.{choice_of}
use Rattle.ddr_channel.specs.Cycle.{at_choice}
use Rattle.ddr_channel.specs.Kept.{Kept, state_of}
use Rattle.ddr_channel.specs.History.{Call}
use Rattle.ddr_channel.specs.Promise.{StandsFor}
use Rattle.ddr_channel.specs.State.{State}
use Rattle.ddr_channel.specs.Told.{with_issued, IsNewest, ComesAsTold, WasAdmitted}
use Rattle.ddr_channel.specs.View.{kept_of}
use Rattle.ddr_channel.proofs.SleepLemmas.{still_issued, still_made, still_now}
use Rattle.ddr_channel.proofs.StandsLemmas.{stands_after_cycle}
use Rattle.ddr_channel.proofs.ToldLemmas.{told_traced, told_columns, told_newest, told_comes, told_admitted}
use Rattle.ddr_channel.proofs.channel.Channel.cycle_observed.Goals as goal

pub returns-in-Ok-clause-stands : goal.returns-in-Ok-clause-stands
returns-in-Ok-clause-stands c = λ calls stands.
    stands_after_cycle c.args.self.now c.sleep.new.self calls stands
    (λ spent. c.if-now-eq-CLOCK_STOP.false (c.now-now.ensures.value ∙ ap (λ (k : Kept). k.now) c.self.view_is ∙ spent)) (ap state_of c.sleep.ensures ∙ c.in-Ok.ensures.ok)

pub returns-in-Ok-clause-trace : goal.returns-in-Ok-clause-trace
returns-in-Ok-clause-trace c =
    ap (λ (s : State). s.trace) (ap state_of c.sleep.ensures ∙ c.in-Ok.ensures.ok)
    ∙ told_traced (state_of c.args.self.now)
    ∙ ap (λ (o : Option Issued). with_issued o c.args.self.now.trace) (sym c.in-Ok.ensures.issued)

pub returns-in-Ok-clause-columns : goal.returns-in-Ok-clause-columns
returns-in-Ok-clause-columns c =
    subst (λ (o : Option Issued). IfSome o (λ i. is_some i.served ≡ is_column i.entry.command)) (sym c.in-Ok.ensures.issued) (told_columns (state_of c.args.self.now))

pub returns-in-Ok-clause-flight : goal.returns-in-Ok-clause-flight
returns-in-Ok-clause-flight c =
    subst (λ (o : Option Issued). IfSome o (λ i. IfSome i.served (IsNewest c.sleep.new.self.flight i))) (sym c.in-Ok.ensures.issued)
    (told_newest (state_of c.args.self.now) c.sleep.new.self.flight (ap (λ (s : State). s.flight) (ap state_of c.sleep.ensures ∙ c.in-Ok.ensures.ok)))

pub returns-in-Ok-clause-told : goal.returns-in-Ok-clause-told
returns-in-Ok-clause-told c =
    subst (λ (o : Option Issued). IfSome o (λ i. IfSome i.served (λ v. (calls : List Call) → StandsFor c.args.self.now calls → ComesAsTold c.args.self.now.config c.args.self.now.start calls i v))) (sym c.in-Ok.ensures.issued)
    (told_comes c.args.self.now (λ spent. c.if-now-eq-CLOCK_STOP.false (c.now-now.ensures.value ∙ ap (λ (k : Kept). k.now) c.self.view_is ∙ spent)))

pub returns-in-Ok-clause-admitted : goal.returns-in-Ok-clause-admitted
returns-in-Ok-clause-admitted c =
    subst (λ (o : Option Issued). IfSome o (λ i. IfSome i.served (λ v. (calls : List Call) → StandsFor c.args.self.now calls → WasAdmitted c.args.self.now.config c.args.self.now.start calls v))) (sym c.in-Ok.ensures.issued)
    (told_admitted c.args.self.now (λ spent. c.if-now-eq-CLOCK_STOP.false (c.now-now.ensures.value ∙ ap (λ (k : Kept). k.now) c.self.view_is ∙ spent)))

pub still_cycle-requires-clause-chosen : goal.still_cycle-requires-clause-chosen
still_cycle-requires-clause-chosen c =
    subst (λ (k : Kept). choice_of (at_choice (state_of k)) ≡ choice.Nothing) c.self.view_is
    (still_now c.self.inside.still_until (state_of (kept_of c.self.inside)) c.self.invariant.still (omega (arith, c.if-now-self.true, c.now-now.ensures.value)))

pub returns-then-now-self-clause-clock : goal.returns-then-now-self-clause-clock
returns-then-now-self-clause-clock c =
    let chosen = subst (λ (k : Kept). choice_of (at_choice (state_of k)) ≡ choice.Nothing) c.self.view_is
    (still_now c.self.inside.still_until (state_of (kept_of c.self.inside)) c.self.invariant.still (omega (arith, c.if-now-self.true, c.now-now.ensures.value))) in
    ap (λ (s : State). s.now) (c.still_cycle.ensures.state ∙ still_made (state_of c.args.self.now) chosen)

pub returns-then-now-self-clause-stands : goal.returns-then-now-self-clause-stands
returns-then-now-self-clause-stands c = λ calls stands.
    stands_after_cycle c.args.self.now c.still_cycle.new.self calls stands
    (λ spent. c.if-now-eq-CLOCK_STOP.false (c.now-now.ensures.value ∙ ap (λ (k : Kept). k.now) c.self.view_is ∙ spent)) c.still_cycle.ensures.state

pub returns-then-now-self-clause-issued : goal.returns-then-now-self-clause-issued
returns-then-now-self-clause-issued c =
    still_issued (state_of c.args.self.now)
    (subst (λ (k : Kept). choice_of (at_choice (state_of k)) ≡ choice.Nothing) c.self.view_is
    (still_now c.self.inside.still_until (state_of (kept_of c.self.inside)) c.self.invariant.still (omega (arith, c.if-now-self.true, c.now-now.ensures.value))))
