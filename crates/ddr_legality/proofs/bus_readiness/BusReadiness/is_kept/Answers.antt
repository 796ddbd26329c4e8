-- ORDER is told by the first cycle behind the last command, PLACE by the command, RTRS by the first cycle that the other rank
-- leaves, and the others by the command's rank.
use Rattle.std.proofs.Common.{◌≡◌, ◌+◌, nat_le, Bool, true, false, not, if◌then◌else◌, Option, Some, None, is_none, refl, sym, ap, arith, ◌∙◌}
use Rattle.ddr_trace.specs.declared.rule.Rule.{Rule}
use Rattle.ddr_trace.specs.declared.rule.Rule.TheVariants as rule
use Rattle.ddr_trace.specs.Commands.{entry, rank_of}
use Rattle.ddr_trace.specs.Rules.{breaks_rtrs}
use Rattle.ddr_legality.specs.BusReadiness.{other_columns}
use Rattle.ddr_legality.proofs.AllowedLemmas.{switch_left}
use Rattle.ddr_legality.proofs.IssuedLemmas.{in_time, other_told, too_early}
use Rattle.ddr_legality.proofs.BrokenLemmas.{comes_after, order_broken, place_broken, rank_broken, switch_broken}
use Rattle.ddr_legality.proofs.bus_readiness.BusReadiness.is_kept.Goals as goal

some_broken : (o : Option Rule) (r : Rule) → o ≡ Some r → false ≡ is_none o
some_broken o r is = rw is refl

broken_on_rank : (o p : Option Rule) → false ≡ is_none o → ((r : Rule) → o ≡ Some r → p ≡ Some r) → false ≡ is_none p
broken_on_rank None p is further = cc
broken_on_rank (Some r) p is further = some_broken p r (further r refl)

kept : (o : Option Rule) → true ≡ is_none o → o ≡ None
kept None is = refl
kept (Some r) is = cc

unless_soon : (soon : Bool) → not soon ≡ is_none (if soon then Some rule.Rtrs else None)
unless_soon true = refl
unless_soon false = refl

pub returns-then-cycle-self : goal.returns-then-cycle-self
returns-then-cycle-self c = λ history issued switched.
    let i = c.args.self.now in
    let y = c.args.cycle in
    some_broken _ rule.Order (order_broken i.config i.start (y + 1) history (entry y c.args.command.now) (too_early i history issued y c.requires.begun c.requires.below c.args.command.now (omega arith)))

pub returns-then-not-is_in : goal.returns-then-not-is_in
returns-then-not-is_in c = λ history issued switched.
    let i = c.args.self.now in
    let y = c.args.cycle in
    let order = in_time i history issued y c.requires.begun c.requires.below c.args.command.now (omega arith) in
    some_broken _ rule.Place (place_broken i.config i.start (y + 1) history (entry y c.args.command.now) order (sym c.if-not-is_in.ensures))

pub returns-then-not-is_ready : goal.returns-then-not-is_ready
returns-then-not-is_ready c = λ history issued switched.
    let i = c.args.self.now in
    let y = c.args.cycle in
    let e = entry y c.args.command.now in
    let order = in_time i history issued y c.requires.begun c.requires.below c.args.command.now (omega arith) in
    let told = c.if-not-is_ready.ensures history issued (comes_after i.start (y + 1) history e order) in
    broken_on_rank _ _ told (rank_broken i.config i.start (y + 1) history e order (sym c.if-not-is_in.ensures))

pub returns : goal.returns
returns c = λ history issued switched.
    let i = c.args.self.now in
    let y = c.args.cycle in
    let e = entry y c.args.command.now in
    let order = in_time i history issued y c.requires.begun c.requires.below c.args.command.now (omega arith) in
    let told = c.if-not-is_ready.ensures history issued (comes_after i.start (y + 1) history e order) in
    ap (λ n. nat_le n y) switched
    ∙ switch_left y c.requires.below i.config.timing (other_columns i (rank_of c.args.command.now)) c.args.command.now
    ∙ ap not (other_told i history e issued (sym c.if-not-is_in.ensures))
    ∙ unless_soon (breaks_rtrs i.config.timing history e)
    ∙ sym (ap (λ (o : Option Rule). is_none o) (switch_broken i.config i.start (y + 1) history e order (sym c.if-not-is_in.ensures) (kept _ told)))
