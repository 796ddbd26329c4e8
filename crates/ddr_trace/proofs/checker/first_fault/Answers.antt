-- Below the place that is looked at nothing is broken.
use Rattle.std.proofs.Common.{◌≡◌, length, refl, sym, arith}
use Rattle.ddr_trace.specs.declared.rule.Rule.TheVariants as rule
use Rattle.ddr_trace.proofs.FaultLemmas.{clean_more, first_at_entry, first_at_end, clean_all, not_clean}
use Rattle.ddr_trace.proofs.LowestLemmas.{none_broken}
use Rattle.ddr_trace.proofs.BusLemmas.{bus_kept}
use Rattle.ddr_trace.proofs.checker.first_fault.Goals as goal

pub returns-in-Some-clause-fault : goal.returns-in-Some-clause-fault
returns-in-Some-clause-fault c =
    first_at_entry c.args.config.now c.args.start c.args.end c.args.entries.now c.loop-place.place _ c.in-Some.rule _ c.loop-place-test.true c.loop-place.invariant (λ q. refl) (sym c.in-Some.ensures)

pub returns-in-Some-clause-none : goal.returns-in-Some-clause-none
returns-in-Some-clause-none c =
    (λ no. cc, λ clean. absurd (not_clean c.args.config.now c.args.start c.args.end c.args.entries.now c.loop-place.place c.in-Some.rule (returns-in-Some-clause-fault c) clean))

pub loop-place-preserved : goal.loop-place-preserved
loop-place-preserved c =
    clean_more c.args.config.now c.args.start c.args.end c.args.entries.now c.loop-place.place _ c.loop-place-test.true c.loop-place.invariant (none_broken _ (sym c.in_default.ensures))

pub returns-then-ends_late-clause-fault : goal.returns-then-ends_late-clause-fault
returns-then-ends_late-clause-fault c =
    let all : c.loop-place.place ≡ length c.args.entries.now = omega arith in
    first_at_end c.args.config.now c.args.start c.args.end c.args.entries.now (rw all at c.loop-place.invariant) c.if-ends_late.ensures

pub returns-then-ends_late-clause-none : goal.returns-then-ends_late-clause-none
returns-then-ends_late-clause-none c =
    (λ no. cc, λ clean. absurd (not_clean c.args.config.now c.args.start c.args.end c.args.entries.now (length c.args.entries.now) rule.RefLate (returns-then-ends_late-clause-fault c) clean))

pub returns-clause-none : goal.returns-clause-none
returns-clause-none c =
    let all : c.loop-place.place ≡ length c.args.entries.now = omega arith in
    (λ _. clean_all c.args.config.now c.args.start c.args.end c.args.entries.now (rw all at c.loop-place.invariant) c.if-ends_late.ensures, λ _. refl)

-- a trace with no fault is legal, so its bursts keep apart
pub returns-clause-bus : goal.returns-clause-bus
returns-clause-bus c =
    bus_kept c.args.config.now c.args.start c.args.end c.args.entries.now ((returns-clause-none c).0 refl).0
