-- Nothing is broken below the place that is looked at, so what is kept tells each rule there.
use Rattle.std.proofs.Common.{◌≡◌, ℕ, ◌+◌, ◌<◌, List, [], ◌∷◌, ◌++◌, length, take, take_all, get_or, refl, sym, arith, ◌∙◌}
use Rattle.std.proofs.lemmas.List.{take_more}
use Rattle.ddr_trace.specs.declared.command.Entry.{Entry}
use Rattle.ddr_trace.specs.declared.rule.Rule.TheVariants as rule
use Rattle.ddr_trace.proofs.BusLemmas.{bus_kept}
use Rattle.ddr_trace.proofs.FaultLemmas.{clean_all, clean_more, first_at_end, first_at_entry, not_clean}
use Rattle.ddr_trace.proofs.LowestLemmas.{none_broken}
use Rattle.ddr_legality.specs.declared.one_pass.Checker.{Checker}
use Rattle.ddr_legality.specs.OnePass.{HasPassed}
use Rattle.ddr_legality.proofs.checker.first_fault.Goals as goal

passed_more : (s : Checker) (entries : List Entry) (place : ℕ) (d : Entry) → place < length entries → HasPassed s (take place entries ++ get_or entries place d ∷ []) → HasPassed s (take (place + 1) entries)
passed_more s entries place d within passed = rw (take_more entries place d within) passed

pub returns-in-Some-clause-fault : goal.returns-in-Some-clause-fault
returns-in-Some-clause-fault c =
    let kept = c.loop-place.invariant in
    let told = rw (kept.config, kept.start) at (c.lowest.ensures.lowest (take c.loop-place.place c.args.entries.now) kept.passed) in
    first_at_entry c.args.config.now c.args.start c.args.end c.args.entries.now c.loop-place.place _ c.in-Some.rule _ c.loop-place-test.true kept.clean (λ q. refl) (sym told ∙ c.in-Some.is)

pub returns-in-Some-clause-none : goal.returns-in-Some-clause-none
returns-in-Some-clause-none c =
    (λ no. cc, λ clean. absurd (not_clean c.args.config.now c.args.start c.args.end c.args.entries.now c.loop-place.place c.in-Some.rule (returns-in-Some-clause-fault c) clean))

pub loop-place-preserved : goal.loop-place-preserved
loop-place-preserved c =
    let kept = c.loop-place.invariant in
    let before = take c.loop-place.place c.args.entries.now in
    let none = sym (c.lowest.ensures.lowest before kept.passed) ∙ c.in_default.is in
    let within = c.loop-place-test.true in
    record {
      config = c.pass.ensures.config ∙ kept.config;
      start = c.pass.ensures.start ∙ kept.start;
      clean = clean_more c.args.config.now c.args.start c.args.end c.args.entries.now c.loop-place.place _ within kept.clean (none_broken _ (rw (kept.config, kept.start) at none));
      passed = passed_more c.pass.new.self c.args.entries.now c.loop-place.place _ within (c.pass.ensures.passed before kept.passed);
    }

pub returns-then-ends_late-clause-fault : goal.returns-then-ends_late-clause-fault
returns-then-ends_late-clause-fault c =
    let kept = c.loop-place.invariant in
    let all : c.loop-place.place ≡ length c.args.entries.now = omega arith in
    let whole : take c.loop-place.place c.args.entries.now ≡ c.args.entries.now = take_all _ _ (omega arith) in
    let told = rw (kept.config, kept.start) at (c.ends_late.ensures c.args.entries.now (rw whole at kept.passed)) in
    first_at_end c.args.config.now c.args.start c.args.end c.args.entries.now (rw all at kept.clean) (sym c.if-ends_late.true ∙ told)

pub returns-then-ends_late-clause-none : goal.returns-then-ends_late-clause-none
returns-then-ends_late-clause-none c =
    (λ no. cc, λ clean. absurd (not_clean c.args.config.now c.args.start c.args.end c.args.entries.now (length c.args.entries.now) rule.RefLate (returns-then-ends_late-clause-fault c) clean))

pub returns-clause-none : goal.returns-clause-none
returns-clause-none c =
    let kept = c.loop-place.invariant in
    let all : c.loop-place.place ≡ length c.args.entries.now = omega arith in
    let whole : take c.loop-place.place c.args.entries.now ≡ c.args.entries.now = take_all _ _ (omega arith) in
    let told = rw (kept.config, kept.start) at (c.ends_late.ensures c.args.entries.now (rw whole at kept.passed)) in
    (λ _. clean_all c.args.config.now c.args.start c.args.end c.args.entries.now (rw all at kept.clean) (sym c.if-ends_late.false ∙ told), λ _. refl)

-- a trace with no fault is legal, so its bursts keep apart
pub returns-clause-bus : goal.returns-clause-bus
returns-clause-bus c =
    bus_kept c.args.config.now c.args.start c.args.end c.args.entries.now ((returns-clause-none c).0 refl).0
