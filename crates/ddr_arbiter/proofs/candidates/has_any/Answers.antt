-- One more place, of a candidate or not.
use Rattle.std.proofs.Common.{sym, ap, ◌∙◌, arith}
use Rattle.std.specs.List.{list_any, range_with_len}
use Rattle.ddr_arbiter.specs.CandidateSet.{is_candidate}
use Rattle.ddr_arbiter.proofs.PlaceLemmas.{any_here, any_none_more}
use Rattle.ddr_arbiter.proofs.candidates.has_any.Goals as goal

pub returns-then-is_candidate : goal.returns-then-is_candidate
returns-then-is_candidate c =
    sym (any_here (is_candidate c.args.candidates.now c.args.pending.now.waiting) c.args.candidates.now.count c.loop-place.place
    (omega (arith, c.loop-place-test.true)) (sym c.if-is_candidate.ensures))

pub loop-place-preserved : goal.loop-place-preserved
loop-place-preserved c =
    any_none_more (is_candidate c.args.candidates.now c.args.pending.now.waiting) c.loop-place.place c.loop-place.invariant (sym c.if-is_candidate.ensures)

pub returns : goal.returns
returns c =
    sym (ap (λ n. list_any (is_candidate c.args.candidates.now c.args.pending.now.waiting) (range_with_len 0 n))
    (omega (arith, c.loop-place-test.false, c.loop-place.auto.place-end)) ∙ c.loop-place.invariant)
