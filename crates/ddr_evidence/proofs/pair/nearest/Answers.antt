-- Behind what is left nothing breaks the rule, and what counts there is counted.
use Rattle.std.proofs.Common.{length, sym, ap, arith, ◌∙◌}
use Rattle.ddr_evidence.specs.Places.{are_breaking, counts}
use Rattle.ddr_evidence.proofs.PlaceLemmas.{breaks_here, breaks_past, counted_more, counted_none, counted_same, get_here, left_length, none_next, split_next, split_whole}
use Rattle.ddr_evidence.proofs.pair.nearest.Goals as goal

pub loop-last-init : goal.loop-last-init
loop-last-init c = record {
  split = split_whole c.args.history.now;
  few = omega arith;
  counted = counted_none _ c.args.history.now;
  none = breaks_past c.args.timing.now c.args.rule c.args.history.now c.args.entry.now;
}

pub returns-then-are_breaking : goal.returns-then-are_breaking
returns-then-are_breaking c =
    let now = c.loop-last.invariant in
    let long = left_length c.loop-last.earlier.now c.in-Some.before.now c.in-Some.last.now c.in-Some.ensures.cases.0 in
    let here = breaks_here c.args.timing.now c.args.rule c.args.history.now c.args.entry.now c.loop-last.earlier.now c.in-Some.before.now c.in-Some.last.now now.split c.in-Some.ensures.cases.0 in (
      record {
        passes = here ∙ ap (are_breaking c.args.timing.now c.args.rule c.args.entry.now c.in-Some.last.now) (sym now.counted) ∙ sym c.if-are_breaking.ensures;
        last = λ later above. now.none later (omega (arith, long, above));
      },
      get_here c.args.history.now c.loop-last.earlier.now c.in-Some.before.now c.in-Some.last.now now.split c.in-Some.ensures.cases.0,
    )

pub loop-last-preserved-then-counts : goal.loop-last-preserved-then-counts
loop-last-preserved-then-counts c =
    let now = c.loop-last.invariant in
    let long = left_length c.loop-last.earlier.now c.in-Some.before.now c.in-Some.last.now c.in-Some.ensures.cases.0 in
    let here = breaks_here c.args.timing.now c.args.rule c.args.history.now c.args.entry.now c.loop-last.earlier.now c.in-Some.before.now c.in-Some.last.now now.split c.in-Some.ensures.cases.0 in
    let no = here ∙ ap (are_breaking c.args.timing.now c.args.rule c.args.entry.now c.in-Some.last.now) (sym now.counted) ∙ sym c.if-are_breaking.ensures in
    record {
      split = split_next c.args.history.now c.loop-last.earlier.now c.in-Some.before.now c.in-Some.last.now now.split c.in-Some.ensures.cases.0;
      few = let few = now.few in omega (arith, long, few);
      counted = counted_more (counts c.args.rule c.args.entry.now) c.args.history.now c.loop-last.earlier.now c.in-Some.before.now c.in-Some.last.now c.loop-last.between now.split c.in-Some.ensures.cases.0 now.counted c.if-counts.ensures;
      none = none_next _ (length c.in-Some.before.now) (length c.loop-last.earlier.now) long now.none no;
    }

pub loop-last-preserved : goal.loop-last-preserved
loop-last-preserved c =
    let now = c.loop-last.invariant in
    let long = left_length c.loop-last.earlier.now c.in-Some.before.now c.in-Some.last.now c.in-Some.ensures.cases.0 in
    let here = breaks_here c.args.timing.now c.args.rule c.args.history.now c.args.entry.now c.loop-last.earlier.now c.in-Some.before.now c.in-Some.last.now now.split c.in-Some.ensures.cases.0 in
    let no = here ∙ ap (are_breaking c.args.timing.now c.args.rule c.args.entry.now c.in-Some.last.now) (sym now.counted) ∙ sym c.if-are_breaking.ensures in
    record {
      split = split_next c.args.history.now c.loop-last.earlier.now c.in-Some.before.now c.in-Some.last.now now.split c.in-Some.ensures.cases.0;
      few = let few = now.few in omega (arith, long, few);
      counted = counted_same (counts c.args.rule c.args.entry.now) c.args.history.now c.loop-last.earlier.now c.in-Some.before.now c.in-Some.last.now c.loop-last.between now.split c.in-Some.ensures.cases.0 now.counted c.if-counts.ensures;
      none = none_next _ (length c.in-Some.before.now) (length c.loop-last.earlier.now) long now.none no;
    }
