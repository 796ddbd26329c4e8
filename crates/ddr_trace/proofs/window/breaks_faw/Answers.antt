-- The newest ACTs of the rank are counted down to the one to measure from.
use Rattle.std.proofs.Common.{◌≡◌, ◌+◌, ◌-◌, arith, ◌∙◌}
use Rattle.ddr_trace.proofs.WindowLemmas.{no_faw, faw_here, faw_next, faw_skip}
use Rattle.ddr_trace.proofs.window.breaks_faw.Goals as goal

pub returns-then-not-is_activate : goal.returns-then-not-is_activate
returns-then-not-is_activate c =
    no_faw c.args.timing.now c.args.history.now c.args.entry.now c.if-not-is_activate.ensures

pub returns-then-between-eq3 : goal.returns-then-between-eq3
returns-then-between-eq3 c =
    let none : 3 - c.loop-last.between ≡ 0 = omega arith in
    c.is_within.ensures
    ∙ faw_here c.args.timing.now c.args.entry.now (3 - c.loop-last.between) c.args.history.now c.loop-last.earlier.now c.in-Some.before.now c.in-Some.last.now c.loop-last.invariant.so_far c.in-Some.ensures.cases.0 none c.if-not-is_activate.ensures c.if-is_activate_of_rank.ensures

pub loop-last-preserved-else-between-eq3 : goal.loop-last-preserved-else-between-eq3
loop-last-preserved-else-between-eq3 c =
    let more : 3 - c.loop-last.between ≡ 3 - (c.loop-last.between + 1) + 1 = omega arith in
    record {
      few = omega arith;
      so_far = faw_next c.args.timing.now c.args.entry.now (3 - c.loop-last.between) (3 - (c.loop-last.between + 1)) c.args.history.now c.loop-last.earlier.now c.in-Some.before.now c.in-Some.last.now c.loop-last.invariant.so_far c.in-Some.ensures.cases.0 more c.if-is_activate_of_rank.ensures;
    }

pub loop-last-preserved : goal.loop-last-preserved
loop-last-preserved c =
    record {
      few = omega arith;
      so_far = faw_skip c.args.timing.now c.args.entry.now (3 - c.loop-last.between) c.args.history.now c.loop-last.earlier.now c.in-Some.before.now c.in-Some.last.now c.loop-last.invariant.so_far c.in-Some.ensures.cases.0 c.if-is_activate_of_rank.ensures;
    }
