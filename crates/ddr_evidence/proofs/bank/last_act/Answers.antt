-- The newest entry of what is left is such an ACT, or is passed.
use Rattle.std.proofs.Common.{sym}
use Rattle.ddr_evidence.specs.Recent.{opens}
use Rattle.ddr_evidence.proofs.BackLemmas.{none_before, none_behind, none_whole}
use Rattle.ddr_evidence.proofs.PlaceLemmas.{get_here, split_next, split_whole}
use Rattle.ddr_evidence.proofs.bank.last_act.Goals as goal

pub loop-last-init : goal.loop-last-init
loop-last-init c = record {
  split = split_whole c.args.history.now;
  none = none_whole (opens c.args.command.now) c.args.history.now;
}

pub loop-last-preserved : goal.loop-last-preserved
loop-last-preserved c =
    let now = c.loop-last.invariant in
    let history = c.args.history.now in
    record {
      split = split_next history c.loop-last.earlier.now c.in-Some.before.now c.in-Some.last.now now.split c.in-Some.ensures.cases.0;
      none = none_before (opens c.args.command.now) history c.loop-last.earlier.now c.in-Some.before.now c.in-Some.last.now now.split c.in-Some.ensures.cases.0 (sym c.if-opens.ensures) now.none;
    }

pub returns-then-opens-clause-starts : goal.returns-then-opens-clause-starts
returns-then-opens-clause-starts c =
    (c.in-Some.last.now, get_here c.args.history.now c.loop-last.earlier.now c.in-Some.before.now c.in-Some.last.now c.loop-last.invariant.split c.in-Some.ensures.cases.0, sym c.if-opens.ensures)

pub returns-then-opens-clause-last : goal.returns-then-opens-clause-last
returns-then-opens-clause-last c =
    none_behind (opens c.args.command.now) c.args.history.now c.loop-last.earlier.now c.in-Some.before.now c.in-Some.last.now c.in-Some.ensures.cases.0 c.loop-last.invariant.none
