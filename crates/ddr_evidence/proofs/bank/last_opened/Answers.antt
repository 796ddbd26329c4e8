-- Behind what is left no entry opens the bank; the newest entry of what is left decides it, or is passed.
use Rattle.std.proofs.Common.{sym, ◌∙◌}
use Rattle.ddr_trace.specs.Commands.{is_activate, is_precharge, is_same_bank}
use Rattle.ddr_evidence.specs.Recent.{decides}
use Rattle.ddr_evidence.proofs.BackLemmas.{act_opens, bank_here, idle_before, idle_whole, none_before, none_behind, none_whole, not_activate, not_decided}
use Rattle.ddr_evidence.proofs.PlaceLemmas.{get_here, split_next, split_whole}
use Rattle.ddr_evidence.proofs.bank.last_opened.Goals as goal

pub loop-last-init : goal.loop-last-init
loop-last-init c = record {
  split = split_whole c.args.history.now;
  passed = none_whole (decides c.args.command.now) c.args.history.now;
  idle = idle_whole c.args.command.now c.args.history.now;
}

pub loop-last-preserved : goal.loop-last-preserved
loop-last-preserved c =
    let now = c.loop-last.invariant in
    let last = c.in-Some.last.now in
    let past = not_decided (is_activate last.command) (is_precharge last.command) (is_same_bank last.command c.args.command.now) (sym c.if-decides.ensures) in
    record {
      split = split_next c.args.history.now c.loop-last.earlier.now c.in-Some.before.now last now.split c.in-Some.ensures.cases.0;
      passed = none_before (decides c.args.command.now) c.args.history.now c.loop-last.earlier.now c.in-Some.before.now last now.split c.in-Some.ensures.cases.0 (sym c.if-decides.ensures) now.passed;
      idle = idle_before c.args.command.now c.args.history.now c.loop-last.earlier.now c.in-Some.before.now last now.split c.in-Some.ensures.cases.0 past now.idle;
    }

pub returns-then-is_activate-clause-starts : goal.returns-then-is_activate-clause-starts
returns-then-is_activate-clause-starts c =
    let last = c.in-Some.last.now in
    let opened = act_opens (is_activate last.command) (is_precharge last.command) (is_same_bank last.command c.args.command.now) (sym c.if-is_activate.ensures) (sym c.if-decides.ensures) in
    (last, get_here c.args.history.now c.loop-last.earlier.now c.in-Some.before.now last c.loop-last.invariant.split c.in-Some.ensures.cases.0, opened)

pub returns-then-is_activate-clause-last : goal.returns-then-is_activate-clause-last
returns-then-is_activate-clause-last c =
    none_behind (decides c.args.command.now) c.args.history.now c.loop-last.earlier.now c.in-Some.before.now c.in-Some.last.now c.in-Some.ensures.cases.0 c.loop-last.invariant.passed

pub returns-then-is_activate-clause-same : goal.returns-then-is_activate-clause-same
returns-then-is_activate-clause-same c =
    bank_here c.args.command.now c.args.history.now c.loop-last.earlier.now c.in-Some.before.now c.in-Some.last.now c.loop-last.invariant.split c.in-Some.ensures.cases.0 (sym c.if-decides.ensures)

pub returns-then-decides-clause-idle : goal.returns-then-decides-clause-idle
returns-then-decides-clause-idle c =
    let now = c.loop-last.invariant in
    let last = c.in-Some.last.now in
    let past = not_activate (is_activate last.command) (is_same_bank last.command c.args.command.now) (sym c.if-is_activate.ensures) in
    sym (bank_here c.args.command.now c.args.history.now c.loop-last.earlier.now c.in-Some.before.now last now.split c.in-Some.ensures.cases.0 (sym c.if-decides.ensures))
    ∙ idle_before c.args.command.now c.args.history.now c.loop-last.earlier.now c.in-Some.before.now last now.split c.in-Some.ensures.cases.0 past now.idle
