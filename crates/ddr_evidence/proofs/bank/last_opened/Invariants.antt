use Rattle.std.proofs.Common.{◌≡◌, None, drop, false, length}
use Rattle.std.specs.List.{All}
use Rattle.ddr_trace.specs.declared.command.Entry.{Entry}
use Rattle.ddr_trace.specs.Banks.{bank_behind}
use Rattle.ddr_evidence.specs.Recent.{decides}
use Rattle.ddr_evidence.proofs.PlaceLemmas.{IsSplit}
use Rattle.ddr_evidence.proofs.bank.last_opened.Given as goal

abbrev pub invariant-loop-last : goal.invariant-loop-last
invariant-loop-last l = record {
  split : IsSplit l.history l.earlier;
  passed : All (λ (a : Entry). decides l.command a ≡ false) (drop (length l.earlier) l.history);
  idle : bank_behind l.command (drop (length l.earlier) l.history) ≡ None;
}

abbrev pub decreases-loop-last : goal.decreases-loop-last
decreases-loop-last l = length l.earlier
