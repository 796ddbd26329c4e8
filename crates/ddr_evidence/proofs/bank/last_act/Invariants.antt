use Rattle.std.proofs.Common.{◌≡◌, false, drop, length}
use Rattle.std.specs.List.{All}
use Rattle.ddr_trace.specs.declared.command.Entry.{Entry}
use Rattle.ddr_evidence.specs.Recent.{opens}
use Rattle.ddr_evidence.proofs.PlaceLemmas.{IsSplit}
use Rattle.ddr_evidence.proofs.bank.last_act.Given as goal

abbrev pub invariant-loop-last : goal.invariant-loop-last
invariant-loop-last l = record {
  split : IsSplit l.history l.earlier;
  none : All (λ (a : Entry). opens l.command a ≡ false) (drop (length l.earlier) l.history);
}

abbrev pub decreases-loop-last : goal.decreases-loop-last
decreases-loop-last l = length l.earlier
