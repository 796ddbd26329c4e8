use Rattle.std.proofs.Common.{◌≡◌, None, take}
use Rattle.std.specs.Prelude.{IfNone}
use Rattle.ddr_trace.specs.Banks.{bank_behind}
use Rattle.ddr_evidence.specs.Places.{changes_at}
use Rattle.ddr_evidence.proofs.PlaceLemmas.{IsLastBelow}
use Rattle.ddr_evidence.proofs.bank.walk.Given as goal

abbrev pub invariant-loop-place : goal.invariant-loop-place
invariant-loop-place l = record {
  bank : l.seen.bank ≡ bank_behind l.command (take l.place l.history);
  changed : IsLastBelow (changes_at l.command l.history) l.place l.seen.changed;
  idle : IfNone l.seen.changed (l.seen.bank ≡ None);
}
