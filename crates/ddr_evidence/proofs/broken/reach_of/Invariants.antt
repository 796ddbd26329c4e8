use Rattle.std.proofs.Common.{◌≡◌, ℕ, ◌+◌, ◌<◌, ◌≤◌, length, take, vec_capacity}
use Rattle.std.specs.List.{All, slice_index_or}
use Rattle.ddr_trace.specs.declared.command.Entry.{Entry}
use Rattle.ddr_evidence.specs.Recent.{greatest_cycle}
use Rattle.ddr_evidence.proofs.broken.reach_of.Given as goal

abbrev pub invariant-loop-entry : goal.invariant-loop-entry
invariant-loop-entry l = record {
  room : length l.entries ≤ vec_capacity l.reach;
  long : length l.reach.items ≡ l.entry-index;
  greatest : All (λ (a : Entry). a.cycle ≤ l.greatest) (take l.entry-index l.entries);
  most : l.greatest ≡ greatest_cycle (take l.entry-index l.entries);
  each : (place : ℕ) → place < l.entry-index → slice_index_or l.reach.items place 0 ≡ greatest_cycle (take (place + 1) l.entries);
  above : (place : ℕ) → place < l.entry-index → All (λ (a : Entry). a.cycle ≤ slice_index_or l.reach.items place 0) (take (place + 1) l.entries);
}
