-- The banks so far are raised, and all others are as they were.
use Rattle.std.proofs.Common.{◌≡◌, ◌+◌, ◌*◌, ◌<◌, ◌≤◌, ℕ, length, slice_index_or}
use Rattle.ddr_timing.specs.declared.units.TheConstants.{GROUP_BANKS}
use Rattle.ddr_rank.specs.Ready.{free, raised}
use Rattle.ddr_rank.proofs.ready.raise_group.Given as goal

abbrev pub invariant-loop-bank : goal.invariant-loop-bank
invariant-loop-bank l = record {
  size : length l.banks ≡ length l.initial.banks;
  done : (k : ℕ) → l.group * GROUP_BANKS ≤ k → k < l.group * GROUP_BANKS + l.bank → slice_index_or l.banks k free ≡ raised (record free { activate = l.to }) (slice_index_or l.initial.banks k free);
  below : (k : ℕ) → k < l.group * GROUP_BANKS → slice_index_or l.banks k free ≡ slice_index_or l.initial.banks k free;
  above : (k : ℕ) → l.group * GROUP_BANKS + l.bank ≤ k → slice_index_or l.banks k free ≡ slice_index_or l.initial.banks k free;
}
