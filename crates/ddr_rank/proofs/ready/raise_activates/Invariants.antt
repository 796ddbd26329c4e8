-- The groups so far are raised, and those behind are as they were.
use Rattle.std.proofs.Common.{◌≡◌, ◌<◌, ◌≤◌, ◌/◌, ◌==◌, if◌then◌else◌, ℕ, length, slice_index_or}
use Rattle.ddr_timing.specs.declared.units.TheConstants.{GROUP_BANKS}
use Rattle.ddr_rank.specs.Ready.{free, raised}
use Rattle.ddr_rank.proofs.ready.raise_activates.Given as goal

abbrev pub invariant-loop-other : goal.invariant-loop-other
invariant-loop-other l = record {
  size : length l.banks ≡ length l.initial.banks;
  done : (k : ℕ) → k / GROUP_BANKS < l.other → slice_index_or l.banks k free ≡ raised (record free { activate = if l.group == k / GROUP_BANKS then l.own else l.others }) (slice_index_or l.initial.banks k free);
  left : (k : ℕ) → l.other ≤ k / GROUP_BANKS → slice_index_or l.banks k free ≡ slice_index_or l.initial.banks k free;
}
