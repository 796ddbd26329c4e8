-- How reads and writes found their banks, as the ports of a replay count them and as its channels do.
use Rattle.std.specs.Prelude.{◌≡◌, ℕ, ◌+◌}
use Rattle.ddr_timing.specs.declared.config.Config.{Config}
use Rattle.ddr_statistics.specs.declared.counts.Counts.{Counts}
use Rattle.ddr_ledger.specs.declared.rows.Rows.{Rows}
use Rattle.ddr_ledger.specs.Numbers.{numbers_of, together}
use Rattle.ddr_ledger.specs.Rows.{all_rows}
use Rattle.ddr_replay.specs.Runs.{Run}
use Rattle.ddr_replay_counts.specs.Sums.{stopping_sum}

-- By this sum of two numbers, the rows of ports and the counts of channels are of as many reads and writes.
pub record AreAlike (sum : ℕ → ℕ → ℕ) (rows : Rows) (counts : Counts) : Type 0 where
  -- of both kinds, those that found their banks so
  pub hits : sum rows.reads.hits rows.writes.hits ≡ counts.row_hits
  pub misses : sum rows.reads.misses rows.writes.misses ≡ counts.row_misses
  pub conflicts : sum rows.reads.conflicts rows.writes.conflicts ≡ counts.row_conflicts
  -- of one kind, those that found them in one of these ways: without auto-precharge or with it
  pub reads : sum (sum rows.reads.hits rows.reads.misses) rows.reads.conflicts ≡ sum counts.reads counts.reads_auto
  pub writes : sum (sum rows.writes.hits rows.writes.misses) rows.writes.conflicts ≡ sum counts.writes counts.writes_auto

-- the counts of all channels together
abbrev pub channels_counts : Config → Run → Counts
channels_counts config last = (together (numbers_of last.state config.geometry.channels)).counts

-- all ports together count what they do
abbrev pub CountsAgree : Config → Run → Type 0
CountsAgree config last = AreAlike stopping_sum (all_rows last.ledger.rows) (channels_counts config last)

-- and so by a sum that stops nowhere
abbrev pub CountsAddUp : Config → Run → Type 0
CountsAddUp config last = AreAlike ◌+◌ (all_rows last.ledger.rows) (channels_counts config last)
