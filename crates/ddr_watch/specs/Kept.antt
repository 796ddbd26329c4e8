-- The commands for which stands what is kept of a channel.
use Rattle.std.specs.Prelude.{◌≡◌, ◌≢◌, ◌≤◌, ◌+◌, ℕ, List, ◌++◌, length}
use Rattle.ddr_timing.specs.declared.config.Config.{Config}
use Rattle.ddr_trace.specs.declared.command.Entry.{Entry}
use Rattle.ddr_legality.specs.OnePass.{HasPassed, config_of, start_of}
use Rattle.ddr_watch.specs.declared.recent.Recent.{Recent}
use Rattle.ddr_watch.specs.declared.recent.TheConstants.{FEWEST_KEPT}
use Rattle.ddr_watch.specs.declared.watch.Watch.{Watch}

-- the entries that are kept are the last ones, all of them until there are so many
pub record AreLast (r : Recent) (history : List Entry) : Type 0 where
  pub before : List Entry
  pub whole : history ≡ before ++ r.entries.items
  pub many : length before ≡ r.first
  pub enough : r.first ≢ 0 → FEWEST_KEPT ≤ length r.entries.items

-- how many commands were counted
abbrev pub count_in : Recent → ℕ
count_in r = r.first + length r.entries.items

abbrev pub count_of : Watch → ℕ
count_of w = count_in w.recent

-- these commands of the channel were counted, in this order, and no others
pub record HasCounted (w : Watch) (c : Config) (start : ℕ) (history : List Entry) : Type 0 where
  pub config : w.config ≡ c
  pub begun : w.start ≡ start
  pub checked : config_of w.checker ≡ c
  pub since : start_of w.checker ≡ start
  pub passed : HasPassed w.checker history
  pub last : AreLast w.recent history
