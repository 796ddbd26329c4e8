-- What a rank stands for: a rank number, and a list of commands of which those of this rank were issued to it.
use Rattle.std.specs.Prelude.{◌≡◌, ℕ, ◌<◌, true, Bool, ◌&&◌, List, map, filter, Option}
use Rattle.std.specs.List.{AllByRecursion}
use Rattle.circular_buffer.specs.Buffer.{keep_last}
use Rattle.ddr_timing.specs.declared.config.Config.{Config}
use Rattle.ddr_timing.specs.declared.units.TheConstants.{GROUP_BANKS}
use Rattle.ddr_trace.specs.declared.command.Command.{Command}
use Rattle.ddr_trace.specs.declared.command.Command.TheVariants.{Pre, Refresh}
use Rattle.ddr_trace.specs.declared.command.Entry.{Entry}
use Rattle.ddr_trace.specs.declared.rule.Rule.{Rule}
use Rattle.ddr_trace.specs.Commands.{is_activate, is_precharge, is_read, is_refresh, is_same_bank, is_same_group, is_same_rank, is_write}
use Rattle.ddr_trace.specs.Banks.{bank_behind}
use Rattle.ddr_trace.specs.Rules.{breaks_on_rank, is_in, last_cycle_below}
use Rattle.ddr_trace.specs.Legality.{lowest_rule}
use Rattle.ddr_rank.specs.declared.bank.Bank.{Bank}
use Rattle.ddr_rank.specs.declared.last.Last.{Last}
use Rattle.ddr_rank.specs.Latest.{latest}
use Rattle.ddr_rank.specs.Readiness.{IsWhole, Readiness, bank_at, group_at, ready_at}
use Rattle.ddr_rank.specs.Ready.{KeepsReady, KeepsReadyAll}

-- the lowest of the rules on a rank that the entry breaks after its history
abbrev pub lowest_on_rank : Config → List Entry → Entry → Option Rule
lowest_on_rank c history e = lowest_rule (λ r. breaks_on_rank c r history e)

-- the cycle is above that of every command issued
abbrev pub IsAfter : List Entry → ℕ → Type 0
IsAfter history cycle = last_cycle_below history cycle ≡ true

-- the command is of the bank, of the group, of the rank
abbrev pub is_of_bank : ℕ → ℕ → ℕ → Command → Bool
is_of_bank rank group bank command = is_same_bank command (Pre rank group bank)

abbrev pub is_of_group : ℕ → ℕ → Command → Bool
is_of_group rank group command = is_same_group command (Pre rank group 0)

abbrev pub is_of_rank : ℕ → Command → Bool
is_of_rank rank command = is_same_rank command (Refresh rank)

-- the cycles are those of the last commands at a place
pub record KeepsLast (place : Command → Bool) (history : List Entry) (last : Last) : Type 0 where
  pub activate : last.activate ≡ latest (λ a. is_activate a && place a) history
  pub read : last.read ≡ latest (λ a. is_read a && place a) history
  pub write : last.write ≡ latest (λ a. is_write a && place a) history

pub record KeepsBank (rank group bank : ℕ) (history : List Entry) (kept : Bank) : Type 0 where
  pub opened : kept.opened ≡ bank_behind (Pre rank group bank) history
  pub precharge : kept.precharge ≡ latest (λ a. is_precharge a && is_of_bank rank group bank a) history
  pub last : KeepsLast (is_of_bank rank group bank) history kept.last

-- the cycles of the rank's ACTs, in order
abbrev pub activates_of : ℕ → List Entry → List ℕ
activates_of rank history = map (λ e. e.cycle) (filter (λ e. is_activate e.command && is_of_rank rank e.command) history)

-- The list may hold commands of other ranks too: what is kept is told by those of this one.
pub record StandsFor (r : Readiness) (rank : ℕ) (history : List Entry) : Type 0 where
  -- the commands are of banks that there are, and the last one came last
  pub placed : AllByRecursion (λ e. is_in r.config.geometry e.command ≡ true) history
  pub ordered : (cycle : ℕ) → IsAfter history cycle → AllByRecursion (λ e. e.cycle < cycle) history
  pub whole : IsWhole r
  pub banks : (group bank : ℕ) → group < r.config.geometry.groups → bank < GROUP_BANKS → KeepsBank rank group bank history (bank_at r group bank)
  pub groups : (group : ℕ) → group < r.config.geometry.groups → KeepsLast (is_of_group rank group) history (group_at r group)
  pub refresh : r.refresh ≡ latest (λ a. is_refresh a && is_of_rank rank a) history
  pub activates : r.activates ≡ keep_last 4 (activates_of rank history)
  pub ready : (group bank : ℕ) → group < r.config.geometry.groups → bank < GROUP_BANKS → KeepsReady r.config.timing rank group bank history (ready_at r group bank)
  pub ready_all : KeepsReadyAll r.config.timing rank history r.ready_all
