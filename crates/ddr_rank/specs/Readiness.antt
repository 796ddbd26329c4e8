-- What contracts see of a rank: the cycles that a later command is measured from.
use Rattle.std.specs.Prelude.{◌≡◌, ℕ, ◌+◌, ◌*◌, List, length, Option, None, slice_get, slice_index_or, ◌==◌, if◌then◌else◌}
use Rattle.ddr_timing.specs.declared.config.Config.{Config}
use Rattle.ddr_timing.specs.declared.units.TheConstants.{GROUP_BANKS}
use Rattle.ddr_rank.specs.declared.bank.Bank.{Bank}
use Rattle.ddr_rank.specs.declared.last.LastKind.{LastKind}
use Rattle.ddr_rank.specs.declared.last.LastKind.TheVariants.{Activate, Read, Write}
use Rattle.ddr_rank.specs.declared.last.Last.{Last}
use Rattle.ddr_rank.specs.declared.ready.Ready.{Ready}
use Rattle.ddr_rank.specs.declared.ready.ReadyAll.{ReadyAll}
use Rattle.ddr_rank.specs.Ready.{free}

pub record Readiness : Type 0 where
  pub config : Config
  -- bank b of group g stands at g * GROUP_BANKS + b
  pub banks : List Bank
  -- of each group, the cycles of its last commands
  pub groups : List Last
  -- the cycle of the last REF
  pub refresh : Option ℕ
  -- the cycles of the last four ACTs, the oldest first
  pub activates : List ℕ
  -- of each bank, the first cycles of its next commands
  pub ready : List Ready
  -- those of the next PREA and REF
  pub ready_all : ReadyAll

-- before the first command
abbrev pub never : Last
never = record { activate = None; read = None; write = None }

abbrev pub idle : Bank
idle = record { opened = None; precharge = None; last = never }

abbrev pub last_of : LastKind → Last → Option ℕ
last_of Activate last = last.activate
last_of Read last = last.read
last_of Write last = last.write

abbrev pub bank_at : Readiness → ℕ → ℕ → Bank
bank_at r group bank = slice_index_or r.banks (group * GROUP_BANKS + bank) idle

abbrev pub group_at : Readiness → ℕ → Last
group_at r group = slice_index_or r.groups group never

abbrev pub ready_at : Readiness → ℕ → ℕ → Ready
ready_at r group bank = slice_index_or r.ready (group * GROUP_BANKS + bank) free

-- the cycle of the fourth ACT before the next one
abbrev pub fourth_activate : Readiness → Option ℕ
fourth_activate r = if length r.activates == 4 then slice_get r.activates 0 else None

-- there are as many banks and groups as the geometry has
pub record IsWhole (r : Readiness) : Type 0 where
  pub banks : length r.banks ≡ r.config.geometry.groups * GROUP_BANKS
  pub groups : length r.groups ≡ r.config.geometry.groups
  pub ready : length r.ready ≡ r.config.geometry.groups * GROUP_BANKS
