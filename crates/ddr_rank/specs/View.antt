-- What a rank's fields stand for.
use Rattle.std.specs.Prelude.{◌≡◌, ◌*◌, length}
use Rattle.ddr_timing.specs.declared.units.TheConstants.{GROUP_BANKS}
use Rattle.ddr_rank.specs.declared.rank.Rank.TheInside.{Inside}
use Rattle.ddr_rank.specs.First.{behind}
use Rattle.ddr_rank.specs.Parts.{ready_of}
use Rattle.ddr_rank.specs.Readiness.{IsWhole, Readiness, fourth_activate}

abbrev pub readiness_of : Inside → Readiness
readiness_of a = record {
  config = a.config;
  banks = a.banks.items;
  groups = a.groups.items;
  refresh = a.refresh;
  activates = a.activates.items;
  ready = ready_of a.first_cycles;
  ready_all = a.first_cycles.all;
}

pub record IsSound (a : Inside) : Type 0 where
  pub whole : IsWhole (readiness_of a)
  pub first_cycles : length a.first_cycles.banks.items ≡ a.config.geometry.groups * GROUP_BANKS
  -- the window has room for four ACTs
  pub four : a.activates.capacity ≡ 4
  pub window : a.window ≡ behind a.config.timing.faw (fourth_activate (readiness_of a))
