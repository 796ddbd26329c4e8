-- What contracts see of the stalled clocks of a channel.
use Rattle.std.specs.Prelude.{◌≡◌}
use Rattle.ddr_legality.specs.OnePass.{HasPassed, config_of, start_of}
use Rattle.ddr_ledger.specs.declared.stalls.Stalls.TheInside.{Inside}
use Rattle.ddr_ledger.specs.Stalls.{Stalled}

abbrev pub stalled_of : Inside → Stalled
stalled_of a = record { config = config_of a.checker; past = a.past.items; busy = a.busy; waiting = a.waiting; causes = a.causes }

-- the checker has passed the channel's commands, from cycle 0 on
pub record IsSound (a : Inside) : Type 0 where
  pub passed : HasPassed a.checker a.past.items
  pub start : start_of a.checker ≡ 0
  pub cap : (config_of a.checker).limits.cap ≡ a.cap
