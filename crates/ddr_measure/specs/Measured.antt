-- What is kept of requests that are noted one after another.
use Rattle.std.specs.Prelude.{◌≡◌}
use Rattle.ddr_measure.specs.Spreads.{spreads_of}
use Rattle.ddr_measure.specs.Usages.{usage_of}
use Rattle.ddr_measure.specs.declared.measured.Measured.TheInside.{Inside}

-- the numbers that are kept are those of the requests that were noted
pub record IsMeasured (a : Inside) : Type 0 where
  pub usage : a.usage ≡ usage_of a.past.items
  pub spreads : a.spreads.items ≡ spreads_of a.past.items
