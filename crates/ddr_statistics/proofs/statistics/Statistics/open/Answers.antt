-- No command has come.
use Rattle.std.proofs.Common.{ap, refl, replicate}
use Rattle.ddr_timing.specs.declared.units.TheConstants.{MOST_RANKS}
use Rattle.ddr_statistics.specs.declared.background.Background.{Background}
use Rattle.ddr_statistics.proofs.StandLemmas.{stands_new}
use Rattle.ddr_statistics.proofs.statistics.Statistics.open.Goals as goal

pub returns-clause-stands : goal.returns-clause-stands
returns-clause-stands c = stands_new _ refl refl refl (ap (λ (b : Background). replicate MOST_RANKS b) c.open.ensures) refl
