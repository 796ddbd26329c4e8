-- What the fields of the statistics stand for.
use Rattle.ddr_statistics.specs.declared.statistics.Statistics.TheInside.{Inside}
use Rattle.ddr_statistics.specs.Tally.{Tally}

abbrev pub tally_of : Inside → Tally
tally_of a = record { geometry = a.geometry; timing = a.timing; start = a.start; total = a.total; ranks = a.ranks; debts = a.debts; backgrounds = a.backgrounds; turns = a.turns }
