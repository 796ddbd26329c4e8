use Rattle.std.proofs.Common.{ap, ◌∙◌}
use Rattle.ddr_statistics.specs.Stands.{owed}
use Rattle.ddr_statistics.specs.Tally.{Tally}
use Rattle.ddr_statistics.specs.View.{tally_of}
use Rattle.ddr_statistics.proofs.StandLemmas.{owed_is}
use Rattle.ddr_statistics.proofs.statistics.Statistics.owe.Goals as goal

pub returns : goal.returns
returns c =
    owed_is (tally_of c.self.inside) c.args.entry.now c.rank.result _ c.rank.ensures c.note.ensures
    ∙ ap (λ (t : Tally). owed c.args.entry.now t) c.self.view_is
