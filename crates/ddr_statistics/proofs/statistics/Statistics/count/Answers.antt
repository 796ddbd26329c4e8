use Rattle.std.proofs.Common.{◌<◌, length, ap, arith, ◌∙◌}
use Rattle.ddr_statistics.specs.Stands.{counted}
use Rattle.ddr_statistics.specs.Tally.{Tally}
use Rattle.ddr_statistics.specs.View.{tally_of}
use Rattle.ddr_statistics.proofs.PlaceLemmas.{rank_in}
use Rattle.ddr_statistics.proofs.StandLemmas.{counted_is}
use Rattle.ddr_statistics.proofs.statistics.Statistics.count.Goals as goal

pub returns : goal.returns
returns c =
    let a = tally_of c.self.inside in
    let below = rank_in c.args.self.now.geometry c.args.command.now c.requires in
    let within : c.rank.result < length a.ranks = omega (arith, below, c.rank.ensures) in
    counted_is a c.args.command.now c.rank.result c.args.found _ _ _ _ c.rank.ensures within c.note.ensures c.note-2.ensures c.note-3.ensures
    ∙ ap (λ (t : Tally). counted c.args.command.now c.args.found t) c.self.view_is
