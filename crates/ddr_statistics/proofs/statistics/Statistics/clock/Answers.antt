use Rattle.std.proofs.Common.{◌<◌, length, ap, arith, ◌∙◌}
use Rattle.ddr_statistics.specs.Stands.{clocked}
use Rattle.ddr_statistics.specs.Tally.{Tally}
use Rattle.ddr_statistics.specs.View.{tally_of}
use Rattle.ddr_trace.proofs.PlaceLemmas.{bank_in}
use Rattle.ddr_statistics.proofs.PlaceLemmas.{group_fits_in, rank_in}
use Rattle.ddr_statistics.proofs.StandLemmas.{clocked_is}
use Rattle.ddr_statistics.proofs.statistics.Statistics.clock.Goals as goal

pub returns : goal.returns
returns c =
    let a = tally_of c.self.inside in
    let e = c.args.entry.now in
    let below = rank_in c.args.self.now.geometry e.command c.requires in
    let within : c.rank.result < length a.backgrounds = omega (arith, below, c.rank.ensures) in
    clocked_is a e c.rank.result _ _ c.rank.ensures within c.note.ensures
    ∙ ap (λ (t : Tally). clocked e t) c.self.view_is

pub note-requires-clause-group_in : goal.note-requires-clause-group_in
note-requires-clause-group_in c = group_fits_in c.args.self.now.geometry c.args.entry.now.command c.requires

pub note-requires-clause-bank_in : goal.note-requires-clause-bank_in
note-requires-clause-bank_in c = bank_in c.args.self.now.geometry c.args.entry.now.command c.requires
