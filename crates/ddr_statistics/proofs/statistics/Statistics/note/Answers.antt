use Rattle.std.proofs.Common.{Option, ap, ◌∙◌}
use Rattle.ddr_statistics.specs.declared.counts.Finding.{Finding}
use Rattle.ddr_statistics.specs.Stands.{clocked, counted, owed}
use Rattle.ddr_statistics.specs.Tally.{Tally}
use Rattle.ddr_trace.proofs.PlaceLemmas.{bank_in}
use Rattle.ddr_statistics.proofs.PlaceLemmas.{group_fits_in, rank_in}
use Rattle.ddr_statistics.proofs.StandLemmas.{stands_after}
use Rattle.ddr_statistics.proofs.statistics.Statistics.note.Goals as goal

pub returns-clause-noted : goal.returns-clause-noted
returns-clause-noted c =
    let e = c.args.entry.now in
    c.clock.ensures
    ∙ ap (λ (t : Tally). clocked e t) (c.owe.ensures
    ∙ ap (λ (t : Tally). owed e t) (c.count.ensures ∙ ap (λ (found : Option Finding). counted e.command found c.args.self.now) c.finding-found.ensures.kept))

pub returns-clause-stands : goal.returns-clause-stands
returns-clause-stands c = λ history stands short.
    let g = c.args.self.now.geometry in
    let e = c.args.entry.now in
    stands_after c.args.self.now c.clock.new.self history e c.finding-found.result
    (c.clock.ensures ∙ ap (λ (t : Tally). clocked e t) (c.owe.ensures ∙ ap (λ (t : Tally). owed e t) c.count.ensures))
    (c.finding-found.ensures.counted history stands) stands short
    (rank_in g e.command c.requires) (group_fits_in g e.command c.requires) (bank_in g e.command c.requires)
