use Rattle.std.proofs.Common.{◌≡◌, ◌<◌, length, arith, sym, subst}
use Rattle.ddr_trace.specs.Commands.{rank_of}
use Rattle.ddr_statistics.specs.Noted.{found_in}
use Rattle.ddr_statistics.specs.Stands.{StandsFor, rank_at}
use Rattle.ddr_statistics.specs.Tally.{Tally}
use Rattle.ddr_statistics.specs.View.{tally_of}
use Rattle.ddr_trace.proofs.PlaceLemmas.{bank_in}
use Rattle.ddr_statistics.proofs.PlaceLemmas.{group_fits_in, rank_in}
use Rattle.ddr_statistics.proofs.StandLemmas.{finding_kept, finding_told}
use Rattle.ddr_statistics.proofs.statistics.Statistics.finding.Goals as goal

pub returns-clause-kept : goal.returns-clause-kept
returns-clause-kept c =
    let a = tally_of c.self.inside in
    let command = c.args.command.now in
    let below = rank_in c.args.self.now.geometry command c.requires in
    let within : c.rank.result < length a.ranks = omega (arith, below, c.rank.ensures) in
    subst (λ (t : Tally). c.finding.result ≡ found_in (rank_at t (rank_of command)) command) c.self.view_is
    (finding_kept a command c.rank.result c.finding.result _ c.rank.ensures within c.finding.ensures)

pub returns-clause-counted : goal.returns-clause-counted
returns-clause-counted c = λ history stands.
    let g = c.args.self.now.geometry in
    let command = c.args.command.now in
    finding_told (tally_of c.self.inside) history command _ _ _ c.rank.ensures c.finding.ensures
    (subst (λ (t : Tally). StandsFor t history) (sym c.self.view_is) stands)
    (rank_in g command c.requires) (group_fits_in g command c.requires) (bank_in g command c.requires)
