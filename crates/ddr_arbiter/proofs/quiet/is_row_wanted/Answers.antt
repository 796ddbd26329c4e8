-- The candidate for the place wants the row itself.
use Rattle.std.proofs.Common.{sym, ap, ◌∙◌}
use Rattle.std.proofs.lemmas.Bool.{eq-eqb}
use Rattle.ddr_address_map.specs.declared.place.Place.{Place}
use Rattle.ddr_arbiter.specs.Choice.{is_row_open}
use Rattle.ddr_arbiter.proofs.KnownLemmas.{row_is}
use Rattle.ddr_arbiter.proofs.RowLemmas.{candidate_wants}
use Rattle.ddr_arbiter.proofs.quiet.is_row_wanted.Goals as goal

pub returns-then-row-at : goal.returns-then-row-at
returns-then-row-at c = λ b is.
    let at : Place = c.args.at in
    let there = c.requires.here in
    let same = there.3 in
    let opened = ap (is_row_open b) same ∙ row_is b at c.args.row is ∙ eq-eqb c.args.row at.row c.if-row-at.true in
    sym (candidate_wants b c.args.candidates.now c.args.pending.now.waiting at there.0 there.1 there.2
    (ap (λ (p : Place). p.rank) (sym same), ap (λ (p : Place). p.group) (sym same), ap (λ (p : Place). p.bank) (sym same)) opened)
