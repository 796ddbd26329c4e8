-- What the open row of the bank says of the place, and of the bank.
use Rattle.std.proofs.Common.{sym, ap, ◌∙◌}
use Rattle.std.proofs.lemmas.Bool.{eq-eqb, ne_eqb}
use Rattle.ddr_legality.specs.Bus.{is_legal_now}
use Rattle.ddr_arbiter.specs.CandidateSet.{places_of}
use Rattle.ddr_arbiter.proofs.RowLemmas.{active_done, own_waits, precharges, refused_or_wanted, wanted_or_refused}
use Rattle.ddr_arbiter.proofs.rows.step_at.Goals as goal

pub returns-in_default : goal.returns-in_default
returns-in_default c = c.activate_step.ensures c.args.pending.now.waiting (places_of c.args.candidates.now c.args.pending.now.waiting)

pub returns-then-row-at : goal.returns-then-row-at
returns-then-row-at c =
    own_waits c.args.legality.now.bus c.args.pending.now.waiting (places_of c.args.candidates.now c.args.pending.now.waiting) c.args.at c.in-Some.row
    (sym c.open_row.ensures ∙ c.in-Some.is) (eq-eqb c.in-Some.row c.args.at.row c.if-row-at.true)

pub returns-then-not-may : goal.returns-then-not-may
returns-then-not-may c =
    let places = places_of c.args.candidates.now c.args.pending.now.waiting in
    active_done c.args.legality.now.bus c.args.pending.now.waiting places c.args.at c.in-Some.row (sym c.open_row.ensures ∙ c.in-Some.is)
    (refused_or_wanted _ _ (ap (is_legal_now c.args.legality.now.bus) (sym c.precharge_at.ensures) ∙ sym c.may.ensures ∙ c.if-not-may.true))

pub returns-then-is_wanted : goal.returns-then-is_wanted
returns-then-is_wanted c =
    let places = places_of c.args.candidates.now c.args.pending.now.waiting in
    let is = sym c.open_row.ensures ∙ c.in-Some.is in
    active_done c.args.legality.now.bus c.args.pending.now.waiting places c.args.at c.in-Some.row is
    (wanted_or_refused _ _ (sym (c.is_wanted.ensures c.args.legality.now.bus is) ∙ c.if-is_wanted.true))

pub returns : goal.returns
returns c =
    let places = places_of c.args.candidates.now c.args.pending.now.waiting in
    let is = sym c.open_row.ensures ∙ c.in-Some.is in
    precharges c.args.legality.now.bus c.args.pending.now.waiting places c.args.at c.in-Some.row is (ne_eqb c.in-Some.row c.args.at.row c.if-row-at.false)
    (ap (is_legal_now c.args.legality.now.bus) (sym c.precharge_at.ensures) ∙ sym c.may.ensures ∙ c.if-not-may.false)
    (sym (c.is_wanted.ensures c.args.legality.now.bus is) ∙ c.if-is_wanted.false)
