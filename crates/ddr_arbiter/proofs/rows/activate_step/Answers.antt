-- Where the first row may not be opened, none may.
use Rattle.std.proofs.Common.{◌∙◌, sym, ap}
use Rattle.ddr_legality.specs.Bus.{is_legal_now}
use Rattle.ddr_arbiter.proofs.RowLemmas.{idle_done}
use Rattle.ddr_arbiter.proofs.rows.activate_step.Goals as goal

pub returns-then-not-may : goal.returns-then-not-may
returns-then-not-may c = λ waiting places. idle_done c.args.legality.now.bus waiting places c.args.at c.requires
    (sym (c.may.ensures ∙ ap (is_legal_now c.args.legality.now.bus) c.activate_at.ensures) ∙ c.if-not-may.true)
