use Rattle.std.proofs.Common.{ap, sym, ◌∙◌}
use Rattle.ddr_draw.specs.Long.{row_of}
use Rattle.ddr_draw.proofs.LongLemmas.{row_stands, row_wrong}
use Rattle.ddr_draw.proofs.long.text_row.Goals as goal

pub returns-in-Some-clause-said : goal.returns-in-Some-clause-said
returns-in-Some-clause-said c = λ so_far a b d f bytes stands is other text.
    row_stands c.args.line so_far f bytes c.in-Some.row a b d stands is other (ap row_of (sym text) ∙ sym c.in-Some.ensures)

pub returns-in-None-clause-said : goal.returns-in-None-clause-said
returns-in-None-clause-said c = λ so_far a b d f bytes stands is other text.
    row_wrong c.args.line so_far f bytes a b d stands is other (ap row_of (sym text) ∙ sym c.in-None.ensures)
