use Rattle.std.proofs.Common.{List, ap, sym, ◌∙◌, ℕ}
use Rattle.ddr_stream.specs.Stream.{of_text}
use Rattle.ddr_stream.proofs.PlacedLemmas.{line_of_no_text, line_text}
use Rattle.ddr_stream.proofs.placing.of_line.Goals as goal

pub returns-in-Ok : goal.returns-in-Ok
returns-in-Ok c =
    c.of_text.ensures
    ∙ ap (λ (text : List ℕ). of_text c.args.map.now.geometry c.args.reading c.args.ports c.args.line c.args.sent text) c.in-Ok.ensures.cases.0
    ∙ sym (line_text c.args.map.now.geometry c.args.reading c.args.ports c.args.line c.args.sent c.args.text.now c.if-text-gt-LONGEST_LINE.false c.if-line-gt-MOST_LINES.false c.in-Ok.ensures.cases.1)

pub returns-in-Err : goal.returns-in-Err
returns-in-Err c =
    sym (line_of_no_text c.args.map.now.geometry c.args.reading c.args.ports c.args.line c.args.sent c.args.text.now c.if-text-gt-LONGEST_LINE.false c.if-line-gt-MOST_LINES.false c.in-Err.ensures.cases.0)
