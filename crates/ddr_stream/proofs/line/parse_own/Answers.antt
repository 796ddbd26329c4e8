use Rattle.std.proofs.Common.{map, ap, ◌∙◌, rules}
use Rattle.ddr_stream.proofs.FieldLemmas.{said_by_four}
use Rattle.ddr_stream.proofs.line.parse_own.Goals as goal

pub returns : goal.returns
returns c = c.parse_four.ensures ∙ said_by_four c.args.ports c.args.line.now _ (search rules) (ap (map (λ field. field.now)) c.as_slice.ensures.value ∙ c.fields-fields.ensures)
