use Rattle.std.proofs.Common.{map, ap, ◌∙◌, rules}
use Rattle.ddr_stream.proofs.FieldLemmas.{said_by_two}
use Rattle.ddr_stream.proofs.line.parse_ramulator2.Goals as goal

pub returns : goal.returns
returns c = c.parse_two.ensures ∙ said_by_two c.args.port c.args.line.now _ (search rules) (ap (map (λ field. field.now)) c.as_slice.ensures.value ∙ c.fields-fields.ensures)
