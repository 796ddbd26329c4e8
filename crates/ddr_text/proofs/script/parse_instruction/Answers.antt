use Rattle.std.proofs.Common.{map, ap, ◌∙◌, rules}
use Rattle.ddr_text.proofs.FieldLemmas.{said_by_fields}
use Rattle.ddr_text.proofs.script.parse_instruction.Goals as goal

pub returns : goal.returns
returns c = said_by_fields c.args.ports c.args.line.now _ c.parse_fields.result (search rules) (ap (map (λ field. field.now)) c.as_slice.ensures.value ∙ c.fields-fields.ensures) c.parse_fields.ensures
