-- The record's fields are plain, so they are written as they are.
use Rattle.std.proofs.Common.{[], ◌-◌, replicate, length, arith}
use Rattle.ddr_trace_text.proofs.TextLemmas.{row_is_line, usual_style, decimal_plain, numbers_plain, empty_plain, fields_joined}
use Rattle.ddr_trace_text.proofs.text.write_record.Goals as goal

pub returns-in-Ok-clause-text : goal.returns-in-Ok-clause-text
returns-in-Ok-clause-text c =
    let ready = c.requires.ready in
    let bytes = c.in-Ok.ensures.bytes ready.fields ready.unwritten (usual_style c.args.table.now ready.setup) in
    let fields = fields_joined _ _ _ _ _ _ _ c.args.name.now _ _ c.new-fields.ensures.fields c.in_ok-push_number.ensures.fields c.in_ok-push_number.ensures.partial c.in_ok-push_field.ensures.fields c.in_ok-push_numbers.ensures.fields c.in_ok-push_empty.ensures.fields in
    let empty = empty_plain (5 - length c.args.numbers.now) in
    let numbers = numbers_plain c.args.numbers.now (replicate (5 - length c.args.numbers.now) []) (λ k. omega (arith, c.type_inv.numbers k)) empty in
    rw (row_is_line _ _ _ (decimal_plain c.args.cycle (omega arith), (c.requires.plain, numbers))) at (rw (ready.setup, fields) at bytes)
