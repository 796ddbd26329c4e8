-- The header's fields are plain, so they are written as they are.
use Rattle.std.proofs.Common.{◌++◌, ap, ◌∙◌}
use Rattle.csv.specs.Writing.{writer_under, writer_pending}
use Rattle.ddr_trace_text.specs.Text.{header}
use Rattle.ddr_trace_text.proofs.TextLemmas.{header_is_line, usual_style}
use Rattle.ddr_trace_text.proofs.text.write_header.Goals as goal
use Rattle.ddr_trace_text.proofs.text.write_header.Goals.{in-Ok, in-Err}

pub returns-clause-text : goal.returns-clause-text
unfolding header
returns-clause-text c =
    elim c.match-write_fields.branch [
      | in-Ok w ↦
          let ready = c.requires in
          let bytes = w.in-Ok.ensures.bytes ready.fields ready.unwritten (usual_style c.args.table.now ready.setup) in
          rw w.result-is ((rw ready.setup at bytes) ∙ ap (λ text. (writer_under c.args.table.now).items ++ writer_pending c.args.table.now ++ text) header_is_line)
      | in-Err w ↦ rw w.result-is tt
    ]
