-- The header, a line for each entry, and END, one after another.
use Rattle.std.proofs.Common.{◌≤◌, length, take_all, arith, ◌∙◌}
use Rattle.ddr_trace_text.specs.Text.{end_fields, trace_text}
use Rattle.ddr_trace_text.proofs.text.trace_text.Goals as goal

pub returns-in-Ok-clause-text : goal.returns-in-Ok-clause-text
unfolding trace_text end_fields
returns-in-Ok-clause-text c =
    let whole : length c.args.entries.now ≤ c.loop-entry.entry-index = omega arith in
    c.in-Ok.ensures.ok ∙ (rw (c.loop-entry.invariant.text, take_all _ _ whole) at c.in_ok-write_record.ensures.text)
