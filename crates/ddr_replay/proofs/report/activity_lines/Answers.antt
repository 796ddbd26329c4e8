-- The lines of reads, of writes, and of the queue.
use Rattle.std.proofs.Common.{◌++◌, ap₂, ◌∙◌}
use Rattle.ddr_replay.specs.Report.{activity_lines}
use Rattle.ddr_replay.proofs.report.activity_lines.Goals as goal

pub returns : goal.returns
unfolding activity_lines
returns c =
    c.in_ok-push_str-2.ensures.bytes
    ∙ ap₂ ◌++◌ (c.in_ok-push_str.ensures.bytes ∙ ap₂ ◌++◌ c.in_ok-text.ensures (c.as_str.ensures.value ∙ c.in_ok-writes.ensures)) (c.as_str-2.ensures.value ∙ c.in_ok-waiting.ensures)
