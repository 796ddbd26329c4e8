-- The end of the channel's trace.
use Rattle.std.proofs.Common.{List, ℕ, ◌++◌, ap, ap₂, sym, ◌∙◌}
use Rattle.std.specs.List.{flat_map}
use Rattle.ddr_trace.specs.declared.command.Entry.{Entry}
use Rattle.ddr_trace_text.specs.Text.{command_fields, end_fields, header, record_text, trace_text}
use Rattle.ddr_counting.proofs.NotingLemmas.{trace_of_channel}
use Rattle.ddr_replay.proofs.TellingLemmas.{text_there}
use Rattle.ddr_replay.proofs.telling.trace_ended.Goals as goal

pub returns-in-Ok-clause-text : goal.returns-in-Ok-clause-text
unfolding trace_text
returns-in-Ok-clause-text c =
    let k = c.args.world.now in
    let channel = c.in-Some.channel.now in
    ap₂ (λ (entries : List Entry) (last : List ℕ). (record_text header ++ flat_map (λ (e : Entry). record_text (command_fields e.cycle e.command)) entries) ++ last)
    (trace_of_channel k c.args.channel channel c.in-Some.ensures.value) (c.in-Ok.ensures.text ∙ ap (λ n. record_text (end_fields n)) c.now.ensures.value)
    ∙ sym (text_there trace_text k c.args.channel channel c.in-Some.ensures.value)
