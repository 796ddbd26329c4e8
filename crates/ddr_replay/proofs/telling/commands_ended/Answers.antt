-- The end of the channel's commands.
use Rattle.std.proofs.Common.{List, ℕ, Vec, Global, ◌++◌, ap, ap₂, sym, ◌∙◌}
use Rattle.std.specs.List.{flat_map}
use Rattle.ddr_trace.specs.declared.command.Entry.{Entry}
use Rattle.ddr_counting.proofs.NotingLemmas.{trace_of_channel}
use Rattle.ddr_ledger.specs.Drampower.{drampower_line, drampower_text, end_line}
use Rattle.ddr_replay.proofs.TellingLemmas.{text_there}
use Rattle.ddr_replay.proofs.telling.commands_ended.Goals as goal

pub returns-clause-text : goal.returns-clause-text
unfolding drampower_text
returns-clause-text c =
    let k = c.args.world.now in
    let channel = c.in-Some.channel.now in
    ap₂ (λ (entries : List Entry) (last : List ℕ). flat_map drampower_line entries ++ last)
    (trace_of_channel k c.args.channel channel c.in-Some.ensures.value) (ap (λ (v : Vec ℕ Global). v.items) c.into_bytes.ensures.value ∙ c.in_ok-text.ensures ∙ ap end_line c.now.ensures.value)
    ∙ sym (text_there drampower_text k c.args.channel channel c.in-Some.ensures.value)
