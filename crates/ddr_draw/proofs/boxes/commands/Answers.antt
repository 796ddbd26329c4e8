use Rattle.std.proofs.Common.{ap, ◌∙◌, ◌++◌, string_bytes}
use Rattle.ddr_draw.specs.Lanes.{command_of}
use Rattle.ddr_draw.proofs.BankLemmas.{text_more}
use Rattle.ddr_draw.proofs.BoxLemmas.{command_here}
use Rattle.ddr_draw.proofs.boxes.commands.Goals as goal

pub loop-place-preserved : goal.loop-place-preserved
loop-place-preserved c =
    text_more (command_of c.args.config.now c.args.view.now c.args.entries.now) c.loop-place.place (string_bytes c.loop-place.text) (string_bytes c.push_str.new.self) (string_bytes c.in_ok-command.command)
    (c.in_ok-push_str.ensures.bytes ∙ ap (λ l. string_bytes c.loop-place.text ++ l) c.as_str.ensures.value)
    (c.in_ok-command.ensures ∙ command_here _ _ c.args.entries.now c.loop-place.place _ c.loop-place-test.true) c.loop-place.invariant
