use Rattle.std.proofs.Common.{ap, ◌+◌, ◌*◌, ◌∙◌, ◌++◌, string_bytes}
use Rattle.ddr_draw.specs.declared.scale.TheConstants.{TICK_CLOCKS}
use Rattle.ddr_draw.specs.Lanes.{tick}
use Rattle.ddr_draw.proofs.BankLemmas.{text_more}
use Rattle.ddr_draw.proofs.ground.ticks.Goals as goal

pub loop-number-preserved : goal.loop-number-preserved
loop-number-preserved c =
    text_more (λ n. tick c.args.geometry.now c.args.view.now (c.args.view.now.from + TICK_CLOCKS * n)) c.loop-number.number (string_bytes c.loop-number.text) (string_bytes c.push_str.new.self) (string_bytes c.in_ok-line.line)
    (c.in_ok-push_str.ensures.bytes ∙ ap (λ l. string_bytes c.loop-number.text ++ l) c.as_str.ensures.value) c.in_ok-line.ensures c.loop-number.invariant
