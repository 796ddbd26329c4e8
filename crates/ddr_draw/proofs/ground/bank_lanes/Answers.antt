use Rattle.std.proofs.Common.{ap, ◌+◌, ◌∙◌, ◌++◌, string_bytes}
use Rattle.ddr_draw.specs.declared.scale.TheConstants.{FIRST_BANK_LANE}
use Rattle.ddr_draw.specs.Lanes.{lane}
use Rattle.ddr_draw.specs.Names.{bank_numbered}
use Rattle.ddr_draw.proofs.BankLemmas.{text_more}
use Rattle.ddr_draw.proofs.ground.bank_lanes.Goals as goal

pub loop-number-preserved : goal.loop-number-preserved
loop-number-preserved c =
    text_more (λ n. lane c.args.view.now (n + FIRST_BANK_LANE) (bank_numbered c.args.geometry.now n)) c.loop-number.number (string_bytes c.loop-number.text) (string_bytes c.push_str.new.self) (string_bytes c.in_ok-line.line)
    (c.in_ok-push_str.ensures.bytes ∙ ap (λ l. string_bytes c.loop-number.text ++ l) c.as_str-in-loop-number.ensures.value)
    (c.in_ok-line.ensures ∙ ap (lane c.args.view.now (c.loop-number.number + FIRST_BANK_LANE)) (c.as_str.ensures.value ∙ c.in_ok-name.ensures)) c.loop-number.invariant
