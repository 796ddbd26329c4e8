use Rattle.std.proofs.Common.{ap, ◌∙◌, ◌++◌, string_bytes}
use Rattle.ddr_draw.specs.Waves.{idle_line}
use Rattle.ddr_draw.proofs.BankLemmas.{bank_more}
use Rattle.ddr_draw.proofs.waves.idle_banks.Goals as goal

pub loop-number-preserved : goal.loop-number-preserved
loop-number-preserved c =
    bank_more idle_line c.args.geometry.now c.loop-number.number (string_bytes c.loop-number.text) (string_bytes c.push_str.new.self) (string_bytes c.in_ok-name.name) (string_bytes c.in_ok-line.line)
    (c.in_ok-push_str.ensures.bytes ∙ ap (λ l. string_bytes c.loop-number.text ++ l) c.as_str.ensures.value) c.in_ok-line.ensures c.in_ok-name.ensures c.loop-number.invariant
