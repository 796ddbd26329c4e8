use Rattle.std.proofs.Common.{ap, ◌∙◌, ◌++◌, string_bytes}
use Rattle.ddr_draw.specs.Waves.{declared_bank}
use Rattle.ddr_draw.proofs.BankLemmas.{bank_more}
use Rattle.ddr_draw.proofs.waves.declared_banks.Goals as goal

pub loop-number-preserved : goal.loop-number-preserved
loop-number-preserved c =
    bank_more declared_bank c.args.geometry.now c.loop-number.number (string_bytes c.loop-number.text) (string_bytes c.push_str.new.self) (string_bytes c.in_ok-name.name) (string_bytes c.in_ok-line.line)
    (c.in_ok-push_str.ensures.bytes ∙ ap (λ l. string_bytes c.loop-number.text ++ l) c.as_str.ensures.value) c.in_ok-line.ensures c.in_ok-name.ensures c.loop-number.invariant
