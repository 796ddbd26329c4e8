use Rattle.std.proofs.Common.{ℕ, ◌+◌, ◌*◌, ◌&&◌, get_or, sym, ap, ap₂, ◌∙◌}
use Rattle.std.specs.Char.{digit_value, is_ascii_digit}
use Rattle.std.proofs.lemmas.Int.Digits.{digits_value_more}
use Rattle.std.proofs.lemmas.List.Folds.{list_all_more}
use Rattle.ddr_trace_text.proofs.NumberLemmas.{too_great}
use Rattle.ddr_trace_text.proofs.number.value_of.Goals as goal

pub returns-in_err-number-clause-none : goal.returns-in_err-number-clause-none
returns-in_err-number-clause-none c =
    too_great c.from_residual.result c.args.field.now c.loop-byte.byte-index c.loop-byte.number c.loop-byte-test.true c.loop-byte.invariant.value c.in_err-number.ensures.none

pub loop-byte-preserved : goal.loop-byte-preserved
loop-byte-preserved c =
    let field = c.args.field.now in
    let i = c.loop-byte.byte-index in
    record {
      digits = list_all_more is_ascii_digit field i 0 c.loop-byte-test.true ∙ ap₂ ◌&&◌ c.loop-byte.invariant.digits c.in_ok-number.ensures.digit;
      value = c.in_ok-number.ensures.value ∙ ap (λ (n : ℕ). n * 10 + digit_value (get_or field i 0)) c.loop-byte.invariant.value ∙ sym (digits_value_more 10 field i c.loop-byte-test.true);
    }
