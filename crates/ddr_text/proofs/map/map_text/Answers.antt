use Rattle.std.proofs.Common.{◌++◌, string_bytes, refl, ap, ◌∙◌, arith}
use Rattle.std.specs.Str.Lines.{lines}
use Rattle.std.proofs.lemmas.List.{length_push}
use Rattle.std.proofs.lemmas.Iterator.Consumers.{YieldsList-turn, YieldsList-end}
use Rattle.std.proofs.lemmas.Iterator.Splits.{YieldsList-from_lines}
use Rattle.ddr_text.specs.MapText.{text_from, map_text}
use Rattle.ddr_text.proofs.Lines.{length-lines}
use Rattle.ddr_text.proofs.MapLemmas.{text_more, text_fault, text_end}
use Rattle.ddr_text.proofs.map.map_text.Goals as goal

pub loop-written-init : goal.loop-written-init
unfolding map_text
loop-written-init c = record {
  can_next = tt;
  is_finite = tt;
  counted = refl;
  said = ap (λ text. text_from c.args.map.now.geometry 0 text (lines c.args.body.now)) c.new-text.ensures.bytes;
}

pub overflow_add-line : goal.overflow_add-line
overflow_add-line c =
    let turn = YieldsList-turn (YieldsList-from_lines c.args.body.now cc) c.loop-written.yielded _ c.loop-written.yielded_by _ _ c.in-Some.written c.in-Some.is c.next.ensures.steps in
    omega (arith, turn.0, length-lines c.args.body.now, c.loop-written.invariant.counted)

pub loop-written-preserved : goal.loop-written-preserved
loop-written-preserved c =
    let turn = YieldsList-turn (YieldsList-from_lines c.args.body.now cc) c.loop-written.yielded _ c.loop-written.yielded_by _ _ c.in-Some.written c.in-Some.is c.next.ensures.steps in
    let kept = c.loop-written.invariant in
    record {
      can_next = tt;
      is_finite = tt;
      counted = omega (arith, kept.counted, length_push c.loop-written.yielded c.in-Some.written);
      said = text_more c.args.map.now.geometry (lines c.args.body.now) _ _ _ _ c.in-Some.written.now (string_bytes c.in-Ok.added) _ kept.counted turn c.in-Ok.ensures
          (c.in_ok-push_str-in-Ok.ensures.bytes ∙ ap (λ added. string_bytes c.loop-written.text ++ added) c.as_str.ensures.value) kept.said;
    }

pub returns-in-Err-AtFault : goal.returns-in-Err-AtFault
returns-in-Err-AtFault c =
    let turn = YieldsList-turn (YieldsList-from_lines c.args.body.now cc) c.loop-written.yielded _ c.loop-written.yielded_by _ _ c.in-Some.written c.in-Some.is c.next.ensures.steps in
    let kept = c.loop-written.invariant in
    text_fault c.args.map.now.geometry (lines c.args.body.now) _ _ _ c.in-Some.written.now _ kept.counted turn (rw c.in-Err-AtFault.field-0-is at c.in-Err-AtFault.ensures) kept.said

pub returns : goal.returns
returns c =
    let end = YieldsList-end (YieldsList-from_lines c.args.body.now cc) c.loop-written.yielded _ c.loop-written.yielded_by _ _ c.in-None.is c.next.ensures.steps in
    let kept = c.loop-written.invariant in
    text_end c.args.map.now.geometry (lines c.args.body.now) _ _ _ (omega (arith, end.1, kept.counted)) kept.said
