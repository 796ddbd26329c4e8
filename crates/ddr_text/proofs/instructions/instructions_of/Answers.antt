use Rattle.std.proofs.Common.{Ok, List, Vec, Global, map, refl, ap, sym, arith, ◌∙◌}
use Rattle.std.specs.Str.Lines.{lines}
use Rattle.std.proofs.lemmas.List.{length_push}
use Rattle.std.proofs.lemmas.Iterator.Consumers.{YieldsList-turn, YieldsList-end}
use Rattle.std.proofs.lemmas.Iterator.Splits.{YieldsList-from_lines}
use Rattle.std.proofs.lemmas.Result.{err_from_is_err_and}
use Rattle.ddr_text.specs.declared.script.Instruction as declared
use Rattle.ddr_text.specs.Instructions.{Script, instructions_of, script_from, ◌>>>◌}
use Rattle.ddr_text.specs.Script.{view}
use Rattle.ddr_text.proofs.Lines.{length-lines, script_end, script_fault, script_more}
use Rattle.ddr_text.proofs.instructions.instructions_of.Goals as goal

pub loop-written-init : goal.loop-written-init
loop-written-init c = record {
  can_next = tt;
  is_finite = tt;
  counted = refl;
  said = ap (λ (xs : List declared.Instruction). script_from c.args.form 0 (record { instructions = map view xs; requests = 0 }) (lines c.args.text.now)) c.new.ensures.items;
}

pub overflow_add-line : goal.overflow_add-line
overflow_add-line c =
    let turn = YieldsList-turn (YieldsList-from_lines c.args.text.now cc) c.loop-written.yielded _ c.loop-written.yielded_by _ _ c.in-Some.written c.in-Some.is c.next.ensures.steps in
    omega (arith, turn.0, length-lines c.args.text.now, c.loop-written.invariant.counted)

pub loop-written-preserved : goal.loop-written-preserved
loop-written-preserved c =
    let turn = YieldsList-turn (YieldsList-from_lines c.args.text.now cc) c.loop-written.yielded _ c.loop-written.yielded_by _ _ c.in-Some.written c.in-Some.is c.next.ensures.steps in
    let kept = c.loop-written.invariant in
    record {
      can_next = tt;
      is_finite = tt;
      counted = omega (arith, kept.counted, length_push c.loop-written.yielded c.in-Some.written);
      said = script_more c.args.form (lines c.args.text.now) _ _ c.loop-written.reading c.read_line.new.reading c.in-Some.written.now _ kept.counted turn c.in_ok-read_line.ensures kept.said;
    }

pub returns-in_err-read_line : goal.returns-in_err-read_line
unfolding instructions_of
returns-in_err-read_line c =
    let turn = YieldsList-turn (YieldsList-from_lines c.args.text.now cc) c.loop-written.yielded _ c.loop-written.yielded_by _ _ c.in-Some.written c.in-Some.is c.next.ensures.steps in
    let kept = c.loop-written.invariant in
    let p = err_from_is_err_and c.from_residual.result c.from_residual.ensures.1 in
    rw (p.1, p.2) (script_fault {X = Vec declared.Instruction Global} (λ v. map view v.items) c.args.form (lines c.args.text.now) _ _ c.loop-written.reading c.read_line.new.reading c.in-Some.written.now _ c.in_err-read_line.field-0.0 kept.counted turn c.in_err-read_line.ensures kept.said)

pub returns : goal.returns
unfolding instructions_of
returns c =
    let end = YieldsList-end (YieldsList-from_lines c.args.text.now cc) c.loop-written.yielded _ c.loop-written.yielded_by _ _ c.in-None.is c.next.ensures.steps in
    let kept = c.loop-written.invariant in
    ap (λ r. r >>> λ (script : Script). Ok script.instructions) (script_end c.args.form (lines c.args.text.now) _ c.loop-written.reading _ (omega (arith, end.1, kept.counted)) kept.said)
    ∙ ap (λ (script : Script). Ok script.instructions) (sym c.reading-2.view_is)
