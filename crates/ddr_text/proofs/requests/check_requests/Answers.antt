use Rattle.std.proofs.Common.{◌≡◌, ◌+◌, None, Err, subst, arith}
use Rattle.std.specs.Str.Lines.{lines}
use Rattle.std.proofs.lemmas.List.{length_push}
use Rattle.std.proofs.lemmas.Iterator.Consumers.{YieldsList-turn, YieldsList-end}
use Rattle.std.proofs.lemmas.Iterator.Splits.{YieldsList-from_lines}
use Rattle.std.proofs.lemmas.Result.{err_from_is_err_and}
use Rattle.ddr_timing.specs.declared.geometry.Geometry.{Geometry}
use Rattle.ddr_text.specs.Requests.{IsTaken, fault_at}
use Rattle.ddr_text.proofs.Lines.{length-lines}
use Rattle.ddr_text.proofs.RequestLemmas.{requests_end, requests_fault, requests_more}
use Rattle.ddr_text.proofs.requests.check_requests.Goals as goal

pub overflow_add-line : goal.overflow_add-line
overflow_add-line c =
    let turn = YieldsList-turn (YieldsList-from_lines c.args.text.now cc) c.loop-written.yielded _ c.loop-written.yielded_by _ _ c.in-Some.written c.in-Some.is c.next.ensures.steps in
    omega (arith, turn.0, length-lines c.args.text.now, c.loop-written.invariant.counted)

pub loop-written-preserved : goal.loop-written-preserved
loop-written-preserved c =
    let turn = YieldsList-turn (YieldsList-from_lines c.args.text.now cc) c.loop-written.yielded _ c.loop-written.yielded_by _ _ c.in-Some.written c.in-Some.is c.next.ensures.steps in
    let kept = c.loop-written.invariant in
    let ports = c.args.config.now.limits.ports in
    record {
      can_next = tt;
      is_finite = tt;
      counted = omega (arith, kept.counted, length_push c.loop-written.yielded c.in-Some.written);
      said = requests_more c.args.config.now (lines c.args.text.now) _ _ c.in-Some.written.now _ kept.counted turn
          (subst (λ (k : Geometry). fault_at ports k (c.loop-written.line + 1) c.in-Some.written.now ≡ None) c.new-map.ensures c.in_ok-check_line.ensures) kept.said;
    }

pub returns-in_err-check_line : goal.returns-in_err-check_line
returns-in_err-check_line c =
    let turn = YieldsList-turn (YieldsList-from_lines c.args.text.now cc) c.loop-written.yielded _ c.loop-written.yielded_by _ _ c.in-Some.written c.in-Some.is c.next.ensures.steps in
    let kept = c.loop-written.invariant in
    let ports = c.args.config.now.limits.ports in
    let p = err_from_is_err_and c.from_residual.result c.from_residual.ensures.1 in
    rw (p.1, p.2) (requests_fault c.args.config.now (lines c.args.text.now) _ _ c.in-Some.written.now _ c.in_err-check_line.field-0.0 kept.counted turn
    (subst (λ (k : Geometry). IsTaken (Err c.in_err-check_line.field-0.0) (fault_at ports k (c.loop-written.line + 1) c.in-Some.written.now)) c.new-map.ensures c.in_err-check_line.ensures) kept.said)

pub returns : goal.returns
returns c =
    let end = YieldsList-end (YieldsList-from_lines c.args.text.now cc) c.loop-written.yielded _ c.loop-written.yielded_by _ _ c.in-None.is c.next.ensures.steps in
    let kept = c.loop-written.invariant in
    requests_end c.args.config.now (lines c.args.text.now) _ _ (omega (arith, end.1, kept.counted)) kept.said
