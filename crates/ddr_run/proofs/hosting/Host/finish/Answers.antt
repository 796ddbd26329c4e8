use Rattle.std.proofs.Common.{◌≡◌, [], refl, ap, ◌∙◌, length, arith}
use Rattle.ddr_address_map.specs.Requests.{Completion}
use Rattle.ddr_reorder.specs.State.{ReorderState}
use Rattle.ddr_workers.specs.declared.completions.Delivery.{Delivery}
use Rattle.ddr_workers.specs.Sides.{TakeSide}
use Rattle.ddr_run.specs.Hosting.{replies_text}
use Rattle.ddr_run.proofs.HostLemmas.{asked_held, asked_next, asked_none, finished_from, finished_text, held_same}
use Rattle.ddr_run.proofs.hosting.Host.finish.Goals as goal

pub loop-init : goal.loop-init
loop-init g c = rw (← c.self.view_is) (record {
  asked = asked_none c.self.inside.port;
  counted = c.self.invariant.counted;
  taken = refl;
  took = refl;
  text = c.self.invariant.text ∙ ap (λ p. replies_text p c.self.inside.port.completions.took c.self.inside.port.taken) c.self.invariant.number;
})

pub returns-in-Ok-clause-finished : goal.returns-in-Ok-clause-finished
returns-in-Ok-clause-finished g c = finished_from c.args.self c.loop.port c.in-Ok.end c.loop.invariant.asked c.loop.invariant.counted c.in-Ok.ensures.ok c.in-Ok.ensures.end

pub returns-in-Ok-clause-text : goal.returns-in-Ok-clause-text
returns-in-Ok-clause-text g c = finished_text c.args.self c.loop.port c.in-Ok.end _ c.loop.invariant.taken c.loop.invariant.took c.loop.invariant.text c.in-Ok.ensures.ok

pub loop-preserved : goal.loop-preserved
loop-preserved g c =
    let kept = c.loop.invariant in
    let back = c.in-Err-default-Busy.back in
    let held = rw c.in-Err-default-Busy.field-0-1-is at c.in-Err-default-Busy.ensures.err in
    let same = held_same c.loop.port back _ held.2 in
    let next : back.core.reorder.next ≡ c.loop.port.core.reorder.next = ap (λ (r : ReorderState). r.next) same.reorder in
    let left : length back.core.reorder.outstanding ≡ length c.loop.port.core.reorder.outstanding = ap (λ (r : ReorderState). length r.outstanding) same.reorder in
    record {
      asked = asked_next c.args.self c.loop.port back [] [] kept.asked (asked_held c.loop.port back _ c.in-Err-default-Busy.ensures.same held.2);
      counted = omega (arith, kept.counted, same.taken, next, left);
      taken = same.taken ∙ kept.taken;
      took = ap (λ (t : TakeSide Delivery Completion). t.took) same.completions ∙ kept.took;
      text = kept.text;
    }
