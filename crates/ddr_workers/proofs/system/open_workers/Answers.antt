use Rattle.std.proofs.Common.{◌≡◌, ◌+◌, ◌<◌, length, arith, sym, ap, subst}
use Rattle.std.specs.List.{remove}
use Rattle.std.proofs.lemmas.List.{length-map}
use Rattle.std.proofs.lemmas.List.Elements.{All-push}
use Rattle.ddr_workers.specs.Lanes.{lists, AreFrom}
use Rattle.ddr_workers.specs.Open.{IsWorkerRow, IsWorkerTake, IsNewWorker, KeepTraces}
use Rattle.ddr_workers.specs.Worker.{WorkerState}
use Rattle.ddr_workers.proofs.LaneLemmas.{removed, first_row, first_of_row, one_each_more, all_complete, Completes}
use Rattle.ddr_workers.proofs.system.open_workers.Goals as goal

pub open-requires-clause-sides : goal.open-requires-clause-sides
open-requires-clause-sides c =
    let before = c.loop-number.invariant in
    let some : 0 < length c.loop-number.rows.items = omega (arith, c.loop-number-test.true, before.rows_left) in
    let is = removed c.loop-number.rows.items c.remove-row.result some c.remove-row.ensures.value in
    (first_row (IsWorkerRow c.args.config.now.geometry c.args.config.now.limits.ports) c.loop-number.number c.loop-number.rows.items c.remove-row.result is before.row).0.side

pub loop-number-preserved : goal.loop-number-preserved
loop-number-preserved c =
    let before = c.loop-number.invariant in
    let rows = c.loop-number.rows.items in
    let takes = c.loop-number.takes.items in
    let n = c.loop-number.number in
    let P = IsNewWorker c.args.config.now c.args.first c.args.id in
    let Q = IsWorkerTake c.args.config.now.geometry c.args.config.now.limits.ports in
    let some : 0 < length rows = omega (arith, c.loop-number-test.true, before.rows_left) in
    let some' : 0 < length takes = omega (arith, c.loop-number-test.true, before.takes_left) in
    let is = removed rows c.remove-row.result some c.remove-row.ensures.value in
    let is' = removed takes c.remove-take.result some' c.remove-take.ensures.value in
    record {
      rows_left = omega (arith, before.rows_left, ap length is, ap length c.remove-row.ensures.items);
      takes_left = omega (arith, before.takes_left, ap length is', ap length c.remove-take.ensures.items);
      row = subst (λ rs. AreFrom (IsWorkerRow c.args.config.now.geometry c.args.config.now.limits.ports) (n + 1) (lists rs)) (sym c.remove-row.ensures.items) (first_row (IsWorkerRow c.args.config.now.geometry c.args.config.now.limits.ports) n rows c.remove-row.result is before.row).1;
      take = subst (AreFrom Q (n + 1)) (sym c.remove-take.ensures.items) (first_of_row Q n takes c.remove-take.result is' before.take).1;
      made =
          subst (λ rs. Completes P (n + 1) (lists rs) c.remove-take.new.self.items c.push.new.self.items (lists c.args.rows.items) c.args.takes.items) (sym c.remove-row.ensures.items)
          (subst (λ ts. Completes P (n + 1) (lists (remove rows 0)) ts c.push.new.self.items (lists c.args.rows.items) c.args.takes.items) (sym c.remove-take.ensures.items)
          (one_each_more P n rows takes c.loop-number.workers.items c.push.new.self.items (lists c.args.rows.items) c.args.takes.items c.remove-row.result c.remove-take.result c.in_ok-worker.worker is is' c.in_ok-worker.ensures.new c.in_ok-push.ensures.items before.made));
      keep = subst (KeepTraces c.args.traces) (sym c.in_ok-push.ensures.items) (All-push (λ (w : WorkerState). w.channel.keeps ≡ c.args.traces) c.loop-number.workers.items c.in_ok-worker.worker before.keep c.in_ok-worker.ensures.keeps);
    }

pub returns-clause-new : goal.returns-clause-new
returns-clause-new c =
    let before = c.loop-number.invariant in
    all_complete (IsNewWorker c.args.config.now c.args.first c.args.id) c.loop-number.number (lists c.loop-number.rows.items) c.loop-number.takes.items c.loop-number.workers.items (lists c.args.rows.items) c.args.takes.items
    (omega (arith, c.loop-number-test.false, before.rows_left, length-map c.loop-number.rows.items (λ row. row.items))) (omega (arith, c.loop-number-test.false, before.takes_left)) before.made
