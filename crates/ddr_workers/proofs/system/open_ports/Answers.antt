use Rattle.std.proofs.Common.{◌≡◌, ◌+◌, ◌<◌, [], All, length, arith, sym, ap, subst}
use Rattle.std.specs.List.{remove}
use Rattle.std.proofs.lemmas.List.{length-map}
use Rattle.std.proofs.lemmas.List.Elements.{All-tail}
use Rattle.ddr_address_map.specs.Requests.{Completion}
use Rattle.ddr_workers.specs.declared.completions.Delivery.{Delivery}
use Rattle.ddr_workers.specs.Lanes.{lists, AreFrom}
use Rattle.ddr_workers.specs.Open.{IsPortRow, IsPortOf}
use Rattle.ddr_workers.specs.Sides.{TakeSide}
use Rattle.ddr_workers.proofs.LaneLemmas.{removed, first_row, one_each_more, all_complete, Completes}
use Rattle.ddr_workers.proofs.system.open_ports.Goals as goal

pub new-requires-clause-sides : goal.new-requires-clause-sides
new-requires-clause-sides c =
    let before = c.loop-number.invariant in
    let some : 0 < length c.loop-number.rows.items = omega (arith, c.loop-number-test.true, before.rows_left) in
    let is = removed c.loop-number.rows.items c.remove-row.result some c.remove-row.ensures.value in
    (first_row (IsPortRow c.args.config.now.geometry) c.loop-number.number c.loop-number.rows.items c.remove-row.result is before.row).0.side

pub loop-number-preserved : goal.loop-number-preserved
loop-number-preserved c =
    let before = c.loop-number.invariant in
    let rows = c.loop-number.rows.items in
    let takes = c.loop-number.takes.items in
    let n = c.loop-number.number in
    let P = IsPortOf c.args.config.now c.args.id in
    let Q : TakeSide Delivery Completion → Type 0 = λ take. take.took ≡ [] in
    let some : 0 < length rows = omega (arith, c.loop-number-test.true, before.rows_left) in
    let some' : 0 < length takes = omega (arith, c.loop-number-test.true, before.takes_left) in
    let is = removed rows c.remove-row.result some c.remove-row.ensures.value in
    let is' = removed takes c.remove-take.result some' c.remove-take.ensures.value in
    record {
      rows_left = omega (arith, before.rows_left, ap length is, ap length c.remove-row.ensures.items);
      takes_left = omega (arith, before.takes_left, ap length is', ap length c.remove-take.ensures.items);
      row = subst (λ rs. AreFrom (IsPortRow c.args.config.now.geometry) (n + 1) (lists rs)) (sym c.remove-row.ensures.items) (first_row (IsPortRow c.args.config.now.geometry) n rows c.remove-row.result is before.row).1;
      take = subst (All Q) (sym c.remove-take.ensures.items) (All-tail Q c.remove-take.result _ (subst (All Q) is' before.take));
      made =
          subst (λ rs. Completes P (n + 1) (lists rs) c.remove-take.new.self.items c.push.new.self.items (lists c.args.rows.items) c.args.takes.items) (sym c.remove-row.ensures.items)
          (subst (λ ts. Completes P (n + 1) (lists (remove rows 0)) ts c.push.new.self.items (lists c.args.rows.items) c.args.takes.items) (sym c.remove-take.ensures.items)
          (one_each_more P n rows takes c.loop-number.ports.items c.push.new.self.items (lists c.args.rows.items) c.args.takes.items c.remove-row.result c.remove-take.result c.new.result is is' c.new.ensures c.in_ok-push.ensures.items before.made));
    }

pub returns : goal.returns
returns c =
    let before = c.loop-number.invariant in
    all_complete (IsPortOf c.args.config.now c.args.id) c.loop-number.number (lists c.loop-number.rows.items) c.loop-number.takes.items c.loop-number.ports.items (lists c.args.rows.items) c.args.takes.items
    (omega (arith, c.loop-number-test.false, before.rows_left, length-map c.loop-number.rows.items (λ row. row.items))) (omega (arith, c.loop-number-test.false, before.takes_left)) before.made
