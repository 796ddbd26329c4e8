use Rattle.std.proofs.Common.{rules, ◌≡◌, ◌+◌, ◌<◌, ◌++◌, length, take, drop, Some, slice_get, arith, refl, sym, ◌∙◌, subst, vec_capacity, vec_len}
use Rattle.std.specs.Vec.{with_item}
use Rattle.std.proofs.lemmas.List.{length-set}
use Rattle.std.proofs.lemmas.Option.{slice_get_read}
use Rattle.ddr_channel.proofs.ListLemmas.{All-at}
use Rattle.ddr_workers.specs.Lanes.{lists, each_with}
use Rattle.ddr_workers.proofs.GatherLemmas.{same_room, still_left, still_there}
use Rattle.ddr_workers.proofs.LaneLemmas.{row_handed}
use Rattle.ddr_workers.proofs.rows.add_to_each.Goals as goal

pub push_reserved-requires : goal.push_reserved-requires
push_reserved-requires g c =
    let before = c.loop-place.invariant in
    let rows = c.loop-place.rows.items in
    let n = c.loop-place.place in
    let all : c.len-place-end.result ≡ length c.args.items.items = search rules in
    let within : n < length rows = omega (arith, c.loop-place-test.true, all, before.rows_are) in
    let there : slice_get rows n ≡ Some c.index_mut-row.result.now = slice_get_read rows (length rows) n c.index_mut-row.result.now refl within c.index_mut-row.ensures.value in
    All-at (λ row. vec_len row < vec_capacity row) c.args.rows.now.items n c.index_mut-row.result.now c.requires.room (sym (still_there rows c.args.rows.now.items n before.still) ∙ there)

pub loop-place-preserved : goal.loop-place-preserved
loop-place-preserved g c =
    let before = c.loop-place.invariant in
    let rows = c.loop-place.rows.items in
    let items = c.loop-place.items.items in
    let n = c.loop-place.place in
    let all : c.len-place-end.result ≡ length c.args.items.items = search rules in
    let within : n < length rows = omega (arith, c.loop-place-test.true, all, before.rows_are) in
    let some : 0 < length items = omega (arith, c.loop-place-test.true, all, before.left) in
    let there : slice_get rows n ≡ Some c.index_mut-row.result.now = slice_get_read rows (length rows) n c.index_mut-row.result.now refl within c.index_mut-row.ensures.value in
    record {
      left = search rules;
      rows_are = length-set rows n c.push_reserved.new.self ∙ before.rows_are;
      rest =
          subst (λ xs. take (n + 1) (lists (with_item c.loop-place.rows n c.push_reserved.new.self).items) ++ each_with (drop (n + 1) (lists (with_item c.loop-place.rows n c.push_reserved.new.self).items)) xs
          ≡ each_with (lists c.args.rows.now.items) c.args.items.items) (sym c.remove-item.ensures.items)
          (row_handed rows items n c.remove-item.result c.index_mut-row.result.now c.push_reserved.new.self _ within some c.remove-item.ensures.value there c.push_reserved.ensures.items before.rest);
      room = same_room rows n c.index_mut-row.result.now c.push_reserved.new.self there c.push_reserved.ensures.capacity ∙ before.room;
      still = still_left rows c.args.rows.now.items n c.push_reserved.new.self before.still;
    }
