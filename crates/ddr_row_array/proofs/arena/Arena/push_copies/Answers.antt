use Rattle.std.proofs.Common.{◌≡◌, ℕ, ◌+◌, ◌-◌, ◌≤◌, ◌++◌, List, length, replicate, append_assoc, length-append, ap, ◌∙◌, arith}
use Rattle.std.proofs.lemmas.List.{length-replicate, replicate-append-replicate}
use Rattle.ddr_row_array.proofs.arena.Arena.push_copies.Goals as goal

step : {T : Type 0} (xs : List T) (n left : ℕ) (x : T) → n ≤ left → (xs ++ replicate n x) ++ replicate (left - n) x ≡ xs ++ replicate left x
step xs n left x at_most =
    let all : n + (left - n) ≡ left = omega arith in
    append_assoc xs (replicate n x) (replicate (left - n) x)
    ∙ ap (λ ys. xs ++ ys) (replicate-append-replicate n (left - n) x)
    ∙ ap (λ m. xs ++ replicate m x) all

pub loop-left-preserved : goal.loop-left-preserved
loop-left-preserved g c =
    let inv = c.loop-left.invariant in
    let old = c.loop-left.self in
    let n = c.push_in_block-left.result in
    let x = c.args.item in
    let at_most = c.push_in_block-left.ensures.at_most in
    let items = c.push_in_block-left.ensures.items in
    let long = ap length items ∙ length-append old.items (replicate n x) in
    let same = c.push_in_block-left.ensures.capacity in
    let room = inv.room in
    record {
      items = ap (λ ys. ys ++ replicate (c.loop-left.left - n) x) items ∙ step old.items n c.loop-left.left x at_most ∙ inv.items;
      capacity = same ∙ inv.capacity;
      room = omega (arith, long, same, room, at_most, length-replicate n x);
    }
