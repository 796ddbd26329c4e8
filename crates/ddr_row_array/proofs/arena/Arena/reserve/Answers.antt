use Rattle.std.proofs.Common.{◌≡◌, ℕ, ◌+◌, ◌*◌, ◌/◌, ◌%◌, ◌<◌, ◌≤◌, min, length, Result, Ok, Err, OnErr, ap, ◌∙◌, arith, vec_len, vec_capacity}
use Rattle.ddr_row_array.specs.Blocks.{items_of}
use Rattle.ddr_row_array.proofs.Blocks.{filled_le, length_filled, Fills-block, items-block}
use Rattle.ddr_row_array.proofs.arena.Arena.reserve.Goals as goal

pub overflow_add-self-inside : goal.overflow_add-self-inside
overflow_add-self-inside g c =
    let a = c.self.inside in
    let most = filled_le a.len a.blocks.items c.self.invariant.filled in
    let bounded = c.self.invariant.bounded in
    record { fits = omega (arith, a.blocks.ok.0) }

pub loop-block-preserved : goal.loop-block-preserved
loop-block-preserved g c =
    let inv = c.loop-block.invariant in
    let block = c.in_ok-block.block in
    let room : 131072 ≤ vec_capacity block = let exact = c.in_ok-block.ensures.exact in omega arith in
    record {
      len = inv.len;
      filled = rw c.in_ok-push.ensures.items (Fills-block c.loop-block.self-inside.len c.loop-block.self-inside.blocks.items block inv.filled c.in_ok-block.ensures.len room);
      items = rw c.in_ok-push.ensures.items (items-block c.loop-block.self-inside.blocks.items block c.in_ok-block.ensures.items ∙ inv.items);
      counted = c.in_ok-push.ensures.len ∙ ap (λ n. n + 1) inv.counted;
      bounded = let test = c.loop-block-test.true in let most = c.if-blocks-gt-MOST_BLOCKS.false in omega arith;
    }

pub returns-clause-room : goal.returns-clause-room
returns-clause-room g c =
    let a = c.self.inside in
    let long = length_filled a.len a.blocks.items c.self.invariant.filled in
    let made = c.div_ceil-blocks.ensures in
    let all = c.loop-block-test.false in
    let counted = c.loop-block.invariant.counted in
    rw (← c.self.view_is) (omega (arith, long, made, all, counted))

on_err : {T E P : Type 0} (r : Result T E) → P → OnErr r P
on_err (Ok x) p = tt
on_err (Err e) p = p

-- too few blocks, as the code counts them
not_enough : (len room had wanted : ℕ) → wanted ≡ (len + room) / 131072 + min 1 ((len + room) % 131072) → had < wanted → had * 131072 < len + room
not_enough len room had wanted is less = omega arith

pub returns-then-blocks-gt-MOST_BLOCKS-clause-full : goal.returns-then-blocks-gt-MOST_BLOCKS-clause-full
returns-then-blocks-gt-MOST_BLOCKS-clause-full g c =
    let a = c.self.inside in
    let long = length_filled a.len a.blocks.items c.self.invariant.filled in
    let bounded = c.self.invariant.bounded in
    let test = c.if-blocks-gt-MOST_BLOCKS.true in
    let short = not_enough a.len c.args.room (vec_len a.blocks) c.div_ceil-blocks.result c.div_ceil-blocks.ensures (omega arith) in
    rw (← c.self.view_is) (omega (arith, long, short))

pub returns-in_err-block-clause-full : goal.returns-in_err-block-clause-full
returns-in_err-block-clause-full g c =
    let a = c.self.inside in
    let long = length_filled a.len a.blocks.items c.self.invariant.filled in
    let first = c.len-block.ensures in
    let from = c.loop-block.auto._block in
    let test = c.loop-block-test.true in
    let short = not_enough a.len c.args.room (vec_len a.blocks) c.div_ceil-blocks.result c.div_ceil-blocks.ensures (omega arith) in
    let full : vec_len a.blocks * 131072 < length (items_of a.blocks.items) + c.args.room = omega (arith, long, short) in
    rw (← c.self.view_is) (on_err c.from_residual.result full)

pub returns-in_err-push-clause-full : goal.returns-in_err-push-clause-full
returns-in_err-push-clause-full g c =
    let a = c.self.inside in
    let long = length_filled a.len a.blocks.items c.self.invariant.filled in
    let first = c.len-block.ensures in
    let from = c.loop-block.auto._block in
    let test = c.loop-block-test.true in
    let short = not_enough a.len c.args.room (vec_len a.blocks) c.div_ceil-blocks.result c.div_ceil-blocks.ensures (omega arith) in
    let full : vec_len a.blocks * 131072 < length (items_of a.blocks.items) + c.args.room = omega (arith, long, short) in
    rw (← c.self.view_is) (on_err c.from_residual-in_err-push.result full)
