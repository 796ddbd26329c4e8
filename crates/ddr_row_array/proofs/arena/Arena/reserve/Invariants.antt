use Rattle.std.proofs.Common.{◌≡◌, ◌≤◌, ◌^◌, vec_len}
use Rattle.ddr_row_array.specs.Blocks.{items_of, Fills}
use Rattle.ddr_row_array.proofs.arena.Arena.reserve.Given as goal

abbrev pub invariant-loop-block : goal.invariant-loop-block
invariant-loop-block g l = record {
  len : l.self-inside.len ≡ l.initial.self-inside.len;
  filled : Fills l.self-inside.len l.self-inside.blocks.items;
  items : items_of l.self-inside.blocks.items ≡ items_of l.initial.self-inside.blocks.items;
  counted : vec_len l.self-inside.blocks ≡ l._block;
  bounded : l._block ≤ 2 ^ 40;
}
