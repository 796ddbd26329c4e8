use Rattle.std.proofs.Common.{◌≡◌, ℕ, ◌&&◌, cond, leb, ltb, None}
use Rattle.ddr_row_array.specs.Changes.{SameBytes}
use Rattle.ddr_row_array.specs.Rows.{open_row}
use Rattle.ddr_channel.proofs.bus.close_banks.Given as goal

abbrev pub invariant-loop-bank : goal.invariant-loop-bank
invariant-loop-bank l = (SameBytes l.initial.rows l.rows) × ((k : ℕ) → open_row l.rows k ≡ cond (leb l.first k && ltb k l.bank) None (open_row l.initial.rows k))
