-- What becomes of a row array, and of what it stores, once a line that was lent for writing is given back.
use Rattle.std.specs.Prelude.{ℕ, List, Option}
use Rattle.std.specs.Borrow.{Lends, LendsIf, MutBor, Fml, u8, Array}
use Rattle.ddr_row_array.specs.LentItem.{with_item}
use Rattle.ddr_row_array.specs.declared.store.Store.{Store}
use Rattle.ddr_row_array.specs.contracts.store.Store.{the_row as store_row}
use Rattle.ddr_row_array.specs.contracts.row_array.RowArray.{the_row}
use Rattle.ddr_row_array.specs.Rows.{Rows}
use Rattle.ddr_row_array.specs.Writes.{with_burst}

-- the store ends with what is left behind r at the place
abbrev pub LendsLine : MutBor Store → ℕ → MutBor (List ℕ) → Fml
LendsLine s place r = Lends store_row (Array u8 0) s r (λ new. record s.now { lines = with_item s.now.lines place new })

-- the row array ends with what is left behind r in the line of the bank's open row
abbrev pub LendsOpenLine : MutBor Rows → ℕ → ℕ → MutBor (List ℕ) → Fml
LendsOpenLine a bank line r = Lends the_row (Array u8 0) a r (with_burst a.now bank line)

-- the same where there is a burst to lend; where there is none, the row array stays as it is
abbrev pub LendsBurst : MutBor Rows → ℕ → ℕ → Option (MutBor (List ℕ)) → Fml
LendsBurst a bank line r = LendsIf the_row (Array u8 0) a r (with_burst a.now bank line) a.now
