-- Which steps of a request are legal, by the distances behind what was issued.
use Rattle.std.specs.Prelude.{◌≡◌, ◌+◌, ◌≤◌, Some, None}
use Rattle.ddr_trace.specs.declared.bank.OpenBank.{OpenBank}
use Rattle.ddr_trace.specs.Banks.{bank_behind}
use Rattle.ddr_trace.specs.Legality.{IsLegal}
use Rattle.ddr_legality.specs.Bus.{Bus}
use Rattle.ddr_address_map.specs.declared.place.Place.{Place}
use Rattle.ddr_arbiter.specs.Commands.{precharge_at}

-- the cycle is a next one, behind a legal trace
pub record IsNextOf (b : Bus) : Type 0 where
  pub begun : b.start ≤ b.now
  pub legal : IsLegal b.config b.start b.now b.trace

-- the bank of the place is open with its row, with no auto-precharge to come, and RCD is over
pub record IsOpenFor (b : Bus) (p : Place) : Type 0 where
  pub bank : OpenBank
  pub held : bank_behind (precharge_at p) b.trace ≡ Some bank
  pub stays : bank.auto ≡ None
  pub row : bank.row ≡ p.row
  pub opened : bank.since + b.config.timing.rcd ≤ b.now
