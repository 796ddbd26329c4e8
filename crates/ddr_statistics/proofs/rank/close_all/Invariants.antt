use Rattle.std.proofs.Common.{◌≡◌, ◌++◌, map, take, drop}
use Rattle.ddr_statistics.specs.Noted.{bank_closed}
use Rattle.ddr_statistics.proofs.rank.close_all.Given as goal

abbrev pub invariant-loop-bank : goal.invariant-loop-bank
invariant-loop-bank l =
    l.bank-items ≡ map (bank_closed l.command) (take l.bank-index l.initial.bank-items) ++ drop l.bank-index l.initial.bank-items
