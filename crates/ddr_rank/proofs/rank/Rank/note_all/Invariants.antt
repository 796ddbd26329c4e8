use Rattle.std.proofs.Common.{◌≡◌, ◌++◌, map, take, drop}
use Rattle.ddr_rank.specs.Noted.{bank_noted}
use Rattle.ddr_rank.proofs.rank.Rank.note_all.Given as goal

abbrev pub invariant-loop-bank : goal.invariant-loop-bank
invariant-loop-bank l =
    l.bank-items ≡ map (bank_noted l.entry) (take l.bank-index l.initial.bank-items) ++ drop l.bank-index l.initial.bank-items
