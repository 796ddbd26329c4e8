use Rattle.std.proofs.Common.{◌≡◌, ◌++◌, map, take, drop}
use Rattle.ddr_rank.specs.Ready.{raised}
use Rattle.ddr_rank.proofs.ready.raise_all.Given as goal

abbrev pub invariant-loop-bank : goal.invariant-loop-bank
invariant-loop-bank l =
    l.banks ≡ map (raised l.to) (take l.bank-index l.initial.banks) ++ drop l.bank-index l.initial.banks
