use Rattle.std.proofs.Common.{◌≡◌, ◌++◌, drop, string_bytes}
use Rattle.std.specs.Prelude.{codes, flat_map}
use Rattle.std.specs.Fmt.{decimal}
use Rattle.ddr_ledger.proofs.times_report.more_numbers.Given as goal

abbrev pub invariant-loop-number : goal.invariant-loop-number
invariant-loop-number l = string_bytes l.text ++ flat_map (λ n. codes ", " ++ decimal n) (drop l.number-index l.numbers) ≡ flat_map (λ n. codes ", " ++ decimal n) l.numbers
