use Rattle.std.proofs.Common.{◌≡◌}
use Rattle.std.specs.List.{fold, range_with_len}
use Rattle.ddr_trace.specs.declared.rule.Rule.TheVariants as rule
use Rattle.ddr_draw.specs.Held.{bank_at, wait_of_bank}
use Rattle.ddr_draw.proofs.starts.wait_of_rank.Given as goal

abbrev pub invariant-loop-number : goal.invariant-loop-number
invariant-loop-number l =
    l.best ≡ fold (λ found n. wait_of_bank l.config.timing rule.RpRef l.first l.recent (bank_at l.rank n) found) l.fn.found (range_with_len 0 l.number)
