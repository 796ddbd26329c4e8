-- Rounds in which a port waits for its window, counted at once.
use Rattle.std.proofs.Common.{◌≡◌, ◌<◌, ◌^◌, ℕ, zero, suc, ap, arith}
use Rattle.ddr_statistics.specs.Noted.{raised}
use Rattle.ddr_ledger.specs.declared.waited.Waited.{Waited}
use Rattle.ddr_ledger.specs.Waited.{window_waited}

-- as many rounds as a number holds
pub full_for : (rounds window : ℕ) (w : Waited) → w.window < 2 ^ 64 → window ≡ raised rounds w.window → record w { window = window } ≡ window_waited rounds w
full_for zero window w small is =
    let same : window ≡ w.window = omega (arith, small, is) in
    ap (λ n. record w { window = n }) same
full_for (suc more) window w small is = ap (λ n. record w { window = n }) is
