-- Rounds in which ports wait for their windows, some after others.
use Rattle.std.proofs.Common.{◌≡◌, ◌≢◌, ◌<◌, ◌≤◌, ℕ, zero, suc, Bool, true, false, List, [], ◌∷◌, if◌then◌else◌, refl, ap, ◌∙◌, arith}
use Rattle.std.specs.List.{slice_index_or, slice_set}
use Rattle.ddr_statistics.specs.Noted.{raised}
use Rattle.ddr_ledger.specs.declared.waited.Waited.{Waited}
use Rattle.ddr_ledger.specs.Ledgers.{Ledger, with_full}
use Rattle.ddr_ledger.specs.Waited.{no_wait, window_waited}
use Rattle.ddr_replay.specs.Waits.{all_full, filled}

once_more : (rounds : ℕ) (w : Waited) → window_waited rounds (window_waited 1 w) ≡ window_waited (suc rounds) w
once_more zero w = refl
once_more (suc more) w =
    let same : raised (suc more) (raised 1 w.window) ≡ raised (suc (suc more)) w.window = omega arith in
    ap (λ n. record w { window = n }) same

-- of one port
abbrev wait_in : ℕ → ℕ → List Waited → List Waited
wait_in rounds p all = slice_set all p (window_waited rounds (slice_index_or all p no_wait))

port_again : (rounds p : ℕ) (all : List Waited) → wait_in rounds p (wait_in 1 p all) ≡ wait_in (suc rounds) p all
port_again rounds p [] = refl
port_again rounds zero (w ∷ more) = ap (λ (x : Waited). x ∷ more) (once_more rounds w)
port_again rounds (suc p) (w ∷ more) = ap (λ (xs : List Waited). w ∷ xs) (port_again rounds p more)

port_beside : (a b p q : ℕ) (all : List Waited) → p ≢ q → wait_in a p (wait_in b q all) ≡ wait_in b q (wait_in a p all)
port_beside a b p q [] other = refl
port_beside a b zero zero (w ∷ more) other = absurd (other refl)
port_beside a b zero (suc q) (w ∷ more) other = refl
port_beside a b (suc p) zero (w ∷ more) other = refl
port_beside a b (suc p) (suc q) (w ∷ more) other = ap (λ (xs : List Waited). w ∷ xs) (port_beside a b p q more (λ e. other (ap suc e)))

abbrev with_waited : Ledger → List Waited → Ledger
with_waited ledger all = record ledger { waited = all }

filled_beside : (a b p q : ℕ) (v w : Bool) (ledger : Ledger) → p ≢ q
    → (if v then with_full p a (if w then with_full q b ledger else ledger) else (if w then with_full q b ledger else ledger))
    ≡ (if w then with_full q b (if v then with_full p a ledger else ledger) else (if v then with_full p a ledger else ledger))
filled_beside a b p q true true ledger other = ap (with_waited ledger) (port_beside a b p q ledger.waited other)
filled_beside a b p q true false ledger other = refl
filled_beside a b p q false true ledger other = refl
filled_beside a b p q false false ledger other = refl

filled_again : (rounds p : ℕ) (v : Bool) (ledger : Ledger)
    → (if v then with_full p rounds (if v then with_full p 1 ledger else ledger) else (if v then with_full p 1 ledger else ledger)) ≡ (if v then with_full p (suc rounds) ledger else ledger)
filled_again rounds p true ledger = ap (with_waited ledger) (port_again rounds p ledger.waited)
filled_again rounds p false ledger = refl

-- of the first so many ports, and one behind them
pub all_beside : (rounds p n : ℕ) (come : ℕ → Bool) (ledger : Ledger) → n ≤ p → all_full rounds come n (filled 1 come p ledger) ≡ filled 1 come p (all_full rounds come n ledger)
all_beside rounds p zero come ledger below = refl
all_beside rounds p (suc n) come ledger below =
    ap (filled rounds come n) (all_beside rounds p n come ledger (omega (arith, below)))
    ∙ filled_beside rounds 1 n p (come n) (come p) (all_full rounds come n ledger) (λ e. absurd (omega (arith, below, e)))

-- one round, and some more
pub all_again : (rounds n : ℕ) (come : ℕ → Bool) (ledger : Ledger) → all_full rounds come n (all_full 1 come n ledger) ≡ all_full (suc rounds) come n ledger
all_again rounds zero come ledger = refl
all_again rounds (suc p) come ledger =
    ap (filled rounds come p) (all_beside rounds p p come (all_full 1 come p ledger) (omega arith))
    ∙ filled_again rounds p (come p) (all_full rounds come p (all_full 1 come p ledger))
    ∙ ap (filled (suc rounds) come p) (all_again rounds p come ledger)

-- by the same tests it comes to the same
pub all_alike : (rounds n : ℕ) (come other : ℕ → Bool) (ledger : Ledger) → ((p : ℕ) → p < n → come p ≡ other p) → all_full rounds come n ledger ≡ all_full rounds other n ledger
all_alike rounds zero come other ledger alike = refl
all_alike rounds (suc p) come other ledger alike =
    ap (λ v. if v then with_full p rounds (all_full rounds come p ledger) else all_full rounds come p ledger) (alike p (omega arith))
    ∙ ap (filled rounds other p) (all_alike rounds p come other ledger (λ q below. alike q (omega (arith, below))))

-- in no round nobody waits
none_again : (p : ℕ) (all : List Waited) → wait_in 0 p all ≡ all
none_again p [] = refl
none_again zero (w ∷ more) = refl
none_again (suc p) (w ∷ more) = ap (λ (xs : List Waited). w ∷ xs) (none_again p more)

filled_none : (p : ℕ) (v : Bool) (ledger : Ledger) → (if v then with_full p 0 ledger else ledger) ≡ ledger
filled_none p true ledger = ap (with_waited ledger) (none_again p ledger.waited)
filled_none p false ledger = refl

pub all_none : (n : ℕ) (come : ℕ → Bool) (ledger : Ledger) → all_full 0 come n ledger ≡ ledger
all_none zero come ledger = refl
all_none (suc p) come ledger = filled_none p (come p) (all_full 0 come p ledger) ∙ all_none p come ledger
