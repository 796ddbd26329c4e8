-- Banks as they are kept, against what the history makes of them.
use Rattle.std.proofs.Common.{◌≡◌, ℕ, ◌+◌, ◌*◌, ◌/◌, ◌%◌, ◌<◌, ◌≤◌, suc, Bool, true, false, ◌&&◌, ◌==◌, if◌then◌else◌, List, [], ◌∷◌, length, get_or, Option, None, ◌⊎◌, inl, inr, refl, ap, arith, ◌∙◌}
use Rattle.std.specs.List.{AllByRecursion, fold, list_any, range_with_len}
use Rattle.std.proofs.lemmas.Bool.Decides.{nat_tests}
use Rattle.ddr_timing.specs.declared.geometry.Geometry.{Geometry}
use Rattle.ddr_timing.specs.declared.units.TheConstants.{GROUP_BANKS}
use Rattle.ddr_trace.specs.declared.bank.OpenBank.{OpenBank}
use Rattle.ddr_trace.specs.declared.command.Command.{Command}
use Rattle.ddr_trace.specs.declared.command.Command.TheVariants.{Act, Pre}
use Rattle.ddr_trace.specs.declared.command.Entry.{Entry}
use Rattle.ddr_trace.specs.Banks.{any_bank, bank_after, bank_behind}
use Rattle.ddr_trace.specs.Rules.{is_in}
use Rattle.ddr_trace.proofs.PlaceLemmas.{bank_in, group_in}
use Rattle.ddr_rank.specs.Readiness.{Readiness, idle}
use Rattle.ddr_rank.specs.Stands.{StandsFor}

-- a test of some element, by the numbers of the elements
any_numbered : {X : Type 0} (p : X → Bool) (q : ℕ → Bool) (d : X) (xs : List X) (a : ℕ) → ((i : ℕ) → i < length xs → p (get_or xs i d) ≡ q (a + i)) → list_any p xs ≡ list_any q (range_with_len a (length xs))
any_numbered p q d [] a same = refl
any_numbered p q d (x ∷ xs) a same =
    let first : p x ≡ q a = same 0 (omega arith) ∙ ap q (omega arith) in
    let rest : (i : ℕ) → i < length xs → p (get_or xs i d) ≡ q (a + 1 + i) = λ i within. same (suc i) (omega arith) ∙ ap q (omega arith) in
    rw (first, any_numbered p q d xs (a + 1) rest) refl

-- a test of some bank of the rank
pub any_told : (r : Readiness) (k : ℕ) (history : List Entry) → StandsFor r k history → (test : Option OpenBank → Bool) → list_any (λ bank. test bank.opened) r.banks ≡ any_bank r.config.geometry k (λ bank. test (bank_behind bank history))
any_told r k history s test =
    any_numbered (λ bank. test bank.opened) (λ n. test (bank_behind (Pre k (n / 4) (n % 4)) history)) idle r.banks 0 kept
    ∙ ap (λ n. list_any (λ n. test (bank_behind (Pre k (n / 4) (n % 4)) history)) (range_with_len 0 n)) s.whole.banks
  where
    kept : (i : ℕ) → i < length r.banks → test (get_or r.banks i idle).opened ≡ test (bank_behind (Pre k ((0 + i) / 4) ((0 + i) % 4)) history)
    kept i within =
        let place : i / 4 * 4 + i % 4 ≡ i = omega arith in
        let group : i / 4 < r.config.geometry.groups = omega (arith, s.whole.banks) in
        let bank : i % 4 < GROUP_BANKS = omega arith in
        let number : i ≡ 0 + i = omega arith in
        ap test (rw place at (s.banks (i / 4) (i % 4) group bank).opened)
        ∙ ap (λ n. test (bank_behind (Pre k (n / 4) (n % 4)) history)) number

-- no command opens a bank outside the geometry
apart : (geometry : Geometry) (g b g' b' : ℕ) → g' < geometry.groups → b' < GROUP_BANKS → (geometry.groups ≤ g) ⊎ (GROUP_BANKS ≤ b) → (g' == g && b' == b) ≡ false
apart geometry g b g' b' group bank (inl high) = grind (arith, nat_tests)
apart geometry g b g' b' group bank (inr high) = grind (arith, nat_tests)

abbrev nothing : Option OpenBank
nothing = None

stays_none : (w : Bool) → (if w then nothing else None) ≡ nothing
stays_none true = refl
stays_none false = refl

outside_one : (geometry : Geometry) (k g b : ℕ) → (geometry.groups ≤ g) ⊎ (GROUP_BANKS ≤ b) → (a : Entry) (c : Command) → a.command ≡ c → is_in geometry c ≡ true → bank_after (Pre k g b) None a ≡ None
outside_one geometry k g b out a (Act k' g' b' w) e placed =
    rw (e, apart geometry g b g' b' (group_in geometry (Act k' g' b' w) placed) (bank_in geometry (Act k' g' b' w) placed) out) (none (k' == k) _)
  where
    none : (x : Bool) (o : Option OpenBank) → (if x && false then o else None) ≡ None
    none true o = refl
    none false o = refl
outside_one geometry k g b out a c e placed = rw e (stays_none _)

outside_fold : (geometry : Geometry) (k g b : ℕ) (history : List Entry) → AllByRecursion (λ e. is_in geometry e.command ≡ true) history → (geometry.groups ≤ g) ⊎ (GROUP_BANKS ≤ b) → fold (bank_after (Pre k g b)) None history ≡ None
outside_fold geometry k g b [] placed out = refl
outside_fold geometry k g b (a ∷ history) placed out =
    ap (λ bank. fold (bank_after (Pre k g b)) bank history) (outside_one geometry k g b out a a.command refl placed.0)
    ∙ outside_fold geometry k g b history placed.1 out

pub outside_idle : (geometry : Geometry) (k g b : ℕ) (history : List Entry) → AllByRecursion (λ e. is_in geometry e.command ≡ true) history → (geometry.groups ≤ g) ⊎ (GROUP_BANKS ≤ b) → bank_behind (Pre k g b) history ≡ None
unfolding bank_behind
outside_idle geometry k g b history placed out = outside_fold geometry k g b history placed out
