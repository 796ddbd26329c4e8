-- Until when neither a REF nor a PREA can be chosen for a rank whose banks are all idle: the first cycle of its REF.
use Rattle.std.proofs.Common.{◌≡◌, ℕ, ◌+◌, ◌*◌, ◌/◌, ◌%◌, ◌≤◌, Bool, true, false, ◌||◌, cond, leb, List, [], ◌∷◌, Option, Some, None, refl, sym, ap, ◌∙◌, inl, inr, arith}
use Rattle.std.specs.List.{list_any, range_with_len}
use Rattle.std.specs.Option.{is_some}
use Rattle.std.proofs.lemmas.Bool.{cases_Bool, false≢true, leb-false, lt-leb, or_parts, true≢false}
use Rattle.ddr_timing.specs.declared.timing.Timing.{Timing}
use Rattle.ddr_trace.specs.declared.bank.OpenBank.{OpenBank}
use Rattle.ddr_trace.specs.declared.command.Command.TheVariants.{Pre}
use Rattle.ddr_trace.specs.declared.command.Entry.{Entry}
use Rattle.ddr_trace.specs.Banks.{auto_start, bank_behind, open_row, row_until}
use Rattle.ddr_legality.specs.Bus.{Bus, open_row_now, passed}
use Rattle.ddr_arbiter.specs.Choice.{some_bank_active}
use Rattle.ddr_arbiter.specs.Commands.{refresh}
use Rattle.ddr_arbiter.specs.Until.{IsRefreshStuckUntil}
use Rattle.ddr_arbiter.proofs.StuckLemmas.{IsAllowedFrom, LAST_CYCLE, refused_before}

-- a bank that is idle stays so where nothing is issued

still_open : (t : Timing) (now count : ℕ) (o : Option OpenBank) → is_some (open_row t (now + count) o) ≡ true → is_some (open_row t now o) ≡ true
still_open t now count None opened = opened
still_open t now count (Some bank) opened = by_auto bank.auto opened
  where
    by_auto : (auto : Option Entry) → is_some (row_until t (now + count) bank auto) ≡ true → is_some (row_until t now bank auto) ≡ true
    by_auto None same = refl
    by_auto (Some e) is = elim (cases_Bool (leb (auto_start t bank e) (now + count))) [
      | inl closed ↦ absurd (false≢true (sym (ap (λ w. is_some (cond w None (Some bank.row))) closed) ∙ is))
      | inr before ↦ ap (λ w. is_some (cond w None (Some bank.row))) (lt-leb (auto_start t bank e) now (omega (arith, leb-false (auto_start t bank e) (now + count) before)))
    ]

any_fewer : (p q : ℕ → Bool) (xs : List ℕ) → ((x : ℕ) → q x ≡ true → p x ≡ true) → list_any p xs ≡ false → list_any q xs ≡ false
any_fewer p q [] fewer none = refl
any_fewer p q (x ∷ xs) fewer none =
    let parts = or_parts (p x) (list_any p xs) none in
    by_test (q x) refl parts.0 (any_fewer p q xs fewer parts.1)
  where
    by_test : (w : Bool) → q x ≡ w → p x ≡ false → list_any q xs ≡ false → (q x || list_any q xs) ≡ false
    by_test true e here rest = absurd (true≢false (sym (fewer x e) ∙ here))
    by_test false e here rest = rw e rest

stays_idle : (b : Bus) (rank count : ℕ) → some_bank_active b rank ≡ false → some_bank_active (passed count b) rank ≡ false
stays_idle b rank count idle =
    any_fewer (λ n. is_some (open_row_now b (Pre rank (n / 4) (n % 4)))) (λ n. is_some (open_row_now (passed count b) (Pre rank (n / 4) (n % 4)))) (range_with_len 0 (b.config.geometry.groups * 4))
    (λ n. still_open b.config.timing b.now count (bank_behind (Pre rank (n / 4) (n % 4)) b.trace)) idle

-- a rank whose banks are all idle waits for its REF alone
pub refresh_stuck : (b : Bus) (rank first : ℕ) → some_bank_active b rank ≡ false → first ≤ LAST_CYCLE → IsAllowedFrom b (refresh rank) first → IsRefreshStuckUntil first b rank
refresh_stuck b rank first idle bound allowed = λ count before. rw (stays_idle b rank count idle, refused_before b (refresh rank) first count bound allowed before) refl
