-- What the commands of a rank make of its banks.
use Rattle.std.proofs.Common.{◌≡◌, ℕ, suc, ◌+◌, ◌<◌, ◌≤◌, Bool, true, false, ◌||◌, cond, eqb, leb, List, [], ◌∷◌, ◌++◌, Option, Some, None, refl, sym, ◌∙◌, inl, inr, arith}
use Rattle.std.specs.List.{fold, list_any}
use Rattle.std.specs.Option.{IfSome, is_some, option_map}
use Rattle.std.proofs.lemmas.Bool.{eq-eqb, leb-true, le-leb, le-ltb, false≢true, cases_Bool}
use Rattle.ddr_timing.specs.declared.timing.Timing.{Timing}
use Rattle.ddr_trace.specs.declared.bank.OpenBank.{OpenBank}
use Rattle.ddr_trace.specs.declared.command.Command.{Command}
use Rattle.ddr_trace.specs.declared.command.Command.TheVariants.{Pre, PreAll, Refresh}
use Rattle.ddr_trace.specs.declared.command.Entry.{Entry}
use Rattle.ddr_trace.specs.Banks.{auto_start, bank_after, bank_behind, changed_by, closing, is_active, is_auto_within, is_before_start, opened, recovery, row_until}
use Rattle.ddr_trace.specs.Commands.{entry, is_activate, is_auto, is_precharge, is_read, is_same_bank, rank_of}
use Rattle.ddr_trace.proofs.BankLemmas.{bank_behind-append}
use Rattle.ddr_channel.specs.Refresh.{recovery_time}
use Rattle.ddr_channel.proofs.BusLemmas.{Each, is_of}

-- PREA leaves no bank of its rank open
pub bank_closed : (rank group bank cycle : ℕ) (before : List Entry) → bank_behind (Pre rank group bank) (before ++ entry cycle (PreAll rank) ∷ []) ≡ None
bank_closed rank group bank cycle before = bank_behind-append (Pre rank group bank) before (entry cycle (PreAll rank)) ∙ rw (eq-eqb rank rank refl) refl

-- a command of another rank changes none
pub bank_elsewhere : (rank group bank : ℕ) (before : List Entry) (x : Entry) → is_of rank x ≡ false → bank_behind (Pre rank group bank) (before ++ x ∷ []) ≡ bank_behind (Pre rank group bank) before
bank_elsewhere rank group bank before x other = bank_behind-append (Pre rank group bank) before x ∙ rw other refl

either_same : {X : Type 0} (b : Bool) (x : X) → cond b x x ≡ x
either_same true x = refl
either_same false x = refl

-- nor does a REF
pub bank_refreshed : (rank group bank cycle : ℕ) (before : List Entry) → bank_behind (Pre rank group bank) (before ++ entry cycle (Refresh rank) ∷ []) ≡ bank_behind (Pre rank group bank) before
bank_refreshed rank group bank cycle before = bank_behind-append (Pre rank group bank) before (entry cycle (Refresh rank)) ∙ either_same _ (bank_behind (Pre rank group bank) before)

-- tests of banks

pub any_implies : (p q : ℕ → Bool) (xs : List ℕ) → ((x : ℕ) → p x ≡ true → q x ≡ true) → list_any p xs ≡ true → list_any q xs ≡ true
any_implies p q [] implies some = absurd (false≢true some)
any_implies p q (x ∷ xs) implies some = by_test (p x) (q x) refl refl (any_implies p q xs implies)
  where
    by_test : (v w : Bool) → p x ≡ v → q x ≡ w → (list_any p xs ≡ true → list_any q xs ≡ true) → (q x || list_any q xs) ≡ true
    by_test v true here there rest = rw there refl
    by_test true false here there rest = absurd (false≢true (sym there ∙ implies x here))
    by_test false false here there rest = rw there (rest (rw here at some))

pub any_none : (p : ℕ → Bool) (xs : List ℕ) → ((x : ℕ) → p x ≡ false) → list_any p xs ≡ false
any_none p [] none = refl
any_none p (x ∷ xs) none = rw (none x) (any_none p xs none)

-- a bank that is active was so in the cycle before, where nothing was done to it
pub active_before : (t : Timing) (cycle : ℕ) (bank : Option OpenBank) → is_active t (cycle + 1) bank ≡ true → is_active t cycle bank ≡ true
active_before t cycle None active = active
active_before t cycle (Some bank) active = by_auto bank.auto active
  where
    by_auto : (auto : Option Entry) → is_some (row_until t (cycle + 1) bank auto) ≡ true → is_some (row_until t cycle bank auto) ≡ true
    by_auto None is = refl
    by_auto (Some a) is = elim (cases_Bool (leb (auto_start t bank a) cycle)) [
      | inr later ↦ rw later refl
      | inl past ↦
          let started = leb-true (auto_start t bank a) cycle past in
          let still = le-leb (auto_start t bank a) (cycle + 1) (omega (arith, started)) in
          absurd (false≢true (rw still at is))
    ]

-- a bank whose commands all stand before a cycle

abbrev pub IsBefore : ℕ → Option OpenBank → Type 0
IsBefore cycle bank = IfSome bank (λ b. (b.since < cycle) × IfSome b.auto (λ a. a.cycle < cycle))

changed_before : (cycle : ℕ) (x : Entry) (bank : Option OpenBank) → x.cycle < cycle → IsBefore cycle bank → IsBefore cycle (changed_by x bank)
changed_before cycle x bank early before = by_kind (is_activate x.command) (is_precharge x.command) (is_auto x.command) bank before
  where
    by_kind : (act pre auto : Bool) (b : Option OpenBank) → IsBefore cycle b → IsBefore cycle (cond act (Some (opened x)) (cond pre None (cond auto (option_map {T = OpenBank} (closing x) b) b)))
    by_kind true pre auto b was = (early, tt)
    by_kind false true auto b was = tt
    by_kind false false false b was = was
    by_kind false false true None was = tt
    by_kind false false true (Some o) was = (was.0, early)

fold_before : (rank group bank cycle : ℕ) (entries : List Entry) (start : Option OpenBank) → Each (is_of rank) (λ e. e.cycle < cycle) entries → IsBefore cycle start → IsBefore cycle (fold (bank_after (Pre rank group bank)) start entries)
fold_before rank group bank cycle [] start all was = was
fold_before rank group bank cycle (x ∷ xs) start all was = fold_before rank group bank cycle xs (bank_after (Pre rank group bank) start x) (λ i e is of. all (suc i) e is of) (by_rank (eqb (rank_of x.command) rank) refl)
  where
    by_bank : (same : Bool) → x.cycle < cycle → IsBefore cycle (cond same (changed_by x start) start)
    by_bank true early = changed_before cycle x start early was
    by_bank false early = was

    by_rank : (w : Bool) → eqb (rank_of x.command) rank ≡ w → IsBefore cycle (bank_after (Pre rank group bank) start x)
    by_rank true of = by_bank (is_same_bank x.command (Pre rank group bank)) (all 0 x refl of)
    by_rank false other = rw other was

pub bank_before : (rank group bank cycle : ℕ) (entries : List Entry) → Each (is_of rank) (λ e. e.cycle < cycle) entries → IsBefore cycle (bank_behind (Pre rank group bank) entries)
unfolding bank_behind
bank_before rank group bank cycle entries all = fold_before rank group bank cycle entries None all tt

recovers : (t : Timing) (c : Command) → recovery t c ≤ recovery_time t
recovers t c = by_kind (is_read c)
  where
    by_kind : (w : Bool) → cond w t.rtp (t.cwl + 4 + t.wr) ≤ recovery_time t
    by_kind true = omega arith
    by_kind false = omega arith

-- an auto-precharge of such a bank is over by the recovery time and RP
pub auto_over : (t : Timing) (cycle now : ℕ) (bank : Option OpenBank) → IsBefore cycle bank → cycle + recovery_time t + t.rp ≤ now + 1 → is_auto_within t t.rp now bank ≡ false
auto_over t cycle now None was late = refl
auto_over t cycle now (Some bank) was late = by_auto bank.auto was.1
  where
    by_auto : (auto : Option Entry) → IfSome auto (λ a. a.cycle < cycle) → is_before_start t t.rp now bank auto ≡ false
    by_auto None early = refl
    by_auto (Some a) early =
        let r = recovers t a.command in
        le-ltb now (auto_start t bank a + t.rp) (omega (arith, r, early, was.0, late))
