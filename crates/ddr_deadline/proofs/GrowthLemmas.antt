-- What one more command makes of the cycles from which on others may come.
use Rattle.std.proofs.Common.{◌≡◌, ℕ, ◌+◌, ◌≤◌, Bool, true, false, ◌&&◌, not, cond, max, List, [], ◌∷◌, ◌++◌, Some, None, refl, ap, ◌∙◌, arith}
use Rattle.std.specs.List.{count_by}
use Rattle.std.proofs.Math.Nat.{max-le}
use Rattle.std.proofs.lemmas.List.Sums.{sum_by-append}
use Rattle.std.proofs.lemmas.Bool.{eq-eqb}
use Rattle.ddr_timing.specs.declared.timing.Timing.{Timing}
use Rattle.ddr_trace.specs.declared.command.Command.{Command}
use Rattle.ddr_trace.specs.declared.command.Entry.{Entry}
use Rattle.ddr_trace.specs.declared.rule.Rule.{Rule}
use Rattle.ddr_trace.specs.declared.rule.Rule.TheVariants as rule
use Rattle.ddr_trace.specs.Banks.{bank_behind, opened}
use Rattle.ddr_trace.specs.Commands.{entry, is_activate, is_column, is_read, is_refresh, is_same_rank, is_write}
use Rattle.ddr_trace.specs.Rules.{Spacing, rank_switch, spacing_of, speaks_of}
use Rattle.ddr_trace.proofs.BankLemmas.{bank_behind-append}
use Rattle.ddr_address_map.specs.declared.place.Place.{Place}
use Rattle.ddr_arbiter.specs.Commands.{activate_at, precharge_at}
use Rattle.ddr_deadline.specs.Behind.{activate_from, auto_from, behind, column_from, four_from, spaced_from, switched_from}
use Rattle.ddr_deadline.proofs.BehindLemmas.{behind_append}
use Rattle.ddr_deadline.proofs.LegalLemmas.{most_of_seven}

-- a command that isn't an earlier one of the rule moves nothing

pub still : (test : Command → Bool) (distance : Command → ℕ) (history : List Entry) (x : Entry) → test x.command ≡ false → behind test distance (history ++ x ∷ []) ≡ behind test distance history
still test distance history x no_test =
    behind_append test distance history x ∙ ap (λ w. max (behind test distance history) (cond w (x.cycle + distance x.command) 0)) no_test ∙ none (behind test distance history)
  where
    none : (n : ℕ) → max n 0 ≡ n
    none n = omega arith

not_earlier : (a b c : Bool) → a ≡ false → (a && b && c) ≡ false
not_earlier a b c is = rw is refl

pub spaced_still : (s : Spacing) (command : Command) (history : List Entry) (x : Entry) → s.earlier x.command ≡ false → spaced_from s command (history ++ x ∷ []) ≡ spaced_from s command history
spaced_still s command history x is = still (λ a. speaks_of s a command) (λ _. s.at_least) history x (not_earlier (s.earlier x.command) (s.later command) (s.pairs x.command command) is)

-- and one that is moves it by its distance at most
spaced_more : (s : Spacing) (command : Command) (history : List Entry) (x : Entry) → spaced_from s command (history ++ x ∷ []) ≤ max (spaced_from s command history) (x.cycle + s.at_least)
spaced_more s command history x =
    let it = behind_append (λ a. speaks_of s a command) (λ _. s.at_least) history x in
    let most = by_test (speaks_of s x.command command) in
    omega (arith, it, most)
  where
    by_test : (w : Bool) → cond w (x.cycle + s.at_least) 0 ≤ x.cycle + s.at_least
    by_test true = omega arith
    by_test false = omega arith

pub switched_still : (t : Timing) (command : Command) (history : List Entry) (x : Entry) → is_column x.command ≡ false → switched_from t command (history ++ x ∷ []) ≡ switched_from t command history
switched_still t command history x is =
    still (λ a. is_column a && is_column command && not (is_same_rank a command)) (λ a. rank_switch t a command) history x (not_earlier (is_column x.command) (is_column command) (not (is_same_rank x.command command)) is)

pub four_still : (t : Timing) (command : Command) (history : List Entry) (x : Entry) → is_activate x.command ≡ false → four_from t command (history ++ x ∷ []) ≡ four_from t command history
four_still t command [] x is = rw is refl
four_still t command (a ∷ between) x is = rw (counts, four_still t command between x is) refl
  where
    counted : Entry → Bool
    counted m = is_activate m.command && is_same_rank m.command command

    counts : count_by (λ m. is_activate m.command && is_same_rank m.command command) (between ++ x ∷ []) ≡ count_by (λ m. is_activate m.command && is_same_rank m.command command) between
    counts = sum_by-append (λ m. cond (is_activate m.command && is_same_rank m.command command) 1 0) between (x ∷ []) ∙ rw is (omega arith)

-- the cycle of a read or write isn't moved by an ACT or a PRE

pub alike_seven : (a b c d e f g a' b' c' d' e' f' g' : ℕ) → a' ≡ a → b' ≡ b → c' ≡ c → d' ≡ d → e' ≡ e → f' ≡ f → g' ≡ g → max (max (max a' b') (max c' d')) (max (max e' f') g') ≡ max (max (max a b) (max c d)) (max (max e f) g)
alike_seven a b c d e f g a' b' c' d' e' f' g' one two three four five six seven = rw (one, two, three, four, five, six, seven) refl

pub column_still : (t : Timing) (command : Command) (history : List Entry) (x : Entry) → is_column x.command ≡ false → is_read x.command ≡ false → is_write x.command ≡ false → is_refresh x.command ≡ false → column_from t command (history ++ x ∷ []) ≡ column_from t command history
column_still t command history x column read write refresh =
    let by : Rule → ℕ = λ r. spaced_from (spacing_of t r) command history in
    let new : Rule → ℕ = λ r. spaced_from (spacing_of t r) command (history ++ x ∷ []) in
    alike_seven (by rule.CcdL) (by rule.CcdS) (by rule.WtrL) (by rule.WtrS) (by rule.Rtw) (by rule.Rfc) (switched_from t command history)
    (new rule.CcdL) (new rule.CcdS) (new rule.WtrL) (new rule.WtrS) (new rule.Rtw) (new rule.Rfc) (switched_from t command (history ++ x ∷ []))
    (spaced_still (spacing_of t rule.CcdL) command history x column) (spaced_still (spacing_of t rule.CcdS) command history x column)
    (spaced_still (spacing_of t rule.WtrL) command history x write) (spaced_still (spacing_of t rule.WtrS) command history x write)
    (spaced_still (spacing_of t rule.Rtw) command history x read) (spaced_still (spacing_of t rule.Rfc) command history x refresh)
    (switched_still t command history x column)

-- a PRE of the bank moves its ACT by RP at most, and leaves no auto-precharge to come

grown_seven : (a b c d e f g big n a' b' c' d' e' f' g' : ℕ) → max (max (max a b) (max c d)) (max (max e f) g) ≤ big → a' ≡ a → b' ≤ max b n → c' ≡ c → d' ≡ d → e' ≡ e → f' ≡ f → g' ≡ 0 →
    max (max (max a' b') (max c' d')) (max (max e' f') g') ≤ max big n
grown_seven a b c d e f g big n a' b' c' d' e' f' g' most one two three four five six seven =
    let each = most_of_seven a b c d e f g big most in
    max-le
    (max-le (max-le (omega (arith, each.0, one)) (omega (arith, each.1, two))) (max-le (omega (arith, each.2, three)) (omega (arith, each.3, four))))
    (max-le (max-le (omega (arith, each.4, five)) (omega (arith, each.5, six))) (omega (arith, seven)))

pub bank_closed : (p : Place) (history : List Entry) (cycle : ℕ) → bank_behind (precharge_at p) (history ++ entry cycle (precharge_at p) ∷ []) ≡ None
bank_closed p history cycle =
    bank_behind-append (precharge_at p) history (entry cycle (precharge_at p)) ∙ rw (eq-eqb p.rank p.rank refl, eq-eqb p.group p.group refl, eq-eqb p.bank p.bank refl) refl

pub bank_opened : (p : Place) (history : List Entry) (cycle : ℕ) → bank_behind (precharge_at p) (history ++ entry cycle (activate_at p) ∷ []) ≡ Some (opened (entry cycle (activate_at p)))
bank_opened p history cycle =
    bank_behind-append (precharge_at p) history (entry cycle (activate_at p)) ∙ rw (eq-eqb p.rank p.rank refl, eq-eqb p.group p.group refl, eq-eqb p.bank p.bank refl) refl

pub activate_closed : (t : Timing) (p : Place) (history : List Entry) (cycle : ℕ) → activate_from t p (history ++ entry cycle (precharge_at p) ∷ []) ≤ max (activate_from t p history) (cycle + t.rp)
activate_closed t p history cycle =
    let c = activate_at p in
    let x = entry cycle (precharge_at p) in
    let by : Rule → ℕ = λ r. spaced_from (spacing_of t r) c history in
    let new : Rule → ℕ = λ r. spaced_from (spacing_of t r) c (history ++ x ∷ []) in
    grown_seven (by rule.Rc) (by rule.Rp) (by rule.RrdL) (by rule.RrdS) (by rule.Rfc) (four_from t c history) (auto_from t (bank_behind (precharge_at p) history)) (activate_from t p history) (cycle + t.rp)
    (new rule.Rc) (new rule.Rp) (new rule.RrdL) (new rule.RrdS) (new rule.Rfc) (four_from t c (history ++ x ∷ [])) (auto_from t (bank_behind (precharge_at p) (history ++ x ∷ [])))
    (same (activate_from t p history))
    (spaced_still (spacing_of t rule.Rc) c history x refl) (spaced_more (spacing_of t rule.Rp) c history x)
    (spaced_still (spacing_of t rule.RrdL) c history x refl) (spaced_still (spacing_of t rule.RrdS) c history x refl)
    (spaced_still (spacing_of t rule.Rfc) c history x refl) (four_still t c history x refl) (ap (auto_from t) (bank_closed p history cycle))
  where
    same : (n : ℕ) → n ≤ n
    same n = omega arith

-- the auto-precharge of its bank puts off an ACT
pub auto_least : (t : Timing) (p : Place) (history : List Entry) → auto_from t (bank_behind (precharge_at p) history) ≤ activate_from t p history
auto_least t p history = most (spaced_from (spacing_of t rule.Rc) (activate_at p) history) _ _ _ _ _ (auto_from t (bank_behind (precharge_at p) history))
  where
    most : (a b c d e f g : ℕ) → g ≤ max (max (max a b) (max c d)) (max (max e f) g)
    most a b c d e f g = omega arith
