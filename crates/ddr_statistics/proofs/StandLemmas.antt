-- What is kept after one more command stands for the history with that command.
use Rattle.std.proofs.Common.{◌≡◌, ◌≢◌, ℕ, ◌+◌, ◌*◌, ◌<◌, Bool, true, false, ◌&&◌, ◌==◌, if◌then◌else◌, List, [], ◌∷◌, ◌++◌, length, Option, Some, None, slice_index_or, slice_set, get_or-set_same, get_or-set_other, replicate, refl, sym, subst, ap, arith, ◌∙◌}
use Rattle.std.proofs.lemmas.Bool.Decides.{nat_tests}
use Rattle.std.proofs.lemmas.List.{get_or-map, get_or-replicate, get_or_default, length-map, length-replicate, length-set}
use Rattle.ddr_timing.specs.declared.units.TheConstants.{CLOCK_STOP, GROUP_BANKS, MOST_GROUPS, MOST_RANKS}
use Rattle.ddr_trace.specs.declared.command.Command.{Command}
use Rattle.ddr_trace.specs.declared.command.Command.TheVariants.{Act, Rd, Wr, RdAuto, WrAuto, Pre, PreAll, Refresh}
use Rattle.ddr_trace.specs.declared.command.Entry.{Entry}
use Rattle.ddr_trace.specs.Commands.{bank_of, group_of, is_column, rank_of}
use Rattle.ddr_statistics.specs.declared.background.Background.{Background}
use Rattle.ddr_statistics.specs.declared.bank.Bank.{Bank}
use Rattle.ddr_statistics.specs.declared.counts.Counts.{Counts}
use Rattle.ddr_statistics.specs.declared.counts.Finding.{Finding}
use Rattle.ddr_statistics.specs.declared.debt.Debt.{Debt}
use Rattle.ddr_statistics.specs.declared.rank.Rank.{Rank}
use Rattle.ddr_statistics.specs.declared.rank.TheConstants.{MOST_BANKS}
use Rattle.ddr_statistics.specs.declared.turns.Turns.{Turns}
use Rattle.ddr_statistics.specs.Counts.{count_behind, counts_of, is_any, is_of_one, is_of_one_bank, is_of_rank, kind_count}
use Rattle.ddr_statistics.specs.Noted.{background_noted, bank_closed, bank_noted, banks_noted, counts_noted, debt_noted, found_in, new_background, new_bank, new_rank, one_noted, no_counts, no_debt, no_turns, rank_noted, turns_noted}
use Rattle.ddr_statistics.specs.Stands.{KeepsBackground, KeepsRank, StandsFor, background_at, bank_of_history, clocked, counted, debt_at, debt_behind, noted, owed, rank_at}
use Rattle.ddr_statistics.specs.Tally.{Tally}
use Rattle.ddr_statistics.specs.Turns.{last_column}
use Rattle.ddr_statistics.specs.Visits.{finding, is_at, visit_after, visit_behind}
use Rattle.ddr_statistics.proofs.BackgroundLemmas.{keeps_other_clocks, keeps_own_clocks, new_keeps_clocks}
use Rattle.ddr_statistics.proofs.CountLemmas.{counts_skip, counts_step, turns_step, visit_behind-push}
use Rattle.ddr_statistics.proofs.DebtLemmas.{debt_behind-push}
use Rattle.ddr_statistics.proofs.PlaceLemmas.{and_false, apart, same_number}

-- a bank after a command of it alone
bank_here : (k g b : ℕ) (history : List Entry) (e : Entry) → is_at k g b e.command ≡ true → is_of_one k g b e.command ≡ true → length history + 1 < CLOCK_STOP
    → bank_noted e.command (finding history e.command) (bank_of_history k g b history) ≡ bank_of_history k g b (history ++ e ∷ [])
bank_here k g b history e at alone short =
    let old = visit_behind k g b history in
    let visit : visit_after e.command old ≡ visit_behind k g b (history ++ e ∷ []) =
    sym (visit_behind-push k g b history e ∙ ap (λ w. if w then visit_after e.command old else old) at) in
    let counts = counts_step (is_of_one k g b) history e alone short in
    λ i. record { visit = visit i; counts = counts i }

-- after a PREA of its rank
bank_closes : (k g b : ℕ) (history : List Entry) (e : Entry) → is_at k g b e.command ≡ true → is_of_one k g b e.command ≡ false
    → bank_closed e.command (bank_of_history k g b history) ≡ bank_of_history k g b (history ++ e ∷ [])
bank_closes k g b history e at others =
    let old = visit_behind k g b history in
    let visit : visit_after e.command old ≡ visit_behind k g b (history ++ e ∷ []) =
    sym (visit_behind-push k g b history e ∙ ap (λ w. if w then visit_after e.command old else old) at) in
    let counts = counts_skip (is_of_one k g b) history e others in
    λ i. record { visit = visit i; counts = counts i }

-- after a command that does nothing to it
bank_stays : (k g b : ℕ) (history : List Entry) (e : Entry) → visit_behind k g b history ≡ visit_behind k g b (history ++ e ∷ []) → is_of_one k g b e.command ≡ false
    → bank_of_history k g b history ≡ bank_of_history k g b (history ++ e ∷ [])
bank_stays k g b history e visit others =
    let counts = counts_skip (is_of_one k g b) history e others in
    λ i. record { visit = visit i; counts = counts i }

visit_away : (k g b : ℕ) (history : List Entry) (e : Entry) → is_at k g b e.command ≡ false → visit_behind k g b history ≡ visit_behind k g b (history ++ e ∷ [])
visit_away k g b history e away =
    let old = visit_behind k g b history in
    sym (visit_behind-push k g b history e ∙ ap (λ w. if w then visit_after e.command old else old) away)

either_way : {X : Type 0} (w : Bool) (x : X) → x ≡ (if w then x else x)
either_way true x = refl
either_way false x = refl

visit_refreshed : (k g b j : ℕ) (history : List Entry) (cycle : ℕ) → visit_behind k g b history ≡ visit_behind k g b (history ++ record { cycle = cycle; command = Refresh j } ∷ [])
visit_refreshed k g b j history cycle =
    either_way (is_at k g b (Refresh j)) (visit_behind k g b history) ∙ sym (visit_behind-push k g b history (record { cycle = cycle; command = Refresh j }))

-- the banks of a rank after a command of one of them
banks_here : (k g b : ℕ) (history : List Entry) (e : Entry) (r : Rank) (g' b' : ℕ) → KeepsRank k history r → length history + 1 < CLOCK_STOP
    → g < MOST_GROUPS → b < GROUP_BANKS → g' < MOST_GROUPS → b' < GROUP_BANKS
    → is_at k g' b' e.command ≡ (g == g' && b == b') → is_of_one k g' b' e.command ≡ (g == g' && b == b')
    → slice_index_or (one_noted e.command (finding history e.command) g b r.banks) (g' * GROUP_BANKS + b') new_bank ≡ bank_of_history k g' b' (history ++ e ∷ [])
banks_here k g b history e r g' b' kept short group bank group' bank' at alone = by_test (g == g' && b == b') refl
  where
    by_test : (w : Bool) → (g == g' && b == b') ≡ w → slice_index_or (one_noted e.command (finding history e.command) g b r.banks) (g' * 4 + b') new_bank ≡ bank_of_history k g' b' (history ++ e ∷ [])
    by_test true same =
        let same_group : g ≡ g' = grind (arith, nat_tests) in
        let same_bank : b ≡ b' = grind (arith, nat_tests) in
        let within : g' * 4 + b' < length r.banks = omega (arith, kept.size) in
        rw (same_group, same_bank)
        (get_or-set_same r.banks (g' * 4 + b') _ new_bank within
        ∙ ap (λ (old : Bank). bank_noted e.command (finding history e.command) old) (kept.banks g' b' group' bank')
        ∙ bank_here k g' b' history e (at ∙ same) (alone ∙ same) short)
    by_test false other =
        get_or-set_other r.banks (g * 4 + b) (g' * 4 + b') _ new_bank (apart g b g' b' bank bank' other)
        ∙ kept.banks g' b' group' bank'
        ∙ bank_stays k g' b' history e (visit_away k g' b' history e (at ∙ other)) (alone ∙ other)

-- a rank after a command of it
pub rank_step : (history : List Entry) (cycle : ℕ) (c : Command) (r : Rank) → KeepsRank (rank_of c) history r → length history + 1 < CLOCK_STOP → group_of c < MOST_GROUPS → bank_of c < GROUP_BANKS
    → (g' b' : ℕ) → g' < MOST_GROUPS → b' < GROUP_BANKS
    → slice_index_or (banks_noted c (finding history c) r.banks) (g' * GROUP_BANKS + b') new_bank ≡ bank_of_history (rank_of c) g' b' (history ++ record { cycle = cycle; command = c } ∷ [])
rank_step history cycle (Act k g b w) r kept short group bank g' b' group' bank' =
    let this = same_number k in
    banks_here k g b history (record { cycle = cycle; command = Act k g b w }) r g' b' kept short group bank group' bank' (rw this refl) (rw this refl)
rank_step history cycle (Rd k g b w l) r kept short group bank g' b' group' bank' =
    let this = same_number k in
    banks_here k g b history (record { cycle = cycle; command = Rd k g b w l }) r g' b' kept short group bank group' bank' (rw this refl) (rw this refl)
rank_step history cycle (Wr k g b w l) r kept short group bank g' b' group' bank' =
    let this = same_number k in
    banks_here k g b history (record { cycle = cycle; command = Wr k g b w l }) r g' b' kept short group bank group' bank' (rw this refl) (rw this refl)
rank_step history cycle (RdAuto k g b w l) r kept short group bank g' b' group' bank' =
    let this = same_number k in
    banks_here k g b history (record { cycle = cycle; command = RdAuto k g b w l }) r g' b' kept short group bank group' bank' (rw this refl) (rw this refl)
rank_step history cycle (WrAuto k g b w l) r kept short group bank g' b' group' bank' =
    let this = same_number k in
    banks_here k g b history (record { cycle = cycle; command = WrAuto k g b w l }) r g' b' kept short group bank group' bank' (rw this refl) (rw this refl)
rank_step history cycle (Pre k g b) r kept short group bank g' b' group' bank' =
    let this = same_number k in
    banks_here k g b history (record { cycle = cycle; command = Pre k g b }) r g' b' kept short group bank group' bank' (rw this refl) (rw this refl)
rank_step history cycle (PreAll k) r kept short group bank g' b' group' bank' =
    let within : g' * 4 + b' < length r.banks = omega (arith, kept.size) in
    get_or-map (bank_closed (PreAll k)) r.banks (g' * 4 + b') new_bank new_bank within
    ∙ ap (λ (old : Bank). bank_closed (PreAll k) old) (kept.banks g' b' group' bank')
    ∙ bank_closes k g' b' history (record { cycle = cycle; command = PreAll k }) (rw (same_number k) refl) refl
rank_step history cycle (Refresh k) r kept short group bank g' b' group' bank' =
    kept.banks g' b' group' bank' ∙ bank_stays k g' b' history (record { cycle = cycle; command = Refresh k }) (visit_refreshed k g' b' k history cycle) refl

size_after : (c : Command) (found : Option Finding) (banks : List Bank) → length (banks_noted c found banks) ≡ length banks
size_after (PreAll k) found banks = length-map banks (bank_closed (PreAll k))
size_after (Refresh k) found banks = refl
size_after c found banks = length-set banks _ _

pub keeps_own : (history : List Entry) (e : Entry) (r : Rank) → KeepsRank (rank_of e.command) history r → length history + 1 < CLOCK_STOP → group_of e.command < MOST_GROUPS → bank_of e.command < GROUP_BANKS
    → KeepsRank (rank_of e.command) (history ++ e ∷ []) (rank_noted e.command (finding history e.command) r)
keeps_own history e r kept short group bank = record {
  counts = ap (λ (old : Counts). counts_noted e.command (finding history e.command) old) kept.counts ∙ counts_step (is_of_rank (rank_of e.command)) history e (same_number (rank_of e.command)) short;
  size = size_after e.command (finding history e.command) r.banks ∙ kept.size;
  banks = rank_step history e.cycle e.command r kept short group bank;
}

-- a rank after a command of another one
keeps_other : (k : ℕ) (history : List Entry) (e : Entry) (r : Rank) → KeepsRank k history r → (rank_of e.command == k) ≡ false → KeepsRank k (history ++ e ∷ []) r
keeps_other k history e r kept other = record {
  counts = kept.counts ∙ counts_skip (is_of_rank k) history e other;
  size = kept.size;
  banks = λ g b group bank. kept.banks g b group bank ∙ bank_stays k g b history e (visit_away k g b history e (rw other refl)) (rw other (and_false (is_of_one_bank e.command)));
}

-- the statistics after a command
abbrev pub after : Tally → Entry → Option Finding → Tally
after tally e found = clocked e (owed e (counted e.command found tally))

-- the refreshes of a rank after a command of any rank
debt_step : (refi start k : ℕ) (history : List Entry) (e : Entry) (w : Bool) → (rank_of e.command == k) ≡ w
    → (if w then debt_noted refi start e (debt_behind refi start k history) else debt_behind refi start k history) ≡ debt_behind refi start k (history ++ e ∷ [])
debt_step refi start k history e w is =
    let old = debt_behind refi start k history in
    sym (debt_behind-push refi start k history e ∙ ap (λ v. if v then debt_noted refi start e old else old) is)

found_is : (history : List Entry) (c : Command) (r : Rank) → KeepsRank (rank_of c) history r → group_of c < MOST_GROUPS → bank_of c < GROUP_BANKS → found_in r c ≡ finding history c
found_is history c r kept group bank =
    ap (λ (old : Bank). if is_column c then Some old.visit.next else None) (kept.banks (group_of c) (bank_of c) group bank)

stands_with : (tally : Tally) (history : List Entry) (e : Entry) → StandsFor tally history → length history + 1 < CLOCK_STOP
    → rank_of e.command < MOST_RANKS → group_of e.command < MOST_GROUPS → bank_of e.command < GROUP_BANKS
    → StandsFor (after tally e (finding history e.command)) (history ++ e ∷ [])
stands_with tally history e stands short rank group bank = record {
  total = ap (λ (old : Counts). counts_noted e.command (finding history e.command) old) stands.total ∙ counts_step is_any history e refl short;
  size = length-set tally.ranks _ _ ∙ stands.size;
  ranks = λ k below. by_test k below (rank_of e.command == k) refl;
  debts_size = length-set tally.debts _ _ ∙ stands.debts_size;
  debts = λ k below. debt_by_test k below (rank_of e.command == k) refl;
  backgrounds_size = length-set tally.backgrounds _ _ ∙ stands.backgrounds_size;
  backgrounds = λ k below. background_by_test k below (rank_of e.command == k) refl;
  turns = ap (turns_noted e.command) stands.turns ∙ turns_step history e short;
}
  where
    own : Rank
    own = rank_noted e.command (finding history e.command) (rank_at tally (rank_of e.command))

    by_test : (k : ℕ) → k < 2 → (w : Bool) → (rank_of e.command == k) ≡ w → KeepsRank k (history ++ e ∷ []) (slice_index_or (slice_set tally.ranks (rank_of e.command) own) k new_rank)
    by_test k below true same =
        let this : rank_of e.command ≡ k = grind (arith, nat_tests) in
        let within : rank_of e.command < length tally.ranks = omega (arith, stands.size) in
        let P : ℕ → Type 0 = λ j. KeepsRank j (history ++ e ∷ []) (slice_index_or (slice_set tally.ranks (rank_of e.command) own) j new_rank) in
        let Q : Rank → Type 0 = λ r. KeepsRank (rank_of e.command) (history ++ e ∷ []) r in
        subst P this (subst Q (sym (get_or-set_same tally.ranks (rank_of e.command) own new_rank within))
        (keeps_own history e (rank_at tally (rank_of e.command)) (stands.ranks (rank_of e.command) rank) short group bank))
    by_test k below false other =
        let apart : k ≢ rank_of e.command = grind (arith, nat_tests) in
        let Q : Rank → Type 0 = λ r. KeepsRank k (history ++ e ∷ []) r in
        subst Q (sym (get_or-set_other tally.ranks (rank_of e.command) k own new_rank apart))
        (keeps_other k history e (rank_at tally k) (stands.ranks k below) other)

    own_debt : Debt
    own_debt = debt_noted tally.timing.refi tally.start e (debt_at tally (rank_of e.command))

    debt_by_test : (k : ℕ) → k < 2 → (w : Bool) → (rank_of e.command == k) ≡ w → slice_index_or (slice_set tally.debts (rank_of e.command) own_debt) k no_debt ≡ debt_behind tally.timing.refi tally.start k (history ++ e ∷ [])
    debt_by_test k below true same =
        let this : rank_of e.command ≡ k = grind (arith, nat_tests) in
        let within : rank_of e.command < length tally.debts = omega (arith, stands.debts_size) in
        let P : ℕ → Type 0 = λ j. slice_index_or (slice_set tally.debts (rank_of e.command) own_debt) j no_debt ≡ debt_behind tally.timing.refi tally.start j (history ++ e ∷ []) in
        subst P this (get_or-set_same tally.debts (rank_of e.command) own_debt no_debt within
        ∙ ap (λ (d : Debt). debt_noted tally.timing.refi tally.start e d) (stands.debts (rank_of e.command) rank)
        ∙ debt_step tally.timing.refi tally.start (rank_of e.command) history e true (same_number (rank_of e.command)))
    debt_by_test k below false other =
        let apart : k ≢ rank_of e.command = grind (arith, nat_tests) in
        get_or-set_other tally.debts (rank_of e.command) k own_debt no_debt apart ∙ stands.debts k below ∙ debt_step tally.timing.refi tally.start k history e false other

    own_background : Background
    own_background = background_noted tally.timing tally.geometry e (background_at tally (rank_of e.command))

    none : Background
    none = new_background tally.start

    background_by_test : (k : ℕ) → k < 2 → (w : Bool) → (rank_of e.command == k) ≡ w
        → KeepsBackground tally.timing tally.geometry tally.start k (history ++ e ∷ []) (slice_index_or (slice_set tally.backgrounds (rank_of e.command) own_background) k none)
    background_by_test k below true same =
        let this : rank_of e.command ≡ k = grind (arith, nat_tests) in
        let within : rank_of e.command < length tally.backgrounds = omega (arith, stands.backgrounds_size) in
        let P : ℕ → Type 0 = λ j. KeepsBackground tally.timing tally.geometry tally.start j (history ++ e ∷ []) (slice_index_or (slice_set tally.backgrounds (rank_of e.command) own_background) j none) in
        let Q : Background → Type 0 = λ kept. KeepsBackground tally.timing tally.geometry tally.start (rank_of e.command) (history ++ e ∷ []) kept in
        subst P this (subst Q (sym (get_or-set_same tally.backgrounds (rank_of e.command) own_background none within))
        (keeps_own_clocks tally.timing tally.geometry tally.start history e (background_at tally (rank_of e.command)) (stands.backgrounds (rank_of e.command) rank) group bank))
    background_by_test k below false other =
        let apart : k ≢ rank_of e.command = grind (arith, nat_tests) in
        let Q : Background → Type 0 = λ kept. KeepsBackground tally.timing tally.geometry tally.start k (history ++ e ∷ []) kept in
        subst Q (sym (get_or-set_other tally.backgrounds (rank_of e.command) k own_background none apart))
        (keeps_other_clocks tally.timing tally.geometry tally.start k history e (background_at tally k) (stands.backgrounds k below) other)

pub stands_after : (tally new : Tally) (history : List Entry) (e : Entry) (found : Option Finding) → new ≡ after tally e found → found ≡ finding history e.command → StandsFor tally history → length history + 1 < CLOCK_STOP
    → rank_of e.command < MOST_RANKS → group_of e.command < MOST_GROUPS → bank_of e.command < GROUP_BANKS
    → StandsFor new (history ++ e ∷ [])
stands_after tally new history e found is seen stands short rank group bank =
    let P : Tally → Type 0 = λ t. StandsFor t (history ++ e ∷ []) in
    subst P (sym (is ∙ ap (λ (f : Option Finding). after tally e f) seen)) (stands_with tally history e stands short rank group bank)

-- the same, as the fields are set one by one
pub finding_told : (tally : Tally) (history : List Entry) (c : Command) (place : ℕ) (found : Option Finding) (d : Rank)
    → place ≡ rank_of c → found ≡ found_in (slice_index_or tally.ranks place d) c
    → StandsFor tally history → rank_of c < MOST_RANKS → group_of c < MOST_GROUPS → bank_of c < GROUP_BANKS → found ≡ finding history c
finding_told tally history c place found d is_place is_found stands rank group bank =
    let within : rank_of c < length tally.ranks = omega (arith, stands.size, rank) in
    let old : slice_index_or tally.ranks place d ≡ rank_at tally (rank_of c) =
    ap (λ n. slice_index_or tally.ranks n d) is_place ∙ get_or_default tally.ranks (rank_of c) d new_rank within in
    is_found ∙ ap (λ (r : Rank). found_in r c) old ∙ found_is history c (rank_at tally (rank_of c)) (stands.ranks (rank_of c) rank) group bank

pub finding_kept : (tally : Tally) (c : Command) (place : ℕ) (found : Option Finding) (d : Rank) → place ≡ rank_of c → place < length tally.ranks → found ≡ found_in (slice_index_or tally.ranks place d) c
    → found ≡ found_in (rank_at tally (rank_of c)) c
finding_kept tally c place found d is_place within is_found =
    is_found ∙ ap (λ (r : Rank). found_in r c) (get_or_default tally.ranks place d new_rank within ∙ ap (λ n. slice_index_or tally.ranks n new_rank) is_place)

-- the statistics of a history, behind the next command
pub stands_noted : (tally : Tally) (history : List Entry) (e : Entry) → StandsFor tally history → length history + 1 < CLOCK_STOP → rank_of e.command < MOST_RANKS → group_of e.command < MOST_GROUPS → bank_of e.command < GROUP_BANKS
    → StandsFor (noted e tally) (history ++ e ∷ [])
stands_noted tally history e stands short rank group bank =
    stands_after tally (noted e tally) history e (found_in (rank_at tally (rank_of e.command)) e.command) refl
    (found_is history e.command (rank_at tally (rank_of e.command)) (stands.ranks (rank_of e.command) rank) group bank) stands short rank group bank

pub counted_is : (tally : Tally) (c : Command) (place : ℕ) (found : Option Finding) (total : Counts) (own d : Rank) (turns : Turns)
    → place ≡ rank_of c → place < length tally.ranks
    → total ≡ counts_noted c found tally.total
    → own ≡ rank_noted c found (slice_index_or tally.ranks place d)
    → turns ≡ turns_noted c tally.turns
    → record tally { total = total; ranks = slice_set tally.ranks place own; turns = turns } ≡ counted c found tally
counted_is tally c place found total own d turns is_place within is_total is_own is_turns =
    let old : slice_index_or tally.ranks place d ≡ rank_at tally (rank_of c) =
    get_or_default tally.ranks place d new_rank within ∙ ap (λ n. slice_index_or tally.ranks n new_rank) is_place in
    let own_is = is_own ∙ ap (λ (r : Rank). rank_noted c found r) old in
    λ i. record tally { total = is_total i; ranks = slice_set tally.ranks (is_place i) (own_is i); turns = is_turns i }

pub owed_is : (tally : Tally) (e : Entry) (place : ℕ) (own : Debt) → place ≡ rank_of e.command
    → own ≡ debt_noted tally.timing.refi tally.start e (slice_index_or tally.debts place no_debt)
    → record tally { debts = slice_set tally.debts place own } ≡ owed e tally
owed_is tally e place own is_place is_own =
    let own_is = is_own ∙ ap (λ n. debt_noted tally.timing.refi tally.start e (slice_index_or tally.debts n no_debt)) is_place in
    λ i. record tally { debts = slice_set tally.debts (is_place i) (own_is i) }

pub clocked_is : (tally : Tally) (e : Entry) (place : ℕ) (own d : Background) → place ≡ rank_of e.command → place < length tally.backgrounds
    → own ≡ background_noted tally.timing tally.geometry e (slice_index_or tally.backgrounds place d)
    → record tally { backgrounds = slice_set tally.backgrounds place own } ≡ clocked e tally
clocked_is tally e place own d is_place within is_own =
    let old : slice_index_or tally.backgrounds place d ≡ background_at tally (rank_of e.command) =
    get_or_default tally.backgrounds place d (new_background tally.start) within ∙ ap (λ n. slice_index_or tally.backgrounds n (new_background tally.start)) is_place in
    let own_is = is_own ∙ ap (λ (kept : Background). background_noted tally.timing tally.geometry e kept) old in
    λ i. record tally { backgrounds = slice_set tally.backgrounds (is_place i) (own_is i) }

-- before the first command
new_bank_keeps : (k g b : ℕ) → new_bank ≡ bank_of_history k g b []
unfolding counts_of kind_count count_behind visit_behind
new_bank_keeps k g b = refl

new_rank_keeps : (k : ℕ) → KeepsRank k [] new_rank
unfolding counts_of kind_count count_behind
new_rank_keeps k = record {
  counts = refl;
  size = length-replicate MOST_BANKS new_bank;
  banks = λ g b group bank. get_or-replicate MOST_BANKS (g * GROUP_BANKS + b) new_bank new_bank (omega arith) ∙ new_bank_keeps k g b;
}

pub stands_new : (tally : Tally) → tally.total ≡ no_counts → tally.ranks ≡ replicate MOST_RANKS new_rank → tally.debts ≡ replicate MOST_RANKS no_debt → tally.backgrounds ≡ replicate MOST_RANKS (new_background tally.start) → tally.turns ≡ no_turns → StandsFor tally []
unfolding counts_of kind_count count_behind last_column debt_behind
stands_new tally total ranks debts backgrounds turns = record {
  total = total;
  size = ap (λ (rs : List Rank). length rs) ranks ∙ length-replicate MOST_RANKS new_rank;
  ranks = λ k below.
      let there : rank_at tally k ≡ new_rank = ap (λ (rs : List Rank). slice_index_or rs k new_rank) ranks ∙ get_or-replicate MOST_RANKS k new_rank new_rank below in
      let P : Rank → Type 0 = λ r. KeepsRank k [] r in
      subst P (sym there) (new_rank_keeps k);
  debts_size = ap (λ (ds : List Debt). length ds) debts ∙ length-replicate MOST_RANKS no_debt;
  debts = λ k below. ap (λ (ds : List Debt). slice_index_or ds k no_debt) debts ∙ get_or-replicate MOST_RANKS k no_debt no_debt below;
  backgrounds_size = ap (λ (bs : List Background). length bs) backgrounds ∙ length-replicate MOST_RANKS (new_background tally.start);
  backgrounds = λ k below.
      let new = new_background tally.start in
      let there : background_at tally k ≡ new = ap (λ (bs : List Background). slice_index_or bs k new) backgrounds ∙ get_or-replicate MOST_RANKS k new new below in
      let P : Background → Type 0 = λ kept. KeepsBackground tally.timing tally.geometry tally.start k [] kept in
      subst P (sym there) (new_keeps_clocks tally.timing tally.geometry tally.start k);
  turns = turns;
}
