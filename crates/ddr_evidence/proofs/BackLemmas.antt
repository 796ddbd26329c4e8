-- A bank by the entries from the last one on that decides it.
use Rattle.std.proofs.Common.{◌≡◌, ℕ, zero, suc, ◌+◌, ◌-◌, Bool, true, false, ◌&&◌, ◌||◌, cond, List, [], ◌∷◌, ◌++◌, length, take, drop, Option, Some, None, refl, sym, subst, ap, ◌∙◌, arith, zero-add}
use Rattle.std.specs.Prelude.{slice_get}
use Rattle.std.specs.List.{All, fold}
use Rattle.std.specs.Option.{option_map_or}
use Rattle.std.proofs.Math.Seq.{drop-length, take-append-add}
use Rattle.std.proofs.lemmas.List.Elements.{All-cons, All-get_or, All-head, All-nil, All-tail, All-take}
use Rattle.std.proofs.lemmas.List.Sums.{fold-append}
use Rattle.std.proofs.lemmas.Option.{get_or_from_slice_get, slice_get_within}
use Rattle.ddr_trace.specs.declared.bank.OpenBank.{OpenBank}
use Rattle.ddr_trace.specs.declared.command.Command.{Command}
use Rattle.ddr_trace.specs.declared.command.Entry.{Entry}
use Rattle.ddr_trace.specs.Banks.{bank_after, bank_behind}
use Rattle.ddr_trace.specs.Commands.{is_activate, is_auto, is_precharge, is_same_bank}
use Rattle.ddr_evidence.specs.Places.{IsLast, changes, changes_at}
use Rattle.ddr_evidence.specs.Recent.{StartsAtAct, decides, opens}
use Rattle.ddr_evidence.proofs.PlaceLemmas.{IsSplit, left_length, rest_is, split_more}

-- what an entry that decides makes of a bank, whatever it was
no_matter : (act pre same : Bool) (x y z b n : Option OpenBank) → ((act || pre) && same) ≡ true → cond same (cond act x (cond pre None y)) b ≡ cond same (cond act x (cond pre None z)) n
no_matter true pre true x y z b n e = refl
no_matter true pre false x y z b n e = cc
no_matter false true true x y z b n e = refl
no_matter false true false x y z b n e = cc
no_matter false false same x y z b n e = cc

decided : (command : Command) (bank : Option OpenBank) (a : Entry) → decides command a ≡ true → bank_after command bank a ≡ bank_after command None a
decided command bank a is = no_matter (is_activate a.command) (is_precharge a.command) (is_same_bank a.command command) _ _ _ _ _ is

-- so what stands before it is nothing to the bank
bank_from : (command : Command) (before : List Entry) (a : Entry) (rest : List Entry) → decides command a ≡ true → bank_behind command (a ∷ rest) ≡ bank_behind command (before ++ a ∷ rest)
unfolding bank_behind
bank_from command before a rest is =
    ap (λ b. fold (bank_after command) b rest) (sym (decided command (fold (bank_after command) None before) a is))
    ∙ sym (fold-append (bank_after command) None before (a ∷ rest))

pub bank_here : (command : Command) (history earlier before : List Entry) (last : Entry) → IsSplit history earlier → earlier ≡ before ++ last ∷ [] → decides command last ≡ true
    → bank_behind command (drop (length before) history) ≡ bank_behind command history
bank_here command history earlier before last split e is =
    ap (bank_behind command) (rest_is history earlier before last split e)
    ∙ bank_from command before last (drop (length earlier) history) is
    ∙ sym (ap (bank_behind command) (split_more history earlier before last split e))

-- ---- from an ACT on

opens_decides : (act pre same : Bool) → (act && same) ≡ true → ((act || pre) && same) ≡ true
opens_decides true pre same e = e
opens_decides false pre same e = cc

pub act_changes : (act same u : Bool) → (act && same) ≡ true → (same && (act || u)) ≡ true
act_changes true true u e = refl
act_changes true false u e = cc
act_changes false same u e = cc

-- the entry at a place, and what stands before it and behind it
parts : (history : List Entry) (from : ℕ) (a : Entry) → slice_get history from ≡ Some a → (drop from history ≡ a ∷ drop (from + 1) history) × (history ≡ take from history ++ a ∷ drop (from + 1) history) × (length (take from history) ≡ from)
parts [] from a e = cc
parts (x ∷ history) zero a e = let same : x ≡ a = cc in (ap (λ y. y ∷ history) same, ap (λ y. y ∷ history) same, refl)
parts (x ∷ history) (suc from) a e =
    let r = parts history from a e in
    let next : suc (from + 1) ≡ suc from + 1 = omega arith in
    (r.0 ∙ ap (λ n. a ∷ drop n (x ∷ history)) next, ap (λ h. x ∷ h) r.1 ∙ ap (λ n. x ∷ (take from history ++ a ∷ drop n (x ∷ history))) next, ap suc r.2)

get_behind : (before ys : List Entry) (p : ℕ) → slice_get (before ++ ys) (length before + p) ≡ slice_get ys p
get_behind [] ys p = ap (slice_get ys) (zero-add p)
get_behind (x ∷ before) ys p =
    let next : suc (length before) + p ≡ suc (length before + p) = omega arith in
    ap (slice_get (x ∷ before ++ ys)) next ∙ get_behind before ys p

-- which entry changes the bank is told by the entries from the ACT on
change_from : (command : Command) (before : List Entry) (a : Entry) (rest : List Entry) → opens command a ≡ true → (p : ℕ) → changes_at command (before ++ a ∷ rest) (length before + p) ≡ changes_at command (a ∷ rest) p
change_from command before a rest is zero =
    let here = get_behind before (a ∷ rest) zero in
    let always : (b : Option OpenBank) → (is_same_bank a.command command && changes a b) ≡ true = λ b. act_changes (is_activate a.command) (is_same_bank a.command command) _ is in
    ap (λ o. option_map_or (λ x. is_same_bank x.command command && changes x (bank_behind command (take (length before + zero) (before ++ a ∷ rest)))) o false) here
    ∙ always (bank_behind command (take (length before + zero) (before ++ a ∷ rest)))
    ∙ sym (always (bank_behind command []))
change_from command before a rest is (suc q) =
    let decided = opens_decides (is_activate a.command) (is_precharge a.command) (is_same_bank a.command command) is in
    ap (λ o. option_map_or (λ x. is_same_bank x.command command && changes x (bank_behind command (take (length before + suc q) (before ++ a ∷ rest)))) o false) (get_behind before (a ∷ rest) (suc q))
    ∙ ap (λ b. option_map_or (λ x. is_same_bank x.command command && changes x b) (slice_get rest q) false)
    (ap (bank_behind command) (take-append-add before (a ∷ rest) (suc q)) ∙ sym (bank_from command before a (take q rest) decided))

pub change_shift : (command : Command) (history : List Entry) (from : ℕ) → StartsAtAct command history from → (p : ℕ) → changes_at command history (from + p) ≡ changes_at command (drop from history) p
change_shift command history from (a, at, is) p =
    let r = parts history from a at in
    ap (λ n. changes_at command history (n + p)) (sym r.2)
    ∙ ap (λ h. changes_at command h (length (take from history) + p)) r.1
    ∙ change_from command (take from history) a (drop (from + 1) history) is p
    ∙ sym (ap (λ h. changes_at command h p) r.0)

pub bank_started : (command : Command) (history : List Entry) (from : ℕ) → StartsAtAct command history from → bank_behind command (drop from history) ≡ bank_behind command history
bank_started command history from (a, at, is) =
    let r = parts history from a at in
    let decided = opens_decides (is_activate a.command) (is_precharge a.command) (is_same_bank a.command command) is in
    ap (bank_behind command) r.0 ∙ bank_from command (take from history) a (drop (from + 1) history) decided ∙ sym (ap (bank_behind command) r.1)

-- the last change from there on is the last of all
pub last_started : (command : Command) (history : List Entry) (from place : ℕ) → StartsAtAct command history from → IsLast (changes_at command (drop from history)) place → IsLast (changes_at command history) (from + place)
last_started command history from place starts found = record {
  passes = change_shift command history from starts place ∙ found.passes;
  last = λ later above.
      let same : later ≡ from + (later - from) = omega arith in
      ap (changes_at command history) same ∙ change_shift command history from starts (later - from) ∙ found.last (later - from) (omega arith);
}

-- and from there on there is one: the ACT itself
pub some_started : (command : Command) (history : List Entry) (from : ℕ) → StartsAtAct command history from → ((place : ℕ) → changes_at command (drop from history) place ≡ false) → (place : ℕ) → changes_at command history place ≡ false
some_started command history from (a, at, is) none place =
    let r = parts history from a at in
    let first = none 0 in
    let here : changes_at command (drop from history) 0 ≡ true =
    ap (λ h. changes_at command h 0) r.0 ∙ act_changes (is_activate a.command) (is_same_bank a.command command) _ is in
    absurd (cc)

-- ---- with no ACT

-- one more entry that fails a test, before those that fail it
pub none_before : (test : Entry → Bool) (history earlier before : List Entry) (last : Entry) → IsSplit history earlier → earlier ≡ before ++ last ∷ [] → test last ≡ false
    → All (λ a. test a ≡ false) (drop (length earlier) history) → All (λ a. test a ≡ false) (drop (length before) history)
none_before test history earlier before last split e is none =
    subst (All (λ a. test a ≡ false)) (sym (rest_is history earlier before last split e)) (All-cons (λ a. test a ≡ false) last (drop (length earlier) history) is none)

-- behind a whole history stands none
pub none_whole : (test : Entry → Bool) (history : List Entry) → All (λ a. test a ≡ false) (drop (length history) history)
none_whole test history = subst (All (λ (a : Entry). test a ≡ false)) (sym (drop-length history)) (All-nil (λ (a : Entry). test a ≡ false))

-- nor behind the entry that was taken off what is left
pub none_behind : (test : Entry → Bool) (history earlier before : List Entry) (last : Entry) → earlier ≡ before ++ last ∷ []
    → All (λ a. test a ≡ false) (drop (length earlier) history) → All (λ a. test a ≡ false) (drop (length before + 1) history)
none_behind test history earlier before last e none =
    subst (λ n. All (λ (a : Entry). test a ≡ false) (drop n history)) (left_length earlier before last e) none

-- what an entry that opens no bank makes of an idle one
unopened : (act pre auto same : Bool) (x : Option OpenBank) → (act && same) ≡ false → cond same (cond act x (cond pre None (cond auto None None))) None ≡ None
unopened true pre auto true x e = cc
unopened false true auto true x e = refl
unopened false false true true x e = refl
unopened false false false true x e = refl
unopened act pre auto false x e = refl

stays : (command : Command) (a : Entry) → opens command a ≡ false → bank_after command None a ≡ None
stays command a is = unopened (is_activate a.command) (is_precharge a.command) (is_auto a.command) (is_same_bank a.command command) _ is

-- one more entry, before those behind which the bank is idle
pub idle_before : (command : Command) (history earlier before : List Entry) (last : Entry) → IsSplit history earlier → earlier ≡ before ++ last ∷ [] → opens command last ≡ false
    → bank_behind command (drop (length earlier) history) ≡ None → bank_behind command (drop (length before) history) ≡ None
unfolding bank_behind
idle_before command history earlier before last split e is idle =
    ap (bank_behind command) (rest_is history earlier before last split e)
    ∙ ap (λ b. fold (bank_after command) b (drop (length earlier) history)) (stays command last is)
    ∙ idle

-- behind the whole history stands no entry
pub idle_whole : (command : Command) (history : List Entry) → bank_behind command (drop (length history) history) ≡ None
unfolding bank_behind
idle_whole command history = ap (bank_behind command) (drop-length history)

pub not_decided : (act pre same : Bool) → ((act || pre) && same) ≡ false → (act && same) ≡ false
not_decided true pre true e = cc
not_decided true pre false e = refl
not_decided false pre same e = refl

-- an ACT that decides a bank opens it
pub act_opens : (act pre same : Bool) → act ≡ true → ((act || pre) && same) ≡ true → (act && same) ≡ true
act_opens true pre same on e = e
act_opens false pre same on e = cc

pub not_activate : (act same : Bool) → act ≡ false → (act && same) ≡ false
not_activate true same e = cc
not_activate false same e = refl

-- where no entry opens the bank, it stays idle,
pub never_opened : (command : Command) (history : List Entry) → All (λ a. opens command a ≡ false) history → bank_behind command history ≡ None
unfolding bank_behind
never_opened command [] none = refl
never_opened command (a ∷ history) none =
    ap (λ b. fold (bank_after command) b history) (stays command a (All-head (λ a. opens command a ≡ false) a history none))
    ∙ never_opened command history (All-tail (λ a. opens command a ≡ false) a history none)

opens_none : (command : Command) (history : List Entry) (place : ℕ) (a : Entry) → All (λ a. opens command a ≡ false) history → slice_get history place ≡ Some a → opens command a ≡ false
opens_none command history place a none at =
    subst (λ x. opens command x ≡ false) (get_or_from_slice_get history place a a at)
    (All-get_or (λ a. opens command a ≡ false) history place a (slice_get_within history place a at) none)

unchanged : (act same u : Bool) → (act && same) ≡ false → (same && (act || (false && u))) ≡ false
unchanged true true u e = cc
unchanged true false u e = refl
unchanged false true u e = refl
unchanged false false u e = refl

-- and none changes it
pub never_changed : (command : Command) (history : List Entry) → All (λ a. opens command a ≡ false) history → (place : ℕ) → changes_at command history place ≡ false
never_changed command history none place = go (slice_get history place) refl
  where
    idle : bank_behind command (take place history) ≡ None
    idle = never_opened command (take place history) (All-take (λ a. opens command a ≡ false) place history none)

    go : (o : Option Entry) → slice_get history place ≡ o → changes_at command history place ≡ false
    go None at = ap (λ o. option_map_or (λ a. is_same_bank a.command command && changes a (bank_behind command (take place history))) o false) at
    go (Some a) at =
        ap (λ o. option_map_or (λ a. is_same_bank a.command command && changes a (bank_behind command (take place history))) o false) at
        ∙ ap (λ b. is_same_bank a.command command && changes a b) idle
        ∙ unchanged (is_activate a.command) (is_same_bank a.command command) (is_precharge a.command || is_auto a.command) (opens_none command history place a none at)
