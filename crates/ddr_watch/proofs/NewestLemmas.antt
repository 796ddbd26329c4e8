-- What the newest command, and the ACTs among the newest ones, tell of all.
use Rattle.std.proofs.Common.{◌≡◌, ℕ, suc, ◌+◌, ◌-◌, ◌<◌, ◌≤◌, Bool, true, false, not, ◌&&◌, ◌||◌, List, [], ◌∷◌, ◌++◌, length, take, Option, None, Some, IsSome, refl, sym, ap, subst, ◌∙◌, arith, zero-add}
use Rattle.std.specs.Prelude.{slice_get, nat_lt, nat_le}
use Rattle.std.specs.Bool.{MatchBool}
use Rattle.std.specs.List.{list_any}
use Rattle.std.specs.Option.{is_none, option_map_or}
use Rattle.std.proofs.Math.Seq.{drop-append-add}
use Rattle.std.proofs.lemmas.Bool.{ltb-false, ltb-true}
use Rattle.ddr_timing.specs.declared.config.Config.{Config}
use Rattle.ddr_trace.specs.declared.bank.OpenBank.{OpenBank}
use Rattle.ddr_trace.specs.declared.command.Command.{Command}
use Rattle.ddr_trace.specs.declared.command.Entry.{Entry}
use Rattle.ddr_trace.specs.declared.rule.Rule.{Rule}
use Rattle.ddr_trace.specs.declared.rule.Rule.TheVariants as rule
use Rattle.ddr_trace.specs.Banks.{any_bank, bank_behind, is_active, is_row, open_row, ready_row}
use Rattle.ddr_trace.specs.Commands.{is_activate, is_column, is_refresh, is_same_bank, rank_of, row_of}
use Rattle.ddr_trace.specs.Rules.{breaks, last_cycle_below}
use Rattle.ddr_evidence.specs.declared.evidence.Evidence.TheVariants.{Bank, BeforeStart}
use Rattle.ddr_evidence.specs.declared.evidence.Placed.{Placed}
use Rattle.ddr_evidence.specs.Evidence.{IsActiveBank, IsEvidence, IsOwnBank, IsStartOfRank, is_behind_start, is_behind_start_of_rank}
use Rattle.ddr_evidence.specs.Places.{IsLast, IsLastChange, changes, changes_at}
use Rattle.ddr_evidence.specs.Recent.{StartsAtAct, opens}
use Rattle.ddr_evidence.proofs.BackLemmas.{act_changes, bank_started, change_shift}
use Rattle.ddr_watch.specs.Finds.{is_by_newest, is_on_own_bank}

-- ---- the newest command

pub below_behind : (before : List Entry) (x : Entry) (w : List Entry) (cycle : ℕ) → last_cycle_below (before ++ x ∷ w) cycle ≡ last_cycle_below (x ∷ w) cycle
below_behind [] x w cycle = refl
below_behind (a ∷ []) x w cycle = refl
below_behind (a ∷ b ∷ before) x w cycle = below_behind (b ∷ before) x w cycle

pub order_behind : (before w : List Entry) (cycle : ℕ) → (w ≡ [] → ⊥) → last_cycle_below (before ++ w) cycle ≡ last_cycle_below w cycle
order_behind before [] cycle some = absurd (some refl)
order_behind before (x ∷ w) cycle some = below_behind before x w cycle

-- a rule that the newest command tells all of is broken behind all where it is behind the newest
pub older_breaks : (c : Config) (start end : ℕ) (r : Rule) (before w : List Entry) (e : Entry) → (w ≡ [] → ⊥) → breaks c start end r w e ≡ false → breaks c start end r (before ++ w) e ≡ true → is_by_newest r ≡ false
older_breaks c start end rule.Order before w e some kept broken =
    let same = ap (λ b. not (b && nat_le start e.cycle && nat_lt e.cycle end)) (order_behind before w e.cycle some) in
    absurd (cc)
older_breaks c start end rule.Place before w e some kept broken = absurd (cc)
older_breaks c start end r before w e some kept broken = refl

-- ---- an ACT of the bank

found_in : (command : Command) (a : Entry) (w : List Entry) (b : Bool) → opens command a ≡ b → (b ≡ false → (p : ℕ) × StartsAtAct command w p) → (p : ℕ) × StartsAtAct command (a ∷ w) p
found_in command a w true is later = (0, (a, refl, is))
found_in command a w false is later = let r = later refl in (suc r.0, r.1)

pub found_act : (command : Command) (w : List Entry) → list_any (opens command) w ≡ true → (p : ℕ) × StartsAtAct command w p
found_act command [] some = cc
found_act command (a ∷ w) some = found_in command a w (opens command a) refl (λ off. found_act command w (rest_any (opens command a) (list_any (opens command) w) off some))
  where
    rest_any : (b d : Bool) → b ≡ false → (b || d) ≡ true → d ≡ true
    rest_any true d off is = cc
    rest_any false d off is = is

pub get_behind : (before w : List Entry) (p : ℕ) → slice_get (before ++ w) (length before + p) ≡ slice_get w p
get_behind [] w p = ap (slice_get w) (zero-add p)
get_behind (x ∷ before) w p =
    let next : suc (length before) + p ≡ suc (length before + p) = omega arith in
    ap (slice_get (x ∷ before ++ w)) next ∙ get_behind before w p

starts_behind : (command : Command) (before w : List Entry) (p : ℕ) → StartsAtAct command w p → StartsAtAct command (before ++ w) (length before + p)
starts_behind command before w p (a, at, is) = (a, get_behind before w p ∙ at, is)

-- what stands before it is nothing to the bank
pub bank_behind_act : (command : Command) (before w : List Entry) (p : ℕ) → StartsAtAct command w p → bank_behind command (before ++ w) ≡ bank_behind command w
bank_behind_act command before w p starts =
    sym (bank_started command (before ++ w) (length before + p) (starts_behind command before w p starts))
    ∙ ap (bank_behind command) (drop-append-add before w p)
    ∙ bank_started command w p starts

change_behind : (command : Command) (before w : List Entry) (p : ℕ) → StartsAtAct command w p → (k : ℕ) → changes_at command (before ++ w) (length before + p + k) ≡ changes_at command w (p + k)
change_behind command before w p starts k =
    change_shift command (before ++ w) (length before + p) (starts_behind command before w p starts) k
    ∙ ap (λ h. changes_at command h k) (drop-append-add before w p)
    ∙ sym (change_shift command w p starts k)

act_there : (command : Command) (w : List Entry) (p : ℕ) → StartsAtAct command w p → changes_at command w p ≡ true
act_there command w p (a, at, is) =
    ap (λ o. option_map_or (λ x. is_same_bank x.command command && changes x (bank_behind command (take p w))) o false) at
    ∙ act_changes (is_activate a.command) (is_same_bank a.command command) _ is

-- the last change among the newest ones is that of all, where an ACT of the bank is among them
pub last_behind_act : (command : Command) (before w : List Entry) (p place : ℕ) → StartsAtAct command w p → IsLast (changes_at command w) place → IsLast (changes_at command (before ++ w)) (length before + place)
last_behind_act command before w p place starts found =
    let above : p ≤ place = not_above (act_there command w p starts) in
    let at : (q : ℕ) → p ≤ q → changes_at command (before ++ w) (length before + q) ≡ changes_at command w q = λ q from.
    let one : length before + q ≡ length before + p + (q - p) = omega (arith, from) in
    let two : p + (q - p) ≡ q = omega (arith, from) in
    ap (changes_at command (before ++ w)) one ∙ change_behind command before w p starts (q - p) ∙ ap (changes_at command w) two in
    record {
      passes = at place above ∙ found.passes;
      last = λ later is.
          let same : later ≡ length before + (later - length before) = omega (arith, is) in
          let beyond : place < later - length before = omega (arith, is) in
          ap (changes_at command (before ++ w)) same ∙ at (later - length before) (omega (arith, above, beyond)) ∙ found.last (later - length before) beyond;
    }
  where
    not_above : changes_at command w p ≡ true → p ≤ place
    not_above changed = go (nat_lt place p) refl
      where
        go : (b : Bool) → nat_lt place p ≡ b → p ≤ place
        go true is = absurd (let off = found.last p (ltb-true place p is) in cc)
        go false is = ltb-false place p is

-- ---- the rules on the bank

own_state : (x y z u v : Bool) → z ≡ false → (x || y || z && u) ≡ (x || y || z && v)
own_state x y true u v off = cc
own_state x y false u v off = refl

not_true : (b : Bool) → not b ≡ true → b ≡ false
not_true true is = cc
not_true false is = refl

pub own_behind : (c : Config) (start end : ℕ) (r : Rule) (before w : List Entry) (e : Entry) → is_on_own_bank r e ≡ true → bank_behind e.command (before ++ w) ≡ bank_behind e.command w
    → breaks c start end r (before ++ w) e ≡ breaks c start end r w e
own_behind c start end rule.State before w e own same =
    ap (λ b. is_activate e.command && is_active c.timing e.cycle b || is_column e.command && is_none (ready_row b) || is_refresh e.command && any_bank c.geometry (rank_of e.command) (λ bank. is_active c.timing e.cycle (bank_behind bank (before ++ w)))) same
    ∙ own_state (is_activate e.command && is_active c.timing e.cycle (bank_behind e.command w)) (is_column e.command && is_none (ready_row (bank_behind e.command w))) (is_refresh e.command)
    (any_bank c.geometry (rank_of e.command) (λ bank. is_active c.timing e.cycle (bank_behind bank (before ++ w)))) (any_bank c.geometry (rank_of e.command) (λ bank. is_active c.timing e.cycle (bank_behind bank w)))
    (not_true _ own)
own_behind c start end rule.Row before w e own same =
    ap (λ b. is_column e.command && not (is_row (open_row c.timing e.cycle b) (row_of e.command))) same
own_behind c start end r before w e own same = cc

-- where it is broken behind all and not behind the newest, none of these opened the bank
pub none_opened : (c : Config) (start end : ℕ) (r : Rule) (before w : List Entry) (e : Entry) → is_on_own_bank r e ≡ true → breaks c start end r w e ≡ false → breaks c start end r (before ++ w) e ≡ true
    → list_any (opens e.command) w ≡ false
none_opened c start end r before w e own kept broken = go (list_any (opens e.command) w) refl
  where
    go : (b : Bool) → list_any (opens e.command) w ≡ b → list_any (opens e.command) w ≡ false
    go false is = is
    go true is = absurd (
        let act = found_act e.command w is in
        let same = own_behind c start end r before w e own (bank_behind_act e.command before w act.0 act.1) in
        cc)

-- ---- what is told of the bank

pub neither : {X : Type 0} (b : Bool) → MatchBool b ⊥ ⊥ → X
neither true h = absurd h
neither false h = absurd h

-- the evidence on a bank is that on the command's own one
own_evidence : (c : Config) (start end : ℕ) (r : Rule) (w : List Entry) (e : Entry) (group bank : ℕ) (opened : Option OpenBank) (changed : Option Placed) → is_on_own_bank r e ≡ true
    → IsEvidence c start end r w e (Bank group bank opened changed) → IsOwnBank w e (Bank group bank opened changed)
own_evidence c start end rule.State w e group bank opened changed own h = of_false (is_refresh e.command) _ _ (not_true _ own) h
  where
    of_false : (b : Bool) (A B : Type 0) → b ≡ false → MatchBool b A B → B
    of_false true A B off k = cc
    of_false false A B off k = k
own_evidence c start end rule.Row w e group bank opened changed own h = h
own_evidence c start end r w e group bank opened changed own h = cc

-- Where no change was found among the newest ones, or no ACT, none of them is an ACT of the bank.
pub bank_unopened : (c : Config) (start end : ℕ) (r : Rule) (w : List Entry) (e : Entry) (group bank : ℕ) (opened : Option OpenBank) (changed : Option Placed) → is_on_own_bank r e ≡ true
    → IsEvidence c start end r w e (Bank group bank opened changed) → (is_refresh e.command ≡ false → IsSome changed → list_any (opens e.command) w ≡ false) → list_any (opens e.command) w ≡ false
bank_unopened c start end r w e group bank opened (Some changed) own h none = none (own_not_refresh r own) refl
  where
    own_not_refresh : (q : Rule) → is_on_own_bank q e ≡ true → is_refresh e.command ≡ false
    own_not_refresh rule.State is = not_true _ is
    own_not_refresh rule.Row is = not_true _ is
    own_not_refresh q is = cc
bank_unopened c start end r w e group bank opened None own h none = go (list_any (opens e.command) w) refl
  where
    go : (b : Bool) → list_any (opens e.command) w ≡ b → list_any (opens e.command) w ≡ false
    go false is = is
    go true is = absurd (
        let act = found_act e.command w is in
        let never : IsLastChange e.command w None = (own_evidence c start end r w e group bank opened None own h).3 in
        let on = act_there e.command w act.0 act.1 in
        let off = never act.0 in
        cc)

-- evidence on a bank is of a rule on banks
pub bank_older : (c : Config) (start end : ℕ) (r : Rule) (w : List Entry) (e : Entry) (group bank : ℕ) (opened : Option OpenBank) (changed : Option Placed)
    → IsEvidence c start end r w e (Bank group bank opened changed) → is_by_newest r ≡ false
bank_older c start end rule.Order w e group bank opened changed h = absurd h
bank_older c start end rule.Place w e group bank opened changed h = absurd h
bank_older c start end r w e group bank opened changed h = refl

own_told : (before w : List Entry) (e : Entry) (group bank : ℕ) (opened : Option OpenBank) (changed told : Placed) → list_any (opens e.command) w ≡ true
    → told.place ≡ length before + changed.place → told.entry ≡ changed.entry → IsOwnBank w e (Bank group bank opened (Some changed)) → IsOwnBank (before ++ w) e (Bank group bank opened (Some told))
own_told before w e group bank opened changed told some place entry h =
    let act = found_act e.command w some in
    let last : IsLastChange e.command w (Some changed) = h.3 in (
      h.0,
      h.1,
      h.2 ∙ sym (bank_behind_act e.command before w act.0 act.1),
      (
        ap (slice_get (before ++ w)) place ∙ get_behind before w changed.place ∙ last.0 ∙ ap (λ x. Some x) (sym entry),
        subst (IsLast (changes_at e.command (before ++ w))) (sym place) (last_behind_act e.command before w act.0 changed.place act.1 last.1),
      ),
    )

-- the bank, as its last change among the newest ones left it, where an ACT of it is among them
pub bank_told : (c : Config) (start end : ℕ) (r : Rule) (before w : List Entry) (e : Entry) (group bank : ℕ) (opened : Option OpenBank) (changed told : Placed) → is_refresh e.command ≡ false
    → list_any (opens e.command) w ≡ true → told.place ≡ length before + changed.place → told.entry ≡ changed.entry
    → IsEvidence c start end r w e (Bank group bank opened (Some changed)) → IsEvidence c start end r (before ++ w) e (Bank group bank opened (Some told))
bank_told c start end rule.Order before w e group bank opened changed told off some place entry h = absurd h
bank_told c start end rule.Place before w e group bank opened changed told off some place entry h = absurd h
bank_told c start end rule.State before w e group bank opened changed told off some place entry h = on_false (is_refresh e.command) off h
  where
    on_false : (b : Bool) → b ≡ false → MatchBool b (IsActiveBank c w e (Bank group bank opened (Some changed))) (IsOwnBank w e (Bank group bank opened (Some changed)))
        → MatchBool b (IsActiveBank c (before ++ w) e (Bank group bank opened (Some told))) (IsOwnBank (before ++ w) e (Bank group bank opened (Some told)))
    on_false true is k = cc
    on_false false is k = own_told before w e group bank opened changed told some place entry k
bank_told c start end rule.Row before w e group bank opened changed told off some place entry h = own_told before w e group bank opened changed told some place entry h
bank_told c start end rule.Rp before w e group bank opened changed told off some place entry h = neither (is_behind_start c.timing w e) h
bank_told c start end rule.RpRef before w e group bank opened changed told off some place entry h = absurd (nothing (is_behind_start_of_rank c w e) h)
  where
    nothing : (b : Bool) → MatchBool b (IsStartOfRank c w e (Bank group bank opened (Some changed))) ⊥ → ⊥
    nothing true k = k.2
    nothing false k = k
bank_told c start end rule.RefLate before w e group bank opened changed told off some place entry h = absurd h
bank_told c start end rule.RefGap before w e group bank opened changed told off some place entry h = absurd h
bank_told c start end r before w e group bank opened changed told off some place entry h = absurd h

-- ---- what is told of the order

-- evidence on the order stays behind more commands
pub start_told : (c : Config) (start end : ℕ) (r : Rule) (before w : List Entry) (e : Entry) → (w ≡ [] → ⊥) → IsEvidence c start end r w e BeforeStart → IsEvidence c start end r (before ++ w) e BeforeStart
start_told c start end rule.Order before w e some h = (order_behind before w e.cycle some ∙ h.0, h.1)
start_told c start end rule.Place before w e some h = absurd h
start_told c start end rule.State before w e some h = neither (is_refresh e.command) h
start_told c start end rule.Row before w e some h = absurd h
start_told c start end rule.Rp before w e some h = neither (is_behind_start c.timing w e) h
start_told c start end rule.RpRef before w e some h = absurd (of_rank (is_behind_start_of_rank c w e) h)
  where
    of_rank : (b : Bool) → MatchBool b (IsStartOfRank c w e BeforeStart) ⊥ → ⊥
    of_rank true k = k.2
    of_rank false k = k
start_told c start end rule.RefLate before w e some h = absurd h
start_told c start end rule.RefGap before w e some h = absurd h
start_told c start end r before w e some h = absurd h
