-- What the newest commands tell of all.
use Rattle.std.proofs.Common.{◌≡◌, ℕ, suc, ◌+◌, ◌-◌, ◌^◌, ◌<◌, ◌≤◌, Bool, true, false, ◌||◌, List, [], ◌∷◌, ◌++◌, length, drop, IfSome, IsSome, None, Option, Some, refl, sym, ap, subst, ◌∙◌, arith, zero-add, length-append}
use Rattle.std.specs.Prelude.{slice_get}
use Rattle.std.specs.Bool.{MatchBool}
use Rattle.std.specs.List.{count_by, list_any}
use Rattle.std.specs.Option.{option_map_or}
use Rattle.std.proofs.Math.Seq.{drop-append-add}
use Rattle.std.proofs.lemmas.Option.{slice_get_within}
use Rattle.ddr_timing.specs.declared.config.Config.{Config}
use Rattle.ddr_timing.specs.declared.timing.Timing.{Timing}
use Rattle.ddr_trace.specs.declared.bank.OpenBank.{OpenBank}
use Rattle.ddr_trace.specs.declared.command.Entry.{Entry}
use Rattle.ddr_trace.specs.declared.rule.Rule.{Rule}
use Rattle.ddr_trace.specs.declared.rule.Rule.TheVariants as rule
use Rattle.ddr_trace.specs.Commands.{is_refresh}
use Rattle.ddr_trace.specs.Rules.{breaks}
use Rattle.ddr_evidence.specs.declared.evidence.Evidence.{Evidence}
use Rattle.ddr_evidence.specs.declared.evidence.Evidence.TheVariants.{Bank, BeforeStart, TooClose, NotAbove, Outside, TooFar}
use Rattle.ddr_evidence.specs.declared.evidence.Part.{Part}
use Rattle.ddr_evidence.specs.declared.evidence.Placed.{Placed}
use Rattle.ddr_evidence.specs.Evidence.{IsEvidence, IsFrom, IsPair, is_behind_start, is_behind_start_of_rank}
use Rattle.ddr_evidence.specs.Places.{IsLast, are_breaking, breaks_from, counts, least_of, pair_breaks}
use Rattle.ddr_watch.specs.declared.recent.Recent.{Recent}
use Rattle.ddr_evidence.specs.Recent.{opens}
use Rattle.ddr_watch.specs.declared.recent.TheConstants.{FEWEST_KEPT}
use Rattle.ddr_watch.specs.Finds.{IsPassed, IsRight, is_by_distance, is_by_newest, is_on_own_bank}
use Rattle.ddr_watch.specs.Kept.{AreLast}
use Rattle.ddr_watch.proofs.NewestLemmas.{bank_older, bank_told, bank_unopened, get_behind, neither, none_opened, older_breaks, start_told}

-- ---- one of two

second : (b : Bool) (A : Type 0) → MatchBool b ⊥ A → A
second true A h = absurd h
second false A h = h

of_second : (b : Bool) (A B : Type 0) → (A → ⊥) → MatchBool b A B → B
of_second true A B never h = absurd (never h)
of_second false A B never h = h

when_false : (b : Bool) (A B : Type 0) → b ≡ false → MatchBool b A B → B
when_false true A B e h = cc
when_false false A B e h = h

left_off : (a b : Bool) → (a || b) ≡ false → a ≡ false
left_off true b e = cc
left_off false b e = refl

-- ---- an earlier command that is too close

pub close_pair : (c : Config) (start end : ℕ) (r : Rule) (w : List Entry) (e : Entry) (earlier : Placed) (distance least : ℕ)
    → IsEvidence c start end r w e (TooClose earlier distance least) → IsPair c.timing r w e (TooClose earlier distance least)
close_pair c start end rule.Order w e earlier distance least h = absurd h
close_pair c start end rule.Place w e earlier distance least h = absurd h
close_pair c start end rule.State w e earlier distance least h = neither (is_refresh e.command) h
close_pair c start end rule.Row w e earlier distance least h = absurd h
close_pair c start end rule.Rp w e earlier distance least h = second (is_behind_start c.timing w e) _ h
close_pair c start end rule.RpRef w e earlier distance least h = of_second (is_behind_start_of_rank c w e) _ _ (λ k. k.2) h
close_pair c start end rule.RefLate w e earlier distance least h = absurd h
close_pair c start end rule.RefGap w e earlier distance least h = absurd h
close_pair c start end r w e earlier distance least h = h

pub right_of : (c : Config) (start : ℕ) (r : Rule) (w : List Entry) (e : Entry) (evidence : Evidence) → IsEvidence c start (e.cycle + 1) r w e evidence → IsRight c start r w e evidence
right_of c start r w e (TooClose earlier distance least) h = close_pair c start (e.cycle + 1) r w e earlier distance least h
right_of c start r w e evidence h = h

pub far_gap : (c : Config) (start end : ℕ) (r : Rule) (w : List Entry) (e : Entry) (earlier : Placed) (distance : ℕ) → IsEvidence c start end r w e (TooFar earlier distance) → IsFrom c.timing rule.RefGap w e earlier distance
far_gap c start end rule.Order w e earlier distance h = absurd h
far_gap c start end rule.Place w e earlier distance h = absurd h
far_gap c start end rule.State w e earlier distance h = neither (is_refresh e.command) h
far_gap c start end rule.Row w e earlier distance h = absurd h
far_gap c start end rule.Rp w e earlier distance h = neither (is_behind_start c.timing w e) h
far_gap c start end rule.RpRef w e earlier distance h = absurd (of_second (is_behind_start_of_rank c w e) _ _ (λ k. k.2) h)
far_gap c start end rule.RefLate w e earlier distance h = absurd h
far_gap c start end rule.RefGap w e earlier distance h = h
far_gap c start end r w e earlier distance h = absurd h

pub above_there : (c : Config) (start end : ℕ) (r : Rule) (w : List Entry) (e : Entry) (earlier : Placed) → IsEvidence c start end r w e (NotAbove earlier) → slice_get w earlier.place ≡ Some earlier.entry
above_there c start end rule.Order w e earlier h = h.0
above_there c start end rule.Place w e earlier h = absurd h
above_there c start end rule.State w e earlier h = neither (is_refresh e.command) h
above_there c start end rule.Row w e earlier h = absurd h
above_there c start end rule.Rp w e earlier h = neither (is_behind_start c.timing w e) h
above_there c start end rule.RpRef w e earlier h = absurd (of_second (is_behind_start_of_rank c w e) _ _ (λ k. k.2) h)
above_there c start end rule.RefLate w e earlier h = absurd h
above_there c start end rule.RefGap w e earlier h = absurd h
above_there c start end r w e earlier h = absurd h

-- ---- among all commands

drop_behind : (before w : List Entry) (p : ℕ) → drop (length before + p + 1) (before ++ w) ≡ drop (p + 1) w
drop_behind before w p =
    let same : length before + p + 1 ≡ length before + (p + 1) = omega arith in
    ap (λ n. drop n (before ++ w)) same ∙ drop-append-add before w (p + 1)

breaks_behind : (t : Timing) (r : Rule) (before w : List Entry) (e : Entry) (p : ℕ) → breaks_from t r (before ++ w) e (length before + p) ≡ breaks_from t r w e p
breaks_behind t r before w e p =
    ap (λ d. option_map_or (λ a. are_breaking t r e a (count_by (counts r e) d)) (slice_get (before ++ w) (length before + p)) false) (drop_behind before w p)
    ∙ ap (λ o. option_map_or (λ a. are_breaking t r e a (count_by (counts r e) (drop (p + 1) w))) o false) (get_behind before w p)

last_behind : (t : Timing) (r : Rule) (before w : List Entry) (e : Entry) (p : ℕ) → IsLast (breaks_from t r w e) p → IsLast (breaks_from t r (before ++ w) e) (length before + p)
last_behind t r before w e p found = record {
  passes = breaks_behind t r before w e p ∙ found.passes;
  last = λ later above.
      let same : later ≡ length before + (later - length before) = omega (arith, above) in
      ap (breaks_from t r (before ++ w) e) same ∙ breaks_behind t r before w e (later - length before) ∙ found.last (later - length before) (omega (arith, above));
}

-- the command at its place among all
abbrev pub IsBehind : List Entry → Placed → Placed → Type 0
IsBehind before earlier placed = (placed.place ≡ length before + earlier.place) × (placed.entry ≡ earlier.entry)

from_behind : (t : Timing) (r : Rule) (before w : List Entry) (e : Entry) (earlier placed : Placed) (distance : ℕ) → IsBehind before earlier placed → IsFrom t r w e earlier distance → IsFrom t r (before ++ w) e placed distance
from_behind t r before w e earlier placed distance at h = record {
  there = ap (slice_get (before ++ w)) at.0 ∙ get_behind before w earlier.place ∙ h.there ∙ ap (λ x. Some x) (sym at.1);
  nearest = subst (IsLast (breaks_from t r (before ++ w) e)) (sym at.0) (last_behind t r before w e earlier.place h.nearest);
  clocks = h.clocks ∙ ap (λ (a : Entry). e.cycle - a.cycle) (sym at.1);
}

pub found_close : (c : Config) (start end : ℕ) (r : Rule) (before w : List Entry) (e : Entry) (earlier placed : Placed) (distance least : ℕ) → IsBehind before earlier placed
    → IsEvidence c start end r w e (TooClose earlier distance least) → IsPair c.timing r (before ++ w) e (TooClose placed distance least)
found_close c start end r before w e earlier placed distance least at h =
    let pair = close_pair c start end r w e earlier distance least h in
    (from_behind c.timing r before w e earlier placed distance at pair.0, pair.1 ∙ ap (λ (a : Entry). least_of c.timing r a.command e.command) (sym at.1))

pub found_far : (c : Config) (start end : ℕ) (r : Rule) (before w : List Entry) (e : Entry) (earlier placed : Placed) (distance : ℕ) → IsBehind before earlier placed
    → IsEvidence c start end r w e (TooFar earlier distance) → IsEvidence c start end r (before ++ w) e (TooFar placed distance)
found_far c start end rule.Order before w e earlier placed distance at h = absurd h
found_far c start end rule.Place before w e earlier placed distance at h = absurd h
found_far c start end rule.State before w e earlier placed distance at h = neither (is_refresh e.command) h
found_far c start end rule.Row before w e earlier placed distance at h = absurd h
found_far c start end rule.Rp before w e earlier placed distance at h = neither (is_behind_start c.timing w e) h
found_far c start end rule.RpRef before w e earlier placed distance at h = absurd (of_second (is_behind_start_of_rank c w e) _ _ (λ k. k.2) h)
found_far c start end rule.RefLate before w e earlier placed distance at h = absurd h
found_far c start end rule.RefGap before w e earlier placed distance at h = from_behind c.timing rule.RefGap before w e earlier placed distance at h
found_far c start end r before w e earlier placed distance at h = absurd h

pub found_above : (c : Config) (start end : ℕ) (r : Rule) (before w : List Entry) (e : Entry) (earlier placed : Placed) → IsBehind before earlier placed
    → IsEvidence c start end r w e (NotAbove earlier) → IsEvidence c start end r (before ++ w) e (NotAbove placed)
found_above c start end rule.Order before w e earlier placed at h = (
  ap (slice_get (before ++ w)) at.0 ∙ get_behind before w earlier.place ∙ h.0 ∙ ap (λ x. Some x) (sym at.1),
  (let all = length-append before w in let place = at.0 in let last = h.1 in omega (arith, all, place, last)),
  subst (λ (a : Entry). e.cycle ≤ a.cycle) (sym at.1) h.2,
)
found_above c start end rule.Place before w e earlier placed at h = absurd h
found_above c start end rule.State before w e earlier placed at h = neither (is_refresh e.command) h
found_above c start end rule.Row before w e earlier placed at h = absurd h
found_above c start end rule.Rp before w e earlier placed at h = neither (is_behind_start c.timing w e) h
found_above c start end rule.RpRef before w e earlier placed at h = absurd (of_second (is_behind_start_of_rank c w e) _ _ (λ k. k.2) h)
found_above c start end rule.RefLate before w e earlier placed at h = absurd h
found_above c start end rule.RefGap before w e earlier placed at h = absurd h
found_above c start end r before w e earlier placed at h = absurd h

pub found_outside : (c : Config) (start end : ℕ) (r : Rule) (before w : List Entry) (e : Entry) (part : Part) (number bound : ℕ)
    → IsEvidence c start end r w e (Outside part number bound) → IsEvidence c start end r (before ++ w) e (Outside part number bound)
found_outside c start end rule.Order before w e part number bound h = absurd h
found_outside c start end rule.Place before w e part number bound h = h
found_outside c start end rule.State before w e part number bound h = neither (is_refresh e.command) h
found_outside c start end rule.Row before w e part number bound h = absurd h
found_outside c start end rule.Rp before w e part number bound h = neither (is_behind_start c.timing w e) h
found_outside c start end rule.RpRef before w e part number bound h = absurd (of_second (is_behind_start_of_rank c w e) _ _ (λ k. k.2) h)
found_outside c start end rule.RefLate before w e part number bound h = absurd h
found_outside c start end rule.RefGap before w e part number bound h = absurd h
found_outside c start end r before w e part number bound h = absurd h

-- ---- where nothing is told

none_close : (c : Config) (start end : ℕ) (r : Rule) (w : List Entry) (e : Entry) → is_by_distance r ≡ true → breaks c start end r w e ≡ false → pair_breaks c.timing r w e ≡ false
none_close c start end rule.Order w e is kept = cc
none_close c start end rule.Place w e is kept = cc
none_close c start end rule.State w e is kept = cc
none_close c start end rule.Row w e is kept = cc
none_close c start end rule.Rp w e is kept = left_off _ _ kept
none_close c start end rule.RpRef w e is kept = left_off _ _ kept
none_close c start end rule.RefLate w e is kept = cc
none_close c start end rule.RefGap w e is kept = cc
none_close c start end r w e is kept = kept

-- what no earlier command is too close by is no evidence of a rule on distances
other_basis : (c : Config) (start end : ℕ) (r : Rule) (w : List Entry) (e : Entry) (evidence : Evidence) → is_by_distance r ≡ true → is_behind_start c.timing w e ≡ false → is_behind_start_of_rank c w e ≡ false
    → (IsPair c.timing r w e evidence → ⊥) → IsEvidence c start end r w e evidence → ⊥
other_basis c start end rule.Order w e evidence is off rank_off never h = cc
other_basis c start end rule.Place w e evidence is off rank_off never h = cc
other_basis c start end rule.State w e evidence is off rank_off never h = cc
other_basis c start end rule.Row w e evidence is off rank_off never h = cc
other_basis c start end rule.Rp w e evidence is off rank_off never h = never (when_false (is_behind_start c.timing w e) _ _ off h)
other_basis c start end rule.RpRef w e evidence is off rank_off never h = never (when_false (is_behind_start_of_rank c w e) _ _ rank_off h)
other_basis c start end rule.RefLate w e evidence is off rank_off never h = cc
other_basis c start end rule.RefGap w e evidence is off rank_off never h = cc
other_basis c start end r w e evidence is off rank_off never h = never h

-- at least so many are kept
filled : (w : List Entry) → FEWEST_KEPT ≤ length w → (w ≡ [] → ⊥)
filled w many none = let short = ap length none in absurd (omega (arith, many, short))

module _ (r : Recent) (history : List Entry) (last : AreLast r history) where
  -- all commands are kept
  pub all_kept : r.first ≡ 0 → r.entries.items ≡ history
  all_kept none = go last.before (last.many ∙ none) last.whole
    where
      go : (before : List Entry) → length before ≡ 0 → history ≡ before ++ r.entries.items → r.entries.items ≡ history
      go [] short whole = sym whole
      go (x ∷ before) short whole = absurd (omega (arith, short))

  passed : (c : Config) (start : ℕ) (q : Rule) (e : Entry) → (r.first ≡ 0 → ⊥)
      → (is_by_distance q ≡ true → is_behind_start c.timing r.entries.items e ≡ false → is_behind_start_of_rank c r.entries.items e ≡ false → pair_breaks c.timing q r.entries.items e ≡ false)
      → is_by_newest q ≡ false → (is_on_own_bank q e ≡ true → list_any (opens e.command) r.entries.items ≡ false)
      → IsPassed c start q history e
  passed c start q e some none older unopened = record {
    before = last.before;
    recent = r.entries.items;
    whole = last.whole;
    enough = last.enough some;
    none = none;
    older = older;
    unopened = unopened;
  }

  -- nothing was found
  pub none_found : (c : Config) (start : ℕ) (q : Rule) (e : Entry) → false ≡ breaks c start (e.cycle + 1) q r.entries.items e → breaks c start (e.cycle + 1) q history e ≡ true → IsPassed c start q history e
  none_found c start q e kept broken =
      let some : r.first ≡ 0 → ⊥ = λ none. absurd (let same = ap (λ h. breaks c start (e.cycle + 1) q h e) (all_kept none) in cc) in
      let behind : breaks c start (e.cycle + 1) q (last.before ++ r.entries.items) e ≡ true = subst (λ h. breaks c start (e.cycle + 1) q h e ≡ true) last.whole broken in
      passed c start q e some
      (λ is _ _. none_close c start (e.cycle + 1) q r.entries.items e is (sym kept))
      (older_breaks c start (e.cycle + 1) q last.before r.entries.items e (filled r.entries.items (last.enough some)) (sym kept) behind)
      (λ own. none_opened c start (e.cycle + 1) q last.before r.entries.items e own (sym kept) behind)

  -- or a thing of which older commands may tell otherwise
  pub not_told : (c : Config) (start : ℕ) (q : Rule) (e : Entry) (evidence : Evidence) → (r.first ≡ 0 → ⊥) → (IsPair c.timing q r.entries.items e evidence → ⊥)
      → is_by_newest q ≡ false → (is_on_own_bank q e ≡ true → list_any (opens e.command) r.entries.items ≡ false)
      → IsEvidence c start (e.cycle + 1) q r.entries.items e evidence → IsPassed c start q history e
  not_told c start q e evidence some never older unopened h =
      passed c start q e some (λ is off rank_off. absurd (other_basis c start (e.cycle + 1) q r.entries.items e evidence is off rank_off never h)) older unopened

-- ---- as the newest commands were looked through

module _ (r : Recent) (c : Config) (start : ℕ) (q : Rule) (e : Entry) (s : List Entry) (evidence : Evidence) (all : s ≡ r.entries.items) (found : IsEvidence c start (e.cycle + 1) q s e evidence) where
  here : (told : Evidence) → evidence ≡ told → IsEvidence c start (e.cycle + 1) q r.entries.items e told
  here told is = subst (λ w. IsEvidence c start (e.cycle + 1) q w e told) all (subst (IsEvidence c start (e.cycle + 1) q s e) is found)

  within : (place : ℕ) (x : Entry) → slice_get r.entries.items place ≡ Some x → r.first + length r.entries.items < 2 ^ 63 → place + r.first < 2 ^ 63
  within place x there few = let below = slice_get_within r.entries.items place x there in omega (arith, below, few)

  pub close_within : (earlier : Placed) (distance least : ℕ) → evidence ≡ TooClose earlier distance least → r.first + length r.entries.items < 2 ^ 63 → earlier.place + r.first < 2 ^ 63
  close_within earlier distance least is few =
      within earlier.place earlier.entry (close_pair c start (e.cycle + 1) q r.entries.items e earlier distance least (here _ is)).0.there few

  pub far_within : (earlier : Placed) (distance : ℕ) → evidence ≡ TooFar earlier distance → r.first + length r.entries.items < 2 ^ 63 → earlier.place + r.first < 2 ^ 63
  far_within earlier distance is few = within earlier.place earlier.entry (far_gap c start (e.cycle + 1) q r.entries.items e earlier distance (here _ is)).there few

  pub above_within : (earlier : Placed) → evidence ≡ NotAbove earlier → r.first + length r.entries.items < 2 ^ 63 → earlier.place + r.first < 2 ^ 63
  above_within earlier is few = within earlier.place earlier.entry (above_there c start (e.cycle + 1) q r.entries.items e earlier (here _ is)) few

  module _ (history : List Entry) (last : AreLast r history) where
    at_place : (earlier placed : Placed) → placed.place ≡ r.first + earlier.place → placed.entry ≡ earlier.entry → IsBehind last.before earlier placed
    at_place earlier placed place entry = (place ∙ ap (λ n. n + earlier.place) (sym last.many), entry)

    pub told_close : (earlier placed : Placed) (distance least : ℕ) → evidence ≡ TooClose earlier distance least → placed.place ≡ r.first + earlier.place → placed.entry ≡ earlier.entry → IsPair c.timing q history e (TooClose placed distance least)
    told_close earlier placed distance least is place entry =
        subst (λ h. IsPair c.timing q h e (TooClose placed distance least)) (sym last.whole)
        (found_close c start (e.cycle + 1) q last.before r.entries.items e earlier placed distance least (at_place earlier placed place entry) (here _ is))

    pub told_far : (earlier placed : Placed) (distance : ℕ) → evidence ≡ TooFar earlier distance → placed.place ≡ r.first + earlier.place → placed.entry ≡ earlier.entry → IsEvidence c start (e.cycle + 1) q history e (TooFar placed distance)
    told_far earlier placed distance is place entry =
        subst (λ h. IsEvidence c start (e.cycle + 1) q h e (TooFar placed distance)) (sym last.whole)
        (found_far c start (e.cycle + 1) q last.before r.entries.items e earlier placed distance (at_place earlier placed place entry) (here _ is))

    pub told_above : (earlier placed : Placed) → evidence ≡ NotAbove earlier → placed.place ≡ r.first + earlier.place → placed.entry ≡ earlier.entry → IsEvidence c start (e.cycle + 1) q history e (NotAbove placed)
    told_above earlier placed is place entry =
        subst (λ h. IsEvidence c start (e.cycle + 1) q h e (NotAbove placed)) (sym last.whole)
        (found_above c start (e.cycle + 1) q last.before r.entries.items e earlier placed (at_place earlier placed place entry) (here _ is))

    pub told_outside : (part : Part) (number bound : ℕ) → evidence ≡ Outside part number bound → IsEvidence c start (e.cycle + 1) q history e (Outside part number bound)
    told_outside part number bound is =
        subst (λ h. IsEvidence c start (e.cycle + 1) q h e (Outside part number bound)) (sym last.whole)
        (found_outside c start (e.cycle + 1) q last.before r.entries.items e part number bound (here _ is))

    pub told_start : evidence ≡ BeforeStart → (r.first ≡ 0 → ⊥) → IsEvidence c start (e.cycle + 1) q history e BeforeStart
    told_start is some =
        subst (λ h. IsEvidence c start (e.cycle + 1) q h e BeforeStart) (sym last.whole)
        (start_told c start (e.cycle + 1) q last.before r.entries.items e (filled r.entries.items (last.enough some)) (here _ is))

    pub told_bank : (group bank : ℕ) (opened : Option OpenBank) (changed : Option Placed) (told : Placed) → evidence ≡ Bank group bank opened changed → IsSome changed
        → IfSome changed (λ ch. (told.place ≡ r.first + ch.place) × (told.entry ≡ ch.entry)) → is_refresh e.command ≡ false → list_any (opens e.command) r.entries.items ≡ true
        → IsEvidence c start (e.cycle + 1) q history e (Bank group bank opened (Some told))
    told_bank group bank opened None told is there at off some = cc
    told_bank group bank opened (Some changed) told is there at off some =
        subst (λ h. IsEvidence c start (e.cycle + 1) q h e (Bank group bank opened (Some told))) (sym last.whole)
        (bank_told c start (e.cycle + 1) q last.before r.entries.items e group bank opened changed told off some (at.0 ∙ ap (λ n. n + changed.place) (sym last.many)) at.1 (here _ is))

    pub untold_bank : (group bank : ℕ) (opened : Option OpenBank) (changed : Option Placed) → evidence ≡ Bank group bank opened changed → (r.first ≡ 0 → ⊥)
        → (is_refresh e.command ≡ false → IsSome changed → list_any (opens e.command) r.entries.items ≡ false) → IsPassed c start q history e
    untold_bank group bank opened changed is some none =
        not_told r history last c start q e (Bank group bank opened changed) some (λ k. absurd k)
        (bank_older c start (e.cycle + 1) q r.entries.items e group bank opened changed (here _ is))
        (λ own. bank_unopened c start (e.cycle + 1) q r.entries.items e group bank opened changed own (here _ is) none)
        (here _ is)

    pub told_whole : r.first ≡ 0 → IsRight c start q history e evidence
    told_whole none =
        right_of c start q history e evidence (subst (λ h. IsEvidence c start (e.cycle + 1) q h e evidence) (all_kept r history last none) (here _ refl))
