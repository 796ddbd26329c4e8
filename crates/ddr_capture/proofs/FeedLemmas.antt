-- Finding the lines of what waits.
use Rattle.std.proofs.Common.{◌≡◌, ℕ, ◌+◌, ◌-◌, ◌<◌, ◌≤◌, ◌==◌, Bool, true, false, List, ◌∷◌, ◌++◌, length, take, drop, get_or, Option, Some, None, IfSome, refl, sym, subst, ap, ◌∙◌, arith}
use Rattle.std.specs.Prelude.{IfNone}
use Rattle.std.specs.List.{after_first, before_first, position_or_len, slice_range}
use Rattle.std.specs.Io.KnownBytes.{Keeps, prepend_known}
use Rattle.std.proofs.Math.ListN.{drop_of_length-le}
use Rattle.std.proofs.lemmas.Bool.{eqb-true}
use Rattle.std.proofs.lemmas.List.{drop-drop, get_or-take, length-drop, length-take, take_all}
use Rattle.std.proofs.lemmas.List.Elements.{All-from_get_or}
use Rattle.std.proofs.lemmas.List.Sums.{fails_before_first, passes_at_first, position_or_len_is, split_at_first}
use Rattle.memchr.specs.Find.{IsFirstByte, is_byte}
use Rattle.ddr_capture.specs.Feed.{BeginsWith, IsLast, IsTooLong, IsUnfed}
use Rattle.ddr_capture.specs.declared.feed.TheConstants.{LONGEST_LINE}

abbrev is_feed : ℕ → Bool
is_feed byte = byte == 10

not_true : (b : Bool) → (b ≡ true → ⊥) → b ≡ false
not_true true h = absurd (h refl)
not_true false h = refl

-- the first line feed, as it is searched for
pub feed_at : (text : List ℕ) (r : Option ℕ) → IsFirstByte (is_byte 10) text r → IfSome r (λ k. position_or_len is_feed text ≡ k)
feed_at text None h = tt
feed_at text (Some k) h =
    position_or_len_is is_feed text k 0 (omega (arith, h.0.high)) (λ i below. not_true (is_feed (get_or text i 0)) (h.0.before i (omega arith) below)) (λ inside. h.1)

pub feed_none : (text : List ℕ) (r : Option ℕ) → IsFirstByte (is_byte 10) text r → IfNone r (position_or_len is_feed text ≡ length text)
feed_none text None h =
    position_or_len_is is_feed text (length text) 0 (omega arith) (λ i below. not_true (is_feed (get_or text i 0)) (h i (omega arith) below)) (λ inside. absurd (omega (arith, inside)))
feed_none text (Some k) h = tt

-- no line feed stands before the first
unfed_before : (text : List ℕ) (n : ℕ) → n ≤ position_or_len is_feed text → IsUnfed (take n text)
unfed_before text n below =
    All-from_get_or (λ byte. (byte == 10) ≡ false) (take n text) 0 (λ k inside.
    let here : k < n = omega (arith, length-take n text) in
    ap is_feed (get_or-take n text k 0 here) ∙ fails_before_first is_feed text k 0 (omega (arith, here)))

unfed_all : (text : List ℕ) → position_or_len is_feed text ≡ length text → IsUnfed text
unfed_all text none = subst IsUnfed (take_all (length text) text (omega arith)) (unfed_before text (length text) (omega (arith, none)))

drop_twice : (xs : List ℕ) (n m : ℕ) → drop (n + m) xs ≡ drop m (drop n xs)
drop_twice xs n m = sym (drop-drop m n xs)

-- a line feed ends the first line
pub line_first : (items : List ℕ) (from place : ℕ) → position_or_len is_feed (drop from items) ≡ place → place < length (drop from items)
    → BeginsWith (drop from items) (slice_range items from (from + place)) (drop (from + place + 1) items)
line_first items from place first within =
    let rest = drop from items in
    let found : position_or_len is_feed rest < length rest = rw first within in
    let feed : get_or rest (position_or_len is_feed rest) 0 ≡ 10 = eqb-true _ _ (passes_at_first is_feed rest 0 found) in
    let whole : rest ≡ before_first is_feed rest ++ (10 ∷ after_first is_feed rest) =
    split_at_first is_feed rest 0 found ∙ ap (λ b. before_first is_feed rest ++ (b ∷ after_first is_feed rest)) feed in
    let span : from + place - from ≡ place = omega arith in
    let behind : drop (from + place + 1) items ≡ drop (place + 1) rest = ap (λ n. drop n items) (omega arith) ∙ drop_twice items from (place + 1) in
    record {
      whole = rw (span, behind) (rw first at whole);
      unfed = rw span (unfed_before rest place (omega (arith, first)));
    }

-- what waits is the last line
pub line_last : (items : List ℕ) (from : ℕ) → from < length items → position_or_len is_feed (drop from items) ≡ length (drop from items)
    → IsLast (drop from items) (slice_range items from (length items)) (drop (length items) items)
line_last items from some none =
    let all : slice_range items from (length items) ≡ drop from items = take_all (length items - from) (drop from items) (omega (arith, length-drop from items)) in
    record {
      whole = sym all;
      unfed = rw all (unfed_all (drop from items) none);
      some = rw all (omega (arith, length-drop from items));
      none = drop_of_length-le items (omega arith);
    }

-- what waits is too long already
pub too_long : (a : Option (List ℕ)) (waits : List ℕ) (more : Option (List ℕ)) → Keeps a (prepend_known waits more) → position_or_len is_feed waits ≡ length waits → LONGEST_LINE + 1 < length waits → IfSome a IsTooLong
too_long None waits more kept none long = tt
too_long (Some text) waits None kept none long = absurd kept
too_long (Some text) waits (Some behind) kept none long = record {
  front = waits;
  behind = behind;
  whole = sym kept;
  unfed = unfed_all waits none;
  long = long;
}
