-- Going over the lines of a configuration, up to the mark.
use Rattle.std.proofs.Common.{◌≡◌, ℕ, ◌+◌, ◌<◌, ◌≤◌, ◌==◌, ◌||◌, Bool, true, false, List, [], ◌∷◌, ◌++◌, length, cond, codes, nat_lt, Option, Some, None, Result, Ok, Err, IfSome, ◌⊎◌, inl, inr, refl, sym, subst, ap, ◌∙◌, arith, append_assoc, append-nil, length-append}
use Rattle.std.specs.Prelude.{IfErr, IfOk, IsSomeAnd}
use Rattle.std.specs.List.{join_with_byte, slice_split}
use Rattle.std.specs.Option.{option_map_or}
use Rattle.std.specs.Str.{IsUtf8, bytes_eq}
use Rattle.std.specs.Str.Lines.{lines, lines_of_parts, strip_carriage_return}
use Rattle.std.proofs.lemmas.Bool.{le-ltb, lt-ltb, ltb-false, ltb-true}
use Rattle.std.proofs.lemmas.List.Folds.{list_any-append}
use Rattle.std.proofs.lemmas.List.Splits.{slice_split_at, slice_split_none}
use Rattle.std.proofs.lemmas.Slice.Eq.{bytes_eq-Decides}
use Rattle.ddr_text.specs.declared.input.TheConstants.{LONGEST_INPUT}
use Rattle.ddr_timing.specs.declared.config.Config.{Config}
use Rattle.ddr_text.specs.declared.fault.Fault.{Fault}
use Rattle.ddr_text.specs.declared.fault.Fault.TheVariants as faults
use Rattle.ddr_text.specs.Body.{HasConfigFault, HasParts, IsConfig, IsRefused, is_mark, parts_of, split_from, split_of}
use Rattle.ddr_text.specs.Input.{IsNoText, IsText}
use Rattle.ddr_text.proofs.BodyLemmas.{IsLine, lines-line, lines_more, not_of_parts, split_mark, split_more, strip_mark, whole_more}
use Rattle.ddr_capture.specs.Feed.{Along, BeginsWith, HasFound, IsLast, IsTooLong}
use Rattle.ddr_capture.specs.Front.{ComesFirst, HasFront, IsConfigRefused, IsFront, IsFrontRefused, IsFrontStep, IsMarked, IsOpened, IsReadable, IsShort, front_fault, front_of, is_any_long, is_long, last_fault}
use Rattle.ddr_capture.specs.declared.feed.Refusal.{Refusal}
use Rattle.ddr_capture.specs.declared.feed.Refusal.TheVariants as refusals
use Rattle.ddr_capture.specs.declared.feed.Found.TheVariants as found
use Rattle.ddr_capture.specs.declared.feed.TheConstants.{LONGEST_LINE}
use Rattle.ddr_capture.proofs.LineLemmas.{IsLongLast, IsLongLine, last_of, long_cut}

abbrev is_feed : ℕ → Bool
is_feed byte = byte == 10

-- ---- lines that are too long

or_true : (a b : Bool) → b ≡ true → (a || b) ≡ true
or_true true b e = refl
or_true false b e = e

-- one line among others is too long
any_long : (seen : List (List ℕ)) (line : List ℕ) (more : List (List ℕ)) → LONGEST_LINE < length line → is_any_long (seen ++ (line ∷ more)) ≡ true
any_long [] line more long = ap (λ (b : Bool). b || is_any_long more) (lt-ltb LONGEST_LINE (length line) long)
any_long (first ∷ seen) line more long = or_true (nat_lt LONGEST_LINE (length first)) (is_any_long (seen ++ (line ∷ more))) (any_long seen line more long)

-- a line more that is not
none_long : (seen : List (List ℕ)) (line : List ℕ) → is_any_long seen ≡ false → nat_lt LONGEST_LINE (length line) ≡ false → is_any_long (seen ++ line ∷ []) ≡ false
none_long seen line short fits =
    list_any-append (λ (l : List ℕ). nat_lt LONGEST_LINE (length l)) seen (line ∷ [])
    ∙ ap (λ (b : Bool). b || is_any_long (line ∷ [])) short
    ∙ ap (λ (b : Bool). b || false) fits

long_lines : (text : List ℕ) → is_any_long (lines text) ≡ true → is_long text ≡ true
long_lines text long = or_true (nat_lt LONGEST_INPUT (length text)) (is_any_long (lines text)) long

long_text : (text : List ℕ) → LONGEST_INPUT < length text → is_long text ≡ true
long_text text long = ap (λ (b : Bool). b || is_any_long (lines text)) (lt-ltb LONGEST_INPUT (length text) long)

short_text : (text : List ℕ) → length text ≤ LONGEST_INPUT → is_any_long (lines text) ≡ false → is_long text ≡ false
short_text text fits none = ap (λ (b : Bool). b || is_any_long (lines text)) (le-ltb LONGEST_INPUT (length text) fits) ∙ none

-- ---- what stands before the mark

-- with no mark that is all
front_all : (input : List ℕ) → split_of input ≡ None → front_of input ≡ input
front_all input none = ap (λ (o : Option (List ℕ × List ℕ)). option_map_or (λ (p : List ℕ × List ℕ). p.0) o input) none

abbrev marked_at : List ℕ → List ℕ → Option (List ℕ × List ℕ)
marked_at front behind = Some (front, behind)

abbrev unmarked : Option (List ℕ × List ℕ)
unmarked = None

-- what stands before the mark begins with what was read of it
front_grows : (front : List ℕ) (parts : List (List ℕ)) (f b : List ℕ) → split_from front parts ≡ Some (f, b) → (z : List ℕ) × (f ≡ front ++ z)
front_grows front [] f b e = cc
front_grows front (last ∷ []) f b e = at_last (bytes_eq last (codes "---")) e
  where
    at_last : (c : Bool) → cond c (marked_at front []) unmarked ≡ Some (f, b) → (z : List ℕ) × (f ≡ front ++ z)
    at_last true same = ([], sym (ap (λ (o : Option (List ℕ × List ℕ)). option_map_or (λ (p : List ℕ × List ℕ). p.0) o front) same) ∙ sym (append-nil front))
    at_last false same = cc
front_grows front (line ∷ next ∷ more) f b e = at_line (is_mark line) e (front_grows (front ++ (line ++ 10 ∷ [])) (next ∷ more) f b)
  where
    at_line : (c : Bool) → cond c (marked_at front (join_with_byte 10 (next ∷ more))) (split_from (front ++ (line ++ 10 ∷ [])) (next ∷ more)) ≡ Some (f, b)
        → (split_from (front ++ (line ++ 10 ∷ [])) (next ∷ more) ≡ Some (f, b) → (z : List ℕ) × (f ≡ (front ++ (line ++ 10 ∷ [])) ++ z)) → (z : List ℕ) × (f ≡ front ++ z)
    at_line true same later = ([], sym (ap (λ (o : Option (List ℕ × List ℕ)). option_map_or (λ (p : List ℕ × List ℕ). p.0) o front) same) ∙ sym (append-nil front))
    at_line false same later =
        let h = later same in
        ((line ++ 10 ∷ []) ++ h.0, h.1 ∙ append_assoc front (line ++ 10 ∷ []) h.0)

front_begins : (front input rest : List ℕ) → input ≡ front ++ rest → split_from front (slice_split is_feed rest) ≡ split_of input → (z : List ℕ) × (front_of input ≡ front ++ z)
front_begins front input rest whole said = by_mark (split_of input) refl
  where
    by_mark : (o : Option (List ℕ × List ℕ)) → split_of input ≡ o → (z : List ℕ) × (option_map_or (λ (p : List ℕ × List ℕ). p.0) o input ≡ front ++ z)
    by_mark None e = (rest, whole)
    by_mark (Some p) e = front_grows front (slice_split is_feed rest) p.0 p.1 (said ∙ e)

-- a line as the program's texts take it off
line_of : (text line behind : List ℕ) → BeginsWith text line behind → IsLine text line behind
line_of text line behind begins = record {
  parts = ap (slice_split is_feed) begins.whole ∙ slice_split_at is_feed line 10 behind begins.unfed refl;
  whole = begins.whole;
  unfed = begins.unfed;
}

-- it goes on with a line that is not the mark
front_line : (front input rest line behind : List ℕ) → IsFront front input rest → BeginsWith rest line behind → is_mark line ≡ false → (z : List ℕ) × (front_of input ≡ front ++ (line ++ (10 ∷ z)))
front_line front input rest line behind so_far begins other =
    let turn = line_of rest line behind begins in
    let h = front_begins (front ++ (line ++ 10 ∷ [])) input behind (whole_more input front rest line behind turn so_far.whole) (split_more front rest line behind (split_of input) turn other so_far.said) in
    (h.0, h.1 ∙ append_assoc front (line ++ 10 ∷ []) h.0 ∙ ap (λ (t : List ℕ). front ++ t) (append_assoc line (10 ∷ []) h.0))

-- such a line is too long
line_long : (front input rest line behind : List ℕ) → IsFront front input rest → BeginsWith rest line behind → is_mark line ≡ false → LONGEST_LINE < length (strip_carriage_return line) → is_long (front_of input) ≡ true
line_long front input rest line behind so_far begins other long =
    let h = front_line front input rest line behind so_far begins other in
    let lined : lines (front_of input) ≡ so_far.seen ++ (strip_carriage_return line ∷ lines h.0) =
    ap lines h.1 ∙ so_far.lined (line ++ (10 ∷ h.0)) ∙ ap (λ (l : List (List ℕ)). so_far.seen ++ l) (lines-line line h.0 begins.unfed) in
    long_lines (front_of input) (ap is_any_long lined ∙ any_long so_far.seen (strip_carriage_return line) (lines h.0) long)

-- there is no room for it
line_full : (front input rest line behind : List ℕ) → IsFront front input rest → BeginsWith rest line behind → is_mark line ≡ false → LONGEST_INPUT < length front + (length line + 1) → is_long (front_of input) ≡ true
line_full front input rest line behind so_far begins other long =
    let h = front_line front input rest line behind so_far begins other in
    long_text (front_of input) (omega (arith, long, ap length h.1, length-append front (line ++ (10 ∷ h.0)), length-append line (10 ∷ h.0)))

-- a line that is so long is not the mark
no_mark : (line : List ℕ) → LONGEST_LINE < length (strip_carriage_return line) → is_mark line ≡ false
no_mark line long = by_mark (is_mark line) refl
  where
    by_mark : (b : Bool) → is_mark line ≡ b → b ≡ false
    by_mark true e = absurd (omega (arith, long, ap length (strip_mark line e)))
    by_mark false e = refl

no_last_mark : (line : List ℕ) → LONGEST_LINE < length line → bytes_eq line (codes "---") ≡ false
no_last_mark line long = by_mark (bytes_eq line (codes "---")) refl
  where
    by_mark : (b : Bool) → bytes_eq line (codes "---") ≡ b → b ≡ false
    by_mark true e = absurd (omega (arith, long, ap length ((bytes_eq-Decides line (codes "---")).0 e)))
    by_mark false e = refl

-- what was not read yet begins with too long a line
rest_long : (front input rest : List ℕ) → IsFront front input rest → IsTooLong rest → is_long (front_of input) ≡ true
rest_long front input rest so_far too_long = by_cut (long_cut rest too_long)
  where
    by_cut : ((line : List ℕ) × (behind : List ℕ) × IsLongLine rest line behind) ⊎ IsLongLast rest → is_long (front_of input) ≡ true
    by_cut (inl (line, behind, is)) = line_long front input rest line behind so_far is.begins (no_mark line is.long) is.long
    by_cut (inr is) =
        let none : split_of input ≡ None =
        sym so_far.said ∙ ap (split_from front) (slice_split_none is_feed rest is.unfed) ∙ ap (λ (b : Bool). cond b (marked_at front []) unmarked) (no_last_mark rest is.long) in
        let whole : front_of input ≡ input = front_all input none in
        let last : lines rest ≡ rest ∷ [] = ap lines_of_parts (slice_split_none is_feed rest is.unfed) ∙ last_of rest (omega (arith, is.long)) in
        let lined : lines (front_of input) ≡ so_far.seen ++ (rest ∷ []) =
        ap lines (whole ∙ so_far.whole) ∙ so_far.lined rest ∙ ap (λ (l : List (List ℕ)). so_far.seen ++ l) last in
        long_lines (front_of input) (ap is_any_long lined ∙ any_long so_far.seen rest [] is.long)

-- ---- the lines one by one

-- nothing was read yet
pub front_none : (a : Option (List ℕ)) → Along (IsFront []) a a
unfolding split_of
front_none None = tt
front_none (Some input) = record { whole = refl; said = refl; seen = []; lined = λ more. refl; short = refl }

-- no line of the front is too long
front_short : (front input rest : List ℕ) → IsFront front input rest → is_any_long (lines front) ≡ false
front_short front input rest so_far =
    ap is_any_long (ap lines (sym (append-nil front)) ∙ so_far.lined [] ∙ append-nil so_far.seen) ∙ so_far.short

-- at the mark
pub front_mark : (a b c : Option (List ℕ)) (front line : List ℕ) → Along (IsFront front) a b → HasFound found.Line line b c → is_mark line ≡ true
    → Along (IsMarked front) a c
front_mark None b c front line so_far has mark = tt
front_mark (Some input) None c front line so_far has mark = absurd so_far
front_mark (Some input) (Some rest) None front line so_far has mark = absurd has
front_mark (Some input) (Some rest) (Some behind) front line so_far has mark =
    (split_mark front rest line behind (split_of input) (line_of rest line behind has) mark so_far.said, front_short front input rest so_far)

-- at another line
pub front_more : (a b c : Option (List ℕ)) (front line : List ℕ) → Along (IsFront front) a b → HasFound found.Line line b c → is_mark line ≡ false → nat_lt LONGEST_LINE (length (strip_carriage_return line)) ≡ false
    → Along (IsFront (front ++ (line ++ 10 ∷ []))) a c
front_more None b c front line so_far has other fits = tt
front_more (Some input) None c front line so_far has other fits = absurd so_far
front_more (Some input) (Some rest) None front line so_far has other fits = absurd has
front_more (Some input) (Some rest) (Some behind) front line so_far has other fits =
    let turn = line_of rest line behind has in
    record {
      whole = whole_more input front rest line behind turn so_far.whole;
      said = split_more front rest line behind (split_of input) turn other so_far.said;
      seen = so_far.seen ++ strip_carriage_return line ∷ [];
      lined = lines_more front line so_far.seen has.unfed so_far.lined;
      short = none_long so_far.seen (strip_carriage_return line) so_far.short fits;
    }

-- at the last line
split_end : (front rest line : List ℕ) (all : Option (List ℕ × List ℕ)) (behind : List ℕ) → IsLast rest line behind → split_from front (slice_split (λ byte. byte == 10) rest) ≡ all → all ≡ cond (bytes_eq line (codes "---")) (Some (front, [])) None
split_end front rest line all behind last so_far =
    sym so_far ∙ ap (λ r. split_from front (slice_split (λ byte. byte == 10) r)) last.whole ∙ ap (split_from front) (slice_split_none (λ byte. byte == 10) line last.unfed)

pub front_last : (a b c : Option (List ℕ)) (front line : List ℕ) → Along (IsFront front) a b → HasFound found.Last line b c → bytes_eq line (codes "---") ≡ true
    → Along (IsMarked front) a c
front_last None b c front line so_far has mark = tt
front_last (Some input) None c front line so_far has mark = absurd so_far
front_last (Some input) (Some rest) None front line so_far has mark = absurd has
front_last (Some input) (Some rest) (Some behind) front line so_far has mark = (
  split_end front rest line (split_of input) behind has so_far.said ∙ ap (λ (b : Bool). cond b (Some (front, [])) None) mark ∙ ap (λ r. Some (front, r)) (sym has.none),
  front_short front input rest so_far,
)

module _ (front input rest line behind : List ℕ) (so_far : IsFront front input rest) (last : IsLast rest line behind) (other : bytes_eq line (codes "---") ≡ false) where
  unmarked_none : split_of input ≡ None
  unmarked_none = split_end front rest line (split_of input) behind last so_far.said ∙ ap (λ (b : Bool). cond b (Some (front, [])) None) other

  unmarked_whole : front_of input ≡ front ++ line
  unmarked_whole = front_all input unmarked_none ∙ so_far.whole ∙ ap (λ (r : List ℕ). front ++ r) last.whole

  unmarked_lines : lines (front_of input) ≡ so_far.seen ++ (line ∷ [])
  unmarked_lines =
      ap lines unmarked_whole
      ∙ so_far.lined line
      ∙ ap (λ (l : List (List ℕ)). so_far.seen ++ l) (ap lines_of_parts (slice_split_none is_feed line last.unfed) ∙ last_of line last.some)

  unmarked_length : length (front_of input) ≡ length front + length line
  unmarked_length = ap length unmarked_whole ∙ length-append front line

  unmarked_fault : IsFrontRefused input (last_fault (length front) line)
  unmarked_fault = by_length (nat_lt LONGEST_LINE (length line)) (nat_lt LONGEST_INPUT (length front + length line)) refl refl
    where
      by_length : (wide full : Bool) → nat_lt LONGEST_LINE (length line) ≡ wide → nat_lt LONGEST_INPUT (length front + length line) ≡ full
          → IsFrontRefused input (cond (wide || full) faults.InputTooLong faults.InputHasNoMark)
      by_length true full w f = long_lines (front_of input) (ap is_any_long unmarked_lines ∙ any_long so_far.seen line [] (ltb-true LONGEST_LINE (length line) w))
      by_length false true w f = long_text (front_of input) (omega (arith, unmarked_length, ltb-true LONGEST_INPUT (length front + length line) f))
      by_length false false w f = (
        unmarked_none,
        short_text (front_of input) (omega (arith, unmarked_length, ltb-false LONGEST_INPUT (length front + length line) f))
            (ap is_any_long unmarked_lines ∙ none_long so_far.seen line so_far.short w),
      )

pub front_unmarked : (a b c : Option (List ℕ)) (front line : List ℕ) → Along (IsFront front) a b → HasFound found.Last line b c → bytes_eq line (codes "---") ≡ false
    → IfSome a (λ input. IsFrontRefused input (last_fault (length front) line))
front_unmarked None b c front line so_far has other = tt
front_unmarked (Some input) None c front line so_far has other = absurd so_far
front_unmarked (Some input) (Some rest) None front line so_far has other = absurd has
front_unmarked (Some input) (Some rest) (Some behind) front line so_far has other = unmarked_fault front input rest line behind so_far has other

-- at the end
pub front_end : (a b c : Option (List ℕ)) (front line : List ℕ) → length front ≤ LONGEST_INPUT → Along (IsFront front) a b → HasFound found.End line b c
    → IfSome a (λ input. IsFrontRefused input faults.InputHasNoMark)
front_end None b c front line few so_far has = tt
front_end (Some input) None c front line few so_far has = absurd so_far
front_end (Some input) (Some rest) None front line few so_far has = absurd has
front_end (Some input) (Some rest) (Some behind) front line few so_far has =
    let none : split_of input ≡ None = sym so_far.said ∙ ap (λ r. split_from front (slice_split (λ byte. byte == 10) r)) has.0 in
    let whole : front_of input ≡ front = front_all input none ∙ so_far.whole ∙ ap (λ (r : List ℕ). front ++ r) has.0 ∙ append-nil front in
    (none, subst (λ (t : List ℕ). is_long t ≡ false) (sym whole) (short_text front few (front_short front input rest so_far)))

-- at a line that is too long
pub front_wide : (a b c : Option (List ℕ)) (front line : List ℕ) → Along (IsFront front) a b → HasFound found.Line line b c → is_mark line ≡ false → nat_lt LONGEST_LINE (length (strip_carriage_return line)) ≡ true
    → IfSome a (λ input. is_long (front_of input) ≡ true)
front_wide None b c front line so_far has other long = tt
front_wide (Some input) None c front line so_far has other long = absurd so_far
front_wide (Some input) (Some rest) None front line so_far has other long = absurd has
front_wide (Some input) (Some rest) (Some behind) front line so_far has other long = line_long front input rest line behind so_far has other (ltb-true LONGEST_LINE (length (strip_carriage_return line)) long)

front_long : (a b : Option (List ℕ)) (front : List ℕ) → Along (IsFront front) a b → IfSome b IsTooLong → IfSome a (λ input. is_long (front_of input) ≡ true)
front_long None b front so_far long = tt
front_long (Some input) None front so_far long = absurd so_far
front_long (Some input) (Some rest) front so_far long = rest_long front input rest so_far long

-- where there is no room
front_full : (a b c : Option (List ℕ)) (front line : List ℕ) → Along (IsFront front) a b → HasFound found.Line line b c → is_mark line ≡ false → LONGEST_INPUT < length front + (length line + 1)
    → IfSome a (λ input. is_long (front_of input) ≡ true)
front_full None b c front line so_far has other long = tt
front_full (Some input) None c front line so_far has other long = absurd so_far
front_full (Some input) (Some rest) None front line so_far has other long = absurd has
front_full (Some input) (Some rest) (Some behind) front line so_far has other long = line_full front input rest line behind so_far has other long

some_unit : (a : Option (List ℕ)) → IfSome a (λ input. Unit {0})
some_unit None = tt
some_unit (Some input) = tt

-- a line that was not added
pub front_refused : (a b c : Option (List ℕ)) (front line : List ℕ) (fault : Fault) → Along (IsFront front) a b → HasFound found.Line line b c → is_mark line ≡ false → (fault ≡ faults.InputTooLong → LONGEST_INPUT < length front + (length line + 1))
    → (fault ≡ faults.InputTooLong) ⊎ (fault ≡ faults.OutOfMemory) → IfSome a (λ input. IsFrontRefused input fault)
front_refused a b c front line fault so_far has other long (inl e) = rw e (front_full a b c front line so_far has other (long e))
front_refused a b c front line fault so_far has other long (inr e) = rw e (some_unit a)

-- the last line is the mark, or there is none
pub last_step : (a b c : Option (List ℕ)) (front line : List ℕ) (before : ℕ) (r : Result Bool Fault) → before ≡ length front → Along (IsFront front) a b → HasFound found.Last line b c
    → IfOk r (λ marked. (marked ≡ true) × (bytes_eq line (codes "---") ≡ true)) → IfErr r (λ fault. (fault ≡ last_fault before line) × (bytes_eq line (codes "---") ≡ false)) → IsFrontStep a r front c
last_step a b c front line before (Ok marked) all so_far has is none = rw is.0 (front_last a b c front line so_far has is.1)
last_step a b c front line before (Err fault) all so_far has is none =
    subst (λ (f : Fault). IfSome a (λ input. IsFrontRefused input f)) (sym (none.0 ∙ ap (λ n. last_fault n line) all)) (front_unmarked a b c front line so_far has none.1)

-- no line was found
pub refusal_step : (a b : Option (List ℕ)) (front : List ℕ) (refusal : Refusal) → Along (IsFront front) a b → (refusal ≡ refusals.Line → IfSome b IsTooLong) → IfSome a (λ input. IsFrontRefused input (front_fault refusal))
refusal_step a b front refusals.Line so_far long = front_long a b front so_far (long refl)
refusal_step a b front refusals.Read so_far long = some_unit a
refusal_step a b front refusals.OutOfMemory so_far long = some_unit a

-- ---- the configuration

config_refused : (sample : Bool) (profile input : List ℕ) (fault : Fault) → IsRefused (parts_of sample profile input) fault → IsConfigRefused sample profile input fault
config_refused sample profile input faults.InputTooLong refused = not_of_parts (parts_of sample profile input) faults.InputTooLong refused refl
config_refused sample profile input faults.InputNotUtf8 refused = not_of_parts (parts_of sample profile input) faults.InputNotUtf8 refused refl
config_refused sample profile input faults.Read refused = tt
config_refused sample profile input faults.OutOfMemory refused = tt
config_refused sample profile input _ refused = refused

opened_sample : (a : Option (List ℕ)) (profile : List ℕ) (config : Config) → IsConfig profile config → Along (IsOpened true profile config) a a
opened_sample None profile config is = tt
opened_sample (Some input) profile config is = record { parts = (is, refl); front = tt }

pub sample_opened : (a : Option (List ℕ)) (profile : List ℕ) (r : Result Config Fault) → IfOk r (IsConfig profile) → IfOk r (λ config. Along (IsOpened true profile config) a a)
sample_opened a profile (Ok config) is = opened_sample a profile config is
sample_opened a profile (Err fault) is = tt

refused_sample : (a : Option (List ℕ)) (profile : List ℕ) (fault : Fault) → HasConfigFault profile fault → IfSome a (λ input. IsConfigRefused true profile input fault)
refused_sample None profile fault has = tt
refused_sample (Some input) profile fault has = config_refused true profile input fault has

pub sample_refused : (a : Option (List ℕ)) (profile : List ℕ) (r : Result Config Fault) → IfErr r (HasConfigFault profile) → IfErr r (λ fault. IfSome a (λ input. IsConfigRefused true profile input fault))
sample_refused a profile (Ok config) has = tt
sample_refused a profile (Err fault) has = refused_sample a profile fault has

front_marked : (input rest front : List ℕ) → IsMarked front input rest → front_of input ≡ front
front_marked input rest front marked = ap (λ (o : Option (List ℕ × List ℕ)). option_map_or (λ (p : List ℕ × List ℕ). p.0) o input) marked.0

-- a front that was read
readable : (input rest front : List ℕ) → IsMarked front input rest → IsText front → IsReadable (front_of input)
readable input rest front marked is_text =
    subst IsReadable (sym (front_marked input rest front marked)) (record {
      utf8 = is_text.utf8;
      short = short_text front is_text.short marked.1;
    })

opened_behind : (a c : Option (List ℕ)) (profile front text : List ℕ) (config : Config) → Along (IsMarked front) a c → text ≡ front → IsText front → IsConfig text config → Along (IsOpened false profile config) a c
opened_behind None c profile front text config marked same is_text is = tt
opened_behind (Some input) None profile front text config marked same is_text is = absurd marked
opened_behind (Some input) (Some rest) profile front text config marked same is_text is =
    record {
      parts = subst (λ (p : Option (List ℕ × List ℕ)). HasParts p config rest) (sym marked.0) (subst (λ (t : List ℕ). IsConfig t config) same is, refl);
      front = readable input rest front marked is_text;
    }

pub behind_opened : (a c : Option (List ℕ)) (profile front text : List ℕ) (r : Result Config Fault) → Along (IsMarked front) a c → text ≡ front → IsText front → IfOk r (IsConfig text) → IfOk r (λ config. Along (IsOpened false profile config) a c)
behind_opened a c profile front text (Ok config) marked same is_text is = opened_behind a c profile front text config marked same is_text is
behind_opened a c profile front text (Err fault) marked same is_text is = tt

refused_behind : (a c : Option (List ℕ)) (profile front text : List ℕ) (fault : Fault) → Along (IsMarked front) a c → text ≡ front → HasConfigFault text fault → IfSome a (λ input. IsConfigRefused false profile input fault)
refused_behind None c profile front text fault marked same has = tt
refused_behind (Some input) None profile front text fault marked same has = absurd marked
refused_behind (Some input) (Some rest) profile front text fault marked same has =
    config_refused false profile input fault (subst (λ (p : Option (List ℕ × List ℕ)). IsRefused p fault) (sym marked.0) (subst (λ (t : List ℕ). HasConfigFault t fault) same has))

pub behind_refused : (a c : Option (List ℕ)) (profile front text : List ℕ) (r : Result Config Fault) → Along (IsMarked front) a c → text ≡ front → IfErr r (HasConfigFault text) → IfErr r (λ fault. IfSome a (λ input. IsConfigRefused false profile input fault))
behind_refused a c profile front text (Ok config) marked same has = tt
behind_refused a c profile front text (Err fault) marked same has = refused_behind a c profile front text fault marked same has

-- the front is no text
pub no_text : (a c : Option (List ℕ)) (profile front bytes : List ℕ) (fault : Fault) → Along (IsMarked front) a c → bytes ≡ front → (fault ≡ faults.InputNotUtf8) × IsNoText bytes → IfSome a (λ input. IsConfigRefused false profile input fault)
no_text None c profile front bytes fault marked same none = tt
no_text (Some input) None profile front bytes fault marked same none = absurd marked
no_text (Some input) (Some rest) profile front bytes fault marked same none =
    rw none.0 (refl, subst (λ (p : Option (List ℕ × List ℕ)). IsSomeAnd p (λ q. ¬ IsUtf8 q.0)) (sym marked.0) (subst (λ (t : List ℕ). ¬ IsUtf8 t) same none.1.1))

config_front : (profile input : List ℕ) (fault : Fault) → IsFrontRefused input fault → IsConfigRefused false profile input fault
config_front profile input faults.InputHasNoMark refused = subst (λ (p : Option (List ℕ × List ℕ)). IsRefused p faults.InputHasNoMark) (sym refused.0) refl
config_front profile input faults.InputTooLong refused = (refl, refused)
config_front profile input faults.Read refused = tt
config_front profile input faults.OutOfMemory refused = tt
config_front profile input _ refused = absurd refused

pub front_config : (a : Option (List ℕ)) (profile : List ℕ) (fault : Fault) → IfSome a (λ input. IsFrontRefused input fault) → IfSome a (λ input. IsConfigRefused false profile input fault)
front_config None profile fault refused = tt
front_config (Some input) profile fault refused = config_front profile input fault refused

-- ---- which fault is told

short_of : (sample : Bool) (input : List ℕ) → HasFront sample input → IsShort sample input
short_of true input front = tt
short_of false input front = front.short

-- behind a front that was read any fault may be
pub behind_front : (sample : Bool) (input : List ℕ) (fault : Fault) → HasFront sample input → ComesFirst sample input fault
behind_front sample input faults.InputTooLong front = tt
behind_front sample input faults.Read front = tt
behind_front sample input faults.OutOfMemory front = tt
behind_front sample input faults.InputHasNoMark front = short_of sample input front
behind_front sample input faults.InputNotUtf8 front = short_of sample input front
behind_front sample input _ front = front

sample_fault : (a : Option (List ℕ)) (fault : Fault) → IfSome a (λ input. ComesFirst true input fault)
sample_fault None fault = tt
sample_fault (Some input) fault = behind_front true input fault tt

pub sample_first : (a : Option (List ℕ)) (r : Result Config Fault) → IfErr r (λ fault. IfSome a (λ input. ComesFirst true input fault))
sample_first a (Ok config) = tt
sample_first a (Err fault) = sample_fault a fault

front_told : (input : List ℕ) (fault : Fault) → IsFrontRefused input fault → ComesFirst false input fault
front_told input faults.InputHasNoMark refused = refused.1
front_told input faults.InputTooLong refused = tt
front_told input faults.Read refused = tt
front_told input faults.OutOfMemory refused = tt
front_told input _ refused = absurd refused

pub front_first : (a : Option (List ℕ)) (fault : Fault) → IfSome a (λ input. IsFrontRefused input fault) → IfSome a (λ input. ComesFirst false input fault)
front_first None fault refused = tt
front_first (Some input) fault refused = front_told input fault refused

-- the front is no text
pub no_text_first : (a c : Option (List ℕ)) (front bytes : List ℕ) (fault : Fault) → Along (IsMarked front) a c → bytes ≡ front → (fault ≡ faults.InputNotUtf8) × IsNoText bytes → IfSome a (λ input. ComesFirst false input fault)
no_text_first None c front bytes fault marked same none = tt
no_text_first (Some input) None front bytes fault marked same none = absurd marked
no_text_first (Some input) (Some rest) front bytes fault marked same none =
    subst (λ (f : Fault). ComesFirst false input f) (sym none.0)
    (subst (λ (t : List ℕ). is_long t ≡ false) (sym (front_marked input rest front marked)) (short_text front (omega (arith, none.1.0, ap length same)) marked.1))

-- the configuration is refused
config_told : (a c : Option (List ℕ)) (front : List ℕ) (fault : Fault) → Along (IsMarked front) a c → IsText front → IfSome a (λ input. ComesFirst false input fault)
config_told None c front fault marked is_text = tt
config_told (Some input) None front fault marked is_text = absurd marked
config_told (Some input) (Some rest) front fault marked is_text = behind_front false input fault (readable input rest front marked is_text)

pub config_first : (a c : Option (List ℕ)) (front : List ℕ) (r : Result Config Fault) → Along (IsMarked front) a c → IsText front → IfErr r (λ fault. IfSome a (λ input. ComesFirst false input fault))
config_first a c front (Ok config) marked is_text = tt
config_first a c front (Err fault) marked is_text = config_told a c front fault marked is_text

-- and what comes behind the configuration
pub opened_first : (sample : Bool) (profile : List ℕ) (a b : Option (List ℕ)) (config : Config) (fault : Fault) → Along (IsOpened sample profile config) a b → IfSome a (λ input. ComesFirst sample input fault)
opened_first sample profile None b config fault opened = tt
opened_first sample profile (Some input) None config fault opened = absurd opened
opened_first sample profile (Some input) (Some body) config fault opened = behind_front sample input fault opened.front
