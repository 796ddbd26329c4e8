-- Going over the lines of an input up to the mark.
use Rattle.std.proofs.Common.{◌≡◌, ℕ, ◌+◌, ◌<◌, Bool, true, false, cond, ◌==◌, ◌≢◌, codes, List, [], ◌∷◌, ◌++◌, length, get_or, Option, None, Some, refl, sym, subst, ap, ap₂, ◌∙◌, ◌-◌, ◌||◌, slice_index, take, append_assoc, append-nil, arith}
use Rattle.std.specs.List.{All, after_first, before_first, join_with_byte, list_any, position_or_len, slice_range, slice_split}
use Rattle.std.specs.Str.{bytes_eq}
use Rattle.std.specs.Str.Lines.{lines, lines_of_parts, strip_carriage_return}
use Rattle.std.proofs.lemmas.Grind.{common_steps}
use Rattle.std.proofs.lemmas.Bool.{eqb-true, false≢true}
use Rattle.std.proofs.lemmas.Option.{none-some, same_Some}
use Rattle.std.proofs.Math.Seq.{take-length}
use Rattle.std.proofs.lemmas.List.{get_or-take, length-take, take_more}
use Rattle.std.proofs.lemmas.List.Elements.{All-from_get_or}
use Rattle.std.proofs.lemmas.Slice.Eq.{bytes_eq-Decides}
use Rattle.std.proofs.lemmas.List.Splits.{join_with_byte-slice_split, length-slice_split, slice_split_at, slice_split_first, slice_split_none}
use Rattle.std.proofs.lemmas.List.Sums.{fails_before_first, passes_at_first, split_at_first}
use Rattle.std.proofs.lemmas.List.Folds.{list_any-append}
use Rattle.std.specs.Prelude.{option_map}
use Rattle.toml.specs.Parse.{parse_document}
use Rattle.ddr_timing.specs.declared.error.ConfigError.{ConfigError}
use Rattle.ddr_timing.specs.declared.error.ConfigError.TheVariants as refusals
use Rattle.ddr_timing.specs.Refusals.{refusal_of}
use Rattle.ddr_text.specs.declared.fault.Fault.{Fault}
use Rattle.ddr_text.specs.declared.fault.Fault.TheVariants as faults
use Rattle.ddr_text.specs.Fault.{fault_of}
use Rattle.ddr_text.specs.Body.{HasConfigFault, IsRefused, has_mark, is_mark, split_from}

abbrev is_feed : ℕ → Bool
is_feed byte = byte == 10

abbrev cut : List ℕ → List (List ℕ)
cut = slice_split is_feed

-- the text is what stands before a line, the line, and what stands behind it
pub record IsLine (rest line behind : List ℕ) : Type 0 where
  pub parts : cut rest ≡ line ∷ cut behind
  pub whole : rest ≡ line ++ (10 ∷ behind)
  pub unfed : All (λ b. is_feed b ≡ false) line

-- what `split_once` gives
pub is_line : (rest line behind : List ℕ) → (line ≡ before_first is_feed rest) × (behind ≡ after_first is_feed rest) × (position_or_len is_feed rest < length rest) → IsLine rest line behind
is_line rest line behind found =
    let at = position_or_len is_feed rest in
    let feed : get_or rest at 0 ≡ 10 = eqb-true _ _ (passes_at_first is_feed rest 0 found.2) in
    let unfed : All (λ b. is_feed b ≡ false) (before_first is_feed rest) = All-from_get_or (λ b. is_feed b ≡ false) (before_first is_feed rest) 0 (λ k below.
    let here : k < at = omega (arith, length-take at rest) in
    ap is_feed (get_or-take at rest k 0 here) ∙ fails_before_first is_feed rest k 0 here) in
    record {
      parts = rw (found.0, found.1) (slice_split_first is_feed rest 0 found.2);
      whole = rw (found.0, found.1) (split_at_first is_feed rest 0 found.2 ∙ ap (λ b. before_first is_feed rest ++ (b ∷ after_first is_feed rest)) feed);
      unfed = subst (All (λ b. is_feed b ≡ false)) (sym found.0) unfed;
    }

step_of_parts : (front line behind : List ℕ) (parts : List (List ℕ)) → 0 < length parts → join_with_byte 10 parts ≡ behind → split_from front (line ∷ parts) ≡ cond (is_mark line) (Some (front, behind)) (split_from (front ++ (line ++ 10 ∷ [])) parts)
step_of_parts front line behind [] some joined = absurd (omega arith)
step_of_parts front line behind (x ∷ more) some joined = ap (λ b. cond (is_mark line) (Some (front, b)) (split_from (front ++ (line ++ 10 ∷ [])) (x ∷ more))) joined

-- one line further
pub split_step : (front rest line behind : List ℕ) → IsLine rest line behind → split_from front (cut rest) ≡ cond (is_mark line) (Some (front, behind)) (split_from (front ++ (line ++ 10 ∷ [])) (cut behind))
split_step front rest line behind turn =
    ap (split_from front) turn.parts
    ∙ step_of_parts front line behind (cut behind) (omega (arith, length-slice_split is_feed behind)) (join_with_byte-slice_split 10 behind)

-- at the mark
pub split_mark : (front rest line behind : List ℕ) (all : Option (List ℕ × List ℕ)) → IsLine rest line behind → is_mark line ≡ true → split_from front (cut rest) ≡ all → all ≡ Some (front, behind)
split_mark front rest line behind all turn mark so_far =
    sym so_far ∙ split_step front rest line behind turn ∙ ap (λ b. cond b (Some (front, behind)) (split_from (front ++ (line ++ 10 ∷ [])) (cut behind))) mark

-- at another line
pub split_more : (front rest line behind : List ℕ) (all : Option (List ℕ × List ℕ)) → IsLine rest line behind → is_mark line ≡ false → split_from front (cut rest) ≡ all → split_from (front ++ (line ++ 10 ∷ [])) (cut behind) ≡ all
split_more front rest line behind all turn other so_far =
    sym (split_step front rest line behind turn ∙ ap (λ b. cond b (Some (front, behind)) (split_from (front ++ (line ++ 10 ∷ [])) (cut behind))) other) ∙ so_far

pub whole_more : (text front rest line behind : List ℕ) → IsLine rest line behind → text ≡ front ++ rest → text ≡ (front ++ (line ++ 10 ∷ [])) ++ behind
whole_more text front rest line behind turn whole =
    whole ∙ ap (λ r. front ++ r) turn.whole ∙ ap (λ r. front ++ r) (sym (append_assoc line (10 ∷ []) behind)) ∙ sym (append_assoc front (line ++ 10 ∷ []) behind)

-- at the last line
pub split_last : (front rest : List ℕ) (all : Option (List ℕ × List ℕ)) → position_or_len is_feed rest ≡ length rest → split_from front (cut rest) ≡ all → all ≡ cond (bytes_eq rest (codes "---")) (Some (front, [])) None
split_last front rest all none so_far =
    sym so_far ∙ ap (split_from front) (slice_split_none is_feed rest (λ k d below. fails_before_first is_feed rest k d (omega (arith, none))))

-- what stands before the rest
pub front_range : (text front rest : List ℕ) → text ≡ front ++ rest → front ≡ slice_range text 0 (length text - length rest)
front_range text front rest whole = grind (arith, common_steps)

-- ---- the same in the lines of the text

lines_of_more : (line : List ℕ) (parts : List (List ℕ)) → 0 < length parts → lines_of_parts (line ∷ parts) ≡ strip_carriage_return line ∷ lines_of_parts parts
lines_of_more line [] some = absurd (omega arith)
lines_of_more line (x ∷ more) some = refl

-- a line in front of the others
pub lines-line : (line behind : List ℕ) → All (λ b. is_feed b ≡ false) line → lines (line ++ (10 ∷ behind)) ≡ strip_carriage_return line ∷ lines behind
lines-line line behind unfed =
    ap lines_of_parts (slice_split_at is_feed line 10 behind unfed refl) ∙ lines_of_more line (cut behind) (omega (arith, length-slice_split is_feed behind))

-- one line further
pub lines_more : (front line : List ℕ) (seen : List (List ℕ)) → All (λ b. is_feed b ≡ false) line → ((r : List ℕ) → lines (front ++ r) ≡ seen ++ lines r) → (r : List ℕ) → lines ((front ++ (line ++ 10 ∷ [])) ++ r) ≡ (seen ++ strip_carriage_return line ∷ []) ++ lines r
lines_more front line seen unfed so_far r =
    ap lines (append_assoc front (line ++ 10 ∷ []) r ∙ ap (λ l. front ++ l) (append_assoc line (10 ∷ []) r))
    ∙ so_far (line ++ (10 ∷ r)) ∙ ap (λ l. seen ++ l) (lines-line line r unfed) ∙ sym (append_assoc seen (strip_carriage_return line ∷ []) (lines r))

-- the line is the mark
pub strip_mark : (line : List ℕ) → is_mark line ≡ true → strip_carriage_return line ≡ codes "---"
strip_mark line mark = go (bytes_eq line (codes "---")) refl mark
  where
    go : (b : Bool) → bytes_eq line (codes "---") ≡ b → (b || bytes_eq line (codes "---" ++ 13 ∷ [])) ≡ true → strip_carriage_return line ≡ codes "---"
    go true is either = ap strip_carriage_return ((bytes_eq-Decides line _).0 is)
    go false is either = ap strip_carriage_return ((bytes_eq-Decides line _).0 either)

both : (b : Bool) → b ≡ false → b ≡ true → ⊥
both true p q = cc
both false p q = cc

neither : (a b : Bool) → (a || b) ≡ false → (a ≡ false) × (b ≡ false)
neither true b e = cc
neither false b e = (refl, e)

unequal : (xs ys : List ℕ) → (xs ≡ ys → ⊥) → bytes_eq xs ys ≡ false
unequal xs ys differ = go (bytes_eq xs ys) refl
  where
    go : (b : Bool) → bytes_eq xs ys ≡ b → bytes_eq xs ys ≡ false
    go true e = absurd (differ ((bytes_eq-Decides xs ys).0 e))
    go false e = e

-- the line is another
pub strip_other : (line : List ℕ) → is_mark line ≡ false → bytes_eq (strip_carriage_return line) (codes "---") ≡ false
strip_other line other = go (slice_index line (length line - 1) == 13) refl
  where
    go : (b : Bool) → (slice_index line (length line - 1) == 13) ≡ b → bytes_eq (cond b (take (length line - 1) line) line) (codes "---") ≡ false
    go false e = (neither _ _ other).0
    go true e = unequal _ _ (λ short.
        let some : length (take (length line - 1) line) ≡ 3 = ap length short in
        let long : length line - 1 < length line = omega (arith, length-take (length line - 1) line) in
        let last : take (length line - 1 + 1) line ≡ take (length line - 1) line ++ get_or line (length line - 1) 0 ∷ [] = take_more line (length line - 1) 0 long in
        let all : take (length line - 1 + 1) line ≡ line = ap (λ n. take n line) (omega arith) ∙ take-length line in
        let whole : line ≡ codes "---" ++ 13 ∷ [] = sym all ∙ last ∙ ap₂ (λ (l : List ℕ) (b : ℕ). l ++ b ∷ []) short (eqb-true _ _ e) in
        both _ (neither _ _ other).1 ((bytes_eq-Decides line _).1 whole))

abbrev pub are_marked : List (List ℕ) → Bool
are_marked = list_any (λ line. bytes_eq line (codes "---"))

pub unmarked_more : (seen : List (List ℕ)) (line : List ℕ) → are_marked seen ≡ false → bytes_eq line (codes "---") ≡ false → are_marked (seen ++ line ∷ []) ≡ false
unmarked_more seen line none other = list_any-append _ seen (line ∷ []) ∙ ap₂ (λ a b. a || (b || false)) none other

lines_before : (front config : List ℕ) (seen : List (List ℕ)) → ((r : List ℕ) → lines (front ++ r) ≡ seen ++ lines r) → front ≡ config → lines config ≡ seen
lines_before front config seen lined same = ap lines (sym same ∙ sym (append-nil front)) ∙ lined [] ∙ append-nil seen

-- the lines round the mark
pub lines_round : (text front rest config behind : List ℕ) (seen : List (List ℕ)) → text ≡ front ++ rest → ((r : List ℕ) → lines (front ++ r) ≡ seen ++ lines r) → lines rest ≡ codes "---" ∷ lines behind → front ≡ config → lines text ≡ lines config ++ (codes "---" ∷ lines behind)
lines_round text front rest config behind seen whole lined later same =
    ap lines whole ∙ lined rest ∙ ap₂ ◌++◌ (sym (lines_before front config seen lined same)) later

-- no line in front of the mark is the mark
pub unmarked_before : (front config : List ℕ) (seen : List (List ℕ)) → ((r : List ℕ) → lines (front ++ r) ≡ seen ++ lines r) → front ≡ config → are_marked seen ≡ false → has_mark config ≡ false
unmarked_before front config seen lined same none = ap are_marked (lines_before front config seen lined same) ∙ none

pub lines_at_mark : (rest line behind : List ℕ) → IsLine rest line behind → is_mark line ≡ true → lines rest ≡ codes "---" ∷ lines behind
lines_at_mark rest line behind turn mark = ap lines turn.whole ∙ lines-line line behind turn.unfed ∙ ap (λ l. l ∷ lines behind) (strip_mark line mark)

-- no line is the mark
pub unmarked_all : (text front rest : List ℕ) (seen : List (List ℕ)) → text ≡ front ++ rest → ((r : List ℕ) → lines (front ++ r) ≡ seen ++ lines r) → are_marked seen ≡ false → position_or_len is_feed rest ≡ length rest → bytes_eq rest (codes "---") ≡ false → has_mark text ≡ false
unmarked_all text front rest seen whole lined none unfed other =
    let last : lines rest ≡ cond (length rest == 0) [] (rest ∷ []) = ap lines_of_parts (slice_split_none is_feed rest (λ k d below. fails_before_first is_feed rest k d (omega (arith, unfed)))) in
    ap are_marked (ap lines whole ∙ lined rest ∙ ap (λ l. seen ++ l) last) ∙ list_any-append _ seen _ ∙ ap₂ ◌||◌ none (go (length rest == 0))
  where
    go : (b : Bool) → are_marked (cond b [] (rest ∷ [])) ≡ false
    go true = refl
    go false = ap (λ b. b || false) other

-- what may be at fault in the two parts of an input
abbrev pub is_of_parts : Fault → Bool
is_of_parts faults.ConfigSyntax = true
is_of_parts (faults.ConfigMissing key) = true
is_of_parts faults.ConfigUnknownKey = true
is_of_parts (faults.ConfigRange key) = true
is_of_parts (faults.ConfigNotPowerOfTwo key) = true
is_of_parts (faults.ConfigRelation n) = true
is_of_parts faults.InputHasNoMark = true
is_of_parts faults.OutOfMemory = true
is_of_parts _ = false

kind_of_refusal : (refusal : ConfigError) → is_of_parts (fault_of refusal) ≡ true
kind_of_refusal refusals.Syntax = refl
kind_of_refusal (refusals.Missing key) = refl
kind_of_refusal refusals.UnknownKey = refl
kind_of_refusal (refusals.Range key) = refl
kind_of_refusal (refusals.NotPowerOfTwo key) = refl
kind_of_refusal (refusals.Relation n) = refl
kind_of_refusal refusals.OutOfMemory = refl

kind_of_said : (refusal : Option ConfigError) (fault : Fault) → option_map fault_of refusal ≡ Some fault → is_of_parts fault ≡ true
kind_of_said None fault e = absurd (none-some fault e)
kind_of_said (Some refusal) fault e = ap is_of_parts (sym (same_Some (fault_of refusal) fault e)) ∙ kind_of_refusal refusal

abbrev is_memory : Fault → Bool
is_memory faults.OutOfMemory = true
is_memory _ = false

no_memory : (fault : Fault) → is_memory fault ≡ false → fault ≢ faults.OutOfMemory
no_memory fault other e = false≢true (sym other ∙ ap is_memory e)

kind_of_config : (text : List ℕ) (fault : Fault) → HasConfigFault text fault → is_of_parts fault ≡ true
kind_of_config text faults.ConfigSyntax said = refl
kind_of_config text (faults.ConfigMissing key) said = refl
kind_of_config text faults.ConfigUnknownKey said = refl
kind_of_config text (faults.ConfigRange key) said = refl
kind_of_config text (faults.ConfigNotPowerOfTwo key) said = refl
kind_of_config text (faults.ConfigRelation n) said = refl
kind_of_config text faults.InputHasNoMark said = refl
kind_of_config text faults.OutOfMemory said = refl
kind_of_config text faults.InputTooLong said = kind_of_said (refusal_of (parse_document text)) faults.InputTooLong (said (no_memory faults.InputTooLong refl))
kind_of_config text faults.InputNotUtf8 said = kind_of_said (refusal_of (parse_document text)) faults.InputNotUtf8 (said (no_memory faults.InputNotUtf8 refl))
kind_of_config text (faults.ScriptLine line) said = kind_of_said (refusal_of (parse_document text)) (faults.ScriptLine line) (said (no_memory (faults.ScriptLine line) refl))
kind_of_config text (faults.RequestLine line cause) said = kind_of_said (refusal_of (parse_document text)) (faults.RequestLine line cause) (said (no_memory (faults.RequestLine line cause) refl))
kind_of_config text (faults.MapLine line) said = kind_of_said (refusal_of (parse_document text)) (faults.MapLine line) (said (no_memory (faults.MapLine line) refl))
kind_of_config text (faults.ReplayLine line cause) said = kind_of_said (refusal_of (parse_document text)) (faults.ReplayLine line cause) (said (no_memory (faults.ReplayLine line cause) refl))
kind_of_config text (faults.ReplayRange line) said = kind_of_said (refusal_of (parse_document text)) (faults.ReplayRange line) (said (no_memory (faults.ReplayRange line) refl))
kind_of_config text faults.ReplayLimit said = kind_of_said (refusal_of (parse_document text)) faults.ReplayLimit (said (no_memory faults.ReplayLimit refl))
kind_of_config text (faults.ReplayStuck cycle) said = kind_of_said (refusal_of (parse_document text)) (faults.ReplayStuck cycle) (said (no_memory (faults.ReplayStuck cycle) refl))
kind_of_config text (faults.RunStuck cycle) said = kind_of_said (refusal_of (parse_document text)) (faults.RunStuck cycle) (said (no_memory (faults.RunStuck cycle) refl))
kind_of_config text (faults.CaptureLine line cause) said = kind_of_said (refusal_of (parse_document text)) (faults.CaptureLine line cause) (said (no_memory (faults.CaptureLine line cause) refl))
kind_of_config text (faults.CaptureOrder line) said = kind_of_said (refusal_of (parse_document text)) (faults.CaptureOrder line) (said (no_memory (faults.CaptureOrder line) refl))
kind_of_config text faults.TraceHeader said = kind_of_said (refusal_of (parse_document text)) faults.TraceHeader (said (no_memory faults.TraceHeader refl))
kind_of_config text (faults.TraceRow line) said = kind_of_said (refusal_of (parse_document text)) (faults.TraceRow line) (said (no_memory (faults.TraceRow line) refl))
kind_of_config text (faults.TraceOrder line) said = kind_of_said (refusal_of (parse_document text)) (faults.TraceOrder line) (said (no_memory (faults.TraceOrder line) refl))
kind_of_config text faults.TraceTruncated said = kind_of_said (refusal_of (parse_document text)) faults.TraceTruncated (said (no_memory faults.TraceTruncated refl))
kind_of_config text faults.TraceTooLong said = kind_of_said (refusal_of (parse_document text)) faults.TraceTooLong (said (no_memory faults.TraceTooLong refl))
kind_of_config text faults.TraceNoSuch said = kind_of_said (refusal_of (parse_document text)) faults.TraceNoSuch (said (no_memory faults.TraceNoSuch refl))
kind_of_config text faults.DrawTooLong said = kind_of_said (refusal_of (parse_document text)) faults.DrawTooLong (said (no_memory faults.DrawTooLong refl))
kind_of_config text faults.ScriptLimit said = kind_of_said (refusal_of (parse_document text)) faults.ScriptLimit (said (no_memory faults.ScriptLimit refl))
kind_of_config text faults.Read said = kind_of_said (refusal_of (parse_document text)) faults.Read (said (no_memory faults.Read refl))
kind_of_config text faults.Write said = kind_of_said (refusal_of (parse_document text)) faults.Write (said (no_memory faults.Write refl))
kind_of_config text faults.ClockSpent said = kind_of_said (refusal_of (parse_document text)) faults.ClockSpent (said (no_memory faults.ClockSpent refl))
kind_of_config text faults.PortBroken said = kind_of_said (refusal_of (parse_document text)) faults.PortBroken (said (no_memory faults.PortBroken refl))
kind_of_config text faults.ThreadsRefused said = kind_of_said (refusal_of (parse_document text)) faults.ThreadsRefused (said (no_memory faults.ThreadsRefused refl))

kind_of_parts : (parts : Option (List ℕ × List ℕ)) (fault : Fault) → IsRefused parts fault → is_of_parts fault ≡ true
kind_of_parts None fault said = ap is_of_parts said
kind_of_parts (Some p) fault said = kind_of_config p.0 fault said

-- a fault of another kind is none of the parts
pub not_of_parts : {X : Type 0} (parts : Option (List ℕ × List ℕ)) (fault : Fault) → IsRefused parts fault → is_of_parts fault ≡ false → X
not_of_parts parts fault said other = absurd (false≢true (sym other ∙ kind_of_parts parts fault said))
