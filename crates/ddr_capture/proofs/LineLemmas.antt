-- Going over the lines of a capture's body.
use Rattle.std.proofs.Common.{◌≡◌, ◌≢◌, ℕ, ◌+◌, ◌-◌, ◌<◌, ◌≤◌, ◌⊎◌, ◌==◌, Bool, true, false, List, [], ◌∷◌, length, take, get_or, cond, nat_lt, Option, Some, None, Result, Ok, Err, IfSome, inl, inr, refl, sym, ap, ◌∙◌, arith, length-append}
use Rattle.std.specs.Prelude.{is_some, slice_index}
use Rattle.std.specs.List.{after_first, before_first, position_or_len}
use Rattle.std.specs.Str.Lines.{lines, lines_of_parts, strip_carriage_return}
use Rattle.std.proofs.lemmas.Bool.{false≢true, lt-ltb, ltb-false, ltb-true, ne_eqb}
use Rattle.std.proofs.lemmas.List.{get_or_append_left, length-take}
use Rattle.std.proofs.lemmas.List.Elements.{All-get_or}
use Rattle.std.proofs.lemmas.List.Splits.{slice_split_none}
use Rattle.std.proofs.lemmas.List.Sums.{fails_before_first, passes_at_first, prefix_len-le-length}
use Rattle.ddr_timing.specs.declared.config.Config.{Config}
use Rattle.ddr_text.specs.declared.fault.Fault.{Fault}
use Rattle.ddr_text.specs.declared.fault.Fault.TheVariants as faults
use Rattle.ddr_text.specs.declared.fault.LineFault.TheVariants.{TooLong}
use Rattle.ddr_text.specs.Instructions.{◌>>>◌}
use Rattle.ddr_text.proofs.BodyLemmas.{is_line, lines-line}
use Rattle.ddr_capture.specs.Captured.{IsLineFault, Read, captured, nothing, read_from, with_closed, with_line, with_open}
use Rattle.ddr_capture.specs.Feed.{Along, BeginsWith, HasFound, IsFound, IsTooLong, IsUnfed}
use Rattle.ddr_capture.specs.Form.{is_missing}
use Rattle.ddr_capture.specs.Lines.{IsReadFault, StandsAt, line_fault, text_of}
use Rattle.ddr_capture.specs.declared.form.Form.{Form}
use Rattle.ddr_capture.specs.declared.feed.Found.{Found}
use Rattle.ddr_capture.specs.declared.feed.Found.TheVariants as found
use Rattle.ddr_capture.specs.declared.feed.Refusal.{Refusal}
use Rattle.ddr_capture.specs.declared.feed.Refusal.TheVariants as refusals
use Rattle.ddr_capture.specs.declared.feed.TheConstants.{LONGEST_LINE, MOST_LINES}

abbrev is_feed : ℕ → Bool
is_feed byte = byte == 10

-- a list of one text that is not empty
pub last_of : (line : List ℕ) → 0 < length line → lines_of_parts (line ∷ []) ≡ line ∷ []
last_of line some = ap (λ (b : Bool). cond b [] (line ∷ [])) (ne_eqb (length line) 0 (λ none. omega (arith, none, some)))

-- the line that was found is the first one
pub lines_step : (f : Found) (text line behind : List ℕ) → IsFound f text line behind → f ≢ found.End → lines text ≡ text_of f line ∷ lines behind
lines_step found.Line text line behind is other = ap lines is.whole ∙ lines-line line behind is.unfed
lines_step found.Last text line behind is other =
    ap lines is.whole ∙ ap lines_of_parts (slice_split_none is_feed line is.unfed) ∙ last_of line is.some ∙ ap (λ b. line ∷ lines b) (sym is.none)
lines_step found.End text line behind is other = absurd (other refl)

-- ---- a line that is too long

stripped_long : (line : List ℕ) → length line ≤ length (strip_carriage_return line) + 1
stripped_long line = go (slice_index line (length line - 1) == 13)
  where
    go : (b : Bool) → length line ≤ length (cond b (take (length line - 1) line) line) + 1
    go true = omega (arith, length-take (length line - 1) line)
    go false = omega arith

-- no line feed stands in the front
front_unfed : (text : List ℕ) → (h : IsTooLong text) → length h.front ≤ position_or_len is_feed text
front_unfed text h = by_place (nat_lt (position_or_len is_feed text) (length h.front)) refl
  where
    by_place : (b : Bool) → nat_lt (position_or_len is_feed text) (length h.front) ≡ b → length h.front ≤ position_or_len is_feed text
    by_place false e = ltb-false (position_or_len is_feed text) (length h.front) e
    by_place true e =
        let at = position_or_len is_feed text in
        let inside : at < length h.front = ltb-true at (length h.front) e in
        let within : at < length text = omega (arith, inside, ap length h.whole, length-append h.front h.behind) in
        let yes : is_feed (get_or text at 0) ≡ true = passes_at_first is_feed text 0 within in
        let here : get_or text at 0 ≡ get_or h.front at 0 = ap (λ (t : List ℕ). get_or t at 0) h.whole ∙ get_or_append_left h.front h.behind 0 at inside in
        let no : is_feed (get_or h.front at 0) ≡ false = All-get_or (λ byte. (byte == 10) ≡ false) h.front at 0 inside h.unfed in
        absurd (false≢true (sym no ∙ ap is_feed (sym here) ∙ yes))

-- the first line is too long, and a line feed ends it, or it is all that there is
pub record IsLongLine (text line behind : List ℕ) : Type 0 where
  pub begins : BeginsWith text line behind
  pub long : LONGEST_LINE < length (strip_carriage_return line)

pub record IsLongLast (text : List ℕ) : Type 0 where
  pub unfed : IsUnfed text
  pub long : LONGEST_LINE < length text

pub long_cut : (text : List ℕ) → IsTooLong text → ((line : List ℕ) × (behind : List ℕ) × IsLongLine text line behind) ⊎ IsLongLast text
long_cut text h = by_feed (nat_lt (position_or_len is_feed text) (length text)) refl
  where
    within : position_or_len is_feed text ≤ length text
    within = prefix_len-le-length _ text

    by_feed : (b : Bool) → nat_lt (position_or_len is_feed text) (length text) ≡ b → ((line : List ℕ) × (behind : List ℕ) × IsLongLine text line behind) ⊎ IsLongLast text
    by_feed true e =
        let at = position_or_len is_feed text in
        let inside : at < length text = ltb-true at (length text) e in
        let line = before_first is_feed text in
        let turn = is_line text line (after_first is_feed text) (refl, refl, inside) in
        inl (
          line,
          after_first is_feed text,
          record {
            begins = record { whole = turn.whole; unfed = turn.unfed };
            long = omega (arith, h.long, front_unfed text h, stripped_long line, length-take at text);
          },
        )
    by_feed false e =
        let none : position_or_len is_feed text ≡ length text = omega (arith, within, ltb-false (position_or_len is_feed text) (length text) e) in
        inr (record {
          unfed = λ k d below. fails_before_first is_feed text k d (omega (arith, none));
          long = omega (arith, h.long, front_unfed text h, none);
        })

-- the first line is longer than any that is read
pub record IsLongFirst (text : List ℕ) : Type 0 where
  pub first : List ℕ
  pub more : List (List ℕ)
  pub lined : lines text ≡ first ∷ more
  pub long : LONGEST_LINE < length first

pub long_first : (text : List ℕ) → IsTooLong text → IsLongFirst text
long_first text h = by_cut (long_cut text h)
  where
    by_cut : ((line : List ℕ) × (behind : List ℕ) × IsLongLine text line behind) ⊎ IsLongLast text → IsLongFirst text
    by_cut (inl (line, behind, is)) = record {
      first = strip_carriage_return line;
      more = lines behind;
      lined = ap lines is.begins.whole ∙ lines-line line behind is.begins.unfed;
      long = is.long;
    }
    by_cut (inr is) = record {
      first = text;
      more = [];
      lined = ap lines_of_parts (slice_split_none is_feed text is.unfed) ∙ last_of text (omega (arith, is.long));
      long = is.long;
    }

-- such a line is refused
long_refused : (form : Form) (channels start line : ℕ) (read : Read) (text : List ℕ) → LONGEST_LINE < length text → with_line form channels start line read text ≡ Err (faults.CaptureLine line TooLong)
long_refused form channels start line read text long =
    ap (λ (b : Bool). cond b (Err (faults.CaptureLine line TooLong)) (cond (is_some read.end) (with_closed line read text) (with_open form channels start line read text))) (lt-ltb LONGEST_LINE (length text) long)

-- ---- the lines so far

module _ (form : Form) (config : Config) (start : ℕ) where
  pub stands_first : (a : Option (List ℕ)) → is_missing form config.geometry.channels ≡ false → Along (StandsAt form config start 0 nothing) a a
  unfolding captured
  stands_first None there = tt
  stands_first (Some body) there = record {
    said = sym (ap (λ (b : Bool). cond b (Err faults.TraceNoSuch) (read_from form config.geometry.channels start 0 nothing (lines body))) there);
    counted = omega arith;
  }

  -- the one channel is not there
  pub missing_said : (body : List ℕ) → is_missing form config.geometry.channels ≡ true → captured form config start body ≡ Err faults.TraceNoSuch
  unfolding captured
  missing_said body missing = ap (λ (b : Bool). cond b (Err faults.TraceNoSuch) (read_from form config.geometry.channels start 0 nothing (lines body))) missing

  fault_read : (line : ℕ) (body : List ℕ) (fault : Fault) → IsLineFault line fault → captured form config start body ≡ Err fault → IsReadFault form config start body fault
  fault_read line body (faults.CaptureLine at cause) is said = said
  fault_read line body (faults.CaptureOrder at) is said = said
  fault_read line body _ is said = absurd is

  module _ (count : ℕ) (read : Read) where
    -- a line more
    pub stands_more : (a b c : Option (List ℕ)) (f : Found) (line : List ℕ) (next : Read) → Along (StandsAt form config start count read) a b → HasFound f line b c → f ≢ found.End
        → with_line form config.geometry.channels start (count + 1) read (text_of f line) ≡ Ok next → Along (StandsAt form config start (count + 1) next) a c
    stands_more None b c f line next so_far has other said = tt
    stands_more (Some body) None c f line next so_far has other said = absurd so_far
    stands_more (Some body) (Some rest) None f line next so_far has other said = absurd has
    stands_more (Some body) (Some rest) (Some behind) f line next so_far has other said =
        let channels = config.geometry.channels in
        let step : read_from form channels start count read (lines rest) ≡ read_from form channels start (count + 1) next (lines behind) =
        ap (read_from form channels start count read) (lines_step f rest line behind has other)
        ∙ ap (λ (r : Result Read Fault). r >>> λ (n : Read). read_from form channels start (count + 1) n (lines behind)) said in
        record {
          said = sym step ∙ so_far.said;
          counted = omega (arith, so_far.counted, ap length (lines_step f rest line behind has other));
        }

    -- the line is at fault
    pub stands_fault : (a b c : Option (List ℕ)) (f : Found) (line : List ℕ) (fault : Fault) → Along (StandsAt form config start count read) a b → HasFound f line b c → f ≢ found.End
        → with_line form config.geometry.channels start (count + 1) read (text_of f line) ≡ Err fault → IsLineFault (count + 1) fault → IfSome a (λ body. IsReadFault form config start body fault)
    stands_fault None b c f line fault so_far has other said kind = tt
    stands_fault (Some body) None c f line fault so_far has other said kind = absurd so_far
    stands_fault (Some body) (Some rest) None f line fault so_far has other said kind = absurd has
    stands_fault (Some body) (Some rest) (Some behind) f line fault so_far has other said kind =
        let channels = config.geometry.channels in
        let all : captured form config start body ≡ Err fault =
        sym so_far.said
        ∙ ap (read_from form channels start count read) (lines_step f rest line behind has other)
        ∙ ap (λ (r : Result Read Fault). r >>> λ (n : Read). read_from form channels start (count + 1) n (lines behind)) said in
        fault_read (count + 1) body fault kind all

    -- the lines are at their end
    pub stands_last : (a b c : Option (List ℕ)) (line : List ℕ) → Along (StandsAt form config start count read) a b → HasFound found.End line b c → IfSome a (λ body. captured form config start body ≡ Ok read)
    stands_last None b c line so_far has = tt
    stands_last (Some body) None c line so_far has = absurd so_far
    stands_last (Some body) (Some rest) None line so_far has = absurd has
    stands_last (Some body) (Some rest) (Some behind) line so_far has =
        sym so_far.said ∙ ap (λ r. read_from form config.geometry.channels start count read (lines r)) has.0

    -- the next line is too long
    pub stands_long : (a b : Option (List ℕ)) → Along (StandsAt form config start count read) a b → IfSome b IsTooLong → IfSome a (λ body. captured form config start body ≡ Err (faults.CaptureLine (count + 1) TooLong))
    stands_long None b so_far long = tt
    stands_long (Some body) None so_far long = absurd so_far
    stands_long (Some body) (Some rest) so_far long =
        let channels = config.geometry.channels in
        let h = long_first rest long in
        sym so_far.said
        ∙ ap (read_from form channels start count read) h.lined
        ∙ ap (λ (r : Result Read Fault). r >>> λ (n : Read). read_from form channels start (count + 1) n h.more) (long_refused form channels start (count + 1) read h.first h.long)

    -- there are too many
    pub stands_past : (a b : Option (List ℕ)) → Along (StandsAt form config start count read) a b → MOST_LINES ≤ count → IfSome a (λ body. MOST_LINES ≤ length (lines body))
    stands_past None b so_far many = tt
    stands_past (Some body) None so_far many = absurd so_far
    stands_past (Some body) (Some rest) so_far many = omega (arith, so_far.counted)

    -- no line was found
    pub refusal_next : (a b : Option (List ℕ)) (refusal : Refusal) → Along (StandsAt form config start count read) a b → (refusal ≡ refusals.Line → IfSome b IsTooLong) → IfSome a (λ body. IsReadFault form config start body (line_fault (count + 1) refusal))
    refusal_next a b refusals.Line so_far long = stands_long a b so_far (long refl)
    refusal_next None b refusals.Read so_far long = tt
    refusal_next (Some body) b refusals.Read so_far long = tt
    refusal_next None b refusals.OutOfMemory so_far long = tt
    refusal_next (Some body) b refusals.OutOfMemory so_far long = tt
