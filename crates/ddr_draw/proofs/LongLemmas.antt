-- Going over the lines of a long trace.
use Rattle.std.proofs.Common.{◌≡◌, ◌≢◌, ℕ, ◌+◌, ◌<◌, ◌≤◌, Bool, true, false, cond, List, [], ◌∷◌, ◌++◌, length, Option, Some, None, Result, Ok, IfSome, refl, sym, ap, ◌∙◌, arith}
use Rattle.std.specs.Str.{bytes_eq}
use Rattle.std.specs.Str.Lines.{lines}
use Rattle.std.proofs.lemmas.Bool.{cond-false, cond-true, lt-ltb}
use Rattle.std.proofs.lemmas.Slice.Eq.{bytes_eq-Decides}
use Rattle.ddr_trace.specs.declared.command.Entry.{Entry}
use Rattle.ddr_trace_text.specs.declared.text.TraceError.{TraceError}
use Rattle.ddr_trace.specs.Traces.{Recorded}
use Rattle.ddr_text.specs.declared.command.Format.TheVariants.{Own}
use Rattle.ddr_text.specs.declared.fault.Fault.TheVariants as faults
use Rattle.ddr_capture.specs.declared.feed.Found.{Found}
use Rattle.ddr_capture.specs.declared.feed.Found.TheVariants as found
use Rattle.ddr_capture.specs.declared.feed.Refusal.{Refusal}
use Rattle.ddr_capture.specs.declared.feed.Refusal.TheVariants as refusals
use Rattle.ddr_capture.specs.declared.feed.TheConstants.{LONGEST_LINE}
use Rattle.ddr_capture.specs.Feed.{Along, HasFound, IsTooLong}
use Rattle.ddr_capture.specs.Line.{said_of}
use Rattle.ddr_capture.specs.Lines.{text_of}
use Rattle.ddr_capture.proofs.LineLemmas.{lines_step, long_first}
use Rattle.ddr_draw.specs.declared.long.Row.{Row}
use Rattle.ddr_draw.specs.declared.long.Row.TheVariants as rows
use Rattle.ddr_draw.specs.declared.long.TheConstants.{HEADER, MOST_COMMANDS}
use Rattle.ddr_draw.specs.Ahead.{EndsAt, IsBodyFault, IsRow, StandsAt, end_fault, header_fault, row_fault}
use Rattle.ddr_draw.specs.Long.{by_row, long_end, long_from, long_trace, row_of, row_said}

-- ---- the header

pub header_stands : (f : Found) (line : List ℕ) (a b : Option (List ℕ)) → HasFound f line a b → f ≢ found.End → bytes_eq (text_of f line) HEADER.now ≡ true → Along (StandsAt 2 []) a b
header_stands f line None b has other is = tt
header_stands f line (Some text) None has other is = absurd has
header_stands f line (Some text) (Some behind) has other is =
    let first = lines_step f text line behind has other in
    record {
      said = sym (ap long_trace first ∙ cond-true _ _ _ is);
      counted = omega (arith, ap length first);
    }

pub header_wrong : (f : Found) (line : List ℕ) (a b : Option (List ℕ)) → HasFound f line a b → f ≢ found.End → bytes_eq (text_of f line) HEADER.now ≡ false → IfSome a (λ body. IsBodyFault body faults.TraceHeader)
header_wrong f line None b has other is = tt
header_wrong f line (Some text) None has other is = absurd has
header_wrong f line (Some text) (Some behind) has other is = ap long_trace (lines_step f text line behind has other) ∙ cond-false _ _ _ is

pub header_missing : (line : List ℕ) (a b : Option (List ℕ)) → HasFound found.End line a b → IfSome a (λ body. IsBodyFault body faults.TraceHeader)
header_missing line None b has = tt
header_missing line (Some text) None has = absurd has
header_missing line (Some text) (Some behind) has = ap (λ t. long_trace (lines t)) has.0

longer_than_header : (first : List ℕ) → LONGEST_LINE < length first → bytes_eq first HEADER.now ≡ false
longer_than_header first long = not_equal (bytes_eq first HEADER.now) refl
  where
    not_equal : (b : Bool) → bytes_eq first HEADER.now ≡ b → b ≡ false
    not_equal false is = refl
    not_equal true is = absurd (omega (arith, long, ap length ((bytes_eq-Decides first HEADER.now).0 is)))

header_long : (a : Option (List ℕ)) → IfSome a IsTooLong → IfSome a (λ body. IsBodyFault body faults.TraceHeader)
header_long None long = tt
header_long (Some text) long =
    let h = long_first text long in
    ap long_trace h.lined ∙ cond-false _ _ _ (longer_than_header h.first h.long)

pub header_refused : (a : Option (List ℕ)) (refusal : Refusal) → (refusal ≡ refusals.Line → IfSome a IsTooLong) → IfSome a (λ body. IsBodyFault body (header_fault refusal))
header_refused a refusals.Line long = header_long a (long refl)
header_refused None refusals.Read long = tt
header_refused (Some text) refusals.Read long = tt
header_refused None refusals.OutOfMemory long = tt
header_refused (Some text) refusals.OutOfMemory long = tt

-- ---- a line more

long_row : (text : List ℕ) → LONGEST_LINE < length text → row_of text ≡ None
unfolding row_of
long_row text long = ap (λ (b : Bool). cond b None (row_said (said_of Own false text))) (lt-ltb LONGEST_LINE (length text) long)

module _ (line : ℕ) (so_far : List Entry) where
  abbrev step : Option Row → List (List ℕ) → Result Recorded TraceError
  step row rest = by_row line (λ e. long_from (line + 1) (so_far ++ e ∷ []) rest) (λ end. long_end (line + 1) (record { start = 0; end = end; entries = so_far }) rest) row

  pub row_stands : (f : Found) (text : List ℕ) (row : Row) (a b c : Option (List ℕ)) → Along (StandsAt line so_far) a b → HasFound f text b c → f ≢ found.End → row_of (text_of f text) ≡ Some row → IsRow line so_far a c (Ok row)
  row_stands f text (rows.Command e) None b c stands has other is = tt
  row_stands f text (rows.Command e) (Some body) None c stands has other is = absurd stands
  row_stands f text (rows.Command e) (Some body) (Some rest) None stands has other is = absurd has
  row_stands f text (rows.Command e) (Some body) (Some rest) (Some behind) stands has other is =
      let first = lines_step f rest text behind has other in
      record {
        said = sym (ap (long_from line so_far) first ∙ ap (λ row. step row (lines behind)) is) ∙ stands.said;
        counted = omega (arith, stands.counted, ap length first);
      }
  row_stands f text (rows.End end) None b c stands has other is = tt
  row_stands f text (rows.End end) (Some body) None c stands has other is = absurd stands
  row_stands f text (rows.End end) (Some body) (Some rest) None stands has other is = absurd has
  row_stands f text (rows.End end) (Some body) (Some rest) (Some behind) stands has other is =
      let first = lines_step f rest text behind has other in
      sym (ap (long_from line so_far) first ∙ ap (λ row. step row (lines behind)) is) ∙ stands.said

  pub row_wrong : (f : Found) (text : List ℕ) (a b c : Option (List ℕ)) → Along (StandsAt line so_far) a b → HasFound f text b c → f ≢ found.End → row_of (text_of f text) ≡ None → IfSome a (λ body. IsBodyFault body (faults.TraceRow line))
  row_wrong f text None b c stands has other is = tt
  row_wrong f text (Some body) None c stands has other is = absurd stands
  row_wrong f text (Some body) (Some rest) None stands has other is = absurd has
  row_wrong f text (Some body) (Some rest) (Some behind) stands has other is =
      sym stands.said ∙ ap (long_from line so_far) (lines_step f rest text behind has other) ∙ ap (λ row. step row (lines behind)) is

  pub row_missing : (text : List ℕ) (a b c : Option (List ℕ)) → Along (StandsAt line so_far) a b → HasFound found.End text b c → IfSome a (λ body. IsBodyFault body faults.TraceTruncated)
  row_missing text None b c stands has = tt
  row_missing text (Some body) None c stands has = absurd stands
  row_missing text (Some body) (Some rest) None stands has = absurd has
  row_missing text (Some body) (Some rest) (Some behind) stands has = sym stands.said ∙ ap (λ t. long_from line so_far (lines t)) has.0

  row_long : (a b : Option (List ℕ)) → Along (StandsAt line so_far) a b → IfSome b IsTooLong → IfSome a (λ body. IsBodyFault body (faults.TraceRow line))
  row_long None b stands long = tt
  row_long (Some body) None stands long = absurd stands
  row_long (Some body) (Some rest) stands long =
      let h = long_first rest long in
      sym stands.said ∙ ap (long_from line so_far) h.lined ∙ ap (λ row. step row h.more) (long_row h.first h.long)

  pub row_refused : (a b : Option (List ℕ)) (refusal : Refusal) → Along (StandsAt line so_far) a b → (refusal ≡ refusals.Line → IfSome b IsTooLong) → IfSome a (λ body. IsBodyFault body (row_fault line refusal))
  row_refused a b refusals.Line stands long = row_long a b stands (long refl)
  row_refused None b refusals.Read stands long = tt
  row_refused (Some body) b refusals.Read stands long = tt
  row_refused None b refusals.OutOfMemory stands long = tt
  row_refused (Some body) b refusals.OutOfMemory stands long = tt

  -- there are too many
  pub rows_past : (a b : Option (List ℕ)) → Along (StandsAt line so_far) a b → MOST_COMMANDS + 2 ≤ line → IfSome a (λ body. IsBodyFault body faults.InputTooLong)
  rows_past None b stands many = tt
  rows_past (Some body) None stands many = absurd stands
  rows_past (Some body) (Some rest) stands many = omega (arith, stands.counted, many)

-- ---- END

module _ (line : ℕ) (trace : Recorded) where
  pub end_last : (text : List ℕ) (a b c : Option (List ℕ)) → Along (EndsAt line trace) a b → HasFound found.End text b c → IfSome a (λ body. long_trace (lines body) ≡ Ok trace)
  end_last text None b c ends has = tt
  end_last text (Some body) None c ends has = absurd ends
  end_last text (Some body) (Some rest) None ends has = absurd has
  end_last text (Some body) (Some rest) (Some behind) ends has = sym ends ∙ ap (λ t. long_end line trace (lines t)) has.0

  pub end_more : (f : Found) (text : List ℕ) (a b c : Option (List ℕ)) → Along (EndsAt line trace) a b → HasFound f text b c → f ≢ found.End → IfSome a (λ body. IsBodyFault body (faults.TraceOrder line))
  end_more f text None b c ends has other = tt
  end_more f text (Some body) None c ends has other = absurd ends
  end_more f text (Some body) (Some rest) None ends has other = absurd has
  end_more f text (Some body) (Some rest) (Some behind) ends has other = sym ends ∙ ap (long_end line trace) (lines_step f rest text behind has other)

  end_long : (a b : Option (List ℕ)) → Along (EndsAt line trace) a b → IfSome b IsTooLong → IfSome a (λ body. IsBodyFault body (faults.TraceOrder line))
  end_long None b ends long = tt
  end_long (Some body) None ends long = absurd ends
  end_long (Some body) (Some rest) ends long = sym ends ∙ ap (long_end line trace) (long_first rest long).lined

  pub end_refused : (a b : Option (List ℕ)) (refusal : Refusal) → Along (EndsAt line trace) a b → (refusal ≡ refusals.Line → IfSome b IsTooLong) → IfSome a (λ body. IsBodyFault body (end_fault line refusal))
  end_refused a b refusals.Line ends long = end_long a b ends (long refl)
  end_refused None b refusals.Read ends long = tt
  end_refused (Some body) b refusals.Read ends long = tt
  end_refused None b refusals.OutOfMemory ends long = tt
  end_refused (Some body) b refusals.OutOfMemory ends long = tt
