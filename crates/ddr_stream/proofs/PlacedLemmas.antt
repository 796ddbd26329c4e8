-- A port that a line asks is there, and what is wrong with a line ends the reading.
use Rattle.std.proofs.Common.{◌≡◌, ℕ, ◌%◌, ◌<◌, ◌≤◌, Bool, true, false, cond, List, [], ◌∷◌, length, nat_lt, Option, Some, None, Result, Ok, Err, IfOk, refl, ap, subst, ◌∙◌, arith}
use Rattle.std.specs.Prelude.{is_none}
use Rattle.std.specs.Option.{ok_or}
use Rattle.std.specs.Str.{IsUtf8, is_utf8}
use Rattle.std.proofs.lemmas.Bool.{le-ltb, ltb-false, ltb-true}
use Rattle.std.proofs.lemmas.Str.{IsUtf8-from_is_utf8, is_utf8-from_IsUtf8}
use Rattle.ddr_timing.specs.declared.geometry.Geometry.{Geometry}
use Rattle.ddr_address_map.specs.Map.{place_of}
use Rattle.ddr_trace_text.specs.Numbers.{number_of}
use Rattle.ddr_text.specs.declared.command.Format.{Format}
use Rattle.ddr_text.specs.declared.command.Format.TheVariants.{Own, Dramsim3, Ramulator2}
use Rattle.ddr_text.specs.declared.command.Reading.{Reading}
use Rattle.ddr_text.specs.declared.fault.Fault.{Fault}
use Rattle.ddr_text.specs.declared.fault.Fault.TheVariants as faults
use Rattle.ddr_text.specs.declared.fault.LineFault.{LineFault}
use Rattle.ddr_text.specs.declared.fault.LineFault.TheVariants.{NoSuch, NotUtf8, Number, Spaces, TooLong, Word}
use Rattle.ddr_text.specs.Script.{LARGEST, fields_of, has_space_at_end}
use Rattle.ddr_capture.specs.declared.feed.TheConstants.{LONGEST_LINE, MOST_LINES}
use Rattle.ddr_stream.specs.declared.line.Sent.{Sent}
use Rattle.ddr_stream.specs.declared.placing.Placed.{Placed}
use Rattle.ddr_stream.specs.Line.{address_of, address_of_dramsim3, address_of_ramulator2, at_of, for_port, is_skipped, kind_of, kind_of_ramulator2, of_dramsim3, of_four, of_own, of_ramulator2, of_three, of_two, sent_of, white_fields_of, ◌>>=◌}
use Rattle.ddr_stream.specs.Stream.{ask_of, next_port, of_line, of_said, of_text, within}
use Rattle.ddr_stream.specs.Waiting.{IsStreamFault}

-- a line is at fault
abbrev pub IsLineFault : Fault → Type 0
IsLineFault (faults.ReplayLine line cause) = Unit {0}
IsLineFault (faults.ReplayRange line) = Unit {0}
IsLineFault faults.InputTooLong = Unit {0}
IsLineFault _ = ⊥

pub fault_ends : (fault : Fault) → IsLineFault fault → IsStreamFault fault
fault_ends (faults.ReplayLine line cause) is = tt
fault_ends (faults.ReplayRange line) is = tt
fault_ends faults.InputTooLong is = tt
fault_ends _ is = absurd is

pub not_read : (fault : Fault) → IsLineFault fault → fault ≡ faults.Read → ⊥
not_read fault is e = subst IsLineFault e is

-- ---- a line that says so

module _ (ports : ℕ) where
  abbrev IsBelow : Result Sent LineFault → Type 0
  IsBelow said = IfOk said (λ sent. sent.port < ports)

  then_below : {A : Type 0} (said : Result A LineFault) (next : A → Result Sent LineFault) → ((a : A) → IsBelow (next a)) → IsBelow (said >>= next)
  then_below (Ok a) next each = each a
  then_below (Err cause) next each = tt

  for_port_below : (sent : Sent) → IsBelow (for_port ports sent)
  for_port_below sent = by_test (nat_lt sent.port ports) refl
    where
      by_test : (b : Bool) → nat_lt sent.port ports ≡ b → IsBelow (cond b (Ok sent) (Err NoSuch))
      by_test true e = ltb-true sent.port ports e
      by_test false e = tt

  own_below : (at port word addr : List ℕ) → IsBelow (of_own ports at port word addr)
  unfolding of_own
  own_below at port word addr =
      then_below (ok_or (kind_of word) Word) _ (λ k.
      then_below (ok_or (at_of at) Number) _ (λ a.
      then_below (ok_or (number_of LARGEST port) Number) _ (λ p.
      then_below (ok_or (address_of addr) Number) _ (λ x.
      for_port_below (record { port = p; at = a; kind = k; addr = x })))))

  dramsim3_below : (next : ℕ) (addr word at : List ℕ) → next < ports → IsBelow (of_dramsim3 next addr word at)
  unfolding of_dramsim3
  dramsim3_below next addr word at below =
      then_below (ok_or (address_of_dramsim3 addr) Number) _ (λ x.
      then_below (ok_or (number_of LARGEST at) Number) _ (λ a. below))

  ramulator2_below : (next : ℕ) (word addr : List ℕ) → next < ports → IsBelow (of_ramulator2 next word addr)
  unfolding of_ramulator2
  ramulator2_below next word addr below =
      then_below (ok_or (kind_of_ramulator2 word) Word) _ (λ k.
      then_below (ok_or (address_of_ramulator2 addr) Number) _ (λ x. below))

  four_below : (fields : List (List ℕ)) → IsBelow (of_four ports fields)
  four_below (at ∷ port ∷ word ∷ addr ∷ []) = own_below at port word addr
  four_below _ = tt

  three_below : (next : ℕ) (fields : List (List ℕ)) → next < ports → IsBelow (of_three next fields)
  three_below next (addr ∷ word ∷ at ∷ []) below = dramsim3_below next addr word at below
  three_below next _ below = tt

  two_below : (next : ℕ) (fields : List (List ℕ)) → next < ports → IsBelow (of_two next fields)
  two_below next (word ∷ addr ∷ []) below = ramulator2_below next word addr below
  two_below next _ below = tt

  spaced_below : (b : Bool) (said : Result Sent LineFault) → IsBelow said → IsBelow (cond b (Err Spaces) said)
  spaced_below true said below = tt
  spaced_below false said below = below

  sent_below : (format : Format) (next : ℕ) (text : List ℕ) → next < ports → IsBelow (sent_of format ports next text)
  sent_below Own next text below = spaced_below (has_space_at_end text) (of_four ports (fields_of text)) (four_below (fields_of text))
  sent_below Dramsim3 next text below = three_below next (white_fields_of text) below
  sent_below Ramulator2 next text below = spaced_below (has_space_at_end text) (of_two next (fields_of text)) (two_below next (fields_of text) below)

  next_below : (reading : Reading) (sent : ℕ) → 0 < ports → next_port reading ports sent < ports
  next_below reading sent some = by_test reading.spread
    where
      by_test : (b : Bool) → cond b (sent % ports) 0 < ports
      by_test true = omega arith
      by_test false = some

  -- ---- a line in a memory

  -- it is counted, and its port is there, or it is at fault
  abbrev pub IsPlaced : ℕ → Result (Option Placed) Fault → Type 0
  IsPlaced line (Ok None) = line ≤ MOST_LINES
  IsPlaced line (Ok (Some p)) = (p.port < ports) × (line ≤ MOST_LINES)
  IsPlaced line (Err fault) = IsLineFault fault

  within_placed : (geometry : Geometry) (line : ℕ) (p : Placed) → p.port < ports → line ≤ MOST_LINES → IsPlaced line (within geometry p)
  within_placed geometry line p below few = by_test (is_none (place_of geometry p.ask.addr))
    where
      by_test : (b : Bool) → IsPlaced line (cond b (Err (faults.ReplayRange p.ask.line)) (Ok (Some p)))
      by_test true = tt
      by_test false = (below, few)

  said_placed : (geometry : Geometry) (reading : Reading) (line : ℕ) (said : Result Sent LineFault) → IsBelow said → line ≤ MOST_LINES → IsPlaced line (of_said geometry reading line said)
  said_placed geometry reading line (Ok sent) below few = within_placed geometry line (record { port = sent.port; ask = ask_of geometry reading line sent }) below few
  said_placed geometry reading line (Err cause) below few = tt

  text_placed : (geometry : Geometry) (reading : Reading) (line sent : ℕ) (text : List ℕ) → 0 < ports → line ≤ MOST_LINES → IsPlaced line (of_text geometry reading ports line sent text)
  text_placed geometry reading line sent text some few = by_test (is_skipped reading.format text)
    where
      by_test : (b : Bool) → IsPlaced line (cond b (Ok None) (of_said geometry reading line (sent_of reading.format ports (next_port reading ports sent) text)))
      by_test true = few
      by_test false = said_placed geometry reading line (sent_of reading.format ports (next_port reading ports sent) text) (sent_below reading.format (next_port reading ports sent) text (next_below reading sent some)) few

  pub line_placed : (geometry : Geometry) (reading : Reading) (line sent : ℕ) (text : List ℕ) → 0 < ports → IsPlaced line (of_line geometry reading ports line sent text)
  line_placed geometry reading line sent text some = by_length (nat_lt LONGEST_LINE (length text))
    where
      by_form : (b : Bool) → line ≤ MOST_LINES → IsPlaced line (cond b (of_text geometry reading ports line sent text) (Err (faults.ReplayLine line NotUtf8)))
      by_form true few = text_placed geometry reading line sent text some few
      by_form false few = tt

      by_count : (b : Bool) → nat_lt MOST_LINES line ≡ b → IsPlaced line (cond b (Err faults.InputTooLong) (cond (is_utf8 text) (of_text geometry reading ports line sent text) (Err (faults.ReplayLine line NotUtf8))))
      by_count true e = tt
      by_count false e = by_form (is_utf8 text) (ltb-false MOST_LINES line e)

      by_length : (b : Bool) → IsPlaced line (cond b (Err (faults.ReplayLine line TooLong)) (cond (nat_lt MOST_LINES line) (Err faults.InputTooLong) (cond (is_utf8 text) (of_text geometry reading ports line sent text) (Err (faults.ReplayLine line NotUtf8)))))
      by_length true = tt
      by_length false = by_count (nat_lt MOST_LINES line) refl

-- ---- a line that is short enough, and counted

module _ (geometry : Geometry) (reading : Reading) (ports line sent : ℕ) (text : List ℕ) (short : length text ≤ LONGEST_LINE) (few : line ≤ MOST_LINES) where
  abbrev said : Result (Option Placed) Fault
  said = of_text geometry reading ports line sent text

  line_inside : of_line geometry reading ports line sent text ≡ cond (is_utf8 text) said (Err (faults.ReplayLine line NotUtf8))
  line_inside =
      ap (λ (b : Bool). cond b (Err (faults.ReplayLine line TooLong)) (cond (nat_lt MOST_LINES line) (Err faults.InputTooLong) (cond (is_utf8 text) said (Err (faults.ReplayLine line NotUtf8))))) (le-ltb LONGEST_LINE (length text) short)
      ∙ ap (λ (b : Bool). cond b (Err faults.InputTooLong) (cond (is_utf8 text) said (Err (faults.ReplayLine line NotUtf8)))) (le-ltb MOST_LINES line few)

  pub line_text : IsUtf8 text → of_line geometry reading ports line sent text ≡ said
  line_text is = line_inside ∙ ap (λ (b : Bool). cond b said (Err (faults.ReplayLine line NotUtf8))) (is_utf8-from_IsUtf8 text is)

  pub line_of_no_text : ¬ IsUtf8 text → of_line geometry reading ports line sent text ≡ Err (faults.ReplayLine line NotUtf8)
  line_of_no_text not = line_inside ∙ by_form (is_utf8 text) refl
    where
      by_form : (b : Bool) → is_utf8 text ≡ b → cond b said (Err (faults.ReplayLine line NotUtf8)) ≡ Err (faults.ReplayLine line NotUtf8)
      by_form true e = absurd (not (IsUtf8-from_is_utf8 text e))
      by_form false e = refl
