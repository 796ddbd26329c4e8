-- A part of a trace, of one that is read whole or of a longer one.
use Rattle.std.proofs.Common.{◌≡◌, ◌≢◌, ℕ, ◌<◌, ◌≤◌, ◌-◌, ◌^◌, ◌⊎◌, Bool, true, false, ◌&&◌, List, ◌++◌, length, Option, Some, None, Ok, IfSome, inl, inr, refl, sym, subst, ap, ◌∙◌, arith, length-append}
use Rattle.std.specs.Prelude.{is_none}
use Rattle.std.specs.Io.KnownBytes.{Appends, Consumes, IsAtEnd, prepend_known}
use Rattle.std.specs.Str.Lines.{lines}
use Rattle.std.proofs.lemmas.List.{append-nil}
use Rattle.ddr_timing.specs.declared.config.Config.{Config}
use Rattle.ddr_trace.specs.Traces.{Recorded}
use Rattle.ddr_text.specs.declared.fault.Fault.{Fault}
use Rattle.ddr_text.specs.declared.fault.Fault.TheVariants as faults
use Rattle.ddr_text.specs.declared.input.TheConstants.{LONGEST_INPUT}
use Rattle.ddr_text.specs.Body.{parts_of}
use Rattle.ddr_text.specs.Check.{HasCheckFault, SaysTrace}
use Rattle.ddr_text.specs.Sink.{write_fault}
use Rattle.ddr_text.proofs.BodyLemmas.{not_of_parts}
use Rattle.ddr_capture.specs.Feed.{Along}
use Rattle.ddr_capture.specs.Front.{IsConfigRefused, IsOpened}
use Rattle.ddr_draw.specs.declared.joined.Start.{Start}
use Rattle.ddr_draw.specs.declared.view.View.{View}
use Rattle.ddr_draw.specs.Ahead.{IsBodyFault}
use Rattle.ddr_draw.specs.Drawn.{IsPictured, IsView}
use Rattle.ddr_draw.specs.Lanes.{picture_text}
use Rattle.ddr_draw.specs.Long.{HasLongFault, IsLong, long_trace}
use Rattle.ddr_draw.specs.Part.{AreLanes, HasDrawFault, HasPartFault, HasWholeFault, IsDrawnText, IsLongText, IsPartText, IsShortText, IsStart}
use Rattle.ddr_draw.specs.Scale.{end_shown, first_shown}
use Rattle.ddr_draw.specs.Sketch.{IsWithin}

-- ---- what was read first, and what is joined to it

pub joined : (old new : Option (List ℕ)) (bytes : List ℕ) (P : List ℕ → Type 0) → Consumes old new bytes → IfSome (prepend_known bytes new) P → IfSome old P
joined None new bytes P taken said = tt
joined (Some input) None bytes P taken said = absurd taken
joined (Some input) (Some rest) bytes P taken said = subst P (sym taken) said

pub whole_input : (old new : Option (List ℕ)) (bytes : List ℕ) (P : List ℕ → Type 0) → Consumes old new bytes → IsAtEnd new → P bytes → IfSome old P
whole_input None new bytes P taken ends said = tt
whole_input (Some input) None bytes P taken ends said = absurd taken
whole_input (Some input) (Some rest) bytes P taken ends said = subst P (sym (taken ∙ ap (λ r. bytes ++ r) ends ∙ append-nil bytes)) said

pub long_input : (old new : Option (List ℕ)) (bytes : List ℕ) (sample : Bool) (profile : List ℕ) → Consumes old new bytes → LONGEST_INPUT < length bytes → IfSome old (IsLong sample profile)
long_input None new bytes sample profile taken long = tt
long_input (Some input) None bytes sample profile taken long = absurd taken
long_input (Some input) (Some rest) bytes sample profile taken long = inl (omega (arith, long, ap length taken, length-append bytes rest))

module _ (sample : Bool) (profile : List ℕ) where
  pub start_refused : (old new : Option (List ℕ)) (start : Start) (fault : Fault) → start.is_whole ≡ true → IsStart old start new → HasCheckFault sample profile start.bytes.items fault → fault ≢ faults.InputTooLong → fault ≢ faults.TraceTooLong
      → IfSome old (λ input. HasPartFault sample profile input fault)
  start_refused old new start fault whole is said short few =
      whole_input old new start.bytes.items (λ input. HasPartFault sample profile input fault) is.taken (is.whole whole) (inl (short, few, said))

  pub start_told : (old new : Option (List ℕ)) (start : Start) (from to : Option ℕ) (text : List ℕ) → start.is_whole ≡ true → IsStart old start new → IsShortText sample profile start.bytes.items from to text
      → IfSome old (λ input. IsPartText sample profile input from to text)
  start_told old new start from to text whole is said =
      whole_input old new start.bytes.items (λ input. IsPartText sample profile input from to text) is.taken (is.whole whole) (inl said)

  pub start_long : (old new : Option (List ℕ)) (start : Start) → start.is_whole ≡ true → IsStart old start new → HasCheckFault sample profile start.bytes.items faults.TraceTooLong → IfSome old (IsLong sample profile)
  start_long old new start whole is said = whole_input old new start.bytes.items (IsLong sample profile) is.taken (is.whole whole) (inr said)

  pub start_more : (old new : Option (List ℕ)) (start : Start) → start.is_whole ≡ false → IsStart old start new → IfSome old (IsLong sample profile)
  start_more old new start more is = long_input old new start.bytes.items sample profile is.taken (is.long more)

  pub read_refused : (old : Option (List ℕ)) (fault : Fault) → (fault ≡ faults.Read) ⊎ (fault ≡ faults.OutOfMemory) → IfSome old (λ input. HasPartFault sample profile input fault)
  read_refused None fault is = tt
  read_refused (Some input) fault (inl is) = rw is (inl (λ e. cc, λ e. cc, tt))
  read_refused (Some input) fault (inr is) = rw is (inl (λ e. cc, λ e. cc, tt))

  pub long_refused : (old new : Option (List ℕ)) (bytes : List ℕ) (fault : Fault) → Consumes old new bytes → IfSome old (IsLong sample profile) → IfSome (prepend_known bytes new) (λ input. HasLongFault sample profile input fault)
      → IfSome old (λ input. HasPartFault sample profile input fault)
  long_refused old new bytes fault taken long said = both old long (joined old new bytes (λ input. HasLongFault sample profile input fault) taken said)
    where
      both : (a : Option (List ℕ)) → IfSome a (IsLong sample profile) → IfSome a (λ input. HasLongFault sample profile input fault) → IfSome a (λ input. HasPartFault sample profile input fault)
      both None is has = tt
      both (Some input) is has = inr (is, has)

  pub long_told : (old new : Option (List ℕ)) (bytes : List ℕ) (from to : Option ℕ) (text : List ℕ) → Consumes old new bytes → IfSome old (IsLong sample profile) → IfSome (prepend_known bytes new) (λ input. IsLongText sample profile input from to text)
      → IfSome old (λ input. IsPartText sample profile input from to text)
  long_told old new bytes from to text taken long said = both old long (joined old new bytes (λ input. IsLongText sample profile input from to text) taken said)
    where
      both : (a : Option (List ℕ)) → IfSome a (IsLong sample profile) → IfSome a (λ input. IsLongText sample profile input from to text) → IfSome a (λ input. IsPartText sample profile input from to text)
      both None is has = tt
      both (Some input) is has = inr (is, has)

  -- ---- a long trace

  config_fault : (input : List ℕ) (fault : Fault) → IsConfigRefused sample profile input fault → HasLongFault sample profile input fault
  config_fault input faults.TraceHeader refused = not_of_parts (parts_of sample profile input) faults.TraceHeader refused refl
  config_fault input (faults.TraceRow line) refused = not_of_parts (parts_of sample profile input) (faults.TraceRow line) refused refl
  config_fault input (faults.TraceOrder line) refused = not_of_parts (parts_of sample profile input) (faults.TraceOrder line) refused refl
  config_fault input faults.TraceTruncated refused = not_of_parts (parts_of sample profile input) faults.TraceTruncated refused refl
  config_fault input faults.Write refused = not_of_parts (parts_of sample profile input) faults.Write refused refl
  config_fault input faults.InputTooLong refused = inl refused
  config_fault input _ refused = refused

  pub front_refused : (a : Option (List ℕ)) (fault : Fault) → IfSome a (λ input. IsConfigRefused sample profile input fault) → IfSome a (λ input. HasLongFault sample profile input fault)
  front_refused None fault refused = tt
  front_refused (Some input) fault refused = config_fault input fault refused

  body_fault : (config : Config) (input body : List ℕ) (fault : Fault) → IsOpened sample profile config input body → IsBodyFault body fault → HasLongFault sample profile input fault
  body_fault config input body faults.TraceHeader opened said = (config, record { body = body; opened = opened.parts; read = said })
  body_fault config input body (faults.TraceRow line) opened said = (config, record { body = body; opened = opened.parts; read = said })
  body_fault config input body (faults.TraceOrder line) opened said = (config, record { body = body; opened = opened.parts; read = said })
  body_fault config input body faults.TraceTruncated opened said = (config, record { body = body; opened = opened.parts; read = said })
  body_fault config input body faults.InputTooLong opened said = inr (config, body, opened.parts, said)
  body_fault config input body faults.Read opened said = tt
  body_fault config input body faults.OutOfMemory opened said = tt
  body_fault config input body _ opened said = absurd said

  pub body_refused : (a b : Option (List ℕ)) (config : Config) (fault : Fault) → Along (IsOpened sample profile config) a b → IfSome b (λ body. IsBodyFault body fault) → IfSome a (λ input. HasLongFault sample profile input fault)
  body_refused None b config fault opened said = tt
  body_refused (Some input) None config fault opened said = absurd opened
  body_refused (Some input) (Some body) config fault opened said = body_fault config input body fault opened said

  pub long_pictured : (a b : Option (List ℕ)) (config : Config) (trace : Recorded) (from to : Option ℕ) (view : View) (text : List ℕ) → Along (IsOpened sample profile config) a b → IfSome b (λ body. long_trace (lines body) ≡ Ok trace)
      → IsView from to trace.start trace.end view → text ≡ picture_text config view trace.entries → IfSome a (λ input. IsLongText sample profile input from to text)
  long_pictured None b config trace from to view text opened said shown told = tt
  long_pictured (Some input) None config trace from to view text opened said shown told = absurd opened
  long_pictured (Some input) (Some body) config trace from to view text opened said shown told = record {
    config = config;
    trace = trace;
    says = record { body = body; opened = opened.parts; read = said };
    view = view;
    shown = shown;
    told = told;
  }

  -- ---- a trace that is read whole

  pub short_pictured : (a : Option (List ℕ)) (config : Config) (trace : Recorded) (from to : Option ℕ) (view : View) (text : List ℕ) → IfSome a (λ input. SaysTrace sample profile input config (Ok trace))
      → IsView from to trace.start trace.end view → text ≡ picture_text config view trace.entries → IfSome a (λ input. IsShortText sample profile input from to text)
  short_pictured None config trace from to view text says shown told = tt
  short_pictured (Some input) config trace from to view text says shown told = record { config = config; trace = trace; says = says; view = view; shown = shown; told = told }

  pub whole_refused : (a : Option (List ℕ)) (fault : Fault) → fault ≢ faults.TraceTooLong → IfSome a (λ input. HasCheckFault sample profile input fault) → IfSome a (λ input. HasWholeFault sample profile input fault)
  whole_refused None fault few said = tt
  whole_refused (Some input) faults.TraceTooLong few said = absurd (few refl)
  whole_refused (Some input) faults.DrawTooLong few said = not_of_parts (parts_of sample profile input) faults.DrawTooLong said.1 refl
  whole_refused (Some input) fault few said = said

  -- ---- either

  pub drawn_whole : (a : Option (List ℕ)) (from to : Option ℕ) (text : List ℕ) → (is_none from && is_none to) ≡ true → IfSome a (λ input. IsShortText sample profile input None None text) → IfSome a (λ input. IsDrawnText sample profile input from to text)
  drawn_whole a None None text is said = said
  drawn_whole a None (Some n) text is said = absurd cc
  drawn_whole a (Some n) to text is said = absurd cc

  pub drawn_part : (a : Option (List ℕ)) (from to : Option ℕ) (text : List ℕ) → (is_none from && is_none to) ≡ false → IfSome a (λ input. IsPartText sample profile input from to text) → IfSome a (λ input. IsDrawnText sample profile input from to text)
  drawn_part a None None text is said = absurd cc
  drawn_part a None (Some n) text is said = said
  drawn_part a (Some n) to text is said = said

  pub refused_whole : (a : Option (List ℕ)) (from to : Option ℕ) (fault : Fault) → (is_none from && is_none to) ≡ true → IfSome a (λ input. HasWholeFault sample profile input fault) → IfSome a (λ input. HasDrawFault sample profile input from to fault)
  refused_whole a None None fault is said = said
  refused_whole a None (Some n) fault is said = absurd cc
  refused_whole a (Some n) to fault is said = absurd cc

  pub refused_part : (a : Option (List ℕ)) (from to : Option ℕ) (fault : Fault) → (is_none from && is_none to) ≡ false → IfSome a (λ input. HasPartFault sample profile input fault) → IfSome a (λ input. HasDrawFault sample profile input from to fault)
  refused_part a None None fault is said = absurd cc
  refused_part a None (Some n) fault is said = said
  refused_part a (Some n) to fault is said = said

  pictured : (input : List ℕ) (from to : Option ℕ) (text : List ℕ) (old new : Option (List ℕ)) → IsShortText sample profile input from to text → Appends old new text → IsPictured sample profile input from to old new
  pictured input from to text old new said written = record {
    config = said.config;
    trace = said.trace;
    says = said.says;
    view = said.view;
    shown = said.shown;
    written = subst (Appends old new) said.told written;
  }

  part_written : (input : List ℕ) (from to : Option ℕ) (text : List ℕ) (old new : Option (List ℕ)) → IsPartText sample profile input from to text → Appends old new text
      → IsPictured sample profile input from to old new ⊎ ((t : List ℕ) × IsLong sample profile input × IsLongText sample profile input from to t × Appends old new t)
  part_written input from to text old new (inl said) written = inl (pictured input from to text old new said written)
  part_written input from to text old new (inr said) written = inr (text, said.0, said.1, written)

  -- what is written
  pub lanes_written : (a : Option (List ℕ)) (from to : Option ℕ) (text : List ℕ) (old new : Option (List ℕ)) → IfSome a (λ input. IsDrawnText sample profile input from to text) → Appends old new text
      → IfSome a (λ input. AreLanes sample profile input from to old new)
  lanes_written None from to text old new said written = tt
  lanes_written (Some input) None None text old new said written = pictured input None None text old new said written
  lanes_written (Some input) None (Some n) text old new said written = part_written input None (Some n) text old new said written
  lanes_written (Some input) (Some n) to text old new said written = part_written input (Some n) to text old new said written

  whole_unwritten : (input : List ℕ) (from to : Option ℕ) (text : List ℕ) (may_fail : Bool) → IsShortText sample profile input from to text → HasWholeFault sample profile input (write_fault may_fail)
  whole_unwritten input from to text true said = (said.config, said.trace, said.says)
  whole_unwritten input from to text false said = tt

  part_unwritten : (input : List ℕ) (from to : Option ℕ) (text : List ℕ) (may_fail : Bool) → IsPartText sample profile input from to text → HasPartFault sample profile input (write_fault may_fail)
  part_unwritten input from to text true (inl said) = inl (λ e. cc, λ e. cc, (said.config, said.trace, said.says))
  part_unwritten input from to text false (inl said) = inl (λ e. cc, λ e. cc, tt)
  part_unwritten input from to text true (inr said) = inr (said.0, (said.1.config, said.1.trace, said.1.says))
  part_unwritten input from to text false (inr said) = inl (λ e. cc, λ e. cc, tt)

  -- and what is not
  pub lanes_unwritten : (a : Option (List ℕ)) (from to : Option ℕ) (text : List ℕ) (may_fail : Bool) (fault : Fault) → fault ≡ write_fault may_fail → IfSome a (λ input. IsDrawnText sample profile input from to text)
      → IfSome a (λ input. HasDrawFault sample profile input from to fault)
  lanes_unwritten None from to text may_fail fault is said = tt
  lanes_unwritten (Some input) None None text may_fail fault is said = rw is (whole_unwritten input None None text may_fail said)
  lanes_unwritten (Some input) None (Some n) text may_fail fault is said = rw is (part_unwritten input None (Some n) text may_fail said)
  lanes_unwritten (Some input) (Some n) to text may_fail fault is said = rw is (part_unwritten input (Some n) to text may_fail said)

-- ---- the cycles of a trace, among those asked for

before_end : (first end : ℕ) (to : Option ℕ) → end_shown first end to ≤ end_shown first (2 ^ 64 - 1) to
before_end first end None = omega arith
before_end first end (Some n) = omega arith

pub within : (v wide : View) (end : ℕ) (from to : Option ℕ) → v.from ≡ first_shown 0 from → v.to ≡ end_shown v.from end to → wide.from ≡ first_shown 0 from → wide.to ≡ end_shown wide.from (2 ^ 64 - 1) to → IsWithin v wide
within v wide end from to v_from v_to wide_from wide_to =
    let same : v.from ≡ wide.from = v_from ∙ sym wide_from in
    record {
      from = same;
      to = rw (v_to, wide_to) (rw same (before_end wide.from end to));
    }
