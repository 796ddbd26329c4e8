-- What `draw --svg` writes: the picture of a whole trace, or of a part of one of any length.
use Rattle.std.specs.Prelude.{◌≡◌, ◌≢◌, ◌<◌, ◌⊎◌, ℕ, Bool, true, false, List, length, Option, None, Ok}
use Rattle.std.specs.Io.KnownBytes.{Appends, Consumes, IsAtEnd}
use Rattle.ddr_timing.specs.declared.config.Config.{Config}
use Rattle.ddr_trace_text.specs.declared.text.TraceError.TheVariants as error
use Rattle.ddr_trace.specs.Traces.{Recorded}
use Rattle.ddr_text.specs.declared.fault.Fault.{Fault}
use Rattle.ddr_text.specs.declared.fault.Fault.TheVariants as faults
use Rattle.ddr_text.specs.declared.input.TheConstants.{LONGEST_INPUT}
use Rattle.ddr_text.specs.Check.{HasCheckFault, RefusesTrace, SaysTrace}
use Rattle.ddr_draw.specs.declared.joined.Start.{Start}
use Rattle.ddr_draw.specs.declared.view.View.{View}
use Rattle.ddr_draw.specs.Drawn.{IsPictured, IsView}
use Rattle.ddr_draw.specs.Lanes.{picture_text}
use Rattle.ddr_draw.specs.Long.{HasLongFault, IsLong, SaysLong}

-- these are the first bytes of what a reader gave, and it gives no more, or they are too many for `check`
pub record IsStart (old : Option (List ℕ)) (start : Start) (new : Option (List ℕ)) : Type 0 where
  pub taken : Consumes old new start.bytes.items
  pub whole : start.is_whole ≡ true → IsAtEnd new
  pub long : start.is_whole ≡ false → LONGEST_INPUT < length start.bytes.items

-- the picture of the input's trace, in the cycles that are asked for
pub record IsShortText (sample : Bool) (profile input : List ℕ) (from to : Option ℕ) (text : List ℕ) : Type 0 where
  pub config : Config
  pub trace : Recorded
  pub says : SaysTrace sample profile input config (Ok trace)
  pub view : View
  pub shown : IsView from to trace.start trace.end view
  pub told : text ≡ picture_text config view trace.entries

-- the same of one of any length
pub record IsLongText (sample : Bool) (profile input : List ℕ) (from to : Option ℕ) (text : List ℕ) : Type 0 where
  pub config : Config
  pub trace : Recorded
  pub says : SaysLong sample profile input config (Ok trace)
  pub view : View
  pub shown : IsView from to trace.start trace.end view
  pub told : text ≡ picture_text config view trace.entries

abbrev pub IsPartText : Bool → List ℕ → List ℕ → Option ℕ → Option ℕ → List ℕ → Type 0
IsPartText sample profile input from to text =
    IsShortText sample profile input from to text ⊎ (IsLong sample profile input × IsLongText sample profile input from to text)

abbrev pub IsDrawnText : Bool → List ℕ → List ℕ → Option ℕ → Option ℕ → List ℕ → Type 0
IsDrawnText sample profile input None None text = IsShortText sample profile input None None text
IsDrawnText sample profile input from to text = IsPartText sample profile input from to text

-- of an input that `check` reads or refuses for another cause its fault, and of a longer one its own
abbrev pub HasPartFault : Bool → List ℕ → List ℕ → Fault → Type 0
HasPartFault sample profile input fault =
    ((fault ≢ faults.InputTooLong) × (fault ≢ faults.TraceTooLong) × HasCheckFault sample profile input fault)
    ⊎ (IsLong sample profile input × HasLongFault sample profile input fault)

-- a whole trace that is too long is told to be drawn in parts
abbrev pub HasWholeFault : Bool → List ℕ → List ℕ → Fault → Type 0
HasWholeFault sample profile input faults.DrawTooLong = RefusesTrace sample profile input error.TooLong
HasWholeFault sample profile input faults.TraceTooLong = ⊥
HasWholeFault sample profile input fault = HasCheckFault sample profile input fault

-- the fault that drawing a trace, or a part of it, ends by
abbrev pub HasDrawFault : Bool → List ℕ → List ℕ → Option ℕ → Option ℕ → Fault → Type 0
HasDrawFault sample profile input None None fault = HasWholeFault sample profile input fault
HasDrawFault sample profile input from to fault = HasPartFault sample profile input fault

-- the picture of a trace that `check` reads is written, and of a longer one where a part is asked for
abbrev pub AreLanes : Bool → List ℕ → List ℕ → Option ℕ → Option ℕ → Option (List ℕ) → Option (List ℕ) → Type 0
AreLanes sample profile input None None old new = IsPictured sample profile input None None old new
AreLanes sample profile input from to old new =
    IsPictured sample profile input from to old new
    ⊎ ((text : List ℕ) × IsLong sample profile input × IsLongText sample profile input from to text × Appends old new text)
