-- What the commands that draw write.
use Rattle.std.specs.Prelude.{◌≡◌, Bool, ℕ, List, Option, Ok}
use Rattle.std.specs.Io.KnownBytes.{Appends}
use Rattle.ddr_timing.specs.declared.config.Config.{Config}
use Rattle.ddr_trace.specs.Traces.{Recorded}
use Rattle.ddr_text.specs.Check.{SaysTrace}
use Rattle.ddr_draw.specs.declared.view.View.{View}
use Rattle.ddr_draw.specs.Lanes.{picture_text}
use Rattle.ddr_draw.specs.Scale.{end_shown, first_shown}
use Rattle.ddr_draw.specs.Waves.{waves_text}

-- the input is a trace, whose value change dump is written
pub record IsDumped (sample : Bool) (profile input : List ℕ) (old new : Option (List ℕ)) : Type 0 where
  pub config : Config
  pub trace : Recorded
  pub says : SaysTrace sample profile input config (Ok trace)
  pub written : Appends old new (waves_text config trace.start trace.end trace.entries)

-- the view is of the cycles that are asked for, from the one up to the other, and of the trace's where none are
pub record IsView (from to : Option ℕ) (start end : ℕ) (v : View) : Type 0 where
  pub first : v.from ≡ first_shown start from
  pub last : v.to ≡ end_shown v.from end to

-- the input is a trace, of which the picture is written
pub record IsPictured (sample : Bool) (profile input : List ℕ) (from to : Option ℕ) (old new : Option (List ℕ)) : Type 0 where
  pub config : Config
  pub trace : Recorded
  pub says : SaysTrace sample profile input config (Ok trace)
  pub view : View
  pub shown : IsView from to trace.start trace.end view
  pub written : Appends old new (picture_text config view trace.entries)
