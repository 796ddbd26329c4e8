-- What the command `check --all` writes.
use Rattle.std.specs.Prelude.{◌↔◌, Bool, ℕ, List, Option, None, Ok, IsTrue}
use Rattle.std.specs.Io.KnownBytes.{Appends}
use Rattle.ddr_timing.specs.declared.config.Config.{Config}
use Rattle.ddr_trace.specs.Traces.{Recorded}
use Rattle.ddr_text.specs.Check.{IsVerdict, SaysTrace}
use Rattle.ddr_explain.specs.Table.{TellsAll}

-- what `check --all` writes and answers where it doesn't fail; it answers what `check` does
pub record IsAllChecked (sample : Bool) (profile input : List ℕ) (most : Option ℕ) (legal : Bool) (old new : Option (List ℕ)) : Type 0 where
  pub config : Config
  pub trace : Recorded
  pub says : SaysTrace sample profile input config (Ok trace)
  pub text : List ℕ
  pub told : TellsAll config trace.start trace.end trace.entries most text
  pub written : Appends old new text
  pub answered : IsTrue legal ↔ IsVerdict config trace None
