-- What the command `check --explain` writes.
use Rattle.std.specs.Prelude.{◌≡◌, ℕ, Bool, List, [], ◌++◌, Option, Some, None, is_none, Ok}
use Rattle.std.specs.Io.KnownBytes.{Appends}
use Rattle.ddr_timing.specs.declared.config.Config.{Config}
use Rattle.ddr_trace.specs.declared.checker.Fault as checker
use Rattle.ddr_trace.specs.Traces.{Recorded}
use Rattle.ddr_text.specs.Check.{IsVerdict, SaysTrace, verdict_text}
use Rattle.ddr_explain.specs.Reasons.{IsReason}

-- what stands behind a verdict: nothing of a trace without a fault, else why the first fault is one
abbrev pub IsExplanation : Config → Recorded → Option checker.Fault → List ℕ → Type 0
IsExplanation c trace None text = text ≡ []
IsExplanation c trace (Some fault) text = IsReason c trace fault.place fault.rule text

-- the verdict's line, and the explanation behind it
pub record Explains (c : Config) (trace : Recorded) (verdict : Option checker.Fault) (text : List ℕ) : Type 0 where
  pub reason : List ℕ
  pub explained : IsExplanation c trace verdict reason
  pub whole : text ≡ verdict_text verdict ++ reason

-- what `check --explain` writes and answers where it doesn't fail
pub record IsExplained (sample : Bool) (profile input : List ℕ) (legal : Bool) (old new : Option (List ℕ)) : Type 0 where
  pub config : Config
  pub trace : Recorded
  pub says : SaysTrace sample profile input config (Ok trace)
  pub verdict : Option checker.Fault
  pub first : IsVerdict config trace verdict
  pub text : List ℕ
  pub told : Explains config trace verdict text
  pub written : Appends old new text
  pub answered : legal ≡ is_none verdict
