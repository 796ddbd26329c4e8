-- What the command `lint --bound` writes and answers.
use Rattle.std.specs.Prelude.{◌≡◌, ℕ, Bool, false, ◌⊎◌, List, Option, IsTrue, is_some, if◌then◌else◌}
use Rattle.std.specs.Io.KnownBytes.{Appends}
use Rattle.toml.specs.Data.{Members}
use Rattle.toml.specs.Parse.{parse_document}
use Rattle.ddr_timing.specs.declared.config.Config.{Config}
use Rattle.ddr_timing.specs.Refusals.{refusal_of}
use Rattle.ddr_timing.specs.Values.{IsReadAs}
use Rattle.ddr_latency.specs.Bound.{leaves_room}
use Rattle.ddr_text.specs.Input.{IsText}
use Rattle.ddr_lint.specs.BoundText.{bound_text}
use Rattle.ddr_lint.specs.Lint.{looked_through, report_of, verdict_on}
use Rattle.ddr_lint.specs.declared.verdict.Verdict.{Verdict}
use Rattle.ddr_lint.specs.declared.verdict.Verdict.TheVariants.{Clean, Strange}

-- strange where no bound is proved
abbrev pub bound_verdict : Config → Verdict
bound_verdict c = if leaves_room c then Clean else Strange

-- the bound of this configuration, which is the text's
pub record IsBoundOf (parsed : Option Members) (config : Config) (verdict : Verdict) (old new : Option (List ℕ)) : Type 0 where
  pub read : IsReadAs parsed config
  pub written : Appends old new (bound_text config)
  pub answered : verdict ≡ bound_verdict config

-- no bound, since the text is refused, but what `lint` writes of it
pub record IsRefused (parsed : Option Members) (verdict : Verdict) (old new : Option (List ℕ)) : Type 0 where
  pub refused : IsTrue (is_some (refusal_of parsed))
  pub written : Appends old new (report_of parsed)
  pub answered : verdict ≡ verdict_on parsed

-- what is written of a text that is this table, or none
pub record IsTold (parsed : Option Members) (verdict : Verdict) (old new : Option (List ℕ)) : Type 0 where
  pub either : ((config : Config) × IsBoundOf parsed config verdict old new) ⊎ IsRefused parsed verdict old new

-- what a lint that is asked for the bound and does not fail writes and answers
pub record IsBounded (sample : Bool) (profile input : List ℕ) (verdict : Verdict) (old new : Option (List ℕ)) : Type 0 where
  pub text : sample ≡ false → IsText input
  pub told : IsTold (parse_document (looked_through sample profile input)) verdict old new
