-- What is told where the bound is asked for.
use Rattle.std.proofs.Common.{◌≡◌, ℕ, Bool, true, false, List, Option, None, Some, Result, Ok, Err, IfOk, IfSome, sym, ap, subst, ◌∙◌, inl}
use Rattle.std.specs.Io.KnownBytes.{Appends}
use Rattle.std.proofs.lemmas.Bool.{false≢true}
use Rattle.std.proofs.lemmas.Result.{IfOk-weaker}
use Rattle.toml.specs.Data.{Members}
use Rattle.toml.specs.Parse.{parse_document}
use Rattle.ddr_timing.specs.declared.config.Config.{Config}
use Rattle.ddr_timing.specs.Values.{IsReadAs}
use Rattle.ddr_text.specs.Input.{IsText}
use Rattle.ddr_text.specs.declared.fault.Fault.{Fault}
use Rattle.ddr_lint.specs.declared.verdict.Verdict.{Verdict}
use Rattle.ddr_lint.specs.Bound.{IsBounded, IsTold, bound_verdict}
use Rattle.ddr_lint.specs.BoundText.{bound_text}
use Rattle.ddr_lint.specs.Lint.{configuration_of}

-- the bound of an accepted text
pub bound_told : (parsed : Option Members) (config : Config) (r : Result Verdict Fault) (old new : Option (List ℕ)) → IsReadAs parsed config → IfOk r (λ _. Appends old new (bound_text config)) → IfOk r (λ verdict. verdict ≡ bound_verdict config) → IfOk r (λ verdict. IsTold parsed verdict old new)
bound_told parsed config (Ok verdict) old new read written answered = record { either = inl (config, record { read = read; written = written; answered = answered }) }
bound_told parsed config (Err fault) old new read written answered = tt

-- the bound of the sample, whatever the input
pub sample_bounded : (remaining : Option (List ℕ)) (sample : Bool) (profile : List ℕ) (r : Result Verdict Fault) (old new : Option (List ℕ)) → sample ≡ true → IfOk r (λ verdict. IsTold (parse_document profile) verdict old new) → IfOk r (λ verdict. IfSome remaining (λ input. IsBounded sample profile input verdict old new))
sample_bounded None sample profile r old new is told = IfOk-weaker r _ _ (λ verdict h. tt) told
sample_bounded (Some input) true profile r old new is told = IfOk-weaker r _ _ (λ verdict h. record { text = λ other. absurd (false≢true (sym other)); told = h }) told
sample_bounded (Some input) false profile r old new is told = absurd (false≢true is)

-- the bound of an input's configuration
pub input_bounded : (remaining : Option (List ℕ)) (sample : Bool) (profile items text : List ℕ) (r : Result Verdict Fault) (old new : Option (List ℕ)) → sample ≡ false → IfSome remaining (λ input. items ≡ input) → IsText items → text ≡ configuration_of items → IfOk r (λ verdict. IsTold (parse_document text) verdict old new)
    → IfOk r (λ verdict. IfSome remaining (λ input. IsBounded sample profile input verdict old new))
input_bounded None sample profile items text r old new is all valid front told = IfOk-weaker r _ _ (λ verdict h. tt) told
input_bounded (Some input) true profile items text r old new is all valid front told = absurd (false≢true (sym is))
input_bounded (Some input) false profile items text r old new is all valid front told =
    IfOk-weaker r _ _ (λ verdict h. record {
      text = λ same. subst IsText all valid;
      told = subst (λ t. IsTold (parse_document t) verdict old new) (front ∙ ap configuration_of all) h;
    }) told
