-- What was read says what is told.
use Rattle.std.proofs.Common.{◌≡◌, ℕ, Bool, true, false, List, [], Option, Some, None, Ok, IfSome, inl, inr, refl}
use Rattle.std.specs.Io.KnownBytes.{prepend_known}
use Rattle.ddr_timing.specs.declared.config.Config.{Config}
use Rattle.ddr_judge.specs.declared.fault.Fault as judged
use Rattle.ddr_text.specs.Body.{parts_of}
use Rattle.ddr_text.specs.Sink.{write_fault}
use Rattle.ddr_text.specs.declared.fault.Fault.{Fault}
use Rattle.ddr_text.specs.declared.fault.Fault.TheVariants as faults
use Rattle.ddr_text.proofs.BodyLemmas.{not_of_parts}
use Rattle.ddr_capture.specs.Capture.{AreJudged, HasCaptureFault}
use Rattle.ddr_capture.specs.Captured.{Read, captured, end_in}
use Rattle.ddr_capture.specs.Feed.{Along}
use Rattle.ddr_capture.specs.Form.{is_missing}
use Rattle.ddr_capture.specs.Front.{ComesFirst, IsConfigRefused, IsOpened}
use Rattle.ddr_capture.specs.Lines.{IsReadFault}
use Rattle.ddr_capture.specs.Report.{AreVerdicts, first_told, told_channels}
use Rattle.ddr_capture.specs.declared.form.Form.{Form}
use Rattle.ddr_capture.proofs.FrontLemmas.{behind_front}
use Rattle.ddr_capture.proofs.LineLemmas.{missing_said}

-- nothing waits yet
pub nothing_waits : (waits : List ℕ) (m : Option (List ℕ)) → waits ≡ [] → prepend_known waits m ≡ m
nothing_waits waits None none = refl
nothing_waits waits (Some xs) none = rw none refl

module _ (sample : Bool) (profile : List ℕ) (form : Form) (start : ℕ) where
  config_fault : (input : List ℕ) (fault : Fault) → IsConfigRefused sample profile input fault → HasCaptureFault sample profile form start input fault
  config_fault input (faults.CaptureLine line cause) refused = not_of_parts (parts_of sample profile input) (faults.CaptureLine line cause) refused refl
  config_fault input (faults.CaptureOrder line) refused = not_of_parts (parts_of sample profile input) (faults.CaptureOrder line) refused refl
  config_fault input faults.TraceNoSuch refused = not_of_parts (parts_of sample profile input) faults.TraceNoSuch refused refl
  config_fault input faults.Write refused = not_of_parts (parts_of sample profile input) faults.Write refused refl
  config_fault input faults.InputTooLong refused = inl refused
  config_fault input _ refused = refused

  -- the configuration is at fault
  pub front_fault_said : (a : Option (List ℕ)) (fault : Fault) → IfSome a (λ input. IsConfigRefused sample profile input fault) → IfSome a (λ input. HasCaptureFault sample profile form start input fault)
  front_fault_said None fault refused = tt
  front_fault_said (Some input) fault refused = config_fault input fault refused

  -- the one channel is not there
  pub missing_fault_said : (a b : Option (List ℕ)) (config : Config) → Along (IsOpened sample profile config) a b → is_missing form config.geometry.channels ≡ true → IfSome a (λ input. HasCaptureFault sample profile form start input faults.TraceNoSuch)
  missing_fault_said None b config opened missing = tt
  missing_fault_said (Some input) None config opened missing = absurd opened
  missing_fault_said (Some input) (Some body) config opened missing = (config, record { body = body; opened = opened; read = missing_said form config start body missing })

  body_fault : (config : Config) (input body : List ℕ) (fault : Fault) → IsOpened sample profile config input body → IsReadFault form config start body fault → HasCaptureFault sample profile form start input fault
  body_fault config input body (faults.CaptureLine line cause) opened said = (config, record { body = body; opened = opened; read = said })
  body_fault config input body (faults.CaptureOrder line) opened said = (config, record { body = body; opened = opened; read = said })
  body_fault config input body faults.InputTooLong opened said = inr (config, body, opened, said)
  body_fault config input body faults.Read opened said = tt
  body_fault config input body faults.OutOfMemory opened said = tt
  body_fault config input body _ opened said = absurd said

  -- the body is at fault
  pub body_fault_said : (a b : Option (List ℕ)) (config : Config) (fault : Fault) → Along (IsOpened sample profile config) a b → IfSome b (λ body. IsReadFault form config start body fault) → IfSome a (λ input. HasCaptureFault sample profile form start input fault)
  body_fault_said None b config fault opened said = tt
  body_fault_said (Some input) None config fault opened said = absurd opened
  body_fault_said (Some input) (Some body) config fault opened said = body_fault config input body fault opened said

  -- the verdicts are those on what the body says
  pub judged_said : (a b : Option (List ℕ)) (config : Config) (read : Read) (verdicts : List (Option judged.Fault)) → Along (IsOpened sample profile config) a b → IfSome b (λ body. captured form config start body ≡ Ok read)
      → AreVerdicts config start (end_in start read) read.records (first_told form) (told_channels form config.geometry.channels) verdicts → IfSome a (λ input. AreJudged sample profile form start input verdicts)
  judged_said None b config read verdicts opened said are = tt
  judged_said (Some input) None config read verdicts opened said are = absurd opened
  judged_said (Some input) (Some body) config read verdicts opened said are = record {
    config = config;
    read = read;
    says = record { body = body; opened = opened; read = said };
    each = are;
  }

  -- verdicts that were not written
  pub verdicts_unwritten : (a : Option (List ℕ)) (verdicts : List (Option judged.Fault)) (may_fail : Bool) (fault : Fault) → fault ≡ write_fault may_fail → IfSome a (λ input. AreJudged sample profile form start input verdicts)
      → IfSome a (λ input. HasCaptureFault sample profile form start input fault)
  verdicts_unwritten None verdicts may_fail fault e are = tt
  verdicts_unwritten (Some input) verdicts true fault e are = rw e (are.config, are.read, are.says)
  verdicts_unwritten (Some input) verdicts false fault e are = rw e tt

  -- and whose configuration was read
  pub judged_first : (a : Option (List ℕ)) (verdicts : List (Option judged.Fault)) (fault : Fault) → IfSome a (λ input. AreJudged sample profile form start input verdicts)
      → IfSome a (λ input. ComesFirst sample input fault)
  judged_first None verdicts fault are = tt
  judged_first (Some input) verdicts fault are = behind_front sample input fault are.says.opened.front
