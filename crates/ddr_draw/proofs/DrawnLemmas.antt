-- What is written is the dump of the input's trace.
use Rattle.std.proofs.Common.{◌≡◌, ℕ, Bool, List, Option, Some, None, Ok, subst}
use Rattle.std.specs.Prelude.{IfSome}
use Rattle.std.specs.Io.KnownBytes.{Appends}
use Rattle.ddr_timing.specs.declared.config.Config.{Config}
use Rattle.ddr_trace.specs.Traces.{Recorded}
use Rattle.ddr_text.specs.Check.{SaysTrace}
use Rattle.ddr_draw.specs.Drawn.{IsDumped}
use Rattle.ddr_draw.specs.Waves.{waves_text}

pub dumped : (remaining : Option (List ℕ)) (profile : List ℕ) (sample : Bool) (config : Config) (trace : Recorded) (text : List ℕ) (old new : Option (List ℕ)) → IfSome remaining (λ input. SaysTrace sample profile input config (Ok trace))
    → text ≡ waves_text config trace.start trace.end trace.entries → Appends old new text → IfSome remaining (λ input. IsDumped sample profile input old new)
dumped None profile sample config trace text old new says told written = tt
dumped (Some input) profile sample config trace text old new says told written = record {
  config = config;
  trace = trace;
  says = says;
  written = subst (Appends old new) told written;
}
