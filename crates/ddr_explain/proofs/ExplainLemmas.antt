-- What was written explains the verdict, or tells all faults.
use Rattle.std.proofs.Common.{◌≡◌, Bool, true, false, List, ℕ, Option, Some, None, Ok, IfSome, refl}
use Rattle.std.specs.Prelude.{◌↔◌, IsTrue, is_some, not}
use Rattle.std.specs.Io.KnownBytes.{Appends}
use Rattle.ddr_timing.specs.declared.config.Config.{Config}
use Rattle.ddr_trace.specs.declared.checker.Fault as checker
use Rattle.ddr_trace.specs.Traces.{Recorded}
use Rattle.ddr_text.specs.Check.{IsVerdict, SaysTrace}
use Rattle.ddr_explain.specs.AllChecked.{IsAllChecked}
use Rattle.ddr_explain.specs.Explained.{Explains, IsExplained}
use Rattle.ddr_explain.specs.Table.{TellsAll}

turned : (some legal : Bool) → some ≡ not legal → legal ≡ not some
turned some true e = rw e refl
turned some false e = rw e refl

pub trace_explained : (remaining : Option (List ℕ)) (profile : List ℕ) (sample : Bool) (config : Config) (trace : Recorded) (verdict : Option checker.Fault) (legal : Bool) (text : List ℕ) (old new : Option (List ℕ)) → IfSome remaining (λ input. SaysTrace sample profile input config (Ok trace)) → IsVerdict config trace verdict → Explains config trace verdict text → Appends old new text → is_some verdict ≡ not legal
    → IfSome remaining (λ input. IsExplained sample profile input legal old new)
trace_explained None profile sample config trace verdict legal text old new says first told written answered = tt
trace_explained (Some input) profile sample config trace verdict legal text old new says first told written answered = record {
  config = config;
  trace = trace;
  says = says;
  verdict = verdict;
  first = first;
  text = text;
  told = told;
  written = written;
  answered = turned (is_some verdict) legal answered;
}

pub trace_told : (remaining : Option (List ℕ)) (profile : List ℕ) (sample : Bool) (config : Config) (trace : Recorded) (most : Option ℕ) (legal : Bool) (text : List ℕ) (old new : Option (List ℕ)) → IfSome remaining (λ input. SaysTrace sample profile input config (Ok trace)) → TellsAll config trace.start trace.end trace.entries most text → Appends old new text → IsTrue legal ↔ IsVerdict config trace None
    → IfSome remaining (λ input. IsAllChecked sample profile input most legal old new)
trace_told None profile sample config trace most legal text old new says told written answered = tt
trace_told (Some input) profile sample config trace most legal text old new says told written answered = record {
  config = config;
  trace = trace;
  says = says;
  text = text;
  told = told;
  written = written;
  answered = answered;
}
