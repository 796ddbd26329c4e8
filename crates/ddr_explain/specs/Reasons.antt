-- Why a trace breaks a rule at a place.
use Rattle.std.specs.Prelude.{◌≡◌, ℕ, List, length, take, slice_get, MatchOption}
use Rattle.ddr_timing.specs.declared.config.Config.{Config}
use Rattle.ddr_trace.specs.declared.command.Entry.{Entry}
use Rattle.ddr_trace.specs.declared.rule.Rule.{Rule}
use Rattle.ddr_trace.specs.Traces.{Recorded}
use Rattle.ddr_evidence.specs.declared.evidence.Evidence.{Evidence}
use Rattle.ddr_evidence.specs.Evidence.{IsEvidence, IsLateAtEnd}
use Rattle.ddr_explain.specs.Sentences.{end_late_text, sentence_text}

-- the sentence is that of evidence that the entry at the place breaks the rule behind its history
pub record IsEntryReason (c : Config) (start end : ℕ) (r : Rule) (history : List Entry) (place : ℕ) (text : List ℕ) (e : Entry) : Type 0 where
  pub evidence : Evidence
  pub rests : IsEvidence c start end r history e evidence
  pub told : text ≡ sentence_text c start end r place e evidence

-- or that the trace's end breaks REF_LATE
pub record IsEndReason (c : Config) (start end : ℕ) (entries : List Entry) (text : List ℕ) : Type 0 where
  pub rank : ℕ
  pub refreshes : ℕ
  pub due : ℕ
  pub rests : IsLateAtEnd c start end entries rank refreshes due
  pub told : text ≡ end_late_text c.timing start end (length entries) rank refreshes due

abbrev pub IsReason : Config → Recorded → ℕ → Rule → List ℕ → Type 0
IsReason c trace place r text =
    MatchOption (slice_get trace.entries place) (IsEndReason c trace.start trace.end trace.entries text)
    (IsEntryReason c trace.start trace.end r (take place trace.entries) place text)
