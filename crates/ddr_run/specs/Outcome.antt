-- What a run in threads prints once all threads ended.
use Rattle.std.specs.Prelude.{ℕ, ◌+◌, Bool, true, ◌&&◌, List, [], ◌∷◌, ◌++◌, flat_map, codes, Option, is_none, string_bytes}
use Rattle.std.specs.Fmt.{decimal}
use Rattle.ddr_timing.specs.declared.config.Config.{Config}
use Rattle.ddr_trace.specs.declared.checker.Fault as checker
use Rattle.ddr_trace.specs.Traces.{Recorded}
use Rattle.ddr_run.specs.declared.hosting.Hosted.{Hosted}
use Rattle.ddr_text.specs.Check.{IsVerdict, verdict_text}

-- the replies of the ports, one port behind the other
abbrev pub texts_of : List Hosted → List ℕ
texts_of hosted = flat_map (λ h. string_bytes h.text) hosted

-- the line of a channel
abbrev pub channel_line : ℕ → Option checker.Fault → List ℕ
channel_line channel verdict = codes "channel " ++ (decimal channel ++ (codes " " ++ verdict_text verdict))

-- those of the channels from this one on, with these first faults
abbrev pub channel_lines : ℕ → List (Option checker.Fault) → List ℕ
channel_lines channel [] = []
channel_lines channel (fault ∷ faults) = channel_line channel fault ++ channel_lines (channel + 1) faults

-- no channel has a fault
abbrev pub are_legal : List (Option checker.Fault) → Bool
are_legal [] = true
are_legal (fault ∷ faults) = is_none fault && are_legal faults

-- The text has the line of each trace, of the channels from this one on, with a first fault of the trace where it has one;
-- and it is told whether none has.
pub data AreVerdicts (config : Config) : ℕ → List Recorded → List ℕ → Bool → Type 0 where
  none : (channel : ℕ) → AreVerdicts config channel [] [] true
  more : (channel : ℕ) (trace : Recorded) (traces : List Recorded) (verdict : Option checker.Fault) (text : List ℕ) (legal : Bool) → IsVerdict config trace verdict
      → AreVerdicts config (channel + 1) traces text legal → AreVerdicts config channel (trace ∷ traces) (channel_line channel verdict ++ text) (is_none verdict && legal)
