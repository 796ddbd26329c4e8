-- The REFs that were counted, and the rules on refresh.
use Rattle.std.specs.Prelude.{◌≡◌, ℕ, ◌+◌, ◌-◌, ◌*◌, ◌^◌, Bool, false, ◌&&◌, nat_lt, min, if◌then◌else◌, List, Option, Some, None}
use Rattle.ddr_timing.specs.declared.timing.Timing.{Timing}
use Rattle.ddr_trace.specs.declared.command.Command.TheVariants.{Refresh}
use Rattle.ddr_trace.specs.declared.command.Entry.{Entry}
use Rattle.ddr_trace.specs.declared.rule.Rule.{Rule}
use Rattle.ddr_trace.specs.declared.rule.Rule.TheVariants as rule
use Rattle.ddr_trace.specs.Commands.{is_refresh, rank_of}
use Rattle.ddr_trace.specs.Rules.{breaks_ref_gap, breaks_ref_late, refresh_count}
use Rattle.ddr_legality.specs.declared.refreshes.Refreshes.{Refreshes}

-- the rule on refresh that the entry breaks, REF_LATE before REF_GAP
abbrev pub refresh_broken : Timing → ℕ → List Entry → Entry → Option Rule
refresh_broken t start history e =
    if breaks_ref_late t start history e then Some rule.RefLate
    else if breaks_ref_gap t history e then Some rule.RefGap
    else None

-- the cycle stands too far behind the last REF
abbrev pub breaks_gap : Timing → Option ℕ → ℕ → Bool
breaks_gap t None cycle = false
breaks_gap t (Some last) cycle = nat_lt (last + 9 * t.refi) cycle

-- the most REFs that are counted: no trace lasts to the deadline of the REF behind these
abbrev pub MOST_COUNTED : ℕ
MOST_COUNTED = 2 ^ 64 - 1

-- the rank's REFs in the history are counted, and the last one tells REF_GAP of the next
pub record HasCounted (rank : ℕ) (r : Refreshes) (history : List Entry) : Type 0 where
  pub count : r.count ≡ min (refresh_count history (Refresh rank)) MOST_COUNTED
  pub gap : (t : Timing) (e : Entry) → rank_of e.command ≡ rank → breaks_ref_gap t history e ≡ (is_refresh e.command && breaks_gap t r.last e.cycle)
