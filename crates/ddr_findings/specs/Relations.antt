-- Which relations among the values are broken, each with the numbers of both sides.
use Rattle.std.specs.Prelude.{ℕ, ◌+◌, ◌-◌, max, List, [], ◌∷◌, Bool, true, ◌&&◌, not, get_or, Option, Some, None, if◌then◌else◌}
use Rattle.toml.specs.Data.{Members}
use Rattle.ddr_timing.specs.declared.key.Key.{Key}
use Rattle.ddr_timing.specs.declared.key.Key.TheVariants as keys
use Rattle.ddr_timing.specs.Refusals.{relations}
use Rattle.ddr_timing.specs.Tables.{number_of}
use Rattle.ddr_timing.specs.declared.units.TheConstants.{BURST_CLOCKS}
use Rattle.ddr_findings.specs.declared.relation.RefreshClocks.{RefreshClocks}
use Rattle.ddr_findings.specs.declared.relation.Relation.{Relation}
use Rattle.ddr_findings.specs.declared.relation.Relation.TheVariants.{BurstsPass, ColumnsOfAGroup, ActivatesOfAGroup, BusTurns, RefreshFits, MarksApart, MarkReached}
use Rattle.ddr_findings.specs.Sound.{are_sound}

-- the relation of this number, counted from 1, does not hold among the values
abbrev pub is_broken : Members → ℕ → Bool
is_broken table n = not (get_or (relations table) (n - 1) true)

-- the relation is told where all keys that it speaks of are sound, and it is broken
abbrev pub told_where : Members → List Key → ℕ → Relation → Option Relation
told_where table keys n relation = if are_sound table keys && is_broken table n then Some relation else None

abbrev pub bursts_pass : Members → Option Relation
bursts_pass table = told_where table (keys.CcdS ∷ []) 1 (BurstsPass (number_of table keys.CcdS))

abbrev pub columns_of_a_group : Members → Option Relation
columns_of_a_group table =
    told_where table (keys.CcdL ∷ keys.CcdS ∷ []) 2 (ColumnsOfAGroup (number_of table keys.CcdL) (number_of table keys.CcdS))

abbrev pub activates_of_a_group : Members → Option Relation
activates_of_a_group table =
    told_where table (keys.RrdL ∷ keys.RrdS ∷ []) 3 (ActivatesOfAGroup (number_of table keys.RrdL) (number_of table keys.RrdS))

abbrev pub bus_turns : Members → Option Relation
bus_turns table =
    told_where table (keys.Cl ∷ keys.Cwl ∷ keys.Rtw ∷ []) 4
    (BusTurns (number_of table keys.Cl) (number_of table keys.Cwl) (number_of table keys.Rtw))

-- the clocks that relation 5 speaks of
abbrev pub clocks_of : Members → RefreshClocks
clocks_of table = record {
  ras = number_of table keys.Ras;
  cwl = number_of table keys.Cwl;
  wr = number_of table keys.Wr;
  rtp = number_of table keys.Rtp;
  rp = number_of table keys.Rp;
  rfc = number_of table keys.Rfc;
  refi = number_of table keys.Refi;
}

abbrev pub refresh_fits : Members → Option Relation
refresh_fits table =
    told_where table (keys.Ras ∷ keys.Cwl ∷ keys.Wr ∷ keys.Rtp ∷ keys.Rp ∷ keys.Rfc ∷ keys.Refi ∷ []) 5
    (RefreshFits (clocks_of table))

abbrev pub marks_apart : Members → Option Relation
marks_apart table =
    told_where table (keys.Low ∷ keys.High ∷ []) 6 (MarksApart (number_of table keys.Low) (number_of table keys.High))

abbrev pub mark_reached : Members → Option Relation
mark_reached table =
    told_where table (keys.High ∷ keys.Writes ∷ []) 7 (MarkReached (number_of table keys.High) (number_of table keys.Writes))

-- the left side of relation 5
abbrev pub least_interval : RefreshClocks → ℕ
least_interval c = max (max (max c.ras (c.cwl + BURST_CLOCKS + c.wr)) c.rtp + c.rp) c.rfc + 4

-- each relation, where it is told, in their order
abbrev pub told_relations : Members → List (Option Relation)
told_relations table =
    bursts_pass table ∷ columns_of_a_group table ∷ activates_of_a_group table ∷ bus_turns table ∷ refresh_fits table
    ∷ marks_apart table ∷ mark_reached table ∷ []
