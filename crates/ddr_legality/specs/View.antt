-- What the fields of a legality stand for.
use Rattle.std.specs.Prelude.{◌≡◌, ℕ, ◌+◌, ◌-◌, ◌^◌, ◌≤◌, true, false, if◌then◌else◌, List, [], length, vec_len, vec_capacity}
use Rattle.ddr_timing.specs.declared.units.TheConstants.{CLOCK_STOP}
use Rattle.ddr_trace.specs.declared.command.Entry.{Entry}
use Rattle.ddr_trace.specs.Legality.{IsLegal}
use Rattle.ddr_trace.specs.Rules.{last_cycle_below}
use Rattle.ddr_legality.specs.declared.legality.Legality.TheInside.{Inside}
use Rattle.ddr_legality.specs.BusReadiness.{HasIssued}
use Rattle.ddr_legality.specs.Kept.{Kept}

-- for how many entries there is room; where none is kept, for more than a clock lets come
abbrev pub spare_of : Inside → ℕ
spare_of a = if a.keeps then vec_capacity a.entries - vec_len a.entries else 2 ^ 63 - length a.past.items

-- no more commands than cycles
abbrev pub IsFew : List Entry → Type 0
IsFew history = (cycle : ℕ) → last_cycle_below history cycle ≡ true → length history ≤ cycle

abbrev pub kept_of : Inside → Kept
kept_of a = record {
  bus = record { config = a.issued.config; start = a.issued.start; now = a.now; trace = a.past.items };
  spare = spare_of a;
  keeps = a.keeps;
}

pub record IsWhole (a : Inside) : Type 0 where
  -- what is kept of the commands stands for the whole trace
  pub issued : HasIssued a.issued a.past.items
  pub legal : IsLegal a.issued.config a.issued.start (a.now + 1) a.past.items
  pub begun : a.issued.start ≤ a.now
  pub clock : a.now ≤ CLOCK_STOP
  pub few : IsFew a.past.items
  pub reach : last_cycle_below a.past.items (CLOCK_STOP + 1) ≡ true
  -- the whole trace is kept, or nothing
  pub kept : a.keeps ≡ true → a.entries.items ≡ a.past.items
  pub unkept : a.keeps ≡ false → a.entries.items ≡ []
