-- What a broken rule rests on, in C's form.
use Rattle.std.specs.Prelude.{ℕ, ◌*◌, Option, Some, None}
use Rattle.ddr_timing.specs.declared.timing.Timing.{Timing}
use Rattle.ddr_trace.specs.declared.command.Entry.{Entry}
use Rattle.ddr_trace.specs.Names.{number_of}
use Rattle.ddr_evidence.specs.declared.evidence.Evidence.{Evidence}
use Rattle.ddr_evidence.specs.declared.evidence.Evidence.TheVariants as evidence
use Rattle.ddr_evidence.specs.declared.evidence.Placed.{Placed}
use Rattle.ddr_watch.specs.declared.told.Told.{Told}
use Rattle.ddr_bus.specs.declared.bus.BusCommand.{BusCommand}
use Rattle.ddr_bus.specs.declared.bus.TheConstants.{UNNAMED}
use Rattle.ddr_judge_c.specs.declared.fault.Basis.{Basis}
use Rattle.ddr_judge_c.specs.declared.fault.Fault.{Fault}
use Rattle.ddr_judge_c.specs.declared.fault.TheConstants as basis
use Rattle.ddr_bus.specs.Bus.{bus_command}

abbrev pub resting : ℕ → Option Placed → ℕ → ℕ → Basis
resting number earlier found wanted = record { number = number; earlier = earlier; found = found; wanted = wanted }

-- the earlier command, what was found and what was wanted
abbrev pub basis_of : Timing → Option Evidence → Basis
basis_of t None = resting basis.NOT_KEPT None 0 0
basis_of t (Some (evidence.TooClose earlier distance least)) = resting basis.TOO_CLOSE (Some earlier) distance least
basis_of t (Some (evidence.TooCloseToStart earlier distance least)) = resting basis.TOO_CLOSE_TO_START (Some earlier) distance least
basis_of t (Some (evidence.Bank group bank opened changed)) = resting basis.BANK changed 0 0
basis_of t (Some (evidence.NotAbove earlier)) = resting basis.NOT_ABOVE (Some earlier) 0 0
basis_of t (Some evidence.BeforeStart) = resting basis.BEFORE_START None 0 0
basis_of t (Some evidence.NotBeforeEnd) = resting basis.NOT_BEFORE_END None 0 0
basis_of t (Some (evidence.Outside part number bound)) = resting basis.OUTSIDE None number bound
basis_of t (Some (evidence.TooFar earlier distance)) = resting basis.TOO_FAR (Some earlier) distance (9 * t.refi)
basis_of t (Some (evidence.Late refreshes due)) = resting basis.LATE None refreshes due

abbrev pub earlier_of : Option Placed → BusCommand
earlier_of None = record { cycle = 0; kind = UNNAMED; rank = UNNAMED; group = UNNAMED; bank = UNNAMED; row = UNNAMED; column = UNNAMED }
earlier_of (Some p) = bus_command p.entry

abbrev pub place_of : Option Placed → ℕ
place_of None = 0
place_of (Some p) = p.place

abbrev pub fault_of : Timing → Entry → Told → Fault
fault_of t e told = record {
  place = told.place;
  cycle = e.cycle;
  rule = number_of told.rule;
  basis = (basis_of t told.evidence).number;
  earlier = earlier_of (basis_of t told.evidence).earlier;
  earlier_place = place_of (basis_of t told.evidence).earlier;
  found = (basis_of t told.evidence).found;
  wanted = (basis_of t told.evidence).wanted;
}
