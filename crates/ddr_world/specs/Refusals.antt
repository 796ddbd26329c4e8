-- What the core makes of the causes for which a port prepares no request, and for which a channel makes no cycle.
use Rattle.ddr_channel.specs.declared.channel.CycleError.{CycleError}
use Rattle.ddr_channel.specs.declared.channel.CycleError.TheVariants as cycle_cause
use Rattle.ddr_ports.specs.declared.refusal.PortError.{PortError}
use Rattle.ddr_ports.specs.declared.refusal.PortError.TheVariants as cause
use Rattle.ddr_world.specs.declared.event.Refusal.{Refusal}
use Rattle.ddr_world.specs.declared.event.Refusal.TheVariants.{Finished, OutOfRange, EmptyLength, CrossesLine, Spent, WindowFull, ClockSpent, OutOfMemory}

abbrev pub refusal_from : PortError → Refusal
refusal_from cause.Finished = Finished
refusal_from cause.OutOfRange = OutOfRange
refusal_from cause.EmptyLength = EmptyLength
refusal_from cause.CrossesLine = CrossesLine
refusal_from cause.Spent = Spent
refusal_from cause.WindowFull = WindowFull

abbrev pub cycle_refusal_from : CycleError → Refusal
cycle_refusal_from cycle_cause.ClockSpent = ClockSpent
cycle_refusal_from cycle_cause.OutOfMemory = OutOfMemory
