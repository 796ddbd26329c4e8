-- What a port makes of the causes for which no number is issued.
use Rattle.ddr_reorder.specs.declared.refusal.ReorderError.{ReorderError}
use Rattle.ddr_reorder.specs.declared.refusal.ReorderError.TheVariants as cause
use Rattle.ddr_ports.specs.declared.refusal.PortError.{PortError}
use Rattle.ddr_ports.specs.declared.refusal.PortError.TheVariants.{Spent, WindowFull}

abbrev pub refusal_from : ReorderError → PortError
refusal_from cause.Spent = Spent
refusal_from cause.WindowFull = WindowFull
