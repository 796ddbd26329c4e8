-- The command that C tells of.
use Rattle.std.specs.Prelude.{ℤ, ◌/◌, ◌==◌, nat_lt, if◌then◌else◌, Result, Ok, Err}
use Rattle.ddr_timing.specs.declared.units.TheConstants.{LINE_COLUMNS}
use Rattle.ddr_trace.specs.declared.command.Command.TheVariants as command
use Rattle.ddr_trace.specs.declared.command.Entry.{Entry}
use Rattle.ddr_bus.specs.declared.bus.BusCommand.{BusCommand}
use Rattle.ddr_bus.specs.declared.bus.TheConstants.{ACT, RD, WR, RDA, WRA, PRE, PREA, REF}
use Rattle.ddr_judge_c.specs.declared.bus.TheConstants.{KINDS}
use Rattle.ddr_judge_c.specs.declared.codes.TheConstants as code

-- the command that C tells of; one that the rules don't speak of is refused, and so is one that there is not
abbrev pub entry_of : BusCommand → Result Entry ℤ
entry_of b =
    if b.kind == ACT then Ok (record { cycle = b.cycle; command = command.Act b.rank b.group b.bank b.row })
    else if b.kind == RD then Ok (record { cycle = b.cycle; command = command.Rd b.rank b.group b.bank b.row (b.column / LINE_COLUMNS) })
    else if b.kind == WR then Ok (record { cycle = b.cycle; command = command.Wr b.rank b.group b.bank b.row (b.column / LINE_COLUMNS) })
    else if b.kind == RDA then Ok (record { cycle = b.cycle; command = command.RdAuto b.rank b.group b.bank b.row (b.column / LINE_COLUMNS) })
    else if b.kind == WRA then Ok (record { cycle = b.cycle; command = command.WrAuto b.rank b.group b.bank b.row (b.column / LINE_COLUMNS) })
    else if b.kind == PRE then Ok (record { cycle = b.cycle; command = command.Pre b.rank b.group b.bank })
    else if b.kind == PREA then Ok (record { cycle = b.cycle; command = command.PreAll b.rank })
    else if b.kind == REF then Ok (record { cycle = b.cycle; command = command.Refresh b.rank })
    else if nat_lt b.kind KINDS then Err code.NOT_JUDGED
    else Err code.NO_SUCH
