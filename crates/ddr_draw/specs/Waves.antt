-- The changes of a trace as a value change dump (IEEE 1364, "Value change dump (VCD) files"), with strings as values, which are GTKWave's
-- extension of it.
use Rattle.std.specs.Prelude.{ℕ, nat_lt, max, if◌then◌else◌, List, [], ◌∷◌, ◌++◌, flat_map, codes}
use Rattle.std.specs.List.{range_with_len}
use Rattle.std.specs.Fmt.{decimal}
use Rattle.ddr_timing.specs.declared.config.Config.{Config}
use Rattle.ddr_timing.specs.declared.geometry.Geometry.{Geometry}
use Rattle.ddr_timing.specs.Banks.{bank_count}
use Rattle.ddr_trace.specs.declared.command.Entry.{Entry}
use Rattle.ddr_trace.specs.Commands.{is_read, row_of}
use Rattle.ddr_draw.specs.declared.change.Change.{Change}
use Rattle.ddr_draw.specs.declared.change.Shown.{Shown}
use Rattle.ddr_draw.specs.declared.change.Shown.TheVariants.{Named, Quiet, Burst, Free, Open, Idle, End}
use Rattle.ddr_draw.specs.Changes.{all_changes}
use Rattle.ddr_draw.specs.Names.{bank_numbered, name_of_bank}
use Rattle.ddr_draw.specs.Order.{in_order}
use Rattle.ddr_trace.specs.Names.{command_name}

-- something of each bank
abbrev pub each_bank : Geometry → (List ℕ → List ℕ) → List ℕ
each_bank g text = flat_map (λ n. text (bank_numbered g n)) (range_with_len 0 (bank_count g))

-- a bank's variable, which is called by its name; and its first value
unfoldable pub declared_bank : List ℕ → List ℕ
declared_bank name = codes "$var string 1 " ++ (name ++ (codes " " ++ (name ++ codes " $end\n")))

unfoldable pub idle_line : List ℕ → List ℕ
idle_line name = codes "sidle " ++ (name ++ codes "\n")

abbrev pub head : List ℕ
head = codes "$comment One unit of time is one clock of the memory. $end\n$timescale 1 ns $end\n$scope module ddr $end\n$var string 1 command command $end\n$var string 1 data data $end\n"

-- the variables, and their values in the first cycle
unfoldable pub declarations : Geometry → ℕ → List ℕ
declarations g start =
    head ++ (each_bank g declared_bank ++ (codes "$upscope $end\n$enddefinitions $end\n#" ++ (decimal start
    ++ (codes "\n$dumpvars\ns- command\ns- data\n" ++ (each_bank g idle_line ++ codes "$end\n")))))

-- the line of a change
unfoldable pub change_line : Shown → List ℕ
change_line (Named command) = codes "s" ++ (command_name command ++ codes " command\n")
change_line Quiet = codes "s- command\n"
change_line (Burst command) = codes "s" ++ ((if is_read command then codes "RD_" else codes "WR_") ++ (name_of_bank command ++ codes " data\n"))
change_line Free = codes "s- data\n"
change_line (Open command) = codes "srow_" ++ (decimal (row_of command) ++ (codes " " ++ (name_of_bank command ++ codes "\n")))
change_line (Idle command) = idle_line (name_of_bank command)
change_line End = []

-- a cycle is told where it is later than the last that was told
unfoldable pub time_line : ℕ → ℕ → List ℕ
time_line last cycle = if nat_lt last cycle then codes "#" ++ (decimal cycle ++ codes "\n") else []

-- the changes, each cycle told before its first one
abbrev pub dump_from : ℕ → List Change → List ℕ
dump_from last [] = []
dump_from last (a ∷ rest) = time_line last a.cycle ++ (change_line a.shown ++ dump_from (max last a.cycle) rest)

-- the whole dump; what a trace at fault changes before its start is told in the first cycle
unfoldable pub waves_text : Config → ℕ → ℕ → List Entry → List ℕ
waves_text c start end entries = declarations c.geometry start ++ dump_from start (in_order (all_changes c end entries))
