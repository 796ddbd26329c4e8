-- A line of a captured trace, in this project's own form or in another simulator's.
use Rattle.std.specs.Prelude.{ℕ, ◌≤◌, ◌^◌, Bool, ◌&&◌, ◌||◌, if◌then◌else◌, List, [], ◌∷◌, codes, Option, Some, None, option_map, Result, Ok, Err}
use Rattle.std.specs.Option.{ok_or, option_map_or}
use Rattle.std.specs.Str.{bytes_eq}
use Rattle.ddr_trace_text.specs.declared.parse.Parsed.{Parsed}
use Rattle.ddr_trace_text.specs.declared.parse.Parsed.TheVariants as record_says
use Rattle.ddr_trace_text.specs.Parse.{◌>>=◌, cycle_of, is_header, record_of}
use Rattle.ddr_text.specs.declared.command.Format.{Format}
use Rattle.ddr_text.specs.declared.command.Format.TheVariants.{Own, Dramsim3, Ramulator2}
use Rattle.ddr_text.specs.declared.fault.LineFault.{LineFault}
use Rattle.ddr_text.specs.declared.fault.LineFault.TheVariants.{Fields, Word, Number}
use Rattle.ddr_text.specs.Script.{fields_of, is_skipped}
use Rattle.ddr_capture.specs.Fields.{cut, decimal_of, hexadecimal_of, trimmed_cut}
use Rattle.ddr_capture.specs.Place.{command_of}
use Rattle.ddr_capture.specs.declared.line.Said.{Said}
use Rattle.ddr_capture.specs.declared.line.Said.TheVariants as says
use Rattle.ddr_capture.specs.declared.place.CommandKind.{CommandKind}
use Rattle.ddr_capture.specs.declared.place.CommandKind.TheVariants as kinds
use Rattle.ddr_capture.specs.declared.place.PartialPlace.{PartialPlace}
use Rattle.ddr_capture.specs.declared.tool.Tool as tools
use Rattle.ddr_capture.specs.declared.tool.Tool.TheVariants as tool

-- what a record of a trace's text says of the one channel
abbrev pub said_of_one : Parsed → Said
said_of_one (record_says.Command e) = says.Command (Some 0) e
said_of_one (record_says.End cycle) = says.End cycle

-- a command of a trace, or END
abbrev pub is_name : List ℕ → Bool
is_name name =
    bytes_eq name (codes "ACT") || bytes_eq name (codes "RD") || bytes_eq name (codes "WR") || bytes_eq name (codes "RDA")
    || bytes_eq name (codes "WRA") || bytes_eq name (codes "PRE") || bytes_eq name (codes "PREA") || bytes_eq name (codes "REF")
    || bytes_eq name (codes "END")

-- a record of a trace's text
abbrev pub of_seven : List (List ℕ) → Result Said LineFault
of_seven (cycle ∷ name ∷ rank ∷ group ∷ bank ∷ row ∷ column ∷ []) =
    if is_name name then ok_or (option_map said_of_one (record_of (cycle ∷ name ∷ rank ∷ group ∷ bank ∷ row ∷ column ∷ []))) Number else Err Word
of_seven _ = Err Fields

abbrev pub kind_of_dramsim3 : List ℕ → Option CommandKind
kind_of_dramsim3 name =
    if bytes_eq name (codes "activate") then Some kinds.Activate
    else if bytes_eq name (codes "read") then Some kinds.Read
    else if bytes_eq name (codes "write") then Some kinds.Write
    else if bytes_eq name (codes "read_p") then Some kinds.ReadAuto
    else if bytes_eq name (codes "write_p") then Some kinds.WriteAuto
    else if bytes_eq name (codes "precharge") then Some kinds.Precharge
    else if bytes_eq name (codes "refresh") then Some kinds.Refresh
    else None

abbrev pub kind_of_ramulator2 : List ℕ → Option CommandKind
kind_of_ramulator2 name =
    if bytes_eq name (codes "ACT") then Some kinds.Activate
    else if bytes_eq name (codes "RD") then Some kinds.Read
    else if bytes_eq name (codes "WR") then Some kinds.Write
    else if bytes_eq name (codes "RDA") then Some kinds.ReadAuto
    else if bytes_eq name (codes "WRA") then Some kinds.WriteAuto
    else if bytes_eq name (codes "PRE") then Some kinds.Precharge
    else if bytes_eq name (codes "PREA") then Some kinds.PrechargeAll
    else if bytes_eq name (codes "REFab") then Some kinds.Refresh
    else None

abbrev pub kind_of : tools.Tool → List ℕ → Option CommandKind
kind_of tool.Dramsim3 name = kind_of_dramsim3 name
kind_of tool.Ramulator2 name = kind_of_ramulator2 name

-- a row or a column
abbrev pub wide_of : tools.Tool → List ℕ → Option (Option ℕ)
wide_of tool.Dramsim3 field = hexadecimal_of field
wide_of tool.Ramulator2 field = decimal_of field

-- where a command goes; a column is the line of the row, as it stands
unfoldable pub place_of : tools.Tool → List ℕ → List ℕ → List ℕ → List ℕ → List ℕ → Option PartialPlace
place_of t rank group bank row column = do
  k ← decimal_of rank
  g ← decimal_of group
  b ← decimal_of bank
  w ← wide_of t row
  l ← wide_of t column
  Some (record { rank = k; group = g; bank = b; row = w; line = l })

-- a command of this kind, at this cycle and place, if each field is as the kind wants it
unfoldable pub command_at : tools.Tool → CommandKind → List ℕ → List ℕ → List ℕ → List ℕ → List ℕ → List ℕ → List ℕ → Option Said
command_at t kind cycle channel rank group bank row column = do
  at ← cycle_of cycle
  c ← decimal_of channel
  place ← place_of t rank group bank row column
  command ← command_of kind place
  Some (says.Command c (record { cycle = at; command = command }))

-- `CYCLE NAME CHANNEL RANK GROUP BANK ROW COLUMN`
abbrev pub of_eight : tools.Tool → List (List ℕ) → Result Said LineFault
of_eight t (cycle ∷ name ∷ channel ∷ rank ∷ group ∷ bank ∷ row ∷ column ∷ []) =
    option_map_or (λ kind. ok_or (command_at t kind cycle channel rank group bank row column) Number) (kind_of t name) (Err Word)
of_eight t _ = Err Fields

-- a line of this project's form is a record of a trace's text, or where it is the first one its header
abbrev pub of_own : Bool → List (List ℕ) → Result Said LineFault
of_own first fields = if first && is_header fields then Ok says.Nothing else of_seven fields

-- what a line says that is not skipped
abbrev pub of_form : Format → Bool → List ℕ → Result Said LineFault
of_form Own first line = of_own first (cut line)
of_form Dramsim3 first line = of_eight tool.Dramsim3 (fields_of line)
of_form Ramulator2 first line = of_eight tool.Ramulator2 (trimmed_cut line)

-- what a line says, or what is wrong with it; `first` tells the first line of the trace
unfoldable pub said_of : Format → Bool → List ℕ → Result Said LineFault
said_of format first line = if is_skipped line then Ok says.Nothing else of_form format first line

-- a cycle at which a clock has not stopped
abbrev pub IsEarly : Said → Type 0
IsEarly says.Nothing = Unit {0}
IsEarly (says.Command channel entry) = entry.cycle ≤ 2 ^ 62
IsEarly (says.End cycle) = cycle ≤ 2 ^ 62
