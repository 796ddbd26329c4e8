-- One record of a trace's text behind its header: seven fields, and the command or the END that they say.
use Rattle.std.specs.Prelude.{ℕ, ◌≤◌, ◌-◌, ◌^◌, ◌/◌, ◌%◌, ◌==◌, Bool, false, ◌&&◌, if◌then◌else◌, List, [], ◌∷◌, length, get_or, codes, Option, Some, None, option_and_then}
use Rattle.std.specs.Str.{bytes_eq}
use Rattle.ddr_timing.specs.declared.units.TheConstants.{CLOCK_STOP, LINE_COLUMNS}
use Rattle.ddr_trace.specs.declared.command.Command.{Command}
use Rattle.ddr_trace.specs.declared.command.Command.TheVariants.{Act, Rd, Wr, RdAuto, WrAuto, Pre, PreAll, Refresh}
use Rattle.ddr_trace_text.specs.declared.parse.Parsed.{Parsed}
use Rattle.ddr_trace_text.specs.declared.parse.Parsed.TheVariants as says
use Rattle.ddr_trace_text.specs.declared.parse.Record.{Record}
use Rattle.ddr_trace_text.specs.Numbers.{number_of}

infixl 10 ◌>>=◌
abbrev pub ◌>>=◌ : {A B : Type 0} → Option A → (A → Option B) → Option B
o >>= f = option_and_then f o

-- a cycle is at most the one at which a clock stops, another number is below 2^32
abbrev pub cycle_of : List ℕ → Option ℕ
cycle_of field = number_of CLOCK_STOP field

abbrev pub index_of : List ℕ → Option ℕ
index_of field = number_of (2 ^ 32 - 1) field

-- a burst begins at a line
unfoldable pub line_of : List ℕ → Option ℕ
line_of field = do
  column ← index_of field
  if column % LINE_COLUMNS == 0 then Some (column / LINE_COLUMNS) else None

abbrev pub is_empty : List ℕ → Bool
is_empty field = length field == 0

-- a field of the header that a command has no use for is empty
unfoldable pub act_of : List ℕ → List ℕ → List ℕ → List ℕ → List ℕ → Option Command
act_of rank group bank row column = do
  k ← index_of rank
  g ← index_of group
  b ← index_of bank
  w ← index_of row
  if is_empty column then Some (Act k g b w) else None

unfoldable pub rd_of : List ℕ → List ℕ → List ℕ → List ℕ → List ℕ → Option Command
rd_of rank group bank row column = do
  k ← index_of rank
  g ← index_of group
  b ← index_of bank
  w ← index_of row
  l ← line_of column
  Some (Rd k g b w l)

unfoldable pub wr_of : List ℕ → List ℕ → List ℕ → List ℕ → List ℕ → Option Command
wr_of rank group bank row column = do
  k ← index_of rank
  g ← index_of group
  b ← index_of bank
  w ← index_of row
  l ← line_of column
  Some (Wr k g b w l)

unfoldable pub rda_of : List ℕ → List ℕ → List ℕ → List ℕ → List ℕ → Option Command
rda_of rank group bank row column = do
  k ← index_of rank
  g ← index_of group
  b ← index_of bank
  w ← index_of row
  l ← line_of column
  Some (RdAuto k g b w l)

unfoldable pub wra_of : List ℕ → List ℕ → List ℕ → List ℕ → List ℕ → Option Command
wra_of rank group bank row column = do
  k ← index_of rank
  g ← index_of group
  b ← index_of bank
  w ← index_of row
  l ← line_of column
  Some (WrAuto k g b w l)

unfoldable pub pre_of : List ℕ → List ℕ → List ℕ → List ℕ → List ℕ → Option Command
pre_of rank group bank row column = do
  k ← index_of rank
  g ← index_of group
  b ← index_of bank
  if is_empty row && is_empty column then Some (Pre k g b) else None

abbrev pub are_empty : List ℕ → List ℕ → List ℕ → List ℕ → Bool
are_empty group bank row column = is_empty group && is_empty bank && is_empty row && is_empty column

unfoldable pub prea_of : List ℕ → List ℕ → List ℕ → List ℕ → List ℕ → Option Command
prea_of rank group bank row column = do
  k ← index_of rank
  if are_empty group bank row column then Some (PreAll k) else None

unfoldable pub ref_of : List ℕ → List ℕ → List ℕ → List ℕ → List ℕ → Option Command
ref_of rank group bank row column = do
  k ← index_of rank
  if are_empty group bank row column then Some (Refresh k) else None

-- by the name of the command
unfoldable pub command_of : List ℕ → List ℕ → List ℕ → List ℕ → List ℕ → List ℕ → Option Command
command_of name rank group bank row column =
    if bytes_eq name (codes "ACT") then act_of rank group bank row column
    else if bytes_eq name (codes "RD") then rd_of rank group bank row column
    else if bytes_eq name (codes "WR") then wr_of rank group bank row column
    else if bytes_eq name (codes "RDA") then rda_of rank group bank row column
    else if bytes_eq name (codes "WRA") then wra_of rank group bank row column
    else if bytes_eq name (codes "PRE") then pre_of rank group bank row column
    else if bytes_eq name (codes "PREA") then prea_of rank group bank row column
    else if bytes_eq name (codes "REF") then ref_of rank group bank row column
    else None

unfoldable pub entry_of : ℕ → List ℕ → List ℕ → List ℕ → List ℕ → List ℕ → List ℕ → Option Parsed
entry_of cycle name rank group bank row column = do
  command ← command_of name rank group bank row column
  Some (says.Command (record { cycle = cycle; command = command }))

-- END has its cycle alone
unfoldable pub end_of : ℕ → List ℕ → List ℕ → List ℕ → List ℕ → List ℕ → Option Parsed
end_of cycle rank group bank row column =
    if is_empty rank && are_empty group bank row column then Some (says.End cycle) else None

unfoldable pub with_cycle : ℕ → List ℕ → List ℕ → List ℕ → List ℕ → List ℕ → List ℕ → Option Parsed
with_cycle cycle name rank group bank row column =
    if bytes_eq name (codes "END") then end_of cycle rank group bank row column
    else entry_of cycle name rank group bank row column

-- what a record says, if it is one of a trace
unfoldable pub record_of : List (List ℕ) → Option Parsed
record_of (cycle ∷ name ∷ rank ∷ group ∷ bank ∷ row ∷ column ∷ []) = do
  c ← cycle_of cycle
  with_cycle c name rank group bank row column
record_of _ = None

-- the header's names
abbrev pub is_header : List (List ℕ) → Bool
is_header (cycle ∷ name ∷ rank ∷ group ∷ bank ∷ row ∷ column ∷ []) =
    bytes_eq cycle (codes "cycle") && bytes_eq name (codes "cmd") && bytes_eq rank (codes "rank") && bytes_eq group (codes "group")
    && bytes_eq bank (codes "bank") && bytes_eq row (codes "row") && bytes_eq column (codes "col")
is_header _ = false

-- the fields of the first seven places
abbrev pub seven_of : List (List ℕ) → List (List ℕ)
seven_of fields =
    get_or fields 0 [] ∷ get_or fields 1 [] ∷ get_or fields 2 [] ∷ get_or fields 3 [] ∷ get_or fields 4 [] ∷ get_or fields 5 [] ∷ get_or fields 6 [] ∷ []

-- the fields of a record, in the order of the header
abbrev pub fields_in : Record → List (List ℕ)
fields_in r = r.cycle.now ∷ r.name.now ∷ r.address.rank.now ∷ r.address.group.now ∷ r.address.bank.now ∷ r.address.row.now ∷ r.address.column.now ∷ []

-- a cycle at which a clock has not stopped
abbrev pub IsEarly : Parsed → Type 0
IsEarly (says.Command e) = e.cycle ≤ CLOCK_STOP
IsEarly (says.End cycle) = cycle ≤ CLOCK_STOP
