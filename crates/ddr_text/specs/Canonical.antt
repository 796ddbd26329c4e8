-- A trace's text in the one form in which it is written, and what stands at the front of such a text.
use Rattle.std.specs.Prelude.{◌≡◌, ℕ, ◌*◌, List, ◌∷◌, ◌++◌}
use Rattle.std.specs.Fmt.{decimal}
use Rattle.ddr_timing.specs.declared.geometry.Geometry.{Geometry}
use Rattle.ddr_timing.specs.declared.units.TheConstants.{LINE_COLUMNS}
use Rattle.ddr_trace.specs.declared.command.Command.{Command}
use Rattle.ddr_trace_text.specs.Reader.{FitsText}
use Rattle.ddr_trace_text.specs.Text.{command_fields, record_text, trace_text}
use Rattle.ddr_trace.specs.Traces.{Recorded}
use Rattle.ddr_text.specs.declared.canonical.BankNumbers.{BankNumbers}
use Rattle.ddr_text.specs.declared.canonical.Target.{Target}

-- the text is what is written of the trace, which fits a text of this geometry
pub record IsCanonical (g : Geometry) (text : List ℕ) (trace : Recorded) : Type 0 where
  pub start : trace.start ≡ 0
  pub fits : FitsText g trace.entries trace.end
  pub written : text ≡ trace_text trace.entries trace.end

-- a number, the byte that ends it, and what stands behind
abbrev pub number_then : ℕ → ℕ → List ℕ → List ℕ
number_then number mark rest = decimal number ++ (mark ∷ rest)

-- the numbers of a bank
abbrev pub bank_then : BankNumbers → List ℕ → List ℕ
bank_then b rest = number_then b.rank 44 (number_then b.group 44 (number_then b.bank 44 rest))

-- the numbers of a line, its first column the last of them
abbrev pub target_then : Target → List ℕ → List ℕ
target_then t rest =
    number_then t.rank 44 (number_then t.group 44 (number_then t.bank 44 (number_then t.row 44 (number_then (LINE_COLUMNS * t.line) 10 rest))))

-- behind a cycle and a comma the text goes on with this command's line, and then with the rest
abbrev pub IsCommandThen : List ℕ → Command → List ℕ → Type 0
IsCommandThen text command rest =
    (cycle : ℕ) → number_then cycle 44 text ≡ record_text (command_fields cycle command) ++ rest
