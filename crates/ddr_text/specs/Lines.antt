-- What is answered of a line of a body.
use Rattle.std.specs.Prelude.{◌≡◌, Option, Some, None, Result, Ok, Err}
use Rattle.ddr_text.specs.declared.script.LineError.{LineError}
use Rattle.ddr_text.specs.declared.script.LineError.TheVariants.{AtFault, OutOfMemory}

-- what is answered, seen by the view, is what the text says, unless memory ran out
abbrev pub Gives : {X Y : Type 0} → (X → Y) → Result X LineError → Option Y → Type 0
Gives view (Ok x) said = said ≡ Some (view x)
Gives view (Err AtFault) said = said ≡ None
Gives view (Err OutOfMemory) said = Unit {0}
