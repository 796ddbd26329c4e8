-- The line of a request that is refused.
use Rattle.std.specs.Prelude.{ℕ, List, [], ◌∷◌, ◌++◌, codes}
use Rattle.std.specs.Fmt.{decimal}
use Rattle.ddr_world.specs.declared.event.Refusal.{Refusal}
use Rattle.ddr_world.specs.declared.event.Refusal.TheVariants as refusal

-- the name of a cause; a busy channel isn't named
abbrev pub name_of : Refusal → List ℕ
name_of refusal.Finished = codes "Finished"
name_of refusal.OutOfRange = codes "OutOfRange"
name_of refusal.EmptyLength = codes "EmptyLength"
name_of refusal.CrossesLine = codes "CrossesLine"
name_of refusal.Spent = codes "Spent"
name_of refusal.WindowFull = codes "WindowFull"
name_of (refusal.Busy channel) = codes "Busy"
name_of refusal.Nothing = codes "Nothing"
name_of refusal.QueueFull = codes "QueueFull"
name_of refusal.ClockSpent = codes "ClockSpent"
name_of refusal.OutOfMemory = codes "OutOfMemory"
name_of refusal.NotEmpty = codes "NotEmpty"
name_of refusal.NoSuch = codes "NoSuch"

-- `refused PORT NAME`
unfoldable pub refused_text : ℕ → Refusal → List ℕ
refused_text port cause = codes "refused " ++ (decimal port ++ (codes " " ++ (name_of cause ++ 10 ∷ [])))
