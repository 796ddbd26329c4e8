-- What is told of a command, and behind which commands the next one is judged.
use Rattle.std.specs.Prelude.{◌≡◌, ◌+◌, ℕ, Bool, ◌&&◌, if◌then◌else◌, List, [], ◌∷◌, ◌++◌, length, Option, IfSome}
use Rattle.std.specs.Option.{option_map}
use Rattle.ddr_timing.specs.declared.config.Config.{Config}
use Rattle.ddr_trace.specs.declared.command.Entry.{Entry}
use Rattle.ddr_trace.specs.Legality.{lowest_rule}
use Rattle.ddr_trace.specs.Rules.{breaks, is_in, last_cycle_below}
use Rattle.ddr_watch.specs.declared.told.Told.{Told}
use Rattle.ddr_watch.specs.Finds.{IsFound}

-- A command counts for those behind it where it is of the geometry and its cycle is above that of the one before.
abbrev pub is_counted : Config → List Entry → Entry → Bool
is_counted c history e = is_in c.geometry e.command && last_cycle_below history e.cycle

abbrev pub counted_with : Config → List Entry → Entry → List Entry
counted_with c history e = if is_counted c history e then history ++ e ∷ [] else history

-- The lowest rule that the command breaks behind those that count, in a trace that ends behind it, if there is one, and what
-- that rests on.
pub record IsTold (c : Config) (start : ℕ) (history : List Entry) (e : Entry) (told : Option Told) : Type 0 where
  pub rule : option_map (λ t. t.rule) told ≡ lowest_rule (λ r. breaks c start (e.cycle + 1) r history e)
  pub place : IfSome told (λ t. t.place ≡ length history)
  pub found : IfSome told (λ t. IsFound c start t.rule history e t.evidence)
