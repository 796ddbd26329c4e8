-- What follows of a history for a rule that is not on two commands.
use Rattle.std.proofs.Common.{◌≡◌, false, List, [], ◌∷◌, refl}
use Rattle.ddr_trace.specs.declared.command.Entry.{Entry}
use Rattle.ddr_trace.specs.Rules.{breaks_spacing, no_spacing}

-- a rule on no pairs is never broken
pub no_pairs : (history : List Entry) (e : Entry) → breaks_spacing no_spacing history e ≡ false
no_pairs [] e = refl
no_pairs (a ∷ history) e = no_pairs history e
