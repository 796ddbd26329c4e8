use Rattle.std.proofs.Common.{◌≡◌, ◌++◌, length}
use Rattle.ddr_draw.specs.Changes.{changes_of}
use Rattle.ddr_draw.proofs.changes.add_changes.Given as goal

-- what the rest changes is still to be added
abbrev pub invariant-entries : goal.invariant-entries
invariant-entries l = l.initial.changes.items ++ changes_of l.config l.entries ≡ l.changes.items ++ changes_of l.config l.rest

abbrev pub decreases-entries : goal.decreases-entries
decreases-entries l = length l.rest
