-- A REF of the rank is one more, and the last one.
use Rattle.std.proofs.Common.{refl, sym}
use Rattle.ddr_trace.specs.Commands.{rank_of}
use Rattle.ddr_legality.proofs.RefreshLemmas.{counted_other, counted_refresh}
use Rattle.ddr_legality.proofs.refreshes.Refreshes.note.Goals as goal

pub returns-then-is_refresh : goal.returns-then-is_refresh
returns-then-is_refresh c = λ history counted.
    let e = c.args.entry.now in
    rw c.saturating_add-self.ensures (counted_refresh (rank_of e.command) history e c.args.self.now counted refl (sym c.if-is_refresh.ensures))

pub returns-else-is_refresh : goal.returns-else-is_refresh
returns-else-is_refresh c = λ history counted.
    let e = c.args.entry.now in
    counted_other (rank_of e.command) history e c.args.self.now counted (rw (sym c.if-is_refresh.ensures) refl)
