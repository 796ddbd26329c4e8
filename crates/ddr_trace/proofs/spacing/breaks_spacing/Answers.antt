-- A rule with no line in the table is on no pairs.
use Rattle.std.proofs.Common.{sym}
use Rattle.ddr_trace.proofs.SpacingLemmas.{no_pairs}
use Rattle.ddr_trace.proofs.spacing.breaks_spacing.Goals as goal

pub returns-in-None : goal.returns-in-None
returns-in-None c = rw (sym c.spacing.ensures, c.in-None.is) (sym (no_pairs c.args.history.now c.args.entry.now))
