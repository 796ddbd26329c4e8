-- The whole trace was issued, and where every distance is kept the state of banks decides.
use Rattle.std.proofs.Common.{◌+◌, ◌&&◌, ap, ◌∙◌}
use Rattle.ddr_trace.specs.Commands.{entry}
use Rattle.ddr_trace.specs.Rules.{breaks, is_on_commands}
use Rattle.ddr_rank.proofs.DistanceLemmas.{fits_and_keeps}
use Rattle.ddr_rank.specs.Distances.{state_fits}
use Rattle.ddr_legality.proofs.legality.Legality.allowed_at.Goals as goal

pub returns-clause-first : goal.returns-clause-first
returns-clause-first c =
    let a = c.self.inside in
    rw (← c.self.view_is)
    (λ cycle begun below. c.allowed_at.ensures.first a.past.items cycle c.self.invariant.issued begun below)

pub returns-clause-legal : goal.returns-clause-legal
returns-clause-legal c =
    let a = c.self.inside in
    rw (← c.self.view_is)
    (λ cycle begun below.
    fits_and_keeps (λ r. is_on_commands r && breaks a.issued.config a.issued.start (cycle + 1) r a.past.items (entry cycle c.args.command))
    ∙ ap (λ w. state_fits a.issued.config a.past.items (entry cycle c.args.command) && w) (c.allowed_at.ensures.first a.past.items cycle c.self.invariant.issued begun below))
