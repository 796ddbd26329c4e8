use Rattle.std.proofs.Common.{ap, ◌∙◌, length}
use Rattle.ddr_hazards.proofs.Soundness.{within_limits, length-slots}
use Rattle.ddr_hazards.proofs.pending.Pending.len.Goals as goal

pub returns-clause-exact : goal.returns-clause-exact
returns-clause-exact c = length-slots c.self.inside c.self.invariant ∙ ap (λ p. length p.waiting) c.self.view_is

pub returns-clause-within : goal.returns-clause-within
returns-clause-within c = rw (← c.self.view_is) (within_limits c.self.inside c.self.invariant)
