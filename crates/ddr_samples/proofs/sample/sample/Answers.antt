-- It is a configuration of the first version, with open rows.
use Rattle.std.proofs.Common.{refl}
use Rattle.ddr_samples.proofs.sample.sample.Goals as goal

pub invariant_of-result : goal.invariant_of-result
invariant_of-result c = record { first_version = rw (c.geometry.ensures.version, c.limits.ensures.closed, c.timing.ensures) refl }
