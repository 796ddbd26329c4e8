-- The sizes are powers of two.
use Rattle.std.proofs.Common.{refl}
use Rattle.std.specs.Int.Count.{ones, ones_in}
use Rattle.ddr_samples.proofs.sample.geometry.Goals as goal

pub invariant_of-result-clause-rows_power : goal.invariant_of-result-clause-rows_power
unfolding ones ones_in
invariant_of-result-clause-rows_power c = refl

pub invariant_of-result-clause-columns_power : goal.invariant_of-result-clause-columns_power
unfolding ones ones_in
invariant_of-result-clause-columns_power c = refl
