-- Every record keeps the promise.
use Rattle.ddr_world.proofs.CorePromise.{core_keeps_promise}
use Rattle.ddr_world.proofs.promise.core_promise.Goals as goal

pub returns : goal.returns
returns c = core_keeps_promise
