-- Every history keeps the promise.
use Rattle.ddr_channel.proofs.PromiseLemmas.{promise_kept}
use Rattle.ddr_channel.proofs.promise.channel_promise.Goals as goal

pub returns : goal.returns
returns c = promise_kept
