-- No trace is longer.
use Rattle.std.proofs.Common.{refl, ap, ◌∙◌}
use Rattle.ddr_world.specs.Events.{Collect}
use Rattle.ddr_world.specs.Kept.{state_of}
use Rattle.ddr_world.specs.Promise.{trace_at}
use Rattle.ddr_world.specs.State.{State}
use Rattle.ddr_rounds.proofs.TraceLemmas.{popped_still}
use Rattle.ddr_rounds.proofs.ports.collect.Goals as goal

pub returns-clause-traces : goal.returns-clause-traces
returns-clause-traces c = λ d. ap (λ (s : State). trace_at s d) c.repeat.ensures.state ∙ popped_still d (Collect c.args.port) (state_of c.args.world.now) refl
