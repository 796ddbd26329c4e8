-- The record goes on by the cycles, and no trace is longer.
use Rattle.std.proofs.Common.{length}
use Rattle.ddr_world.specs.Kept.{state_of}
use Rattle.ddr_rounds.proofs.ContinueLemmas.{continues_past}
use Rattle.ddr_rounds.proofs.TraceLemmas.{passed_heard}
use Rattle.ddr_rounds.proofs.rounds.pass.Goals as goal

pub returns-clause-heard : goal.returns-clause-heard
returns-clause-heard g c = passed_heard g.W.Watcher.hears c.args.watcher.now c.hear.new.self c.args.count (state_of c.args.world.now) (state_of c.pass.new.self) c.requires c.pass.ensures.state c.hear.ensures

pub returns-clause-continues : goal.returns-clause-continues
returns-clause-continues g c = continues_past c.args.world.now c.pass.new.self c.args.count (length c.args.world.now.channels) c.pass.ensures.stands
