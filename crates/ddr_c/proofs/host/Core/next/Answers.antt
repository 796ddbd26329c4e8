-- No command was issued.
use Rattle.std.proofs.Common.{sym, subst}
use Rattle.ddr_timing.specs.declared.config.Config.{Config}
use Rattle.ddr_counting.specs.Noting.{AreNoted}
use Rattle.ddr_counting.proofs.NotingLemmas.{noted_heard}
use Rattle.ddr_world.specs.Kept.{state_of}
use Rattle.ddr_c.proofs.host.Core.next.Goals as goal

pub invariant_of-self-2-clause-follows : goal.invariant_of-self-2-clause-follows
invariant_of-self-2-clause-follows c =
    subst (λ (k : Config). AreNoted k (state_of c.release.new.world) c.release.new.watcher) (sym c.release.ensures.answer.config)
    (noted_heard c.args.self.now.world.config (state_of c.args.self.now.world) (state_of c.release.new.world) c.args.self.now.noting c.release.new.watcher c.args.self.now.follows c.release.ensures.heard)
