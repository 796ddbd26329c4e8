-- No command was issued.
use Rattle.std.proofs.Common.{sym, subst}
use Rattle.ddr_timing.specs.declared.config.Config.{Config}
use Rattle.ddr_counting.specs.Noting.{AreNoted}
use Rattle.ddr_counting.proofs.NotingLemmas.{noted_heard}
use Rattle.ddr_world.specs.Kept.{state_of}
use Rattle.ddr_c.proofs.host.Core.submit.Goals as goal

pub invariant_of-self-clause-follows : goal.invariant_of-self-clause-follows
invariant_of-self-clause-follows c =
    subst (λ (k : Config). AreNoted k (state_of c.submit-answer.new.world) c.submit-answer.new.watcher) (sym c.submit-answer.ensures.answer.config)
    (noted_heard c.args.self.now.world.config (state_of c.args.self.now.world) (state_of c.submit-answer.new.world) c.args.self.now.noting c.submit-answer.new.watcher c.args.self.now.follows c.submit-answer.ensures.heard)

pub invariant_of-self-in-Ok-clause-follows : goal.invariant_of-self-in-Ok-clause-follows
invariant_of-self-in-Ok-clause-follows c =
    subst (λ (k : Config). AreNoted k (state_of c.submit-answer.new.world) c.submit-answer.new.watcher) (sym c.submit-answer.ensures.answer.config)
    (noted_heard c.args.self.now.world.config (state_of c.args.self.now.world) (state_of c.submit-answer.new.world) c.args.self.now.noting c.submit-answer.new.watcher c.args.self.now.follows c.submit-answer.ensures.heard)
