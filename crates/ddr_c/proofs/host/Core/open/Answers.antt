-- No command was counted.
use Rattle.std.proofs.Common.{sym, subst}
use Rattle.ddr_timing.specs.declared.config.Config.{Config}
use Rattle.ddr_counting.specs.Noting.{AreNoted}
use Rattle.ddr_counting.proofs.NotingLemmas.{noted_new}
use Rattle.ddr_world.specs.Kept.{state_of}
use Rattle.ddr_c.proofs.host.Core.open.Goals as goal

pub invariant_of-result-clause-follows : goal.invariant_of-result-clause-follows
invariant_of-result-clause-follows c =
    let world = c.in_ok-open_as.field-0 in
    let noting = c.in_ok-open-2.field-0 in
    subst (λ (k : Config). AreNoted k (state_of world) noting) (sym c.in_ok-open_as.ensures.stands.config)
    (noted_new c.args.config.now (state_of world) 0 0 noting c.in_ok-open-2.ensures c.in_ok-open_as.ensures.state)
