-- No more rounds than the core is quiet for.
use Rattle.std.proofs.Common.{arith, subst}
use Rattle.ddr_world.specs.Kept.{state_of}
use Rattle.ddr_replay.specs.View.{Replay}
use Rattle.ddr_replay.specs.Waits.{AreQuiet}
use Rattle.ddr_replay.proofs.QuietLemmas.{are_quiet}
use Rattle.ddr_replay.proofs.replaying.Replaying.quiet_rounds.Goals as goal

pub returns-clause-quiet : goal.returns-clause-quiet
returns-clause-quiet c = λ some.
    let a = c.self.inside in
    let n = c.min-2.result in
    subst (λ (s : Replay). AreQuiet s.config n (state_of s.world)) c.self.view_is
    (are_quiet a.config n c.still.result a.world c.self.invariant.config c.still.ensures.channels c.still.ensures.quiet (c.has_front.ensures.services c.if-has_front.false) some (omega (arith, c.min.ensures, c.min-2.ensures)))
