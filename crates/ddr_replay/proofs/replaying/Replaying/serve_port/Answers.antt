-- The replies in front of a port, one after another.
use Rattle.std.proofs.Common.{ap, arith, subst, ◌∙◌}
use Rattle.ddr_world.specs.State.{State}
use Rattle.ddr_replay.specs.View.{IsFrontReleased, run_of}
use Rattle.ddr_replay.proofs.ReleaseLemmas.{port_led, released_more, same_run}
use Rattle.ddr_replay.proofs.replaying.Replaying.serve_port.Goals as goal

pub replies-preserved : goal.replies-preserved
replies-preserved c =
    let now = run_of c.replies.self in
    let next = run_of c.release_front.new.self in
    let kept = c.replies.invariant in
    let released = c.in_ok-release_front.ensures in
    let there = subst (IsFrontReleased c.args.port now next) c.if-branch.true released.released in
    record {
      run = released_more c.args.port now next there.0 there.1 there.2 (released.fewer c.if-branch.true) ∙ kept.run;
      stream = c.release_front.ensures.stream ∙ kept.stream;
      config = c.release_front.ensures.config ∙ kept.config;
      wanted = c.release_front.ensures.wanted ∙ kept.wanted;
      round = c.release_front.ensures.round ∙ kept.round;
      told = λ earlier told. released.told earlier (kept.told earlier told);
    }

pub replies-smaller : goal.replies-smaller
replies-smaller c = omega (arith, c.in_ok-release_front.ensures.fewer c.if-branch.true)

pub returns-clause-run : goal.returns-clause-run
returns-clause-run c =
    let start = run_of c.args.self.now in
    let now = run_of c.replies.self in
    let kept = c.replies.invariant in
    let collect = c.collect.ensures in
    let none = subst (IsFrontReleased c.args.port now (run_of c.release_front.new.self)) c.if-branch.false c.in_ok-release_front.ensures.released in
    let collected = same_run c.args.self.now c.collect.new.self collect.same ∙ ap (λ (s : State). record start { state = s }) collect.state in
    none.1 ∙ port_led c.args.port start (run_of c.collect.new.self) now collected kept.run none.0

pub returns-clause-stream : goal.returns-clause-stream
returns-clause-stream c = c.release_front.ensures.stream ∙ c.replies.invariant.stream ∙ c.collect.ensures.same.stream

pub returns-clause-config : goal.returns-clause-config
returns-clause-config c = c.release_front.ensures.config ∙ c.replies.invariant.config ∙ c.collect.ensures.same.config

pub returns-clause-wanted : goal.returns-clause-wanted
returns-clause-wanted c = c.release_front.ensures.wanted ∙ c.replies.invariant.wanted ∙ c.collect.ensures.same.wanted

pub returns-clause-round : goal.returns-clause-round
returns-clause-round c = c.release_front.ensures.round ∙ c.replies.invariant.round ∙ c.collect.ensures.same.round

pub returns-clause-told : goal.returns-clause-told
returns-clause-told c = λ earlier told. c.in_ok-release_front.ensures.told earlier (c.replies.invariant.told earlier (c.collect.ensures.told earlier told))
