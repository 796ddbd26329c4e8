-- Some rounds more were made, or the next one was refused.
use Rattle.std.proofs.Common.{◌≡◌, ◌+◌, Some, arith, refl, sym, ap, subst, ◌∙◌}
use Rattle.ddr_timing.specs.declared.config.Config.{Config}
use Rattle.ddr_world.specs.Kept.{state_of}
use Rattle.ddr_rounds.specs.Drains.{counted_in, drained}
use Rattle.ddr_rounds.specs.Rounds.{IsRoundRefused, IsStopped, round, rounds}
use Rattle.ddr_rounds.proofs.ContinueLemmas.{continues_still, continues_then}
use Rattle.ddr_rounds.proofs.DrainLemmas.{drained_then, raised_nothing, raised_then}
use Rattle.ddr_rounds.proofs.QuietLemmas.{rounds_stopped, rounds_then}
use Rattle.ddr_rounds.proofs.TraceLemmas.{heard_nothing, heard_then}
use Rattle.ddr_rounds.proofs.rounds.make_rounds.Goals as goal

pub rounds-init : goal.rounds-init
rounds-init g c = record {
  within = omega arith;
  made = refl;
  heard = heard_nothing g.W.Watcher.hears c.args.watcher.now (state_of c.args.world.now) (state_of c.args.world.now) (λ d. refl);
  drains = raised_nothing c.args.channels (drained c.args.world.now.config 0 (state_of c.args.world.now)) c.args.drains.now (λ d. refl);
  config = refl;
  keeps = refl;
  continues = continues_still c.args.world.now;
}

pub advance-requires-clause-ports : goal.advance-requires-clause-ports
advance-requires-clause-ports g c = c.requires.ports ∙ sym (ap (λ (k : Config). k.limits.ports) c.rounds.invariant.config)

pub advance-requires-clause-channels : goal.advance-requires-clause-channels
advance-requires-clause-channels g c = c.requires.channels ∙ sym (ap (λ (k : Config). k.geometry.channels) c.rounds.invariant.config)

pub rounds-preserved : goal.rounds-preserved
rounds-preserved g c =
    let kept = c.rounds.invariant in
    let before = c.args.world.now in
    let now = c.rounds.world in
    let next = c.advance.new.world in
    let more = c.in-Ok.more in
    record {
      within = omega (arith, c.in-Ok.ensures.some.1, c.rounds-test.true);
      made = rounds_then before.config c.rounds.made more (c.rounds.made + more) (state_of before) (state_of now) (state_of next) refl kept.made
          (subst (λ (k : Config). rounds k more (state_of now) ≡ Some (state_of next)) kept.config c.in-Ok.ensures.made);
      heard = heard_then g.W.Watcher.hears c.args.watcher.now c.rounds.watcher c.advance.new.watcher (state_of before) (state_of now) (state_of next) kept.heard c.advance.ensures.heard;
      drains = raised_then c.args.channels (drained before.config c.rounds.made (state_of before)) (counted_in more (state_of next)) (drained before.config (c.rounds.made + more) (state_of before)) c.args.drains.now c.rounds.drains
          c.count_drains.new.drains
          (λ d. drained_then before.config c.rounds.made more (state_of before) (state_of now) d kept.made
          ∙ ap (λ n. drained before.config c.rounds.made (state_of before) d + n) (subst (λ (k : Config). drained k more (state_of now) d ≡ counted_in more (state_of next) d) kept.config (c.in-Ok.ensures.steady d)))
          kept.drains c.count_drains.ensures;
      config = c.advance.ensures.config ∙ kept.config;
      keeps = c.advance.ensures.keeps ∙ kept.keeps;
      continues = continues_then before now next kept.continues c.advance.ensures.continues;
    }

pub returns-in-Err-clause-stopped : goal.returns-in-Err-clause-stopped
returns-in-Err-clause-stopped g c =
    let kept = c.rounds.invariant in
    let before = c.args.world.now in
    let now = c.rounds.world in
    let cause = c.in-Err.cause in (
      c.rounds-test.true,
      rounds_stopped cause before.config c.rounds.made (c.rounds.made + 1) (state_of before) (state_of now) refl kept.made
          (subst (λ (k : Config). IsStopped cause (round k (state_of now))) kept.config c.in-Err.ensures.stopped),
    )

pub returns-in-Err-clause-refused : goal.returns-in-Err-clause-refused
returns-in-Err-clause-refused g c =
    let kept = c.rounds.invariant in
    let now = c.rounds.world in
    let next = c.advance.new.world in
    record {
      before = state_of now;
      all = kept.made;
      next = subst (λ (k : Config). IsRoundRefused c.in-Err.cause k (state_of now) (state_of next)) kept.config c.in-Err.ensures.refused;
    }

pub returns-in-Err-clause-heard : goal.returns-in-Err-clause-heard
returns-in-Err-clause-heard g c =
    heard_then g.W.Watcher.hears c.args.watcher.now c.rounds.watcher c.advance.new.watcher (state_of c.args.world.now) (state_of c.rounds.world) (state_of c.advance.new.world) c.rounds.invariant.heard c.advance.ensures.heard

pub returns-in-Err-clause-continues : goal.returns-in-Err-clause-continues
returns-in-Err-clause-continues g c =
    continues_then c.args.world.now c.rounds.world c.advance.new.world c.rounds.invariant.continues c.advance.ensures.continues
