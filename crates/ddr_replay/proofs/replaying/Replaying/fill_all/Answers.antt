-- One port more, if its request's cycle has come.
use Rattle.std.proofs.Common.{◌≡◌, ℕ, ◌+◌, suc, ap, ap₂, arith, ◌∙◌}
use Rattle.ddr_stream.specs.Waiting.{Waiting}
use Rattle.ddr_replay.specs.Waits.{all_full, come_of, filled}
use Rattle.ddr_replay.proofs.replaying.Replaying.fill_all.Goals as goal

pub loop-port-preserved : goal.loop-port-preserved
loop-port-preserved c =
    let kept = c.loop-port.invariant in
    let fill = c.fill.ensures in
    let n = c.loop-port.port in
    let start = c.args.self.now in
    let come = come_of start.round start.stream.queues in
    let more : suc n ≡ n + 1 = omega arith in
    record {
      ledger = fill.ledger
          ∙ ap₂ (λ (r : ℕ) (w : Waiting). filled c.args.rounds (come_of r w.queues) n c.loop-port.self.ledger) kept.rest.round kept.rest.stream
          ∙ ap (filled c.args.rounds come n) kept.ledger
          ∙ ap (λ k. all_full c.args.rounds come k start.ledger) more;
      rest = record {
        config = fill.rest.config ∙ kept.rest.config;
        asking = fill.rest.asking ∙ kept.rest.asking;
        world = fill.rest.world ∙ kept.rest.world;
        stream = fill.rest.stream ∙ kept.rest.stream;
        round = fill.rest.round ∙ kept.rest.round;
        wanted = fill.rest.wanted ∙ kept.rest.wanted;
        text = fill.rest.text ∙ kept.rest.text;
        served = fill.rest.served ∙ kept.rest.served;
      };
    }
