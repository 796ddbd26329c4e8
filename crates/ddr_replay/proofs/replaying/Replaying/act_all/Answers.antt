-- A cycle more of one channel more was counted.
use Rattle.std.proofs.Common.{◌≡◌, ℕ, ◌+◌, suc, ap, ap₂, arith, ◌∙◌}
use Rattle.ddr_world.specs.Kept.{Kept, state_of}
use Rattle.ddr_ledger.specs.Activities.{all_acted}
use Rattle.ddr_ledger.specs.Activity.{seen_at}
use Rattle.ddr_ledger.specs.Ledgers.{with_activity}
use Rattle.ddr_replay.proofs.replaying.Replaying.act_all.Goals as goal

pub loop-channel-preserved : goal.loop-channel-preserved
loop-channel-preserved c =
    let kept = c.loop-channel.invariant in
    let act = c.act.ensures in
    let n = c.loop-channel.channel in
    let start = c.args.self.now in
    let more : suc n ≡ n + 1 = omega arith in
    record {
      ledger = act.ledger
          ∙ ap₂ (λ (w : Kept) (r : ℕ). with_activity n r c.args.cycles (seen_at (state_of w) n) c.loop-channel.self.ledger) kept.rest.world kept.rest.round
          ∙ ap (with_activity n start.round c.args.cycles (seen_at (state_of start.world) n)) kept.ledger
          ∙ ap (λ k. all_acted start.round c.args.cycles (seen_at (state_of start.world)) k start.ledger) more;
      rest = record {
        config = act.rest.config ∙ kept.rest.config;
        asking = act.rest.asking ∙ kept.rest.asking;
        world = act.rest.world ∙ kept.rest.world;
        stream = act.rest.stream ∙ kept.rest.stream;
        round = act.rest.round ∙ kept.rest.round;
        wanted = act.rest.wanted ∙ kept.rest.wanted;
        text = act.rest.text ∙ kept.rest.text;
        served = act.rest.served ∙ kept.rest.served;
      };
    }
