-- No request was taken, and none is outstanding; nothing was told but what stands before all.
use Rattle.std.proofs.Common.{List, ap, arith, sym, subst, ◌∙◌}
use Rattle.ddr_world.specs.State.{State}
use Rattle.ddr_rounds.specs.Rounds.{outstanding}
use Rattle.ddr_rounds.proofs.StepCounts.{none_opened}
use Rattle.ddr_counting.proofs.NotingLemmas.{noted_new}
use Rattle.ddr_world.specs.Kept.{state_of}
use Rattle.ddr_ledger.specs.Ledgers.{Ledger}
use Rattle.ddr_replay.specs.Told.{IsKept, channel_of, head_of, wanted_of}
use Rattle.ddr_replay.specs.View.{Replay}
use Rattle.ddr_ledger.specs.declared.released.ReleasedRequest.{ReleasedRequest}
use Rattle.ddr_replay.proofs.ToldLemmas.{begun_told}
use Rattle.ddr_replay.proofs.replaying.Replaying.open.Goals as goal

pub invariant_of-result : goal.invariant_of-result
invariant_of-result c =
    let none = ap (λ (s : State). outstanding s) c.in_ok-world.ensures.state ∙ none_opened c.args.config.now 0 0 c.args.config.now.limits.ports in
    let rows = ap (λ (l : Ledger). l.served) c.in_ok-ledger.ensures in
    record {
      config = (c.in_ok-world.ensures.stands).config;
      unkept = (c.in_ok-world.ensures.stands).keeps;
      stream = c.requires.config;
      sized = c.requires.sized;
      counted = omega (arith, none, c.requires.new);
      noted = noted_new c.args.config.now (state_of c.in_ok-world.world) 0 0 c.in_ok-open.field-0 c.in_ok-open.ensures c.in_ok-world.ensures.state;
      watched = c.channel_of.ensures ∙ ap channel_of (sym c.in_ok-teller.ensures.wanted);
      kept = subst (λ (xs : List ReleasedRequest). IsKept c.in_ok-teller.teller.tale xs) (sym rows) c.in_ok-teller.ensures.kept;
    }

pub returns-clause-told : goal.returns-clause-told
returns-clause-told c =
    let new : Replay = record { config = c.args.config.now; asking = record { order = c.args.order; first = 0 }; world = c.in_ok-world.world; stream = c.args.stream; ledger = c.in_ok-ledger.ledger; round = 0; wanted = wanted_of c.in_ok-teller.teller.tale; text = c.in_ok-teller.teller.text.items } in
    begun_told c.args.config.now new c.in_ok-world.ensures.state (ap (λ (l : Ledger). l.served) c.in_ok-ledger.ensures) (c.in_ok-teller.ensures.text ∙ ap head_of (sym c.in_ok-teller.ensures.wanted))
