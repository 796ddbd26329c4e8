-- The ports submit, and a round follows, or some quiet ones.
use Rattle.std.proofs.Common.{◌≡◌, ◌≤◌, arith, subst, sym}
use Rattle.ddr_stream.specs.Waiting.{IsAhead, IsSized, Waiting}
use Rattle.ddr_replay.specs.View.{Replay}
use Rattle.ddr_replay.proofs.TurnLemmas.{failed_turn, limit_reached, made_turn, passed_turn}
use Rattle.ddr_replay.proofs.replaying.Replaying.turn.Goals as goal

pub returns-then-self-clause-fault : goal.returns-then-self-clause-fault
returns-then-self-clause-fault g c =
    let is = c.self.view_is in
    limit_reached c.args.self.now (g.R.Read.remaining c.args.reader.now) (subst (λ (r : Replay). IsSized r.stream) is c.self.invariant.sized) (subst (λ (r : Replay). r.stream.config ≡ r.config) is c.self.invariant.stream) c.requires
    (subst (λ (r : Replay). r.round ≡ 4294967295) is c.if-self.true)

pub returns-then-quiet-gt0-clause-leads : goal.returns-then-quiet-gt0-clause-leads
returns-then-quiet-gt0-clause-leads g c =
    let is = c.self.view_is in
    let submit = c.submit_all.ensures in
    let quiet = c.quiet_rounds-quiet.ensures in
    let some = c.if-quiet-gt0.true in
    passed_turn c.args.self.now c.submit_all.new.self c.in_ok-until.until (g.R.Read.remaining c.args.reader.now) (g.R.Read.remaining c.submit_all.new.reader) c.pass.new.self c.quiet_rounds-quiet.result
    c.in_ok-until.ensures.run (record { config = submit.same.config; round = submit.same.round }) (subst (λ (r : Replay). IsSized r.stream) is c.self.invariant.sized) (subst (λ (r : Replay). r.stream.config ≡ r.config) is c.self.invariant.stream) c.requires
    submit.sized submit.stream c.in_ok-until.ensures.ahead some (quiet.quiet some) (quiet.waits some) quiet.within c.pass.ensures.asking c.pass.ensures.state c.pass.ensures.round c.pass.ensures.stream c.pass.ensures.ledger

pub returns-clause-leads : goal.returns-clause-leads
returns-clause-leads g c =
    let is = c.self.view_is in
    let submit = c.submit_all.ensures in
    let here = subst (λ (r : Replay). (r.round ≡ 4294967295 → ⊥) × (r.round ≤ 4294967295)) is (c.if-self.false, omega arith) in
    made_turn c.args.self.now c.submit_all.new.self c.in_ok-until.until (g.R.Read.remaining c.args.reader.now) (g.R.Read.remaining c.submit_all.new.reader) c.make_round.new.self c.make_round.result
    c.in_ok-until.ensures.run (record { config = submit.same.config; round = submit.same.round }) (subst (λ (r : Replay). IsSized r.stream) is c.self.invariant.sized) (subst (λ (r : Replay). r.stream.config ≡ r.config) is c.self.invariant.stream) c.requires
    (omega (arith, submit.same.round, here.0, here.1)) c.make_round.ensures.made c.make_round.ensures.round c.make_round.ensures.stream

pub returns-clause-fault : goal.returns-clause-fault
returns-clause-fault g c =
    let is = c.self.view_is in
    let submit = c.submit_all.ensures in
    let here = subst (λ (r : Replay). (r.round ≡ 4294967295 → ⊥) × (r.round ≤ 4294967295)) is (c.if-self.false, omega arith) in
    failed_turn c.args.self.now c.submit_all.new.self c.in_ok-until.until (g.R.Read.remaining c.args.reader.now) (g.R.Read.remaining c.submit_all.new.reader) c.make_round.new.self c.make_round.result
    c.in_ok-until.ensures.run (record { config = submit.same.config; round = submit.same.round }) (subst (λ (r : Replay). IsSized r.stream) is c.self.invariant.sized) (subst (λ (r : Replay). r.stream.config ≡ r.config) is c.self.invariant.stream) c.requires
    (omega (arith, submit.same.round, here.0, here.1)) c.make_round.ensures.stream c.make_round.ensures.fault

pub returns-then-quiet-gt0-clause-ahead : goal.returns-then-quiet-gt0-clause-ahead
returns-then-quiet-gt0-clause-ahead g c = subst (λ (w : Waiting). IsAhead w) (sym c.pass.ensures.stream) c.in_ok-until.ensures.ahead

pub returns-then-quiet-gt0-clause-told : goal.returns-then-quiet-gt0-clause-told
returns-then-quiet-gt0-clause-told g c = λ earlier is. c.pass.ensures.told earlier (c.in_ok-until.ensures.told earlier is)
