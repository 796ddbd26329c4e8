-- What was taken and not released is outstanding, and no command was issued.
use Rattle.std.proofs.Common.{◌<◌, false, refl, sym, subst, true, ◌∙◌}
use Rattle.ddr_stream.specs.Waiting.{all_in}
use Rattle.ddr_replay.specs.Ahead.{Carries, Leads}
use Rattle.ddr_replay.specs.Runs.{port_submitted}
use Rattle.ddr_replay.specs.View.{Replay, replay_of, whole_run}
use Rattle.ddr_replay.specs.Waits.{IsWaitingIn}
use Rattle.ddr_replay.proofs.PortLemmas.{port_led}
use Rattle.ddr_replay.proofs.SubmitLemmas.{port_within}
use Rattle.ddr_replay.proofs.WholeLemmas.{whole_submitted}
use Rattle.ddr_replay.proofs.replaying.Replaying.submit.Goals as goal

pub invariant_of-self : goal.invariant_of-self
invariant_of-self g c =
    let submit = c.submit_from.ensures in
    whole_submitted c.self.inside c.self.inside.asking c.submit_from.new.world c.submit_from.new.stream c.submit_from.new.ledger c.self.inside.went_on c.self.invariant submit.config submit.keeps submit.stream submit.sized submit.count submit.traces submit.served

pub invariant_of-self-then-taken : goal.invariant_of-self-then-taken
invariant_of-self-then-taken g c =
    let submit = c.submit_from.ensures in
    whole_submitted c.self.inside c.note.new.self c.submit_from.new.world c.submit_from.new.stream c.submit_from.new.ledger true c.self.invariant submit.config submit.keeps submit.stream submit.sized submit.count submit.traces submit.served

pub invariant_of-self-else-taken : goal.invariant_of-self-else-taken
invariant_of-self-else-taken g c =
    let submit = c.submit_from.ensures in
    whole_submitted c.self.inside c.self.inside.asking c.submit_from.new.world c.submit_from.new.stream c.submit_from.new.ledger c.self.inside.went_on c.self.invariant submit.config submit.keeps submit.stream submit.sized submit.count submit.traces submit.served

pub returns-then-taken-clause-run : goal.returns-then-taken-clause-run
returns-then-taken-clause-run g c =
    let old = replay_of c.self.inside in
    let new : Replay = record { config = old.config; asking = c.note.new.self; world = c.submit_from.new.world; stream = c.submit_from.new.stream; ledger = c.submit_from.new.ledger; round = old.round; wanted = old.wanted; text = old.text } in
    let p = c.args.port in
    let until = c.in_ok-until.until in
    let before = g.R.Read.remaining c.args.reader.now in
    let behind = all_in new.stream (g.R.Read.remaining c.submit_from.new.reader) in
    let within : p < old.config.limits.ports = subst (λ (r : Replay). p < r.config.limits.ports) (sym c.self.view_is) c.requires in
    subst (λ (r : Replay). Carries (λ all next. Leads (port_submitted p) r new all next × IsWaitingIn p until (whole_run new next.queues)) (all_in r.stream before) behind) c.self.view_is
    (port_led old new p until before behind c.self.invariant.sized (port_within old.stream old.config p c.self.invariant.stream within) refl false (λ same. c.if-taken.true (c.taken.ensures.value ∙ same ∙ sym c.taken-taken.ensures.value)) c.submit_from.ensures.count c.note.ensures c.in_ok-until.ensures.submitted)

pub returns-else-taken-clause-run : goal.returns-else-taken-clause-run
returns-else-taken-clause-run g c =
    let old = replay_of c.self.inside in
    let new : Replay = record { config = old.config; asking = old.asking; world = c.submit_from.new.world; stream = c.submit_from.new.stream; ledger = c.submit_from.new.ledger; round = old.round; wanted = old.wanted; text = old.text } in
    let p = c.args.port in
    let until = c.in_ok-until.until in
    let before = g.R.Read.remaining c.args.reader.now in
    let behind = all_in new.stream (g.R.Read.remaining c.submit_from.new.reader) in
    let within : p < old.config.limits.ports = subst (λ (r : Replay). p < r.config.limits.ports) (sym c.self.view_is) c.requires in
    subst (λ (r : Replay). Carries (λ all next. Leads (port_submitted p) r new all next × IsWaitingIn p until (whole_run new next.queues)) (all_in r.stream before) behind) c.self.view_is
    (port_led old new p until before behind c.self.invariant.sized (port_within old.stream old.config p c.self.invariant.stream within) refl true (sym c.taken.ensures.value ∙ c.if-taken.false ∙ c.taken-taken.ensures.value) c.submit_from.ensures.count refl c.in_ok-until.ensures.submitted)
