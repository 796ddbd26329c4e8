-- A round was made, whatever is left to be submitted.
use Rattle.std.proofs.Common.{◌+◌, Some, ap, refl, sym, ◌∙◌}
use Rattle.ddr_replay.specs.View.{Replay, run_of}
use Rattle.ddr_replay.proofs.QuietLemmas.{round_ok}
use Rattle.ddr_replay.proofs.RoundLemmas.{round_beside, with_queues}
use Rattle.ddr_replay.proofs.replaying.Replaying.make_round.Goals as goal

pub returns-in_err-serve_ports-clause-stream : goal.returns-in_err-serve_ports-clause-stream
returns-in_err-serve_ports-clause-stream c = c.serve_ports.ensures.stream ∙ c.act_all.ensures.rest.stream ∙ c.serve_channels.ensures.rest.stream

pub returns-clause-made : goal.returns-clause-made
returns-clause-made c = λ queues.
    let old = c.args.self.now in
    let last = c.serve_ports.new.self in
    let new = record (run_of last) { round = last.round + 1 } in
    let made = round_ok old c.serve_channels.new.self c.act_all.new.self last new c.in_ok-serve_channels.ensures.served c.in_ok-serve_channels.ensures.ledger c.serve_channels.ensures.rest c.act_all.ensures.ledger c.act_all.ensures.rest c.in_ok-serve_ports.ensures.run refl in
    round_beside old.config (run_of old) new made queues
    ∙ ap (λ (r : Replay). Some (with_queues queues (record (run_of r) { round = r.round + 1 }))) (sym c.self.view_is)

pub returns-clause-stream : goal.returns-clause-stream
returns-clause-stream c =
    ap (λ (r : Replay). r.stream) c.self.view_is ∙ c.serve_ports.ensures.stream ∙ c.act_all.ensures.rest.stream ∙ c.serve_channels.ensures.rest.stream
