-- All channels were served, and then the ports; or a channel's cycle was refused.
use Rattle.std.proofs.Common.{◌≡◌, ℕ, Some, subst}
use Rattle.std.proofs.lemmas.Result.{err_from_is_err_and}
use Rattle.ddr_world.specs.Kept.{state_of}
use Rattle.ddr_rounds.specs.Rounds.{IsPartRefused, IsStopped, channels_served, ports_collected}
use Rattle.ddr_rounds.proofs.ContinueLemmas.{continues_then}
use Rattle.ddr_rounds.proofs.PartLemmas.{round_stopped, round_whole}
use Rattle.ddr_rounds.proofs.TraceLemmas.{collected_heard}
use Rattle.ddr_rounds.proofs.rounds.make_round.Goals as goal

pub returns-in_err-serve_channels-clause-stopped : goal.returns-in_err-serve_channels-clause-stopped
returns-in_err-serve_channels-clause-stopped g c =
    let s = state_of c.args.world.now in
    let cause = c.in_err-serve_channels.field-0.0 in
    let p = err_from_is_err_and c.from_residual.result c.from_residual.ensures.1 in
    rw (p.1, p.2) (round_stopped cause c.args.world.now.config s (subst (λ (n : ℕ). IsStopped cause (channels_served n s)) c.requires.channels c.in_err-serve_channels.ensures.stopped))

pub returns-in_err-serve_channels-clause-refused : goal.returns-in_err-serve_channels-clause-refused
returns-in_err-serve_channels-clause-refused g c =
    let cause = c.in_err-serve_channels.field-0.0 in
    let p = err_from_is_err_and c.from_residual.result c.from_residual.ensures.1 in
    rw (p.1, p.2) (subst (λ (n : ℕ). IsPartRefused cause n (state_of c.args.world.now) (state_of c.serve_channels.new.world)) c.requires.channels c.in_err-serve_channels.ensures.refused)

pub returns-clause-made : goal.returns-clause-made
returns-clause-made g c =
    let s = state_of c.args.world.now in
    let served = state_of c.serve_channels.new.world in
    round_whole c.args.world.now.config s served (state_of c.collect_ports.new.world) (subst (λ (n : ℕ). channels_served n s ≡ Some served) c.requires.channels c.in_ok-serve_channels.ensures.served)
    (subst (λ (n : ℕ). state_of c.collect_ports.new.world ≡ ports_collected n served) c.requires.ports c.collect_ports.ensures.state)

pub returns-clause-heard : goal.returns-clause-heard
returns-clause-heard g c =
    collected_heard g.W.Watcher.hears c.args.watcher.now c.serve_channels.new.watcher c.args.ports (state_of c.args.world.now) (state_of c.serve_channels.new.world) (state_of c.collect_ports.new.world) c.serve_channels.ensures.heard c.collect_ports.ensures.state

pub returns-clause-continues : goal.returns-clause-continues
returns-clause-continues g c = continues_then c.args.world.now c.serve_channels.new.world c.collect_ports.new.world c.serve_channels.ensures.continues c.collect_ports.ensures.continues
