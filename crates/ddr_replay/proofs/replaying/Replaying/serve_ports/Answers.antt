-- One port more was served.
use Rattle.std.proofs.Common.{ap, sym, add-one, ◌∙◌}
use Rattle.ddr_replay.specs.Runs.{port_served, ports_served}
use Rattle.ddr_replay.specs.View.{run_of}
use Rattle.ddr_replay.proofs.replaying.Replaying.serve_ports.Goals as goal

pub loop-port-preserved : goal.loop-port-preserved
loop-port-preserved c =
    let kept = c.loop-port.invariant in
    let serve = c.serve_port.ensures in
    let p = c.loop-port.port in
    record {
      run = c.in_ok-serve_port.ensures.run ∙ ap (port_served p) kept.run ∙ sym (ap (λ n. ports_served n (run_of c.args.self.now)) (add-one p));
      stream = serve.stream ∙ kept.stream;
      config = serve.config ∙ kept.config;
      wanted = serve.wanted ∙ kept.wanted;
      round = serve.round ∙ kept.round;
      told = λ earlier told. c.in_ok-serve_port.ensures.told earlier (kept.told earlier told);
    }
