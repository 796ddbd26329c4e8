-- The Ends to one channel more were pushed and taken.
use Rattle.std.proofs.Common.{◌+◌, ap, arith, ◌∙◌}
use Rattle.ddr_timing.specs.declared.config.Config.{Config}
use Rattle.ddr_world.specs.Kept.{state_of}
use Rattle.ddr_sim.specs.Runs.{ports_ended}
use Rattle.ddr_sim.proofs.Courses.{channel_ended}
use Rattle.ddr_sim.proofs.simulation.Simulation.end.Goals as goal

pub loop-channel-preserved : goal.loop-channel-preserved
loop-channel-preserved c =
    let kept = c.loop-channel.invariant in
    let end = c.end_ports.ensures in
    let s = state_of c.loop-channel.self.world in
    record {
      state = channel_ended c.loop-channel.self.world c.end_ports.new.self.world (state_of c.args.self.now.world) c.args.self.now.config.limits.ports c.loop-channel.channel (c.loop-channel.channel + 1)
          (end.state ∙ ap (λ (k : Config). ports_ended c.loop-channel.channel k.limits.ports s) kept.same.config) kept.state (omega arith);
      left = end.left ∙ kept.left;
      same = record {
        config = end.same.config ∙ kept.same.config;
        silent = end.same.silent ∙ kept.same.silent;
        waiting = omega (arith, end.same.waiting, kept.same.waiting);
      };
    }
