-- The End of one port more was pushed and taken.
use Rattle.std.proofs.Common.{◌+◌, arith, ◌∙◌}
use Rattle.ddr_world.specs.Kept.{state_of}
use Rattle.ddr_sim.proofs.Courses.{port_ended}
use Rattle.ddr_sim.proofs.simulation.Simulation.end_ports.Goals as goal

pub loop-port-preserved : goal.loop-port-preserved
loop-port-preserved c =
    let kept = c.loop-port.invariant in
    let end = c.make.ensures in
    let take = c.make-in-loop-port.ensures in
    record {
      state = port_ended c.loop-port.self.world c.make.new.self.world c.make-in-loop-port.new.self.world (state_of c.args.self.now.world) c.args.channel c.loop-port.port (c.loop-port.port + 1) c.make.result c.make-in-loop-port.result end.answer take.answer kept.state (omega arith);
      left = take.left ∙ end.left ∙ kept.left;
      same = record {
        config = take.same.config ∙ end.same.config ∙ kept.same.config;
        silent = take.same.silent ∙ end.same.silent ∙ kept.same.silent;
        waiting = omega (arith, take.same.waiting, end.same.waiting, kept.same.waiting);
      };
    }
