-- One port more has collected.
use Rattle.std.proofs.Common.{◌+◌, refl, ◌∙◌, arith}
use Rattle.ddr_world.specs.Kept.{state_of}
use Rattle.ddr_rounds.proofs.ContinueLemmas.{continues_still, continues_then}
use Rattle.ddr_rounds.proofs.PartLemmas.{ports_more}
use Rattle.ddr_rounds.proofs.ports.collect_ports.Goals as goal

pub loop-port-init : goal.loop-port-init
loop-port-init c = record { state = refl; outstanding = refl; traces = λ d. refl; config = refl; keeps = refl; continues = continues_still c.args.world.now }

pub loop-port-preserved : goal.loop-port-preserved
loop-port-preserved c =
    let kept = c.loop-port.invariant in
    let collect = c.collect.ensures in
    record {
      state = ports_more c.loop-port.port (c.loop-port.port + 1) (state_of c.args.world.now) (state_of c.loop-port.world) (state_of c.collect.new.world) kept.state collect.state (omega arith);
      outstanding = collect.outstanding ∙ kept.outstanding;
      traces = λ d. collect.traces d ∙ kept.traces d;
      config = collect.config ∙ kept.config;
      keeps = collect.keeps ∙ kept.keeps;
      continues = continues_then c.args.world.now c.loop-port.world c.collect.new.world kept.continues collect.continues;
    }
