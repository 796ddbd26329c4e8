use Rattle.std.proofs.Common.{sym, ap, ◌∙◌}
use Rattle.ddr_ports.specs.State as core
use Rattle.ddr_workers.specs.PortView.{state_of}
use Rattle.ddr_workers.proofs.CountedLemmas.{counted_release}
use Rattle.ddr_workers.proofs.PortLemmas.{whole_released, in_front}
use Rattle.ddr_workers.proofs.port.Port.release.Goals as goal

pub invariant_of-self-2 : goal.invariant_of-self-2
invariant_of-self-2 c = record {
  whole = whole_released (state_of c.self.inside) c.release.new.self c.self.invariant.whole (in_front c.self.inside.core.reorder c.in_ok-number.number (sym c.in_ok-number.ensures.number)) c.in_ok-number.ensures.some c.release.ensures.sound;
  number = c.self.invariant.number ∙ ap (λ (k : core.PortState). k.port) (sym c.in_ok-number.ensures.some);
  counted = counted_release (state_of c.self.inside) c.release.new.self c.in_ok-number.number c.self.invariant.whole c.self.invariant.counted (sym c.in_ok-number.ensures.number) c.in_ok-number.ensures.some;
}
