use Rattle.std.proofs.Common.{sym, ap, ◌∙◌}
use Rattle.ddr_ports.specs.State as core
use Rattle.ddr_workers.specs.PortView.{state_of}
use Rattle.ddr_workers.proofs.CountedLemmas.{counted_filled, counted_stray}
use Rattle.ddr_workers.proofs.PortLemmas.{whole_filled, whole_stray}
use Rattle.ddr_workers.proofs.port.Port.poll.Goals as goal

pub invariant_of-self-in-Ok : goal.invariant_of-self-in-Ok
invariant_of-self-in-Ok g c = record {
  whole = whole_filled (state_of c.self.inside) c.in-Some.done c.fill.new.self c.pop.new.self c.self.invariant.whole c.if-self.false
      (sym c.in-Ok.ensures.awaited) c.in-Ok.ensures.ok c.fill.ensures.sound c.in-Some.ensures.popped;
  number = c.self.invariant.number ∙ ap (λ (k : core.PortState). k.port) (sym c.in-Ok.ensures.ok);
  counted = counted_filled (state_of c.self.inside) c.in-Some.done c.fill.new.self c.pop.new.self c.self.invariant.whole c.self.invariant.counted (sym c.in-Ok.ensures.awaited) c.in-Ok.ensures.ok c.in-Some.ensures.popped;
}

pub invariant_of-self-in-Err : goal.invariant_of-self-in-Err
invariant_of-self-in-Err g c = record {
  whole = whole_stray (state_of c.self.inside) c.in-Some.done c.fill.new.self c.pop.new.self c.self.invariant.whole c.in-Err.ensures.err c.in-Some.ensures.popped;
  number = c.self.invariant.number ∙ ap (λ (k : core.PortState). k.port) (sym c.in-Err.ensures.err);
  counted = counted_stray (state_of c.self.inside) c.fill.new.self c.pop.new.self c.self.invariant.counted c.in-Err.ensures.err;
}
