use Rattle.ddr_workers.specs.PortView.{state_of}
use Rattle.ddr_workers.proofs.CountedLemmas.{counted_ended, counted_busy}
use Rattle.ddr_workers.proofs.PortLemmas.{whole_ended, whole_busy}
use Rattle.ddr_workers.proofs.port.Port.end.Goals as goal
use Rattle.std.proofs.Common.{◌≡◌, ◌<◌, true, length, refl, sym, subst}
use Rattle.ddr_workers.specs.Port.{PortState}

pub invariant_of-self : goal.invariant_of-self
invariant_of-self g c = record {
  whole = whole_ended (state_of c.self.inside) c.end_on.new.sides.items c.self.invariant.whole
      (subst (λ (s : PortState). s.core.finished ≡ true) (sym c.self.view_is) c.requires.finished)
      (subst (λ (s : PortState). s.ended < length s.requests) (sym c.self.view_is) c.requires.missing) c.in-Ok.ensures.pushed;
  number = c.self.invariant.number;
  counted = counted_ended (state_of c.self.inside) c.end_on.new.sides.items c.self.invariant.counted
      (subst (λ (s : PortState). s.ended < length s.requests) (sym c.self.view_is) c.requires.missing) c.in-Ok.ensures.pushed;
}

pub invariant_of-self-in-Err : goal.invariant_of-self-in-Err
invariant_of-self-in-Err g c = record {
  whole = whole_busy (state_of c.self.inside) c.self.inside.core c.end_on.new.sides.items c.self.inside.ended c.self.invariant.whole refl c.in-Err.ensures.same;
  number = c.self.invariant.number;
  counted = counted_busy (state_of c.self.inside) c.self.inside.core c.end_on.new.sides.items c.self.inside.ended c.self.invariant.counted refl c.in-Err.ensures.same;
}
