-- The trace ends one cycle later.
use Rattle.std.proofs.Common.{◌+◌, ap, arith}
use Rattle.ddr_legality.specs.Kept.{Kept}
use Rattle.ddr_legality.proofs.LegalLemmas.{IsLegal-later}
use Rattle.ddr_legality.proofs.legality.Legality.tick.Goals as goal

pub invariant_of-self : goal.invariant_of-self
invariant_of-self c = record {
  issued = c.self.invariant.issued;
  legal = (let a = c.self.inside in IsLegal-later a.issued.config a.issued.start (a.now + 1) a.past.items c.self.invariant.legal);
  begun = omega (arith, c.self.invariant.begun);
  clock = omega (arith, ap (λ (k : Kept). k.bus.now) c.self.view_is);
  few = c.self.invariant.few;
  reach = c.self.invariant.reach;
  kept = c.self.invariant.kept;
  unkept = c.self.invariant.unkept;
}
