-- One more place, of a candidate or not.
use Rattle.std.proofs.Common.{ℕ, Option, Bool, false, subst, inl, inr, arith}
use Rattle.std.proofs.lemmas.Bool.{cases_eq}
use Rattle.ddr_address_map.specs.declared.place.Place.{Place}
use Rattle.ddr_arbiter.specs.Until.{IsCandidate, MarkTellsUntil}
use Rattle.ddr_arbiter.proofs.KnownLemmas.{table_start}
use Rattle.ddr_arbiter.proofs.StuckLemmas.{sooner}
use Rattle.ddr_arbiter.proofs.quiet.stuck_until.Goals as goal

pub loop-place-preserved : goal.loop-place-preserved
loop-place-preserved c =
    let served = c.args.candidates.now in
    let waiting = c.args.pending.now.waiting in record {
      end = omega (arith, c.place_until-until.ensures.until, c.loop-place.invariant.end);
      stuck = λ place w below candidate. elim (cases_eq place c.loop-place.place) [
        | inl last ↦ c.place_until-until.ensures.stuck w (subst (λ (k : ℕ). IsCandidate served waiting k w) last candidate)
        | inr other ↦
            sooner c.loop-place.until c.place_until-until.result c.args.legality.now.bus served waiting c.args.room w.request.place c.place_until-until.ensures.until
            (c.loop-place.invariant.stuck place w (omega (arith, below, other)) candidate)
      ];
      asked = c.place_until-until.ensures.asked;
    }

pub loop-place-init : goal.loop-place-init
loop-place-init c = record {
  end = omega arith;
  stuck = λ place w below. absurd (omega (arith, below));
  asked = table_start (λ (p : Place) (o : Option Bool). MarkTellsUntil c.args.end c.args.legality.now.bus c.args.candidates.now c.args.pending.now.waiting c.args.room p o) false (λ p. tt);
}

pub returns : goal.returns
returns c = record {
  end = c.loop-place.invariant.end;
  stuck = λ place w candidate. c.loop-place.invariant.stuck place w (omega (arith, candidate.within, c.loop-place-test.false)) candidate;
}
