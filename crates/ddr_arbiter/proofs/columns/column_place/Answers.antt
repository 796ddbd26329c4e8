-- The first candidate that may is found.
use Rattle.std.proofs.Common.{◌≡◌, None, Option, refl, sym, ap, ◌∙◌, arith}
use Rattle.std.specs.List.{find, filter, range_with_len}
use Rattle.ddr_address_map.specs.declared.place.Place.{Place}
use Rattle.ddr_arbiter.specs.declared.columns.KnownBank.{KnownBank}
use Rattle.ddr_arbiter.specs.declared.columns.KnownBank.TheVariants as bank
use Rattle.ddr_arbiter.specs.Choice.{can_column}
use Rattle.ddr_arbiter.specs.Known.{Tells}
use Rattle.ddr_arbiter.specs.CandidateSet.{is_candidate, places_of}
use Rattle.ddr_arbiter.proofs.KnownLemmas.{table_start}
use Rattle.ddr_arbiter.proofs.PlaceLemmas.{first_among, none_more}
use Rattle.ddr_arbiter.proofs.columns.column_place.Goals as goal

pub returns-then-is_ready : goal.returns-then-is_ready
returns-then-is_ready c =
    let found = first_among (is_candidate c.args.candidates.now c.args.pending.now.waiting) (can_column c.args.legality.now.bus c.args.pending.now.waiting) c.loop-place.place c.args.candidates.now.count
    (omega (arith, c.loop-place-test.true)) c.loop-place.invariant.none (sym c.if-is_ready.ensures.ready) in
    rw c.if-not-room.false (sym found)

pub loop-place-preserved : goal.loop-place-preserved
loop-place-preserved c = record {
  none = none_more (is_candidate c.args.candidates.now c.args.pending.now.waiting) (can_column c.args.legality.now.bus c.args.pending.now.waiting) c.loop-place.place
      c.loop-place.invariant.none (sym c.if-is_ready.ensures.ready);
  known = c.if-is_ready.ensures.known;
}

pub loop-place-init : goal.loop-place-init
loop-place-init c = record {
  none = refl;
  known = table_start (λ (p : Place) (o : Option KnownBank). Tells c.args.legality.now.bus c.args.candidates.now.kind p o) bank.Unmet (λ p. tt);
}

pub returns : goal.returns
returns c =
    let none : find (can_column c.args.legality.now.bus c.args.pending.now.waiting) (places_of c.args.candidates.now c.args.pending.now.waiting) ≡ None =
    ap (λ n. find (can_column c.args.legality.now.bus c.args.pending.now.waiting) (filter (is_candidate c.args.candidates.now c.args.pending.now.waiting) (range_with_len 0 n)))
    (omega (arith, c.loop-place-test.false, c.loop-place.auto.place-end)) ∙ c.loop-place.invariant.none in
    rw c.if-not-room.false (sym none)
