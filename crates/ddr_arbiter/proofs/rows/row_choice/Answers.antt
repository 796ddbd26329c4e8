-- The first candidate that has an ACT or a PRE gives it.
use Rattle.std.proofs.Common.{◌≡◌, None, Option, Bool, false, refl, sym, ap, ◌∙◌, arith}
use Rattle.std.specs.List.{find, filter, range_with_len}
use Rattle.std.specs.Option.{option_map_or}
use Rattle.ddr_address_map.specs.declared.place.Place.{Place}
use Rattle.ddr_arbiter.specs.declared.choice.Choice.TheVariants as choice
use Rattle.ddr_arbiter.specs.Choice.{is_something, row_choice_at}
use Rattle.ddr_arbiter.specs.Known.{MarkTells}
use Rattle.ddr_arbiter.specs.CandidateSet.{is_candidate, places_of}
use Rattle.ddr_arbiter.proofs.KnownLemmas.{table_start}
use Rattle.ddr_arbiter.proofs.PlaceLemmas.{chosen_among, none_more, not_chosen}
use Rattle.ddr_arbiter.proofs.rows.row_choice.Goals as goal

pub returns-then-is_something : goal.returns-then-is_something
returns-then-is_something c =
    let places = places_of c.args.candidates.now c.args.pending.now.waiting in
    chosen_among (row_choice_at c.args.legality.now.bus c.args.pending.now.waiting places) (is_candidate c.args.candidates.now c.args.pending.now.waiting)
    c.loop-place.place c.args.candidates.now.count c.row_choice_at-choice.result (omega (arith, c.loop-place-test.true)) c.loop-place.invariant.none c.row_choice_at-choice.ensures.choice (sym c.if-is_something.ensures)

pub loop-place-preserved : goal.loop-place-preserved
loop-place-preserved c =
    let places = places_of c.args.candidates.now c.args.pending.now.waiting in record {
      none = none_more (is_candidate c.args.candidates.now c.args.pending.now.waiting)
          (λ place. is_something (row_choice_at c.args.legality.now.bus c.args.pending.now.waiting places place)) c.loop-place.place c.loop-place.invariant.none
          (not_chosen (row_choice_at c.args.legality.now.bus c.args.pending.now.waiting places) (is_candidate c.args.candidates.now c.args.pending.now.waiting)
          c.loop-place.place c.row_choice_at-choice.result c.row_choice_at-choice.ensures.choice (sym c.if-is_something.ensures));
      done = c.row_choice_at-choice.ensures.done;
    }

pub loop-place-init : goal.loop-place-init
loop-place-init c = record {
  none = refl;
  done = table_start (λ (p : Place) (o : Option Bool). MarkTells c.args.legality.now.bus c.args.pending.now.waiting (places_of c.args.candidates.now c.args.pending.now.waiting) p o) false (λ p. tt);
}

pub returns : goal.returns
returns c =
    let f = row_choice_at c.args.legality.now.bus c.args.pending.now.waiting (places_of c.args.candidates.now c.args.pending.now.waiting) in
    let none : find (λ place. is_something (f place)) (places_of c.args.candidates.now c.args.pending.now.waiting) ≡ None =
    ap (λ n. find (λ place. is_something (f place)) (filter (is_candidate c.args.candidates.now c.args.pending.now.waiting) (range_with_len 0 n)))
    (omega (arith, c.loop-place-test.false, c.loop-place.auto.place-end)) ∙ c.loop-place.invariant.none in
    sym (ap (λ o. option_map_or f o choice.Nothing) none)
