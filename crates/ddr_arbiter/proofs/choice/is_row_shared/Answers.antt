-- One more place, of a request that shares the row or not.
use Rattle.std.proofs.Common.{◌≡◌, ◌&&◌, not, eqb, true, sym, ap, ◌∙◌, refl, arith}
use Rattle.std.specs.List.{list_any, range_with_len}
use Rattle.std.proofs.lemmas.Bool.{eq-eqb, ne_eqb}
use Rattle.ddr_arbiter.specs.Choice.{share_row}
use Rattle.ddr_arbiter.proofs.PlaceLemmas.{any_here, any_none_more}
use Rattle.ddr_arbiter.proofs.choice.is_row_shared.Goals as goal
use Rattle.ddr_arbiter.proofs.choice.is_row_shared.Goals.{else-other-place-via-then-other-place+else-share_row, else-other-place-via-else-other-place}

pub returns-then-share_row : goal.returns-then-share_row
returns-then-share_row c =
    let passes : (not (eqb c.loop-other.other c.args.place) && share_row c.args.pending.now.waiting c.args.place c.loop-other.other) ≡ true =
    rw (ne_eqb c.loop-other.other c.args.place c.if-other-place.true) (sym c.share_row.ensures ∙ c.if-share_row.true) in
    sym (any_here (λ other. not (eqb other c.args.place) && share_row c.args.pending.now.waiting c.args.place other) _ c.loop-other.other
    (omega (arith, c.loop-other-test.true, c.len-other-end.ensures.exact)) passes)

pub loop-other-preserved : goal.loop-other-preserved
loop-other-preserved c =
    any_none_more (λ other. not (eqb other c.args.place) && share_row c.args.pending.now.waiting c.args.place other) c.loop-other.other c.loop-other.invariant
    (elim c.else-other-place.branch [
      | else-other-place-via-then-other-place+else-share_row w ↦
          rw (ne_eqb c.loop-other.other c.args.place w.if-other-place.true) (sym w.share_row.ensures ∙ w.if-share_row.false)
      | else-other-place-via-else-other-place w ↦ rw (eq-eqb c.loop-other.other c.args.place w.if-other-place.false) refl
    ])

pub returns : goal.returns
returns c =
    sym (ap (λ n. list_any (λ other. not (eqb other c.args.place) && share_row c.args.pending.now.waiting c.args.place other) (range_with_len 0 n))
    (omega (arith, c.loop-other-test.false, c.loop-other.auto.other-end, c.len-other-end.ensures.exact)) ∙ c.loop-other.invariant)
