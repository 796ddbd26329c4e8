-- One more request, of the rank or of another.
use Rattle.std.proofs.Common.{not, eqb, sym, ap, ◌∙◌, arith}
use Rattle.ddr_hazards.specs.declared.waiting.Waiting.{Waiting}
use Rattle.ddr_arbiter.proofs.PlaceLemmas.{any_none_taken, any_taken_here}
use Rattle.ddr_arbiter.proofs.refresh.is_rank_idle.Goals as goal

pub returns-then-is_of_rank : goal.returns-then-is_of_rank
returns-then-is_of_rank c =
    sym (ap not (any_taken_here (λ (w : Waiting). eqb w.request.place.rank c.args.rank) c.args.pending.now.waiting c.loop-place.place (sym c.is_of_rank.ensures ∙ c.if-is_of_rank.true)))

pub loop-place-preserved : goal.loop-place-preserved
loop-place-preserved c =
    any_none_taken (λ (w : Waiting). eqb w.request.place.rank c.args.rank) c.args.pending.now.waiting c.loop-place.place
    (omega (arith, c.loop-place-test.true, c.len-place-end.ensures.exact)) c.loop-place.invariant (sym c.is_of_rank.ensures ∙ c.if-is_of_rank.false)
