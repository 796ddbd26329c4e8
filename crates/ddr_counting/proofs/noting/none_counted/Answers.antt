-- One channel more, of which no command was counted.
use Rattle.std.proofs.Common.{[], ◌∷◌, All, List, ap, sym, subst, ◌∙◌, arith, length}
use Rattle.std.proofs.lemmas.List.{length-append}
use Rattle.std.proofs.lemmas.List.Elements.{All-push}
use Rattle.ddr_statistics.specs.Tally.{Tally}
use Rattle.ddr_counting.specs.Noting.{IsNotedOf}
use Rattle.ddr_counting.proofs.noting.none_counted.Goals as goal

pub loop-preserved : goal.loop-preserved
loop-preserved c =
    let config = c.args.config.now in
    let t = c.open.result in
    record {
      many = ap (λ (xs : List Tally). length xs) c.in_ok-push.ensures.items ∙ length-append c.loop.all.items (t ∷ []) ∙ omega (arith, c.loop.invariant.many);
      each = subst (All (IsNotedOf config [])) (sym c.in_ok-push.ensures.items) (All-push (IsNotedOf config []) c.loop.all.items t c.loop.invariant.each (record {
        geometry = c.open.ensures.geometry;
        timing = c.open.ensures.timing;
        start = c.open.ensures.start;
        stands = λ placed few. c.open.ensures.stands;
      }));
    }
