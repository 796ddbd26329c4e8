use Rattle.std.proofs.Common.{◌≡◌, ◌∷◌, [], ◌++◌, rules, sym, ap, true, false, ◌∙◌}
use Rattle.ddr_draw.specs.Sketch.{bars_before, behind, is_gone}
use Rattle.ddr_draw.proofs.KeptLemmas.{ended_bar, ended_gone, ended_kept, first_kept, rest_kept}
use Rattle.ddr_draw.proofs.kept_bars.ended.Goals as goal

pub bars-preserved-in_ok-push : goal.bars-preserved-in_ok-push
bars-preserved-in_ok-push c =
    let config = c.args.config.now in
    let first : c.bars.rest.now ≡ c.in-Some.bar.now ∷ c.in-Some.others.now = search rules in
    let grown : c.push.new.self.items ≡ c.bars.kept.items ++ behind c.in-Some.bar.now c.args.entry.now ∷ [] = search rules in
    let stays : is_gone config c.args.view.now (behind c.in-Some.bar.now c.args.entry.now).entry (behind c.in-Some.bar.now c.args.entry.now).next ≡ false = search rules in
    record {
      shown = λ v later within.
          c.bars.invariant.shown v later within
          ∙ ap (λ rest. bars_before config v c.bars.kept.items later ++ bars_before config v rest (c.args.entry.now ∷ later)) first
          ∙ ended_kept config v c.in-Some.bar.now c.args.entry.now c.in-Some.others.now c.bars.kept.items later
          ∙ ap (λ kept. bars_before config v kept later ++ bars_before config v c.in-Some.others.now (c.args.entry.now ∷ later)) (sym grown);
      kept = λ all. rw grown (ended_bar config c.args.view.now c.bars.kept.items (behind c.in-Some.bar.now c.args.entry.now) (c.bars.invariant.kept all)
          (first_kept config c.args.view.now c.in-Some.bar.now c.in-Some.others.now (rw first at (c.bars.invariant.rest all))) stays);
      rest = λ all. rest_kept config c.args.view.now c.in-Some.bar.now c.in-Some.others.now (rw first at (c.bars.invariant.rest all));
    }

pub bars-preserved : goal.bars-preserved
bars-preserved c =
    let config = c.args.config.now in
    let first : c.bars.rest.now ≡ c.in-Some.bar.now ∷ c.in-Some.others.now = search rules in
    let gone : is_gone config c.args.view.now (behind c.in-Some.bar.now c.args.entry.now).entry (behind c.in-Some.bar.now c.args.entry.now).next ≡ true = search rules in
    record {
      shown = λ v later within.
          c.bars.invariant.shown v later within
          ∙ ap (λ rest. bars_before config v c.bars.kept.items later ++ bars_before config v rest (c.args.entry.now ∷ later)) first
          ∙ ended_gone config v c.args.view.now c.in-Some.bar.now c.args.entry.now c.in-Some.others.now c.bars.kept.items later within gone;
      kept = c.bars.invariant.kept;
      rest = λ all. rest_kept config c.args.view.now c.in-Some.bar.now c.in-Some.others.now (rw first at (c.bars.invariant.rest all));
    }
