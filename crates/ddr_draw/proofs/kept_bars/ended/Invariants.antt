use Rattle.std.proofs.Common.{◌≡◌, ◌∷◌, ◌++◌, List, length, true}
use Rattle.ddr_trace.specs.declared.command.Entry.{Entry}
use Rattle.ddr_draw.specs.declared.view.View.{View}
use Rattle.ddr_draw.specs.Sketch.{IsWithin, are_bars_kept, bars_before}
use Rattle.ddr_draw.proofs.kept_bars.ended.Given as goal

-- those before are behind the command, and the rest is not yet
abbrev pub invariant-bars : goal.invariant-bars
invariant-bars l = record {
  shown : (v : View) (later : List Entry) → IsWithin v l.view
      → bars_before l.config v l.bars (l.entry ∷ later) ≡ bars_before l.config v l.kept.items later ++ bars_before l.config v l.rest (l.entry ∷ later);
  kept : are_bars_kept l.config l.view l.bars ≡ true → are_bars_kept l.config l.view l.kept.items ≡ true;
  rest : are_bars_kept l.config l.view l.bars ≡ true → are_bars_kept l.config l.view l.rest ≡ true;
}

abbrev pub decreases-bars : goal.decreases-bars
decreases-bars l = length l.rest
