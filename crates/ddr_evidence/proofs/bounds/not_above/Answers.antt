-- The last entry is the newest.
use Rattle.std.proofs.Common.{[], ◌∷◌, length, le-ltb, lt-ltb, sym, ap, ◌∙◌, length-append}
use Rattle.std.specs.Prelude.{slice_get}
use Rattle.ddr_trace.specs.Rules.{last_cycle_below}
use Rattle.ddr_trace.proofs.WindowLemmas.{last_cycle_below-append}
use Rattle.ddr_evidence.proofs.PlaceLemmas.{get_seam}
use Rattle.ddr_evidence.proofs.bounds.not_above.Goals as goal

pub returns-then-last-entry : goal.returns-then-last-entry
returns-then-last-entry c = record {
  kept = sym (ap (λ h. last_cycle_below h c.args.entry.now.cycle) c.in_ok-last.ensures.cases.0
      ∙ last_cycle_below-append c.in_ok-last.before.now c.in_ok-last.last.now c.args.entry.now.cycle
      ∙ lt-ltb _ _ c.if-last-entry.true);
  some = tt;
}

pub returns : goal.returns
returns c = record {
  kept = sym (ap (λ h. last_cycle_below h c.args.entry.now.cycle) c.in_ok-last.ensures.cases.0
      ∙ last_cycle_below-append c.in_ok-last.before.now c.in_ok-last.last.now c.args.entry.now.cycle
      ∙ le-ltb _ _ c.if-last-entry.false);
  some = (
    ap (λ h. slice_get h (length c.in_ok-last.before.now)) c.in_ok-last.ensures.cases.0 ∙ get_seam c.in_ok-last.before.now c.in_ok-last.last.now [],
    sym (ap length c.in_ok-last.ensures.cases.0 ∙ length-append c.in_ok-last.before.now (c.in_ok-last.last.now ∷ [])),
    c.if-last-entry.false,
  );
}
