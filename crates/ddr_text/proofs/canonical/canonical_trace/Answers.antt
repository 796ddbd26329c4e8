use Rattle.std.proofs.Common.{refl, rules}
use Rattle.ddr_text.proofs.CanonicalLemmas.{header_first, text_whole}
use Rattle.ddr_text.proofs.canonical.canonical_trace.Goals as goal

pub lines-init : goal.lines-init
lines-init c = record {
  few = search rules;
  fits = search rules;
  whole = rw c.new-entries.ensures.items (header_first c.args.text.now c.in_ok-rest.rest.now c.in_ok-rest.ensures);
}

pub returns : goal.returns
returns c = record {
  start = refl;
  fits = record {
    few = c.lines.invariant.few;
    within = c.lines.invariant.fits;
    ends = c.in_ok-end.ensures.early;
  };
  written = text_whole c.args.text.now c.lines.rest.now c.lines.entries.items c.in_ok-end.end c.lines.invariant.whole c.in_ok-end.ensures.line;
}
