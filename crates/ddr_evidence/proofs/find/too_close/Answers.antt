-- The last earlier entry that breaks the rule.
use Rattle.std.proofs.Common.{rules, sym, ap, is_some, ◌∙◌}
use Rattle.ddr_evidence.proofs.FindLemmas.{pair_broken, pair_kept}
use Rattle.ddr_evidence.proofs.find.too_close.Goals as goal

pub returns-in_err-earlier-clause-broken : goal.returns-in_err-earlier-clause-broken
returns-in_err-earlier-clause-broken c = ap is_some c.from_residual.ensures ∙ sym (pair_kept c.args.timing.now c.args.rule c.args.history.now c.args.entry.now c.in_err-earlier.ensures)

pub returns-clause-broken : goal.returns-clause-broken
returns-clause-broken c = sym (pair_broken c.args.timing.now c.args.rule c.args.history.now c.args.entry.now c.in_ok-earlier.earlier.place c.in_ok-earlier.ensures.0.passes)

pub returns-clause-some : goal.returns-clause-some
returns-clause-some c = (record { there = c.in_ok-earlier.ensures.1; nearest = c.in_ok-earlier.ensures.0; clocks = search rules }, search rules)
