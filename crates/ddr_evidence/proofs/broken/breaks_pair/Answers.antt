-- No entry before those that are looked at is too close.
use Rattle.std.proofs.Common.{sym, ◌∙◌}
use Rattle.std.proofs.lemmas.List.{take_rest}
use Rattle.ddr_evidence.proofs.RecentLemmas.{not_later, pair_behind}
use Rattle.ddr_evidence.proofs.broken.breaks_pair.Goals as goal

pub returns-then-not-is_later : goal.returns-then-not-is_later
returns-then-not-is_later c = sym (not_later c.args.timing.now c.args.rule c.args.history.now c.args.entry.now c.requires.rule (sym c.is_later.ensures ∙ c.if-not-is_later.true))

pub returns : goal.returns
returns c =
    let near = rw take_rest at c.too_close.ensures.broken in
    let far = rw c.span_of.ensures at c.first_within-from.ensures.far in
    c.is_some.ensures ∙ near ∙ sym (pair_behind c.args.timing.now c.args.rule c.args.history.now c.args.entry.now c.first_within-from.result c.requires.rule far)
