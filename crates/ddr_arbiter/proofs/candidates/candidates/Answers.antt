-- Some are of the kind that is served first, or all are of the other.
use Rattle.std.proofs.Common.{sym, ◌∙◌}
use Rattle.ddr_arbiter.proofs.CandidateLemmas.{other_places, served_places}
use Rattle.ddr_arbiter.proofs.candidates.candidates.Goals as goal

pub returns-then-has_any-clause-places : goal.returns-then-has_any-clause-places
returns-then-has_any-clause-places c = λ refreshes forced.
    served_places c.args.now c.args.cap c.args.drain c.args.pending.now.waiting refreshes c.args.forced.now c.served_kind.result c.len.result c.requires.inside forced
    (sym c.in_default.ensures) c.served_kind.ensures c.len.ensures.exact (sym c.has_any.ensures ∙ c.if-has_any.true)

pub returns-else-has_any-clause-places : goal.returns-else-has_any-clause-places
returns-else-has_any-clause-places c = λ refreshes forced.
    other_places c.args.now c.args.cap c.args.drain c.args.pending.now.waiting refreshes c.args.forced.now c.served_kind.result c.other_kind.result c.len.result c.requires.inside forced
    (sym c.in_default.ensures) c.served_kind.ensures c.other_kind.ensures c.len.ensures.exact (sym c.has_any.ensures ∙ c.if-has_any.false)
