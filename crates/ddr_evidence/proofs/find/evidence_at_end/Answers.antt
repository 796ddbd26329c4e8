-- No rank so far is late.
use Rattle.std.proofs.Common.{arith, sym, below_more}
use Rattle.ddr_evidence.proofs.FindLemmas.{ends_behind, ends_in_time}
use Rattle.ddr_evidence.proofs.find.evidence_at_end.Goals as goal

pub loop-rank-preserved : goal.loop-rank-preserved
loop-rank-preserved c = below_more _ _ c.loop-rank.invariant (sym c.in_default.ensures.broken)

pub returns-in-Some-clause-broken : goal.returns-in-Some-clause-broken
returns-in-Some-clause-broken c =
    sym (ends_behind c.args.config.now c.args.start c.args.end c.args.entries.now c.loop-rank.rank c.loop-rank-test.true (sym c.in-Some.ensures.broken))

pub returns-clause-broken : goal.returns-clause-broken
returns-clause-broken c =
    let all = c.loop-rank-test.false in
    sym (ends_in_time c.args.config.now c.args.start c.args.end c.args.entries.now (λ rank below. c.loop-rank.invariant rank (omega (arith, below, all))))
