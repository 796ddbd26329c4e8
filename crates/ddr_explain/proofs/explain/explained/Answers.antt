-- A rule is broken where the verdict says.
use Rattle.std.proofs.Common.{subst}
use Rattle.ddr_trace.specs.Legality.{breaks_at}
use Rattle.ddr_trace.proofs.LowestLemmas.{lowest_passes}
use Rattle.ddr_text.specs.Check.{IsVerdict}
use Rattle.ddr_explain.proofs.explain.explained.Goals as goal

pub reason-requires : goal.reason-requires
reason-requires c =
    let first = subst (IsVerdict c.args.config.now c.args.trace.now) c.in-Some.is c.requires in
    lowest_passes (breaks_at c.args.config.now c.args.trace.now.start c.args.trace.now.end c.args.trace.now.entries c.in-Some.fault.place) c.in-Some.fault.rule first.lowest
