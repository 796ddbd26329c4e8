use Rattle.std.proofs.Common.{arith, ap, length, option_map}
use Rattle.std.proofs.lemmas.Grind.{common_steps}
use Rattle.ddr_findings.specs.Faults.{related}
use Rattle.ddr_findings.proofs.Found.{found_more}
use Rattle.ddr_findings.proofs.faults.add_relations.Goals as goal

pub loop-found-preserved : goal.loop-found-preserved
loop-found-preserved c =
    found_more (option_map related) c.relations-relations.result c.loop-found.found-index _ _ _ _ _ (omega (arith, ap length c.relations-relations.ensures)) (grind (arith, common_steps)) c.related.ensures c.loop-found.invariant c.in_ok-add.ensures
