use Rattle.std.proofs.Common.{arith}
use Rattle.std.proofs.lemmas.Grind.{common_steps}
use Rattle.toml.specs.View.{table_view}
use Rattle.ddr_findings.specs.Faults.{key_fault}
use Rattle.ddr_findings.proofs.Found.{found_more}
use Rattle.ddr_findings.proofs.faults.add_key_faults.Goals as goal

pub loop-key-preserved : goal.loop-key-preserved
loop-key-preserved c =
    found_more (key_fault (table_view c.args.table.now)) c.keys-key-items.result.now c.loop-key.key-index _ _ _ _ _ (omega arith) (grind (arith, common_steps)) c.in_ok-found.ensures c.loop-key.invariant c.in_ok-add.ensures
