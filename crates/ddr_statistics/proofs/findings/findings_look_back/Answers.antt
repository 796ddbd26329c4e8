use Rattle.ddr_statistics.proofs.FindingLemmas.{looks_back}
use Rattle.ddr_statistics.proofs.findings.findings_look_back.Goals as goal

pub returns : goal.returns
returns c = looks_back
