-- `of` keeps what the box's pointer owns, and forgets its value.
use Rattle.ddr_loose.proofs.Handles.{of_meets}
use Rattle.ddr_judge_c.specs.contracts.handle.Handle as handle
use Rattle.ddr_judge_c.specs.contracts.handle.Handle.of.Key.{name}
use Rattle.ddr_judge_c.proofs.HandleLemmas.{is_handle}
use Rattle.ddr_judge_c.proofs.handle.Handle.of.Statement.{statement}
use Rattle.ddr_judge_c.proofs.handle.Handle.of.Code as code

pub of_spec : {M : Type 1} → statement M
of_spec 𝓤 𝓛 𝓜 𝓡 wired = of_meets 𝓤 𝓛 𝓜 𝓡 handle.struct.name is_handle name (code.unfolded 𝓤 𝓛.H 𝓜 𝓡 wired)
