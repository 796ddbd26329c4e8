-- `into_loose` takes out the box's pointer with what it owns, whatever value that is.
use Rattle.ddr_loose.proofs.Handles.{into_loose_meets}
use Rattle.ddr_judge_c.specs.contracts.handle.Handle as handle
use Rattle.ddr_judge_c.specs.contracts.handle.Handle.into_loose.Key.{name}
use Rattle.ddr_judge_c.proofs.HandleLemmas.{is_handle}
use Rattle.ddr_judge_c.proofs.handle.Handle.into_loose.Statement.{statement}
use Rattle.ddr_judge_c.proofs.handle.Handle.into_loose.Code as code

pub into_loose_spec : {M : Type 1} → statement M
into_loose_spec 𝓤 𝓛 𝓜 𝓡 wired = into_loose_meets 𝓤 𝓛 𝓜 𝓡 handle.struct.name is_handle name (code.unfolded 𝓤 𝓛.H 𝓜 𝓡 wired)
