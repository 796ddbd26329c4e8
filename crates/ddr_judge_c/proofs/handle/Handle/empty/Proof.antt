-- `empty` makes a handle that owns nothing.
use Rattle.ddr_loose.proofs.Handles.{empty_meets}
use Rattle.ddr_judge_c.specs.contracts.handle.Handle as handle
use Rattle.ddr_judge_c.specs.contracts.handle.Handle.empty.Key.{name}
use Rattle.ddr_judge_c.proofs.HandleLemmas.{is_handle}
use Rattle.ddr_judge_c.proofs.handle.Handle.empty.Statement.{statement}
use Rattle.ddr_judge_c.proofs.handle.Handle.empty.Code as code

pub empty_spec : {M : Type 1} → statement M
empty_spec 𝓤 𝓛 𝓜 𝓡 wired = empty_meets 𝓤 𝓛 𝓜 𝓡 handle.struct.name is_handle name (code.unfolded 𝓤 𝓛.H 𝓜 𝓡 wired)
