-- What a handle owns: the block of the value that it holds, and nothing where it holds none.
use Rattle.std.specs.Prelude.{Option, None, Some}
use base.Fml.{Fml, ftrue}
use denote.RattleType.{RattleType}
use denote.RawPtr.{Ptr}
use Rattle.std.specs.declared.alloc.Global.{Global}
use Rattle.std.specs.contracts.impls.GlobalAllocator.TheImpl.{ghosts}
use Rattle.std.specs.Box.Ownership.{box_owns}

abbrev pub held : (R : RattleType) → Option R.Denot → Global → Ptr → Fml
held R (Some value) a p = box_owns (ghosts.dealloc_token a) R p value
held R None a p = ftrue
