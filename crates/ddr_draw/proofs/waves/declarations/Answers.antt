-- The pieces of the text.
use Rattle.ddr_draw.specs.Waves.{declarations}
use Rattle.ddr_draw.proofs.waves.declarations.Goals as goal

pub returns : goal.returns
unfolding declarations
returns c = simp (c.in_ok-banks.ensures, c.in_ok-idle.ensures) at c.format.ensures.ok
