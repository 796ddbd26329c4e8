-- Commands in the geometry have their group and their bank in it.
use Rattle.std.proofs.Common.{◌≡◌, ◌<◌, true, arith}
use Rattle.std.proofs.lemmas.Bool.Decides.{nat_tests}
use Rattle.ddr_timing.specs.declared.geometry.Geometry.{Geometry}
use Rattle.ddr_timing.specs.declared.units.TheConstants.{GROUP_BANKS}
use Rattle.ddr_trace.specs.declared.command.Command.{Command}
use Rattle.ddr_trace.specs.declared.command.Command.TheVariants.{Act, Rd, Wr, RdAuto, WrAuto, Pre, PreAll, Refresh}
use Rattle.ddr_trace.specs.Commands.{bank_of, group_of}
use Rattle.ddr_trace.specs.Rules.{is_in}

some_group : (g : Geometry) → 0 < g.groups
some_group g = grind (arith, nat_tests, g.groups_are)

pub group_in : (g : Geometry) (c : Command) → is_in g c ≡ true → group_of c < g.groups
group_in g (Act k n b w) h = grind (arith, nat_tests)
group_in g (Rd k n b w l) h = grind (arith, nat_tests)
group_in g (Wr k n b w l) h = grind (arith, nat_tests)
group_in g (RdAuto k n b w l) h = grind (arith, nat_tests)
group_in g (WrAuto k n b w l) h = grind (arith, nat_tests)
group_in g (Pre k n b) h = grind (arith, nat_tests)
group_in g (PreAll k) h = some_group g
group_in g (Refresh k) h = some_group g

pub bank_in : (g : Geometry) (c : Command) → is_in g c ≡ true → bank_of c < GROUP_BANKS
bank_in g (Act k n b w) h = grind (arith, nat_tests)
bank_in g (Rd k n b w l) h = grind (arith, nat_tests)
bank_in g (Wr k n b w l) h = grind (arith, nat_tests)
bank_in g (RdAuto k n b w l) h = grind (arith, nat_tests)
bank_in g (WrAuto k n b w l) h = grind (arith, nat_tests)
bank_in g (Pre k n b) h = grind (arith, nat_tests)
bank_in g (PreAll k) h = omega arith
bank_in g (Refresh k) h = omega arith
