-- Commands in the geometry, and where banks stand in a list.
use Rattle.std.proofs.Common.{◌≡◌, ◌≢◌, ℕ, ◌+◌, ◌*◌, ◌<◌, ◌≤◌, Bool, true, false, ◌&&◌, ◌==◌, refl, arith}
use Rattle.std.proofs.lemmas.Bool.Decides.{nat_tests}
use Rattle.ddr_timing.specs.declared.geometry.Geometry.{Geometry}
use Rattle.ddr_timing.specs.declared.units.TheConstants.{GROUP_BANKS, MOST_GROUPS, MOST_RANKS}
use Rattle.ddr_trace.specs.declared.command.Command.{Command}
use Rattle.ddr_trace.specs.declared.command.Command.TheVariants.{Act, Rd, Wr, RdAuto, WrAuto, Pre, PreAll, Refresh}
use Rattle.ddr_trace.specs.Commands.{group_of, rank_of}
use Rattle.ddr_trace.specs.Rules.{is_in}
use Rattle.ddr_trace.proofs.PlaceLemmas.{group_in}

pub same_number : (n : ℕ) → (n == n) ≡ true
same_number n = grind (arith, nat_tests)

pub and_false : (a : Bool) → (a && false) ≡ false
and_false true = refl
and_false false = refl

groups_fit : (g : Geometry) → g.groups ≤ 4
groups_fit g = grind (arith, nat_tests, g.groups_are)

pub rank_fits : (g : Geometry) (k : ℕ) → k < g.ranks → k < MOST_RANKS
rank_fits g k h = omega (arith, g.ranks_range)

pub rank_in : (g : Geometry) (c : Command) → is_in g c ≡ true → rank_of c < MOST_RANKS
rank_in g (Act k n b w) h = rank_fits g k (grind (arith, nat_tests))
rank_in g (Rd k n b w l) h = rank_fits g k (grind (arith, nat_tests))
rank_in g (Wr k n b w l) h = rank_fits g k (grind (arith, nat_tests))
rank_in g (RdAuto k n b w l) h = rank_fits g k (grind (arith, nat_tests))
rank_in g (WrAuto k n b w l) h = rank_fits g k (grind (arith, nat_tests))
rank_in g (Pre k n b) h = rank_fits g k (grind (arith, nat_tests))
rank_in g (PreAll k) h = rank_fits g k (grind (arith, nat_tests))
rank_in g (Refresh k) h = rank_fits g k (grind (arith, nat_tests))

pub group_fits_in : (g : Geometry) (c : Command) → is_in g c ≡ true → group_of c < MOST_GROUPS
group_fits_in g c h = omega (arith, groups_fit g, group_in g c h)

-- the bank at the place of another one
pub apart : (g b g' b' : ℕ) → b < GROUP_BANKS → b' < GROUP_BANKS → (g == g' && b == b') ≡ false → g' * GROUP_BANKS + b' ≢ g * GROUP_BANKS + b
apart g b g' b' bank bank' e = grind (arith, nat_tests)
