-- The ranks of commands in the geometry, of which there are two at most.
use Rattle.std.proofs.Common.{◌≡◌, ◌≢◌, ℕ, ◌+◌, ◌<◌, ◌≤◌, true, false, ◌==◌, not, List, [], ◌∷◌, None, refl, arith}
use Rattle.std.specs.List.{AllByRecursion, fold}
use Rattle.std.proofs.lemmas.Bool.Decides.{nat_tests}
use Rattle.ddr_timing.specs.declared.geometry.Geometry.{Geometry}
use Rattle.ddr_trace.specs.declared.command.Command.{Command}
use Rattle.ddr_trace.specs.declared.command.Command.TheVariants.{Act, Rd, Wr, RdAuto, WrAuto, Pre, PreAll, Refresh}
use Rattle.ddr_trace.specs.declared.command.Entry.{Entry}
use Rattle.ddr_trace.specs.Banks.{bank_after, bank_behind}
use Rattle.ddr_trace.specs.Commands.{is_same_bank, rank_of}
use Rattle.ddr_trace.specs.Rules.{is_in}

pub rank_within : (g : Geometry) (c : Command) → is_in g c ≡ true → rank_of c < g.ranks
rank_within g (Act k n b w) h = grind (arith, nat_tests)
rank_within g (Rd k n b w l) h = grind (arith, nat_tests)
rank_within g (Wr k n b w l) h = grind (arith, nat_tests)
rank_within g (RdAuto k n b w l) h = grind (arith, nat_tests)
rank_within g (WrAuto k n b w l) h = grind (arith, nat_tests)
rank_within g (Pre k n b) h = grind (arith, nat_tests)
rank_within g (PreAll k) h = grind (arith, nat_tests)
rank_within g (Refresh k) h = grind (arith, nat_tests)

pub second_rank : (g : Geometry) (c : Command) → is_in g c ≡ true → rank_of c ≢ 0 → rank_of c ≡ 1
second_rank g c placed other = omega (arith, rank_within g c placed, g.ranks_range)

pub not_rank : (m n : ℕ) → m ≢ n → (m == n) ≡ false
not_rank m n apart = grind (arith, nat_tests)

pub same_rank : (n : ℕ) → (n == n) ≡ true
same_rank n = grind (arith, nat_tests)

-- of two ranks, the one that isn't this one is the other
pub other_rank : (m n other : ℕ) → m < 2 → n + other ≡ 1 → not (m == n) ≡ (m == other)
other_rank m n other two one = grind (arith, nat_tests)

-- nothing was issued to a rank that there isn't
untouched : (rank group bank : ℕ) (history : List Entry) → AllByRecursion (λ e. is_same_bank e.command (Pre rank group bank) ≡ false) history → fold (bank_after (Pre rank group bank)) None history ≡ None
untouched rank group bank [] other = refl
untouched rank group bank (a ∷ history) other =
    rw other.0 (untouched rank group bank history other.1)

outside : (g : Geometry) (rank group bank : ℕ) (history : List Entry) → g.ranks ≤ rank → AllByRecursion (λ e. is_in g e.command ≡ true) history → AllByRecursion (λ e. is_same_bank e.command (Pre rank group bank) ≡ false) history
outside g rank group bank [] beyond placed = tt
outside g rank group bank (a ∷ history) beyond placed =
    let apart : rank_of a.command ≢ rank = omega (arith, rank_within g a.command placed.0) in
    (rw (not_rank (rank_of a.command) rank apart) refl, outside g rank group bank history beyond placed.1)

pub beyond_idle : (g : Geometry) (rank group bank : ℕ) (history : List Entry) → g.ranks ≤ rank → AllByRecursion (λ e. is_in g e.command ≡ true) history → bank_behind (Pre rank group bank) history ≡ None
unfolding bank_behind
beyond_idle g rank group bank history beyond placed =
    untouched rank group bank history (outside g rank group bank history beyond placed)
