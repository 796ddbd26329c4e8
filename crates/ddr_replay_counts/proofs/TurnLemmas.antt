-- What each turn of a replay keeps holds behind any number of turns, and at the end of a replay.
use Rattle.std.proofs.Common.{◌≡◌, ℕ, zero, suc, Bool, true, false, cond, Option, Some, None, Result, Ok, Err, refl, subst}
use Rattle.std.specs.Option.{option_and_then, option_map_or}
use Rattle.std.specs.Prelude.{◌==◌}
use Rattle.ddr_timing.specs.declared.config.Config.{Config}
use Rattle.ddr_text.specs.declared.fault.Fault.{Fault}
use Rattle.ddr_text.specs.declared.fault.Fault.TheVariants.{ClockSpent, ReplayLimit}
use Rattle.ddr_replay.specs.Runs.{Run, replayed, turn, turns, unserved}

abbrev pub Keeps : Config → (Run → Type 0) → Type 0
Keeps config P = (run next : Run) → turn config run ≡ Some next → P run → P next

-- so many turns

by_turn : (P : Run → Type 0) (last : Run) (later : Run → Option Run) (o : Option Run) → option_and_then later o ≡ Some last
    → ((next : Run) → o ≡ Some next → P next) → ((next : Run) → later next ≡ Some last → P next → P last) → P last
by_turn P last later None made first rest = absurd (let impossible = made in cc)
by_turn P last later (Some next) made first rest = rest next made (first next refl)

pub turns_keep : (config : Config) (P : Run → Type 0) → Keeps config P → (n : ℕ) (run last : Run) → turns config n run ≡ Some last → P run
    → P last
turns_keep config P keeps zero run last made is =
    let same : run ≡ last = cc in
    subst P same is
turns_keep config P keeps (suc n) run last made is =
    by_turn P last (turns config n) (turn config run) made (λ next one. keeps run next one is)
    (λ next more before. turns_keep config P keeps n next last more before)

-- a replay

over_keeps : (P : Run → Type 0) (run last : Run) (b : Bool) (more : Result Run Fault) → cond b (Ok run) more ≡ Ok last → P run
    → (more ≡ Ok last → P last) → P last
over_keeps P run last true more made is on =
    let same : run ≡ last = cc in
    subst P same is
over_keeps P run last false more made is on = on made

by_next : (P : Run → Type 0) (last : Run) (later : Run → Result Run Fault) (o : Option Run)
    → option_map_or later o (Err ClockSpent) ≡ Ok last → ((next : Run) → o ≡ Some next → P next)
    → ((next : Run) → later next ≡ Ok last → P next → P last) → P last
by_next P last later None made first rest = absurd (let impossible = made in cc)
by_next P last later (Some next) made first rest = rest next made (first next refl)

pub replay_keeps : (config : Config) (P : Run → Type 0) → Keeps config P → (n : ℕ) (run last : Run) → replayed config n run ≡ Ok last
    → P run → P last
replay_keeps config P keeps zero run last made is =
    over_keeps P run last (unserved run == 0) (Err ReplayLimit) made is (λ impossible. absurd cc)
replay_keeps config P keeps (suc n) run last made is =
    over_keeps P run last (unserved run == 0) (option_map_or (replayed config n) (turn config run) (Err ClockSpent)) made is
    (λ more. by_next P last (replayed config n) (turn config run) more (λ next one. keeps run next one is) (λ next rest before. replay_keeps config P keeps n next last rest before))
