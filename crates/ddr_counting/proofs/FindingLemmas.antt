-- How a channel's next command finds its bank, as what was counted of its earlier ones tells it.
use Rattle.std.proofs.Common.{◌≡◌, ℕ, zero, suc, ◌<◌, Bool, true, List, [], ◌∷◌, All, Option, Some, None, IsTrue, length, refl, sym, ap, subst, ◌∙◌, arith, if◌then◌else◌}
use Rattle.std.specs.List.{fold, slice_get}
use Rattle.std.specs.Option.{option_map_or}
use Rattle.ddr_timing.specs.declared.config.Config.{Config}
use Rattle.ddr_timing.specs.declared.geometry.Geometry.{Geometry}
use Rattle.ddr_timing.specs.declared.units.TheConstants.{CLOCK_STOP}
use Rattle.ddr_trace.specs.declared.command.Command.{Command}
use Rattle.ddr_trace.specs.declared.command.Entry.{Entry}
use Rattle.ddr_trace.specs.Commands.{rank_of}
use Rattle.ddr_trace.specs.Rules.{is_in}
use Rattle.ddr_statistics.specs.declared.counts.Finding.{Finding}
use Rattle.ddr_statistics.specs.Noted.{found_in, new_rank}
use Rattle.ddr_statistics.specs.Stands.{StandsFor, rank_at}
use Rattle.ddr_statistics.specs.Tally.{Tally}
use Rattle.ddr_statistics.specs.Visits.{finding}
use Rattle.ddr_trace.proofs.PlaceLemmas.{bank_in}
use Rattle.ddr_statistics.proofs.PlaceLemmas.{group_fits_in, rank_in}
use Rattle.ddr_statistics.proofs.StandLemmas.{finding_told}
use Rattle.ddr_rounds.specs.declared.told.Told.{Told}
use Rattle.ddr_rounds.specs.Telling.{entries_told}
use Rattle.ddr_world.specs.Promise.{trace_at}
use Rattle.ddr_world.specs.State.{State}
use Rattle.ddr_counting.specs.Noting.{AreNoted, IsNotedOf, all_counted, finding_at, finding_of, heard}
use Rattle.ddr_counting.proofs.NotingLemmas.{come_all, many_all}

some_at : (all : List Tally) (c : ℕ) → c < length all → (t : Tally) × (slice_get all c ≡ Some t)
some_at [] c within = absurd (omega (arith, within))
some_at (t ∷ more) zero within = (t, refl)
some_at (t ∷ more) (suc c) within = some_at more c (omega (arith, within))

-- of one that was counted
found_is : (config : Config) (h : List Entry) (t : Tally) (command : Command) → IsNotedOf config h t → All (λ e. IsTrue (is_in config.geometry e.command)) h → length h < CLOCK_STOP → is_in config.geometry command ≡ true → finding_of command t ≡ finding h command
found_is config h t command is placed few inside =
    let here : is_in t.geometry command ≡ true = ap (λ (g : Geometry). is_in g command) is.geometry ∙ inside in
    ap (λ (b : Bool). if b then found_in (rank_at t (rank_of command)) command else None) here
    ∙ finding_told t h command (rank_of command) (found_in (rank_at t (rank_of command)) command) new_rank refl refl (is.stands placed few)
    (rank_in config.geometry command inside) (group_fits_in config.geometry command inside) (bank_in config.geometry command inside)

-- of a channel of which nothing more was told
pub found_at : (config : Config) (s : State) (all : List Tally) (told : List Told) (c : ℕ) (command : Command) → AreNoted config s all → c < config.geometry.channels → entries_told c told ≡ []
    → All (λ e. IsTrue (is_in config.geometry e.command)) (trace_at s c) → length (trace_at s c) < CLOCK_STOP → is_in config.geometry command ≡ true → finding_at (fold heard all told) c command ≡ finding (trace_at s c) command
found_at config s all told c command k within none placed few inside =
    let there = some_at (fold heard all told) c (omega (arith, within, k.many, many_all told all)) in
    let come = come_all told all c there.0 there.1 in
    let same : there.0 ≡ come.first = come.is ∙ ap (all_counted come.first) none in
    ap (λ (o : Option Tally). option_map_or (finding_of command) o None) there.1
    ∙ ap (finding_of command) same
    ∙ found_is config (trace_at s c) come.first command (k.each c come.first come.there) placed few inside
