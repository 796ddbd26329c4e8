-- What the channels' parts of a round tell is what their traces count more.
use Rattle.std.proofs.Common.{◌≡◌, ◌≢◌, ◌<◌, ◌≤◌, ◌+◌, ◌∙◌, ℕ, zero, suc, Bool, true, false, cond, eqb, List, [], ◌∷◌, ◌++◌, append-nil, Option, Some, None, length, length-append, inl, inr, refl, sym, ap, subst, arith}
use Rattle.std.specs.List.{slice_get}
use Rattle.std.specs.Option.{option_and_then, option_map_or}
use Rattle.std.proofs.lemmas.Bool.{cases_lt, eq-eqb, ne_eqb}
use Rattle.ddr_trace.specs.declared.command.Entry.{Entry}
use Rattle.ddr_statistics.specs.Visits.{finding}
use Rattle.ddr_statistics.proofs.CountLemmas.{count_behind-push}
use Rattle.ddr_channel.specs.declared.issued.Issued.{Issued}
use Rattle.ddr_channel.specs.Told.{issued_in}
use Rattle.ddr_world.specs.Events.{Take}
use Rattle.ddr_world.specs.Promise.{trace_at}
use Rattle.ddr_world.specs.State.{ChannelSide, State}
use Rattle.ddr_rounds.specs.declared.told.Told.{Told}
use Rattle.ddr_rounds.specs.declared.told.Told.TheVariants as tell
use Rattle.ddr_rounds.specs.Rounds.{channel_served, channels_served, until_refused}
use Rattle.ddr_rounds.specs.Telling.{channel_told, channels_told, entries_told, issue_told}
use Rattle.ddr_rounds.proofs.TraceLemmas.{channel_traced}
use Rattle.ddr_replay_counts.proofs.HistoryLemmas.{Test, passed, test_at}
use Rattle.ddr_replay_counts.proofs.GainLemmas.{gains, gains_both}
use Rattle.ddr_replay_counts.proofs.SumLemmas.{counted_if, over, over_more, over_same}

abbrev pub all_passed : Test → ℕ → State → ℕ
all_passed test channels s = over (λ c. passed test (trace_at s c)) channels

-- what is told of a channel's part, if its cycle issues a command
part_issue : (c : ℕ) (s : State) → (o : Option Issued) × (channel_told c s ≡ issue_told c o)
part_issue c s = by_side (slice_get (until_refused (Take c) s).channels c)
  where
    by_side : (o : Option ChannelSide)
        → (i : Option Issued) × (option_map_or (λ (side : ChannelSide). issue_told c (issued_in side.channel)) o [] ≡ issue_told c i)
    by_side None = (None, refl)
    by_side (Some side) = (issued_in side.channel, refl)

-- it is in its own trace, and in no other
own_entry : (c : ℕ) (i : Issued) → entries_told c (tell.Issued c i ∷ []) ≡ i.entry ∷ []
own_entry c i = ap (λ (b : Bool). cond b (i.entry ∷ []) [] ++ []) (eq-eqb c c refl)

no_entry : (c d : ℕ) (o : Option Issued) → c ≢ d → entries_told d (issue_told c o) ≡ []
no_entry c d None other = refl
no_entry c d (Some i) other = ap (λ (b : Bool). cond b (i.entry ∷ []) [] ++ []) (ne_eqb c d other)

beside : (c d : ℕ) (o : Option Issued) (before after : List Entry) → c ≢ d → after ≡ before ++ entries_told d (issue_told c o)
    → after ≡ before
beside c d o before after other traced = traced ∙ ap (λ (es : List Entry). before ++ es) (no_entry c d o other) ∙ append-nil before

one_passed : (test : Test) (trace before after : List Entry) (e : Entry) → before ≡ trace → after ≡ before ++ e ∷ []
    → passed test after ≡ passed test before + counted_if (test e.command (finding trace e.command))
one_passed test trace before after e same traced =
    ap (passed test) traced ∙ count_behind-push (test_at test) before e
    ∙ ap (λ (es : List Entry). passed test before + counted_if (test e.command (finding es e.command))) same

issue_counts : (test : Test) (s mid done : State) (channels c : ℕ) (o : Option Issued) → c < channels → trace_at mid c ≡ trace_at s c
    → ((d : ℕ) → trace_at done d ≡ trace_at mid d ++ entries_told d (issue_told c o))
    → all_passed test channels done ≡ all_passed test channels mid + gains test s (issue_told c o)
issue_counts test s mid done channels c None inside same traced =
    let still : all_passed test channels done ≡ all_passed test channels mid =
    over_same (λ d. passed test (trace_at mid d)) (λ d. passed test (trace_at done d)) channels
    (λ d below. ap (passed test) (traced d ∙ append-nil (trace_at mid d))) in
    omega (arith, still)
issue_counts test s mid done channels c (Some i) inside same traced =
    let by = counted_if (test i.entry.command (finding (trace_at s c) i.entry.command)) in
    let here : passed test (trace_at done c) ≡ passed test (trace_at mid c) + by =
    one_passed test (trace_at s c) (trace_at mid c) (trace_at done c) i.entry same
    (traced c ∙ ap (λ (es : List Entry). trace_at mid c ++ es) (own_entry c i)) in
    let more : all_passed test channels done ≡ all_passed test channels mid + by =
    over_more (λ d. passed test (trace_at mid d)) (λ d. passed test (trace_at done d)) channels c by inside here
    (λ d other. ap (passed test) (beside c d (Some i) (trace_at mid d) (trace_at done d) (λ e. other (sym e)) (traced d))) in
    omega (arith, more)

-- the parts of the first so many channels leave the traces of those behind them, and add at most one command to each
record AreTraced (n : ℕ) (s done : State) : Type 0 where
  later : (d : ℕ) → n ≤ d → trace_at done d ≡ trace_at s d
  short : (d : ℕ) → length (trace_at done d) ≤ length (trace_at s d) + 1

few_entries : (c d : ℕ) (o : Option Issued) → length (entries_told d (issue_told c o)) ≤ 1
few_entries c d None = omega arith
few_entries c d (Some i) = by_test (eqb c d)
  where
    by_test : (b : Bool) → length (cond b (i.entry ∷ []) [] ++ []) ≤ 1
    by_test true = omega arith
    by_test false = omega arith

next_traced : (c : ℕ) (s mid done : State) → AreTraced c s mid → channel_served c mid ≡ Some done → AreTraced (suc c) s done
next_traced c s mid done before served =
    let part = part_issue c mid in
    let told = issue_told c part.0 in
    let traced : (d : ℕ) → trace_at done d ≡ trace_at mid d ++ entries_told d told =
    λ d. channel_traced d c mid done served ∙ ap (λ (xs : List Told). trace_at mid d ++ entries_told d xs) part.1 in
    record {
      later = λ d above.
          beside c d part.0 (trace_at mid d) (trace_at done d) (λ same. absurd (omega (arith, above, same))) (traced d)
          ∙ before.later d (omega (arith, above));
      short = λ d. elim (cases_lt d c) as (λ _. length (trace_at done d) ≤ length (trace_at s d) + 1) [
        | inl early ↦ (
            let same : length (trace_at done d) ≡ length (trace_at mid d) =
            ap (λ (es : List Entry). length es)
            (beside c d part.0 (trace_at mid d) (trace_at done d) (λ e. absurd (omega (arith, early, e))) (traced d)) in
            omega (arith, same, before.short d))
        | inr late ↦ (
            let long : length (trace_at done d) ≡ length (trace_at mid d) + length (entries_told d told) =
            ap (λ (es : List Entry). length es) (traced d) ∙ length-append (trace_at mid d) (entries_told d told) in
            let same : length (trace_at mid d) ≡ length (trace_at s d) = ap (λ (es : List Entry). length es) (before.later d late) in
            omega (arith, long, same, few_entries c d part.0))
      ];
    }

after_part : (c : ℕ) (s done : State) (o : Option State) → ((mid : State) → o ≡ Some mid → AreTraced c s mid)
    → option_and_then (channel_served c) o ≡ Some done → AreTraced (suc c) s done
after_part c s done None before served = absurd (let impossible = served in cc)
after_part c s done (Some mid) before served = next_traced c s mid done (before mid refl) served

parts_traced : (n : ℕ) (s done : State) → channels_served n s ≡ Some done → AreTraced n s done
parts_traced zero s done served =
    let here : s ≡ done = cc in
    subst (AreTraced 0 s) here (record { later = λ d above. refl; short = λ d. omega arith })
parts_traced (suc c) s done served = after_part c s done (channels_served c s) (λ mid is. parts_traced c s mid is) served

pub channels_short : (channels : ℕ) (s done : State) → channels_served channels s ≡ Some done → (d : ℕ)
    → length (trace_at done d) ≤ length (trace_at s d) + 1
channels_short channels s done served = (parts_traced channels s done served).short

-- and what they tell is counted

abbrev Gains : Test → ℕ → State → State → List Told → Type 0
Gains test channels s done told = all_passed test channels done ≡ all_passed test channels s + gains test s told

next_gains : (test : Test) (channels c : ℕ) (s mid done : State) (told : List Told) → c < channels → AreTraced c s mid
    → Gains test channels s mid told → channel_served c mid ≡ Some done → Gains test channels s done (told ++ channel_told c mid)
next_gains test channels c s mid done told inside traces before served =
    let part = part_issue c mid in
    let traced : (d : ℕ) → trace_at done d ≡ trace_at mid d ++ entries_told d (issue_told c part.0) =
    λ d. channel_traced d c mid done served ∙ ap (λ (xs : List Told). trace_at mid d ++ entries_told d xs) part.1 in
    let here = issue_counts test s mid done channels c part.0 inside (traces.later c (omega arith)) traced in
    let told_here : gains test s (channel_told c mid) ≡ gains test s (issue_told c part.0) = ap (gains test s) part.1 in
    omega (arith, here, told_here, before, gains_both test s told (channel_told c mid))

part_gains : (test : Test) (channels c : ℕ) (s done : State) (told : List Told) (o : Option State) → c < channels → channels_served c s ≡ o
    → ((mid : State) → o ≡ Some mid → Gains test channels s mid told) → option_and_then (channel_served c) o ≡ Some done
    → Gains test channels s done (told ++ option_map_or (channel_told c) o [])
part_gains test channels c s done told None inside are before served = absurd (let impossible = served in cc)
part_gains test channels c s done told (Some mid) inside are before served =
    next_gains test channels c s mid done told inside (parts_traced c s mid are) (before mid refl) served

parts_gain : (test : Test) (channels n : ℕ) (s done : State) → n ≤ channels → channels_served n s ≡ Some done
    → Gains test channels s done (channels_told n s)
parts_gain test channels zero s done few served =
    let here : s ≡ done = cc in
    let same : all_passed test channels s ≡ all_passed test channels done = ap (all_passed test channels) here in
    omega (arith, same)
parts_gain test channels (suc c) s done few served =
    part_gains test channels c s done (channels_told c s) (channels_served c s) (omega (arith, few)) refl
    (λ mid is. parts_gain test channels c s mid (omega (arith, few)) is) served

-- of all of them
pub channels_gain : (test : Test) (channels : ℕ) (s done : State) → channels_served channels s ≡ Some done
    → all_passed test channels done ≡ all_passed test channels s + gains test s (channels_told channels s)
channels_gain test channels s done served = parts_gain test channels channels s done (omega arith) served
