-- What a cycle makes of the oldest request, in a channel of one rank.
use Rattle.std.proofs.Common.{◌≡◌, ℕ, suc, ◌+◌, ◌-◌, ◌*◌, ◌<◌, ◌≤◌, Bool, true, false, ◌&&◌, not, cond, eqb, List, [], ◌∷◌, ◌++◌, length, Option, Some, None, refl, sym, ap, subst, ◌∙◌, ◌⊎◌, inl, inr, arith}
use Rattle.std.specs.List.{find, remove, slice_get}
use Rattle.std.specs.Option.{IfSome, option_map, option_map_or}
use Rattle.std.proofs.Math.Nat.{suc-mul}
use Rattle.std.proofs.lemmas.Bool.{and_parts, cases_lt, eq-eqb, le-leb, ltb-true, false≢true}
use Rattle.std.proofs.lemmas.Option.{slice_get_within}
use Rattle.ddr_timing.specs.declared.config.Config.{Config}
use Rattle.ddr_trace.specs.declared.command.Command.{Command}
use Rattle.ddr_trace.specs.declared.command.Command.TheVariants.{Refresh}
use Rattle.ddr_trace.specs.Commands.{entry, is_refresh, rank_of}
use Rattle.ddr_trace.specs.Rules.{is_bank_in, refresh_count}
use Rattle.ddr_latency.specs.Latency as clocks
use Rattle.ddr_address_map.specs.declared.place.Place.{Place}
use Rattle.ddr_address_map.specs.declared.request.Kind.{Kind}
use Rattle.ddr_address_map.specs.declared.request.Kind.TheVariants.{Read, Write}
use Rattle.ddr_legality.specs.Bus.{Bus, is_legal_now}
use Rattle.ddr_hazards.specs.declared.waiting.Waiting.{Waiting}
use Rattle.ddr_refresh.specs.Refreshes.{Refreshes, is_forced}
use Rattle.ddr_arbiter.specs.declared.choice.Choice.{Choice}
use Rattle.ddr_arbiter.specs.declared.choice.Choice.TheVariants as choice
use Rattle.ddr_arbiter.specs.Choice.{can_activate, first_choice, has_age, is_on_other_row, is_overdue, is_rank_forced, is_rank_idle, is_row_shared, is_something, refresh_choice, refresh_choice_at}
use Rattle.ddr_arbiter.specs.Commands.{activate_at, column_at, column_of, precharge_at, refresh}
use Rattle.ddr_arbiter.specs.Laws.{column_place_of, command_of, refreshed_rank}
use Rattle.ddr_arbiter.specs.Situation.{Situation}
use Rattle.ddr_arbiter.proofs.ChoiceLemmas.{refresh_chosen}
use Rattle.ddr_channel.specs.Choice.{bus_of, choice_of, has_room, situation_of}
use Rattle.ddr_channel.specs.Cycle.{after_cycle, at_choice, issued, recorded, served_at, ticked}
use Rattle.ddr_channel.specs.History.{Call, run}
use Rattle.ddr_channel.specs.Promise.{AreCalls}
use Rattle.ddr_channel.specs.Refresh.{overdue_from}
use Rattle.ddr_channel.specs.Sound.{IsServed, IsSound}
use Rattle.ddr_channel.specs.State.{State}
use Rattle.ddr_channel.proofs.ForcedLemmas.{overdue_when, ranks_counted, step_cases, when_overdue}
use Rattle.ddr_channel.proofs.HistoryLemmas.{kept_run}
use Rattle.ddr_channel.proofs.ListLemmas.{All-at}
use Rattle.ddr_channel.proofs.PromptLemmas.{after}
use Rattle.ddr_channel.proofs.RefreshLemmas.{count_other, count_refreshed}
use Rattle.ddr_deadline.specs.Behind.{refreshed_from}
use Rattle.ddr_deadline.specs.Oldest.{IsCappedOldest, IsServedAlone}
use Rattle.ddr_deadline.specs.Step.{ComesNearer, GetsRefresh, IsUnrefreshed, IsUnserved, Leaves, Step, StillOwes, overdue_at}
use Rattle.ddr_deadline.proofs.ForcedLemmas.{forced_chosen}
use Rattle.ddr_deadline.proofs.FreeLemmas.{bus_after}
use Rattle.ddr_deadline.proofs.GrowthLemmas.{still}
use Rattle.ddr_deadline.proofs.LegalLemmas.{inside}
use Rattle.ddr_deadline.proofs.OldestLemmas.{served_alone, waits_for_refresh}
use Rattle.ddr_deadline.proofs.PromptLemmas.{ArePrompt, prompt_run, refreshed_soon}
use Rattle.ddr_deadline.proofs.RefreshedLemmas.{refresh_close, refresh_is_legal, refreshed_now}
use Rattle.ddr_deadline.proofs.WaitLemmas.{own_step_keeps}

-- what a choice leaves as it was

abbrev pub is_refresh_choice : Choice → Bool
is_refresh_choice (choice.Refresh rank) = true
is_refresh_choice _ = false

mapped_free : (f : Waiting → Command) (o : Option Waiting) → ((w : Waiting) → is_refresh (f w) ≡ false) → IfSome (option_map f o) (λ d. is_refresh d ≡ false)
mapped_free f None none = tt
mapped_free f (Some w) none = none w

column_free : (auto : Bool) (kind : Kind) (p : Place) → is_refresh (column_at auto kind p) ≡ false
column_free false Read p = refl
column_free false Write p = refl
column_free true Read p = refl
column_free true Write p = refl

-- its command is no REF
command_free : (waiting : List Waiting) (c : Choice) → is_refresh_choice c ≡ false → IfSome (command_of waiting c) (λ d. is_refresh d ≡ false)
command_free waiting choice.Nothing none = tt
command_free waiting (choice.Refresh rank) none = cc
command_free waiting (choice.PreAll rank) none = refl
command_free waiting (choice.Act place) none = mapped_free (λ w. activate_at w.request.place) (slice_get waiting place) (λ w. refl)
command_free waiting (choice.Pre place) none = mapped_free (λ w. precharge_at w.request.place) (slice_get waiting place) (λ w. refl)
command_free waiting (choice.Column place) none = mapped_free (λ w. column_of false w.request) (slice_get waiting place) (λ w. column_free false w.request.echo.kind w.request.place)
command_free waiting (choice.ColumnAuto place) none = mapped_free (λ w. column_of true w.request) (slice_get waiting place) (λ w. column_free true w.request.echo.kind w.request.place)

overdue_kept : (b : Bus) (o : Option Command) (rank : ℕ) → IfSome o (λ d. is_refresh d ≡ false) → overdue_from b.config b.start rank (after o b).trace ≡ overdue_from b.config b.start rank b.trace
overdue_kept b None rank none = refl
overdue_kept b (Some d) rank none = ap (λ n. b.start + (n + b.config.timing.postpone + 1) * b.config.timing.refi) (count_other rank (entry b.now d) b.trace (rw none refl))

refreshed_kept : (b : Bus) (o : Option Command) (rank : ℕ) → IfSome o (λ d. is_refresh d ≡ false) → refreshed_from b.config.timing rank (after o b).trace ≡ refreshed_from b.config.timing rank b.trace
refreshed_kept b None rank none = refl
refreshed_kept b (Some d) rank none = still (λ a. is_refresh a && eqb (rank_of a) rank) (λ _. b.config.timing.rfc) b.trace (entry b.now d) (rw none refl)

pub unrefreshed : (s : State) (rank : ℕ) (c : Choice) → choice_of (at_choice s) ≡ c → is_refresh_choice c ≡ false → IsUnrefreshed s.config s rank
unrefreshed s rank c is none = record {
  overdue = ap (λ (b : Bus). overdue_from s.config b.start rank b.trace) (bus_after s) ∙ overdue_kept (bus_of s) (command_of s.pending (choice_of (at_choice s))) rank free;
  refreshed = ap (λ (b : Bus). refreshed_from s.config.timing rank b.trace) (bus_after s) ∙ refreshed_kept (bus_of s) (command_of s.pending (choice_of (at_choice s))) rank free;
}
  where
    free : IfSome (command_of s.pending (choice_of (at_choice s))) (λ d. is_refresh d ≡ false)
    free = subst (λ d. IfSome (command_of s.pending d) (λ e. is_refresh e ≡ false)) (sym is) (command_free s.pending c none)

pending_kept : (c : Choice) (s : State) → column_place_of c ≡ None → (issued c s).pending ≡ s.pending
pending_kept choice.Nothing s none = refl
pending_kept (choice.Refresh rank) s none = refl
pending_kept (choice.PreAll rank) s none = refl
pending_kept (choice.Act place) s none = refl
pending_kept (choice.Pre place) s none = refl
pending_kept (choice.Column place) s none = cc
pending_kept (choice.ColumnAuto place) s none = cc

pub unserved : (s : State) (c : Choice) → choice_of (at_choice s) ≡ c → column_place_of c ≡ None → IsUnserved s
unserved s c is none =
    let same = ap column_place_of is ∙ none in
    record { choice = same; pending = pending_kept (choice_of (at_choice s)) (at_choice s) same }

-- or takes from the pending requests

taken_out : (place : ℕ) (s : State) (w : Waiting) → slice_get s.pending place ≡ Some w → (served_at place (slice_get s.pending place) s).pending ≡ remove s.pending place
taken_out place s w here = ap (λ o. (served_at place o s).pending) here

pending_without : (c : Choice) (s : State) (place : ℕ) (w : Waiting) → column_place_of c ≡ Some place → slice_get s.pending place ≡ Some w → (issued c s).pending ≡ remove s.pending place
pending_without choice.Nothing s place w is here = cc
pending_without (choice.Refresh rank) s place w is here = cc
pending_without (choice.PreAll rank) s place w is here = cc
pending_without (choice.Act n) s place w is here = cc
pending_without (choice.Pre n) s place w is here = cc
pending_without (choice.Column n) s place w is here =
    let same : n ≡ place = cc in
    subst (λ k. (issued (choice.Column k) s).pending ≡ remove s.pending place) (sym same) (taken_out place (recorded (command_of s.pending (choice.Column place)) s) w here)
pending_without (choice.ColumnAuto n) s place w is here =
    let same : n ≡ place = cc in
    subst (λ k. (issued (choice.ColumnAuto k) s).pending ≡ remove s.pending place) (sym same) (taken_out place (recorded (command_of s.pending (choice.ColumnAuto place)) s) w here)

-- what the choice is

-- a step of a rank that is refreshed
abbrev pub IsOfRefresh : Choice → Type 0
IsOfRefresh c = (c ≡ choice.Nothing) ⊎ (((rank : ℕ) × (c ≡ choice.Refresh rank)) ⊎ ((rank : ℕ) × (c ≡ choice.PreAll rank)))

pub refresh_steps : (b : Bus) (ranks : List ℕ) → IsOfRefresh (first_choice (refresh_choice_at b) ranks)
refresh_steps b ranks = by_found (find (λ n. is_something (refresh_choice_at b n)) ranks)
  where
    by_found : (o : Option ℕ) → IsOfRefresh (option_map_or (refresh_choice_at b) o choice.Nothing)
    by_found None = inl refl
    by_found (Some n) = elim (step_cases b n) [
      | inl ref ↦ inr (inl (n, ref.is))
      | inr (inl pre) ↦ inr (inr (n, pre.is))
      | inr (inr waits) ↦ inl waits.is
    ]

pub forced_inside : (s : Situation) (rank : ℕ) → is_rank_forced s.waiting s.refreshes rank ≡ true → rank < length s.refreshes
forced_inside s rank forced = by_rank (slice_get s.refreshes rank) refl forced
  where
    by_rank : (o : Option Refreshes) → slice_get s.refreshes rank ≡ o → option_map_or (is_forced (is_rank_idle s.waiting rank)) o false ≡ true → rank < length s.refreshes
    by_rank None there is = absurd (false≢true is)
    by_rank (Some r) there is = slice_get_within s.refreshes rank r there

-- a request that is pending keeps its rank from being idle
not_idle : (pending : List Waiting) (w : Waiting) → slice_get pending 0 ≡ Some w → is_rank_idle pending w.request.place.rank ≡ false
not_idle [] w here = cc
not_idle (v ∷ vs) w here =
    let same : v ≡ w = cc in
    let passes : eqb v.request.place.rank w.request.place.rank ≡ true = eq-eqb v.request.place.rank w.request.place.rank (ap (λ (u : Waiting). u.request.place.rank) same) in
    rw passes refl

row_step_unserved : (x y : Bool) → column_place_of (cond x (choice.Act 0) (cond y (choice.Pre 0) choice.Nothing)) ≡ None
row_step_unserved true y = refl
row_step_unserved false true = refl
row_step_unserved false false = refl

row_step_free : (x y : Bool) → is_refresh_choice (cond x (choice.Act 0) (cond y (choice.Pre 0) choice.Nothing)) ≡ false
row_step_free true y = refl
row_step_free false true = refl
row_step_free false false = refl

column_step_serves : (x : Bool) → column_place_of (cond x (choice.ColumnAuto 0) (choice.Column 0)) ≡ Some 0
column_step_serves true = refl
column_step_serves false = refl

column_step_free : (x : Bool) → is_refresh_choice (cond x (choice.ColumnAuto 0) (choice.Column 0)) ≡ false
column_step_free true = refl
column_step_free false = refl

-- one REF more puts the next tick off by an interval
overdue_more : (b : Bus) (rank : ℕ) → overdue_from b.config b.start rank (b.trace ++ entry b.now (Refresh rank) ∷ []) ≡ overdue_from b.config b.start rank b.trace + b.config.timing.refi
overdue_more b rank =
    let n = refresh_count b.trace (refresh rank) in
    let refi = b.config.timing.refi in
    let counted = count_refreshed rank b.now b.trace in
    let more : refresh_count (b.trace ++ entry b.now (Refresh rank) ∷ []) (refresh rank) + b.config.timing.postpone + 1 ≡ suc (n + b.config.timing.postpone + 1) = omega (arith, counted) in
    let times = suc-mul (n + b.config.timing.postpone + 1) refi in
    ap (λ k. b.start + k * refi) more ∙ ap (λ k. b.start + k) times ∙ omega arith

-- what is known before a cycle

pub record IsReady (s : State) (w : Waiting) : Type 0 where
  pub sound : IsSound s
  pub prompt : ArePrompt (bus_of s)
  pub none : s.done ≡ []
  pub oldest : slice_get s.pending 0 ≡ Some w
  pub old : w.admitted + s.config.limits.cap ≤ s.now

-- and where there is one rank
abbrev IsOneRank : State → Type 0
IsOneRank s = s.config.geometry.ranks ≡ 1

pub capped : (s : State) (w : Waiting) → IsReady s w → IsCappedOldest (situation_of (at_choice s)) w
capped s w k = record {
  oldest = k.oldest;
  capped = ap (λ o. option_map_or (has_age s.now s.config.limits.cap) o false) k.oldest ∙ le-leb s.config.limits.cap (s.now - w.admitted) (let old = k.old in omega (arith, old));
}

pub served : (s : State) (w : Waiting) → IsReady s w → IsServed s.config w.request.place
served s w k = All-at (λ (v : Waiting). IsServed s.config v.request.place) s.pending 0 w k.sound.served k.oldest

pub there : (s : State) (w : Waiting) → IsReady s w → w.request.place.rank < s.config.geometry.ranks
there s w k = rank_in (inside (bus_of s) w.request.place (served s w k)).bank
  where
    rank_in : is_bank_in s.config.geometry w.request.place.rank w.request.place.group w.request.place.bank ≡ true → w.request.place.rank < s.config.geometry.ranks
    rank_in is = ltb-true w.request.place.rank s.config.geometry.ranks (and_parts _ _ (and_parts _ _ is).0).0

is_first : (s : State) (w : Waiting) → IsReady s w → IsOneRank s → w.request.place.rank ≡ 0
is_first s w k one = let inside = there s w k in omega (arith, inside, one)

-- the rank has to be refreshed
abbrev pub is_forced_now : State → ℕ → Bool
is_forced_now s rank = is_rank_forced s.pending (situation_of (at_choice s)).refreshes rank

-- as it does where it is overdue
pub forced_overdue : (s : State) (w : Waiting) → IsReady s w → is_forced_now s w.request.place.rank ≡ is_overdue (situation_of (at_choice s)).refreshes w.request.place.rank
forced_overdue s w k = ap (λ idle. option_map_or (is_forced idle) (slice_get (situation_of (at_choice s)).refreshes w.request.place.rank) false) (not_idle s.pending w k.oldest)

-- and there is no other rank
only_rank : (s : State) (w : Waiting) (rank : ℕ) → IsReady s w → IsOneRank s → is_forced_now s rank ≡ true → rank ≡ w.request.place.rank
only_rank s w rank k one forced =
    let here = forced_inside (situation_of (at_choice s)) rank forced in
    let many = ranks_counted (at_choice s) in
    let first = is_first s w k one in
    omega (arith, here, many, one, first)

-- a cycle in which the rank is overdue

owing : (s : State) (w : Waiting) (c : Choice) → overdue_at s.config s w.request.place.rank ≤ s.now → choice_of (at_choice s) ≡ c → (c ≡ choice.Nothing) ⊎ (c ≡ choice.PreAll w.request.place.rank) → StillOwes s.config s w
owing s w c late is which = record { overdue = late; command = told which; unserved = unserved s c is (no_column which); unrefreshed = unrefreshed s w.request.place.rank c is (no_refresh which) }
  where
    told : (c ≡ choice.Nothing) ⊎ (c ≡ choice.PreAll w.request.place.rank) → (choice_of (at_choice s) ≡ choice.Nothing) ⊎ (choice_of (at_choice s) ≡ choice.PreAll w.request.place.rank)
    told (inl nothing) = inl (is ∙ nothing)
    told (inr pre) = inr (is ∙ pre)

    no_column : (c ≡ choice.Nothing) ⊎ (c ≡ choice.PreAll w.request.place.rank) → column_place_of c ≡ None
    no_column (inl nothing) = ap column_place_of nothing
    no_column (inr pre) = ap column_place_of pre

    no_refresh : (c ≡ choice.Nothing) ⊎ (c ≡ choice.PreAll w.request.place.rank) → is_refresh_choice c ≡ false
    no_refresh (inl nothing) = ap is_refresh_choice nothing
    no_refresh (inr pre) = ap is_refresh_choice pre

refreshing : (s : State) (w : Waiting) → IsReady s w → IsOneRank s → overdue_at s.config s w.request.place.rank ≤ s.now → choice_of (at_choice s) ≡ choice.Refresh w.request.place.rank → GetsRefresh s.config s w
refreshing s w k one late is = record {
  overdue = late;
  command = is;
  soon = soon;
  unserved = unserved s (choice.Refresh rank) is refl;
  next = next;
  ahead = omega (arith, next, soon);
  refreshed = subst (λ c. refreshed_from s.config.timing rank (ticked (issued c (at_choice s))).trace ≤ s.now + s.config.timing.rfc) (sym is) (refreshed_now (bus_of s) rank (refresh_is_legal s rank is));
  close = refresh_close s w.request k.sound (served s w k) (k.prompt rank (there s w k)) is;
}
  where
    rank : ℕ
    rank = w.request.place.rank

    due : ℕ
    due = overdue_at s.config s rank

    soon : s.now + 2 ≤ due + clocks.refresh (clocks.clocks_of s.config)
    soon = subst (λ n. s.now + 2 ≤ overdue_at s.config s n + clocks.refresh (clocks.clocks_of s.config)) (sym (is_first s w k one))
        (let it = refreshed_soon (bus_of s) (k.prompt 0 (omega (arith, one))) in omega (arith, it))

    next : overdue_at s.config (after_cycle s) rank ≡ due + s.config.timing.refi
    next =
        ap (λ (b : Bus). overdue_from s.config b.start rank b.trace) (bus_after s)
        ∙ ap (λ c. overdue_from s.config s.start rank (after (command_of s.pending c) (bus_of s)).trace) is ∙ overdue_more (bus_of s) rank

forced_step : (s : State) (w : Waiting) → IsReady s w → IsOneRank s → overdue_at s.config s w.request.place.rank ≤ s.now → (c : Choice) → choice_of (at_choice s) ≡ c → IsOfRefresh c → Step s.config s w
forced_step s w k one late c is (inl nothing) = inl (owing s w c late is (inl nothing))
forced_step s w k one late c is (inr (inl ref)) =
    let chosen = is ∙ ref.1 in
    let it = only_rank s w ref.0 k one (forced_chosen (situation_of (at_choice s)) ref.0 (ap refreshed_rank chosen)) in
    inr (inl (refreshing s w k one late (chosen ∙ ap choice.Refresh it)))
forced_step s w k one late c is (inr (inr pre)) =
    let it = only_rank s w pre.0 k one (forced_chosen (situation_of (at_choice s)) pre.0 (ap refreshed_rank (is ∙ pre.1))) in
    inl (owing s w c late is (inr (pre.1 ∙ ap choice.PreAll it)))

-- and one in which it isn't

pub own_steps : (s : State) (w : Waiting) → IsReady s w → s.now < overdue_at s.config s w.request.place.rank → IsServedAlone (situation_of (at_choice s)) w →
    (comes : Bool) → (has_room (at_choice s) && is_legal_now (bus_of s) (column_of false w.request)) ≡ comes → ComesNearer s.config s w ⊎ Leaves s.config s w
own_steps s w k early alone true at =
    let x = s.config.limits.closed && not (is_row_shared s.pending 0) in
    let chosen : choice_of (at_choice s) ≡ cond x (choice.ColumnAuto 0) (choice.Column 0) = served_alone (situation_of (at_choice s)) w alone ∙ rw at refl in
    let serves = ap column_place_of chosen ∙ column_step_serves x in
    inr (record {
      early = early;
      choice = serves;
      pending = pending_without (choice_of (at_choice s)) (at_choice s) 0 w serves k.oldest;
      unrefreshed = unrefreshed s w.request.place.rank _ chosen (column_step_free x);
    })
own_steps s w k early alone false at =
    let x = can_activate (bus_of s) w.request.place in
    let y = is_on_other_row (bus_of s) w.request.place && is_legal_now (bus_of s) (precharge_at w.request.place) in
    let chosen : choice_of (at_choice s) ≡ cond x (choice.Act 0) (cond y (choice.Pre 0) choice.Nothing) = served_alone (situation_of (at_choice s)) w alone ∙ rw at refl in
    inl (record {
      early = early;
      own = served_alone (situation_of (at_choice s)) w alone;
      unserved = unserved s _ chosen (row_step_unserved x y);
      unrefreshed = unrefreshed s w.request.place.rank _ chosen (row_step_free x y);
      kept = own_step_keeps s w k.sound k.none alone (ap column_place_of chosen ∙ row_step_unserved x y);
    })

-- then no rank is refreshed
no_refresh : (s : State) (w : Waiting) → IsReady s w → IsOneRank s → is_forced_now s w.request.place.rank ≡ false → (some : Bool) → is_something (refresh_choice (bus_of s) s.pending (situation_of (at_choice s)).refreshes) ≡ some → some ≡ false
no_refresh s w k one free false is = refl
no_refresh s w k one free true is = of_step (refresh_choice (bus_of s) s.pending (situation_of (at_choice s)).refreshes) (sym (refresh_chosen (situation_of (at_choice s)) is)) is (refresh_steps (bus_of s) _)
  where
    of_rank : (rank : ℕ) → refreshed_rank (choice_of (at_choice s)) ≡ Some rank → true ≡ false
    of_rank rank chosen =
        let forced = forced_chosen (situation_of (at_choice s)) rank chosen in
        sym forced ∙ ap (is_forced_now s) (only_rank s w rank k one forced) ∙ free

    of_step : (c : Choice) → choice_of (at_choice s) ≡ c → is_something c ≡ true → IsOfRefresh c → true ≡ false
    of_step c chosen some (inl nothing) = sym some ∙ ap is_something nothing
    of_step c chosen some (inr (inl ref)) = of_rank ref.0 (ap refreshed_rank (chosen ∙ ref.1))
    of_step c chosen some (inr (inr pre)) = of_rank pre.0 (ap refreshed_rank (chosen ∙ pre.1))

-- each cycle

step_of : (s : State) (w : Waiting) → IsReady s w → IsOneRank s → Step s.config s w
step_of s w k one = by_forced (is_forced_now s w.request.place.rank) refl
  where
    g : State
    g = at_choice s

    by_forced : (forced : Bool) → is_forced_now s w.request.place.rank ≡ forced → Step s.config s w
    by_forced true is =
        let late = when_overdue g w.request.place.rank (there s w k) k.sound.begun (sym (forced_overdue s w k) ∙ is) in
        forced_step s w k one late (refresh_choice (bus_of s) s.pending (situation_of g).refreshes) (waits_for_refresh (situation_of g) w (capped s w k) is) (refresh_steps (bus_of s) _)
    by_forced false is = elim (cases_lt s.now (overdue_at s.config s w.request.place.rank)) [
      | inr late ↦ absurd (false≢true (sym is ∙ forced_overdue s w k ∙ overdue_when g w.request.place.rank (there s w k) late))
      | inl early ↦
          let alone : IsServedAlone (situation_of g) w = record { first = capped s w k; free = is; unrefreshed = no_refresh s w k one is _ refl } in
          inr (inr (own_steps s w k early alone (has_room g && is_legal_now (bus_of s) (column_of false w.request)) refl))
    ]

pub step_run : (config : Config) (start : ℕ) (calls : List Call) → AreCalls config calls → config.geometry.ranks ≡ 1 → (run config start calls).state.done ≡ [] →
    (w : Waiting) → slice_get (run config start calls).state.pending 0 ≡ Some w → w.admitted + config.limits.cap ≤ (run config start calls).state.now → Step config (run config start calls).state w
step_run config start calls may one none w oldest old =
    let s = (run config start calls).state in
    let kept = kept_run config start calls may in
    let k : IsReady s w = record {
      sound = kept.sound;
      prompt = prompt_run config start calls may;
      none = none;
      oldest = oldest;
      old = subst (λ (c : Config). w.admitted + c.limits.cap ≤ s.now) (sym kept.config_is) old;
    } in
    subst (λ c. Step c s w) kept.config_is (step_of s w k (subst (λ (c : Config). c.geometry.ranks ≡ 1) (sym kept.config_is) one))
