-- What a cycle makes of the oldest request, with one rank or two, and of what the refresh commands of both may still take.
use Rattle.std.proofs.Common.{◌≡◌, ℕ, ◌+◌, ◌-◌, ◌<◌, ◌≤◌, Bool, true, false, ◌&&◌, ◌||◌, not, cond, eqb, leb, ltb, List, Option, Some, refl, sym, ap, subst, ◌∙◌, ◌⊎◌, inl, inr, arith}
use Rattle.std.specs.List.{list_any, slice_get}
use Rattle.std.specs.Option.{IfSome, option_map}
use Rattle.std.proofs.lemmas.Bool.{cases_lt, eq-eqb, false≢true, leb-false, leb-true, ltb-true}
use Rattle.ddr_trace.specs.declared.command.Command.{Command}
use Rattle.ddr_trace.specs.declared.command.Command.TheVariants.{PreAll}
use Rattle.ddr_trace.specs.Commands.{is_refresh, rank_of}
use Rattle.ddr_address_map.specs.declared.place.Place.{Place}
use Rattle.ddr_address_map.specs.declared.request.Kind.{Kind}
use Rattle.ddr_address_map.specs.declared.request.Kind.TheVariants.{Read, Write}
use Rattle.ddr_hazards.specs.declared.waiting.Waiting.{Waiting}
use Rattle.ddr_refresh.specs.Refreshes.{after_tick, debt_of, is_forced}
use Rattle.ddr_arbiter.specs.declared.choice.Choice.{Choice}
use Rattle.ddr_arbiter.specs.declared.choice.Choice.TheVariants as choice
use Rattle.ddr_arbiter.specs.Choice.{is_rank_idle, is_something, refresh_choice, some_bank_active}
use Rattle.ddr_arbiter.specs.Commands.{activate_at, column_at, column_of, precharge_at}
use Rattle.ddr_arbiter.specs.Laws.{command_of, refreshed_rank}
use Rattle.ddr_arbiter.proofs.ChoiceLemmas.{refresh_chosen}
use Rattle.ddr_channel.specs.Choice.{bus_of, choice_of, rank_refreshes, situation_of}
use Rattle.ddr_channel.specs.Cycle.{at_choice}
use Rattle.ddr_channel.specs.State.{State}
use Rattle.ddr_channel.proofs.ForcedLemmas.{debt_ticked, overdue_when, precharged_active, ranks_counted, refreshes_at, when_overdue}
use Rattle.ddr_channel.proofs.ListLemmas.{list_any-none_at}
use Rattle.ddr_channel.proofs.PromptLemmas.{after}
use Rattle.ddr_deadline.specs.Oldest.{IsServedAlone}
use Rattle.ddr_deadline.specs.Step.{overdue_at}
use Rattle.ddr_deadline.proofs.AllowanceLemmas.{Closes, Lowers, AreFew, due_before, due_here, issued_by, nothing_lowers, own_lowers, precharge_closes, precharge_lowers, refresh_lowers}
use Rattle.ddr_deadline.proofs.CountLemmas.{IsTickless}
use Rattle.ddr_deadline.proofs.ForcedLemmas.{forced_chosen, overdue_chosen}
use Rattle.ddr_deadline.proofs.OldestLemmas.{served_alone, waits_for_refresh}
use Rattle.ddr_deadline.proofs.StepLemmas.{IsReady, capped, forced_inside, forced_overdue, is_forced_now, refresh_steps, there}

-- the turn of a cycle

-- The oldest request's rank is overdue, and nothing comes; a REF comes, or a PREA; or the request takes its own step.
pub record Owns (s : State) (w : Waiting) : Type 0 where
  pub early : s.now < overdue_at s.config s w.request.place.rank
  pub alone : IsServedAlone (situation_of (at_choice s)) w

pub record Waits (s : State) (w : Waiting) : Type 0 where
  pub late : overdue_at s.config s w.request.place.rank ≤ s.now
  pub is : choice_of (at_choice s) ≡ choice.Nothing

pub record IsRefresh (s : State) : Type 0 where
  pub rank : ℕ
  pub is : choice_of (at_choice s) ≡ choice.Refresh rank

pub record IsPrecharge (s : State) : Type 0 where
  pub rank : ℕ
  pub is : choice_of (at_choice s) ≡ choice.PreAll rank

abbrev Turn : State → Waiting → Type 0
Turn s w = Owns s w ⊎ (Waits s w ⊎ (IsRefresh s ⊎ IsPrecharge s))

pub turn_of : (s : State) (w : Waiting) → IsReady s w → Turn s w
turn_of s w k = by_forced (is_forced_now s w.request.place.rank) refl
  where
    g : State
    g = at_choice s

    c : Choice
    c = refresh_choice (bus_of s) s.pending (situation_of g).refreshes

    by_something : (some : Bool) → is_something c ≡ some → is_forced_now s w.request.place.rank ≡ false → s.now < overdue_at s.config s w.request.place.rank → Turn s w
    by_something false none free early = inl (record { early = early; alone = record { first = capped s w k; free = free; unrefreshed = none } })
    by_something true some free early =
        let chosen : choice_of g ≡ c = sym (refresh_chosen (situation_of g) some) in
        elim (refresh_steps (bus_of s) _) [
          | inl nothing ↦ absurd (false≢true (sym (ap is_something nothing) ∙ some))
          | inr (inl ref) ↦ inr (inr (inl (record { rank = ref.0; is = chosen ∙ ref.1 })))
          | inr (inr pre) ↦ inr (inr (inr (record { rank = pre.0; is = chosen ∙ pre.1 })))
        ]

    by_forced : (forced : Bool) → is_forced_now s w.request.place.rank ≡ forced → Turn s w
    by_forced true is =
        let late = when_overdue g w.request.place.rank (there s w k) k.sound.begun (sym (forced_overdue s w k) ∙ is) in
        let chosen : choice_of g ≡ c = waits_for_refresh (situation_of g) w (capped s w k) is in
        elim (refresh_steps (bus_of s) _) [
          | inl nothing ↦ inr (inl (record { late = late; is = chosen ∙ nothing }))
          | inr (inl ref) ↦ inr (inr (inl (record { rank = ref.0; is = chosen ∙ ref.1 })))
          | inr (inr pre) ↦ inr (inr (inr (record { rank = pre.0; is = chosen ∙ pre.1 })))
        ]
    by_forced false is = elim (cases_lt s.now (overdue_at s.config s w.request.place.rank)) [
      | inr late ↦ absurd (false≢true (sym is ∙ forced_overdue s w k ∙ overdue_when g w.request.place.rank (there s w k) late))
      | inl early ↦ by_something (is_something c) refl is early
    ]

-- the commands of the request's own steps

-- a choice for the oldest request alone
abbrev pub IsOwnChoice : Choice → Type 0
IsOwnChoice choice.Nothing = Unit {0}
IsOwnChoice (choice.Refresh rank) = ⊥
IsOwnChoice (choice.PreAll rank) = ⊥
IsOwnChoice (choice.Act place) = place ≡ 0
IsOwnChoice (choice.Pre place) = place ≡ 0
IsOwnChoice (choice.Column place) = place ≡ 0
IsOwnChoice (choice.ColumnAuto place) = place ≡ 0

own_choice : (column auto act pre : Bool) → IsOwnChoice (cond column (cond auto (choice.ColumnAuto 0) (choice.Column 0)) (cond act (choice.Act 0) (cond pre (choice.Pre 0) choice.Nothing)))
own_choice true true act pre = refl
own_choice true false act pre = refl
own_choice false auto true pre = refl
own_choice false auto false true = refl
own_choice false auto false false = tt

-- the command is one of that rank, and no REF
abbrev IsOf : ℕ → Command → Type 0
IsOf rank d = (rank_of d ≡ rank) × (is_refresh d ≡ false)

column_of_rank : (auto : Bool) (kind : Kind) (p : Place) → IsOf p.rank (column_at auto kind p)
column_of_rank false Read p = (refl, refl)
column_of_rank false Write p = (refl, refl)
column_of_rank true Read p = (refl, refl)
column_of_rank true Write p = (refl, refl)

mapped_own : (f : Waiting → Command) (pending : List Waiting) (place : ℕ) (w : Waiting) → slice_get pending 0 ≡ Some w → place ≡ 0 → IsOf w.request.place.rank (f w) → IfSome (option_map f (slice_get pending place)) (IsOf w.request.place.rank)
mapped_own f pending place w first zeroth of = subst (λ o. IfSome (option_map f o) (IsOf w.request.place.rank)) (sym (ap (slice_get pending) zeroth ∙ first)) of

own_command : (pending : List Waiting) (w : Waiting) (c : Choice) → slice_get pending 0 ≡ Some w → IsOwnChoice c → IfSome (command_of pending c) (IsOf w.request.place.rank)
own_command pending w choice.Nothing first own = tt
own_command pending w (choice.Refresh rank) first own = absurd own
own_command pending w (choice.PreAll rank) first own = absurd own
own_command pending w (choice.Act place) first own = mapped_own (λ v. activate_at v.request.place) pending place w first own (refl, refl)
own_command pending w (choice.Pre place) first own = mapped_own (λ v. precharge_at v.request.place) pending place w first own (refl, refl)
own_command pending w (choice.Column place) first own = mapped_own (λ v. column_of false v.request) pending place w first own (column_of_rank false w.request.echo.kind w.request.place)
own_command pending w (choice.ColumnAuto place) first own = mapped_own (λ v. column_of true v.request) pending place w first own (column_of_rank true w.request.echo.kind w.request.place)

pub own_chosen : (s : State) (w : Waiting) → Owns s w → IsOwnChoice (choice_of (at_choice s))
own_chosen s w own = subst IsOwnChoice (sym (served_alone (situation_of (at_choice s)) w own.alone)) (own_choice _ _ _ _)

owned_command : (s : State) (w : Waiting) → IsReady s w → Owns s w → IfSome (command_of s.pending (choice_of (at_choice s))) (IsOf w.request.place.rank)
owned_command s w k own = own_command s.pending w (choice_of (at_choice s)) k.oldest (own_chosen s w own)

-- ranks that are refreshed

-- a request that is pending keeps its rank from being idle
never_idle : (pending : List Waiting) (i : ℕ) (w : Waiting) → slice_get pending i ≡ Some w → is_rank_idle pending w.request.place.rank ≡ false
never_idle pending i w here = by_test (list_any (λ v. eqb v.request.place.rank w.request.place.rank) pending) refl
  where
    by_test : (x : Bool) → list_any (λ v. eqb v.request.place.rank w.request.place.rank) pending ≡ x → not x ≡ false
    by_test true is = refl
    by_test false is = absurd (false≢true (sym (list_any-none_at (λ v. eqb v.request.place.rank w.request.place.rank) pending i w is here) ∙ eq-eqb w.request.place.rank w.request.place.rank refl))

-- no request is pending for a rank that is idle
unwanted : (pending : List Waiting) (rank : ℕ) → is_rank_idle pending rank ≡ true → (i : ℕ) (v : Waiting) → slice_get pending i ≡ Some v → v.request.place.rank ≡ rank → ⊥
unwanted pending rank idle i v here same = false≢true (sym (never_idle pending i v here) ∙ ap (is_rank_idle pending) same ∙ idle)

pub forced_in : (s : State) (rank : ℕ) → refreshed_rank (choice_of (at_choice s)) ≡ Some rank → rank < s.config.geometry.ranks
forced_in s rank chosen =
    let here = forced_inside (situation_of (at_choice s)) rank (forced_chosen (situation_of (at_choice s)) rank chosen) in
    let many = ranks_counted (at_choice s) in
    below rank _ _ here many
  where
    below : (rank many ranks : ℕ) → rank < many → many ≡ ranks → rank < ranks
    below rank many ranks one two = omega (arith, one, two)

-- a rank that is refreshed is overdue, where some request is pending for it
pub overdue_pending : (s : State) (rank i : ℕ) (v : Waiting) → s.start ≤ s.now → refreshed_rank (choice_of (at_choice s)) ≡ Some rank → slice_get s.pending i ≡ Some v → v.request.place.rank ≡ rank → overdue_at s.config s rank ≤ s.now
overdue_pending s rank i v begun chosen here same =
    let busy = sym (ap (is_rank_idle s.pending) same) ∙ never_idle s.pending i v here in
    when_overdue (at_choice s) rank (forced_in s rank chosen) begun (overdue_chosen (situation_of (at_choice s)) rank chosen busy)

-- what a forced rank owes
forced_parts : (idle : Bool) (postpone debt : ℕ) → (ltb postpone debt || (idle && leb 1 debt)) ≡ true → (postpone < debt) ⊎ ((idle ≡ true) × (1 ≤ debt))
forced_parts idle postpone debt is = by_tests (ltb postpone debt) idle (leb 1 debt) refl refl refl is
  where
    by_tests : (x y z : Bool) → ltb postpone debt ≡ x → idle ≡ y → leb 1 debt ≡ z → (x || (y && z)) ≡ true → (postpone < debt) ⊎ ((idle ≡ true) × (1 ≤ debt))
    by_tests true y z more alone some forced = inl (ltb-true postpone debt more)
    by_tests false true true more alone some forced = inr (alone, leb-true 1 debt some)
    by_tests false true false more alone some forced = absurd (false≢true forced)
    by_tests false false z more alone some forced = absurd (false≢true forced)

owed : (s : State) (rank : ℕ) → s.start ≤ s.now → IsTickless s.start s.config.timing.refi s.now → refreshed_rank (choice_of (at_choice s)) ≡ Some rank →
    (s.config.timing.postpone < due_before (bus_of s) - issued_by (bus_of s) rank) ⊎ ((is_rank_idle s.pending rank ≡ true) × (1 ≤ due_before (bus_of s) - issued_by (bus_of s) rank))
owed s rank begun none chosen =
    let g = at_choice s in
    let forced : is_forced_now s rank ≡ true = forced_chosen (situation_of g) rank chosen in
    let inside = forced_in s rank chosen in
    let here : is_forced (is_rank_idle s.pending rank) (after_tick (rank_refreshes g rank)) ≡ true = rw (refreshes_at g rank inside) at forced in
    let due : debt_of (after_tick (rank_refreshes g rank)) ≡ due_before (bus_of s) - issued_by (bus_of s) rank = debt_ticked g rank ∙ ap (λ n. n - issued_by (bus_of s) rank) (sym (due_here (bus_of s) begun none)) in
    subst (λ n. (s.config.timing.postpone < n) ⊎ ((is_rank_idle s.pending rank ≡ true) × (1 ≤ n))) due (forced_parts (is_rank_idle s.pending rank) s.config.timing.postpone (debt_of (after_tick (rank_refreshes g rank))) here)

-- what a cycle without a tick does to the claims

-- it takes so many cycles from them, or closes the banks of a rank that nothing is pending for
abbrev pub Claims : State → Waiting → Option Command → ℕ → Type 0
Claims s w o moved = IsTickless s.start s.config.timing.refi s.now → Lowers (bus_of s) (after o (bus_of s)) w moved ⊎ ((rank : ℕ) × Closes (bus_of s) (after o (bus_of s)) s.pending moved rank)

pub owns_claims : (s : State) (w : Waiting) → IsReady s w → Owns s w → Claims s w (command_of s.pending (choice_of (at_choice s))) 0
owns_claims s w k own none = inl (own_lowers (bus_of s) (command_of s.pending (choice_of (at_choice s))) w k.sound.begun none own.early (owned_command s w k own))

pub waits_claims : (s : State) (w : Waiting) → choice_of (at_choice s) ≡ choice.Nothing → Claims s w (command_of s.pending (choice_of (at_choice s))) 0
waits_claims s w is none = inl (subst (λ c. Lowers (bus_of s) (after (command_of s.pending c) (bus_of s)) w 0) (sym is) (nothing_lowers (bus_of s) w))

below_two : (rank ranks : ℕ) → rank < ranks → ranks ≡ 2 → rank < 2
below_two rank ranks one two = omega (arith, one, two)

pub refresh_claims : (s : State) (w : Waiting) (rank moved : ℕ) → s.config.geometry.ranks ≡ 2 → s.start ≤ s.now → AreFew (bus_of s) → moved ≤ 1 → choice_of (at_choice s) ≡ choice.Refresh rank → Claims s w (command_of s.pending (choice_of (at_choice s))) moved
refresh_claims s w rank moved two begun few little is none =
    let chosen : refreshed_rank (choice_of (at_choice s)) ≡ Some rank = ap refreshed_rank is in
    let inside = below_two rank s.config.geometry.ranks (forced_in s rank chosen) two in
    inl (subst (λ c. Lowers (bus_of s) (after (command_of s.pending c) (bus_of s)) w moved) (sym is) (refresh_lowers (bus_of s) w rank moved inside little (some (owed s rank begun none chosen)) (few rank inside)))
  where
    some : (s.config.timing.postpone < due_before (bus_of s) - issued_by (bus_of s) rank) ⊎ ((is_rank_idle s.pending rank ≡ true) × (1 ≤ due_before (bus_of s) - issued_by (bus_of s) rank)) → issued_by (bus_of s) rank + 1 ≤ due_before (bus_of s)
    some (inl over) = more _ _ _ over
      where
        more : (postpone due issued : ℕ) → postpone < due - issued → issued + 1 ≤ due
        more postpone due issued over = omega (arith, over)
    some (inr idle) = more _ _ idle.1
      where
        more : (due issued : ℕ) → 1 ≤ due - issued → issued + 1 ≤ due
        more due issued one = omega (arith, one)

pub precharge_claims : (s : State) (w : Waiting) (rank moved : ℕ) → s.config.geometry.ranks ≡ 2 → s.start ≤ s.now → moved ≤ 1 → choice_of (at_choice s) ≡ choice.PreAll rank → Claims s w (command_of s.pending (choice_of (at_choice s))) moved
precharge_claims s w rank moved two begun little is none =
    subst (λ c. Lowers (bus_of s) (after (command_of s.pending c) (bus_of s)) w moved ⊎ ((k : ℕ) × Closes (bus_of s) (after (command_of s.pending c) (bus_of s)) s.pending moved k)) (sym is)
    (by_test (leb (issued_by (bus_of s) rank + s.config.timing.postpone + 1) (due_before (bus_of s))) refl)
  where
    chosen : refreshed_rank (choice_of (at_choice s)) ≡ Some rank
    chosen = ap refreshed_rank is

    inside : rank < 2
    inside = below_two rank s.config.geometry.ranks (forced_in s rank chosen) two

    active : some_bank_active (bus_of s) rank ≡ true
    active = precharged_active (situation_of (at_choice s)) rank is

    idle : leb (issued_by (bus_of s) rank + s.config.timing.postpone + 1) (due_before (bus_of s)) ≡ false → is_rank_idle s.pending rank ≡ true
    idle calm = by_owed (owed s rank begun none chosen)
      where
        not_both : (issued postpone due : ℕ) → due < issued + postpone + 1 → postpone < due - issued → ⊥
        not_both issued postpone due one two = omega (arith, one, two)

        by_owed : (s.config.timing.postpone < due_before (bus_of s) - issued_by (bus_of s) rank) ⊎ ((is_rank_idle s.pending rank ≡ true) × (1 ≤ due_before (bus_of s) - issued_by (bus_of s) rank)) → is_rank_idle s.pending rank ≡ true
        by_owed (inl over) = absurd (not_both (issued_by (bus_of s) rank) s.config.timing.postpone (due_before (bus_of s)) (leb-false _ _ calm) over)
        by_owed (inr it) = it.0

    by_test : (x : Bool) → leb (issued_by (bus_of s) rank + s.config.timing.postpone + 1) (due_before (bus_of s)) ≡ x →
        Lowers (bus_of s) (after (Some (PreAll rank)) (bus_of s)) w moved ⊎ ((k : ℕ) × Closes (bus_of s) (after (Some (PreAll rank)) (bus_of s)) s.pending moved k)
    by_test true over = inl (precharge_lowers (bus_of s) w rank moved inside little over active)
    by_test false calm = inr (rank, precharge_closes (bus_of s) s.pending rank moved inside little calm active (unwanted s.pending rank (idle calm)))
