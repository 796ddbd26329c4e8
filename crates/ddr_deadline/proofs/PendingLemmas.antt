-- The pending requests of a channel: in the order of their admissions, and no more than its queues hold.
use Rattle.std.proofs.Common.{◌≡◌, ℕ, suc, ◌+◌, ◌≤◌, Bool, true, false, cond, eqb, leb, List, [], ◌∷◌, ◌++◌, length, All, Option, Some, None, refl, sym, ap, subst, ◌∙◌, inl, inr, arith}
use Rattle.std.specs.List.{fold, remove, slice_get}
use Rattle.std.proofs.lemmas.Bool.{cases_lt, leb-false}
use Rattle.std.proofs.lemmas.List.Sums.{sum_by-cons, sum_by-remove, sum_by_push}
use Rattle.std.proofs.lemmas.Option.{get_or_from_slice_get, slice_get_within}
use Rattle.ddr_timing.specs.declared.config.Config.{Config}
use Rattle.ddr_timing.specs.declared.units.TheConstants.{CLOCK_STOP}
use Rattle.ddr_address_map.specs.declared.request.Kind.{Kind}
use Rattle.ddr_address_map.specs.declared.request.Kind.TheVariants.{Read, Write}
use Rattle.ddr_hazards.specs.declared.waiting.Waiting.{Waiting}
use Rattle.ddr_hazards.specs.Counts.{one_of}
use Rattle.ddr_hazards.specs.PendingList.{pending_count}
use Rattle.ddr_arbiter.specs.declared.choice.Choice.{Choice}
use Rattle.ddr_arbiter.specs.declared.choice.Choice.TheVariants as choice
use Rattle.ddr_arbiter.specs.Laws.{column_place_of, command_of}
use Rattle.ddr_channel.specs.Choice.{choice_of}
use Rattle.ddr_channel.specs.Cycle.{after_cycle, at_choice, recorded, served_at, served_by, ticked}
use Rattle.ddr_channel.specs.History.{Call, Admit, Cycle, Pop, History, after_call, begun, run}
use Rattle.ddr_channel.specs.Promise.{AreCalls}
use Rattle.ddr_channel.specs.State.{State, is_queue_full, queue_size}
use Rattle.ddr_channel.proofs.HistoryLemmas.{IsKept, kept_begun, kept_call}
use Rattle.ddr_channel.proofs.ListLemmas.{All-at, remove_none, slice_get-remove_before, slice_get-remove_behind}
use Rattle.ddr_channel.proofs.PlaceLemmas.{pushed}
use Rattle.ddr_latency.specs.Bound.{most_pending}

-- how many there are of each kind

-- what a request adds to the count of a kind
abbrev share : Kind → Waiting → ℕ
share kind w = one_of kind w.request.echo.kind

count_push : (kind : Kind) (pending : List Waiting) (w : Waiting) → pending_count kind (pending ++ w ∷ []) ≡ pending_count kind pending + share kind w
count_push kind pending w = sum_by_push (share kind) pending w

count_remove : (kind : Kind) (pending : List Waiting) (place : ℕ) (w : Waiting) → slice_get pending place ≡ Some w → pending_count kind (remove pending place) + share kind w ≡ pending_count kind pending
count_remove kind pending place w here =
    sym (ap (λ v. pending_count kind (remove pending place) + share kind v) (get_or_from_slice_get pending place w w here))
    ∙ sum_by-remove (share kind) pending place w (slice_get_within pending place w here)

one_kind : (w : Waiting) → share Read w + share Write w ≡ 1
one_kind w = elim w.request.echo.kind as (λ kind. one_of Read kind + one_of Write kind ≡ 1) [ Read ↦ refl | Write ↦ refl ]

both_kinds : (pending : List Waiting) → pending_count Read pending + pending_count Write pending ≡ length pending
both_kinds [] = refl
both_kinds (w ∷ ws) = omega (arith, sum_by-cons (share Read) w ws, sum_by-cons (share Write) w ws, one_kind w, both_kinds ws)

-- the older ones first
abbrev pub AreOrdered : List Waiting → Type 0
AreOrdered pending = (i j : ℕ) (v w : Waiting) → i ≤ j → slice_get pending i ≡ Some v → slice_get pending j ≡ Some w → v.admitted ≤ w.admitted

pub record AreQueued (c : Config) (pending : List Waiting) : Type 0 where
  pub ordered : AreOrdered pending
  pub few : (kind : Kind) → pending_count kind pending ≤ queue_size c kind

pub queued_few : (c : Config) (pending : List Waiting) → AreQueued c pending → length pending ≤ most_pending c
queued_few c pending q =
    let reads = q.few Read in
    let writes = q.few Write in
    let all = both_kinds pending in
    omega (arith, reads, writes, all)

-- what a cycle leaves of them

-- all but the one at a place, or all
abbrev pub without : Option ℕ → List Waiting → List Waiting
without None pending = pending
without (Some place) pending = remove pending place

served_without : (place : ℕ) (o : Option Waiting) (s : State) → slice_get s.pending place ≡ o → (served_at place o s).pending ≡ remove s.pending place
served_without place None s here = sym (remove_none s.pending place here)
served_without place (Some w) s here = refl

pub recorded_pending : (o : Option _) (s : State) → (recorded o s).pending ≡ s.pending
recorded_pending None s = refl
recorded_pending (Some c) s = refl

pub pending_after : (s : State) → (after_cycle s).pending ≡ without (column_place_of (choice_of (at_choice s))) s.pending
pending_after s = by_choice (choice_of (at_choice s)) (at_choice s)
  where
    by_choice : (c : Choice) (g : State) → (ticked (served_by c (recorded (command_of g.pending c) g))).pending ≡ without (column_place_of c) g.pending
    by_choice choice.Nothing g = refl
    by_choice (choice.Refresh rank) g = refl
    by_choice (choice.PreAll rank) g = refl
    by_choice (choice.Act place) g = recorded_pending (command_of g.pending (choice.Act place)) g
    by_choice (choice.Pre place) g = recorded_pending (command_of g.pending (choice.Pre place)) g
    by_choice (choice.Column place) g =
        let r = recorded (command_of g.pending (choice.Column place)) g in
        let same = recorded_pending (command_of g.pending (choice.Column place)) g in
        served_without place (slice_get r.pending place) r refl ∙ ap (λ (ws : List Waiting). remove ws place) same
    by_choice (choice.ColumnAuto place) g =
        let r = recorded (command_of g.pending (choice.ColumnAuto place)) g in
        let same = recorded_pending (command_of g.pending (choice.ColumnAuto place)) g in
        served_without place (slice_get r.pending place) r refl ∙ ap (λ (ws : List Waiting). remove ws place) same

-- one taken out

ordered_removed : (pending : List Waiting) (place : ℕ) → AreOrdered pending → AreOrdered (remove pending place)
ordered_removed pending place o i j v w before first second = elim (cases_lt j place) [
  | inl below ↦ o i j v w before (sym (slice_get-remove_before pending place i (omega (arith, before, below))) ∙ first) (sym (slice_get-remove_before pending place j below) ∙ second)
  | inr above ↦ elim (cases_lt i place) [
    | inl low ↦ o i (suc j) v w (omega (arith, before)) (sym (slice_get-remove_before pending place i low) ∙ first) (sym (slice_get-remove_behind pending place j above) ∙ second)
    | inr high ↦ o (suc i) (suc j) v w (omega (arith, before)) (sym (slice_get-remove_behind pending place i high) ∙ first) (sym (slice_get-remove_behind pending place j above) ∙ second)
  ]
]

fewer : (kind : Kind) (pending : List Waiting) (place : ℕ) → pending_count kind (remove pending place) ≤ pending_count kind pending
fewer kind pending place = by_place (slice_get pending place) refl
  where
    by_place : (o : Option Waiting) → slice_get pending place ≡ o → pending_count kind (remove pending place) ≤ pending_count kind pending
    by_place None here = let same = ap (pending_count kind) (remove_none pending place here) in omega (arith, same)
    by_place (Some w) here = let same = count_remove kind pending place w here in omega (arith, same)

queued_without : (c : Config) (pending : List Waiting) (o : Option ℕ) → AreQueued c pending → AreQueued c (without o pending)
queued_without c pending None q = q
queued_without c pending (Some place) q = record {
  ordered = ordered_removed pending place q.ordered;
  few = λ kind. let less = fewer kind pending place in let most = q.few kind in omega (arith, less, most);
}

-- one more

ordered_pushed : (pending : List Waiting) (now : ℕ) (new : Waiting) → new.admitted ≡ now → All (λ (v : Waiting). v.admitted ≤ now) pending → AreOrdered pending → AreOrdered (pending ++ new ∷ [])
ordered_pushed pending now new at admitted o i j v w before first second = elim (pushed pending new i v first) [
  | inl old ↦ elim (pushed pending new j w second) [
    | inl both ↦ o i j v w before old.1 both.1
    | inr last ↦
        let early = All-at (λ (u : Waiting). u.admitted ≤ now) pending i v admitted old.1 in
        let late : new.admitted ≡ w.admitted = ap (λ (u : Waiting). u.admitted) last.1 in
        omega (arith, early, late, at)
  ]
  | inr last ↦ elim (pushed pending new j w second) [
    | inl below ↦ absurd (omega (arith, before, below.0, last.0))
    | inr same ↦
        let one : new.admitted ≡ v.admitted = ap (λ (u : Waiting). u.admitted) last.1 in
        let two : new.admitted ≡ w.admitted = ap (λ (u : Waiting). u.admitted) same.1 in
        omega (arith, one, two)
  ]
]

few_pushed : (c : Config) (pending : List Waiting) (new : Waiting) → leb (queue_size c new.request.echo.kind) (pending_count new.request.echo.kind pending) ≡ false → ((kind : Kind) → pending_count kind pending ≤ queue_size c kind) →
    (kind : Kind) → pending_count kind (pending ++ new ∷ []) ≤ queue_size c kind
few_pushed c pending new free few kind = by_kinds kind new.request.echo.kind free (few kind) (count_push kind pending new)
  where
    by_kinds : (kind mine : Kind) → leb (queue_size c mine) (pending_count mine pending) ≡ false → pending_count kind pending ≤ queue_size c kind → pending_count kind (pending ++ new ∷ []) ≡ pending_count kind pending + one_of kind mine →
        pending_count kind (pending ++ new ∷ []) ≤ queue_size c kind
    by_kinds Read Read room most more = let less = leb-false (queue_size c Read) (pending_count Read pending) room in omega (arith, less, more)
    by_kinds Write Write room most more = let less = leb-false (queue_size c Write) (pending_count Write pending) room in omega (arith, less, more)
    by_kinds Read Write room most more = omega (arith, most, more)
    by_kinds Write Read room most more = omega (arith, most, more)

-- each call

queued_if : (c : Config) (b : Bool) (old new : History) → AreQueued c old.state.pending → (b ≡ false → AreQueued c new.state.pending) → AreQueued c (cond b old new).state.pending
queued_if c true old new o n = o
queued_if c false old new o n = n refl

queued_call : (config : Config) (start : ℕ) (h : History) (call : Call) → IsKept config start h → AreQueued config h.state.pending → AreQueued config (after_call h call).state.pending
queued_call config start h (Admit r) kept q =
    let new : Waiting = record { request = r; admitted = h.state.now } in
    queued_if config (is_queue_full h.state r.echo.kind) h _ q (λ free. record {
      ordered = ordered_pushed h.state.pending h.state.now new refl kept.sound.admitted q.ordered;
      few = few_pushed config h.state.pending new (subst (λ (c : Config). leb (queue_size c r.echo.kind) (pending_count r.echo.kind h.state.pending) ≡ false) kept.config_is free) q.few;
    })
queued_call config start h Cycle kept q =
    queued_if config (eqb h.state.now CLOCK_STOP) h _ q (λ runs. subst (AreQueued config) (sym (pending_after h.state)) (queued_without config h.state.pending (column_place_of (choice_of (at_choice h.state))) q))
queued_call config start h Pop kept q = q

queued_from : (config : Config) (start : ℕ) (h : History) (calls : List Call) → AreCalls config calls → IsKept config start h → AreQueued config h.state.pending → AreQueued config (fold after_call h calls).state.pending
queued_from config start h [] may kept q = q
queued_from config start h (call ∷ calls) may kept q = queued_from config start (after_call h call) calls may.1 (kept_call config start h call may.0 kept) (queued_call config start h call kept q)

pub queued_run : (config : Config) (start : ℕ) (calls : List Call) → AreCalls config calls → AreQueued config (run config start calls).state.pending
queued_run config start calls may = queued_from config start (begun config start) calls may (kept_begun config start) (record {
  ordered = λ i j v w before first second. cc;
  few = λ kind. none kind;
})
  where
    none : (kind : Kind) → pending_count kind [] ≤ queue_size config kind
    none Read = omega arith
    none Write = omega arith
