-- How a cycle moves the oldest request, and what it leaves of the cycles that refresh commands may take, with one rank or two.
use Rattle.std.proofs.Common.{◌≡◌, ℕ, suc, ◌+◌, ◌*◌, ◌<◌, ◌≤◌, Bool, true, false, ◌&&◌, cond, eqb, leb, max, List, Option, Some, None, refl, sym, ap, subst, ◌∙◌, ◌⊎◌, inl, inr, arith}
use Rattle.std.specs.List.{slice_get}
use Rattle.std.specs.Option.{option_map}
use Rattle.std.proofs.lemmas.Bool.{cases_Bool, cases_lt, eq-eqb, eqb-true, false_from_ne_true, false≢true, le-leb, leb-true}
use Rattle.ddr_timing.specs.declared.config.Config.{Config}
use Rattle.ddr_trace.specs.declared.command.Command.{Command}
use Rattle.ddr_trace.specs.declared.command.Command.TheVariants.{Refresh}
use Rattle.ddr_trace.specs.declared.command.Entry.{Entry}
use Rattle.ddr_trace.specs.Commands.{entry, is_column, is_refresh, rank_of}
use Rattle.ddr_latency.specs.declared.clocks.Clocks.{Clocks}
use Rattle.ddr_latency.specs.Latency as clocks
use Rattle.ddr_address_map.specs.declared.place.Place.{Place}
use Rattle.ddr_address_map.specs.declared.request.Kind.{Kind}
use Rattle.ddr_address_map.specs.declared.request.Kind.TheVariants.{Read, Write}
use Rattle.ddr_legality.specs.Bus.{Bus}
use Rattle.ddr_hazards.specs.declared.waiting.Waiting.{Waiting}
use Rattle.ddr_arbiter.specs.declared.choice.Choice.{Choice}
use Rattle.ddr_arbiter.specs.declared.choice.Choice.TheVariants as choice
use Rattle.ddr_arbiter.specs.Choice.{some_bank_active}
use Rattle.ddr_arbiter.specs.Commands.{column_at, column_of}
use Rattle.ddr_arbiter.specs.Laws.{column_place_of, command_of, refreshed_rank}
use Rattle.ddr_channel.specs.Choice.{bus_of, choice_of}
use Rattle.ddr_channel.specs.Cycle.{after_cycle, at_choice, recorded}
use Rattle.ddr_channel.specs.Refresh.{overdue_from}
use Rattle.ddr_channel.specs.State.{State}
use Rattle.ddr_channel.proofs.HistoryLemmas.{served_alike}
use Rattle.ddr_channel.proofs.PromptLemmas.{after}
use Rattle.ddr_channel.proofs.RefreshLemmas.{count_other}
use Rattle.ddr_deadline.specs.Behind.{refreshed_from}
use Rattle.ddr_latency.specs.Bound.{leaves_room, stolen}
use Rattle.ddr_deadline.specs.Step.{ComesNearer, Leaves, overdue_at, refreshed_at}
use Rattle.ddr_deadline.proofs.AllowanceLemmas.{AreFew, AreOf, Closes, IsAllowed, Leaving, Lowers, active_refreshed, allowed_claims, allowed_most, claim_at, claims_few, claims_fewer, closes_leaving, due_before, idle_precharged, lowers_leaving}
use Rattle.ddr_deadline.proofs.AsideLemmas.{other_keeps}
use Rattle.ddr_deadline.proofs.CountLemmas.{IsTick, IsTickless, tick_or_not}
use Rattle.ddr_deadline.proofs.FreeLemmas.{bus_after}
use Rattle.ddr_deadline.proofs.GrowthLemmas.{still}
use Rattle.ddr_deadline.proofs.InTimeLemmas.{AreRefreshedIn, Fit, IsNoColumn, IsRefreshedIn, Numbers, Passes, Refreshes, Rests, Serves, Spends, place_before}
use Rattle.ddr_deadline.proofs.PendingLemmas.{pending_after, without}
use Rattle.ddr_deadline.proofs.RefreshedLemmas.{idle_at, refresh_close, refresh_is_legal, refreshed_now}
use Rattle.ddr_deadline.proofs.StepLemmas.{IsReady, is_refresh_choice, own_steps, served, there, unrefreshed}
use Rattle.ddr_deadline.proofs.TurnLemmas.{Claims, IsOwnChoice, IsPrecharge, IsRefresh, Owns, Waits, forced_in, overdue_pending, own_chosen, owns_claims, precharge_claims, refresh_claims, turn_of, waits_claims}

-- the clocks of a configuration

abbrev pub numbers_of : Config → Numbers
numbers_of c = record {
  service = clocks.service (clocks.clocks_of c);
  alone = clocks.alone (clocks.clocks_of c);
  stolen = stolen c;
  slack = cond (eqb c.geometry.ranks 2) 1 0;
  refresh = clocks.refresh (clocks.clocks_of c);
  row = clocks.row (clocks.clocks_of c);
  column = clocks.column (clocks.clocks_of c);
}

one_at_most : (two : Bool) → cond two 1 0 ≤ 1
one_at_most true = omega arith
one_at_most false = omega arith

pub fit_of : (c : Config) → leaves_room c ≡ true → Fit (numbers_of c) c
fit_of c enough = by_parts (clocks.refresh k) (clocks.row k) (clocks.column k) (stolen c) (cond (eqb c.geometry.ranks 2) 1 0) c.timing.rcd_range.0 (one_at_most (eqb c.geometry.ranks 2)) (leb-true _ _ enough)
  where
    k : Clocks
    k = clocks.clocks_of c

    by_parts : (refresh row column stolen slack : ℕ) → 1 ≤ c.timing.rcd → slack ≤ 1 → max (max (refresh + c.timing.rfc) row + c.timing.rcd) column + stolen ≤ c.timing.refi →
        Fit (record { service = max (row + c.timing.rcd) column; alone = max (max (refresh + c.timing.rfc) row + c.timing.rcd) column; stolen = stolen; slack = slack; refresh = refresh; row = row; column = column }) c
    by_parts refresh row column stolen slack some little enough = record {
      some = omega (arith, some);
      longer = omega arith;
      refreshed = omega arith;
      opened = omega arith;
      column = omega arith;
      leaves = enough;
      little = little;
    }

-- what refresh commands may take

-- with one rank nothing
abbrev pub Allows : ℕ → Bus → List Waiting → ℕ → Type 0
Allows place b pending left = ((left ≡ 0) × (b.config.geometry.ranks ≡ 1)) ⊎ (IsAllowed place b pending left × (b.config.geometry.ranks ≡ 2))

-- what is known of the debts, where there are two ranks
abbrev pub OwesFew : Bus → Type 0
OwesFew b = b.config.geometry.ranks ≡ 2 → AreFew b

one_or_two : (n : ℕ) → 1 ≤ n → n ≤ 2 → (n ≡ 1) ⊎ (n ≡ 2)
one_or_two n some few = elim (cases_lt n 2) [ inl less ↦ inl (omega (arith, some, less)) | inr more ↦ inr (omega (arith, few, more)) ]

stolen_two : (c : Config) → c.geometry.ranks ≡ 2 → stolen c ≡ 2 * c.timing.postpone + 5
stolen_two c two = rw two refl

stolen_one : (c : Config) → c.geometry.ranks ≡ 1 → stolen c ≡ 0
stolen_one c one = rw one refl

-- so each interval leaves time that does without them
pub one_rank_leaves : (c : Config) → clocks.leaves_time c ≡ true → c.geometry.ranks ≡ 1 → leaves_room c ≡ true
one_rank_leaves c leaves one = by_sum (clocks.alone (clocks.clocks_of c)) (stolen c) c.timing.refi leaves (stolen_one c one)
  where
    by_sum : (alone more refi : ℕ) → leb alone refi ≡ true → more ≡ 0 → leb (alone + more) refi ≡ true
    by_sum alone more refi leaves none = let less = leb-true alone refi leaves in le-leb (alone + more) refi (omega (arith, less, none))

slack_one : (c : Config) → c.geometry.ranks ≡ 1 → (numbers_of c).slack ≡ 0
slack_one c one = rw one refl

-- as many as are stolen in an interval
pub allows_most : (place : ℕ) (b : Bus) (pending : List Waiting) → OwesFew b → Allows place b pending (stolen b.config)
allows_most place b pending few = elim (one_or_two b.config.geometry.ranks b.config.geometry.ranks_range.0 b.config.geometry.ranks_range.1) [
  | inl one ↦ inl (stolen_one b.config one, one)
  | inr two ↦ inr (subst (λ k. IsAllowed place b pending k) (sym (stolen_two b.config two)) (allowed_most place b pending (few two)), two)
]

-- a cycle takes none, or it leaves a rank with no active bank
abbrev Quiets : State → ℕ → Type 0
Quiets s moved = (moved ≡ 0) ⊎ ((rank : ℕ) × (rank < 2) × (some_bank_active (bus_of (after_cycle s)) rank ≡ false))

-- what a cycle leaves of them, where its command takes so many
pub record Spent (n : Numbers) (c : Config) (s s' : State) (place left moved : ℕ) : Type 0 where
  pub then : ℕ
  pub allowed : Allows place (bus_of s') s'.pending then
  pub spends : Spends n c s left then moved

not_both : (b : Bus) → IsTickless b.start b.config.timing.refi b.now → IsTick b.start b.config.timing.refi b.now → ⊥
not_both b none tick = apart _ _ none.due tick.due
  where
    apart : (new old : ℕ) → new ≡ old → new ≡ old + 1 → ⊥
    apart new old one two = omega (arith, one, two)

leaving_spent : (s : State) (place left moved : ℕ) (o : Option Command) → bus_of (after_cycle s) ≡ after o (bus_of s) → s.config.geometry.ranks ≡ 2 → moved ≤ (numbers_of s.config).slack → left ≤ stolen s.config →
    Leaving place (after o (bus_of s)) (after_cycle s).pending left moved → Spent (numbers_of s.config) s.config s (after_cycle s) place left moved
leaving_spent s place left moved o next two little spare l = record {
  then = l.then;
  allowed = subst (λ (b : Bus). Allows place b (after_cycle s).pending l.then) (sym next) (inr (l.allowed, two));
  spends = record { most = as_most (l.then + moved) left (stolen s.config) l.less spare; tickless = λ none. l.less; little = little };
}
  where
    as_most : (all left most : ℕ) → all ≤ left → left ≤ most → all ≤ most
    as_most all left most one two = omega (arith, one, two)

spent_of : (s : State) (w : Waiting) (place place' left moved : ℕ) → slice_get s.pending 0 ≡ Some w → w.request.place.rank < s.config.geometry.ranks → s.start ≤ s.now → OwesFew (bus_of (after_cycle s)) → moved ≤ (numbers_of s.config).slack →
    (s.config.geometry.ranks ≡ 2 → Claims s w (command_of s.pending (choice_of (at_choice s))) moved × Quiets s moved) → AreOf place place' s.pending (after_cycle s).pending → left ≤ stolen s.config → Allows place (bus_of s) s.pending left →
    Spent (numbers_of s.config) s.config s (after_cycle s) place' left moved
spent_of s w place place' left moved first inside begun few little claims same spare (inl none) = record {
  then = 0;
  allowed = inl (refl, ap (λ (b : Bus). b.config.geometry.ranks) (bus_after s) ∙ none.1);
  spends = record { most = no_more moved (stolen s.config) (numbers_of s.config).slack little (slack_one s.config none.1); tickless = λ quiet. no_more moved left (numbers_of s.config).slack little (slack_one s.config none.1); little = little };
}
  where
    no_more : (moved left slack : ℕ) → moved ≤ slack → slack ≡ 0 → 0 + moved ≤ left
    no_more moved left slack one two = omega (arith, one, two)
spent_of s w place place' left moved first inside begun few little claims same spare (inr some) = elim (tick_or_not s.start s.config.timing.refi s.now s.config.timing.refi_range.0 begun) [
  | inl none ↦ by_claims none ((claims some.1).0 none)
  | inr tick ↦ record {
    then = then;
    allowed = inr (allowed_claims place' b' (after_cycle s).pending, two');
    spends = record {
      most = subst (λ n. then + moved ≤ n) (ap (λ (b : Bus). stolen b.config) (bus_after s)) (subst (λ n. then + moved ≤ n) (sym (stolen_two b'.config two')) (by_quiet (claims some.1).1));
      tickless = λ none. absurd (not_both (bus_of s) none tick);
      little = little;
    };
  }
]
  where
    o : Option Command
    o = command_of s.pending (choice_of (at_choice s))

    b' : Bus
    b' = bus_of (after_cycle s)

    two' : b'.config.geometry.ranks ≡ 2
    two' = ap (λ (b : Bus). b.config.geometry.ranks) (bus_after s) ∙ some.1

    then : ℕ
    then = claim_at (due_before b') b' 0 + claim_at (due_before b') b' 1 + 1

    none_more : (k m most : ℕ) → m ≡ 0 → k ≤ most → k + m ≤ most
    none_more k m most one two = omega (arith, one, two)

    one_more : (k m slack most : ℕ) → m ≤ slack → slack ≤ 1 → k + 1 ≤ most → k + m ≤ most
    one_more k m slack most one two three = omega (arith, one, two, three)

    by_quiet : Quiets s moved → then + moved ≤ 2 * b'.config.timing.postpone + 5
    by_quiet (inl none) = none_more then moved _ none (claims_few b' (few two'))
    by_quiet (inr quiet) = one_more then moved (numbers_of s.config).slack _ little (one_at_most (eqb s.config.geometry.ranks 2)) (claims_fewer b' quiet.0 (few two') quiet.1 quiet.2)

    by_claims : IsTickless s.start s.config.timing.refi s.now → Lowers (bus_of s) (after o (bus_of s)) w moved ⊎ ((rank : ℕ) × Closes (bus_of s) (after o (bus_of s)) s.pending moved rank) → Spent (numbers_of s.config) s.config s (after_cycle s) place' left moved
    by_claims none (inl lowers) = leaving_spent s place' left moved o (bus_after s) some.1 little spare (lowers_leaving place place' (bus_of s) o w s.pending (after_cycle s).pending left moved first none same lowers some.0)
    by_claims none (inr closes) =
        leaving_spent s place' left moved o (bus_after s) some.1 little spare
        (closes_leaving place place' (bus_of s) o w s.pending (after_cycle s).pending left moved closes.0 first (subst (λ n. w.request.place.rank < n) some.1 inside) none same closes.1 some.0)

-- the cycle of a channel

pub passes_cycle : (s : State) → Passes s (after_cycle s) (command_of s.pending (choice_of (at_choice s)))
passes_cycle s =
    let c = choice_of (at_choice s) in
    let r = recorded (command_of s.pending c) (at_choice s) in record {
      now = ap (λ k. k + 1) (served_alike {X = ℕ} (λ t. t.now) (λ t place q. refl) c r);
      start = served_alike {X = ℕ} (λ t. t.start) (λ t place q. refl) c r;
      trace = served_alike {X = List Entry} (λ t. t.trace) (λ t place q. refl) c r;
    }

mapped_quiet : (f : Waiting → Command) (o : Option Waiting) → ((w : Waiting) → is_column (f w) ≡ false) → IsNoColumn (option_map f o)
mapped_quiet f None quiet = tt
mapped_quiet f (Some w) quiet = quiet w

quiet_of : (pending : List Waiting) (c : Choice) → column_place_of c ≡ None → IsNoColumn (command_of pending c)
quiet_of pending choice.Nothing none = tt
quiet_of pending (choice.Refresh rank) none = refl
quiet_of pending (choice.PreAll rank) none = refl
quiet_of pending (choice.Act place) none = mapped_quiet _ (slice_get pending place) (λ w. refl)
quiet_of pending (choice.Pre place) none = mapped_quiet _ (slice_get pending place) (λ w. refl)
quiet_of pending (choice.Column place) none = let never : ⊥ = cc in absurd never
quiet_of pending (choice.ColumnAuto place) none = let never : ⊥ = cc in absurd never

column_is : (auto : Bool) (kind : Kind) (p : Place) → is_column (column_at auto kind p) ≡ true
column_is false Read p = refl
column_is false Write p = refl
column_is true Read p = refl
column_is true Write p = refl

column_command : (pending : List Waiting) (c : Choice) (w : Waiting) → column_place_of c ≡ Some 0 → slice_get pending 0 ≡ Some w → (d : Command) × (command_of pending c ≡ Some d) × (is_column d ≡ true)
column_command pending choice.Nothing w of here = let never : ⊥ = cc in absurd never
column_command pending (choice.Refresh rank) w of here = let never : ⊥ = cc in absurd never
column_command pending (choice.PreAll rank) w of here = let never : ⊥ = cc in absurd never
column_command pending (choice.Act place) w of here = let never : ⊥ = cc in absurd never
column_command pending (choice.Pre place) w of here = let never : ⊥ = cc in absurd never
column_command pending (choice.Column place) w of here =
    let zeroth : place ≡ 0 = cc in
    (column_of false w.request, ap (option_map (λ (v : Waiting). column_of false v.request)) (ap (slice_get pending) zeroth ∙ here), column_is false w.request.echo.kind w.request.place)
column_command pending (choice.ColumnAuto place) w of here =
    let zeroth : place ≡ 0 = cc in
    (column_of true w.request, ap (option_map (λ (v : Waiting). column_of true v.request)) (ap (slice_get pending) zeroth ∙ here), column_is true w.request.echo.kind w.request.place)

-- a cycle serves no request, or the oldest one

pub record Unserved (n : Numbers) (c : Config) (s s' : State) (w : Waiting) : Type 0 where
  pub command : Option Command
  pub moved : ℕ
  pub passes : Passes s s' command
  pub quiet : IsNoColumn command
  pub pending : s'.pending ≡ s.pending
  pub refs : AreRefreshedIn c s s'
  pub spent : (place left : ℕ) → left ≤ n.stolen → Allows place (bus_of s) s.pending left → Spent n c s s' place left moved
  pub how : Rests c s s' w moved ⊎ Refreshes n c s s' w moved

pub record Served (n : Numbers) (c : Config) (s s' : State) (w : Waiting) : Type 0 where
  pub command : Command
  pub passes : Passes s s' (Some command)
  pub column : is_column command ≡ true
  pub spent : (place left : ℕ) → left ≤ n.stolen → Allows (suc place) (bus_of s) s.pending left → Spent n c s s' place left 0
  pub serves : Serves c s s' w

abbrev pub Moves : Numbers → Config → State → State → Waiting → Type 0
Moves n c s s' w = Unserved n c s s' w ⊎ Served n c s s' w

-- what is known of the debts before and behind the cycle
record Debts (s : State) : Type 0 where
  before : OwesFew (bus_of s)
  behind : OwesFew (bus_of (after_cycle s))

pending_same : (s : State) → column_place_of (choice_of (at_choice s)) ≡ None → (after_cycle s).pending ≡ s.pending
pending_same s none = pending_after s ∙ ap (λ o. without o s.pending) none

unserved : (s : State) (w : Waiting) (moved : ℕ) → IsReady s w → Debts s → column_place_of (choice_of (at_choice s)) ≡ None → moved ≤ (numbers_of s.config).slack → AreRefreshedIn s.config s (after_cycle s) →
    (s.config.geometry.ranks ≡ 2 → Claims s w (command_of s.pending (choice_of (at_choice s))) moved × Quiets s moved) → Rests s.config s (after_cycle s) w moved ⊎ Refreshes (numbers_of s.config) s.config s (after_cycle s) w moved →
    Moves (numbers_of s.config) s.config s (after_cycle s) w
unserved s w moved k debts none little refs claims how = inl (record {
  command = command_of s.pending (choice_of (at_choice s));
  moved = moved;
  passes = passes_cycle s;
  quiet = quiet_of s.pending (choice_of (at_choice s)) none;
  pending = pending_same s none;
  refs = refs;
  spent = λ place left spare allowed.
      spent_of s w place place left moved k.oldest (there s w k) k.sound.begun debts.behind little claims
      (λ i v older here. (i, older, ap (λ (ws : List Waiting). slice_get ws i) (sym (pending_same s none)) ∙ here)) spare allowed;
  how = how;
})

slack_least : (two : Bool) → 0 ≤ cond two 1 0
slack_least true = omega arith
slack_least false = omega arith

-- a choice for the oldest request has no REF

own_free : (c : Choice) → IsOwnChoice c → is_refresh_choice c ≡ false
own_free choice.Nothing own = refl
own_free (choice.Refresh rank) own = absurd own
own_free (choice.PreAll rank) own = refl
own_free (choice.Act place) own = refl
own_free (choice.Pre place) own = refl
own_free (choice.Column place) own = refl
own_free (choice.ColumnAuto place) own = refl

-- so the REFs are as before
free_refs : (s : State) (c : Choice) → choice_of (at_choice s) ≡ c → is_refresh_choice c ≡ false → AreRefreshedIn s.config s (after_cycle s)
free_refs s c is free i v here = inl (unrefreshed s v.request.place.rank c is free).refreshed

as_many : (m n : ℕ) → m ≤ n → m ≤ n + 0
as_many m n less = omega (arith, less)

late_early : (now due : ℕ) → due ≤ now → now < due → ⊥
late_early now due one two = omega (arith, one, two)

-- the request's own step

owns_moves : (s : State) (w : Waiting) → IsReady s w → Debts s → Owns s w → Moves (numbers_of s.config) s.config s (after_cycle s) w
owns_moves s w k debts own = by_step (own_steps s w k own.early own.alone _ refl)
  where
    c : Choice
    c = choice_of (at_choice s)

    free : is_refresh_choice c ≡ false
    free = own_free c (own_chosen s w own)

    by_step : ComesNearer s.config s w ⊎ Leaves s.config s w → Moves (numbers_of s.config) s.config s (after_cycle s) w
    by_step (inl nearer) =
        unserved s w 0 k debts nearer.unserved.choice (slack_least (eqb s.config.geometry.ranks 2)) (free_refs s c refl free) (λ two. (owns_claims s w k own, inl refl))
        (inl (record { pending = nearer.unserved.pending; overdue = nearer.unrefreshed.overdue; kept = λ early. as_many _ _ nearer.kept }))
    by_step (inr leaves) =
        let column = column_command s.pending c w leaves.choice k.oldest in
        inr (record {
          command = column.0;
          passes = subst (Passes s (after_cycle s)) column.1 (passes_cycle s);
          column = column.2;
          spent = λ place left spare allowed.
              spent_of s w (suc place) place left 0 k.oldest (there s w k) k.sound.begun debts.behind (slack_least (eqb s.config.geometry.ranks 2)) (λ two. (owns_claims s w k own, inl refl))
              (λ i v older here. (suc i, behind i place older, place_before s (after_cycle s) i v leaves.pending here)) spare allowed;
          serves = record { early = leaves.early; pending = leaves.pending; refreshed = λ rank. (unrefreshed s rank c refl free).refreshed };
        })
      where
        behind : (i place : ℕ) → i ≤ place → suc i ≤ suc place
        behind i place older = omega (arith, older)

-- nothing comes, though the rank is overdue

waits_moves : (s : State) (w : Waiting) → IsReady s w → Debts s → Waits s w → Moves (numbers_of s.config) s.config s (after_cycle s) w
waits_moves s w k debts waits =
    let none = ap column_place_of waits.is in
    unserved s w 0 k debts none (slack_least (eqb s.config.geometry.ranks 2)) (free_refs s choice.Nothing waits.is refl) (λ two. (waits_claims s w waits.is, inl refl))
    (inl (record { pending = pending_same s none; overdue = (unrefreshed s w.request.place.rank choice.Nothing waits.is refl).overdue; kept = λ early. absurd (late_early _ _ waits.late early) }))

-- a refresh command of another rank

-- there are two then
two_of : (s : State) (w : Waiting) (rank : ℕ) → IsReady s w → refreshed_rank (choice_of (at_choice s)) ≡ Some rank → (rank ≡ w.request.place.rank → ⊥) → s.config.geometry.ranks ≡ 2
two_of s w rank k chosen apart = elim (one_or_two s.config.geometry.ranks s.config.geometry.ranks_range.0 s.config.geometry.ranks_range.1) [
  | inr two ↦ two
  | inl one ↦ absurd (apart (same rank w.request.place.rank s.config.geometry.ranks (forced_in s rank chosen) (there s w k) one))
]
  where
    same : (a b ranks : ℕ) → a < ranks → b < ranks → ranks ≡ 1 → a ≡ b
    same a b ranks one two three = omega (arith, one, two, three)

apart_of : (a b : ℕ) → eqb a b ≡ false → a ≡ b → ⊥
apart_of a b other is = false≢true (sym other ∙ eq-eqb a b is)

slack_two : (s : State) → s.config.geometry.ranks ≡ 2 → 1 ≤ cond (eqb s.config.geometry.ranks 2) 1 0
slack_two s two = subst (λ n. 1 ≤ cond (eqb n 2) 1 0) (sym two) (omega arith)

bus_next : (s : State) (c : Choice) → choice_of (at_choice s) ≡ c → bus_of (after_cycle s) ≡ after (command_of s.pending c) (bus_of s)
bus_next s c is = bus_after s ∙ ap (λ d. after (command_of s.pending d) (bus_of s)) is

below_two : (rank ranks : ℕ) → rank < ranks → ranks ≡ 2 → rank < 2
below_two rank ranks one two = omega (arith, one, two)

-- behind a PREA, and behind a REF, the rank has no active bank
precharge_quiets : (s : State) (rank : ℕ) → choice_of (at_choice s) ≡ choice.PreAll rank → some_bank_active (bus_of (after_cycle s)) rank ≡ false
precharge_quiets s rank is = ap (λ b. some_bank_active b rank) (bus_next s (choice.PreAll rank) is) ∙ idle_precharged (bus_of s) rank

refresh_quiets : (s : State) (rank : ℕ) → choice_of (at_choice s) ≡ choice.Refresh rank → some_bank_active (bus_of (after_cycle s)) rank ≡ false
refresh_quiets s rank is =
    ap (λ b. some_bank_active b rank) (bus_next s (choice.Refresh rank) is)
    ∙ false_from_ne_true (some_bank_active (after (Some (Refresh rank)) (bus_of s)) rank) (λ active. false≢true (sym (idle_at (bus_of s) rank (refresh_is_legal s rank is)) ∙ active_refreshed (bus_of s) rank active))

-- PREA

precharge_moves : (s : State) (w : Waiting) → IsReady s w → Debts s → IsPrecharge s → Moves (numbers_of s.config) s.config s (after_cycle s) w
precharge_moves s w k debts pre = elim (cases_Bool (eqb pre.rank w.request.place.rank)) [
  | inl same ↦
      let late = overdue_pending s w.request.place.rank 0 w k.sound.begun (chosen ∙ ap Some (eqb-true pre.rank w.request.place.rank same)) k.oldest refl in
      unserved s w 0 k debts none (slack_least (eqb s.config.geometry.ranks 2)) refs (λ two. (precharge_claims s w pre.rank 0 two k.sound.begun (omega arith) pre.is, inl refl))
      (inl (record { pending = pending_same s none; overdue = overdue; kept = λ early. absurd (late_early _ _ late early) }))
  | inr other ↦
      let apart : (pre.rank ≡ w.request.place.rank → ⊥) = λ is. apart_of pre.rank w.request.place.rank other is in
      let two = two_of s w pre.rank k chosen apart in
      unserved s w 1 k debts none (slack_two s two) refs (λ also. (precharge_claims s w pre.rank 1 also k.sound.begun (omega arith) pre.is, inr (pre.rank, below_two pre.rank s.config.geometry.ranks (forced_in s pre.rank chosen) also, precharge_quiets s pre.rank pre.is)))
      (inl (record { pending = pending_same s none; overdue = overdue; kept = λ early. other_keeps s w.request pre.rank chosen apart }))
]
  where
    chosen : refreshed_rank (choice_of (at_choice s)) ≡ Some pre.rank
    chosen = ap refreshed_rank pre.is

    none : column_place_of (choice_of (at_choice s)) ≡ None
    none = ap column_place_of pre.is

    refs : AreRefreshedIn s.config s (after_cycle s)
    refs = free_refs s (choice.PreAll pre.rank) pre.is refl

    overdue : overdue_at s.config (after_cycle s) w.request.place.rank ≡ overdue_at s.config s w.request.place.rank
    overdue = (unrefreshed s w.request.place.rank (choice.PreAll pre.rank) pre.is refl).overdue

-- REF

overdue_other : (s : State) (rank other : ℕ) → choice_of (at_choice s) ≡ choice.Refresh rank → eqb rank other ≡ false → overdue_at s.config (after_cycle s) other ≡ overdue_at s.config s other
overdue_other s rank other is apart =
    ap (λ (b : Bus). overdue_from s.config b.start other b.trace) (bus_next s (choice.Refresh rank) is)
    ∙ ap (λ n. s.start + (n + s.config.timing.postpone + 1) * s.config.timing.refi) (count_other other (entry s.now (Refresh rank)) s.trace apart)

refreshed_other : (s : State) (rank other : ℕ) → choice_of (at_choice s) ≡ choice.Refresh rank → eqb rank other ≡ false → refreshed_at s.config (after_cycle s) other ≡ refreshed_at s.config s other
refreshed_other s rank other is apart =
    ap (λ (b : Bus). refreshed_from s.config.timing other b.trace) (bus_next s (choice.Refresh rank) is)
    ∙ still (λ a. is_refresh a && eqb (rank_of a) other) (λ _. s.config.timing.rfc) s.trace (entry s.now (Refresh rank)) apart

refresh_refs : (s : State) (rank : ℕ) → s.start ≤ s.now → choice_of (at_choice s) ≡ choice.Refresh rank → AreRefreshedIn s.config s (after_cycle s)
refresh_refs s rank begun is i v here = elim (cases_Bool (eqb rank v.request.place.rank)) [
  | inr other ↦ inl (refreshed_other s rank v.request.place.rank is other)
  | inl same ↦
      let it = eqb-true rank v.request.place.rank same in
      subst (IsRefreshedIn s.config s (after_cycle s)) it
      (inr (
        overdue_pending s rank i v begun (ap refreshed_rank is) here (sym it),
        subst (λ (b : Bus). refreshed_from s.config.timing rank b.trace ≤ s.now + s.config.timing.rfc) (sym (bus_next s (choice.Refresh rank) is)) (refreshed_now (bus_of s) rank (refresh_is_legal s rank is)),
      ))
]

refresh_moves : (s : State) (w : Waiting) → IsReady s w → Debts s → IsRefresh s → Moves (numbers_of s.config) s.config s (after_cycle s) w
refresh_moves s w k debts ref = elim (cases_Bool (eqb ref.rank w.request.place.rank)) [
  | inl same ↦
      let it = eqb-true ref.rank w.request.place.rank same in
      unserved s w (numbers_of s.config).slack k debts none (same_self _) refs
      (λ two. (refresh_claims s w ref.rank (numbers_of s.config).slack two k.sound.begun (debts.before two) (one_at_most (eqb s.config.geometry.ranks 2)) ref.is, inr (quiets two)))
      (inr (record {
        takes = same_self _;
        pending = pending_same s none;
        overdue = overdue_pending s w.request.place.rank 0 w k.sound.begun (chosen ∙ ap Some it) k.oldest refl;
        close = refresh_close s w.request k.sound (served s w k) (k.prompt w.request.place.rank (there s w k)) (ref.is ∙ ap choice.Refresh it);
      }))
  | inr other ↦
      let apart : (ref.rank ≡ w.request.place.rank → ⊥) = λ is. apart_of ref.rank w.request.place.rank other is in
      let two = two_of s w ref.rank k chosen apart in
      unserved s w 1 k debts none (slack_two s two) refs (λ also. (refresh_claims s w ref.rank 1 also k.sound.begun (debts.before also) (omega arith) ref.is, inr (quiets also)))
      (inl (record { pending = pending_same s none; overdue = overdue_other s ref.rank w.request.place.rank ref.is other; kept = λ early. other_keeps s w.request ref.rank chosen apart }))
]
  where
    chosen : refreshed_rank (choice_of (at_choice s)) ≡ Some ref.rank
    chosen = ap refreshed_rank ref.is

    none : column_place_of (choice_of (at_choice s)) ≡ None
    none = ap column_place_of ref.is

    refs : AreRefreshedIn s.config s (after_cycle s)
    refs = refresh_refs s ref.rank k.sound.begun ref.is

    quiets : s.config.geometry.ranks ≡ 2 → (rank : ℕ) × (rank < 2) × (some_bank_active (bus_of (after_cycle s)) rank ≡ false)
    quiets two = (ref.rank, below_two ref.rank s.config.geometry.ranks (forced_in s ref.rank chosen) two, refresh_quiets s ref.rank ref.is)

    same_self : (m : ℕ) → m ≤ m
    same_self m = omega arith

pub moves_of : (s : State) (w : Waiting) → IsReady s w → OwesFew (bus_of s) → OwesFew (bus_of (after_cycle s)) → Moves (numbers_of s.config) s.config s (after_cycle s) w
moves_of s w k before behind =
    let debts : Debts s = record { before = before; behind = behind } in
    elim (turn_of s w k) [
      | inl own ↦ owns_moves s w k debts own
      | inr (inl waits) ↦ waits_moves s w k debts waits
      | inr (inr (inl ref)) ↦ refresh_moves s w k debts ref
      | inr (inr (inr pre)) ↦ precharge_moves s w k debts pre
    ]
