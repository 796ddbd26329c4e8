-- A request that has reached the cap stays ahead of its limit: the invariant behind the bound on its time.
use Rattle.std.proofs.Common.{◌≡◌, ℕ, suc, ◌+◌, ◌-◌, ◌*◌, ◌<◌, ◌≤◌, Bool, true, false, ◌&&◌, cond, leb, max, List, [], ◌∷◌, ◌++◌, Option, Some, None, count_by, refl, sym, ap, subst, ◌∙◌, ◌⊎◌, inl, inr, arith}
use Rattle.std.specs.List.{remove, slice_get}
use Rattle.std.specs.Option.{IfSome}
use Rattle.std.proofs.Math.Nat.{mul-le-mul_right}
use Rattle.std.proofs.lemmas.Bool.{cases_lt, false≢true, le-leb, lt-leb}
use Rattle.std.proofs.lemmas.List.Sums.{sum_by-append, sum_by-cons}
use Rattle.ddr_timing.specs.declared.config.Config.{Config}
use Rattle.ddr_trace.specs.declared.command.Command.{Command}
use Rattle.ddr_trace.specs.declared.command.Entry.{Entry}
use Rattle.ddr_trace.specs.Commands.{entry, is_column}
use Rattle.ddr_hazards.specs.declared.waiting.Waiting.{Waiting}
use Rattle.ddr_channel.specs.Cycle.{with_command}
use Rattle.ddr_channel.specs.State.{State}
use Rattle.ddr_channel.proofs.ListLemmas.{slice_get-remove_behind}
use Rattle.ddr_channel.proofs.PlaceLemmas.{pushed}
use Rattle.ddr_deadline.specs.Step.{AreColumnsBy, overdue_at, refreshed_at}
use Rattle.ddr_deadline.specs.Wait.{served_by}
use Rattle.ddr_deadline.proofs.CountLemmas.{IsTickless, last_before, last_early, last_here, last_kept, last_tick, limit, limit_least, limit_served, limit_ticked, tick_early, tick_or_not, ticks_kept, ticks_more, ticks_none, ticks_since}
use Rattle.ddr_deadline.proofs.WaitLemmas.{served_ahead}

-- The clocks that a configuration asks of a request, and how they hang together.
pub record Numbers : Type 0 where
  pub service : ℕ
  pub alone : ℕ
  -- the cycles that the refresh commands of both ranks take in each interval, and how many one cycle takes
  pub stolen : ℕ
  pub slack : ℕ
  pub refresh : ℕ
  pub row : ℕ
  pub column : ℕ

pub record Fit (n : Numbers) (c : Config) : Type 0 where
  pub some : 1 ≤ n.service
  pub longer : n.service ≤ n.alone
  pub refreshed : n.refresh + c.timing.rfc + c.timing.rcd ≤ n.alone
  pub opened : n.row + c.timing.rcd ≤ n.alone
  pub column : n.column ≤ n.service
  pub leaves : n.alone + n.stolen ≤ c.timing.refi
  pub little : n.slack ≤ 1

-- every command stands before a cycle
abbrev pub AllBefore : ℕ → List Entry → Type 0
AllBefore now trace = (place : ℕ) (e : Entry) → slice_get trace place ≡ Some e → e.cycle < now

-- reads and writes

-- how many there were from a cycle on
pub served_since : ℕ → List Entry → ℕ
served_since from trace = count_by (λ e. is_column e.command && leb from e.cycle) trace

-- the command is no read and no write, if there is one
abbrev pub IsNoColumn : Option Command → Type 0
IsNoColumn o = IfSome o (λ d. is_column d ≡ false)

counted_yes : {X : Type 0} (p : X → Bool) (xs : List X) (x : X) → p x ≡ true → count_by p (xs ++ x ∷ []) ≡ count_by p xs + 1
counted_yes p xs x h = sum_by-append (λ y. cond (p y) 1 0) xs (x ∷ []) ∙ rw h (omega arith)

counted_no : {X : Type 0} (p : X → Bool) (xs : List X) (x : X) → p x ≡ false → count_by p (xs ++ x ∷ []) ≡ count_by p xs
counted_no p xs x h = sum_by-append (λ y. cond (p y) 1 0) xs (x ∷ []) ∙ rw h (omega arith)

served_kept : (from now : ℕ) (o : Option Command) (trace : List Entry) → IsNoColumn o → served_since from (with_command now o trace) ≡ served_since from trace
unfolding served_since
served_kept from now None trace none = refl
served_kept from now (Some d) trace none = counted_no (λ e. is_column e.command && leb from e.cycle) trace (entry now d) (rw none refl)

served_more : (from now : ℕ) (d : Command) (trace : List Entry) → is_column d ≡ true → from ≤ now → served_since from (with_command now (Some d) trace) ≡ served_since from trace + 1
unfolding served_since
served_more from now d trace column later = counted_yes (λ e. is_column e.command && leb from e.cycle) trace (entry now d) (rw (column, le-leb from now later) refl)

pub served_none : (from now : ℕ) (trace : List Entry) → AllBefore now trace → now ≤ from → served_since from trace ≡ 0
unfolding served_since
served_none from now [] before early = refl
served_none from now (e ∷ later) before early =
    let here = before 0 e refl in
    let none : leb from e.cycle ≡ false = lt-leb from e.cycle (omega (arith, here, early)) in
    let rest = served_none from now later (λ i x is. before (suc i) x is) early in
    sum_by-cons (λ a. cond (is_column a.command && leb from a.cycle) 1 0) e later ∙ by_test (is_column e.command) (leb from e.cycle) none rest
  where
    by_test : (w x : Bool) → x ≡ false → count_by (λ a. is_column a.command && leb from a.cycle) later ≡ 0 → cond (w && x) 1 0 + count_by (λ a. is_column a.command && leb from a.cycle) later ≡ 0
    by_test true x young rest = rw (young, rest) refl
    by_test false x young rest = rw rest refl

columns_later : (last more : ℕ) (trace : List Entry) → last ≤ more → AreColumnsBy last trace → AreColumnsBy more trace
columns_later last more trace later all place e is column = let it = all place e is column in omega (arith, it, later)

columns_next : (last now : ℕ) (o : Option Command) (trace : List Entry) → IfSome o (λ d. is_column d ≡ true → now ≤ last) → AreColumnsBy last trace → AreColumnsBy last (with_command now o trace)
columns_next last now None trace new all place e is column = all place e is column
columns_next last now (Some d) trace new all place e is column = elim (pushed trace (entry now d) place e is) [
  | inl old ↦ all place e old.1 column
  | inr newest ↦
      let it = new (ap (λ (a : Entry). is_column a.command) newest.1 ∙ column) in
      let cycle : now ≡ e.cycle = ap (λ (a : Entry). a.cycle) newest.1 in
      omega (arith, it, cycle)
]

no_column : (last now : ℕ) (o : Option Command) → IsNoColumn o → IfSome o (λ d. is_column d ≡ true → now ≤ last)
no_column last now None none = tt
no_column last now (Some d) none = λ is. absurd (false≢true (sym none ∙ is))

columns_before : (now : ℕ) (trace : List Entry) → AllBefore now trace → AreColumnsBy (now - 1) trace
columns_before now trace before place e is column = let it = before place e is in omega (arith, it)

-- the invariant

-- the ticks from a cycle on, the last tick of all, and the requests that were served from the cycle on
abbrev pub ticks_at : Config → ℕ → State → ℕ
ticks_at c from s = ticks_since s.start c.timing.refi from s.now

abbrev pub last_at : Config → State → ℕ
last_at c s = last_tick s.start c.timing.refi s.now

abbrev pub served_at : ℕ → State → ℕ
served_at from s = served_since from s.trace

abbrev pub limit_at : Numbers → Config → ℕ → State → ℕ
limit_at n c from s = limit n.service (n.alone + n.stolen) from (served_at from s) (ticks_at c from s)

-- the cycle whose tick makes the rank of a request overdue, and the one from which on the REFs of that rank let commands come
abbrev pub overdue_of : Config → State → Waiting → ℕ
overdue_of c s w = overdue_at c s w.request.place.rank

abbrev pub refreshed_of : Config → State → Waiting → ℕ
refreshed_of c s w = refreshed_at c s w.request.place.rank

-- The limit of the request at a place leaves time for a request that meets the last refresh, for one behind the last read or write, for
-- commands behind the last REF of its rank and of those of the older ones, and for the oldest one, where its rank owes no REF; and that
-- though refresh commands take so many cycles more until the next tick.
pub record IsAhead (n : Numbers) (c : Config) (place from left : ℕ) (s : State) : Type 0 where
  pub spare : left ≤ n.stolen
  pub tick : last_at c s + n.alone + n.stolen + 1 ≤ limit_at n c from s
  pub columns : AreColumnsBy (limit_at n c from s - (n.service + 1 + left)) s.trace
  pub refreshed : (i : ℕ) (w : Waiting) → i ≤ place → slice_get s.pending i ≡ Some w → refreshed_of c s w + c.timing.rcd + 1 + left ≤ limit_at n c from s
  pub oldest : (w : Waiting) → slice_get s.pending 0 ≡ Some w → s.now ≤ overdue_of c s w → served_by s w.request + 1 + left ≤ limit_at n c from s

-- Between two ticks a request is served: there is at most one tick more than requests that were served. Where there is one more, none was
-- since the last tick, and the oldest is served in the clocks of one that meets its refresh.
pub record IsPaced (n : Numbers) (c : Config) (from left : ℕ) (s : State) : Type 0 where
  pub few : ticks_at c from s ≤ served_at from s + 1
  pub columns : ticks_at c from s ≡ served_at from s + 1 → AreColumnsBy (last_at c s - 1) s.trace
  pub oldest : ticks_at c from s ≡ served_at from s + 1 → (w : Waiting) → slice_get s.pending 0 ≡ Some w → s.now ≤ overdue_of c s w → served_by s w.request + 1 + left ≤ last_at c s + n.alone + n.stolen

-- what a state tells of itself, whatever came before it
pub record Tells (n : Numbers) (c : Config) (s : State) : Type 0 where
  pub begun : s.start ≤ s.now
  pub before : AllBefore s.now s.trace
  -- no REF of a rank that requests are pending for is late
  pub soon : (i : ℕ) (w : Waiting) → slice_get s.pending i ≡ Some w → s.now + 1 ≤ overdue_of c s w + n.refresh + n.slack
  -- the last REF of a rank came before now
  pub past : (rank : ℕ) → refreshed_at c s rank + 1 ≤ s.now + c.timing.rfc
  -- the oldest request is served soon, if it is served alone
  pub close : (w : Waiting) → slice_get s.pending 0 ≡ Some w → served_by s w.request + 1 ≤ max (s.now + n.service) (refreshed_of c s w + c.timing.rcd + 1)

-- where the request has just reached the cap, or hasn't yet

pub fresh_ahead : (n : Numbers) (c : Config) (place from left : ℕ) (s : State) → Fit n c → Tells n c s → s.now ≤ from → left ≤ n.stolen → IsAhead n c place from left s
fresh_ahead n c place from left s fit t early spare =
    let least = limit_least n.service (n.alone + n.stolen) from (served_at from s) (ticks_at c from s) in
    let last = last_early s.start c.timing.refi s.now c.timing.refi_range.0 t.begun in record {
      spare = spare;
      tick = by_tick (last_at c s) s.now from n.service n.alone n.stolen (limit_at n c from s) last early fit.some least;
      columns = columns_later (s.now - 1) (limit_at n c from s - (n.service + 1 + left)) s.trace (by_columns s.now from n.service n.alone n.stolen left (limit_at n c from s) early fit.some fit.longer spare least) (columns_before s.now s.trace t.before);
      refreshed = λ i w older here. by_refresh (refreshed_of c s w) s.now from n.service n.alone n.stolen left n.refresh c.timing.rfc c.timing.rcd (limit_at n c from s) (t.past w.request.place.rank) early fit.refreshed spare least;
      oldest = λ w here free.
          by_oldest (served_by s w.request) (refreshed_of c s w) s.now from n.service n.alone n.stolen left n.refresh c.timing.rfc c.timing.rcd (limit_at n c from s)
          (t.close w here) (t.past w.request.place.rank) early fit.some fit.longer fit.refreshed spare least;
    }
  where
    by_tick : (last now from service alone stolen most : ℕ) → last ≤ now → now ≤ from → 1 ≤ service → from + service + (alone + stolen) ≤ most → last + alone + stolen + 1 ≤ most
    by_tick last now from service alone stolen most one two three four = omega (arith, one, two, three, four)

    by_columns : (now from service alone stolen left most : ℕ) → now ≤ from → 1 ≤ service → service ≤ alone → left ≤ stolen → from + service + (alone + stolen) ≤ most → now - 1 ≤ most - (service + 1 + left)
    by_columns now from service alone stolen left most one two three four five = omega (arith, one, two, three, four, five)

    by_refresh : (ref now from service alone stolen left refresh rfc rcd most : ℕ) → ref + 1 ≤ now + rfc → now ≤ from → refresh + rfc + rcd ≤ alone → left ≤ stolen → from + service + (alone + stolen) ≤ most → ref + rcd + 1 + left ≤ most
    by_refresh ref now from service alone stolen left refresh rfc rcd most one two three four five = omega (arith, one, two, three, four, five)

    by_oldest : (by ref now from service alone stolen left refresh rfc rcd most : ℕ) → by + 1 ≤ max (now + service) (ref + rcd + 1) → ref + 1 ≤ now + rfc → now ≤ from → 1 ≤ service → service ≤ alone → refresh + rfc + rcd ≤ alone → left ≤ stolen →
        from + service + (alone + stolen) ≤ most → by + 1 + left ≤ most
    by_oldest by ref now from service alone stolen left refresh rfc rcd most one two three four five six seven eight = omega (arith, one, two, three, four, five, six, seven, eight)

pub fresh_paced : (n : Numbers) (c : Config) (from left : ℕ) (s : State) → Tells n c s → s.now ≤ from → IsPaced n c from left s
fresh_paced n c from left s t early =
    let none = ticks_none s.start c.timing.refi from s.now c.timing.refi_range.0 early in
    let never : (ticks_at c from s ≡ served_at from s + 1 → ⊥) = λ one. none_one (ticks_at c from s) (served_at from s) none one in record {
      few = few_none (ticks_at c from s) (served_at from s) none;
      columns = λ one. absurd (never one);
      oldest = λ one w here free. absurd (never one);
    }
  where
    few_none : (ticks served : ℕ) → ticks ≡ 0 → ticks ≤ served + 1
    few_none ticks served none = omega (arith, none)

    none_one : (ticks served : ℕ) → ticks ≡ 0 → ticks ≡ served + 1 → ⊥
    none_one ticks served none one = omega (arith, none, one)

-- what each state in between finds

-- from a cycle on that has come, with this oldest request
pub record Finds (n : Numbers) (c : Config) (from : ℕ) (s : State) (w : Waiting) : Type 0 where
  pub fit : Fit n c
  pub tells : Tells n c s
  pub come : from ≤ s.now
  pub first : slice_get s.pending 0 ≡ Some w

overdue_last : (c : Config) (s : State) (rank : ℕ) → overdue_at c s rank < s.now → overdue_at c s rank ≤ last_at c s
overdue_last c s rank late = tick_early s.start c.timing.refi s.now _ c.timing.refi_range.0 late

-- now is before the limit
pub now_ahead : (n : Numbers) (c : Config) (place from left : ℕ) (s : State) (w : Waiting) → Finds n c from s w → IsAhead n c place from left s → s.now + 1 + left ≤ limit_at n c from s
now_ahead n c place from left s w f a = elim (cases_lt (overdue_of c s w) s.now) [
  | inl late ↦
      by_tick (overdue_of c s w) (last_at c s) s.now n.refresh c.timing.rfc c.timing.rcd n.alone n.stolen n.slack left (limit_at n c from s)
      (overdue_last c s w.request.place.rank late) (f.tells.soon 0 w f.first) f.fit.refreshed f.fit.little c.timing.rfc_range.0 a.spare a.tick
  | inr early ↦ by_oldest s.now (served_by s w.request) left (limit_at n c from s) (served_ahead s w) (a.oldest w f.first early)
]
  where
    by_tick : (due last now refresh rfc rcd alone stolen slack left most : ℕ) → due ≤ last → now + 1 ≤ due + refresh + slack → refresh + rfc + rcd ≤ alone → slack ≤ 1 → 1 ≤ rfc → left ≤ stolen → last + alone + stolen + 1 ≤ most → now + 1 + left ≤ most
    by_tick due last now refresh rfc rcd alone stolen slack left most one two three four five six seven = omega (arith, one, two, three, four, five, six, seven)

    by_oldest : (now by left most : ℕ) → now ≤ by → by + 1 + left ≤ most → now + 1 + left ≤ most
    by_oldest now by left most one two = omega (arith, one, two)

-- and before the next tick, where no request was served since the last one
now_paced : (n : Numbers) (c : Config) (from left : ℕ) (s : State) (w : Waiting) → Finds n c from s w → IsPaced n c from left s → ticks_at c from s ≡ served_at from s + 1 → s.now < last_at c s + c.timing.refi
now_paced n c from left s w f p one = elim (cases_lt (overdue_of c s w) s.now) [
  | inl late ↦
      by_tick (overdue_of c s w) (last_at c s) s.now n.refresh c.timing.rfc c.timing.rcd n.alone n.stolen n.slack c.timing.refi
      (overdue_last c s w.request.place.rank late) (f.tells.soon 0 w f.first) f.fit.refreshed f.fit.little c.timing.rfc_range.0 f.fit.leaves
  | inr early ↦ by_oldest s.now (served_by s w.request) (last_at c s) n.alone n.stolen left c.timing.refi (served_ahead s w) (p.oldest one w f.first early) f.fit.leaves
]
  where
    by_tick : (due last now refresh rfc rcd alone stolen slack refi : ℕ) → due ≤ last → now + 1 ≤ due + refresh + slack → refresh + rfc + rcd ≤ alone → slack ≤ 1 → 1 ≤ rfc → alone + stolen ≤ refi → now < last + refi
    by_tick due last now refresh rfc rcd alone stolen slack refi one two three four five six = omega (arith, one, two, three, four, five, six)

    by_oldest : (now by last alone stolen left refi : ℕ) → now ≤ by → by + 1 + left ≤ last + alone + stolen → alone + stolen ≤ refi → now < last + refi
    by_oldest now by last alone stolen left refi one two three = omega (arith, one, two, three)

-- the clock of a cycle

pub record Passes (s s' : State) (o : Option Command) : Type 0 where
  pub now : s'.now ≡ s.now + 1
  pub start : s'.start ≡ s.start
  pub trace : s'.trace ≡ with_command s.now o s.trace

record Untimed (c : Config) (from : ℕ) (s s' : State) : Type 0 where
  none : IsTickless s.start c.timing.refi s.now
  ticks : ticks_at c from s' ≡ ticks_at c from s
  last : last_at c s' ≡ last_at c s

record Timed (c : Config) (from : ℕ) (s s' : State) : Type 0 where
  ticks : ticks_at c from s' ≡ ticks_at c from s + 1
  last : last_at c s' ≡ s.now
  before : s.now ≡ last_at c s + c.timing.refi

clock : (c : Config) (from : ℕ) (s s' : State) (o : Option Command) → s.start ≤ s.now → from ≤ s.now → Passes s s' o → Untimed c from s s' ⊎ Timed c from s s'
clock c from s s' o begun come p = elim (tick_or_not s.start refi s.now some begun) [
  | inl none ↦ inl (record { none = none; ticks = ticks_next ∙ ticks_kept s.start refi from s.now none; last = last_next ∙ last_kept s.start refi s.now none })
  | inr tick ↦ inr (record { ticks = ticks_next ∙ ticks_more s.start refi from s.now some come tick; last = last_next ∙ last_here s.start refi s.now tick; before = last_before s.start refi s.now tick })
]
  where
    refi : ℕ
    refi = c.timing.refi

    some : 1 ≤ refi
    some = c.timing.refi_range.0

    ticks_next : ticks_at c from s' ≡ ticks_since s.start refi from (s.now + 1)
    ticks_next = ap (λ k. ticks_since k refi from s'.now) p.start ∙ ap (λ k. ticks_since s.start refi from k) p.now

    last_next : last_at c s' ≡ last_tick s.start refi (s.now + 1)
    last_next = ap (λ k. last_tick k refi s'.now) p.start ∙ ap (λ k. last_tick s.start refi k) p.now

-- a rank that is overdue in this cycle is so from a tick on that was, or is now
overdue_next : (c : Config) (s s' : State) (o : Option Command) (rank : ℕ) → Passes s s' o → overdue_at c s rank ≤ s.now → overdue_at c s rank ≤ last_at c s'
overdue_next c s s' o rank p late =
    let next : last_at c s' ≡ last_tick s.start c.timing.refi (s.now + 1) = ap (λ k. last_tick k c.timing.refi s'.now) p.start ∙ ap (λ k. last_tick s.start c.timing.refi k) p.now in
    subst (λ k. overdue_at c s rank ≤ k) (sym next) (tick_early s.start c.timing.refi (s.now + 1) _ c.timing.refi_range.0 (before_more (overdue_at c s rank) s.now late))
  where
    before_more : (m k : ℕ) → m ≤ k → m < k + 1
    before_more m k less = omega (arith, less)

-- How many cycles refresh commands may take behind a cycle that gave them so many: with those no more than are stolen in an interval, and,
-- where no tick fell, no more than before.
pub record Spends (n : Numbers) (c : Config) (s : State) (left left' moved : ℕ) : Type 0 where
  pub most : left' + moved ≤ n.stolen
  pub tickless : IsTickless s.start c.timing.refi s.now → left' + moved ≤ left
  pub little : moved ≤ n.slack

held : (n : Numbers) (c : Config) (s : State) (left left' moved : ℕ) → Spends n c s left left' moved → left' ≤ n.stolen
held n c s left left' moved spends = let most = spends.most in omega (arith, most)

-- how the limit grows

record Grows (n : Numbers) (c : Config) (from : ℕ) (s s' : State) (more left left' moved : ℕ) : Type 0 where
  limit : limit_at n c from s + more + left' + moved ≤ limit_at n c from s' + left
  tick : last_at c s' + n.alone + n.stolen + 1 ≤ limit_at n c from s'

grows : (n : Numbers) (c : Config) (from : ℕ) (s s' : State) (more left left' moved : ℕ) → Fit n c → Spends n c s left left' moved → Untimed c from s s' ⊎ Timed c from s s' →
    limit n.service (n.alone + n.stolen) from (served_at from s') (ticks_at c from s) ≡ limit_at n c from s + more → last_at c s + n.alone + n.stolen + 1 ≤ limit_at n c from s → s.now + 1 + left ≤ limit_at n c from s →
    Grows n c from s s' more left left' moved
grows n c from s s' more left left' moved fit spends (inl none) served tick now =
    let same : limit_at n c from s' ≡ limit_at n c from s + more = ap (limit n.service (n.alone + n.stolen) from (served_at from s')) none.ticks ∙ served in record {
      limit = as_many (limit_at n c from s) more (limit_at n c from s') left left' moved same (spends.tickless none.none);
      tick = as_late (last_at c s) (last_at c s') n.alone n.stolen (limit_at n c from s) more (limit_at n c from s') none.last tick same;
    }
  where
    as_many : (old more new left left' moved : ℕ) → new ≡ old + more → left' + moved ≤ left → old + more + left' + moved ≤ new + left
    as_many old more new left left' moved same less = omega (arith, same, less)

    as_late : (last later alone stolen old more new : ℕ) → later ≡ last → last + alone + stolen + 1 ≤ old → new ≡ old + more → later + alone + stolen + 1 ≤ new
    as_late last later alone stolen old more new one two three = omega (arith, one, two, three)
grows n c from s s' more left left' moved fit spends (inr one) served tick now =
    let same : limit_at n c from s' ≡ limit_at n c from s + more + (n.alone + n.stolen) =
    ap (limit n.service (n.alone + n.stolen) from (served_at from s')) one.ticks ∙ limit_ticked n.service (n.alone + n.stolen) from (served_at from s') (ticks_at c from s) ∙ ap (λ k. k + (n.alone + n.stolen)) served in record {
      limit = as_many (limit_at n c from s) more n.service n.alone n.stolen n.slack (limit_at n c from s') left left' moved same (held n c s left left' moved spends) spends.little fit.little fit.some fit.longer;
      tick = as_late s.now (last_at c s') n.alone n.stolen (limit_at n c from s) more left (limit_at n c from s') one.last now same;
    }
  where
    as_many : (old more service alone stolen slack new left left' moved : ℕ) → new ≡ old + more + (alone + stolen) → left' ≤ stolen → moved ≤ slack → slack ≤ 1 → 1 ≤ service → service ≤ alone → old + more + left' + moved ≤ new + left
    as_many old more service alone stolen slack new left left' moved same one two three four five = omega (arith, same, one, two, three, four, five)

    as_late : (now later alone stolen old more left new : ℕ) → later ≡ now → now + 1 + left ≤ old → new ≡ old + more + (alone + stolen) → later + alone + stolen + 1 ≤ new
    as_late now later alone stolen old more left new one two three = omega (arith, one, two, three)

-- a cycle that reads and writes nothing, and doesn't refresh the rank of the oldest request

-- The oldest request, and the cycle from which on its rank is overdue, are as before. Where it isn't, a refresh command of another rank may put
-- the request off by the cycle that it takes.
pub record Rests (c : Config) (s s' : State) (w : Waiting) (moved : ℕ) : Type 0 where
  pub pending : s'.pending ≡ s.pending
  pub overdue : overdue_of c s' w ≡ overdue_of c s w
  pub kept : s.now < overdue_of c s w → served_by s' w.request ≤ served_by s w.request + moved

-- the rank of a request has no REF in a cycle, or it is overdue
abbrev pub IsRefreshedIn : Config → State → State → ℕ → Type 0
IsRefreshedIn c s s' rank = (refreshed_at c s' rank ≡ refreshed_at c s rank) ⊎ ((overdue_at c s rank ≤ s.now) × (refreshed_at c s' rank ≤ s.now + c.timing.rfc))

abbrev pub AreRefreshedIn : Config → State → State → Type 0
AreRefreshedIn c s s' = (i : ℕ) (w : Waiting) → slice_get s.pending i ≡ Some w → IsRefreshedIn c s s' w.request.place.rank

same_oldest : (s s' : State) (w v : Waiting) → s'.pending ≡ s.pending → slice_get s.pending 0 ≡ Some w → slice_get s'.pending 0 ≡ Some v → w ≡ v
same_oldest s s' w v same first here = let it : Some w ≡ Some v = sym first ∙ sym (ap (λ (ws : List Waiting). slice_get ws 0) same) ∙ here in cc

still_early : (c : Config) (s s' : State) (o : Option Command) (w v : Waiting) → Passes s s' o → overdue_of c s' w ≡ overdue_of c s w → w ≡ v → s'.now ≤ overdue_of c s' v → s.now < overdue_of c s w
still_early c s s' o w v p same oldest free =
    let mine : s'.now ≤ overdue_of c s' w = subst (λ u. s'.now ≤ overdue_of c s' u) (sym oldest) free in
    less s.now s'.now (overdue_of c s' w) (overdue_of c s w) p.now same mine
  where
    less : (now now' due due' : ℕ) → now' ≡ now + 1 → due ≡ due' → now' ≤ due → now < due'
    less now now' due due' one two three = omega (arith, one, two, three)

pub served_kept_at : (from : ℕ) (s s' : State) (o : Option Command) → Passes s s' o → IsNoColumn o → served_at from s' ≡ served_at from s
served_kept_at from s s' o p quiet = ap (served_since from) p.trace ∙ served_kept from s.now o s.trace quiet

zero_more : (k : ℕ) → k ≡ k + 0
zero_more k = omega arith

unserved_limit : (n : Numbers) (c : Config) (from : ℕ) (s s' : State) (o : Option Command) → Passes s s' o → IsNoColumn o → limit n.service (n.alone + n.stolen) from (served_at from s') (ticks_at c from s) ≡ limit_at n c from s + 0
unserved_limit n c from s s' o p quiet = ap (λ k. limit n.service (n.alone + n.stolen) from k (ticks_at c from s)) (served_kept_at from s s' o p quiet) ∙ zero_more (limit_at n c from s)

columns_quiet : (s s' : State) (o : Option Command) (last more : ℕ) → Passes s s' o → IsNoColumn o → last ≤ more → AreColumnsBy last s.trace → AreColumnsBy more s'.trace
columns_quiet s s' o last more p quiet later all = subst (AreColumnsBy more) (sym p.trace) (columns_next more s.now o s.trace (no_column more s.now o quiet) (columns_later last more s.trace later all))

limit_column : (old more left left' moved new service : ℕ) → old + more + left' + moved ≤ new + left → old - (service + 1 + left) ≤ new - (service + 1 + left')
limit_column old more left left' moved new service less = omega (arith, less)

unserved_grows : (n : Numbers) (c : Config) (place from left left' moved : ℕ) (s s' : State) (o : Option Command) (w : Waiting) → Finds n c from s w → Passes s s' o → IsNoColumn o → Spends n c s left left' moved → IsAhead n c place from left s →
    Grows n c from s s' 0 left left' moved
unserved_grows n c place from left left' moved s s' o w f p quiet spends a =
    grows n c from s s' 0 left left' moved f.fit spends (clock c from s s' o f.tells.begun f.come p) (unserved_limit n c from s s' o p quiet) a.tick (now_ahead n c place from left s w f a)

-- the limit still leaves time behind the REFs of the ranks, where the same requests are pending
refreshed_next : (n : Numbers) (c : Config) (place from left left' moved : ℕ) (s s' : State) (o : Option Command) (w : Waiting) → Finds n c from s w → Passes s s' o → s'.pending ≡ s.pending → AreRefreshedIn c s s' → Spends n c s left left' moved →
    Grows n c from s s' 0 left left' moved → IsAhead n c place from left s → (i : ℕ) (v : Waiting) → i ≤ place → slice_get s'.pending i ≡ Some v → refreshed_of c s' v + c.timing.rcd + 1 + left' ≤ limit_at n c from s'
refreshed_next n c place from left left' moved s s' o w f p same refs spends g a i v older here = elim (refs i v there) [
  | inl kept ↦ as_before (refreshed_of c s v) (refreshed_of c s' v) c.timing.rcd left left' moved (limit_at n c from s) (limit_at n c from s') kept (a.refreshed i v older there) g.limit
  | inr now ↦
      as_now (refreshed_of c s' v) s.now (overdue_of c s v) (last_at c s') n.refresh c.timing.rfc c.timing.rcd n.alone n.stolen n.slack left' (limit_at n c from s')
      now.1 (f.tells.soon i v there) (overdue_next c s s' o v.request.place.rank p now.0) f.fit.refreshed f.fit.little (held n c s left left' moved spends) g.tick
]
  where
    there : slice_get s.pending i ≡ Some v
    there = ap (λ (ws : List Waiting). slice_get ws i) (sym same) ∙ here

    as_before : (ref ref' rcd left left' moved old new : ℕ) → ref' ≡ ref → ref + rcd + 1 + left ≤ old → old + 0 + left' + moved ≤ new + left → ref' + rcd + 1 + left' ≤ new
    as_before ref ref' rcd left left' moved old new one two three = omega (arith, one, two, three)

    as_now : (ref now due last refresh rfc rcd alone stolen slack left' new : ℕ) → ref ≤ now + rfc → now + 1 ≤ due + refresh + slack → due ≤ last → refresh + rfc + rcd ≤ alone → slack ≤ 1 → left' ≤ stolen → last + alone + stolen + 1 ≤ new → ref + rcd + 1 + left' ≤ new
    as_now ref now due last refresh rfc rcd alone stolen slack left' new one two three four five six seven = omega (arith, one, two, three, four, five, six, seven)

pub rests_ahead : (n : Numbers) (c : Config) (place from left left' moved : ℕ) (s s' : State) (o : Option Command) (w : Waiting) → Finds n c from s w → Passes s s' o → IsNoColumn o → AreRefreshedIn c s s' → Spends n c s left left' moved →
    Rests c s s' w moved → IsAhead n c place from left s → IsAhead n c place from left' s'
rests_ahead n c place from left left' moved s s' o w f p quiet refs spends r a =
    let g = unserved_grows n c place from left left' moved s s' o w f p quiet spends a in record {
      spare = held n c s left left' moved spends;
      tick = g.tick;
      columns = columns_quiet s s' o _ _ p quiet (limit_column (limit_at n c from s) 0 left left' moved (limit_at n c from s') n.service g.limit) a.columns;
      refreshed = refreshed_next n c place from left left' moved s s' o w f p r.pending refs spends g a;
      oldest = λ v here free.
          let oldest = same_oldest s s' w v r.pending f.first here in
          let early = still_early c s s' o w v p r.overdue oldest free in
          subst (λ (u : Waiting). served_by s' u.request + 1 + left' ≤ limit_at n c from s') oldest
          (as_served (served_by s w.request) (served_by s' w.request) s.now (overdue_of c s w) left left' moved (limit_at n c from s) (limit_at n c from s') (r.kept early) early (a.oldest w f.first) g.limit);
    }
  where
    as_served : (by by' now due left left' moved old new : ℕ) → by' ≤ by + moved → now < due → (now ≤ due → by + 1 + left ≤ old) → old + 0 + left' + moved ≤ new + left → by' + 1 + left' ≤ new
    as_served by by' now due left left' moved old new one two three four = let it = three (omega (arith, two)) in omega (arith, one, it, four)

-- where no more requests were served, a tick comes behind one that was served since the last one
not_twice : (n : Numbers) (c : Config) (from left : ℕ) (s s' : State) (w : Waiting) → Finds n c from s w → IsPaced n c from left s → Timed c from s s' → ticks_at c from s' ≤ served_at from s + 1
not_twice n c from left s s' w f p one = elim (cases_lt (ticks_at c from s) (served_at from s + 1)) [
  | inl less ↦ few (ticks_at c from s) (ticks_at c from s') (served_at from s) less one.ticks
  | inr more ↦ absurd (late s.now (last_at c s) c.timing.refi one.before (now_paced n c from left s w f p (same (ticks_at c from s) (served_at from s) more p.few)))
]
  where
    few : (ticks ticks' served : ℕ) → ticks < served + 1 → ticks' ≡ ticks + 1 → ticks' ≤ served + 1
    few ticks ticks' served less next = omega (arith, less, next)

    same : (ticks served : ℕ) → served + 1 ≤ ticks → ticks ≤ served + 1 → ticks ≡ served + 1
    same ticks served more less = omega (arith, more, less)

    late : (now last refi : ℕ) → now ≡ last + refi → now < last + refi → ⊥
    late now last refi is before = omega (arith, is, before)

pub rests_paced : (n : Numbers) (c : Config) (from left left' moved : ℕ) (s s' : State) (o : Option Command) (w : Waiting) → Finds n c from s w → Passes s s' o → IsNoColumn o → Spends n c s left left' moved → Rests c s s' w moved →
    IsPaced n c from left s → IsPaced n c from left' s'
rests_paced n c from left left' moved s s' o w f p quiet spends r a = elim (clock c from s s' o f.tells.begun f.come p) [
  | inl none ↦
      let back : (ticks_at c from s' ≡ served_at from s' + 1 → ticks_at c from s ≡ served_at from s + 1) = λ one. sym none.ticks ∙ one ∙ ap (λ k. k + 1) same in record {
        few = as_few (ticks_at c from s) (ticks_at c from s') (served_at from s) (served_at from s') none.ticks same a.few;
        columns = λ one. columns_quiet s s' o _ _ p quiet (as_late (last_at c s) (last_at c s') none.last) (a.columns (back one));
        oldest = λ one v here free.
            let oldest = same_oldest s s' w v r.pending f.first here in
            let early = still_early c s s' o w v p r.overdue oldest free in
            subst (λ (u : Waiting). served_by s' u.request + 1 + left' ≤ last_at c s' + n.alone + n.stolen) oldest
            (as_served (served_by s w.request) (served_by s' w.request) s.now (overdue_of c s w) (last_at c s) (last_at c s') n.alone n.stolen left left' moved (r.kept early) early (a.oldest (back one) w f.first) none.last (spends.tickless none.none));
      }
  | inr tick ↦ record {
    few = subst (λ k. ticks_at c from s' ≤ k + 1) (sym same) (not_twice n c from left s s' w f a tick);
    columns = λ one. columns_quiet s s' o _ _ p quiet (as_now s.now (last_at c s') tick.last) (columns_before s.now s.trace f.tells.before);
    oldest = λ one v here free.
        let oldest = same_oldest s s' w v r.pending f.first here in
        let early = still_early c s s' o w v p r.overdue oldest free in
        subst (λ (u : Waiting). served_by s' u.request + 1 + left' ≤ last_at c s' + n.alone + n.stolen) oldest
        (as_close (served_by s w.request) (served_by s' w.request) s.now (refreshed_of c s w) (last_at c s') n.service n.refresh c.timing.rfc c.timing.rcd n.alone n.stolen left' moved
        (r.kept early) (f.tells.close w f.first) (f.tells.past w.request.place.rank) tick.last f.fit.longer f.fit.refreshed spends.most);
  }
]
  where
    same : served_at from s' ≡ served_at from s
    same = served_kept_at from s s' o p quiet

    as_few : (ticks ticks' served served' : ℕ) → ticks' ≡ ticks → served' ≡ served → ticks ≤ served + 1 → ticks' ≤ served' + 1
    as_few ticks ticks' served served' one two three = omega (arith, one, two, three)

    as_late : (last last' : ℕ) → last' ≡ last → last - 1 ≤ last' - 1
    as_late last last' is = omega (arith, is)

    as_now : (now last' : ℕ) → last' ≡ now → now - 1 ≤ last' - 1
    as_now now last' is = omega (arith, is)

    as_served : (by by' now due last last' alone stolen left left' moved : ℕ) → by' ≤ by + moved → now < due → (now ≤ due → by + 1 + left ≤ last + alone + stolen) → last' ≡ last → left' + moved ≤ left → by' + 1 + left' ≤ last' + alone + stolen
    as_served by by' now due last last' alone stolen left left' moved one two three four five = let it = three (omega (arith, two)) in omega (arith, one, it, four, five)

    as_close : (by by' now ref last' service refresh rfc rcd alone stolen left' moved : ℕ) → by' ≤ by + moved → by + 1 ≤ max (now + service) (ref + rcd + 1) → ref + 1 ≤ now + rfc → last' ≡ now → service ≤ alone → refresh + rfc + rcd ≤ alone →
        left' + moved ≤ stolen → by' + 1 + left' ≤ last' + alone + stolen
    as_close by by' now ref last' service refresh rfc rcd alone stolen left' moved one two three four five six seven = omega (arith, one, two, three, four, five, six, seven)

-- a cycle that refreshes the rank of the oldest request

-- The rank is overdue. From the REF on, which takes a cycle where refresh commands may, the oldest request waits for it, for the ACTs before the
-- tick, and for the reads and writes so far.
pub record Refreshes (n : Numbers) (c : Config) (s s' : State) (w : Waiting) (moved : ℕ) : Type 0 where
  pub takes : n.slack ≤ moved
  pub pending : s'.pending ≡ s.pending
  pub overdue : overdue_of c s w ≤ s.now
  pub close : (last : ℕ) → AreColumnsBy last s.trace → served_by s' w.request + 1 ≤ max (max (s.now + c.timing.rfc + 1) (overdue_of c s w + n.row) + c.timing.rcd) (last + n.column + 1)

-- a tick that makes a rank overdue isn't cycle 0
overdue_some : (c : Config) (s : State) (rank : ℕ) → 1 ≤ overdue_at c s rank
overdue_some c s rank = some s.start _ c.timing.refi c.timing.refi_range.0
  where
    some : (start k refi : ℕ) → 1 ≤ refi → 1 ≤ start + (k + 1) * refi
    some start k refi one = let more = mul-le-mul_right {m = 1} {n = k + 1} refi (omega arith) in omega (arith, more, one)

pub refreshes_ahead : (n : Numbers) (c : Config) (place from left left' moved : ℕ) (s s' : State) (o : Option Command) (w : Waiting) → Finds n c from s w → Passes s s' o → IsNoColumn o → AreRefreshedIn c s s' → Spends n c s left left' moved →
    Refreshes n c s s' w moved → IsAhead n c place from left s → IsAhead n c place from left' s'
refreshes_ahead n c place from left left' moved s s' o w f p quiet refs spends r a =
    let g = unserved_grows n c place from left left' moved s s' o w f p quiet spends a in
    let due = overdue_next c s s' o w.request.place.rank p r.overdue in record {
      spare = held n c s left left' moved spends;
      tick = g.tick;
      columns = columns_quiet s s' o _ _ p quiet (limit_column (limit_at n c from s) 0 left left' moved (limit_at n c from s') n.service g.limit) a.columns;
      refreshed = refreshed_next n c place from left left' moved s s' o w f p r.pending refs spends g a;
      oldest = λ v here free.
          subst (λ (u : Waiting). served_by s' u.request + 1 + left' ≤ limit_at n c from s') (same_oldest s s' w v r.pending f.first here)
          (by_parts _ _ _ _ _ _ _ (r.close (limit_at n c from s - (n.service + 1 + left)) a.columns)
          (as_refreshed s.now (overdue_of c s w) (last_at c s') n.refresh c.timing.rfc c.timing.rcd n.alone n.stolen n.slack left' (limit_at n c from s') (f.tells.soon 0 w f.first) due f.fit.refreshed f.fit.little (held n c s left left' moved spends) g.tick)
          (as_opened (overdue_of c s w) (last_at c s') n.row c.timing.rcd n.alone n.stolen left' (limit_at n c from s') due f.fit.opened (held n c s left left' moved spends) g.tick)
          (as_column (limit_at n c from s) (limit_at n c from s') n.column n.service n.alone n.stolen (last_at c s') left left' moved g.limit f.fit.column f.fit.longer (held n c s left left' moved spends) g.tick));
    }
  where
    as_refreshed : (now due last refresh rfc rcd alone stolen slack left' new : ℕ) → now + 1 ≤ due + refresh + slack → due ≤ last → refresh + rfc + rcd ≤ alone → slack ≤ 1 → left' ≤ stolen → last + alone + stolen + 1 ≤ new → now + rfc + 1 + rcd + left' ≤ new
    as_refreshed now due last refresh rfc rcd alone stolen slack left' new one two three four five six = omega (arith, one, two, three, four, five, six)

    as_opened : (due last row rcd alone stolen left' new : ℕ) → due ≤ last → row + rcd ≤ alone → left' ≤ stolen → last + alone + stolen + 1 ≤ new → due + row + rcd + left' ≤ new
    as_opened due last row rcd alone stolen left' new one two three four = omega (arith, one, two, three, four)

    as_column : (old new column service alone stolen last left left' moved : ℕ) → old + 0 + left' + moved ≤ new + left → column ≤ service → service ≤ alone → left' ≤ stolen → last + alone + stolen + 1 ≤ new → old - (service + 1 + left) + column + 1 + left' ≤ new
    as_column old new column service alone stolen last left left' moved one two three four five = omega (arith, one, two, three, four, five)

    by_parts : (by ref row rest rcd left' new : ℕ) → by + 1 ≤ max (max ref row + rcd) rest → ref + rcd + left' ≤ new → row + rcd + left' ≤ new → rest + left' ≤ new → by + 1 + left' ≤ new
    by_parts by ref row rest rcd left' new one two three four = omega (arith, one, two, three, four)

pub refreshes_paced : (n : Numbers) (c : Config) (from left left' moved : ℕ) (s s' : State) (o : Option Command) (w : Waiting) → Finds n c from s w → Passes s s' o → IsNoColumn o → Spends n c s left left' moved → Refreshes n c s s' w moved →
    IsPaced n c from left s → IsPaced n c from left' s'
refreshes_paced n c from left left' moved s s' o w f p quiet spends r a = elim (clock c from s s' o f.tells.begun f.come p) [
  | inl none ↦
      let back : (ticks_at c from s' ≡ served_at from s' + 1 → ticks_at c from s ≡ served_at from s + 1) = λ one. sym none.ticks ∙ one ∙ ap (λ k. k + 1) same in record {
        few = as_few (ticks_at c from s) (ticks_at c from s') (served_at from s) (served_at from s') none.ticks same a.few;
        columns = λ one. columns_quiet s s' o _ _ p quiet (as_late (last_at c s) (last_at c s') none.last) (a.columns (back one));
        oldest = λ one v here free.
            subst (λ (u : Waiting). served_by s' u.request + 1 + left' ≤ last_at c s' + n.alone + n.stolen) (same_oldest s s' w v r.pending f.first here)
            (close (last_at c s) (r.close (last_at c s - 1) (a.columns (back one))) none.last);
      }
  | inr tick ↦ record {
    few = subst (λ k. ticks_at c from s' ≤ k + 1) (sym same) (not_twice n c from left s s' w f a tick);
    columns = λ one. columns_quiet s s' o _ _ p quiet (as_now s.now (last_at c s') tick.last) (columns_before s.now s.trace f.tells.before);
    oldest = λ one v here free.
        subst (λ (u : Waiting). served_by s' u.request + 1 + left' ≤ last_at c s' + n.alone + n.stolen) (same_oldest s s' w v r.pending f.first here)
        (close s.now (r.close (s.now - 1) (columns_before s.now s.trace f.tells.before)) tick.last);
  }
]
  where
    same : served_at from s' ≡ served_at from s
    same = served_kept_at from s s' o p quiet

    due : overdue_of c s w ≤ last_at c s'
    due = overdue_next c s s' o w.request.place.rank p r.overdue

    as_few : (ticks ticks' served served' : ℕ) → ticks' ≡ ticks → served' ≡ served → ticks ≤ served + 1 → ticks' ≤ served' + 1
    as_few ticks ticks' served served' one two three = omega (arith, one, two, three)

    as_late : (last last' : ℕ) → last' ≡ last → last - 1 ≤ last' - 1
    as_late last last' is = omega (arith, is)

    as_now : (now last' : ℕ) → last' ≡ now → now - 1 ≤ last' - 1
    as_now now last' is = omega (arith, is)

    as_refreshed : (now first last' refresh rfc rcd alone stolen slack left' moved : ℕ) → now + 1 ≤ first + refresh + slack → first ≤ last' → refresh + rfc + rcd ≤ alone → slack ≤ moved → left' + moved ≤ stolen → now + rfc + 1 + rcd + left' ≤ last' + alone + stolen
    as_refreshed now first last' refresh rfc rcd alone stolen slack left' moved one two three four five = omega (arith, one, two, three, four, five)

    as_opened : (first last' row rcd alone stolen left' moved : ℕ) → first ≤ last' → row + rcd ≤ alone → left' + moved ≤ stolen → first + row + rcd + left' ≤ last' + alone + stolen
    as_opened first last' row rcd alone stolen left' moved one two three = omega (arith, one, two, three)

    as_column : (last last' first column service alone stolen left' moved : ℕ) → last' ≡ last → first ≤ last' → 1 ≤ first → column ≤ service → service ≤ alone → left' + moved ≤ stolen → last - 1 + column + 1 + left' ≤ last' + alone + stolen
    as_column last last' first column service alone stolen left' moved one two three four five six = omega (arith, one, two, three, four, five, six)

    by_parts : (by ref row rest rcd left' new : ℕ) → by + 1 ≤ max (max ref row + rcd) rest → ref + rcd + left' ≤ new → row + rcd + left' ≤ new → rest + left' ≤ new → by + 1 + left' ≤ new
    by_parts by ref row rest rcd left' new one two three four = omega (arith, one, two, three, four)

    close : (last : ℕ) → served_by s' w.request + 1 ≤ max (max (s.now + c.timing.rfc + 1) (overdue_of c s w + n.row) + c.timing.rcd) (last - 1 + n.column + 1) → last_at c s' ≡ last →
        served_by s' w.request + 1 + left' ≤ last_at c s' + n.alone + n.stolen
    close last it is =
        by_parts _ _ _ _ _ _ _ it
        (as_refreshed s.now (overdue_of c s w) (last_at c s') n.refresh c.timing.rfc c.timing.rcd n.alone n.stolen n.slack left' moved (f.tells.soon 0 w f.first) due f.fit.refreshed r.takes spends.most)
        (as_opened (overdue_of c s w) (last_at c s') n.row c.timing.rcd n.alone n.stolen left' moved due f.fit.opened spends.most)
        (as_column last (last_at c s') (overdue_of c s w) n.column n.service n.alone n.stolen left' moved is due (overdue_some c s w.request.place.rank) f.fit.column f.fit.longer spends.most)

-- a cycle that serves the oldest request

pub record Serves (c : Config) (s s' : State) (w : Waiting) : Type 0 where
  pub early : s.now < overdue_of c s w
  pub pending : s'.pending ≡ remove s.pending 0
  pub refreshed : (rank : ℕ) → refreshed_at c s' rank ≡ refreshed_at c s rank

pub served_next : (from : ℕ) (s s' : State) (d : Command) → Passes s s' (Some d) → is_column d ≡ true → from ≤ s.now → served_at from s' ≡ served_at from s + 1
served_next from s s' d p column come = ap (served_since from) p.trace ∙ served_more from s.now d s.trace column come

-- the requests behind the oldest come a place forward
pub place_before : (s s' : State) (i : ℕ) (v : Waiting) → s'.pending ≡ remove s.pending 0 → slice_get s'.pending i ≡ Some v → slice_get s.pending (suc i) ≡ Some v
place_before s s' i v left here = sym (slice_get-remove_behind s.pending 0 i (least i)) ∙ ap (λ (ws : List Waiting). slice_get ws i) (sym left) ∙ here
  where
    least : (k : ℕ) → 0 ≤ k
    least k = omega arith

pub serves_ahead : (n : Numbers) (c : Config) (place from left left' : ℕ) (s s' : State) (d : Command) (w : Waiting) → Finds n c from s w → Passes s s' (Some d) → is_column d ≡ true → Serves c s s' w → Spends n c s left left' 0 → Tells n c s' →
    IsAhead n c (suc place) from left s → IsAhead n c place from left' s'
serves_ahead n c place from left left' s s' d w f p column r spends t a =
    let now = now_ahead n c (suc place) from left s w f a in
    let more : limit n.service (n.alone + n.stolen) from (served_at from s') (ticks_at c from s) ≡ limit_at n c from s + n.service =
    ap (λ k. limit n.service (n.alone + n.stolen) from k (ticks_at c from s)) (served_next from s s' d p column f.come) ∙ limit_served n.service (n.alone + n.stolen) from (served_at from s) (ticks_at c from s) in
    let g = grows n c from s s' n.service left left' 0 f.fit spends (clock c from s s' (Some d) f.tells.begun f.come p) more a.tick now in
    let last = limit_at n c from s' - (n.service + 1 + left') in
    let refreshed : ((i : ℕ) (v : Waiting) → i ≤ place → slice_get s'.pending i ≡ Some v → refreshed_of c s' v + c.timing.rcd + 1 + left' ≤ limit_at n c from s') = λ i v older here.
    as_refreshed (refreshed_of c s v) (refreshed_of c s' v) c.timing.rcd (limit_at n c from s) n.service left left' (limit_at n c from s') (r.refreshed v.request.place.rank) (a.refreshed (suc i) v (behind i place older) (place_before s s' i v r.pending here)) g.limit in record {
      spare = held n c s left left' 0 spends;
      tick = g.tick;
      columns = subst (AreColumnsBy last) (sym p.trace)
          (columns_next last s.now (Some d) s.trace (λ is. as_column s.now (limit_at n c from s) n.service left left' (limit_at n c from s') now g.limit)
          (columns_later (limit_at n c from s - (n.service + 1 + left)) last s.trace (limit_column (limit_at n c from s) n.service left left' 0 (limit_at n c from s') n.service g.limit) a.columns));
      refreshed = refreshed;
      oldest = λ v here free.
          as_close (served_by s' v.request) (refreshed_of c s' v) s.now s'.now c.timing.rcd (limit_at n c from s) n.service left left' (limit_at n c from s') (t.close v here) p.now now g.limit (refreshed 0 v (least place) here);
    }
  where
    behind : (i place : ℕ) → i ≤ place → suc i ≤ suc place
    behind i place older = omega (arith, older)

    least : (k : ℕ) → 0 ≤ k
    least k = omega arith

    as_refreshed : (ref ref' rcd old service left left' new : ℕ) → ref' ≡ ref → ref + rcd + 1 + left ≤ old → old + service + left' + 0 ≤ new + left → ref' + rcd + 1 + left' ≤ new
    as_refreshed ref ref' rcd old service left left' new one two three = omega (arith, one, two, three)

    as_column : (now old service left left' new : ℕ) → now + 1 + left ≤ old → old + service + left' + 0 ≤ new + left → now ≤ new - (service + 1 + left')
    as_column now old service left left' new one two = omega (arith, one, two)

    as_close : (by ref now now' rcd old service left left' new : ℕ) → by + 1 ≤ max (now' + service) (ref + rcd + 1) → now' ≡ now + 1 → now + 1 + left ≤ old → old + service + left' + 0 ≤ new + left → ref + rcd + 1 + left' ≤ new → by + 1 + left' ≤ new
    as_close by ref now now' rcd old service left left' new one two three four five = omega (arith, one, two, three, four, five)

pub serves_paced : (n : Numbers) (c : Config) (from left left' : ℕ) (s s' : State) (d : Command) (w : Waiting) → Finds n c from s w → Passes s s' (Some d) → is_column d ≡ true → IsPaced n c from left s → IsPaced n c from left' s'
serves_paced n c from left left' s s' d w f p column a =
    let less : ticks_at c from s' ≤ served_at from s' = elim (clock c from s s' (Some d) f.tells.begun f.come p) [
      | inl none ↦ as_few (ticks_at c from s) (ticks_at c from s') (served_at from s) (served_at from s') none.ticks same a.few
      | inr tick ↦ as_many (ticks_at c from s') (served_at from s) (served_at from s') same (not_twice n c from left s s' w f a tick)
    ] in
    let never : (ticks_at c from s' ≡ served_at from s' + 1 → ⊥) = λ one. apart (ticks_at c from s') (served_at from s') less one in record {
      few = most (ticks_at c from s') (served_at from s') less;
      columns = λ one. absurd (never one);
      oldest = λ one v here free. absurd (never one);
    }
  where
    same : served_at from s' ≡ served_at from s + 1
    same = served_next from s s' d p column f.come

    as_few : (ticks ticks' served served' : ℕ) → ticks' ≡ ticks → served' ≡ served + 1 → ticks ≤ served + 1 → ticks' ≤ served'
    as_few ticks ticks' served served' one two three = omega (arith, one, two, three)

    as_many : (ticks' served served' : ℕ) → served' ≡ served + 1 → ticks' ≤ served + 1 → ticks' ≤ served'
    as_many ticks' served served' one two = omega (arith, one, two)

    apart : (ticks served : ℕ) → ticks ≤ served → ticks ≡ served + 1 → ⊥
    apart ticks served less one = omega (arith, less, one)

    most : (ticks served : ℕ) → ticks ≤ served → ticks ≤ served + 1
    most ticks served less = omega (arith, less)
