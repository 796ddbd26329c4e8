-- Each pending request stays ahead of its limit, call by call; so it is served in time.
use Rattle.std.proofs.Common.{◌≡◌, ℕ, zero, suc, ◌+◌, ◌-◌, ◌*◌, ◌<◌, ◌≤◌, Bool, true, false, ◌&&◌, cond, eqb, ltb, min, max, List, [], ◌∷◌, ◌++◌, length, Option, Some, None, refl, sym, ap, subst, ◌∙◌, inl, inr, arith}
use Rattle.std.specs.List.{slice_get}
use Rattle.std.specs.Option.{IfSome, IsSomeAnd, option_and_then, option_map}
use Rattle.std.proofs.lemmas.Bool.{and_parts, cases_lt, eq-eqb, eqb-false, ltb-true, true≢false}
use Rattle.std.proofs.lemmas.List.{append_assoc, append-nil}
use Rattle.std.proofs.lemmas.List.Sums.{fold-append}
use Rattle.std.proofs.lemmas.Option.{slice_get_within}
use Rattle.ddr_timing.specs.declared.config.Config.{Config}
use Rattle.ddr_timing.specs.declared.units.TheConstants.{CLOCK_STOP}
use Rattle.ddr_trace.specs.declared.command.Command.{Command}
use Rattle.ddr_trace.specs.declared.command.Entry.{Entry}
use Rattle.ddr_trace.specs.Commands.{is_refresh, rank_of}
use Rattle.ddr_latency.specs.Latency as clocks
use Rattle.ddr_address_map.specs.declared.place.Place.{Place}
use Rattle.ddr_address_map.specs.declared.request.Kind.{Kind}
use Rattle.ddr_address_map.specs.declared.request.Kind.TheVariants.{Read, Write}
use Rattle.ddr_address_map.specs.Requests.{Request}
use Rattle.ddr_legality.specs.Bus.{Bus}
use Rattle.ddr_hazards.specs.declared.waiting.Waiting.{Waiting}
use Rattle.ddr_arbiter.specs.Laws.{column_place_of, command_of}
use Rattle.ddr_channel.specs.Choice.{bus_of, choice_of}
use Rattle.ddr_channel.specs.Cycle.{after_cycle, at_choice, service_time}
use Rattle.ddr_channel.specs.History.{Call, Admit, Cycle, Pop, History, Owner, after_call, begun, run, with_owner}
use Rattle.ddr_channel.specs.Promise.{AreCalls, MayCall}
use Rattle.ddr_channel.specs.Sound.{IsServed, IsSound}
use Rattle.ddr_channel.specs.State.{State, after_admit, after_pop, is_queue_full}
use Rattle.ddr_channel.specs.Told.{column_request, issued_with, served_as}
use Rattle.ddr_channel.proofs.BusLemmas.{all_before}
use Rattle.ddr_channel.proofs.HistoryLemmas.{IsKept, kept_run}
use Rattle.ddr_channel.proofs.InTimeLemmas.{refreshes_of_run}
use Rattle.ddr_channel.proofs.ListLemmas.{All-at, All-last, slice_get-remove_before, slice_get-remove_behind}
use Rattle.ddr_channel.proofs.PlaceLemmas.{at_place, pushed}
use Rattle.ddr_latency.specs.Bound.{burst, latency, leaves_room, left_over, most_pending, most_refreshes, refreshed, rounded_up, stolen}
use Rattle.ddr_deadline.specs.InTime.{FindsAllTaken, IsServedInTime, TakesAll, admissions, admitted_by}
use Rattle.ddr_deadline.specs.Step.{overdue_at, refreshed_at}
use Rattle.ddr_deadline.specs.Wait.{served_by}
use Rattle.ddr_deadline.proofs.AdmissionLemmas.{AreAdmitted, admissions_more, admitted_begun, admitted_call, takes_more}
use Rattle.ddr_deadline.proofs.BehindLemmas.{behind_most}
use Rattle.ddr_deadline.proofs.CountLemmas.{all_served, few_ticks, last_far, limit}
use Rattle.ddr_deadline.proofs.InTimeLemmas.{Finds, Fit, IsAhead, IsPaced, Numbers, Tells, fresh_ahead, fresh_paced, last_at, limit_at, now_ahead, place_before, refreshes_ahead, refreshes_paced, rests_ahead, rests_paced, served_at, served_none, serves_ahead, serves_paced, served_kept_at, served_next, ticks_at}
use Rattle.ddr_deadline.proofs.LegalLemmas.{inside}
use Rattle.ddr_deadline.proofs.MovesLemmas.{Allows, Moves, OwesFew, Served, Unserved, allows_most, fit_of, moves_of, numbers_of, passes_cycle}
use Rattle.ddr_deadline.proofs.PendingLemmas.{AreOrdered, pending_after, queued_few, queued_run, without}
use Rattle.ddr_deadline.proofs.PromptLemmas.{ArePrompt, prompt_run, refreshed_soon}
use Rattle.ddr_deadline.proofs.StartLemmas.{start_run}
use Rattle.ddr_deadline.proofs.StepLemmas.{IsReady}

-- what each run tells

rank_in : (s : State) (p : Place) → IsServed s.config p → p.rank < s.config.geometry.ranks
rank_in s p served =
    let g = s.config.geometry in
    let bank = (inside (bus_of s) p served).bank in
    let both = and_parts (ltb p.rank g.ranks && ltb p.group g.groups) (ltb p.bank 4) bank in
    ltb-true p.rank g.ranks (and_parts (ltb p.rank g.ranks) (ltb p.group g.groups) both.0).0

ref_past : (c : Config) (s : State) (rank : ℕ) → ((i : ℕ) (e : Entry) → slice_get s.trace i ≡ Some e → e.cycle < s.now) → refreshed_at c s rank + 1 ≤ s.now + c.timing.rfc
ref_past c s rank before =
    let some = c.timing.rfc_range.0 in
    let most = behind_most (λ a. is_refresh a && eqb (rank_of a) rank) (λ _. c.timing.rfc) s.trace (s.now + c.timing.rfc - 1) (λ i e is passes. past e.cycle s.now c.timing.rfc (before i e is)) in
    one_more (refreshed_at c s rank) s.now c.timing.rfc some most
  where
    past : (cycle now rfc : ℕ) → cycle < now → cycle + rfc ≤ now + rfc - 1
    past cycle now rfc early = omega (arith, early)

    one_more : (ref now rfc : ℕ) → 1 ≤ rfc → ref ≤ now + rfc - 1 → ref + 1 ≤ now + rfc
    one_more ref now rfc some most = omega (arith, some, most)

-- no rank's REF is late: with one rank it comes sooner by the two cycles that another may take
ref_soon : (s : State) (rank : ℕ) → ArePrompt (bus_of s) → rank < s.config.geometry.ranks → s.now + 1 ≤ overdue_at s.config s rank + (numbers_of s.config).refresh + (numbers_of s.config).slack
ref_soon s rank prompt there = by_two (eqb s.config.geometry.ranks 2) refl
  where
    due : ℕ
    due = overdue_at s.config s rank

    by_two : (two : Bool) → eqb s.config.geometry.ranks 2 ≡ two → s.now + 1 ≤ due + clocks.refresh (clocks.clocks_of s.config) + cond two 1 0
    by_two true is = let it = (prompt rank there).by.1 in omega (arith, it)
    by_two false is =
        let first : rank ≡ 0 = only_first rank s.config.geometry.ranks there s.config.geometry.ranks_range.1 (λ two. absurd (true≢false (sym (eq-eqb s.config.geometry.ranks 2 two) ∙ is))) in
        subst (λ n. s.now + 1 ≤ overdue_at s.config s n + clocks.refresh (clocks.clocks_of s.config) + 0) (sym first)
        (let it = refreshed_soon (bus_of s) (prompt 0 (subst (λ n. n < s.config.geometry.ranks) first there)) in omega (arith, it))
      where
        only_first : (rank ranks : ℕ) → rank < ranks → ranks ≤ 2 → (ranks ≡ 2 → ⊥) → rank ≡ 0
        only_first rank ranks below few other = elim (cases_lt ranks 2) [ inl less ↦ omega (arith, below, less) | inr more ↦ absurd (other (omega (arith, few, more))) ]

tells_of : (s : State) → IsSound s → ArePrompt (bus_of s) → ((w : Waiting) → slice_get s.pending 0 ≡ Some w → served_by s w.request + 1 ≤ max (s.now + clocks.service (clocks.clocks_of s.config)) (refreshed_at s.config s w.request.place.rank + s.config.timing.rcd + 1)) →
    Tells (numbers_of s.config) s.config s
tells_of s sound prompt close =
    let before = all_before s.config s.start s.now s.trace sound.legal in record {
      begun = sound.begun;
      before = before;
      soon = λ i w here. ref_soon s w.request.place.rank prompt (rank_in s w.request.place (All-at (λ (v : Waiting). IsServed s.config v.request.place) s.pending i w sound.served here));
      past = λ rank. ref_past s.config s rank before;
      close = close;
    }

tells_run : (config : Config) (start : ℕ) (calls : List Call) → AreCalls config calls → Tells (numbers_of config) config (run config start calls).state
tells_run config start calls may =
    let s = (run config start calls).state in
    let kept = kept_run config start calls may in
    subst (λ (c : Config). Tells (numbers_of c) c s) kept.config_is
    (tells_of s kept.sound (prompt_run config start calls may)
    (λ w here. subst (λ (c : Config). served_by s w.request + 1 ≤ max (s.now + clocks.service (clocks.clocks_of c)) (refreshed_at c s w.request.place.rank + c.timing.rcd + 1)) (sym kept.config_is) (start_run config start calls may 0 w here)))

-- what the ranks owe
owes_run : (config : Config) (start : ℕ) (calls : List Call) → AreCalls config calls → OwesFew (bus_of (run config start calls).state)
owes_run config start calls may two rank inside =
    let kept = kept_run config start calls may in
    (refreshes_of_run config start calls may rank (subst (λ n. rank < n) (sym (sym (ap (λ (c : Config). c.geometry.ranks) kept.config_is) ∙ two)) inside)).debt

-- a request on its way

-- The request at a place of the pending ones, which reaches the cap in that cycle: with those that were served since then, and those
-- before it, it is one of as many as may be pending.
record IsOnWay (n : Numbers) (c : Config) (place from : ℕ) (s : State) : Type 0 where
  few : place + 1 + served_at from s ≤ most_pending c
  left : ℕ
  allowed : Allows place (bus_of s) s.pending left
  ahead : IsAhead n c place from left s
  paced : IsPaced n c from left s

abbrev AreOnWay : Numbers → Config → State → Type 0
AreOnWay n c s = (place : ℕ) (v : Waiting) → slice_get s.pending place ≡ Some v → IsOnWay n c place (v.admitted + c.limits.cap) s

-- as many cycles are allowed as may be stolen
record Begins (n : Numbers) (s : State) : Type 0 where
  owes : OwesFew (bus_of s)
  stolen : stolen s.config ≤ n.stolen

fresh_on_way : (n : Numbers) (c : Config) (place from : ℕ) (s : State) → Fit n c → Tells n c s → Begins n s → place < most_pending c → s.now ≤ from → IsOnWay n c place from s
fresh_on_way n c place from s fit t b few early = record {
  few = as_few place (served_at from s) (most_pending c) few (served_none from s.now s.trace t.before early);
  left = stolen s.config;
  allowed = allows_most place (bus_of s) s.pending b.owes;
  ahead = fresh_ahead n c place from (stolen s.config) s fit t early b.stolen;
  paced = fresh_paced n c from (stolen s.config) s t early;
}
  where
    as_few : (place served most : ℕ) → place < most → served ≡ 0 → place + 1 + served ≤ most
    as_few place served most one two = omega (arith, one, two)

-- a cycle

unserved_on_way : (n : Numbers) (c : Config) (place from : ℕ) (s s' : State) (w : Waiting) → Finds n c from s w → Unserved n c s s' w → IsOnWay n c place from s → IsOnWay n c place from s'
unserved_on_way n c place from s s' w f u on =
    let spent = u.spent place on.left on.ahead.spare on.allowed in record {
      few = subst (λ k. place + 1 + k ≤ most_pending c) (sym (served_kept_at from s s' u.command u.passes u.quiet)) on.few;
      left = spent.then;
      allowed = spent.allowed;
      ahead = elim u.how [
        | inl rests ↦ rests_ahead n c place from on.left spent.then u.moved s s' u.command w f u.passes u.quiet u.refs spent.spends rests on.ahead
        | inr refreshes ↦ refreshes_ahead n c place from on.left spent.then u.moved s s' u.command w f u.passes u.quiet u.refs spent.spends refreshes on.ahead
      ];
      paced = elim u.how [
        | inl rests ↦ rests_paced n c from on.left spent.then u.moved s s' u.command w f u.passes u.quiet spent.spends rests on.paced
        | inr refreshes ↦ refreshes_paced n c from on.left spent.then u.moved s s' u.command w f u.passes u.quiet spent.spends refreshes on.paced
      ];
    }

served_on_way : (n : Numbers) (c : Config) (place from : ℕ) (s s' : State) (w : Waiting) → Finds n c from s w → Served n c s s' w → Tells n c s' → IsOnWay n c (suc place) from s → IsOnWay n c place from s'
served_on_way n c place from s s' w f u t on =
    let spent = u.spent place on.left on.ahead.spare on.allowed in record {
      few = as_few place (served_at from s) (served_at from s') (most_pending c) on.few (served_next from s s' u.command u.passes u.column f.come);
      left = spent.then;
      allowed = spent.allowed;
      ahead = serves_ahead n c place from on.left spent.then s s' u.command w f u.passes u.column u.serves spent.spends t on.ahead;
      paced = serves_paced n c from on.left spent.then s s' u.command w f u.passes u.column on.paced;
    }
  where
    as_few : (place served served' most : ℕ) → suc place + 1 + served ≤ most → served' ≡ served + 1 → place + 1 + served' ≤ most
    as_few place served served' most one two = omega (arith, one, two)

-- a request that is pending behind a cycle was before
was_there : (pending : List Waiting) (o : Option ℕ) (place : ℕ) (v : Waiting) → slice_get (without o pending) place ≡ Some v → (old : ℕ) × (slice_get pending old ≡ Some v)
was_there pending None place v here = (place, here)
was_there pending (Some out) place v here = elim (cases_lt place out) [
  | inl below ↦ (place, sym (slice_get-remove_before pending out place below) ∙ here)
  | inr above ↦ (suc place, sym (slice_get-remove_behind pending out place above) ∙ here)
]

cycle_on_way : (n : Numbers) (c : Config) (s s' : State) (o : Option ℕ) → Fit n c → Tells n c s → Tells n c s' → Begins n s' → AreOrdered s.pending → length s'.pending ≤ most_pending c → s'.now ≡ s.now + 1 → s'.pending ≡ without o s.pending →
    ((w : Waiting) → slice_get s.pending 0 ≡ Some w → w.admitted + c.limits.cap ≤ s.now → Moves n c s s' w) → AreOnWay n c s → AreOnWay n c s'
cycle_on_way n c s s' o fit t t' b ordered few now left moves on place v here = elim (cases_lt s.now (v.admitted + c.limits.cap)) [
  | inl early ↦ fresh_on_way n c place (v.admitted + c.limits.cap) s' fit t' b (inside_few place (length s'.pending) (most_pending c) (slice_get_within s'.pending place v here) few) (not_yet s.now s'.now (v.admitted + c.limits.cap) now early)
  | inr come ↦
      let was = was_there s.pending o place v (ap (λ (ws : List Waiting). slice_get ws place) (sym left) ∙ here) in
      let first = at_place s.pending 0 (some_there was.0 (length s.pending) (slice_get_within s.pending was.0 v was.1)) in
      let older = ordered 0 was.0 first.0 v (zero_least was.0) first.1 was.1 in
      let f : Finds n c (v.admitted + c.limits.cap) s first.0 = record { fit = fit; tells = t; come = come; first = first.1 } in
      elim (moves first.0 first.1 (as_old first.0.admitted v.admitted c.limits.cap s.now older come)) [
        | inl unserved ↦ unserved_on_way n c place (v.admitted + c.limits.cap) s s' first.0 f unserved (on place v (ap (λ (ws : List Waiting). slice_get ws place) (sym unserved.pending) ∙ here))
        | inr served ↦
            served_on_way n c place (v.admitted + c.limits.cap) s s' first.0 f served t' (on (suc place) v (place_before s s' place v served.serves.pending here))
      ]
]
  where
    inside_few : (place many most : ℕ) → place < many → many ≤ most → place < most
    inside_few place many most one two = omega (arith, one, two)

    not_yet : (now now' from : ℕ) → now' ≡ now + 1 → now < from → now' ≤ from
    not_yet now now' from one two = omega (arith, one, two)

    some_there : (place many : ℕ) → place < many → 0 < many
    some_there place many one = omega (arith, one)

    zero_least : (k : ℕ) → 0 ≤ k
    zero_least k = omega arith

    as_old : (first admitted cap now : ℕ) → first ≤ admitted → admitted + cap ≤ now → first + cap ≤ now
    as_old first admitted cap now one two = omega (arith, one, two)

-- admission, and the taking of a completion

was_before : (pending : List Waiting) (new : Waiting) (i : ℕ) (w : Waiting) → i < length pending → slice_get (pending ++ new ∷ []) i ≡ Some w → slice_get pending i ≡ Some w
was_before pending new i w below there = elim (pushed pending new i w there) [
  | inl old ↦ old.1
  | inr last ↦ absurd (apart i (length pending) below last.0)
]
  where
    apart : (i many : ℕ) → i < many → i ≡ many → ⊥
    apart i many one two = omega (arith, one, two)

-- what is allowed is so with more requests behind
allows_pushed : (place : ℕ) (b : Bus) (pending pending' : List Waiting) (left : ℕ) → ((i : ℕ) (w : Waiting) → i ≤ place → slice_get pending' i ≡ Some w → slice_get pending i ≡ Some w) → Allows place b pending left → Allows place b pending' left
allows_pushed place b pending pending' left before (inl none) = inl none
allows_pushed place b pending pending' left before (inr some) =
    let a = some.0 in
    inr (
      record {
        more = a.more;
        least = a.least;
        quiet = λ zeroth. let q = a.quiet zeroth in record { rank = q.rank; inside = q.inside; idle = q.idle; apart = λ i v older here. q.apart i v older (before i v older here) };
      },
      some.1,
    )

admit_on_way : (n : Numbers) (c : Config) (s : State) (r : Request) → Fit n c → Tells n c (after_admit r s) → Begins n (after_admit r s) → length (after_admit r s).pending ≤ most_pending c → AreOnWay n c s → AreOnWay n c (after_admit r s)
admit_on_way n c s r fit t b few on place v here = elim (pushed s.pending (record { request = r; admitted = s.now }) place v here) [
  | inl old ↦
      let way = on place v old.1 in
      let before : ((i : ℕ) (w : Waiting) → i ≤ place → slice_get (after_admit r s).pending i ≡ Some w → slice_get s.pending i ≡ Some w) = λ i w older there. was_before s.pending (record { request = r; admitted = s.now }) i w (inside i place (length s.pending) older old.0) there in
      let first : ((w : Waiting) → slice_get (after_admit r s).pending 0 ≡ Some w → slice_get s.pending 0 ≡ Some w) = λ w there. before 0 w (zero_least place) there in record {
        few = way.few;
        left = way.left;
        allowed = allows_pushed place (bus_of s) s.pending (after_admit r s).pending way.left before way.allowed;
        ahead = record {
          spare = way.ahead.spare;
          tick = way.ahead.tick;
          columns = way.ahead.columns;
          refreshed = λ i w older there. way.ahead.refreshed i w older (before i w older there);
          oldest = λ w there. way.ahead.oldest w (first w there);
        };
        paced = record { few = way.paced.few; columns = way.paced.columns; oldest = λ one w there. way.paced.oldest one w (first w there) };
      }
  | inr new ↦
      let now : s.now ≡ v.admitted = ap (λ (u : Waiting). u.admitted) new.1 in
      fresh_on_way n c place (v.admitted + c.limits.cap) (after_admit r s) fit t b (inside_few place (length (after_admit r s).pending) (most_pending c) (slice_get_within (after_admit r s).pending place v here) few) (not_yet s.now v.admitted c.limits.cap now)
]
  where
    inside : (i place many : ℕ) → i ≤ place → place < many → i < many
    inside i place many one two = omega (arith, one, two)

    zero_least : (k : ℕ) → 0 ≤ k
    zero_least k = omega arith

    inside_few : (place many most : ℕ) → place < many → many ≤ most → place < most
    inside_few place many most one two = omega (arith, one, two)

    not_yet : (now admitted cap : ℕ) → now ≡ admitted → now ≤ admitted + cap
    not_yet now admitted cap is = omega (arith, is)

pop_on_way : (n : Numbers) (c : Config) (s : State) → AreOnWay n c s → AreOnWay n c (after_pop s)
pop_on_way n c s on place v here =
    let way = on place v here in record {
      few = way.few;
      left = way.left;
      allowed = way.allowed;
      ahead = record { spare = way.ahead.spare; tick = way.ahead.tick; columns = way.ahead.columns; refreshed = way.ahead.refreshed; oldest = way.ahead.oldest };
      paced = record { few = way.paced.few; columns = way.paced.columns; oldest = way.paced.oldest };
    }

-- each call

-- what the state behind a call tells
record Follows (config : Config) (h : History) : Type 0 where
  tells : Tells (numbers_of config) config h.state
  few : length h.state.pending ≤ most_pending config
  begins : Begins (numbers_of config) h.state

follows_run : (config : Config) (start : ℕ) (calls : List Call) → AreCalls config calls → Follows config (run config start calls)
follows_run config start calls may = record {
  tells = tells_run config start calls may;
  begins = record { owes = owes_run config start calls may; stolen = same_most (ap stolen (kept_run config start calls may).config_is) };
  few = queued_few config (run config start calls).state.pending (queued_run config start calls may);
}
  where
    same_most : {m n : ℕ} → m ≡ n → m ≤ n
    same_most is = omega (arith, is)

next_run : (config : Config) (start : ℕ) (calls : List Call) (call : Call) → run config start (calls ++ call ∷ []) ≡ after_call (run config start calls) call
next_run config start calls call = fold-append after_call (begun config start) calls (call ∷ [])

way_call : (config : Config) (start : ℕ) (calls : List Call) (call : Call) → leaves_room config ≡ true → AreCalls config calls → FindsAllTaken (run config start calls) call → Follows config (after_call (run config start calls) call) →
    AreOnWay (numbers_of config) config (run config start calls).state → AreOnWay (numbers_of config) config (after_call (run config start calls) call).state
way_call config start calls (Admit r) g may taken follows on = by_full (is_queue_full h.state r.echo.kind) follows
  where
    h : History
    h = run config start calls

    new : History
    new = record h { state = after_admit r h.state; accepted = h.accepted ++ r ∷ []; waiting = h.waiting ++ length h.accepted ∷ [] }

    by_full : (b : Bool) → Follows config (cond b h new) → AreOnWay (numbers_of config) config (cond b h new).state
    by_full true f = on
    by_full false f = admit_on_way (numbers_of config) config h.state r (fit_of config g) f.tells f.begins f.few on
way_call config start calls Cycle g may taken follows on = by_stop (eqb h.state.now CLOCK_STOP) follows
  where
    h : History
    h = run config start calls

    s : State
    s = h.state

    kept : IsKept config start h
    kept = kept_run config start calls may

    moves : OwesFew (bus_of (after_cycle s)) → (w : Waiting) → slice_get s.pending 0 ≡ Some w → w.admitted + config.limits.cap ≤ s.now → Moves (numbers_of config) config s (after_cycle s) w
    moves behind w first come =
        let k : IsReady s w = record {
          sound = kept.sound;
          prompt = prompt_run config start calls may;
          none = taken;
          oldest = first;
          old = subst (λ (c : Config). w.admitted + c.limits.cap ≤ s.now) (sym kept.config_is) come;
        } in
        subst (λ c. Moves (numbers_of c) c s (after_cycle s) w) kept.config_is (moves_of s w k (owes_run config start calls may) behind)

    by_stop : (b : Bool) → Follows config (cond b h (record (with_owner (choice_of (at_choice s)) h) { state = after_cycle s })) →
        AreOnWay (numbers_of config) config (cond b h (record (with_owner (choice_of (at_choice s)) h) { state = after_cycle s })).state
    by_stop true f = on
    by_stop false f =
        cycle_on_way (numbers_of config) config s (after_cycle s) (column_place_of (choice_of (at_choice s))) (fit_of config g) (follows_run config start calls may).tells f.tells f.begins
        (queued_run config start calls may).ordered f.few (passes_cycle s).now (pending_after s) (moves f.begins.owes) on
way_call config start calls Pop g may taken follows on = pop_on_way (numbers_of config) config (run config start calls).state on

way_from : (config : Config) (start : ℕ) (earlier later : List Call) → leaves_room config ≡ true → AreCalls config earlier → AreCalls config later → TakesAll (run config start earlier) later →
    AreOnWay (numbers_of config) config (run config start earlier).state → AreOnWay (numbers_of config) config (run config start (earlier ++ later)).state
way_from config start earlier [] g may mays takes on place v here =
    subst (λ (calls : List Call). AreOnWay (numbers_of config) config (run config start calls).state) (sym (append-nil earlier)) on place v here
way_from config start earlier (call ∷ later) g may mays takes on place v here =
    let next = next_run config start earlier call in
    let more = All-last (MayCall config) earlier call may mays.0 in
    let follows = subst (Follows config) next (follows_run config start (earlier ++ call ∷ []) more) in
    let way = way_call config start earlier call g may takes.0 follows on in
    subst (λ (calls : List Call). AreOnWay (numbers_of config) config (run config start calls).state) (append_assoc earlier (call ∷ []) later)
    (way_from config start (earlier ++ call ∷ []) later g more mays.1 (subst (λ (x : History). TakesAll x later) (sym next) takes.1) (subst (λ (x : History). AreOnWay (numbers_of config) config x.state) (sym next) way))
    place v here

way_run : (config : Config) (start : ℕ) (calls : List Call) → leaves_room config ≡ true → AreCalls config calls → TakesAll (begun config start) calls → AreOnWay (numbers_of config) config (run config start calls).state
way_run config start calls g may takes = way_from config start [] calls g tt may takes (λ place v here. let never : ⊥ = cc in absurd never)

-- the bound

-- the refreshes that a request on its way meets are few
few_refreshes : (c : Config) (place from : ℕ) (s : State) → Fit (numbers_of c) c → IsOnWay (numbers_of c) c place from s → ticks_at c from s ≤ most_refreshes c
few_refreshes c place from s fit way = by_left (eqb (left_over c) 0) refl
  where
    service : ℕ
    service = clocks.service (clocks.clocks_of c)

    one_each : ticks_at c from s ≤ most_pending c
    one_each = as_few place (served_at from s) (ticks_at c from s) (most_pending c) way.few way.paced.few
      where
        as_few : (place served ticks most : ℕ) → place + 1 + served ≤ most → ticks ≤ served + 1 → ticks ≤ most
        as_few place served ticks most one two = omega (arith, one, two)

    in_intervals : (eqb (left_over c) 0 ≡ false) → (ticks : ℕ) → ticks_at c from s ≡ ticks → ticks ≤ rounded_up (most_pending c * service + refreshed c) (left_over c)
    in_intervals left zero none = nothing (rounded_up (most_pending c * service + refreshed c) (left_over c))
      where
        nothing : (k : ℕ) → 0 ≤ k
        nothing k = omega arith
    in_intervals left (suc ticks) many =
        let next : suc ticks ≡ ticks + 1 = omega arith in
        subst (λ k. k ≤ rounded_up (most_pending c * service + refreshed c) (left_over c)) (sym next)
        (few_ticks service (refreshed c) c.timing.refi from (served_at from s) ticks (most_pending c) (last_at c s) (not_same (refreshed c) c.timing.refi left) (as_served place (served_at from s) (most_pending c) way.few)
        (last_far s.start c.timing.refi from s.now ticks c.timing.refi_range.0 (many ∙ next))
        (subst (λ k. last_at c s + refreshed c + 1 ≤ limit service (refreshed c) from (served_at from s) k) (many ∙ next) (as_tick (last_at c s) (clocks.alone (clocks.clocks_of c)) (stolen c) (limit_at (numbers_of c) c from s) way.ahead.tick)))
      where
        not_same : (each refi : ℕ) → eqb (refi - each) 0 ≡ false → each < refi
        not_same each refi left = elim (cases_lt each refi) [
          | inl less ↦ less
          | inr more ↦ let none : refi - each ≡ 0 = omega (arith, more) in absurd (eqb-false (refi - each) 0 left none)
        ]

        as_served : (place served most : ℕ) → place + 1 + served ≤ most → served + 1 ≤ most
        as_served place served most one = omega (arith, one)

        as_tick : (last alone more most : ℕ) → last + alone + more + 1 ≤ most → last + (alone + more) + 1 ≤ most
        as_tick last alone more most one = omega (arith, one)

    by_left : (b : Bool) → eqb (left_over c) 0 ≡ b → ticks_at c from s ≤ cond b (most_pending c) (min (most_pending c) (rounded_up (most_pending c * service + refreshed c) (left_over c)))
    by_left true none = one_each
    by_left false some = both (ticks_at c from s) (most_pending c) (rounded_up (most_pending c * service + refreshed c) (left_over c)) one_each (in_intervals some (ticks_at c from s) refl)
      where
        both : (ticks one other : ℕ) → ticks ≤ one → ticks ≤ other → ticks ≤ min one other
        both ticks one other less lower = omega (arith, less, lower)

waits_in_time : (config : Config) (start : ℕ) (calls : List Call) → leaves_room config ≡ true → AreCalls config calls → TakesAll (begun config start) calls → (place : ℕ) (w : Waiting) → slice_get (run config start calls).state.pending place ≡ Some w →
    (run config start calls).state.now + burst config < w.admitted + latency config
waits_in_time config start calls g may takes place w here = elim (cases_lt s.now (w.admitted + config.limits.cap)) [
  | inl early ↦ before s.now w.admitted config.limits.cap (most_pending config * clocks.service (clocks.clocks_of config)) ((most_refreshes config + 1) * refreshed config) (burst config) early
  | inr come ↦
      let n = numbers_of config in
      let from = w.admitted + config.limits.cap in
      let fit = fit_of config g in
      let queued = queued_run config start calls may in
      let way = way_run config start calls g may takes place w here in
      let first = at_place s.pending 0 (some_there place (length s.pending) (slice_get_within s.pending place w here)) in
      let f : Finds n config from s first.0 = record { fit = fit; tells = (follows_run config start calls may).tells; come = come; first = first.1 } in
      let now = now_ahead n config place from way.left s first.0 f way.ahead in
      let all = all_served n.service (n.alone + n.stolen) from (served_at from s) (ticks_at config from s) (most_pending config) (most_refreshes config) (as_served place (served_at from s) (most_pending config) way.few) (few_refreshes config place from s fit way) in
      behind s.now w.admitted config.limits.cap (most_pending config * n.service) ((most_refreshes config + 1) * (n.alone + n.stolen)) (burst config) way.left (limit_at n config from s) now all
]
  where
    s : State
    s = (run config start calls).state

    before : (now admitted cap served refreshed burst : ℕ) → now < admitted + cap → now + burst < admitted + (cap + served + refreshed + burst)
    before now admitted cap served refreshed burst early = omega (arith, early)

    behind : (now admitted cap served refreshed burst left most : ℕ) → now + 1 + left ≤ most → most ≤ admitted + cap + served + refreshed → now + burst < admitted + (cap + served + refreshed + burst)
    behind now admitted cap served refreshed burst left most one two = omega (arith, one, two)

    some_there : (place many : ℕ) → place < many → 0 < many
    some_there place many one = omega (arith, one)

    as_served : (place served most : ℕ) → place + 1 + served ≤ most → served + 1 ≤ most
    as_served place served most one = omega (arith, one)

-- what the next cycle reads or writes was pending

service_most : (c : Config) (kind : Kind) → service_time c kind ≤ burst c
service_most c Read = omega arith
service_most c Write = omega arith

requested_at : (pending : List Waiting) (o : Option ℕ) (w : Waiting) → option_and_then (slice_get pending) o ≡ Some w → (place : ℕ) × (slice_get pending place ≡ Some w)
requested_at pending None w is = let never : ⊥ = cc in absurd never
requested_at pending (Some place) w is = (place, is)

told_in_time : (c : Config) (now : ℕ) (o : Option Command) (q : Option Waiting) → ((w : Waiting) → q ≡ Some w → now + burst c < w.admitted + latency c) →
    IfSome (option_map (issued_with now (option_map (served_as c now) q)) o) (λ i. IfSome i.served (λ v. v.due < v.admitted + latency c))
told_in_time c now None q all = tt
told_in_time c now (Some d) None all = tt
told_in_time c now (Some d) (Some w) all = as_due now (service_time c w.request.echo.kind) (burst c) (w.admitted + latency c) (all w refl) (service_most c w.request.echo.kind)
  where
    as_due : (now time most end : ℕ) → now + most < end → time ≤ most → now + time < end
    as_due now time most end one two = omega (arith, one, two)

-- so each that was served was admitted in time

served_from : (config : Config) (start : ℕ) (earlier later : List Call) → leaves_room config ≡ true → AreCalls config earlier → AreCalls config later → TakesAll (begun config start) earlier → TakesAll (run config start earlier) later →
    AreAdmitted config (admissions (begun config start) earlier) (run config start earlier) → AreAdmitted config (admissions (begun config start) (earlier ++ later)) (run config start (earlier ++ later))
served_from config start earlier [] g may mays took takes a = subst (λ (calls : List Call). AreAdmitted config (admissions (begun config start) calls) (run config start calls)) (sym (append-nil earlier)) a
served_from config start earlier (call ∷ later) g may mays took takes a =
    let next = next_run config start earlier call in
    let more = All-last (MayCall config) earlier call may mays.0 in
    let admitted = admitted_call config start config (admissions (begun config start) earlier) (run config start earlier) call (kept_run config start earlier may) (waits_in_time config start earlier g may took) a in
    let cycles = admissions_more (begun config start) earlier call in
    subst (λ (calls : List Call). AreAdmitted config (admissions (begun config start) calls) (run config start calls)) (append_assoc earlier (call ∷ []) later)
    (served_from config start (earlier ++ call ∷ []) later g more mays.1 (takes_more (begun config start) earlier call took takes.0) (subst (λ (x : History). TakesAll x later) (sym next) takes.1)
    (subst (λ (cs : List ℕ). AreAdmitted config cs (run config start (earlier ++ call ∷ []))) (sym cycles) (subst (AreAdmitted config (admissions (begun config start) earlier ++ admitted_by (run config start earlier) call)) (sym next) admitted)))

pub in_time_run : (config : Config) (start : ℕ) (calls : List Call) → leaves_room config ≡ true → AreCalls config calls → TakesAll (begun config start) calls →
    IsServedInTime (admissions (begun config start) calls) (run config start calls)
in_time_run config start calls g may takes =
    let s = (run config start calls).state in
    let kept = kept_run config start calls may in
    let waits : ((place : ℕ) (w : Waiting) → slice_get s.pending place ≡ Some w → s.now + burst s.config < w.admitted + latency s.config) =
    subst (λ c. (place : ℕ) (w : Waiting) → slice_get s.pending place ≡ Some w → s.now + burst c < w.admitted + latency c) (sym kept.config_is) (waits_in_time config start calls g may takes) in
    let admitted = served_from config start [] calls g tt may tt takes (admitted_begun config config start) in
    record {
      each = admitted.many;
      waiting = waits;
      since = admitted.pending;
      served = subst (λ c. (place : ℕ) (o : Owner) → slice_get (run config start calls).owners place ≡ Some o → IsSomeAnd (slice_get (admissions (begun config start) calls) o.place) (λ cycle. o.cycle + burst c < cycle + latency c)) (sym kept.config_is) admitted.served;
      told = told_in_time s.config s.now (command_of s.pending (choice_of (at_choice s))) (column_request s.pending (choice_of (at_choice s))) (λ w is.
          let at = requested_at s.pending (column_place_of (choice_of (at_choice s))) w is in
          waits at.0 w at.1);
    }
