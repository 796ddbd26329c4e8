-- The core's promise, from what every record of events keeps.
use Rattle.std.proofs.Common.{◌≡◌, ℕ, suc, ◌+◌, ◌<◌, ◌≤◌, Bool, true, false, not, cond, eqb, List, [], ◌∷◌, ◌++◌, Option, Some, None, IfSome, is_none, Ok, Err, map, take, length, refl, sym, ap, ap₂, subst, subst₂, ◌∙◌, inl, inr, arith}
use Rattle.std.specs.List.{filter, sum_by, slice_get, range_with_len}
use Rattle.std.specs.Option.{option_map, option_map_or, option_and_then, unwrap_or}
use Rattle.std.specs.Result.{IfOk, IsErr}
use Rattle.std.proofs.lemmas.Bool.{eq-eqb, eqb-true}
use Rattle.std.proofs.lemmas.List.{length-map, take_all, append-nil}
use Rattle.std.proofs.lemmas.List.Elements.{All-set}
use Rattle.std.proofs.lemmas.List.Sums.{count_by-le-length}
use Rattle.std.proofs.lemmas.Option.{slice_get_within}
use Rattle.std.proofs.Math.Seq.{take-append_seam}
use Rattle.circular_buffer.proofs.Places.{below_or_not, slice_get-some, slice_get-set_same, slice_get-set_other}
use Rattle.ddr_address_map.specs.Requests.{Request, Completion}
use Rattle.ddr_channel.proofs.HeldLemmas.{weigh_done, part_of_sum}
use Rattle.ddr_channel.proofs.HistoryLemmas.{kept_run}
use Rattle.ddr_channel.proofs.ListLemmas.{All-at}
use Rattle.ddr_channel.proofs.PromiseLemmas.{promise_kept}
use Rattle.ddr_arbiter.proofs.LawLemmas.{choice_lawful}
use Rattle.ddr_arbiter.specs.declared.choice.Choice.{Choice}
use Rattle.ddr_arbiter.specs.declared.choice.Choice.TheVariants as choice
use Rattle.ddr_arbiter.specs.Commands.{precharge_all, refresh}
use Rattle.ddr_arbiter.specs.Laws.{place_of}
use Rattle.ddr_channel.specs.Choice.{choice_of, situation_of}
use Rattle.ddr_channel.specs.Cycle.{at_choice, issued, after_cycle}
use Rattle.ddr_channel.specs.State as channel_state
use Rattle.ddr_timing.specs.declared.units.TheConstants.{CLOCK_STOP}
use Rattle.ddr_trace.specs.declared.command.Entry.{Entry}
use Rattle.ddr_trace.specs.Commands.{entry}
use Rattle.ddr_trace.specs.Legality.{IsLegal, IsRefreshed}
use Rattle.ddr_channel.proofs.InTimeLemmas.{refreshed_run}
use Rattle.ddr_reorder.specs.Replies.{Answer, nth_answer}
use Rattle.ddr_reorder.specs.State.{Outstanding}
use Rattle.ddr_ports.specs.Asked.{Asked}
use Rattle.ddr_world.specs.declared.event.Refusal.TheVariants as refusal
use Rattle.ddr_world.specs.declared.event.Refusal.TheVariants.{QueueFull}
use Rattle.ddr_world.specs.declared.event.Outcome.TheVariants as outcome
use Rattle.ddr_world.specs.declared.item.Item.{Item}
use Rattle.ddr_world.specs.Events.{Event, Submit, Take, Cycle, Deliver, Collect, Release, End}
use Rattle.ddr_world.specs.History.{Opening, Answered, Whereabouts, History, front_of, run}
use Rattle.ddr_world.specs.Promise.{reply_of, reply_at, replies_of_port, AddsRefresh, IsIdleCycle, IsOver, KeepsPromise}
use Rattle.ddr_world.specs.State.{PortSide, ChannelSide, State, is_completion_queue_full, IsPortDrained, IsChannelDrained, IsDrained}
use Rattle.ddr_world.specs.Step.{made, with_port, with_channel, at_channel, sent, after_deliver, deliver_to, push_completion, deliver_by, submit_by, collect_by, release_by, change_channel, taken, cycled, end_at}
use Rattle.ddr_world.proofs.CoreCounts.{sum_ones}
use Rattle.ddr_world.proofs.CoreIdle.{core_idle, empty_list}
use Rattle.ddr_world.proofs.CoreKeeps.{requests_in, CoreKeeps, held_in, weight}
use Rattle.ddr_world.proofs.CoreReplies.{awaited, awaited_test, done_right, lent_next}
use Rattle.ddr_world.proofs.CoreRuns.{run_keeps}

-- the numbers of a port's replies

told_by_places : {X : Type 0} (f : X → Option ℕ) (a : ℕ) (xs : List X) → ((k : ℕ) (x : X) → slice_get xs k ≡ Some x → f x ≡ Some (a + k)) → map f xs ≡ map Some (range_with_len a (length xs))
told_by_places f a [] told = refl
told_by_places f a (x ∷ xs) told =
    ap₂ ◌∷◌ (told 0 x refl ∙ ap Some (omega arith)) (told_by_places f (a + 1) xs (λ k y is. told (suc k) y is ∙ ap Some (omega arith)))

map_twice : {X Y Z : Type 0} (f : Y → Z) (g : X → Y) (xs : List X) → map f (map g xs) ≡ map (λ x. f (g x)) xs
map_twice f g [] = refl
map_twice f g (x ∷ xs) = ap (λ (zs : List _). f (g x) ∷ zs) (map_twice f g xs)

numbered : (o : Opening) (h : History) (p : ℕ) → CoreKeeps o h → map (option_map (λ a. a.number)) (replies_of_port h p) ≡ map Some (range_with_len o.number (length (h.sent p)))
numbered o h p k =
    map_twice (option_map (λ (a : Answer). a.number)) (reply_at h) (h.sent p)
    ∙ told_by_places (λ w. option_map (λ a. a.number) (reply_at h w)) o.number (h.sent p) (λ n w is.
    let sent = k.sent p n w is in
    ap (λ (x : Option Request). option_map (λ (a : Answer). a.number) (option_map (reply_of (take w.place (h.accepted w.channel))) x)) sent.there ∙ ap Some sent.number)

-- the reply that a port is lent

lent_by : (o : Opening) (h : History) (p : ℕ) (x : Option PortSide) (y : Option Answer) → CoreKeeps o h → slice_get h.state.ports p ≡ x → option_and_then (λ port. nth_answer port.core.reorder 0) x ≡ y
    → IfSome y (λ a. slice_get (replies_of_port h p) (length (h.taken p)) ≡ Some (Some a))
lent_by o h p x None k there is = tt
lent_by o h p None (Some a) k there is = cc
lent_by o h p (Some side) (Some a) k there is = lent_next o h p side a k there is

-- a list by its first elements
first_of_list : {X : Type 0} (xs ys zs : List X) → xs ++ ys ≡ zs → xs ≡ take (length xs) zs
first_of_list xs ys zs is = sym (take-append_seam xs ys) ∙ ap (take (length xs)) is

admitted : (o : Opening) (h : History) (c : ℕ) → CoreKeeps o h → h.admitted c ≡ take (length (h.admitted c)) (h.accepted c)
admitted o h c k = elim (below_or_not c (length h.state.channels)) [
  | inl within ↦ (let side = slice_get-some h.state.channels c within in
      let keeps = k.channels c side.0 side.1 in
      first_of_list (h.admitted c) (requests_in side.0.requests) (h.accepted c) keeps.accepted_are)
  | inr past ↦ (let none = k.no_channel c past in
      none.1 ∙ sym (ap₂ (λ (n : ℕ) (rs : List Request). take n rs) (ap length none.1) none.0))
]

-- the completion that is done finds room

full_port : (o : Opening) (h : History) (c : ℕ) (side : ChannelSide) (d : Completion) (port : PortSide) → CoreKeeps o h → slice_get h.state.channels c ≡ Some side → slice_get side.channel.done 0 ≡ Some d
    → slice_get h.state.ports d.port ≡ Some port → is_completion_queue_full port ≡ true → ⊥
full_port o h c side d port k there done at full =
    let f : ℕ → ℕ = λ n. 1 in
    let p = d.port in
    let sums = k.held f p port at in
    let own : held_in f p side ≤ sum_by (held_in f p) h.state.channels = part_of_sum (held_in f p) h.state.channels c side there in
    let one : weight f p d.port d.number ≡ 1 = ap (λ b. cond b 1 0) (eq-eqb d.port p refl) in
    let part = part_of_sum (weigh_done (weight f p)) side.channel.done 0 d done in
    let queue = sum_ones port.completions in
    let waiting : sum_by (λ e. cond (is_none e.line) 1 0) port.core.reorder.outstanding ≤ length port.core.reorder.outstanding = count_by-le-length (λ (e : Outstanding). is_none e.line) port.core.reorder.outstanding in
    let length_is : length port.completions ≡ port.core.reorder.window = eqb-true (length port.completions) port.core.reorder.window full in
    let keeps = k.ports p port at in
    omega (arith, sums, own, one, part, queue, waiting, length_is, keeps.window)

fits_port : (o : Opening) (h : History) (c : ℕ) (side : ChannelSide) (d : Completion) (x : Option PortSide) → CoreKeeps o h → slice_get h.state.channels c ≡ Some side → slice_get side.channel.done 0 ≡ Some d
    → slice_get h.state.ports d.port ≡ x → option_map_or (deliver_to h.state c side d) x (Err QueueFull) ≡ Err QueueFull → ⊥
fits_port o h c side d None k there done at is =
    let right = done_right o h c side d k there done in
    elim (below_or_not d.port (length h.state.ports)) [
      | inl within ↦ (let some = slice_get-some h.state.ports d.port within in cc)
      | inr past ↦ (let none = (k.no_port d.port past).0 in
          let gone : slice_get (h.sent d.port) right.index ≡ None = ap (λ (ws : List Whereabouts). slice_get ws right.index) none in
          let here = right.sent_at in
          cc)
    ]
fits_port o h c side d (Some port) k there done at is = by_room (is_completion_queue_full port) refl is
  where
    by_room : (b : Bool) → is_completion_queue_full port ≡ b → cond b (Err QueueFull) (made (with_port d.port (after_deliver d port) (with_channel c (sent side) h.state)) outcome.Delivered) ≡ Err QueueFull → ⊥
    by_room true full is = full_port o h c side d port k there done at full
    by_room false room is = cc

fits_done : (o : Opening) (h : History) (c : ℕ) (side : ChannelSide) (x : Option Completion) → CoreKeeps o h → slice_get h.state.channels c ≡ Some side → slice_get side.channel.done 0 ≡ x
    → option_map_or (push_completion h.state c side) x (Err refusal.Nothing) ≡ Err QueueFull → ⊥
fits_done o h c side None k there done is = cc
fits_done o h c side (Some d) k there done is = fits_port o h c side d (slice_get h.state.ports d.port) k there done refl is

fits_side : (o : Opening) (h : History) (c : ℕ) (x : Option ChannelSide) → CoreKeeps o h → slice_get h.state.channels c ≡ x → option_map_or (deliver_by h.state c) x (Err refusal.NoSuch) ≡ Err QueueFull → ⊥
fits_side o h c None k there is = cc
fits_side o h c (Some side) k there is = fits_done o h c side (slice_get side.channel.done 0) k there refl is

-- orderly close

whole_list : {X : Type 0} (xs ys : List X) (n : ℕ) → xs ≡ take n ys → length ys ≤ n → xs ≡ ys
whole_list xs ys n is all = is ∙ take_all n ys all

all_taken : (o : Opening) (h : History) (p : ℕ) → CoreKeeps o h → IsDrained h.state → map Some (h.taken p) ≡ replies_of_port h p
all_taken o h p k drained = elim (below_or_not p (length h.state.ports)) [
  | inl within ↦ (let side = slice_get-some h.state.ports p within in
      let keeps = k.ports p side.0 side.1 in
      let empty = All-at IsPortDrained h.state.ports p side.0 drained.ports side.1 in
      let replies : length (replies_of_port h p) ≡ length (h.sent p) = length-map (h.sent p) (reply_at h) in
      whole_list (map Some (h.taken p)) (replies_of_port h p) (length (h.taken p)) (k.taken p) (omega (arith, replies, keeps.counted, empty.outstanding)))
  | inr past ↦ (let none = k.no_port p past in ap (map Some) none.1 ∙ ap (map (reply_at h)) (sym none.0))
]

all_admitted : (o : Opening) (h : History) (c : ℕ) → CoreKeeps o h → IsDrained h.state → h.admitted c ≡ h.accepted c
all_admitted o h c k drained = elim (below_or_not c (length h.state.channels)) [
  | inl within ↦ (let side = slice_get-some h.state.channels c within in
      let keeps = k.channels c side.0 side.1 in
      let empty = All-at IsChannelDrained h.state.channels c side.0 drained.channels side.1 in
      sym (append-nil (h.admitted c)) ∙ ap (λ (its : List Item). h.admitted c ++ requests_in its) (sym empty.requests) ∙ keeps.accepted_are)
  | inr past ↦ (let none = k.no_channel c past in none.1 ∙ sym none.0)
]

-- then nothing can be asked for

port_finished : (o : Opening) (h : History) (p : ℕ) (port : PortSide) → CoreKeeps o h → IsDrained h.state → slice_get h.state.ports p ≡ Some port → port.core.finished ≡ true
port_finished o h p port k drained there =
    let keeps = k.ports p port there in
    let empty = All-at IsPortDrained h.state.ports p port drained.ports there in
    let first = slice_get-some port.pushed 0 (omega (arith, keeps.ends, o.config.geometry.channels_range)) in
    let ended : first.0 ≡ true = All-at (λ ended. ended ≡ true) port.pushed 0 first.0 empty.pushed first.1 in
    keeps.ended 0 (first.1 ∙ ap Some ended)

over_submit : (o : Opening) (h : History) (p : ℕ) (asked : Asked) (x : Option PortSide) → CoreKeeps o h → IsDrained h.state → slice_get h.state.ports p ≡ x → IsErr (option_map_or (submit_by h.state p asked) x (Err refusal.NoSuch))
over_submit o h p asked None k drained there = refl
over_submit o h p asked (Some port) k drained there = rw (port_finished o h p port k drained there) refl

over_take : (o : Opening) (h : History) (c : ℕ) (x : Option ChannelSide) → IsDrained h.state → slice_get h.state.channels c ≡ x → IsErr (option_map_or (λ side. change_channel h.state c outcome.Taken (taken side)) x (Err refusal.NoSuch))
over_take o h c None drained there = refl
over_take o h c (Some side) drained there = rw ((All-at IsChannelDrained h.state.channels c side drained.channels there).requests) refl

over_deliver : (o : Opening) (h : History) (c : ℕ) (x : Option ChannelSide) → IsDrained h.state → slice_get h.state.channels c ≡ x → IsErr (option_map_or (deliver_by h.state c) x (Err refusal.NoSuch))
over_deliver o h c None drained there = refl
over_deliver o h c (Some side) drained there = rw ((All-at IsChannelDrained h.state.channels c side drained.channels there).done) refl

over_collect : (o : Opening) (h : History) (p : ℕ) (x : Option PortSide) → IsDrained h.state → slice_get h.state.ports p ≡ x → IsErr (option_map_or (collect_by h.state p) x (Err refusal.NoSuch))
over_collect o h p None drained there = refl
over_collect o h p (Some port) drained there = rw ((All-at IsPortDrained h.state.ports p port drained.ports there).completions) refl

over_release : (o : Opening) (h : History) (p : ℕ) (x : Option PortSide) → IsDrained h.state → slice_get h.state.ports p ≡ x → IsErr (option_map_or (release_by h.state p) x (Err refusal.NoSuch))
over_release o h p None drained there = refl
over_release o h p (Some port) drained there =
    rw (empty_list port.core.reorder.outstanding (All-at IsPortDrained h.state.ports p port drained.ports there).outstanding) refl

over_end : (o : Opening) (h : History) (p c : ℕ) (port : PortSide) (x : Option ChannelSide) → CoreKeeps o h → IsDrained h.state → slice_get h.state.ports p ≡ Some port → slice_get h.state.channels c ≡ x
    → IsErr (option_map_or (end_at h.state p c port) x (Err refusal.NoSuch))
over_end o h p c port None k drained there at = refl
over_end o h p c port (Some side) k drained there at =
    let keeps = k.ports p port there in
    let empty = All-at IsPortDrained h.state.ports p port drained.ports there in
    let mark = slice_get-some port.pushed c (omega (arith, slice_get_within h.state.channels c side at, k.channels_are, keeps.ends)) in
    let ended : first_or port.pushed c ≡ true = ap (λ (x : Option Bool). unwrap_or x false) (mark.1 ∙ ap Some (All-at (λ ended. ended ≡ true) port.pushed c mark.0 empty.pushed mark.1)) in
    rw (empty.outstanding, ended) refl
  where
    first_or : List Bool → ℕ → Bool
    first_or xs i = unwrap_or (slice_get xs i) false

over_end_by : (o : Opening) (h : History) (p c : ℕ) (x : Option PortSide) → CoreKeeps o h → IsDrained h.state → slice_get h.state.ports p ≡ x
    → IsErr (option_map_or (λ port. at_channel h.state c (end_at h.state p c port)) x (Err refusal.NoSuch))
over_end_by o h p c None k drained there = refl
over_end_by o h p c (Some port) k drained there = over_end o h p c port (slice_get h.state.channels c) k drained there refl

-- but for a cycle

-- with nothing pending only a refresh, or a precharge of all banks before it, is chosen
only_refresh : (c : Choice) (s : channel_state.State) → s.pending ≡ [] → IfSome (place_of c) (λ place. place < length s.pending)
    → ((issued c s).pending ≡ []) × ((issued c s).flight ≡ s.flight) × ((issued c s).done ≡ s.done) × AddsRefresh s.trace (issued c s).trace
only_refresh choice.Nothing s empty within = (empty, refl, refl, inl refl)
only_refresh (choice.Refresh rank) s empty within = (empty, refl, refl, inr (entry s.now (refresh rank), refl, refl))
only_refresh (choice.PreAll rank) s empty within = (empty, refl, refl, inr (entry s.now (precharge_all rank), refl, refl))
only_refresh (choice.Act place) s empty within = absurd (omega (arith, within, ap length empty))
only_refresh (choice.Pre place) s empty within = absurd (omega (arith, within, ap length empty))
only_refresh (choice.Column place) s empty within = absurd (omega (arith, within, ap length empty))
only_refresh (choice.ColumnAuto place) s empty within = absurd (omega (arith, within, ap length empty))

cycle_drained : (side : ChannelSide) → IsChannelDrained side
    → IsChannelDrained (record side { channel = after_cycle side.channel }) × AddsRefresh side.channel.trace (after_cycle side.channel).trace
cycle_drained side drained =
    let s = side.channel in
    let t = at_choice s in
    let only = only_refresh (choice_of t) t drained.pending (choice_lawful (situation_of t)).in_list in
    let flight : t.flight ≡ [] = ap (filter (λ d. not (eqb d.due s.now))) drained.flight in
    let done : t.done ≡ [] = ap₂ (λ (done flight : List Completion). done ++ filter (λ d. eqb d.due s.now) flight) drained.done drained.flight in
    (record { noted = drained.noted; requests = drained.requests; pending = only.0; flight = only.1 ∙ flight; done = only.2 ∙ done }, only.3)

over_cycle : (s : State) (c : ℕ) (x : Option ChannelSide) → IsDrained s → slice_get s.channels c ≡ x
    → IfOk (option_map_or (λ side. change_channel s c outcome.Cycled (cycled side)) x (Err refusal.NoSuch)) (λ m. IsIdleCycle s c m.state)
over_cycle s c None drained there = tt
over_cycle s c (Some side) drained there = by_clock (eqb side.channel.now CLOCK_STOP)
  where
    trace_of_side : Option ChannelSide → List Entry
    trace_of_side x = option_map_or (λ side. side.channel.trace) x []

    next : ChannelSide
    next = record side { channel = after_cycle side.channel }

    by_clock : (stopped : Bool) → IfOk (change_channel s c outcome.Cycled (cond stopped (Err refusal.ClockSpent) (Ok next))) (λ m. IsIdleCycle s c m.state)
    by_clock true = tt
    by_clock false =
        let idle = cycle_drained side (All-at IsChannelDrained s.channels c side drained.channels there) in
        let here = slice_get-set_same s.channels c next (slice_get_within s.channels c side there) in record {
          drained = record { ports = drained.ports; channels = All-set IsChannelDrained s.channels c next idle.0 drained.channels };
          trace = subst₂ AddsRefresh (ap trace_of_side (sym there)) (ap trace_of_side (sym here)) idle.1;
          ports = refl;
          others = λ other apart. slice_get-set_other s.channels c other next apart;
        }

over : (o : Opening) (h : History) (event : Event) → CoreKeeps o h → IsDrained h.state → IsOver h.state event
over o h (Submit p asked) k drained = over_submit o h p asked (slice_get h.state.ports p) k drained refl
over o h (Take c) k drained = over_take o h c (slice_get h.state.channels c) drained refl
over o h (Cycle c) k drained = over_cycle h.state c (slice_get h.state.channels c) drained refl
over o h (Deliver c) k drained = over_deliver o h c (slice_get h.state.channels c) drained refl
over o h (Collect p) k drained = over_collect o h p (slice_get h.state.ports p) drained refl
over o h (Release p) k drained = over_release o h p (slice_get h.state.ports p) drained refl
over o h (End p c) k drained = over_end_by o h p c (slice_get h.state.ports p) k drained refl

promise_from : (o : Opening) (h : History) → CoreKeeps o h → KeepsPromise o h
promise_from o h k = record {
  numbered = λ p. numbered o h p k;
  each_once = λ c place r is. (let back = k.accepted c place r is in (back.index, back.number, back.sent_at));
  placed = λ c place r is. (let back = k.accepted c place r is in ap (option_map (λ q. q.channel)) back.placed.placed ∙ ap Some back.placed.channel);
  taken = k.taken;
  lent = λ p. lent_by o h p (slice_get h.state.ports p) (front_of h.state p) k refl refl;
  counted = λ p side is. (let keeps = k.ports p side is in record { accepted = keeps.accepted_are; taken = keeps.taken_are; outstanding = keeps.counted });
  admitted = λ c. admitted o h c k;
  opened = λ c side is.
      (let keeps = k.channels c side is in
      let kept = kept_run o.config o.cycle keeps.calls keeps.calls_are in
      (ap (λ (s : channel_state.State). s.config) keeps.state ∙ kept.config_is, ap (λ (s : channel_state.State). s.start) keeps.state ∙ kept.start_is));
  legal = λ c side is.
      (let keeps = k.channels c side is in
      subst (λ (s : channel_state.State). IsLegal s.config s.start s.now s.trace) (sym keeps.state) (promise_kept o.config o.cycle keeps.calls keeps.calls_are).legal);
  refreshed = λ c side is.
      (let keeps = k.channels c side is in
      subst (λ (s : channel_state.State). IsRefreshed s.config s.start s.now s.trace) (sym keeps.state) (refreshed_run o.config o.cycle keeps.calls keeps.calls_are).refreshed);
  fits = λ c is. fits_side o h c (slice_get h.state.channels c) k refl is;
  awaited = λ p side d is first. awaited_test o h p side d (awaited o h p side d k is first);
  idle = core_idle o h k;
  finished = λ drained. record { taken = λ p. all_taken o h p k drained; admitted = λ c. all_admitted o h c k drained; over = λ event. over o h event k drained };
}

pub core_keeps_promise : (o : Opening) (events : List Answered) → KeepsPromise o (run o events)
core_keeps_promise o events = promise_from o (run o events) (run_keeps o events)
