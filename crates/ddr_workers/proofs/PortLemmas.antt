-- What each call of a port keeps.
use Rattle.std.proofs.Common.{◌≡◌, ℕ, zero, suc, ◌+◌, ◌-◌, ◌<◌, ◌≤◌, Bool, true, false, cond, ◌||◌, nat_lt, List, [], ◌∷◌, ◌++◌, length, Option, Some, None, IfSome, slice_get, refl, sym, ap, ◌∙◌, subst, arith}
use Rattle.std.specs.List.{take_while}
use Rattle.std.specs.Option.{option_map, option_and_then}
use Rattle.std.proofs.lemmas.Bool.{false≢true}
use Rattle.std.proofs.lemmas.Bool.Decides.{nat_tests}
use Rattle.std.proofs.lemmas.List.{length-append, length-drop, length-map}
use Rattle.std.proofs.lemmas.List.Elements.{All-push, All-drop, All-weaker}
use Rattle.std.proofs.lemmas.List.Folds.{list_any-append}
use Rattle.ddr_address_map.specs.declared.place.Place.{Place}
use Rattle.ddr_address_map.specs.Map.{place_of}
use Rattle.ddr_address_map.specs.Requests as records
use Rattle.ddr_address_map.specs.Requests.{Completion}
use Rattle.ddr_reorder.specs.Replies.{Answer, answer_of, is_filled, front_number}
use Rattle.ddr_reorder.specs.Sound.{IsSound}
use Rattle.ddr_reorder.specs.State.{Outstanding, ReorderState, awaits, filled}
use Rattle.ddr_ports.specs.Asked.{Asked, echo_of, first_address}
use Rattle.ddr_ports.specs.declared.refusal.PortError.{PortError}
use Rattle.ddr_ports.specs.declared.refusal.PortError.TheVariants.{Finished}
use Rattle.ddr_ports.specs.State as core
use Rattle.ddr_ports.specs.State.{request_at, request_with}
use Rattle.ddr_workers.specs.declared.completions.Delivery.{Delivery}
use Rattle.ddr_world.specs.declared.item.Item.{Item}
use Rattle.ddr_world.specs.declared.item.Item.TheVariants.{Request, End}
use Rattle.ddr_workers.specs.declared.requests.Route.{Route}
use Rattle.ddr_workers.specs.Port.{PortState, WasBusy, IsHeldUp, finished, after_busy, after_end, after_ends}
use Rattle.ddr_workers.specs.PortView.{IsSideTo, IsReady, IsAwaited, IsWhole}
use Rattle.ddr_workers.specs.Requests.{has_end, is_end, IsPlaced}
use Rattle.ddr_workers.specs.Sides.{PutSide, TakeSide, after_push, after_full, after_pop, changed_at}
use Rattle.ddr_workers.proofs.ChangedLemmas.{length-changed, each_changed}
use Rattle.ddr_workers.proofs.ReplyLemmas.{ready_kept, awaited_once, all_ready_filled, all_awaited_filled, first_other}

-- the sides of a port

abbrev Side : Type 0
Side = PutSide Route Item

abbrev AreSides : PortState → List Side → ℕ → Type 0
AreSides s sides ended = (c : ℕ) (side : Side) → slice_get sides c ≡ Some side → IsSideTo s.core.port s.core.geometry ended c side

or_false : (b : Bool) → (b || false) ≡ b
or_false true = refl
or_false false = refl

or_true : (b : Bool) → (b || true) ≡ true
or_true true = refl
or_true false = refl

asked_last : (items : List Item) (r : records.Request) → has_end (items ++ Request r ∷ []) ≡ has_end items
asked_last items r = list_any-append is_end items (Request r ∷ []) ∙ or_false (has_end items)

ended_last : (items : List Item) (p : ℕ) → has_end (items ++ End p ∷ []) ≡ true
ended_last items p = list_any-append is_end items (End p ∷ []) ∙ or_true (has_end items)

pub sides_pushed : (s : PortState) (channel : ℕ) (r : records.Request) → IsWhole s → AreSides s (changed_at channel (λ side. after_push side (Request r)) s.requests) s.ended
sides_pushed s channel r whole =
    let P = IsSideTo s.core.port s.core.geometry s.ended in
    each_changed (λ (side : Side). after_push side (Request r)) P P channel s.requests whole.sides
    (λ x is. record { source = is.source; route = is.route; ends = asked_last x.put r ∙ is.ends }) (λ k x other is. is)

pub sides_full : (s : PortState) (channel : ℕ) → IsWhole s → AreSides s (changed_at channel after_full s.requests) s.ended
sides_full s channel whole =
    let P = IsSideTo s.core.port s.core.geometry s.ended in
    each_changed after_full P P channel s.requests whole.sides (λ x is. record { source = is.source; route = is.route; ends = is.ends }) (λ k x other is. is)

ended_here : (n : ℕ) → true ≡ nat_lt n (n + 1)
ended_here n = grind (arith, nat_tests)

ended_others : (n k : ℕ) → (k ≡ n → ⊥) → nat_lt k n ≡ nat_lt k (n + 1)
ended_others n k other = grind (arith, nat_tests)

pub sides_ended : (s : PortState) → IsWhole s → AreSides s (changed_at s.ended (λ side. after_push side (End side.who.source)) s.requests) (s.ended + 1)
sides_ended s whole =
    let P = IsSideTo s.core.port s.core.geometry s.ended in
    let Q = IsSideTo s.core.port s.core.geometry (s.ended + 1) in
    each_changed (λ (side : Side). after_push side (End side.who.source)) P Q s.ended s.requests whole.sides
    (λ x is. record { source = is.source; route = is.route; ends = ended_last x.put x.who.source ∙ ended_here s.ended })
    (λ k x other is. record { source = is.source; route = is.route; ends = is.ends ∙ ended_others s.ended k other })

-- a request was pushed

pub whole_submitted : (s : PortState) (asked : Asked) (r : records.Request) (k : core.PortState) (sides : List Side) (channel : ℕ) → IsWhole s → s.broken ≡ false → k ≡ core.after_prepare s.core asked → IsSound k.reorder
    → sides ≡ changed_at channel (λ side. after_push side (Request r)) s.requests → IsWhole (record s { core = k; requests = sides })
whole_submitted s asked r k sides channel whole working is sound pushed =
    let os = s.core.reorder.outstanding in
    let new : Outstanding = record { number = s.core.reorder.next; echo = echo_of asked; line = None; service = None } in
    let dones = s.completions.took in
    let whole' : IsSound (core.after_prepare s.core asked).reorder → IsWhole (record s { core = core.after_prepare s.core asked; requests = changed_at channel (λ side. after_push side (Request r)) s.requests }) =
    λ sound'. record {
      channels = length-changed (λ (side : Side). after_push side (Request r)) channel s.requests ∙ whole.channels;
      few = whole.few;
      sides = sides_pushed s channel r whole;
      ended = whole.ended;
      unfinished = whole.unfinished;
      counted = omega (arith, whole.counted, length-append os (new ∷ []));
      sound = sound';
      ready = All-push (IsReady dones) os new whole.ready (record { reply = tt; service = tt });
      awaited = λ w. All-push (IsAwaited dones) os new (whole.awaited w) (λ none. whole.fresh w s.core.reorder.next (omega arith));
      fresh = λ w number above. whole.fresh w number (omega (arith, above));
    } in
    subst (λ xs. IsWhole (record s { core = k; requests = xs })) (sym pushed)
    (subst (λ (c : core.PortState). IsSound c.reorder → IsWhole (record s { core = c; requests = changed_at channel (λ side. after_push side (Request r)) s.requests })) (sym is) whole' sound)

-- the queue was full
pub whole_busy : (s : PortState) (k : core.PortState) (sides : List Side) (channel : ℕ) → IsWhole s → k ≡ s.core → sides ≡ changed_at channel after_full s.requests → IsWhole (record s { core = k; requests = sides })
whole_busy s k sides channel whole same full =
    let whole' : IsWhole (after_busy channel s) = record {
      channels = length-changed after_full channel s.requests ∙ whole.channels;
      few = whole.few;
      sides = sides_full s channel whole;
      ended = whole.ended;
      unfinished = whole.unfinished;
      counted = whole.counted;
      sound = whole.sound;
      ready = whole.ready;
      awaited = whole.awaited;
      fresh = whole.fresh;
    } in
    subst (λ xs. IsWhole (record s { core = k; requests = xs })) (sym full)
    (subst (λ (c : core.PortState). IsWhole (record s { core = c; requests = changed_at channel after_full s.requests })) (sym same) whole')

-- the awaited completion came
pub whole_filled : (s : PortState) (d : Completion) (k : core.PortState) (side : TakeSide Delivery Completion) → IsWhole s → s.broken ≡ false → awaits s.core.reorder d.number d.echo ≡ true
    → k ≡ core.after_fill d s.core → IsSound k.reorder → side ≡ after_pop s.completions d → IsWhole (record s { core = k; completions = side })
whole_filled s d k side whole working awaited is sound popped =
    let os = s.core.reorder.outstanding in
    let dones = s.completions.took in
    let once = awaited_once d.number d.echo (s.core.reorder.next - length os) os whole.sound.numbers awaited in
    let under : d.number < s.core.reorder.next = omega (arith, once.under, whole.sound.begun) in
    let whole' : IsSound (core.after_fill d s.core).reorder → IsWhole (record s { core = core.after_fill d s.core; completions = after_pop s.completions d }) =
    λ sound'. record {
      channels = whole.channels;
      few = whole.few;
      sides = whole.sides;
      ended = whole.ended;
      unfinished = whole.unfinished;
      counted = omega (arith, whole.counted, length-map os (filled d.number (core.service_of d) d.line));
      sound = sound';
      ready = all_ready_filled dones d os whole.ready (whole.awaited working) once.it;
      awaited = λ w. all_awaited_filled dones d os (whole.awaited w);
      fresh = λ w number above. first_other number dones d (λ same. omega (arith, same, above, under)) (whole.fresh w number above);
    } in
    subst (λ t. IsWhole (record s { core = k; completions = t })) (sym popped)
    (subst (λ (c : core.PortState). IsSound c.reorder → IsWhole (record s { core = c; completions = after_pop s.completions d })) (sym is) whole' sound)

-- a completion came that was not awaited
pub whole_stray : (s : PortState) (d : Completion) (k : core.PortState) (side : TakeSide Delivery Completion) → IsWhole s → k ≡ s.core → side ≡ after_pop s.completions d → IsWhole (record s { core = k; completions = side; broken = true })
whole_stray s d k side whole same popped =
    let dones = s.completions.took in
    let whole' : IsWhole (record s { completions = after_pop s.completions d; broken = true }) = record {
      channels = whole.channels;
      few = whole.few;
      sides = whole.sides;
      ended = whole.ended;
      unfinished = whole.unfinished;
      counted = whole.counted;
      sound = whole.sound;
      ready = All-weaker (IsReady dones) (IsReady (dones ++ d ∷ [])) (ready_kept dones d) s.core.reorder.outstanding whole.ready;
      awaited = λ w. absurd (false≢true (sym w));
      fresh = λ w. absurd (false≢true (sym w));
    } in
    subst (λ t. IsWhole (record s { core = k; completions = t; broken = true })) (sym popped)
    (subst (λ (c : core.PortState). IsWhole (record s { core = c; completions = after_pop s.completions d; broken = true })) (sym same) whole')

-- the oldest reply was given up
pub whole_released : (s : PortState) (k : core.PortState) → IsWhole s → 0 < length s.core.reorder.outstanding → k ≡ core.after_release s.core → IsSound k.reorder → IsWhole (record s { core = k; taken = s.taken + 1 })
whole_released s k whole some is sound =
    let os = s.core.reorder.outstanding in
    let dones = s.completions.took in
    let whole' : IsSound (core.after_release s.core).reorder → IsWhole (record s { core = core.after_release s.core; taken = s.taken + 1 }) =
    λ sound'. record {
      channels = whole.channels;
      few = whole.few;
      sides = whole.sides;
      ended = whole.ended;
      unfinished = whole.unfinished;
      counted = omega (arith, whole.counted, length-drop 1 os, some);
      sound = sound';
      ready = All-drop (IsReady dones) 1 os whole.ready;
      awaited = λ w. All-drop (IsAwaited dones) 1 os (whole.awaited w);
      fresh = whole.fresh;
    } in
    subst (λ (c : core.PortState). IsSound c.reorder → IsWhole (record s { core = c; taken = s.taken + 1 })) (sym is) whole' sound

-- a reply in front is that of an outstanding number
some_outstanding : (os : List Outstanding) (n : ℕ) → option_map (λ (a : Answer). a.number) (option_and_then answer_of (slice_get (take_while is_filled os) 0)) ≡ Some n → 0 < length os
some_outstanding [] n is = cc
some_outstanding (o ∷ os) n is = omega arith

pub in_front : (s : ReorderState) (n : ℕ) → front_number s ≡ Some n → 0 < length s.outstanding
in_front s n is = some_outstanding s.outstanding n is

-- a request that was prepared may be pushed on the side of its channel

pub if_some : {X : Type 0} (P : X → Type 0) (o : Option X) → ((x : X) → o ≡ Some x → P x) → IfSome o P
if_some P None each = tt
if_some P (Some x) each = each x refl

not_finished : (b : Bool) (o : Option PortError) → cond b (Some Finished) o ≡ None → b ≡ false
not_finished false o is = refl
not_finished true o is = cc

pub record IsMade (k : core.PortState) (asked : Asked) (made : records.Request) : Type 0 where
  pub port : made.port ≡ k.port
  pub placed : place_of k.geometry made.echo.addr ≡ Some made.place

pub made_at : (k : core.PortState) (asked : Asked) (made : records.Request) (o : Option Place) → place_of k.geometry (first_address asked) ≡ o → option_map (request_with k asked) o ≡ Some made → IsMade k asked made
made_at k asked made None e is = cc
made_at k asked made (Some place) e is =
    let same : request_with k asked place ≡ made = cc in
    subst (IsMade k asked) same (record { port = refl; placed = e })

pub record MayPush (made : records.Request) (side : Side) : Type 0 where
  pub own : made.port ≡ side.who.source
  pub placed : IsPlaced side.who.queue.purpose made
  pub before_end : has_end side.put ≡ false

no_end_at_first : (n k : ℕ) → n ≡ 0 → nat_lt k n ≡ false
no_end_at_first n k e = grind (arith, nat_tests, e)

pub may_push : (s : PortState) (asked : Asked) (made : records.Request) (channel : ℕ) → IsWhole s → core.refusal_of s.core asked ≡ None → request_at s.core asked ≡ Some made → made.place.channel ≡ channel
    → (side : Side) → slice_get s.requests channel ≡ Some side → MayPush made side
may_push s asked made channel whole allowed is at side there =
    let to = whole.sides channel side there in
    let made_is = made_at s.core asked made (place_of s.core.geometry (first_address asked)) refl is in
    let unfinished = whole.unfinished (not_finished s.core.finished _ allowed) in
    record {
      own = made_is.port ∙ sym to.source;
      placed = record {
        place = ap (λ (r : Route). place_of r.geometry made.echo.addr) to.route ∙ made_is.placed;
        channel = at ∙ sym (ap (λ (r : Route). r.channel) to.route);
      };
      before_end = to.ends ∙ no_end_at_first s.ended channel unfinished;
    }

-- an End was pushed on the first channel that had none
pub whole_ended : (s : PortState) (sides : List Side) → IsWhole s → s.core.finished ≡ true → s.ended < length s.requests
    → sides ≡ changed_at s.ended (λ side. after_push side (End side.who.source)) s.requests → IsWhole (record s { requests = sides; ended = s.ended + 1 })
whole_ended s sides whole ended within pushed =
    let whole' : IsWhole (after_end s) = record {
      channels = length-changed (λ (side : Side). after_push side (End side.who.source)) s.ended s.requests ∙ whole.channels;
      few = whole.few;
      sides = sides_ended s whole;
      ended = omega (arith, within, whole.channels);
      unfinished = λ open_still. absurd (false≢true (sym open_still ∙ ended));
      counted = whole.counted;
      sound = whole.sound;
      ready = whole.ready;
      awaited = whole.awaited;
      fresh = whole.fresh;
    } in
    subst (λ xs. IsWhole (record s { requests = xs; ended = s.ended + 1 })) (sym pushed) whole'

-- the port was finished
pub whole_finished : (s : PortState) (k : core.PortState) → IsWhole s → k ≡ core.after_finish s.core → IsWhole (record s { core = k })
whole_finished s k whole is =
    let whole' : IsWhole (finished s) = record {
      channels = whole.channels;
      few = whole.few;
      sides = whole.sides;
      ended = whole.ended;
      unfinished = λ open_still. cc;
      counted = whole.counted;
      sound = whole.sound;
      ready = whole.ready;
      awaited = whole.awaited;
      fresh = whole.fresh;
    } in
    subst (λ (c : core.PortState). IsWhole (record s { core = c })) (sym is) whole'

-- so many Ends more

pub ends_ended : (n : ℕ) (s : PortState) → (after_ends n s).ended ≡ s.ended + n
ends_ended zero s = omega arith
ends_ended (suc n) s = omega (arith, ends_ended n s)

pub ends_length : (n : ℕ) (s : PortState) → length (after_ends n s).requests ≡ length s.requests
ends_length zero s = refl
ends_length (suc n) s = length-changed (λ (side : Side). after_push side (End side.who.source)) (after_ends n s).ended (after_ends n s).requests ∙ ends_length n s

pub ends_core : (n : ℕ) (s : PortState) → (after_ends n s).core ≡ s.core
ends_core zero s = refl
ends_core (suc n) s = ends_core n s

ended_at : (s t : PortState) (channel : ℕ) → s.ended ≤ channel → t ≡ after_ends (channel - s.ended) s → t.ended ≡ channel
ended_at s t channel begun is = ap (λ (u : PortState). u.ended) is ∙ ends_ended (channel - s.ended) s ∙ omega (arith, begun)

pub may_end : (s t : PortState) (channel : ℕ) → s.ended ≤ channel → channel < length s.requests → t ≡ after_ends (channel - s.ended) s → t.ended < length t.requests
may_end s t channel begun within is = omega (arith, ended_at s t channel begun is, ap (λ (u : PortState). length u.requests) is, ends_length (channel - s.ended) s, within)

pub still_finished : (s t : PortState) (channel : ℕ) → s.core.finished ≡ true → t ≡ after_ends (channel - s.ended) s → t.core.finished ≡ true
still_finished s t channel finished is = ap (λ (u : PortState). u.core.finished) is ∙ ap (λ (k : core.PortState). k.finished) (ends_core (channel - s.ended) s) ∙ finished

pub one_end_more : (s t u : PortState) (channel : ℕ) → s.ended ≤ channel → t ≡ after_ends (channel - s.ended) s → u ≡ after_end t → u ≡ after_ends (channel + 1 - s.ended) s
one_end_more s t u channel begun is next =
    let count : channel + 1 - s.ended ≡ suc (channel - s.ended) = omega (arith, begun) in
    next ∙ ap after_end is ∙ ap (λ n. after_ends n s) (sym count)

pub held_up : (s t u : PortState) (channel : ℕ) → s.ended ≤ channel → channel < length s.requests → t ≡ after_ends (channel - s.ended) s → WasBusy t t.ended → u ≡ after_busy t.ended t → IsHeldUp s u channel
held_up s t u channel begun within is full state =
    let at = ended_at s t channel begun is in
    record {
      begun = begun;
      there = within;
      full = subst (λ (v : PortState). WasBusy v channel) is (subst (λ n. WasBusy t n) at full);
      state = state ∙ ap (λ n. after_busy n t) at ∙ ap (after_busy channel) is;
    }
