-- What a made event keeps of the core, one event after another.
use Rattle.std.proofs.Common.{◌≡◌, ℕ, suc, ◌+◌, Bool, true, false, cond, eqb, List, [], ◌∷◌, ◌++◌, Option, Some, None, IfSome, is_none, map, take, drop, length, set, refl, sym, ap, ap₂, subst, ◌∙◌, inl, inr, arith}
use Rattle.std.specs.List.{sum_by, slice_get, range_with_len}
use Rattle.std.proofs.lemmas.Bool.{ne_eqb, eq-eqb, eqb-true}
use Rattle.std.proofs.lemmas.List.{length-set, length-map, length-append, append-nil, map-append, take_more}
use Rattle.std.proofs.lemmas.List.Sums.{sum_by-cons}
use Rattle.std.proofs.lemmas.Option.{slice_get_within, get_or_from_slice_get}
use Rattle.circular_buffer.proofs.Places.{slice_get-drop, slice_get-append_right}
use Rattle.ddr_address_map.specs.declared.request.Kind.TheVariants.{Read, Write}
use Rattle.ddr_timing.specs.declared.config.Config.{Config}
use Rattle.ddr_address_map.specs.declared.request.Echo.{Echo}
use Rattle.ddr_address_map.specs.Requests.{Request, Completion}
use Rattle.ddr_channel.proofs.HeldLemmas.{weigh_request, weigh_done, sum_replaced, sum_dropped, sum_last}
use Rattle.ddr_channel.proofs.ListLemmas.{at_map}
use Rattle.ddr_channel.specs.Promise.{requests_of}
use Rattle.ddr_channel.specs.State.{is_queue_full}
use Rattle.ddr_reorder.specs.declared.reply.Service.{Service}
use Rattle.ddr_reorder.specs.Replies.{Answer, lent_bytes, nth_answer}
use Rattle.ddr_reorder.specs.State.{Outstanding, filled, awaits}
use Rattle.ddr_ports.specs.State.{after_fill, service_of}
use Rattle.ddr_world.specs.declared.item.Item.{Item}
use Rattle.ddr_world.specs.declared.item.Item.TheVariants as item
use Rattle.ddr_world.specs.History.{Opening, Whereabouts, History, with_next}
use Rattle.ddr_world.specs.Promise.{reply_of, replies_of_port}
use Rattle.ddr_world.specs.Served.{WasServed}
use Rattle.ddr_world.specs.State.{PortSide, ChannelSide, State}
use Rattle.ddr_world.specs.Step.{with_port, with_channel, queued, after_take, sent, after_deliver, after_collect, after_release, after_end}
use Rattle.ddr_world.proofs.CoreCounts.{requests_in-append, number_at, weigh_waiting, sum_filled}
use Rattle.ddr_world.proofs.CoreFrames.{with_next_other, with_next_same, before_or_last, channels_after, ports_after, channel_changed, queue_changed, port_changed, admitted_keeps, popped_keeps}
use Rattle.ddr_world.proofs.CoreKeeps.{requests_in, ChannelKeeps, Right, IsSettledAt, PortKeeps, PortServed, CoreKeeps, weight, held_in, delivered_in, waiting_in, grows_none, port_with, replaced_at}
use Rattle.ddr_world.proofs.CoreReplies.{awaited, awaited_test, done_right, same_request, IsLent, is_front, lent_next}
use Rattle.ddr_world.proofs.CoreServed.{done_served, port_served_still, traces_grow}
use Rattle.ddr_world.proofs.PlaceLemmas.{placed_in_range}

-- Take

pub take_request_keeps : (o : Opening) (h : History) (c : ℕ) (side : ChannelSide) (r : Request) (rest : List Item) → CoreKeeps o h → slice_get h.state.channels c ≡ Some side
    → side.requests ≡ item.Request r ∷ rest → (is_queue_full side.channel Read ≡ false) × (is_queue_full side.channel Write ≡ false)
    → CoreKeeps o (record h { state = with_channel c (after_take (item.Request r) side) h.state; admitted = with_next h.admitted c r })
take_request_keeps o h c side r rest k was items free =
    let keeps = k.channels c side was in
    let list : h.admitted c ++ (r ∷ requests_in rest) ≡ h.accepted c = ap (λ (its : List Item). h.admitted c ++ requests_in its) (sym items) ∙ keeps.accepted_are in
    let here : slice_get (h.accepted c) (length (h.admitted c)) ≡ Some r =
    ap (λ (rs : List Request). slice_get rs (length (h.admitted c))) (sym list) ∙ slice_get-append_right (h.admitted c) (r ∷ requests_in rest) (length (h.admitted c)) 0 (omega arith) in
    let back = k.accepted c (length (h.admitted c)) r here in
    let served = placed_in_range o.config.geometry r.echo.addr r.place back.placed.placed in
    channel_changed o h (with_next h.admitted c r) c side (after_take (item.Request r) side) k was (λ i other. with_next_other h.admitted c r i other)
    (subst (λ (xs : List Request). ChannelKeeps o xs (h.accepted c) (after_take (item.Request r) side)) (sym (with_next_same h.admitted c r))
    (admitted_keeps o (h.admitted c) (h.accepted c) side r rest items free served keeps))
    (grows_none side.channel.trace side.channel.trace refl)
    (λ f p.
    let queue : sum_by (weigh_request (weight f p)) (requests_in (drop 1 side.requests)) + weight f p r.port r.number ≡ sum_by (weigh_request (weight f p)) (requests_in side.requests) =
    ap (λ (its : List Item). sum_by (weigh_request (weight f p)) (requests_in (drop 1 its)) + weight f p r.port r.number) items
    ∙ (let sum = sum_by-cons (weigh_request (weight f p)) r (requests_in rest) in omega (arith, sum))
    ∙ ap (λ (its : List Item). sum_by (weigh_request (weight f p)) (requests_in its)) (sym items) in
    let pending = ap (sum_by (weigh_request (weight f p))) (map-append (λ w. w.request) side.channel.pending (record { request = r; admitted = side.channel.now } ∷ [])) in
    let last = sum_last (weigh_request (weight f p)) (requests_of side.channel.pending) r in
    omega (arith, queue, pending, last))

pub take_end_keeps : (o : Opening) (h : History) (c : ℕ) (side : ChannelSide) (p : ℕ) (rest : List Item) → CoreKeeps o h → slice_get h.state.channels c ≡ Some side
    → side.requests ≡ item.End p ∷ rest → CoreKeeps o (record h { state = with_channel c (after_take (item.End p) side) h.state })
take_end_keeps o h c side p rest k was items =
    queue_changed o h c side (after_take (item.End p) side) k was refl (ap (λ (its : List Item). requests_in (drop 1 its)) items ∙ ap requests_in (sym items))

-- Deliver

delivered_served : (config : Config) (s : State) (d : Completion) (port : PortSide) → PortServed config s port → WasServed config s d.echo (service_of d) → PortServed config s (after_deliver d port)
delivered_served config s d port k told = record {
  queue = λ j x is. elim (before_or_last port.completions d x j is) [
    | inl before ↦ k.queue j x before
    | inr last ↦ subst (λ (y : Completion). WasServed config s y.echo (service_of y)) (sym last.1) told
  ];
  filled = k.filled;
}

delivered_keeps : (o : Opening) (h : History) (d : Completion) (port : PortSide) → PortKeeps o h.accepted (h.sent d.port) (h.taken d.port) d.port port → Right o.number h.accepted (h.sent d.port) d
    → PortKeeps o h.accepted (h.sent d.port) (h.taken d.port) d.port (after_deliver d port)
delivered_keeps o h d port k right =
    port_with o h.accepted h.accepted (h.sent d.port) (h.taken d.port) d.port port port.core.finished (port.completions ++ d ∷ []) port.pushed k refl k.ended k.settled (λ j x is. elim (before_or_last port.completions d x j is) [
      | inl before ↦ k.right j x before
      | inr last ↦ subst (λ (y : Completion). Right o.number h.accepted (h.sent d.port) y) (sym last.1) right
    ])

pub deliver_keeps : (o : Opening) (h : History) (c : ℕ) (side : ChannelSide) (d : Completion) (port : PortSide) → CoreKeeps o h → slice_get h.state.channels c ≡ Some side → slice_get side.channel.done 0 ≡ Some d
    → slice_get h.state.ports d.port ≡ Some port → CoreKeeps o (record h { state = with_port d.port (after_deliver d port) (with_channel c (sent side) h.state) })
deliver_keeps o h c side d port k was done there =
    let right = done_right o h c side d k was done in
    let after : (f : ℕ → ℕ) (p : ℕ) → sum_by (held_in f p) (set h.state.channels c (sent side)) + weight f p d.port d.number ≡ sum_by (held_in f p) h.state.channels =
    λ f p. omega (arith, sum_replaced (held_in f p) h.state.channels c side (sent side) was, sum_dropped (weigh_done (weight f p)) side.channel.done d done) in
    record {
      channels = channels_after o h h.admitted h.accepted c side (sent side) k was (λ i other. (refl, refl)) (popped_keeps o (h.admitted c) (h.accepted c) side (k.channels c side was));
      ports = ports_after o h h.accepted h.sent h.taken d.port port (after_deliver d port) k there (λ i. grows_none (h.accepted i) (h.accepted i) refl) (λ i other. (refl, refl))
          (delivered_keeps o h d port (k.ports d.port port there) right);
      accepted = k.accepted;
      sent = k.sent;
      taken = k.taken;
      held = λ f p x is. elim (replaced_at h.state.ports d.port p port (after_deliver d port) x there is) [
        | inl here ↦ (let weighs : weight f p d.port d.number ≡ f d.number = ap (λ b. cond b (f d.number) 0) (eq-eqb d.port p (sym here.0)) in
            let old : sum_by (held_in f p) h.state.channels + delivered_in f port ≡ waiting_in f port = k.held f p port (ap (slice_get h.state.ports) here.0 ∙ there) in
            let new : sum_by (held_in f p) (set h.state.channels c (sent side)) + delivered_in f (after_deliver d port) ≡ waiting_in f port =
            omega (arith, after f p, weighs, old, sum_last (λ (y : Completion). f y.number) port.completions d) in
            ap (λ (s : PortSide). sum_by (held_in f p) (set h.state.channels c (sent side)) + delivered_in f s) here.1 ∙ new ∙ ap (waiting_in f) (sym here.1))
        | inr other ↦ (let weighs : weight f p d.port d.number ≡ 0 = ap (λ b. cond b (f d.number) 0) (ne_eqb d.port p (λ same. other.0 (sym same))) in
            omega (arith, after f p, weighs, k.held f p x other.1))
      ];
      served = λ p x is.
          port_served_still o.config h.state (with_port d.port (after_deliver d port) (with_channel c (sent side) h.state)) x
          (traces_grow h.state c side (sent side) was (grows_none side.channel.trace side.channel.trace refl)) (elim (replaced_at h.state.ports d.port p port (after_deliver d port) x there is) [
            | inl here ↦ subst (λ (y : PortSide). PortServed o.config h.state y) (sym here.1) (delivered_served o.config h.state d port (k.served d.port port there) (done_served o h c side d k was done))
            | inr other ↦ k.served p x other.1
          ]);
      channels_are = length-set h.state.channels c (sent side) ∙ k.channels_are;
      no_port = λ p past. k.no_port p (omega (arith, past, length-set h.state.ports d.port (after_deliver d port)));
      no_channel = λ i past. k.no_channel i (omega (arith, past, length-set h.state.channels c (sent side)));
    }

-- Collect

-- the entry of an outstanding number, for which a line has come back
settled_echo : (o : Opening) (accepted : ℕ → List Request) (sent : List Whereabouts) (k : ℕ) (e : Outstanding) (d : Completion) → e.number ≡ d.number → e.number ≡ o.number + k
    → Right o.number accepted sent d → IsSettledAt accepted sent k e → e.echo ≡ d.echo
settled_echo o accepted sent k e d its number right s =
    let index : right.index ≡ k = omega (arith, right.number, number, its) in
    let same = same_request accepted sent right.index k right.at s.at right.request s.settled.request index right.sent_at s.sent_at right.there s.settled.there in
    s.settled.echo ∙ ap (λ (r : Request). r.echo) (sym same.1) ∙ sym right.echo

settle_told : (config : Config) (s : State) (e : Outstanding) (d : Completion) (b : Bool) → (b ≡ true → e.echo ≡ d.echo) → IfSome e.service (WasServed config s e.echo) → WasServed config s d.echo (service_of d)
    → IfSome (cond b (record e { line = Some d.line; service = Some (service_of d) }) e).service (WasServed config s (cond b (record e { line = Some d.line; service = Some (service_of d) }) e).echo)
settle_told config s e d false same was told = was
settle_told config s e d true same was told = subst (λ (x : Echo). WasServed config s x (service_of d)) (sym (same refl)) told

settle : (o : Opening) (accepted : ℕ → List Request) (sent : List Whereabouts) (k : ℕ) (e : Outstanding) (d : Completion) (b : Bool) → eqb e.number d.number ≡ b → e.number ≡ o.number + k
    → Right o.number accepted sent d → IsSettledAt accepted sent k e → IsSettledAt accepted sent k (cond b (record e { line = Some d.line; service = Some (service_of d) }) e)
settle o accepted sent k e d false other number right s = s
settle o accepted sent k e d true test number right s =
    let index : right.index ≡ k = omega (arith, right.number, number, eqb-true e.number d.number test) in
    let same = same_request accepted sent right.index k right.at s.at right.request s.settled.request index right.sent_at s.sent_at right.there s.settled.there in
    let echo = settled_echo o accepted sent k e d (eqb-true e.number d.number test) number right s in
    record {
      at = s.at;
      sent_at = s.sent_at;
      settled = record {
        request = s.settled.request;
        there = s.settled.there;
        echo = s.settled.echo;
        line = ap (λ x. lent_bytes x d.line) echo ∙ right.bytes ∙ ap₂ (λ (w : Whereabouts) (r : Request). (reply_of (take w.place (accepted w.channel)) r).bytes) same.0 same.1;
      };
    }

filled_numbers : (n : ℕ) (service : Service) (line : List ℕ) (xs : List Outstanding) → map (λ (e : Outstanding). e.number) (map (filled n service line) xs) ≡ map (λ (e : Outstanding). e.number) xs
filled_numbers n service line [] = refl
filled_numbers n service line (x ∷ xs) = ap₂ ◌∷◌ (by_test (eqb x.number n)) (filled_numbers n service line xs)
  where
    by_test : (b : Bool) → (cond b (record x { line = Some line; service = Some service }) x).number ≡ x.number
    by_test true = refl
    by_test false = refl

collected_core : (d : Completion) (port : PortSide) → awaits port.core.reorder d.number d.echo ≡ true
    → after_collect d port ≡ record port { core = after_fill d port.core; completions = drop 1 port.completions }
collected_core d port test = ap (λ b. record port { core = cond b (after_fill d port.core) port.core; completions = drop 1 port.completions }) test

collected_keeps : (o : Opening) (h : History) (p : ℕ) (port : PortSide) (d : Completion) → PortKeeps o h.accepted (h.sent p) (h.taken p) p port → Right o.number h.accepted (h.sent p) d
    → PortKeeps o h.accepted (h.sent p) (h.taken p) p (record port { core = after_fill d port.core; completions = drop 1 port.completions })
collected_keeps o h p port d k right =
    let xs = port.core.reorder.outstanding in
    let same_length : length (map (filled d.number (service_of d) d.line) xs) ≡ length xs = length-map xs (filled d.number (service_of d) d.line) in
    record {
      port = k.port;
      geometry = k.geometry;
      window = omega (arith, k.window, same_length);
      next = k.next;
      numbers = filled_numbers d.number (service_of d) d.line xs ∙ k.numbers ∙ ap (range_with_len (o.number + length (h.taken p))) (sym same_length);
      accepted_are = k.accepted_are;
      taken_are = k.taken_are;
      counted = omega (arith, k.counted, same_length);
      ends = k.ends;
      ended = k.ended;
      settled = λ j e is.
          let found = at_map (filled d.number (service_of d) d.line) xs j e is in
          let number = number_at (o.number + length (h.taken p)) xs j found.0 k.numbers found.1 in
          subst (λ (x : Outstanding). IsSettledAt h.accepted (h.sent p) (length (h.taken p) + j) x) found.2
          (settle o h.accepted (h.sent p) (length (h.taken p) + j) found.0 d (eqb found.0.number d.number) refl (omega (arith, number)) right (k.settled j found.0 found.1));
      right = λ j x is. k.right (suc j) x (sym (slice_get-drop 1 port.completions j (suc j) (omega arith)) ∙ is);
    }

collected_served : (o : Opening) (h : History) (p : ℕ) (port : PortSide) (d : Completion) → PortKeeps o h.accepted (h.sent p) (h.taken p) p port → Right o.number h.accepted (h.sent p) d
    → PortServed o.config h.state port → WasServed o.config h.state d.echo (service_of d) → PortServed o.config h.state (record port { core = after_fill d port.core; completions = drop 1 port.completions })
collected_served o h p port d k right before told =
    let xs = port.core.reorder.outstanding in
    record {
      queue = λ j x is. before.queue (suc j) x (sym (slice_get-drop 1 port.completions j (suc j) (omega arith)) ∙ is);
      filled = λ j e is.
          let found = at_map (filled d.number (service_of d) d.line) xs j e is in
          let number = number_at (o.number + length (h.taken p)) xs j found.0 k.numbers found.1 in
          let echo : eqb found.0.number d.number ≡ true → found.0.echo ≡ d.echo =
          λ test. settled_echo o h.accepted (h.sent p) (length (h.taken p) + j) found.0 d (eqb-true found.0.number d.number test) (omega (arith, number)) right (k.settled j found.0 found.1) in
          subst (λ (x : Outstanding). IfSome x.service (WasServed o.config h.state x.echo)) found.2
          (settle_told o.config h.state found.0 d (eqb found.0.number d.number) echo (before.filled j found.0 found.1) told);
    }

pub collect_keeps : (o : Opening) (h : History) (p : ℕ) (port : PortSide) (d : Completion) → CoreKeeps o h → slice_get h.state.ports p ≡ Some port → slice_get port.completions 0 ≡ Some d
    → CoreKeeps o (record h { state = with_port p (after_collect d port) h.state })
collect_keeps o h p port d k was first =
    let waits = awaited o h p port d k was first in
    let keeps = k.ports p port was in
    let new : PortSide = record port { core = after_fill d port.core; completions = drop 1 port.completions } in
    subst (λ (s : PortSide). CoreKeeps o (record h { state = with_port p s h.state })) (sym (collected_core d port (awaited_test o h p port d waits)))
    (port_changed o h h.taken p port new k was (λ i other. refl) (collected_keeps o h p port d keeps waits.right)
    (collected_served o h p port d keeps waits.right (k.served p port was) ((k.served p port was).queue 0 d first)) (k.taken p)
    (λ f. omega (
      arith,
      sum_dropped (λ (x : Completion). f x.number) port.completions d first,
      sum_filled f d.number (service_of d) d.line (o.number + length (h.taken p)) port.core.reorder.outstanding waits.index waits.entry keeps.numbers waits.there waits.number waits.line,
    )))

-- Release

later_numbers : (a b n : ℕ) (e : Outstanding) (xs : List Outstanding) → slice_get xs 0 ≡ Some e → map (λ (x : Outstanding). x.number) xs ≡ range_with_len a (length xs) → b ≡ a + 1
    → map (λ (x : Outstanding). x.number) (drop 1 xs) ≡ range_with_len b (length (drop 1 xs))
later_numbers a b n e [] is numbers next = cc
later_numbers a b n e (x ∷ xs) is numbers next =
    let rest : map (λ (y : Outstanding). y.number) xs ≡ range_with_len (a + 1) (length xs) = cc in
    rest ∙ ap (λ m. range_with_len m (length xs)) (sym next)

one_less : {X : Type 0} (xs : List X) (x : X) → slice_get xs 0 ≡ Some x → suc (length (drop 1 xs)) ≡ length xs
one_less [] x is = cc
one_less (y ∷ ys) x is = refl

released_keeps : (o : Opening) (h : History) (p : ℕ) (port : PortSide) (a : Answer) → PortKeeps o h.accepted (h.sent p) (h.taken p) p port → IsLent port.core.reorder 0 a
    → PortKeeps o h.accepted (h.sent p) (h.taken p ++ a ∷ []) p (after_release port)
released_keeps o h p port a k front =
    let xs = port.core.reorder.outstanding in
    let less = one_less xs front.entry front.there in
    let more : length (h.taken p ++ a ∷ []) ≡ length (h.taken p) + 1 = length-append (h.taken p) (a ∷ []) in
    record {
      port = k.port;
      geometry = k.geometry;
      window = omega (arith, k.window, less);
      next = k.next;
      numbers = later_numbers (o.number + length (h.taken p)) (o.number + length (h.taken p ++ a ∷ [])) 0 front.entry xs front.there k.numbers (omega (arith, more));
      accepted_are = k.accepted_are;
      taken_are = omega (arith, k.taken_are, more);
      counted = omega (arith, k.counted, less, more);
      ends = k.ends;
      ended = k.ended;
      settled = λ j e is. subst (λ n. IsSettledAt h.accepted (h.sent p) n e) (omega (arith, more)) (k.settled (suc j) e (sym (slice_get-drop 1 xs j (suc j) (omega arith)) ∙ is));
      right = k.right;
    }

pub release_keeps : (o : Opening) (h : History) (p : ℕ) (port : PortSide) (a : Answer) → CoreKeeps o h → slice_get h.state.ports p ≡ Some port → nth_answer port.core.reorder 0 ≡ Some a
    → CoreKeeps o (record h { state = with_port p (after_release port) h.state; taken = with_next h.taken p a })
release_keeps o h p port a k was is =
    let keeps = k.ports p port was in
    let front = is_front port.core.reorder a is in
    let next = lent_next o h p port a k was is in
    let n = length (h.taken p) in
    let replies = replies_of_port h p in
    let longer : map Some (h.taken p ++ a ∷ []) ≡ take (length (h.taken p ++ a ∷ [])) replies =
    map-append Some (h.taken p) (a ∷ []) ∙ ap (λ (xs : List (Option Answer)). xs ++ Some a ∷ []) (k.taken p)
    ∙ ap (λ x. take n replies ++ x ∷ []) (sym (get_or_from_slice_get replies n (Some a) None next))
    ∙ sym (take_more replies n None (slice_get_within replies n (Some a) next)) ∙ ap (λ m. take m replies) (sym (length-append (h.taken p) (a ∷ []))) in
    let list = with_next_same h.taken p a in
    port_changed o h (with_next h.taken p a) p port (after_release port) k was (λ i other. with_next_other h.taken p a i other)
    (subst (λ (xs : List Answer). PortKeeps o h.accepted (h.sent p) xs p (after_release port)) (sym list) (released_keeps o h p port a keeps front))
    (record {
      queue = (k.served p port was).queue;
      filled = λ j e is. (k.served p port was).filled (suc j) e (sym (slice_get-drop 1 port.core.reorder.outstanding j (suc j) (omega arith)) ∙ is);
    })
    (subst (λ (xs : List Answer). map Some xs ≡ take (length xs) replies) (sym list) longer)
    (λ f.
    let none : weigh_waiting f front.entry ≡ 0 = ap (λ (l : Option (List ℕ)). cond (is_none l) (f front.entry.number) 0) front.filled in
    omega (arith, none, sum_dropped (weigh_waiting f) port.core.reorder.outstanding front.entry front.there))

-- End

ended_keeps : (o : Opening) (h : History) (p c : ℕ) (port : PortSide) → PortKeeps o h.accepted (h.sent p) (h.taken p) p port → PortKeeps o h.accepted (h.sent p) (h.taken p) p (after_end c port)
ended_keeps o h p c port k =
    port_with o h.accepted h.accepted (h.sent p) (h.taken p) p port true port.completions (set port.pushed c true) k (length-set port.pushed c true) (λ i is. refl) k.settled k.right

pub end_keeps : (o : Opening) (h : History) (p c : ℕ) (port : PortSide) (side : ChannelSide) → CoreKeeps o h → slice_get h.state.ports p ≡ Some port → slice_get h.state.channels c ≡ Some side
    → CoreKeeps o (record h { state = with_channel c (queued (item.End p) side) (with_port p (after_end c port) h.state) })
end_keeps o h p c port side k was there =
    let first : History = record h { state = with_port p (after_end c port) h.state } in
    let finished : CoreKeeps o first = port_changed o h h.taken p port (after_end c port) k was (λ i other. refl) (ended_keeps o h p c port (k.ports p port was))
    (record { queue = (k.served p port was).queue; filled = (k.served p port was).filled }) (k.taken p) (λ f. refl) in
    queue_changed o first c side (queued (item.End p) side) finished there refl (requests_in-append side.requests (item.End p ∷ []) ∙ append-nil (requests_in side.requests))
