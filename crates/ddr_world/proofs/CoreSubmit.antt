-- What a submitted request keeps of the core.
use Rattle.std.proofs.Common.{◌≡◌, ℕ, zero, suc, ◌+◌, ◌<◌, ◌≤◌, Bool, true, false, not, cond, eqb, List, [], ◌∷◌, ◌++◌, Option, Some, None, IfSome, is_none, map, take, length, set, refl, sym, ap, ap₂, subst, ◌∙◌, inl, inr, arith}
use Rattle.std.specs.List.{sum_by, slice_get, range_with_len}
use Rattle.std.specs.Option.{option_map}
use Rattle.std.proofs.lemmas.Bool.{ne_eqb, eq-eqb, eqb-true, eqb-false, leb-true}
use Rattle.std.proofs.lemmas.List.{length-set, length-map, length-append, length-take, append_assoc, map-append}
use Rattle.circular_buffer.proofs.Places.{slice_get-last}
use Rattle.ddr_timing.specs.declared.config.Config.{Config}
use Rattle.ddr_address_map.specs.Map.{place_of}
use Rattle.ddr_address_map.specs.Requests.{Request}
use Rattle.ddr_channel.proofs.HeldLemmas.{weigh_request, sum_replaced, sum_last}
use Rattle.ddr_reorder.specs.Replies.{Answer}
use Rattle.ddr_reorder.specs.State.{Outstanding, IsWithinLine, issue_refusal}
use Rattle.ddr_ports.specs.Asked.{Asked, echo_of, first_address, len_of, is_within_line}
use Rattle.ddr_ports.specs.State.{refusal_of, request_with, request_at}
use Rattle.ddr_ports.specs.Refusals.{refusal_from}
use Rattle.ddr_ports.specs.declared.refusal.PortError.{PortError}
use Rattle.ddr_ports.specs.declared.refusal.PortError.TheVariants as cause
use Rattle.ddr_world.specs.declared.item.Item.TheVariants as item
use Rattle.ddr_world.specs.History.{Opening, Whereabouts, History, with_next, accept}
use Rattle.ddr_world.specs.Promise.{reply_of, reply_at, replies_of_port}
use Rattle.ddr_world.specs.Served.{WasServed}
use Rattle.ddr_world.specs.State.{PortSide, ChannelSide, State}
use Rattle.ddr_world.specs.Step.{with_port, with_channel, queued, after_submit}
use Rattle.ddr_world.proofs.CoreCounts.{requests_in-append, weigh_waiting}
use Rattle.ddr_world.proofs.CoreFrames.{with_next_other, with_next_same, with_next_grows, before_or_last, channels_after, ports_after, past_other}
use Rattle.ddr_world.proofs.CoreKeeps.{requests_in, IsSettledAt, PortKeeps, PortServed, IsSentBack, IsSent, CoreKeeps, weight, held_in, delivered_in, waiting_in, Grows, grown, grows_by, grows_none, there_still, before_still, take_still, settled_at_still, right_still, replaced_at}
use Rattle.ddr_world.proofs.CoreReplies.{some_of_map}
use Rattle.ddr_world.proofs.CoreServed.{port_served_still, traces_grow}
use Rattle.ddr_world.proofs.LineBytes.{IsPlaced}

-- the request that a port prepared

record Prepared (o : Opening) (sent : List Whereabouts) (p : ℕ) (port : PortSide) (asked : Asked) (r : Request) : Type 0 where
  of_port : r.port ≡ p
  number : r.number ≡ o.number + length sent
  next : r.number ≡ port.core.reorder.next
  echo : r.echo ≡ echo_of asked
  placed : IsPlaced o.config.geometry r.place.channel r
  room : length port.core.reorder.outstanding < port.core.reorder.window

none_free : (a b c d : Bool) (x y z w : PortError) (rest : Option PortError) → cond a (Some x) (cond b (Some y) (cond c (Some z) (cond d (Some w) rest))) ≡ None → (d ≡ false) × (rest ≡ None)
none_free true b c d x y z w rest is = cc
none_free false true c d x y z w rest is = cc
none_free false false true d x y z w rest is = cc
none_free false false false true x y z w rest is = cc
none_free false false false false x y z w rest is = (refl, is)

none_mapped : {X Y : Type 0} (f : X → Y) (o : Option X) → option_map f o ≡ None → o ≡ None
none_mapped f None is = refl
none_mapped f (Some x) is = cc

two_free : {E : Type 0} (a b : Bool) (x y : E) → cond a (Some x) (cond b (Some y) None) ≡ None → b ≡ false
two_free true b x y is = cc
two_free false true x y is = cc
two_free false false x y is = refl

denied : (b : Bool) → not b ≡ false → b ≡ true
denied true is = refl
denied false is = cc

prepared : (o : Opening) (h : History) (p : ℕ) (port : PortSide) (asked : Asked) (r : Request) → PortKeeps o h.accepted (h.sent p) (h.taken p) p port → refusal_of port.core asked ≡ None → request_at port.core asked ≡ Some r
    → Prepared o (h.sent p) p port asked r
prepared o h p port asked r k free made =
    let found = some_of_map (request_with port.core asked) (place_of port.core.geometry (first_address asked)) r made in
    let place = found.0 in
    let is : request_with port.core asked place ≡ r = found.2 in
    let tests = none_free port.core.finished (is_none (place_of port.core.geometry (first_address asked))) (eqb (len_of asked) 0) (not (is_within_line asked)) cause.Finished cause.OutOfRange cause.EmptyLength cause.CrossesLine (option_map refusal_from (issue_refusal port.core.reorder)) free in
    let within = leb-true _ _ (denied (is_within_line asked) tests.0) in
    let issue = none_mapped refusal_from (issue_refusal port.core.reorder) tests.1 in
    let not_full = eqb-false _ _ (two_free _ (eqb (length port.core.reorder.outstanding) port.core.reorder.window) _ _ issue) in
    let port_is : r.port ≡ port.core.port = ap (λ (x : Request). x.port) (sym is) in
    let number_is : r.number ≡ port.core.reorder.next = ap (λ (x : Request). x.number) (sym is) in
    let echo_is : r.echo ≡ echo_of asked = ap (λ (x : Request). x.echo) (sym is) in
    let place_is : r.place ≡ place = ap (λ (x : Request). x.place) (sym is) in
    record {
      of_port = port_is ∙ k.port;
      number = number_is ∙ k.next;
      next = number_is;
      echo = echo_is;
      placed = record {
        placed = ap (λ e. place_of o.config.geometry e.addr) echo_is ∙ ap (λ g. place_of g (first_address asked)) (sym k.geometry) ∙ found.1 ∙ ap Some (sym place_is);
        channel = refl;
        within = subst (λ e. IsWithinLine e) (sym echo_is) within;
      };
      room = omega (arith, k.window, not_full);
    }

-- the port, with one more outstanding number

range-last : (a n : ℕ) → range_with_len a (suc n) ≡ range_with_len a n ++ (a + n) ∷ []
range-last a zero = ap (λ m. m ∷ []) (omega arith)
range-last a (suc n) =
    let far : a + 1 + n ≡ a + suc n = omega arith in
    ap (λ (xs : List ℕ). a ∷ xs) (range-last (a + 1) n ∙ ap (λ m. range_with_len (a + 1) n ++ m ∷ []) far)

abbrev here_at : History → Request → Whereabouts
here_at h r = record { channel = r.place.channel; place = length (h.accepted r.place.channel) }

submitted_keeps : (o : Opening) (h : History) (p : ℕ) (port : PortSide) (asked : Asked) (r : Request) → PortKeeps o h.accepted (h.sent p) (h.taken p) p port → Prepared o (h.sent p) p port asked r
    → PortKeeps o (with_next h.accepted r.place.channel r) (h.sent p ++ here_at h r ∷ []) (h.taken p) p (after_submit asked port)
submitted_keeps o h p port asked r k made =
    let xs = port.core.reorder.outstanding in
    let e : Outstanding = record { number = port.core.reorder.next; echo = echo_of asked; line = None; service = None } in
    let now = with_next h.accepted r.place.channel r in
    let sent = h.sent p ++ here_at h r ∷ [] in
    let more : length sent ≡ length (h.sent p) + 1 = length-append (h.sent p) (here_at h r ∷ []) in
    let longer : length (xs ++ e ∷ []) ≡ length xs + 1 = length-append xs (e ∷ []) in
    let taken = length (h.taken p) in
    let there : slice_get (now r.place.channel) (length (h.accepted r.place.channel)) ≡ Some r =
    ap (λ (rs : List Request). slice_get rs (length (h.accepted r.place.channel))) (with_next_same h.accepted r.place.channel r) ∙ slice_get-last (h.accepted r.place.channel) r (length (h.accepted r.place.channel)) refl in
    let last : IsSettledAt now sent (taken + length xs) e = record {
      at = here_at h r;
      sent_at = slice_get-last (h.sent p) (here_at h r) (taken + length xs) k.counted;
      settled = record { request = r; there = there; echo = sym made.echo; line = tt };
    } in
    let grows = with_next_grows h.accepted r.place.channel r in
    let sent_grows = grown (h.sent p) (here_at h r ∷ []) in
    record {
      port = k.port;
      geometry = k.geometry;
      window = omega (arith, made.room, longer);
      next = omega (arith, k.next, more);
      numbers =
          map-append (λ (x : Outstanding). x.number) xs (e ∷ [])
          ∙ ap₂ (λ (ns : List ℕ) (n : ℕ). ns ++ n ∷ []) k.numbers (let its : port.core.reorder.next ≡ o.number + taken + length xs = omega (arith, k.next, k.counted) in its)
          ∙ sym (range-last (o.number + taken) (length xs)) ∙ ap (range_with_len (o.number + taken)) (let more_by_one : suc (length xs) ≡ length (xs ++ e ∷ []) = omega (arith, longer) in more_by_one);
      accepted_are = omega (arith, k.accepted_are, more);
      taken_are = k.taken_are;
      counted = omega (arith, k.counted, longer, more);
      ends = k.ends;
      ended = k.ended;
      settled = λ j x is. elim (before_or_last xs e x j is) [
        | inl before ↦ settled_at_still h.accepted now (h.sent p) sent (taken + j) x grows sent_grows (k.settled j x before)
        | inr at_end ↦ subst (λ (y : Outstanding). IsSettledAt now sent (taken + j) y) (sym at_end.1) (subst (λ n. IsSettledAt now sent (taken + n) e) (sym at_end.0) last)
      ];
      right = λ j d is. right_still o.number h.accepted now (h.sent p) sent d grows sent_grows (k.right j d is);
    }

submitted_served : (config : Config) (s : State) (port : PortSide) (asked : Asked) → PortServed config s port → PortServed config s (after_submit asked port)
submitted_served config s port asked k =
    let e : Outstanding = record { number = port.core.reorder.next; echo = echo_of asked; line = None; service = None } in
    record {
      queue = k.queue;
      filled = λ j x is. elim (before_or_last port.core.reorder.outstanding e x j is) [
        | inl before ↦ k.filled j x before
        | inr last ↦ subst (λ (y : Outstanding). IfSome y.service (WasServed config s y.echo)) (sym last.1) tt
      ];
    }

-- the requests by their places and by their numbers

sent_back_still : (o : Opening) (h : History) (p c place : ℕ) (r q : Request) → IsSentBack o h.sent c place q → IsSentBack o (with_next h.sent p (here_at h r)) c place q
sent_back_still o h p c place r q s = record {
  placed = s.placed;
  index = s.index;
  number = s.number;
  sent_at = there_still (h.sent q.port) (with_next h.sent p (here_at h r) q.port) s.index (record { channel = c; place = place }) (with_next_grows h.sent p (here_at h r) q.port) s.sent_at;
}

accepted_by : (o : Opening) (h : History) (p : ℕ) (port : PortSide) (asked : Asked) (r : Request) (c place : ℕ) (q : Request) (b : Bool) → CoreKeeps o h → Prepared o (h.sent p) p port asked r → eqb c r.place.channel ≡ b
    → slice_get (cond b (h.accepted c ++ r ∷ []) (h.accepted c)) place ≡ Some q → IsSentBack o (with_next h.sent p (here_at h r)) c place q
accepted_by o h p port asked r c place q false k made test is = sent_back_still o h p c place r q (k.accepted c place q is)
accepted_by o h p port asked r c place q true k made test is = elim (before_or_last (h.accepted c) r q place is) [
  | inl before ↦ sent_back_still o h p c place r q (k.accepted c place q before)
  | inr last ↦ (let channel = eqb-true c r.place.channel test in
      let own : slice_get (with_next h.sent p (here_at h r) p) (length (h.sent p)) ≡ Some (here_at h r) =
      ap (λ (ws : List Whereabouts). slice_get ws (length (h.sent p))) (with_next_same h.sent p (here_at h r)) ∙ slice_get-last (h.sent p) (here_at h r) (length (h.sent p)) refl in
      let back : IsSentBack o (with_next h.sent p (here_at h r)) r.place.channel (length (h.accepted r.place.channel)) r = record {
        placed = made.placed;
        index = length (h.sent p);
        number = made.number;
        sent_at = ap (λ n. slice_get (with_next h.sent p (here_at h r) n) (length (h.sent p))) made.of_port ∙ own;
      } in
      let there : IsSentBack o (with_next h.sent p (here_at h r)) c (length (h.accepted c)) r = subst (λ n. IsSentBack o (with_next h.sent p (here_at h r)) n (length (h.accepted n)) r) (sym channel) back in
      subst (λ (x : Request). IsSentBack o (with_next h.sent p (here_at h r)) c place x) (sym last.1) (subst (λ n. IsSentBack o (with_next h.sent p (here_at h r)) c n r) (sym last.0) there))
]

sent_still : (o : Opening) (h : History) (r : Request) (p k : ℕ) (w : Whereabouts) → IsSent o h.accepted p k w → IsSent o (with_next h.accepted r.place.channel r) p k w
sent_still o h r p k w s = record {
  request = s.request;
  there = there_still (h.accepted w.channel) (with_next h.accepted r.place.channel r w.channel) w.place s.request (with_next_grows h.accepted r.place.channel r w.channel) s.there;
  port = s.port;
  number = s.number;
}

sent_by : (o : Opening) (h : History) (p : ℕ) (port : PortSide) (asked : Asked) (r : Request) (i k : ℕ) (w : Whereabouts) (b : Bool) → CoreKeeps o h → Prepared o (h.sent p) p port asked r → eqb i p ≡ b
    → slice_get (cond b (h.sent i ++ here_at h r ∷ []) (h.sent i)) k ≡ Some w → IsSent o (with_next h.accepted r.place.channel r) i k w
sent_by o h p port asked r i k w false keeps made test is = sent_still o h r i k w (keeps.sent i k w is)
sent_by o h p port asked r i k w true keeps made test is = elim (before_or_last (h.sent i) (here_at h r) w k is) [
  | inl before ↦ sent_still o h r i k w (keeps.sent i k w before)
  | inr last ↦ (let own = eqb-true i p test in
      let there : slice_get (with_next h.accepted r.place.channel r r.place.channel) (length (h.accepted r.place.channel)) ≡ Some r =
      ap (λ (rs : List Request). slice_get rs (length (h.accepted r.place.channel))) (with_next_same h.accepted r.place.channel r) ∙ slice_get-last (h.accepted r.place.channel) r (length (h.accepted r.place.channel)) refl in
      let count : length (h.sent i) ≡ length (h.sent p) = ap (λ n. length (h.sent n)) own in
      let here : IsSent o (with_next h.accepted r.place.channel r) i k (here_at h r) = record { request = r; there = there; port = made.of_port ∙ sym own; number = omega (arith, made.number, last.0, count) } in
      subst (λ (x : Whereabouts). IsSent o (with_next h.accepted r.place.channel r) i k x) (sym last.1) here)
]

-- the replies to earlier requests stay as they were

mapped_alike : {X Y : Type 0} (f g : X → Y) (xs : List X) → ((k : ℕ) (x : X) → slice_get xs k ≡ Some x → f x ≡ g x) → map f xs ≡ map g xs
mapped_alike f g [] same = refl
mapped_alike f g (x ∷ xs) same = ap₂ ◌∷◌ (same 0 x refl) (mapped_alike f g xs (λ k y is. same (suc k) y is))

reply_still : (o : Opening) (h : History) (p i k : ℕ) (r : Request) (w : Whereabouts) → CoreKeeps o h → slice_get (h.sent i) k ≡ Some w → reply_at (accept p h r) w ≡ reply_at h w
reply_still o h p i k r w keeps is =
    let s = keeps.sent i k w is in
    let grows = with_next_grows h.accepted r.place.channel r w.channel in
    ap₂ (λ (rs : List Request) (q : Option Request). option_map (reply_of rs) q)
    (before_still (h.accepted w.channel) (with_next h.accepted r.place.channel r w.channel) w.place s.request grows s.there)
    (there_still (h.accepted w.channel) (with_next h.accepted r.place.channel r w.channel) w.place s.request grows s.there ∙ sym s.there)

taken_within : {X Y : Type 0} (f : X → Y) (xs : List X) (ys : List Y) → map f xs ≡ take (length xs) ys → length xs ≤ length ys
taken_within f xs ys is = omega (arith, sym (length-map xs f) ∙ ap length is, length-take (length xs) ys)

replies_by : (o : Opening) (h : History) (p i : ℕ) (r : Request) (b : Bool) → CoreKeeps o h → Grows (replies_of_port h i) (map (reply_at (accept p h r)) (cond b (h.sent i ++ here_at h r ∷ []) (h.sent i)))
replies_by o h p i r false keeps = grows_none (replies_of_port h i) _ (mapped_alike (reply_at (accept p h r)) (reply_at h) (h.sent i) (λ k w is. reply_still o h p i k r w keeps is))
replies_by o h p i r true keeps =
    grows_by (replies_of_port h i) _ (reply_at (accept p h r) (here_at h r) ∷ [])
    (map-append (reply_at (accept p h r)) (h.sent i) (here_at h r ∷ [])
    ∙ ap (λ (xs : List (Option Answer)). xs ++ reply_at (accept p h r) (here_at h r) ∷ []) (mapped_alike (reply_at (accept p h r)) (reply_at h) (h.sent i) (λ k w is. reply_still o h p i k r w keeps is)))

-- Submit

pub submit_keeps : (o : Opening) (h : History) (p : ℕ) (port : PortSide) (asked : Asked) (r : Request) (side : ChannelSide) → CoreKeeps o h → slice_get h.state.ports p ≡ Some port
    → refusal_of port.core asked ≡ None → request_at port.core asked ≡ Some r → slice_get h.state.channels r.place.channel ≡ Some side
    → CoreKeeps o (record (accept p h r) { state = with_channel r.place.channel (queued (item.Request r) side) (with_port p (after_submit asked port) h.state) })
submit_keeps o h p port asked r side k was free request there =
    let c = r.place.channel in
    let keeps = k.channels c side there in
    let made = prepared o h p port asked r (k.ports p port was) free request in
    let new = queued (item.Request r) side in
    let list : requests_in (side.requests ++ item.Request r ∷ []) ≡ requests_in side.requests ++ r ∷ [] = requests_in-append side.requests (item.Request r ∷ []) in
    let after : (f : ℕ → ℕ) (i : ℕ) → sum_by (held_in f i) (set h.state.channels c new) ≡ sum_by (held_in f i) h.state.channels + weight f i r.port r.number =
    λ f i. omega (arith, sum_replaced (held_in f i) h.state.channels c side new there, ap (sum_by (weigh_request (weight f i))) list, sum_last (weigh_request (weight f i)) (requests_in side.requests) r) in
    let e : Outstanding = record { number = port.core.reorder.next; echo = echo_of asked; line = None; service = None } in
    record {
      channels = channels_after o h h.admitted (with_next h.accepted c r) c side new k there (λ i other. (refl, with_next_other h.accepted c r i other))
          (record {
            calls = keeps.calls;
            calls_are = keeps.calls_are;
            state = keeps.state;
            admitted_are = keeps.admitted_are;
            accepted_are = ap (λ (rs : List Request). h.admitted c ++ rs) list ∙ sym (append_assoc (h.admitted c) (requests_in side.requests) (r ∷ []))
                ∙ ap (λ (rs : List Request). rs ++ r ∷ []) keeps.accepted_are ∙ sym (with_next_same h.accepted c r);
          });
      ports = ports_after o h (with_next h.accepted c r) (with_next h.sent p (here_at h r)) h.taken p port (after_submit asked port) k was (with_next_grows h.accepted c r)
          (λ i other. (with_next_other h.sent p (here_at h r) i other, refl))
          (subst (λ (ws : List Whereabouts). PortKeeps o (with_next h.accepted c r) ws (h.taken p) p (after_submit asked port)) (sym (with_next_same h.sent p (here_at h r))) (submitted_keeps o h p port asked r (k.ports p port was) made));
      accepted = λ i place q is. accepted_by o h p port asked r i place q (eqb i c) k made refl is;
      sent = λ i n w is. sent_by o h p port asked r i n w (eqb i p) k made refl is;
      taken = λ i. k.taken i ∙ sym (take_still (replies_of_port h i) _ (length (h.taken i)) (replies_by o h p i r (eqb i p) k) (taken_within Some (h.taken i) (replies_of_port h i) (k.taken i)));
      held = λ f i x is. elim (replaced_at h.state.ports p i port (after_submit asked port) x was is) [
        | inl here ↦ (let weighs : weight f i r.port r.number ≡ f port.core.reorder.next =
            ap (λ b. cond b (f r.number) 0) (eq-eqb r.port i (made.of_port ∙ sym here.0)) ∙ ap f made.next in
            let old : sum_by (held_in f i) h.state.channels + delivered_in f port ≡ waiting_in f port = k.held f i port (ap (slice_get h.state.ports) here.0 ∙ was) in
            let both : sum_by (held_in f i) (set h.state.channels c new) + delivered_in f (after_submit asked port) ≡ waiting_in f (after_submit asked port) =
            omega (arith, after f i, weighs, old, sum_last (weigh_waiting f) port.core.reorder.outstanding e) in
            ap (λ (s : PortSide). sum_by (held_in f i) (set h.state.channels c new) + delivered_in f s) here.1 ∙ both ∙ ap (waiting_in f) (sym here.1))
        | inr other ↦ (let weighs : weight f i r.port r.number ≡ 0 = ap (λ b. cond b (f r.number) 0) (ne_eqb r.port i (λ same. other.0 (sym same ∙ made.of_port))) in
            omega (arith, after f i, weighs, k.held f i x other.1))
      ];
      served = λ i x is.
          port_served_still o.config h.state (with_channel c new (with_port p (after_submit asked port) h.state)) x
          (traces_grow h.state c side new there (grows_none side.channel.trace side.channel.trace refl)) (elim (replaced_at h.state.ports p i port (after_submit asked port) x was is) [
            | inl here ↦ subst (λ (y : PortSide). PortServed o.config h.state y) (sym here.1) (submitted_served o.config h.state port asked (k.served p port was))
            | inr other ↦ k.served i x other.1
          ]);
      channels_are = length-set h.state.channels c new ∙ k.channels_are;
      no_port = λ i past.
          let past' : length h.state.ports ≤ i = omega (arith, past, length-set h.state.ports p (after_submit asked port)) in
          let none = k.no_port i past' in
          (with_next_other h.sent p (here_at h r) i (past_other h.state.ports p i port was past') ∙ none.0, none.1);
      no_channel = λ i past.
          let past' : length h.state.channels ≤ i = omega (arith, past, length-set h.state.channels c new) in
          let none = k.no_channel i past' in
          (with_next_other h.accepted c r i (past_other h.state.channels c i side there past') ∙ none.0, none.1);
    }
