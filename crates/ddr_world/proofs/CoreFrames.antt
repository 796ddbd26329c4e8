-- Events that change one channel alone, or one port alone.
use Rattle.std.proofs.Common.{◌≡◌, ◌≢◌, ℕ, zero, suc, ◌+◌, ◌≤◌, ◌⊎◌, Bool, true, false, cond, eqb, List, [], ◌∷◌, ◌++◌, Option, Some, None, map, take, drop, length, set, refl, sym, ap, ap₂, subst, ◌∙◌, inl, inr, arith}
use Rattle.std.specs.List.{sum_by, slice_get}
use Rattle.std.proofs.lemmas.Bool.{ne_eqb, eq-eqb, eqb-true, eqb-false}
use Rattle.std.proofs.lemmas.List.{length-set, append_assoc}
use Rattle.std.proofs.lemmas.List.Sums.{fold-append}
use Rattle.std.proofs.lemmas.Option.{slice_get_within}
use Rattle.ddr_timing.specs.declared.units.TheConstants.{CLOCK_STOP}
use Rattle.ddr_timing.specs.declared.config.Config.{Config}
use Rattle.ddr_address_map.specs.declared.request.Kind.TheVariants.{Read, Write}
use Rattle.ddr_address_map.specs.Map.{in_range}
use Rattle.ddr_address_map.specs.Requests.{Request}
use Rattle.ddr_reorder.specs.Replies.{Answer}
use Rattle.ddr_channel.specs.Choice.{choice_of}
use Rattle.ddr_channel.specs.Cycle.{at_choice, after_cycle}
use Rattle.ddr_channel.specs.History as channel
use Rattle.ddr_channel.specs.History.{Call, Admit, Cycle, Pop, begun, after_call, with_owner}
use Rattle.ddr_channel.specs.Promise.{MayCall}
use Rattle.ddr_channel.specs.State as channel_state
use Rattle.ddr_channel.specs.State.{after_admit, after_pop, is_queue_full}
use Rattle.ddr_channel.proofs.HeldLemmas.{weigh_request, held, held_cycle, sum_replaced}
use Rattle.ddr_channel.proofs.ListLemmas.{All-last}
use Rattle.ddr_channel.proofs.StandsLemmas.{cycle_accepted}
use Rattle.ddr_channel.proofs.ToldLemmas.{told_traced}
use Rattle.ddr_channel.specs.declared.issued.Issued.{Issued}
use Rattle.ddr_channel.specs.Told.{issued_in, with_issued}
use Rattle.ddr_trace.specs.declared.command.Entry.{Entry}
use Rattle.ddr_world.specs.declared.item.Item.{Item}
use Rattle.ddr_world.specs.declared.item.Item.TheVariants as item
use Rattle.ddr_world.specs.History.{Opening, Whereabouts, History, with_next}
use Rattle.ddr_world.specs.Promise.{replies_of_port, trace_at}
use Rattle.ddr_world.specs.State.{PortSide, ChannelSide}
use Rattle.ddr_world.specs.Step.{with_port, with_channel, after_take, sent}
use Rattle.ddr_world.proofs.CoreKeeps.{requests_in, ChannelKeeps, PortKeeps, PortServed, CoreKeeps, weight, held_in, delivered_in, waiting_in, Grows, grows_by, grows_none, grown, port_still, replaced_at}
use Rattle.ddr_world.proofs.CoreServed.{port_served_still, traces_grow}
use Rattle.ddr_world.proofs.SideLemmas.{free_kind}

-- lists with one more

pub with_next_other : {X : Type 0} (lists : ℕ → List X) (at : ℕ) (x : X) (i : ℕ) → i ≢ at → with_next lists at x i ≡ lists i
with_next_other lists at x i other = ap (λ b. cond b (lists i ++ x ∷ []) (lists i)) (ne_eqb i at other)

pub with_next_same : {X : Type 0} (lists : ℕ → List X) (at : ℕ) (x : X) → with_next lists at x at ≡ lists at ++ x ∷ []
with_next_same lists at x = ap (λ b. cond b (lists at ++ x ∷ []) (lists at)) (eq-eqb at at refl)

next_grows : {X : Type 0} (b : Bool) (xs : List X) (x : X) → Grows xs (cond b (xs ++ x ∷ []) xs)
next_grows true xs x = grown xs (x ∷ [])
next_grows false xs x = grows_none xs xs refl

pub with_next_grows : {X : Type 0} (lists : ℕ → List X) (at : ℕ) (x : X) (i : ℕ) → Grows (lists i) (with_next lists at x i)
with_next_grows lists at x i = next_grows (eqb i at) (lists i) x

-- an element of a list with one more
pub before_or_last : {X : Type 0} (xs : List X) (x y : X) (i : ℕ) → slice_get (xs ++ x ∷ []) i ≡ Some y → (slice_get xs i ≡ Some y) ⊎ ((i ≡ length xs) × (y ≡ x))
before_or_last [] x y zero is = let same : y ≡ x = cc in inr (refl, same)
before_or_last [] x y (suc i) is = cc
before_or_last (z ∷ zs) x y zero is = inl is
before_or_last (z ∷ zs) x y (suc i) is = elim (before_or_last zs x y i is) [ inl before ↦ inl before | inr last ↦ inr (ap suc last.0, last.1) ]

-- a channel after one more call

run_more : (config : Config) (start : ℕ) (calls : List Call) (call : Call) → channel.run config start (calls ++ call ∷ []) ≡ after_call (channel.run config start calls) call
run_more config start calls call = fold-append after_call (begun config start) calls (call ∷ [])

pub called : (o : Opening) (admitted admitted' accepted : List Request) (old new : ChannelSide) (call : Call) → (k : ChannelKeeps o admitted accepted old) → MayCall o.config call
    → new.channel ≡ (after_call (channel.run o.config o.cycle k.calls) call).state → (after_call (channel.run o.config o.cycle k.calls) call).accepted ≡ admitted' → admitted' ++ requests_in new.requests ≡ accepted
    → ChannelKeeps o admitted' accepted new
called o admitted admitted' accepted old new call k may state admitted_are accepted_are = record {
  calls = k.calls ++ call ∷ [];
  calls_are = All-last (MayCall o.config) k.calls call k.calls_are may;
  state = state ∙ ap (λ (h : channel.History). h.state) (sym (run_more o.config o.cycle k.calls call));
  admitted_are = ap (λ (h : channel.History). h.accepted) (run_more o.config o.cycle k.calls call) ∙ admitted_are;
  accepted_are = accepted_are;
}

other_state : (b : Bool) (x y : channel.History) → b ≡ false → (cond b x y).state ≡ y.state
other_state b x y e = ap (λ t. (cond t x y).state) e

other_accepted : (b : Bool) (x y : channel.History) → b ≡ false → (cond b x y).accepted ≡ y.accepted
other_accepted b x y e = ap (λ t. (cond t x y).accepted) e

pub cycled_keeps : (o : Opening) (admitted accepted : List Request) (side : ChannelSide) → eqb side.channel.now CLOCK_STOP ≡ false → ChannelKeeps o admitted accepted side
    → ChannelKeeps o admitted accepted (record side { channel = after_cycle side.channel })
cycled_keeps o admitted accepted side clock k =
    let h = channel.run o.config o.cycle k.calls in
    let clock' : eqb h.state.now CLOCK_STOP ≡ false = ap (λ (s : channel_state.State). eqb s.now CLOCK_STOP) (sym k.state) ∙ clock in
    called o admitted admitted accepted side (record side { channel = after_cycle side.channel }) Cycle k tt
    (ap after_cycle k.state ∙ sym (other_state (eqb h.state.now CLOCK_STOP) h (record (with_owner (choice_of (at_choice h.state)) h) { state = after_cycle h.state }) clock'))
    (cycle_accepted h ∙ k.admitted_are)
    k.accepted_are

pub popped_keeps : (o : Opening) (admitted accepted : List Request) (side : ChannelSide) → ChannelKeeps o admitted accepted side → ChannelKeeps o admitted accepted (sent side)
popped_keeps o admitted accepted side k = called o admitted admitted accepted side (sent side) Pop k tt (ap after_pop k.state) k.admitted_are k.accepted_are

pub admitted_keeps : (o : Opening) (admitted accepted : List Request) (side : ChannelSide) (r : Request) (rest : List Item) → side.requests ≡ item.Request r ∷ rest
    → (is_queue_full side.channel Read ≡ false) × (is_queue_full side.channel Write ≡ false) → in_range o.config.geometry r.place ≡ true → ChannelKeeps o admitted accepted side
    → ChannelKeeps o (admitted ++ r ∷ []) accepted (after_take (item.Request r) side)
admitted_keeps o admitted accepted side r rest items free served k =
    let h = channel.run o.config o.cycle k.calls in
    let room : is_queue_full h.state r.echo.kind ≡ false = ap (λ (s : channel_state.State). is_queue_full s r.echo.kind) (sym k.state) ∙ free_kind side.channel r.echo.kind free in
    called o admitted (admitted ++ r ∷ []) accepted side (after_take (item.Request r) side) (Admit r) k served
    (ap (after_admit r) k.state ∙ sym (other_state (is_queue_full h.state r.echo.kind) h _ room))
    (other_accepted (is_queue_full h.state r.echo.kind) h _ room ∙ ap (λ (rs : List Request). rs ++ r ∷ []) k.admitted_are)
    (append_assoc admitted (r ∷ []) (requests_in (drop 1 side.requests)) ∙ ap (λ (its : List Item). admitted ++ (r ∷ requests_in (drop 1 its))) items
    ∙ ap (λ (its : List Item). admitted ++ requests_in its) (sym items) ∙ k.accepted_are)

-- one channel alone

sum_same : (f : ℕ → ℕ) (p : ℕ) (sides : List ChannelSide) (c : ℕ) (old new : ChannelSide) → slice_get sides c ≡ Some old → held_in f p new ≡ held_in f p old
    → sum_by (held_in f p) (set sides c new) ≡ sum_by (held_in f p) sides
sum_same f p sides c old new is same = omega (arith, sum_replaced (held_in f p) sides c old new is, same)

pub channels_after : (o : Opening) (h : History) (admitted accepted : ℕ → List Request) (c : ℕ) (old new : ChannelSide) → CoreKeeps o h → slice_get h.state.channels c ≡ Some old
    → ((i : ℕ) → i ≢ c → (admitted i ≡ h.admitted i) × (accepted i ≡ h.accepted i)) → ChannelKeeps o (admitted c) (accepted c) new
    → (i : ℕ) (side : ChannelSide) → slice_get (set h.state.channels c new) i ≡ Some side → ChannelKeeps o (admitted i) (accepted i) side
channels_after o h admitted accepted c old new k was others keeps i side is = elim (replaced_at h.state.channels c i old new side was is) [
  | inl same ↦ (let here : ChannelKeeps o (admitted i) (accepted i) new = subst (λ n. ChannelKeeps o (admitted n) (accepted n) new) (sym same.0) keeps in
      subst (λ (s : ChannelSide). ChannelKeeps o (admitted i) (accepted i) s) (sym same.1) here)
  | inr other ↦ (let lists = others i other.0 in
      subst (λ (xs : List Request). ChannelKeeps o xs (accepted i) side) (sym lists.0)
      (subst (λ (xs : List Request). ChannelKeeps o (h.admitted i) xs side) (sym lists.1) (k.channels i side other.1)))
]

pub ports_after : (o : Opening) (h : History) (accepted : ℕ → List Request) (sent : ℕ → List Whereabouts) (taken : ℕ → List Answer) (p : ℕ) (old new : PortSide) → CoreKeeps o h → slice_get h.state.ports p ≡ Some old
    → ((c : ℕ) → Grows (h.accepted c) (accepted c)) → ((i : ℕ) → i ≢ p → (sent i ≡ h.sent i) × (taken i ≡ h.taken i)) → PortKeeps o accepted (sent p) (taken p) p new
    → (i : ℕ) (side : PortSide) → slice_get (set h.state.ports p new) i ≡ Some side → PortKeeps o accepted (sent i) (taken i) i side
ports_after o h accepted sent taken p old new k was grows others keeps i side is = elim (replaced_at h.state.ports p i old new side was is) [
  | inl same ↦ (let here : PortKeeps o accepted (sent i) (taken i) i new = subst (λ n. PortKeeps o accepted (sent n) (taken n) n new) (sym same.0) keeps in
      subst (λ (s : PortSide). PortKeeps o accepted (sent i) (taken i) i s) (sym same.1) here)
  | inr other ↦ (let lists = others i other.0 in
      let here = port_still o h.accepted accepted (h.sent i) (h.taken i) i side grows (k.ports i side other.1) in
      subst (λ (xs : List Whereabouts). PortKeeps o accepted xs (taken i) i side) (sym lists.0)
      (subst (λ (xs : List Answer). PortKeeps o accepted (h.sent i) xs i side) (sym lists.1) here))
]

pub past_other : {X : Type 0} (xs : List X) (c i : ℕ) (x : X) → slice_get xs c ≡ Some x → length xs ≤ i → i ≢ c
past_other xs c i x is past = λ same. absurd (omega (arith, slice_get_within xs c x is, past, same))

pub channel_changed : (o : Opening) (h : History) (admitted : ℕ → List Request) (c : ℕ) (old new : ChannelSide) → CoreKeeps o h → slice_get h.state.channels c ≡ Some old
    → ((i : ℕ) → i ≢ c → admitted i ≡ h.admitted i) → ChannelKeeps o (admitted c) (h.accepted c) new → Grows old.channel.trace new.channel.trace
    → ((f : ℕ → ℕ) (p : ℕ) → held_in f p new ≡ held_in f p old)
    → CoreKeeps o (record h { state = with_channel c new h.state; admitted = admitted })
channel_changed o h admitted c old new k was others keeps longer same = record {
  channels = channels_after o h admitted h.accepted c old new k was (λ i other. (others i other, refl)) keeps;
  ports = k.ports;
  accepted = k.accepted;
  sent = k.sent;
  taken = k.taken;
  held = λ f p side is. ap (λ n. n + delivered_in f side) (sum_same f p h.state.channels c old new was (same f p)) ∙ k.held f p side is;
  served = λ p side is. port_served_still o.config h.state (with_channel c new h.state) side (traces_grow h.state c old new was longer) (k.served p side is);
  channels_are = length-set h.state.channels c new ∙ k.channels_are;
  no_port = k.no_port;
  no_channel = λ i past.
      let past' : length h.state.channels ≤ i = omega (arith, past, length-set h.state.channels c new) in
      let none = k.no_channel i past' in
      (none.0, others i (past_other h.state.channels c i old was past') ∙ none.1);
}

-- of the channel no more changes than its queue and the Ends that it noted, and the queue has the same requests
pub queue_changed : (o : Opening) (h : History) (c : ℕ) (old new : ChannelSide) → CoreKeeps o h → slice_get h.state.channels c ≡ Some old → new.channel ≡ old.channel → requests_in new.requests ≡ requests_in old.requests
    → CoreKeeps o (record h { state = with_channel c new h.state })
queue_changed o h c old new k was same requests =
    let keeps = k.channels c old was in
    channel_changed o h h.admitted c old new k was (λ i other. refl)
    (record {
      calls = keeps.calls;
      calls_are = keeps.calls_are;
      state = same ∙ keeps.state;
      admitted_are = keeps.admitted_are;
      accepted_are = ap (λ (rs : List Request). h.admitted c ++ rs) requests ∙ keeps.accepted_are;
    })
    (grows_none old.channel.trace new.channel.trace (ap (λ (s : channel_state.State). s.trace) same))
    (λ f p. ap₂ (λ (rs : List Request) (s : channel_state.State). sum_by (weigh_request (weight f p)) rs + held (weight f p) s) requests same)

-- one port alone

pub port_changed : (o : Opening) (h : History) (taken : ℕ → List Answer) (p : ℕ) (old new : PortSide) → CoreKeeps o h → slice_get h.state.ports p ≡ Some old
    → ((i : ℕ) → i ≢ p → taken i ≡ h.taken i) → PortKeeps o h.accepted (h.sent p) (taken p) p new → PortServed o.config h.state new → map Some (taken p) ≡ take (length (taken p)) (replies_of_port h p)
    → ((f : ℕ → ℕ) → delivered_in f new + waiting_in f old ≡ delivered_in f old + waiting_in f new)
    → CoreKeeps o (record h { state = with_port p new h.state; taken = taken })
port_changed o h taken p old new k was others keeps told prefix same = record {
  channels = k.channels;
  ports = ports_after o h h.accepted h.sent taken p old new k was (λ c. grows_none (h.accepted c) (h.accepted c) refl) (λ i other. (refl, others i other)) keeps;
  accepted = k.accepted;
  sent = k.sent;
  taken = λ i. by_port i (eqb i p) refl;
  held = λ f i side is. elim (replaced_at h.state.ports p i old new side was is) [
    | inl here ↦ (let before = k.held f p old was in
        let after : sum_by (held_in f p) h.state.channels + delivered_in f new ≡ waiting_in f new = omega (arith, before, same f) in
        ap₂ (λ (n : ℕ) (s : PortSide). sum_by (held_in f n) h.state.channels + delivered_in f s) here.0 here.1 ∙ after ∙ ap (waiting_in f) (sym here.1))
    | inr there ↦ k.held f i side there.1
  ];
  served = λ i side is.
      port_served_still o.config h.state (with_port p new h.state) side (λ c. grows_none (trace_at h.state c) (trace_at h.state c) refl) (elim (replaced_at h.state.ports p i old new side was is) [
        | inl here ↦ subst (λ (s : PortSide). PortServed o.config h.state s) (sym here.1) told
        | inr there ↦ k.served i side there.1
      ]);
  channels_are = k.channels_are;
  no_port = λ i past.
      let past' : length h.state.ports ≤ i = omega (arith, past, length-set h.state.ports p new) in
      let none = k.no_port i past' in
      (none.0, others i (past_other h.state.ports p i old was past') ∙ none.1);
  no_channel = k.no_channel;
}
  where
    by_port : (i : ℕ) (b : Bool) → eqb i p ≡ b → map Some (taken i) ≡ take (length (taken i)) (replies_of_port h i)
    by_port i true test = subst (λ n. map Some (taken n) ≡ take (length (taken n)) (replies_of_port h n)) (sym (eqb-true i p test)) prefix
    by_port i false test =
        let other = others i (eqb-false i p test) in
        subst (λ (xs : List Answer). map Some xs ≡ take (length xs) (replies_of_port h i)) (sym other) (k.taken i)

trace_longer : (o : Option Issued) (before after : List Entry) → after ≡ with_issued o before → Grows before after
trace_longer None before after is = grows_none before after is
trace_longer (Some i) before after is = grows_by before after (i.entry ∷ []) is

-- the channel makes a cycle
pub cycle_keeps : (o : Opening) (h : History) (c : ℕ) (side : ChannelSide) → CoreKeeps o h → slice_get h.state.channels c ≡ Some side → eqb side.channel.now CLOCK_STOP ≡ false
    → CoreKeeps o (record h { state = with_channel c (record side { channel = after_cycle side.channel }) h.state })
cycle_keeps o h c side k was clock =
    channel_changed o h h.admitted c side (record side { channel = after_cycle side.channel }) k was (λ i other. refl) (cycled_keeps o (h.admitted c) (h.accepted c) side clock (k.channels c side was))
    (trace_longer (issued_in side.channel) side.channel.trace (after_cycle side.channel).trace (told_traced side.channel))
    (λ f p. ap (λ n. sum_by (weigh_request (weight f p)) (requests_in side.requests) + n) (held_cycle (weight f p) side.channel))
