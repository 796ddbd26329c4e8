-- Where no number is outstanding, of the requests nothing is left on the way.
use Rattle.std.proofs.Common.{◌≡◌, ℕ, zero, suc, ◌≤◌, Bool, true, false, cond, eqb, List, [], ◌∷◌, ◌++◌, Some, None, All, is_none, map, drop, length, get_or, refl, ap, ◌∙◌, inl, inr, arith}
use Rattle.std.specs.List.{fold, sum_by, slice_get}
use Rattle.std.proofs.lemmas.Bool.{eq-eqb}
use Rattle.std.proofs.lemmas.Bool.Decides.{eqb_tells}
use Rattle.std.proofs.lemmas.List.{map-append}
use Rattle.std.proofs.lemmas.List.Sums.{count_by-le-length, sum_by-append, sum_by-cons}
use Rattle.std.proofs.lemmas.Option.{slice_get-get_or}
use Rattle.circular_buffer.proofs.Places.{below_or_not, slice_get-some}
use Rattle.ddr_timing.specs.declared.units.TheConstants.{CLOCK_STOP}
use Rattle.ddr_address_map.specs.Requests.{Request, Completion}
use Rattle.ddr_channel.specs.Choice.{choice_of}
use Rattle.ddr_channel.specs.Cycle.{at_choice, after_cycle}
use Rattle.ddr_channel.specs.History as channel
use Rattle.ddr_channel.specs.History.{Call, Admit, Cycle, Pop, after_call, with_owner}
use Rattle.ddr_channel.specs.Promise.{requests_of}
use Rattle.ddr_channel.specs.State as channel_state
use Rattle.ddr_channel.specs.State.{after_admit, is_queue_full}
use Rattle.ddr_channel.proofs.HeldLemmas.{weigh_request, weigh_done, held, held_cycle, part_of_sum, sum_last}
use Rattle.ddr_channel.proofs.ListLemmas.{All-at}
use Rattle.ddr_channel.proofs.StandsLemmas.{cycle_accepted}
use Rattle.ddr_reorder.specs.State.{Outstanding}
use Rattle.ddr_world.specs.declared.item.Item.{Item}
use Rattle.ddr_world.specs.declared.item.Item.TheVariants as item
use Rattle.ddr_world.specs.History.{Opening, Whereabouts, History}
use Rattle.ddr_world.specs.Promise.{IsIdle, IsServedOut}
use Rattle.ddr_world.specs.State.{PortSide, ChannelSide}
use Rattle.ddr_world.proofs.CoreCounts.{sum_ones}
use Rattle.ddr_world.proofs.CoreKeeps.{requests_in, ChannelKeeps, CoreKeeps, weight, held_in}

-- each number counts one
abbrev one : ℕ → ℕ
one n = 1

pub empty_list : {X : Type 0} (xs : List X) → length xs ≡ 0 → xs ≡ []
empty_list [] none = refl
empty_list (x ∷ xs) none = absurd (omega (arith, none))

-- what a channel holds it has admitted

sum_dropped : {X : Type 0} (f : X → ℕ) (xs : List X) → sum_by f (drop 1 xs) ≤ sum_by f xs
sum_dropped f [] = omega arith
sum_dropped f (x ∷ xs) = omega (arith, sum_by-cons f x xs)

admitted_held : (weigh : ℕ → ℕ → ℕ) (h : channel.History) (r : Request) → held weigh h.state ≤ sum_by (weigh_request weigh) h.accepted
    → held weigh (after_admit r h.state) ≤ sum_by (weigh_request weigh) (h.accepted ++ r ∷ [])
admitted_held weigh h r within =
    let pending = ap (sum_by (weigh_request weigh)) (map-append (λ w. w.request) h.state.pending (record { request = r; admitted = h.state.now } ∷ [])) in
    let last = sum_last (weigh_request weigh) (requests_of h.state.pending) r in
    let list = sum_last (weigh_request weigh) h.accepted r in
    omega (arith, within, pending, last, list)

abbrev HoldsAdmitted : (ℕ → ℕ → ℕ) → channel.History → Type 0
HoldsAdmitted weigh h = held weigh h.state ≤ sum_by (weigh_request weigh) h.accepted

either_holds : (weigh : ℕ → ℕ → ℕ) (b : Bool) (x y : channel.History) → HoldsAdmitted weigh x → HoldsAdmitted weigh y → HoldsAdmitted weigh (cond b x y)
either_holds weigh true x y p q = p
either_holds weigh false x y p q = q

cycled_state : (b : Bool) (x y : channel.History) (weigh : ℕ → ℕ → ℕ) → held weigh y.state ≡ held weigh x.state → held weigh (cond b x y).state ≡ held weigh x.state
cycled_state true x y weigh same = refl
cycled_state false x y weigh same = same

called_held : (weigh : ℕ → ℕ → ℕ) (h : channel.History) (call : Call) → HoldsAdmitted weigh h → HoldsAdmitted weigh (after_call h call)
called_held weigh h (Admit r) within = either_holds weigh (is_queue_full h.state r.echo.kind) h _ within (admitted_held weigh h r within)
called_held weigh h Cycle within =
    let next : channel.History = record (with_owner (choice_of (at_choice h.state)) h) { state = after_cycle h.state } in
    let same = cycled_state (eqb h.state.now CLOCK_STOP) h next weigh (held_cycle weigh h.state) in
    let list = ap (sum_by (weigh_request weigh)) (cycle_accepted h) in
    omega (arith, within, same, list)
called_held weigh h Pop within = let dropped = sum_dropped (weigh_done weigh) h.state.done in omega (arith, within, dropped)

calls_held : (weigh : ℕ → ℕ → ℕ) (h : channel.History) (calls : List Call) → HoldsAdmitted weigh h → HoldsAdmitted weigh (fold after_call h calls)
calls_held weigh h [] within = within
calls_held weigh h (call ∷ calls) within = calls_held weigh (after_call h call) calls (called_held weigh h call within)

-- so what is in a channel or its queue stands in its acceptance list
held_accepted : (o : Opening) (f : ℕ → ℕ) (p : ℕ) (admitted accepted : List Request) (side : ChannelSide) → ChannelKeeps o admitted accepted side → held_in f p side ≤ sum_by (weigh_request (weight f p)) accepted
held_accepted o f p admitted accepted side k =
    let weigh = weight f p in
    let h = channel.run o.config o.cycle k.calls in
    let within : held weigh h.state ≤ sum_by (weigh_request weigh) h.accepted = calls_held weigh (channel.begun o.config o.cycle) k.calls (omega arith) in
    let here : held weigh side.channel ≡ held weigh h.state = ap (λ (s : channel_state.State). held weigh s) k.state in
    let front : sum_by (weigh_request weigh) h.accepted ≡ sum_by (weigh_request weigh) admitted = ap (sum_by (weigh_request weigh)) k.admitted_are in
    let list : sum_by (weigh_request weigh) (admitted ++ requests_in side.requests) ≡ sum_by (weigh_request weigh) accepted = ap (sum_by (weigh_request weigh)) k.accepted_are in
    let parts = sum_by-append (weigh_request weigh) admitted (requests_in side.requests) in
    omega (arith, within, here, front, list, parts)

-- of each port nothing is held

sum_zero : {X : Type 0} (f : X → ℕ) (xs : List X) → ((i : ℕ) (x : X) → slice_get xs i ≡ Some x → f x ≡ 0) → sum_by f xs ≡ 0
sum_zero f [] none = refl
sum_zero f (x ∷ xs) none = omega (arith, sum_by-cons f x xs, none 0 x refl, sum_zero f xs (λ i y there. none (suc i) y there))

-- a port that sent none
none_sent : (o : Opening) (h : History) (c p : ℕ) → CoreKeeps o h → h.sent p ≡ [] → sum_by (weigh_request (weight one p)) (h.accepted c) ≡ 0
none_sent o h c p k none = sum_zero (weigh_request (weight one p)) (h.accepted c) (λ i r there. elim (eqb_tells r.port p) [
  | inl same ↦ absurd (let back = k.accepted c i r there in
      let gone : slice_get (h.sent r.port) back.index ≡ None = ap (λ q. slice_get (h.sent q) back.index) same.1 ∙ ap (λ (ws : List Whereabouts). slice_get ws back.index) none in
      let here = back.sent_at in
      cc)
  | inr other ↦ ap (λ b. cond b 1 0) other.0
])

none_held : (o : Opening) (h : History) (c p : ℕ) (side : ChannelSide) → CoreKeeps o h → All (λ (port : PortSide). length port.core.reorder.outstanding ≡ 0) h.state.ports → slice_get h.state.channels c ≡ Some side
    → held_in one p side ≡ 0
none_held o h c p side k idle was = elim (below_or_not p (length h.state.ports)) [
  | inl within ↦ (let port = slice_get-some h.state.ports p within in
      let sums = k.held one p port.0 port.1 in
      let own : held_in one p side ≤ sum_by (held_in one p) h.state.channels = part_of_sum (held_in one p) h.state.channels c side was in
      let waiting : sum_by (λ (e : Outstanding). cond (is_none e.line) 1 0) port.0.core.reorder.outstanding ≤ length port.0.core.reorder.outstanding = count_by-le-length (λ (e : Outstanding). is_none e.line) port.0.core.reorder.outstanding in
      let none = All-at (λ (x : PortSide). length x.core.reorder.outstanding ≡ 0) h.state.ports p port.0 idle port.1 in
      omega (arith, sums, own, waiting, none))
  | inr past ↦ (let none = none_sent o h c p k (k.no_port p past).0 in
      let own = held_accepted o one p (h.admitted c) (h.accepted c) side (k.channels c side was) in
      omega (arith, none, own))
]

-- where each port's part weighs nothing there is nothing

weighs_one : (p n : ℕ) → weight one p p n ≡ 1
weighs_one p n = ap (λ b. cond b 1 0) (eq-eqb p p refl)

no_requests : (rs : List Request) → ((p : ℕ) → sum_by (weigh_request (weight one p)) rs ≡ 0) → rs ≡ []
no_requests [] none = refl
no_requests (r ∷ rs) none = absurd (omega (arith, none r.port, sum_by-cons (weigh_request (weight one r.port)) r rs, weighs_one r.port r.number))

no_completions : (ds : List Completion) → ((p : ℕ) → sum_by (weigh_done (weight one p)) ds ≡ 0) → ds ≡ []
no_completions [] none = refl
no_completions (d ∷ ds) none = absurd (omega (arith, none d.port, sum_by-cons (weigh_done (weight one d.port)) d ds, weighs_one d.port d.number))

none_mapped : {X Y : Type 0} (f : X → Y) (xs : List X) → map f xs ≡ [] → xs ≡ []
none_mapped f [] none = refl
none_mapped f (x ∷ xs) none = absurd (let impossible = none in cc)

only_ends : (items : List Item) (i : ℕ) (r : Request) → requests_in items ≡ [] → slice_get items i ≡ Some (item.Request r) → ⊥
only_ends [] i r none there = let impossible = there in cc
only_ends (item.Request x ∷ items) i r none there = let impossible = none in cc
only_ends (item.End p ∷ items) zero r none there = let impossible = there in cc
only_ends (item.End p ∷ items) (suc i) r none there = only_ends items i r none there

side_idle : (o : Opening) (h : History) (c : ℕ) (side : ChannelSide) → CoreKeeps o h → All (λ (port : PortSide). length port.core.reorder.outstanding ≡ 0) h.state.ports → slice_get h.state.channels c ≡ Some side → IsServedOut side
side_idle o h c side k idle was =
    let none = λ (p : ℕ). none_held o h c p side k idle was in
    record {
      requests = λ i r there. only_ends side.requests i r (no_requests (requests_in side.requests) (λ p. omega (arith, none p))) there;
      pending = none_mapped (λ w. w.request) side.channel.pending (no_requests (requests_of side.channel.pending) (λ p. omega (arith, none p)));
      flight = no_completions side.channel.flight (λ p. omega (arith, none p));
      done = no_completions side.channel.done (λ p. omega (arith, none p));
    }

port_idle : (o : Opening) (h : History) (p : ℕ) (port : PortSide) → CoreKeeps o h → length port.core.reorder.outstanding ≡ 0 → slice_get h.state.ports p ≡ Some port → port.completions ≡ []
port_idle o h p port k none there =
    let sums = k.held one p port there in
    let waiting : sum_by (λ (e : Outstanding). cond (is_none e.line) 1 0) port.core.reorder.outstanding ≤ length port.core.reorder.outstanding = count_by-le-length (λ (e : Outstanding). is_none e.line) port.core.reorder.outstanding in
    let queue = sum_ones port.completions in
    empty_list port.completions (omega (arith, sums, waiting, none, queue))

pub core_idle : (o : Opening) (h : History) → CoreKeeps o h → All (λ (port : PortSide). length port.core.reorder.outstanding ≡ 0) h.state.ports → IsIdle h.state
core_idle o h k idle = record {
  ports = λ p d within. port_idle o h p (get_or h.state.ports p d) k (idle p d within) (slice_get-get_or h.state.ports p d within);
  channels = λ c d within. side_idle o h c (get_or h.state.channels c d) k idle (slice_get-get_or h.state.channels c d within);
}
