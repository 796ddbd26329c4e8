-- What every record of events keeps of the core, from which its promise follows.
use Rattle.std.proofs.Common.{◌≡◌, ◌≢◌, ℕ, ◌+◌, ◌≤◌, ◌⊎◌, Bool, true, cond, eqb, List, [], ◌∷◌, ◌++◌, Some, IfSome, is_none, map, take, length, set, append-nil, refl, sym, ap, subst, ◌∙◌, inl, inr, arith}
use Rattle.std.specs.List.{sum_by, range_with_len, slice_get}
use Rattle.std.proofs.lemmas.Bool.Decides.{eqb_tells}
use Rattle.std.proofs.lemmas.Option.{slice_get_within}
use Rattle.std.proofs.lemmas.List.{take-append-le}
use Rattle.circular_buffer.proofs.Places.{slice_get-append_left, slice_get-set_same, slice_get-set_other}
use Rattle.ddr_timing.specs.declared.config.Config.{Config}
use Rattle.ddr_address_map.specs.Requests.{Request, Completion}
use Rattle.ddr_reorder.specs.Replies.{Answer, lent_bytes}
use Rattle.ddr_reorder.specs.State.{Outstanding}
use Rattle.ddr_ports.specs.State.{service_of}
use Rattle.ddr_channel.specs.History as channel
use Rattle.ddr_channel.specs.History.{Call}
use Rattle.ddr_channel.specs.Promise.{AreCalls}
use Rattle.ddr_channel.proofs.HeldLemmas.{weigh_request, held}
use Rattle.ddr_world.specs.declared.item.Item.{Item}
use Rattle.ddr_world.specs.declared.item.Item.TheVariants as item
use Rattle.ddr_world.specs.History.{Opening, Whereabouts, History}
use Rattle.ddr_world.specs.Promise.{reply_of, replies_of_port}
use Rattle.ddr_world.specs.Served.{WasServed}
use Rattle.ddr_world.specs.State.{PortSide, ChannelSide, State}
use Rattle.ddr_world.proofs.LineBytes.{IsPlaced}

-- the requests of a queue, without the Ends
abbrev pub requests_in : List Item → List Request
requests_in [] = []
requests_in (item.Request r ∷ items) = r ∷ requests_in items
requests_in (item.End p ∷ items) = requests_in items

-- The channel is what some calls make of it, by which it admitted its requests; those and the queued ones are its acceptance list.
pub record ChannelKeeps (o : Opening) (admitted accepted : List Request) (side : ChannelSide) : Type 0 where
  pub calls : List Call
  pub calls_are : AreCalls o.config calls
  pub state : side.channel ≡ (channel.run o.config o.cycle calls).state
  pub admitted_are : (channel.run o.config o.cycle calls).accepted ≡ admitted
  pub accepted_are : admitted ++ requests_in side.requests ≡ accepted

-- the outstanding number is that of the accepted request there, and its line, once it has come back, is the right one
pub record Settled (accepted : ℕ → List Request) (w : Whereabouts) (e : Outstanding) : Type 0 where
  pub request : Request
  pub there : slice_get (accepted w.channel) w.place ≡ Some request
  pub echo : e.echo ≡ request.echo
  pub line : IfSome e.line (λ line. lent_bytes e.echo line ≡ (reply_of (take w.place (accepted w.channel)) request).bytes)

-- the completion is that of an accepted request of the port, with the right line
pub record Right (first : ℕ) (accepted : ℕ → List Request) (sent : List Whereabouts) (d : Completion) : Type 0 where
  pub index : ℕ
  pub at : Whereabouts
  pub request : Request
  pub sent_at : slice_get sent index ≡ Some at
  pub number : d.number ≡ first + index
  pub there : slice_get (accepted at.channel) at.place ≡ Some request
  pub echo : d.echo ≡ request.echo
  pub bytes : lent_bytes d.echo d.line ≡ (reply_of (take at.place (accepted at.channel)) request).bytes

-- the outstanding numbers of a port, one after another
pub record IsSettledAt (accepted : ℕ → List Request) (sent : List Whereabouts) (k : ℕ) (e : Outstanding) : Type 0 where
  pub at : Whereabouts
  pub sent_at : slice_get sent k ≡ Some at
  pub settled : Settled accepted at e

pub record PortKeeps (o : Opening) (accepted : ℕ → List Request) (sent : List Whereabouts) (taken : List Answer) (p : ℕ) (side : PortSide) : Type 0 where
  pub port : side.core.port ≡ p
  pub geometry : side.core.geometry ≡ o.config.geometry
  pub window : length side.core.reorder.outstanding ≤ side.core.reorder.window
  pub next : side.core.reorder.next ≡ o.number + length sent
  pub numbers : map (λ e. e.number) side.core.reorder.outstanding ≡ range_with_len (o.number + length taken) (length side.core.reorder.outstanding)
  pub accepted_are : side.accepted ≡ length sent
  pub taken_are : side.taken ≡ length taken
  pub counted : length taken + length side.core.reorder.outstanding ≡ length sent
  pub ends : length side.pushed ≡ o.config.geometry.channels
  pub ended : (c : ℕ) → slice_get side.pushed c ≡ Some true → side.core.finished ≡ true
  pub settled : (j : ℕ) (e : Outstanding) → slice_get side.core.reorder.outstanding j ≡ Some e → IsSettledAt accepted sent (length taken + j) e
  pub right : (j : ℕ) (d : Completion) → slice_get side.completions j ≡ Some d → Right o.number accepted sent d

-- An accepted request, by its place in the acceptance list of its channel: it stands under its number in the list of its port.
pub record IsSentBack (o : Opening) (sent : ℕ → List Whereabouts) (c place : ℕ) (r : Request) : Type 0 where
  pub placed : IsPlaced o.config.geometry c r
  pub index : ℕ
  pub number : r.number ≡ o.number + index
  pub sent_at : slice_get (sent r.port) index ≡ Some (record { channel = c; place = place })

-- and by its number at its port
pub record IsSent (o : Opening) (accepted : ℕ → List Request) (p k : ℕ) (w : Whereabouts) : Type 0 where
  pub request : Request
  pub there : slice_get (accepted w.channel) w.place ≡ Some request
  pub port : request.port ≡ p
  pub number : request.number ≡ o.number + k

-- what each number of a port counts, where it is held

abbrev pub weight : (ℕ → ℕ) → ℕ → ℕ → ℕ → ℕ
weight f p port number = cond (eqb port p) (f number) 0

-- in a channel or its queue
abbrev pub held_in : (ℕ → ℕ) → ℕ → ChannelSide → ℕ
held_in f p side = sum_by (weigh_request (weight f p)) (requests_in side.requests) + held (weight f p) side.channel

-- in the completion queue of its port
abbrev pub delivered_in : (ℕ → ℕ) → PortSide → ℕ
delivered_in f side = sum_by (λ d. f d.number) side.completions

-- outstanding, and its line has not come back
abbrev pub waiting_in : (ℕ → ℕ) → PortSide → ℕ
waiting_in f side = sum_by (λ e. cond (is_none e.line) (f e.number) 0) side.core.reorder.outstanding

-- each completion on its way to the port, and each that came, tells when its request was served
pub record PortServed (config : Config) (s : State) (side : PortSide) : Type 0 where
  pub queue : (j : ℕ) (d : Completion) → slice_get side.completions j ≡ Some d → WasServed config s d.echo (service_of d)
  pub filled : (j : ℕ) (e : Outstanding) → slice_get side.core.reorder.outstanding j ≡ Some e → IfSome e.service (WasServed config s e.echo)

pub record CoreKeeps (o : Opening) (h : History) : Type 0 where
  pub channels : (c : ℕ) (side : ChannelSide) → slice_get h.state.channels c ≡ Some side → ChannelKeeps o (h.admitted c) (h.accepted c) side
  pub ports : (p : ℕ) (side : PortSide) → slice_get h.state.ports p ≡ Some side → PortKeeps o h.accepted (h.sent p) (h.taken p) p side
  pub accepted : (c place : ℕ) (r : Request) → slice_get (h.accepted c) place ≡ Some r → IsSentBack o h.sent c place r
  pub sent : (p k : ℕ) (w : Whereabouts) → slice_get (h.sent p) k ≡ Some w → IsSent o h.accepted p k w
  pub taken : (p : ℕ) → map Some (h.taken p) ≡ take (length (h.taken p)) (replies_of_port h p)
  -- each number whose line has not come back is held in one place
  pub held : (f : ℕ → ℕ) (p : ℕ) (side : PortSide) → slice_get h.state.ports p ≡ Some side → sum_by (held_in f p) h.state.channels + delivered_in f side ≡ waiting_in f side
  pub served : (p : ℕ) (side : PortSide) → slice_get h.state.ports p ≡ Some side → PortServed o.config h.state side
  pub channels_are : length h.state.channels ≡ o.config.geometry.channels
  pub no_port : (p : ℕ) → length h.state.ports ≤ p → (h.sent p ≡ []) × (h.taken p ≡ [])
  pub no_channel : (c : ℕ) → length h.state.channels ≤ c → (h.accepted c ≡ []) × (h.admitted c ≡ [])

-- a list after more was added to its end

pub Grows : {X : Type 0} → List X → List X → Type 0
Grows {X} xs ys = (more : List X) × (ys ≡ xs ++ more)

pub grown : {X : Type 0} (xs more : List X) → Grows xs (xs ++ more)
unfolding Grows
grown xs more = (more, refl)

pub grows_by : {X : Type 0} (xs ys more : List X) → ys ≡ xs ++ more → Grows xs ys
unfolding Grows
grows_by xs ys more is = (more, is)

pub grows_none : {X : Type 0} (xs ys : List X) → ys ≡ xs → Grows xs ys
unfolding Grows
grows_none xs ys same = ([], same ∙ sym (append-nil xs))

pub there_still : {X : Type 0} (xs ys : List X) (i : ℕ) (x : X) → Grows xs ys → slice_get xs i ≡ Some x → slice_get ys i ≡ Some x
unfolding Grows
there_still xs ys i x grows is = ap (λ (zs : List _). slice_get zs i) grows.1 ∙ slice_get-append_left xs grows.0 i (slice_get_within xs i x is) ∙ is

pub before_still : {X : Type 0} (xs ys : List X) (i : ℕ) (x : X) → Grows xs ys → slice_get xs i ≡ Some x → take i ys ≡ take i xs
unfolding Grows
before_still xs ys i x grows is = ap (take i) grows.1 ∙ take-append-le i xs grows.0 (omega (arith, slice_get_within xs i x is))

pub take_still : {X : Type 0} (xs ys : List X) (n : ℕ) → Grows xs ys → n ≤ length xs → take n ys ≡ take n xs
unfolding Grows
take_still xs ys n grows within = ap (take n) grows.1 ∙ take-append-le n xs grows.0 within

-- what is said of a request stays, as the acceptance lists grow

pub settled_still : (old new : ℕ → List Request) (w : Whereabouts) (e : Outstanding) → ((c : ℕ) → Grows (old c) (new c)) → Settled old w e → Settled new w e
settled_still old new w e grows s = record {
  request = s.request;
  there = there_still (old w.channel) (new w.channel) w.place s.request (grows w.channel) s.there;
  echo = s.echo;
  line = subst (λ (xs : List Request). IfSome e.line (λ line. lent_bytes e.echo line ≡ (reply_of xs s.request).bytes)) (sym (before_still (old w.channel) (new w.channel) w.place s.request (grows w.channel) s.there)) s.line;
}

pub right_still : (first : ℕ) (old new : ℕ → List Request) (was now : List Whereabouts) (d : Completion) → ((c : ℕ) → Grows (old c) (new c)) → Grows was now → Right first old was d → Right first new now d
right_still first old new was now d grows sent r = record {
  index = r.index;
  at = r.at;
  request = r.request;
  sent_at = there_still was now r.index r.at sent r.sent_at;
  number = r.number;
  there = there_still (old r.at.channel) (new r.at.channel) r.at.place r.request (grows r.at.channel) r.there;
  echo = r.echo;
  bytes = r.bytes ∙ ap (λ (xs : List Request). (reply_of xs r.request).bytes) (sym (before_still (old r.at.channel) (new r.at.channel) r.at.place r.request (grows r.at.channel) r.there));
}

pub settled_at_still : (old new : ℕ → List Request) (was now : List Whereabouts) (k : ℕ) (e : Outstanding) → ((c : ℕ) → Grows (old c) (new c)) → Grows was now → IsSettledAt old was k e → IsSettledAt new now k e
settled_at_still old new was now k e grows sent s = record {
  at = s.at;
  sent_at = there_still was now k s.at sent s.sent_at;
  settled = settled_still old new s.at e grows s.settled;
}

-- of a port of which an event changed no more than its completions, its Ends and whether it is finished
pub port_with : (o : Opening) (old new : ℕ → List Request) (sent : List Whereabouts) (taken : List Answer) (p : ℕ) (side : PortSide) (finished : Bool) (completions : List Completion) (pushed : List Bool) → PortKeeps o old sent taken p side
    → length pushed ≡ length side.pushed → ((c : ℕ) → slice_get pushed c ≡ Some true → finished ≡ true)
    → ((j : ℕ) (e : Outstanding) → slice_get side.core.reorder.outstanding j ≡ Some e → IsSettledAt new sent (length taken + j) e) → ((j : ℕ) (d : Completion) → slice_get completions j ≡ Some d → Right o.number new sent d)
    → PortKeeps o new sent taken p (record side { core = record side.core { finished = finished }; completions = completions; pushed = pushed })
port_with o old new sent taken p side finished completions pushed k ends ended settled right = record {
  port = k.port;
  geometry = k.geometry;
  window = k.window;
  next = k.next;
  numbers = k.numbers;
  accepted_are = k.accepted_are;
  taken_are = k.taken_are;
  counted = k.counted;
  ends = ends ∙ k.ends;
  ended = ended;
  settled = settled;
  right = right;
}

-- of a port that the event leaves alone
pub port_still : (o : Opening) (old new : ℕ → List Request) (sent : List Whereabouts) (taken : List Answer) (p : ℕ) (side : PortSide) → ((c : ℕ) → Grows (old c) (new c)) → PortKeeps o old sent taken p side → PortKeeps o new sent taken p side
port_still o old new sent taken p side grows k =
    port_with o old new sent taken p side side.core.finished side.completions side.pushed k refl k.ended
    (λ j e is. settled_at_still old new sent sent (length taken + j) e grows (grows_none sent sent refl) (k.settled j e is))
    (λ j d is. right_still o.number old new sent sent d grows (grows_none sent sent refl) (k.right j d is))

-- a list one of whose elements was replaced
pub replaced_at : {X : Type 0} (xs : List X) (i j : ℕ) (old x y : X) → slice_get xs i ≡ Some old → slice_get (set xs i x) j ≡ Some y → ((j ≡ i) × (y ≡ x)) ⊎ ((j ≢ i) × (slice_get xs j ≡ Some y))
replaced_at xs i j old x y was is = elim (eqb_tells j i) [
  | inl same ↦ (let here = slice_get-set_same xs i x (slice_get_within xs i old was) in
      let there : slice_get (set xs i x) i ≡ Some y = ap (slice_get (set xs i x)) (sym same.1) ∙ is in
      let both : y ≡ x = cc in
      inl (same.1, both))
  | inr other ↦ inr (other.1, sym (slice_get-set_other xs i j x other.1) ∙ is)
]
