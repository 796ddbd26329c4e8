-- From ends in order, whose sides are gathered queue by queue, to queues that were joined, and to what is given.
use Rattle.std.proofs.Common.{◌≡◌, ℕ, zero, suc, ◌+◌, ◌<◌, eqb, List, [], ◌∷◌, ◌++◌, All, length, map, filter, Option, Some, None, slice_get, length-append, refl, sym, ap, ◌∙◌, subst, arith}
use Rattle.std.specs.List.{flat_map, range_with_len}
use Rattle.std.specs.Option.{option_map}
use Rattle.std.proofs.lemmas.List.{append-nil, length-map}
use Rattle.std.proofs.lemmas.Option.{slice_get-map, slice_get_within}
use Rattle.ddr_address_map.specs.Requests as records
use Rattle.ddr_address_map.specs.Requests.{Completion}
use Rattle.ddr_world.proofs.CoreCounts.{sum_ones}
use Rattle.ddr_workers.specs.declared.completions.Delivery.{Delivery}
use Rattle.ddr_world.specs.declared.item.Item.{Item}
use Rattle.ddr_workers.specs.declared.requests.Route.{Route}
use Rattle.ddr_workers.specs.Closing.{accepted_of}
use Rattle.ddr_workers.specs.Completions.{of_channel, source_of}
use Rattle.ddr_workers.specs.Counted.{numbers_put}
use Rattle.ddr_workers.specs.Ended.{IsEnded, IsWorkerEnded}
use Rattle.ddr_workers.specs.Headline.{AreJoined}
use Rattle.ddr_workers.specs.Joined.{AreReady, IsIntakeJoined, IsWindowJoined}
use Rattle.ddr_workers.specs.Port.{PortEnded}
use Rattle.ddr_workers.specs.Requests.{of_port}
use Rattle.ddr_workers.specs.Sides.{AreSides, PutId, PutSide, TakeSide, put_id}
use Rattle.ddr_workers.specs.Worker.{WorkerEnded, requests_of}
use Rattle.ddr_workers.proofs.ChangedLemmas.{some_there}
use Rattle.ddr_workers.proofs.ColumnLemmas.{IsOfEach, same_some}
use Rattle.ddr_workers.proofs.HeadlineLemmas.{requests_of-port}

abbrev RequestSide : Type 0
RequestSide = PutSide Route Item

abbrev DoneSide : Type 0
DoneSide = PutSide Delivery Completion

abbrev pub puts_of : PortEnded → List RequestSide
puts_of e = e.requests

abbrev pub dones_of : WorkerEnded → List DoneSide
dones_of w = w.completions

abbrev pub intake_of : WorkerEnded → TakeSide Route Item
intake_of w = w.requests

abbrev pub window_of : PortEnded → TakeSide Delivery Completion
window_of e = e.completions

-- whose side it is, where that is known of the side of this place
who_at : {S T : Type 0} (sides : List (PutSide S T)) (k : ℕ) (side : PutSide S T) (who : PutId S) → slice_get (map (λ s. s.who) sides) k ≡ Some who → slice_get sides k ≡ Some side → side.who ≡ who
who_at sides k side who known there =
    same_some (map (λ s. s.who) sides) k side.who who (slice_get-map (λ s. s.who) sides k ∙ ap (option_map (λ s. s.who)) there) known

module _ (ports : List PortEnded) (workers : List WorkerEnded) (ready : AreReady ports workers)
    (ended : (p : ℕ) (e : PortEnded) → slice_get ports p ≡ Some e → IsEnded e) (worker_ended : (c : ℕ) (w : WorkerEnded) → slice_get workers c ≡ Some w → IsWorkerEnded w) where
  -- the sides of a channel's queue
  pub intake_sides : (c : ℕ) (w : WorkerEnded) (row : List RequestSide) → slice_get workers c ≡ Some w → IsOfEach puts_of ports c row → AreSides row w.requests
  intake_sides c w row w_there is = record {
    count = is.count ∙ sym (ready.ports_are c w w_there) ∙ sym (worker_ended c w w_there).count;
    same = λ p side there.
        let found = some_there ports p (omega (arith, slice_get_within row p side there, is.count)) in
        let e = found.0 in
        let known = (ready.opposite p c e w found.1 w_there).requests in
        who_at e.requests c side (put_id w.requests.who p)
        (ap (slice_get (map (λ s. s.who) e.requests)) (sym (ready.worker c w w_there)) ∙ known ∙ ap (λ n. Some (put_id w.requests.who n)) (ready.port p e found.1))
        (sym (is.of_each p e found.1) ∙ there);
  }

  -- the sides of a port's queue
  pub window_sides : (p : ℕ) (e : PortEnded) (row : List DoneSide) → slice_get ports p ≡ Some e → IsOfEach dones_of workers p row → AreSides row e.completions
  window_sides p e row e_there is = record {
    count = is.count ∙ sym (ready.windows p e e_there);
    same = λ c side there.
        let found = some_there workers c (omega (arith, slice_get_within row c side there, is.count)) in
        let w = found.0 in
        let known = (ready.opposite p c e w e_there found.1).completions in
        who_at w.completions p side (put_id e.completions.who c)
        (ap (slice_get (map (λ s. s.who) w.completions)) (sym (ready.port p e e_there)) ∙ known ∙ ap (λ n. Some (put_id e.completions.who n)) (ready.worker c w found.1))
        (sym (is.of_each c w found.1) ∙ there);
  }

  -- what a port's queue held at its end
  pub record WasLeft (p : ℕ) (e : PortEnded) (left : List Completion) : Type 0 where
    pub completions : (c : ℕ) (w : WorkerEnded) (side : DoneSide) → slice_get workers c ≡ Some w → slice_get w.completions p ≡ Some side
        → of_channel e.completions.who.queue.purpose c (e.completions.took ++ left) ≡ side.put
    pub delivered : All (λ d. source_of e.completions.who.queue.purpose d < length workers) (e.completions.took ++ left)

  module _ (intakes : (c : ℕ) (w : WorkerEnded) → slice_get workers c ≡ Some w → (row : List RequestSide) × IsOfEach puts_of ports c row × IsIntakeJoined row w.requests)
      (windows : (p : ℕ) (e : PortEnded) → slice_get ports p ≡ Some e → (row : List DoneSide) × IsOfEach dones_of workers p row × IsWindowJoined row e.completions) where
    pub was_left : (p : ℕ) (e : PortEnded) → slice_get ports p ≡ Some e → (left : List Completion) × WasLeft p e left
    was_left p e e_there =
        let j = windows p e e_there in
        let row = j.0 in (
          j.2.left,
          record {
            completions = λ c w side w_there there. j.2.told.order c side (j.1.of_each c w w_there ∙ there);
            delivered = subst (λ n. All (λ d. source_of e.completions.who.queue.purpose d < n) (e.completions.took ++ j.2.left)) (ready.windows p e e_there) j.2.told.proper.made;
          },
        )

    pub chosen : (p : ℕ) (o : Option PortEnded) → slice_get ports p ≡ o → (left : List Completion) × ((e : PortEnded) → slice_get ports p ≡ Some e → WasLeft p e left)
    chosen p None none = ([], λ e there. cc)
    chosen p (Some e) there =
        let l = was_left p e there in
        (l.0, λ d d_there. subst (λ (x : PortEnded). WasLeft p x l.0) (same_some ports p e d there d_there) l.1)

    abbrev pub left_of : ℕ → List Completion
    left_of p = (chosen p (slice_get ports p) refl).0

    left_was : (p : ℕ) (e : PortEnded) → slice_get ports p ≡ Some e → WasLeft p e (left_of p)
    left_was p = (chosen p (slice_get ports p) refl).1

    -- in a channel's queue nothing was left
    taken_all : (p c : ℕ) (e : PortEnded) (w : WorkerEnded) (side : RequestSide) → slice_get ports p ≡ Some e → slice_get workers c ≡ Some w → slice_get e.requests c ≡ Some side → of_port p w.requests.took ≡ side.put
    taken_all p c e w side e_there w_there there =
        let j = intakes c w w_there in
        let count = (worker_ended c w w_there).count in
        let none = j.2.ended (λ q below. (worker_ended c w w_there).work.ends q (omega (arith, below, count))) in
        ap (of_port p) (sym (append-nil w.requests.took)) ∙ ap (λ l. of_port p (w.requests.took ++ l)) (sym none) ∙ j.2.told.order p side (j.1.of_each p e e_there ∙ there)

    pub all_joined : AreJoined ports workers left_of
    all_joined = record {
      port = λ p e there. (ready.port p e there, ended p e there);
      worker = λ c w there. (ready.worker c w there, worker_ended c w there);
      channels = ready.channels;
      ports_are = ready.ports_are;
      requests = taken_all;
      completions = λ p c e w side e_there w_there there. (left_was p e e_there).completions c w side w_there there;
      delivered = λ p e there. (left_was p e there).delivered;
    }

-- where nothing is left
pub none_remains : (ports : List PortEnded) (workers : List WorkerEnded) (left : ℕ → List Completion) → AreJoined ports workers left
    → ((p : ℕ) (e : PortEnded) → slice_get ports p ≡ Some e → left p ≡ []) → AreJoined ports workers (λ p. [])
none_remains ports workers left joined none = record {
  port = joined.port;
  worker = joined.worker;
  channels = joined.channels;
  ports_are = joined.ports_are;
  requests = joined.requests;
  completions = λ p c e w side e_there w_there there.
      subst (λ l. of_channel e.completions.who.queue.purpose c (e.completions.took ++ l) ≡ side.put) (none p e e_there) (joined.completions p c e w side e_there w_there there);
  delivered = λ p e there. subst (λ l. All (λ d. source_of e.completions.who.queue.purpose d < length workers) (e.completions.took ++ l)) (none p e there) (joined.delivered p e there);
}

-- counts

flat_same : {X Y A B : Type 0} (f : X → List A) (g : Y → List B) (xs : List X) (ys : List Y) → length xs ≡ length ys
    → ((k : ℕ) (x : X) (y : Y) → slice_get xs k ≡ Some x → slice_get ys k ≡ Some y → length (f x) ≡ length (g y)) → length (flat_map f xs) ≡ length (flat_map g ys)
flat_same f g [] [] same each = refl
flat_same f g [] (y ∷ ys) same each = absurd (omega (arith, same))
flat_same f g (x ∷ xs) [] same each = absurd (omega (arith, same))
flat_same f g (x ∷ xs) (y ∷ ys) same each =
    omega (arith, length-append (f x) (flat_map f xs), length-append (g y) (flat_map g ys), each 0 x y refl refl, flat_same f g xs ys (omega (arith, same)) (λ k a b h h'. each (suc k) a b h h'))

length_range : (base n : ℕ) → length (range_with_len base n) ≡ n
length_range base zero = refl
length_range base (suc n) = ap suc (length_range (base + 1) n)

numbers_length : (items : List Item) → length (map (λ (r : records.Request). r.number) (requests_of items)) ≡ length (requests_of items)
numbers_length items = length-map (requests_of items) (λ r. r.number)

-- as many requests of a port were accepted as replies were given up
pub as_many : (ports : List PortEnded) (workers : List WorkerEnded) → AreJoined ports workers (λ p. []) → (p : ℕ) (e : PortEnded) → slice_get ports p ≡ Some e → length (accepted_of workers p) ≡ e.taken
as_many ports workers joined p e there =
    let of_worker : WorkerEnded → List records.Request = λ w. filter (λ r. eqb r.port p) (requests_of w.requests.took) in
    let of_side : RequestSide → List ℕ = λ side. map (λ r. r.number) (requests_of side.put) in
    let alike = (joined.port p e there).1.asked (λ n. 1) in
    flat_same of_worker of_side workers e.requests (sym (joined.channels p e there))
    (λ c w side w_there side_there.
    ap length (sym (requests_of-port p w.requests.took)) ∙ ap (λ l. length (requests_of l)) (joined.requests p c e w side there w_there side_there) ∙ sym (numbers_length side.put))
    ∙ sym (sum_ones (numbers_put e.requests)) ∙ alike ∙ sum_ones (range_with_len 0 e.taken) ∙ length_range 0 e.taken

from_range : {E : Type 0} (f : ℕ → ℕ) (g : E → ℕ) (base : ℕ) (es : List E) → ((k : ℕ) (e : E) → slice_get es k ≡ Some e → f (base + k) ≡ g e) → map f (range_with_len base (length es)) ≡ map g es
from_range f g base [] each = refl
from_range f g base (e ∷ es) each =
    let first : base ≡ base + 0 = omega arith in
    let rest = from_range f g (base + 1) es (λ k d h. let next : base + 1 + k ≡ base + suc k = omega arith in ap f next ∙ each (suc k) d h) in
    λ i. (ap f first ∙ each 0 e refl) i ∷ rest i

pub counts_alike : (ports : List PortEnded) (workers : List WorkerEnded) → AreJoined ports workers (λ p. []) → map (λ p. length (accepted_of workers p)) (range_with_len 0 (length ports)) ≡ map (λ (e : PortEnded). e.taken) ports
counts_alike ports workers joined = from_range (λ p. length (accepted_of workers p)) (λ (e : PortEnded). e.taken) 0 ports
    (λ p e there. let first : 0 + p ≡ p = omega arith in ap (λ q. length (accepted_of workers q)) first ∙ as_many ports workers joined p e there)
