-- What a worker has sent, as completions are held and pushed, and what it took, as items come.
use Rattle.std.proofs.Common.{◌≡◌, ℕ, zero, suc, ◌<◌, Bool, true, false, cond, ◌||◌, eqb, eq-eqb, ltb, List, [], ◌∷◌, ◌++◌, All, length, map, take, Option, Some, None, IfSome, slice_get, get_or, set, refl, sym, ap, ◌∙◌, subst}
use Rattle.std.specs.Option.{option_map, option_to_list}
use Rattle.std.proofs.lemmas.Bool.{eqb-true, ne_eqb, ltb-true, ltb-false, false≢true}
use Rattle.std.proofs.lemmas.List.{append-nil, get_or-set_same, get_or-set_other}
use Rattle.std.proofs.lemmas.List.Elements.{filter-append, All-nil, All-cons, All-head, All-tail, All-append}
use Rattle.std.proofs.lemmas.List.Folds.{list_any-append}
use Rattle.ddr_timing.specs.declared.config.Config.{Config}
use Rattle.ddr_timing.specs.declared.geometry.Geometry.{Geometry}
use Rattle.ddr_address_map.specs.declared.place.Place.{Place}
use Rattle.ddr_address_map.specs.Map.{place_of, in_range, capacity_of}
use Rattle.ddr_address_map.specs.Requests as records
use Rattle.ddr_address_map.specs.Requests.{Completion}
use Rattle.ddr_address_map.proofs.MapLemmas.{place_of-below, place_of-past, place-in_range}
use Rattle.ddr_channel.specs.History.{History, Owner}
use Rattle.ddr_channel.specs.Promise.{IsNextAnswer, answer_to}
use Rattle.ddr_workers.specs.declared.completions.Delivery.{Delivery}
use Rattle.ddr_world.specs.declared.item.Item.{Item}
use Rattle.ddr_world.specs.declared.item.Item.TheVariants.{Request, End}
use Rattle.ddr_workers.specs.declared.requests.Route.{Route}
use Rattle.ddr_workers.specs.Requests.{port_of, of_port, has_end, is_end}
use Rattle.ddr_workers.specs.Sides.{PutSide, after_push, after_full, changed_at}
use Rattle.ddr_workers.specs.Worker.{AreSent, to_port, requests_of}
use Rattle.ddr_workers.specs.WorkerView.{IsTaken, IsGiven}
use Rattle.ddr_workers.proofs.ChangedLemmas.{changed_behind, length-changed, each_changed}

abbrev Side : Type 0
Side = PutSide Delivery Completion

-- the first of a list, as a list
pub first_as_list : {X : Type 0} (xs : List X) → take 1 xs ≡ option_to_list (slice_get xs 0)
first_as_list [] = refl
first_as_list (x ∷ xs) = refl

-- the sides are the same ones after a change that leaves whose they are
pub map-changed : {X Y : Type 0} (f : X → Y) (change : X → X) → ((x : X) → f (change x) ≡ f x) → (place : ℕ) (xs : List X) → map f (changed_at place change xs) ≡ map f xs
map-changed f change same place [] = refl
map-changed f change same zero (x ∷ xs) = ap (λ y. y ∷ map f xs) (same x)
map-changed f change same (suc place) (x ∷ xs) = ap (map f) (changed_behind change place x xs) ∙ ap (λ ys. f x ∷ ys) (map-changed f change same place xs)

-- completions

to_port_here : (p : ℕ) (d : Completion) → d.port ≡ p → to_port p (d ∷ []) ≡ d ∷ []
to_port_here p d same = ap (λ b. cond b (d ∷ []) []) (eq-eqb d.port p same)

to_port_off : (p : ℕ) (d : Completion) → (d.port ≡ p → ⊥) → to_port p (d ∷ []) ≡ []
to_port_off p d other = ap (λ b. cond b (d ∷ []) []) (ne_eqb d.port p other)

ports_of : (n : ℕ) (o : Option Completion) → IfSome o (λ d. d.port < n) → All (λ (d : Completion). d.port < n) (option_to_list o)
ports_of n None below = All-nil (λ (d : Completion). d.port < n)
ports_of n (Some d) below = All-cons (λ (d : Completion). d.port < n) d [] below (All-nil (λ (d : Completion). d.port < n))

-- one was given out, and is held
pub sent_held : (dones : List Completion) (o : Option Completion) (sides : List Side) → AreSent dones [] sides → IfSome o (λ d. d.port < length sides) → AreSent (dones ++ option_to_list o) (option_to_list o) sides
sent_held dones o sides before below = record {
  sent = λ p side there. filter-append (λ (d : Completion). eqb d.port p) dones (option_to_list o) ∙ ap (λ xs. xs ++ to_port p (option_to_list o)) (before.sent p side there ∙ append-nil side.put);
  ports = All-append (λ (d : Completion). d.port < length sides) dones (option_to_list o) before.ports (ports_of (length sides) o below);
}

-- it was pushed
pub sent_pushed : (dones : List Completion) (d : Completion) (sides : List Side) → AreSent dones (d ∷ []) sides → AreSent dones [] (changed_at d.port (λ side. after_push side d) sides)
sent_pushed dones d sides before =
    let change : Side → Side = λ side. after_push side d in
    record {
      sent = each_changed change (λ p side. to_port p dones ≡ side.put ++ to_port p (d ∷ [])) (λ p side. to_port p dones ≡ side.put ++ []) d.port sides before.sent
          (λ x e. e ∙ ap (λ xs. x.put ++ xs) (to_port_here d.port d refl) ∙ sym (append-nil (x.put ++ d ∷ [])))
          (λ k x other e. e ∙ ap (λ xs. x.put ++ xs) (to_port_off k d (λ same. other (sym same))));
      ports = subst (λ n. All (λ (x : Completion). x.port < n) dones) (sym (length-changed change d.port sides)) before.ports;
    }

-- its queue was full
pub sent_full : (dones held : List Completion) (place : ℕ) (sides : List Side) → AreSent dones held sides → AreSent dones held (changed_at place after_full sides)
sent_full dones held place sides before = record {
  sent = each_changed after_full (λ p side. to_port p dones ≡ side.put ++ to_port p held) (λ p side. to_port p dones ≡ side.put ++ to_port p held) place sides before.sent (λ x e. e) (λ k x other e. e);
  ports = subst (λ n. All (λ (x : Completion). x.port < n) dones) (sym (length-changed after_full place sides)) before.ports;
}

-- the completion that the channel gives out answers a request that was taken

all_at : {X : Type 0} (P : X → Type 0) (xs : List X) (k : ℕ) (x : X) → slice_get xs k ≡ Some x → All P xs → P x
all_at P [] k x there all = cc
all_at P (y ∷ ys) zero x there all = let same : y ≡ x = cc in subst P same (All-head P y ys all)
all_at P (y ∷ ys) (suc k) x there all = all_at P ys k x there (All-tail P y ys all)

given_from : (route : Route) (ports : ℕ) (r : records.Request) (d : Completion) → IsTaken route ports r → d.port ≡ r.port → d.echo ≡ r.echo → IsGiven route ports d
given_from route ports r d taken port echo = record {
  port = subst (λ n. n < ports) (sym port) taken.port;
  from = record {
    port = refl;
    channel = ap (λ e. option_map (λ (place : Place). place.channel) (place_of route.geometry e.addr)) echo ∙ ap (option_map (λ (place : Place). place.channel)) taken.placed.place ∙ ap (λ c. Some c) taken.placed.channel;
  };
}

answer_given : (config : Config) (accepted : List records.Request) (route : Route) (ports : ℕ) (owner : Owner) (d : Completion) (o : Option records.Request) → slice_get accepted owner.place ≡ o
    → option_map (answer_to config accepted owner) o ≡ Some d → All (IsTaken route ports) accepted → IsGiven route ports d
answer_given config accepted route ports owner d None there answer taken = cc
answer_given config accepted route ports owner d (Some r) there answer taken =
    let same : answer_to config accepted owner r ≡ d = cc in
    subst (IsGiven route ports) same (given_from route ports r (answer_to config accepted owner r) (all_at (IsTaken route ports) accepted owner.place r there taken) refl refl)

pub given : (h : History) (route : Route) (ports : ℕ) (d : Completion) → All (IsTaken route ports) h.accepted → IsNextAnswer h d → IsGiven route ports d
given h route ports d taken next = answer_given h.state.config h.accepted route ports next.owner d (slice_get h.accepted next.owner.place) refl next.right taken

-- items

pub requests_last : (items : List Item) (r : records.Request) → requests_of (items ++ Request r ∷ []) ≡ requests_of items ++ r ∷ []
requests_last [] r = refl
requests_last (Request q ∷ items) r = ap (λ rs. q ∷ rs) (requests_last items r)
requests_last (End p ∷ items) r = requests_last items r

pub requests_ended : (items : List Item) (p : ℕ) → requests_of (items ++ End p ∷ []) ≡ requests_of items
requests_ended [] p = refl
requests_ended (Request q ∷ items) p = ap (λ rs. q ∷ rs) (requests_ended items p)
requests_ended (End q ∷ items) p = requests_ended items p

or_false : (b : Bool) → (b || false) ≡ b
or_false true = refl
or_false false = refl

or_true : (b : Bool) → (b || true) ≡ true
or_true true = refl
or_true false = refl

ends_of : (p : ℕ) (items : List Item) (x : Item) → has_end (of_port p (items ++ x ∷ [])) ≡ (has_end (of_port p items) || has_end (of_port p (x ∷ [])))
ends_of p items x = ap has_end (filter-append (λ y. eqb (port_of y) p) items (x ∷ [])) ∙ list_any-append is_end (of_port p items) (of_port p (x ∷ []))

asked_alone : (b : Bool) (r : records.Request) → has_end (cond b (Request r ∷ []) []) ≡ false
asked_alone true r = refl
asked_alone false r = refl

-- a request is no End
pub ends_asked : (p : ℕ) (items : List Item) (r : records.Request) → has_end (of_port p (items ++ Request r ∷ [])) ≡ has_end (of_port p items)
ends_asked p items r = ends_of p items (Request r) ∙ ap (λ b. has_end (of_port p items) || b) (asked_alone (eqb r.port p) r) ∙ or_false (has_end (of_port p items))

-- an End is its port's
ends_here : (p q : ℕ) (items : List Item) → q ≡ p → has_end (of_port p (items ++ End q ∷ [])) ≡ true
ends_here p q items same =
    ends_of p items (End q) ∙ ap (λ b. has_end (of_port p items) || has_end (cond b (End q ∷ []) [])) (eq-eqb q p same) ∙ or_true (has_end (of_port p items))

ends_off : (p q : ℕ) (items : List Item) → (q ≡ p → ⊥) → has_end (of_port p (items ++ End q ∷ [])) ≡ has_end (of_port p items)
ends_off p q items other =
    ends_of p items (End q) ∙ ap (λ b. has_end (of_port p items) || has_end (cond b (End q ∷ []) [])) (ne_eqb q p other) ∙ or_false (has_end (of_port p items))

noted_by : (noted : List Bool) (items : List Item) (p q : ℕ) (b : Bool) → eqb q p ≡ b → q < length noted → get_or noted p false ≡ has_end (of_port p items)
    → get_or (set noted q true) p false ≡ has_end (of_port p (items ++ End q ∷ []))
noted_by noted items p q true e within before =
    let same = eqb-true q p e in
    ap (λ n. get_or (set noted q true) n false) (sym same) ∙ get_or-set_same noted q true false within ∙ sym (ends_here p q items same)
noted_by noted items p q false e within before =
    let other : q ≡ p → ⊥ = λ same. false≢true (sym e ∙ eq-eqb q p same) in
    get_or-set_other noted q p true false (λ same. other (sym same)) ∙ before ∙ sym (ends_off p q items other)

pub noted_ended : (noted : List Bool) (items : List Item) (p q : ℕ) → q < length noted → get_or noted p false ≡ has_end (of_port p items) → get_or (set noted q true) p false ≡ has_end (of_port p (items ++ End q ∷ []))
noted_ended noted items p q within before = noted_by noted items p q (eqb q p) refl within before

-- the place of an address is in range

some_same : {X : Type 0} (x y : X) → Some x ≡ Some y → x ≡ y
some_same x y e = cc

range_of : (shape : Geometry) (addr : ℕ) (place : Place) (b : Bool) → ltb addr (capacity_of shape) ≡ b → place_of shape addr ≡ Some place → in_range shape place ≡ true
range_of shape addr place true e is =
    let below = place_of-below shape addr (ltb-true addr (capacity_of shape) e) in
    let same : _ ≡ place = some_same _ place (sym below ∙ is) in
    subst (λ q. in_range shape q ≡ true) same (place-in_range shape addr)
range_of shape addr place false e is = let none = place_of-past shape addr (ltb-false addr (capacity_of shape) e) in cc

pub in_range_of : (shape : Geometry) (addr : ℕ) (place : Place) → place_of shape addr ≡ Some place → in_range shape place ≡ true
in_range_of shape addr place is = range_of shape addr place (ltb addr (capacity_of shape)) refl is
