-- What each call of a port keeps of the numbers that it pushed and got back.
use Rattle.std.proofs.Common.{◌≡◌, ℕ, zero, suc, ◌+◌, ◌-◌, ◌<◌, Bool, true, false, not, cond, ◌||◌, eqb, List, [], ◌∷◌, ◌++◌, All, length, map, drop, set, Option, Some, None, is_some, is_none, take, slice_get, refl, sym, ap, ap₂, ◌∙◌, subst, arith}
use Rattle.std.specs.List.{sum_by, flat_map, filter, list_any, range_with_len, take_while, prefix_len}
use Rattle.std.specs.Option.{option_map, option_map_or, option_and_then}
use Rattle.std.proofs.lemmas.Bool.{false≢true, ne_eqb, eq-eqb, leb-true}
use Rattle.std.proofs.lemmas.List.{map-append, append-nil}
use Rattle.std.proofs.lemmas.List.Elements.{All-push}
use Rattle.std.proofs.lemmas.List.Sums.{sum_by-cons, sum_by-append}
use Rattle.ddr_timing.specs.declared.geometry.Digit.TheVariants.{Channel}
use Rattle.ddr_address_map.specs.declared.place.Place.{Place}
use Rattle.ddr_address_map.specs.declared.request.Echo.{Echo}
use Rattle.ddr_address_map.specs.Map.{place_of}
use Rattle.ddr_address_map.proofs.MapLemmas.{IsInRange-test}
use Rattle.ddr_address_map.specs.Requests as records
use Rattle.ddr_address_map.specs.Requests.{Completion}
use Rattle.ddr_channel.proofs.HeldLemmas.{sum_replaced, sum_last}
use Rattle.ddr_reorder.specs.Replies.{Answer, answer_of, is_filled, front_number}
use Rattle.ddr_reorder.specs.declared.reply.Service.{Service}
use Rattle.ddr_reorder.specs.State.{Outstanding, IsWithinLine, issue_refusal, is_awaited, awaits, filled}
use Rattle.ddr_ports.specs.Asked.{Asked, echo_of, first_address, len_of, is_within_line}
use Rattle.ddr_ports.specs.declared.refusal.PortError.{PortError}
use Rattle.ddr_ports.specs.declared.refusal.PortError.TheVariants.{Finished, OutOfRange, EmptyLength, CrossesLine}
use Rattle.ddr_ports.specs.Refusals.{refusal_from}
use Rattle.ddr_ports.specs.State as core
use Rattle.ddr_ports.specs.State.{request_at, request_with}
use Rattle.ddr_world.proofs.PlaceLemmas.{placed_in_range}
use Rattle.ddr_workers.specs.declared.completions.Delivery.{Delivery}
use Rattle.ddr_world.specs.declared.item.Item.{Item}
use Rattle.ddr_world.specs.declared.item.Item.TheVariants.{Request, End}
use Rattle.ddr_workers.specs.declared.requests.Route.{Route}
use Rattle.ddr_workers.specs.Counted.{AreWithinLines, IsCounted, numbers_put, numbers_filled}
use Rattle.ddr_workers.specs.Port.{PortState, after_busy, after_end, finished}
use Rattle.ddr_workers.specs.PortView.{IsWhole}
use Rattle.ddr_workers.specs.Sides.{PutSide, TakeSide, after_push, after_full, after_pop, changed_at}
use Rattle.ddr_workers.specs.Worker.{requests_of}
use Rattle.ddr_workers.proofs.ChangedLemmas.{each_changed, some_there}
use Rattle.ddr_workers.proofs.PortLemmas.{made_at}
use Rattle.ddr_workers.proofs.ReplyLemmas.{awaited_parts, unawaited_below}

abbrev Side : Type 0
Side = PutSide Route Item

-- the requests of a longer list of items

pub requests_of-append : (xs ys : List Item) → requests_of (xs ++ ys) ≡ requests_of xs ++ requests_of ys
requests_of-append [] ys = refl
requests_of-append (Request r ∷ xs) ys = ap (λ (rs : List records.Request). r ∷ rs) (requests_of-append xs ys)
requests_of-append (End p ∷ xs) ys = requests_of-append xs ys

-- sums over the numbers that were pushed

abbrev pub numbers_of : Side → List ℕ
numbers_of side = map (λ (r : records.Request). r.number) (requests_of side.put)

pub sum_flat : {X : Type 0} (f : ℕ → ℕ) (g : X → List ℕ) (xs : List X) → sum_by f (flat_map g xs) ≡ sum_by (λ x. sum_by f (g x)) xs
sum_flat f g [] = refl
sum_flat f g (x ∷ xs) = sum_by-append f (g x) (flat_map g xs) ∙ omega (arith, sum_flat f g xs, sum_by-cons (λ (y : _). sum_by f (g y)) x xs)

changed_there : {X : Type 0} (change : X → X) (place : ℕ) (xs : List X) (x : X) → slice_get xs place ≡ Some x → changed_at place change xs ≡ set xs place (change x)
changed_there change place xs x is = ap (λ (o : Option _). option_map_or (λ y. set xs place (change y)) o xs) is

sum_changed : (f : ℕ → ℕ) (change : Side → Side) (place more : ℕ) (sides : List Side) (side : Side) → slice_get sides place ≡ Some side → sum_by f (numbers_of (change side)) ≡ sum_by f (numbers_of side) + more
    → sum_by f (numbers_put (changed_at place change sides)) ≡ sum_by f (numbers_put sides) + more
sum_changed f change place more sides side is adds =
    let weigh : Side → ℕ = λ x. sum_by f (numbers_of x) in
    let after = sum_flat f numbers_of (changed_at place change sides) in
    let before = sum_flat f numbers_of sides in
    let list : sum_by weigh (changed_at place change sides) ≡ sum_by weigh (set sides place (change side)) = ap (sum_by weigh) (changed_there change place sides side is) in
    omega (arith, after, before, list, sum_replaced weigh sides place side (change side) is, adds)

numbers_pushed : (f : ℕ → ℕ) (side : Side) (r : records.Request) → sum_by f (numbers_of (after_push side (Request r))) ≡ sum_by f (numbers_of side) + f r.number
numbers_pushed f side r =
    ap (λ (rs : List records.Request). sum_by f (map (λ (x : records.Request). x.number) rs)) (requests_of-append side.put (Request r ∷ []))
    ∙ ap (sum_by f) (map-append (λ (x : records.Request). x.number) (requests_of side.put) (r ∷ [])) ∙ sum_last f (numbers_of side) r.number

numbers_ended : (f : ℕ → ℕ) (side : Side) (p : ℕ) → sum_by f (numbers_of (after_push side (End p))) ≡ sum_by f (numbers_of side) + 0
numbers_ended f side p =
    ap (λ (rs : List records.Request). sum_by f (map (λ (x : records.Request). x.number) rs)) (requests_of-append side.put (End p ∷ []) ∙ append-nil (requests_of side.put)) ∙ omega arith

sum_range : (f : ℕ → ℕ) (a n : ℕ) → sum_by f (range_with_len a (suc n)) ≡ sum_by f (range_with_len a n) + f (a + n)
sum_range f a zero =
    let same : f (a + 0) ≡ f a = ap f (omega arith) in
    omega (arith, same)
sum_range f a (suc n) =
    let same : f (a + 1 + n) ≡ f (a + suc n) = ap f (omega arith) in
    let more = sum_range f (a + 1) n in
    let head = sum_by-cons f a (range_with_len (a + 1) (suc n)) in
    let less = sum_by-cons f a (range_with_len (a + 1) n) in
    omega (arith, same, more, head, less)

-- one number more
sum_next : (f : ℕ → ℕ) (n : ℕ) → sum_by f (range_with_len 0 (n + 1)) ≡ sum_by f (range_with_len 0 n) + f n
sum_next f n =
    let next : n + 1 ≡ suc n = omega arith in
    let last : f (0 + n) ≡ f n = ap f (omega arith) in
    ap (λ m. sum_by f (range_with_len 0 m)) next ∙ sum_range f 0 n ∙ ap (λ m. sum_by f (range_with_len 0 n) + m) last

-- what is asked for lies in one line

within_pushed : (s : PortState) (channel : ℕ) (r : records.Request) → IsCounted s → IsWithinLine r.echo → (c : ℕ) (side : Side) → slice_get (changed_at channel (λ side. after_push side (Request r)) s.requests) c ≡ Some side → AreWithinLines side
within_pushed s channel r k within =
    each_changed (λ (side : Side). after_push side (Request r)) (λ c. AreWithinLines) (λ c. AreWithinLines) channel s.requests k.within
    (λ side all. subst (λ (rs : List records.Request). All (λ q. IsWithinLine q.echo) rs) (sym (requests_of-append side.put (Request r ∷ []))) (All-push (λ q. IsWithinLine q.echo) (requests_of side.put) r all within))
    (λ c side other all. all)

within_ended : (s : PortState) → IsCounted s → (c : ℕ) (side : Side) → slice_get (changed_at s.ended (λ side. after_push side (End side.who.source)) s.requests) c ≡ Some side → AreWithinLines side
within_ended s k =
    each_changed (λ (side : Side). after_push side (End side.who.source)) (λ c. AreWithinLines) (λ c. AreWithinLines) s.ended s.requests k.within
    (λ side all. subst (λ (rs : List records.Request). All (λ q. IsWithinLine q.echo) rs) (sym (requests_of-append side.put (End side.who.source ∷ []) ∙ append-nil (requests_of side.put))) all)
    (λ c side other all. all)

within_full : (s : PortState) (channel : ℕ) → IsCounted s → (c : ℕ) (side : Side) → slice_get (changed_at channel after_full s.requests) c ≡ Some side → AreWithinLines side
within_full s channel k = each_changed after_full (λ c. AreWithinLines) (λ c. AreWithinLines) channel s.requests k.within (λ side all. all) (λ c side other all. all)

-- a request was pushed

filled_more : (x : Outstanding) (l : Option (List ℕ)) (xs ys : List Outstanding) → map (λ (y : Outstanding). y.number) xs ≡ map (λ (y : Outstanding). y.number) ys
    → map (λ (y : Outstanding). y.number) (cond (is_some l) (x ∷ xs) xs) ≡ map (λ (y : Outstanding). y.number) (cond (is_some l) (x ∷ ys) ys)
filled_more x None xs ys same = same
filled_more x (Some line) xs ys same = ap (λ (ns : List ℕ). x.number ∷ ns) same

filled_push : (os : List Outstanding) (o : Outstanding) → o.line ≡ None → numbers_filled (os ++ o ∷ []) ≡ numbers_filled os
filled_push [] o none = ap (λ (l : Option (List ℕ)). map (λ (x : Outstanding). x.number) (cond (is_some l) (o ∷ []) [])) none
filled_push (x ∷ os) o none = filled_more x x.line (filter (λ y. is_some y.line) (os ++ o ∷ [])) (filter (λ y. is_some y.line) os) (filled_push os o none)

pub counted_submitted : (s : PortState) (asked : Asked) (r : records.Request) (k : core.PortState) (sides : List Side) (channel : ℕ) → IsCounted s → channel < length s.requests → r.number ≡ s.core.reorder.next → IsWithinLine r.echo
    → k ≡ core.after_prepare s.core asked → sides ≡ changed_at channel (λ side. after_push side (Request r)) s.requests → IsCounted (record s { core = k; requests = sides })
counted_submitted s asked r k sides channel c within number line is pushed =
    let new : Outstanding = record { number = s.core.reorder.next; echo = echo_of asked; line = None; service = None } in
    let change : Side → Side = λ side. after_push side (Request r) in
    let side = some_there s.requests channel within in
    let counted : IsCounted (record s { core = core.after_prepare s.core asked; requests = changed_at channel change s.requests }) = record {
      asked = λ f.
          let same : f r.number ≡ f s.core.reorder.next = ap f number in
          let more = sum_changed f change channel (f r.number) s.requests side.0 side.1 (numbers_pushed f side.0 r) in
          let last = sum_next f s.core.reorder.next in
          omega (arith, more, c.asked f, last, same);
      within = within_pushed s channel r c line;
      got = λ working f. c.got working f ∙ ap (λ (ns : List ℕ). sum_by f (range_with_len 0 s.taken ++ ns)) (sym (filled_push s.core.reorder.outstanding new refl));
    } in
    subst (λ (xs : List Side). IsCounted (record s { core = k; requests = xs })) (sym pushed)
    (subst (λ (x : core.PortState). IsCounted (record s { core = x; requests = changed_at channel change s.requests })) (sym is) counted)

-- the queue was full
full_numbers : (sides : List Side) (channel : ℕ) (o : Option Side) → slice_get sides channel ≡ o → (f : ℕ → ℕ) → sum_by f (numbers_put (option_map_or (λ side. set sides channel (after_full side)) o sides)) ≡ sum_by f (numbers_put sides)
full_numbers sides channel None is f = refl
full_numbers sides channel (Some side) is f =
    let weigh : Side → ℕ = λ x. sum_by f (numbers_of x) in
    omega (arith, sum_flat f numbers_of (set sides channel (after_full side)), sum_flat f numbers_of sides, sum_replaced weigh sides channel side (after_full side) is)

pub counted_busy : (s : PortState) (k : core.PortState) (sides : List Side) (channel : ℕ) → IsCounted s → k ≡ s.core → sides ≡ changed_at channel after_full s.requests → IsCounted (record s { core = k; requests = sides })
counted_busy s k sides channel c same full =
    let counted : IsCounted (after_busy channel s) = record {
      asked = λ f. full_numbers s.requests channel (slice_get s.requests channel) refl f ∙ c.asked f;
      within = within_full s channel c;
      got = c.got;
    } in
    subst (λ (xs : List Side). IsCounted (record s { core = k; requests = xs })) (sym full)
    (subst (λ (x : core.PortState). IsCounted (record s { core = x; requests = changed_at channel after_full s.requests })) (sym same) counted)

-- the awaited completion came

filled_below : (n : ℕ) (service : Service) (line : List ℕ) (first : ℕ) (os : List Outstanding) → map (λ (o : Outstanding). o.number) os ≡ range_with_len first (length os) → n < first → map (filled n service line) os ≡ os
filled_below n service line first [] are below = refl
filled_below n service line first (o ∷ os) are below =
    let head : o.number ≡ first = cc in
    let tail : map (λ (x : Outstanding). x.number) os ≡ range_with_len (first + 1) (length os) = cc in
    let other : eqb o.number n ≡ false = ne_eqb o.number n (λ same. absurd (omega (arith, same, head, below))) in
    ap₂ ◌∷◌ (ap (λ b. cond b (record o { line = Some line; service = Some service }) o) other) (filled_below n service line (first + 1) os tail (omega (arith, below)))

filled_cons : (f : ℕ → ℕ) (o : Outstanding) (os : List Outstanding) → sum_by f (numbers_filled (o ∷ os)) ≡ cond (is_some o.line) (f o.number) 0 + sum_by f (numbers_filled os)
filled_cons f o os = by_line o.line
  where
    by_line : (l : Option (List ℕ)) → sum_by f (map (λ (x : Outstanding). x.number) (cond (is_some l) (o ∷ filter (λ x. is_some x.line) os) (filter (λ x. is_some x.line) os))) ≡ cond (is_some l) (f o.number) 0 + sum_by f (numbers_filled os)
    by_line None = omega arith
    by_line (Some line) = sum_by-cons f o.number (numbers_filled os)

filled_head : (f : ℕ → ℕ) (n : ℕ) (echo : Echo) (service : Service) (line : List ℕ) (first : ℕ) (o : Outstanding) (os : List Outstanding) (b : Bool) → is_awaited n echo o ≡ b → o.number ≡ first
    → map (λ (x : Outstanding). x.number) os ≡ range_with_len (first + 1) (length os) → (b || list_any (is_awaited n echo) os) ≡ true
    → (list_any (is_awaited n echo) os ≡ true → sum_by f (numbers_filled (map (filled n service line) os)) ≡ sum_by f (numbers_filled os) + f n)
    → sum_by f (numbers_filled (map (filled n service line) (o ∷ os))) ≡ sum_by f (numbers_filled (o ∷ os)) + f n
filled_head f n echo service line first o os true e head tail any rest =
    let parts = awaited_parts n echo o e in
    let here : filled n service line o ≡ record o { line = Some line; service = Some service } = ap (λ b. cond b (record o { line = Some line; service = Some service }) o) (eq-eqb o.number n parts.0) in
    let behind = filled_below n service line (first + 1) os tail (omega (arith, parts.0, head)) in
    let list : map (filled n service line) (o ∷ os) ≡ record o { line = Some line; service = Some service } ∷ os = ap₂ ◌∷◌ here behind in
    let before : cond (is_some o.line) (f o.number) 0 ≡ 0 = ap (λ (l : Option (List ℕ)). cond (is_some l) (f o.number) 0) parts.1.1 in
    let number : f o.number ≡ f n = ap f parts.0 in
    omega (arith, ap (λ (xs : List Outstanding). sum_by f (numbers_filled xs)) list, filled_cons f (record o { line = Some line; service = Some service }) os, filled_cons f o os, before, number)
filled_head f n echo service line first o os false e head tail any rest =
    let other : filled n service line o ≡ o = ap (λ b. cond b (record o { line = Some line; service = Some service }) o)
    (ne_eqb o.number n (λ same. absurd (false≢true (sym (unawaited_below n echo (first + 1) os tail (omega (arith, same, head))) ∙ any)))) in
    omega (arith, ap (λ (x : Outstanding). sum_by f (numbers_filled (x ∷ map (filled n service line) os))) other, filled_cons f o (map (filled n service line) os), filled_cons f o os, rest any)

pub numbers_filled-filled : (f : ℕ → ℕ) (n : ℕ) (echo : Echo) (service : Service) (line : List ℕ) (first : ℕ) (os : List Outstanding) → map (λ (o : Outstanding). o.number) os ≡ range_with_len first (length os)
    → list_any (is_awaited n echo) os ≡ true → sum_by f (numbers_filled (map (filled n service line) os)) ≡ sum_by f (numbers_filled os) + f n
numbers_filled-filled f n echo service line first [] are any = absurd (false≢true any)
numbers_filled-filled f n echo service line first (o ∷ os) are any =
    let head : o.number ≡ first = cc in
    let tail : map (λ (x : Outstanding). x.number) os ≡ range_with_len (first + 1) (length os) = cc in
    filled_head f n echo service line first o os (is_awaited n echo o) refl head tail any (numbers_filled-filled f n echo service line (first + 1) os tail)

pub counted_filled : (s : PortState) (d : Completion) (k : core.PortState) (side : TakeSide Delivery Completion) → IsWhole s → IsCounted s → awaits s.core.reorder d.number d.echo ≡ true
    → k ≡ core.after_fill d s.core → side ≡ after_pop s.completions d → IsCounted (record s { core = k; completions = side })
counted_filled s d k side whole c awaited is popped =
    let os = s.core.reorder.outstanding in
    let counted : IsCounted (record s { core = core.after_fill d s.core; completions = after_pop s.completions d }) = record {
      asked = c.asked;
      within = c.within;
      got = λ working f.
          let took = sum_last f (map (λ (x : Completion). x.number) s.completions.took) d.number in
          let list : sum_by f (map (λ (x : Completion). x.number) (s.completions.took ++ d ∷ [])) ≡ sum_by f (map (λ (x : Completion). x.number) s.completions.took ++ d.number ∷ []) =
          ap (sum_by f) (map-append (λ (x : Completion). x.number) s.completions.took (d ∷ [])) in
          let new = numbers_filled-filled f d.number d.echo (core.service_of d) d.line (s.core.reorder.next - length os) os whole.sound.numbers awaited in
          omega (arith, took, list, new, c.got working f, sum_by-append f (range_with_len 0 s.taken) (numbers_filled os), sum_by-append f (range_with_len 0 s.taken) (numbers_filled (map (filled d.number (core.service_of d) d.line) os)));
    } in
    subst (λ (t : TakeSide Delivery Completion). IsCounted (record s { core = k; completions = t })) (sym popped)
    (subst (λ (x : core.PortState). IsCounted (record s { core = x; completions = after_pop s.completions d })) (sym is) counted)

pub counted_stray : (s : PortState) (k : core.PortState) (side : TakeSide Delivery Completion) → IsCounted s → k ≡ s.core → IsCounted (record s { core = k; completions = side; broken = true })
counted_stray s k side c same =
    let counted : IsCounted (record s { completions = side; broken = true }) = record { asked = c.asked; within = c.within; got = λ working. absurd (false≢true (sym working)) } in
    subst (λ (x : core.PortState). IsCounted (record s { core = x; completions = side; broken = true })) (sym same) counted

-- the oldest reply was given up

pub counted_released : (s : PortState) (k : core.PortState) (o : Outstanding) (rest : List Outstanding) → IsCounted s → s.core.reorder.outstanding ≡ o ∷ rest → o.number ≡ s.taken → is_some o.line ≡ true
    → k ≡ core.after_release s.core → IsCounted (record s { core = k; taken = s.taken + 1 })
counted_released s k o rest c list number has is =
    let counted : IsCounted (record s { core = core.after_release s.core; taken = s.taken + 1 }) = record {
      asked = c.asked;
      within = c.within;
      got = λ working f.
          let before = c.got working f in
          let old : sum_by f (numbers_filled s.core.reorder.outstanding) ≡ f s.taken + sum_by f (numbers_filled rest) =
          ap (λ (os : List Outstanding). sum_by f (numbers_filled os)) list ∙ filled_cons f o rest ∙ ap₂ (λ (b : Bool) (n : ℕ). cond b (f n) 0 + sum_by f (numbers_filled rest)) has number in
          let new : sum_by f (numbers_filled (drop 1 s.core.reorder.outstanding)) ≡ sum_by f (numbers_filled rest) = ap (λ (os : List Outstanding). sum_by f (numbers_filled (drop 1 os))) list in
          let range = sum_next f s.taken in
          omega (
            arith,
            before,
            old,
            new,
            range,
            sum_by-append f (range_with_len 0 s.taken) (numbers_filled s.core.reorder.outstanding),
            sum_by-append f (range_with_len 0 (s.taken + 1)) (numbers_filled (drop 1 s.core.reorder.outstanding)),
          );
    } in
    subst (λ (x : core.PortState). IsCounted (record s { core = x; taken = s.taken + 1 })) (sym is) counted

-- an End was pushed

pub counted_ended : (s : PortState) (sides : List Side) → IsCounted s → s.ended < length s.requests → sides ≡ changed_at s.ended (λ side. after_push side (End side.who.source)) s.requests
    → IsCounted (record s { requests = sides; ended = s.ended + 1 })
counted_ended s sides c within pushed =
    let change : Side → Side = λ side. after_push side (End side.who.source) in
    let side = some_there s.requests s.ended within in
    let counted : IsCounted (after_end s) = record {
      asked = λ f. (let more = sum_changed f change s.ended 0 s.requests side.0 side.1 (numbers_ended f side.0 side.0.who.source) in omega (arith, more, c.asked f));
      within = within_ended s c;
      got = c.got;
    } in
    subst (λ (xs : List Side). IsCounted (record s { requests = xs; ended = s.ended + 1 })) (sym pushed) counted

pub counted_finished : (s : PortState) (k : core.PortState) → IsCounted s → k ≡ core.after_finish s.core → IsCounted (record s { core = k })
counted_finished s k c is =
    let counted : IsCounted (finished s) = record { asked = c.asked; within = c.within; got = c.got } in
    subst (λ (x : core.PortState). IsCounted (record s { core = x })) (sym is) counted

-- a request that a port prepared and pushed

none_free : (a b c d : Bool) (x y z w : PortError) (rest : Option PortError) → cond a (Some x) (cond b (Some y) (cond c (Some z) (cond d (Some w) rest))) ≡ None → d ≡ false
none_free true b c d x y z w rest is = cc
none_free false true c d x y z w rest is = cc
none_free false false true d x y z w rest is = cc
none_free false false false true x y z w rest is = cc
none_free false false false false x y z w rest is = refl

denied : (b : Bool) → not b ≡ false → b ≡ true
denied true is = refl
denied false is = cc

pub line_kept : (k : core.PortState) (asked : Asked) → core.refusal_of k asked ≡ None → IsWithinLine (echo_of asked)
line_kept k asked free =
    leb-true _ _ (denied (is_within_line asked) (none_free k.finished (is_none (place_of k.geometry (first_address asked))) (eqb (len_of asked) 0) (not (is_within_line asked))
    Finished OutOfRange EmptyLength CrossesLine (option_map refusal_from (issue_refusal k.reorder)) free))

made_as : (k : core.PortState) (asked : Asked) (made : records.Request) (o : Option Place) → option_map (request_with k asked) o ≡ Some made → (made.number ≡ k.reorder.next) × (made.echo ≡ echo_of asked)
made_as k asked made None e = cc
made_as k asked made (Some place) e =
    let same : request_with k asked place ≡ made = cc in
    (ap (λ (r : records.Request). r.number) (sym same), ap (λ (r : records.Request). r.echo) (sym same))

channel_there : (s : PortState) (asked : Asked) (made : records.Request) (channel : ℕ) → IsWhole s → request_at s.core asked ≡ Some made → made.place.channel ≡ channel → channel < length s.requests
channel_there s asked made channel whole is at =
    let placed = made_at s.core asked made (place_of s.core.geometry (first_address asked)) refl is in
    let inside = placed_in_range s.core.geometry made.echo.addr made.place placed.placed in
    let below : made.place.channel < s.core.geometry.channels = (IsInRange-test s.core.geometry made.place inside).digits Channel in
    omega (arith, below, at, whole.channels)

pub counted_asked : (s : PortState) (asked : Asked) (made : records.Request) (k : core.PortState) (sides : List Side) (channel : ℕ) → IsWhole s → IsCounted s → core.refusal_of s.core asked ≡ None → request_at s.core asked ≡ Some made
    → made.place.channel ≡ channel → k ≡ core.after_prepare s.core asked → sides ≡ changed_at channel (λ side. after_push side (Request made)) s.requests → IsCounted (record s { core = k; requests = sides })
counted_asked s asked made k sides channel whole c free is at prepared pushed =
    let parts = made_as s.core asked made (place_of s.core.geometry (first_address asked)) is in
    counted_submitted s asked made k sides channel c (channel_there s asked made channel whole is at) parts.0 (subst IsWithinLine (sym parts.1) (line_kept s.core asked free)) prepared pushed

-- the reply in front was given up

first_filled : (os : List Outstanding) (n : ℕ) → option_map (λ (a : Answer). a.number) (option_and_then answer_of (slice_get (take_while is_filled os) 0)) ≡ Some n → (o : Outstanding) × (rest : List Outstanding) × (os ≡ o ∷ rest) × (is_some o.line ≡ true)
first_filled [] n is = cc
first_filled (o ∷ os) n is = (o, os, refl, by_line o.line refl is)
  where
    by_line : (l : Option (List ℕ)) → o.line ≡ l → option_map (λ (a : Answer). a.number) (option_and_then answer_of (slice_get (take (cond (is_some o.line) (1 + prefix_len is_filled os) 0) (o ∷ os)) 0)) ≡ Some n → is_some o.line ≡ true
    by_line (Some line) has is = ap is_some has
    by_line None none is =
        let nothing : option_map (λ (a : Answer). a.number) (option_and_then answer_of (slice_get (take (cond (is_some o.line) (1 + prefix_len is_filled os) 0) (o ∷ os)) 0)) ≡ None =
        ap (λ (l : Option (List ℕ)). option_map (λ (a : Answer). a.number) (option_and_then answer_of (slice_get (take (cond (is_some l) (1 + prefix_len is_filled os) 0) (o ∷ os)) 0))) none in
        cc

pub counted_release : (s : PortState) (k : core.PortState) (n : ℕ) → IsWhole s → IsCounted s → front_number s.core.reorder ≡ Some n → k ≡ core.after_release s.core → IsCounted (record s { core = k; taken = s.taken + 1 })
counted_release s k n whole c is released =
    let first = first_filled s.core.reorder.outstanding n is in
    let numbers : map (λ (o : Outstanding). o.number) (first.0 ∷ first.1) ≡ range_with_len (s.core.reorder.next - length s.core.reorder.outstanding) (suc (length first.1)) =
    ap (map (λ (o : Outstanding). o.number)) (sym first.2) ∙ whole.sound.numbers ∙ ap (λ (os : List Outstanding). range_with_len (s.core.reorder.next - length s.core.reorder.outstanding) (length os)) first.2 in
    let head : first.0.number ≡ s.core.reorder.next - length s.core.reorder.outstanding = cc in
    counted_released s k first.0 first.1 c first.2 (omega (arith, head, whole.counted)) first.3 released
