-- What each call leaves a port in its thread: what was asked, what came, and the text of the replies.
use Rattle.std.proofs.Common.{◌≡◌, ℕ, zero, suc, ◌+◌, ◌-◌, ◌<◌, ◌==◌, Bool, true, false, cond, eqb, eq-eqb, List, [], ◌∷◌, ◌++◌, length, filter, map, drop, get_or, take, Option, Some, None, Result, Ok, Err, IfOk, IfErr, OnSome, IfNone, slice_get, refl, sym, ap, ap₂, ◌∙◌, subst, arith, add-one, append_assoc, length-append, string_bytes}
use Rattle.std.specs.List.{cons_option, take_while}
use Rattle.std.specs.Option.{option_and_then, option_map, option_map_or, option_to_list}
use Rattle.std.proofs.lemmas.Bool.{eqb-true, false≢true}
use Rattle.std.proofs.lemmas.List.{append-nil, length-map, map-append, take_more}
use Rattle.std.proofs.lemmas.List.Elements.{filter-append, filter_map-append}
use Rattle.ddr_timing.specs.declared.geometry.Geometry.{Geometry}
use Rattle.ddr_address_map.specs.Requests.{Request, Completion}
use Rattle.ddr_reorder.specs.Replies.{Answer, answer_of, front_number, is_filled, nth_answer}
use Rattle.ddr_reorder.specs.State.{Outstanding, ReorderState, filled}
use Rattle.ddr_ports.specs.Asked.{Asked, echo_of}
use Rattle.ddr_ports.specs.State.{request_at, service_of}
use Rattle.ddr_workers.specs.declared.completions.Delivery.{Delivery}
use Rattle.ddr_workers.specs.declared.port.PollAnswer.{PollAnswer}
use Rattle.ddr_workers.specs.declared.port.PollAnswer.TheVariants.{Filled, Empty}
use Rattle.ddr_workers.specs.declared.refusal.PollError.{PollError}
use Rattle.ddr_workers.specs.declared.refusal.PollError.TheVariants as poll
use Rattle.ddr_workers.specs.declared.refusal.SubmitError.{SubmitError}
use Rattle.ddr_workers.specs.declared.refusal.SubmitError.TheVariants as submit
use Rattle.ddr_world.specs.declared.item.Item.{Item}
use Rattle.ddr_world.specs.declared.item.Item.TheVariants as item
use Rattle.ddr_workers.specs.declared.requests.Route.{Route}
use Rattle.ddr_workers.specs.Port.{PortState, PortEnded, IsEndOfPort, IsFinished, IsHeldUp, IsOfFirst, IsNotPolled, IsNotSubmitted, IsPolled, IsSamePort, IsSubmitted, after_busy, after_ends, after_filled, after_nothing, after_release, after_stray, after_submit, finished, first_with, reply_of}
use Rattle.ddr_workers.specs.Sides.{PutSide, TakeSide, after_full, after_push, changed_at}
use Rattle.ddr_workers.specs.Worker.{requests_of}
use Rattle.ddr_workers.proofs.ChangedLemmas.{each_changed, there_still}
use Rattle.ddr_workers.proofs.CountedLemmas.{requests_of-append}
use Rattle.ddr_run.specs.declared.hosting.Host.TheInside.{Inside}
use Rattle.ddr_run.specs.Hosting.{ArePushed, AreAsked, HasAsked, HasFinished, IsHosting, IsNewPort, asked_at, asks_of, line_of, replies_text, requests_from, to_channel}
use Rattle.ddr_text.specs.Replies.{reply_text}
use Rattle.ddr_text.specs.Script.{view}
use Rattle.ddr_text.specs.declared.script.Instruction as kept

abbrev Side : Type 0
Side = PutSide Route Item

-- ---- what was pushed

pushed_none : (sides : List Side) → ArePushed [] sides sides
pushed_none sides = λ c side is. (side, is, sym (append-nil (requests_of side.put)))

-- one side was changed, on which the requests of its channel were pushed, and none are of another
pushed_at : (made : List Request) (channel : ℕ) (change : Side → Side) (sides : List Side) → ((x : Side) → requests_of (change x).put ≡ requests_of x.put ++ to_channel channel made) → ((k : ℕ) → (k ≡ channel → ⊥) → to_channel k made ≡ [])
    → ArePushed made sides (changed_at channel change sides)
pushed_at made channel change sides here apart =
    each_changed change (λ k x. slice_get sides k ≡ Some x) (λ k y. (x : Side) × (slice_get sides k ≡ Some x) × (requests_of y.put ≡ requests_of x.put ++ to_channel k made)) channel sides (λ k x is. is)
    (λ x is. (x, is, here x))
    (λ k x differ is. (x, is, sym (ap (λ rs. requests_of x.put ++ rs) (apart k differ) ∙ append-nil (requests_of x.put))))

pushed_next : (xs ys : List Request) (a b d : List Side) → ArePushed xs a b → ArePushed ys b d → ArePushed (xs ++ ys) a d
pushed_next xs ys a b d before after = λ c side is.
    let last = after c side is in
    let first = before c last.0 last.1 in (
      first.0,
      first.1,
      last.2 ∙ ap (λ rs. rs ++ to_channel c ys) first.2 ∙ append_assoc (requests_of first.0.put) (to_channel c xs) (to_channel c ys)
          ∙ ap (λ rs. requests_of first.0.put ++ rs) (sym (filter-append (λ (r : Request). r.place.channel == c) xs ys)),
    )

one_here : (r : Request) → to_channel r.place.channel (r ∷ []) ≡ r ∷ []
one_here r = ap (λ b. cond b (r ∷ []) []) (eq-eqb r.place.channel r.place.channel refl)

one_apart : (r : Request) (k : ℕ) → (k ≡ r.place.channel → ⊥) → to_channel k (r ∷ []) ≡ []
one_apart r k differ = go (eqb r.place.channel k) refl
  where
    go : (b : Bool) → eqb r.place.channel k ≡ b → cond b (r ∷ []) [] ≡ []
    go true e = absurd (differ (sym (eqb-true r.place.channel k e)))
    go false e = refl

-- ---- what was asked

requests_from-append : (g : Geometry) (port n : ℕ) (xs ys : List Asked) → requests_from g port n (xs ++ ys) ≡ requests_from g port n xs ++ requests_from g port (n + length xs) ys
requests_from-append g port n [] ys = ap (λ m. requests_from g port m ys) (omega arith)
requests_from-append g port n (a ∷ xs) ys =
    let here = request_at (record { port = port; geometry = g; reorder = record { window = 0; next = n; outstanding = [] }; finished = false }) a in
    ap (λ rs. here ∷ rs) (requests_from-append g port (n + 1) xs ys ∙ ap (λ m. requests_from g port (n + 1) xs ++ requests_from g port m ys) (omega arith))

map-joined : (xs ys : List Request) → map (λ (r : Request). Some r) (xs ++ ys) ≡ map (λ (r : Request). Some r) xs ++ map (λ (r : Request). Some r) ys
map-joined [] ys = refl
map-joined (a ∷ xs) ys = ap (λ rs. Some a ∷ rs) (map-joined xs ys)

same_next : (s t u : PortState) → IsSamePort s t → IsSamePort t u → IsSamePort s u
same_next s t u before after = record {
  id = after.id ∙ before.id;
  port = after.port ∙ before.port;
  requests = after.requests ∙ before.requests;
  completions = after.completions ∙ before.completions;
}

pub same_self : (s : PortState) → IsSamePort s s
same_self s = record { id = refl; port = refl; requests = refl; completions = refl }

-- nothing was asked
pub asked_none : (s : PortState) → HasAsked s s []
asked_none s = record { same = same_self s; geometry = refl; next = omega arith; made = []; made_are = refl; pushed = pushed_none s.requests }

-- one part after another
pub asked_next : (s t u : PortState) (xs ys : List Asked) → HasAsked s t xs → HasAsked t u ys → HasAsked s u (xs ++ ys)
asked_next s t u xs ys before after =
    let moved : requests_from t.core.geometry t.core.port t.core.reorder.next ys ≡ requests_from s.core.geometry s.core.port (s.core.reorder.next + length xs) ys =
    ap (λ (g : Geometry). requests_from g t.core.port t.core.reorder.next ys) before.geometry
    ∙ ap (λ p. requests_from s.core.geometry p t.core.reorder.next ys) before.same.port
    ∙ ap (λ n. requests_from s.core.geometry s.core.port n ys) before.next in
    record {
      same = same_next s t u before.same after.same;
      geometry = after.geometry ∙ before.geometry;
      next = omega (arith, before.next, after.next, length-append xs ys);
      made = before.made ++ after.made;
      made_are = map-joined before.made after.made ∙ ap₂ ◌++◌ before.made_are (after.made_are ∙ moved) ∙ sym (requests_from-append s.core.geometry s.core.port s.core.reorder.next xs ys);
      pushed = pushed_next before.made after.made s.requests t.requests u.requests before.pushed after.pushed;
    }

-- the sides pushed nothing, and the core stayed but for what is outstanding
asked_still : (s t : PortState) → IsSamePort s t → t.core.geometry ≡ s.core.geometry → t.core.reorder.next ≡ s.core.reorder.next → ArePushed [] s.requests t.requests → HasAsked s t []
asked_still s t same geometry next pushed = record { same = same; geometry = geometry; next = omega (arith, next); made = []; made_are = refl; pushed = pushed }

full_nothing : (channel : ℕ) (sides : List Side) → ArePushed [] sides (changed_at channel after_full sides)
full_nothing channel sides = pushed_at [] channel after_full sides (λ x. sym (append-nil (requests_of x.put))) (λ k differ. refl)

taken_one : (s : PortState) (asked : Asked) (made : Request) → request_at s.core asked ≡ Some made → IsSamePort s (after_submit asked made s) → HasAsked s (after_submit asked made s) (asked ∷ [])
taken_one s asked made is same = record {
  same = same;
  geometry = refl;
  next = refl;
  made = made ∷ [];
  made_are = ap (λ (r : Option Request). r ∷ []) (sym is);
  pushed = pushed_at (made ∷ []) made.place.channel (λ (x : Side). after_push x (item.Request made)) s.requests
      (λ x. requests_of-append x.put (item.Request made ∷ []) ∙ ap (λ rs. requests_of x.put ++ rs) (sym (one_here made))) (one_apart made);
}

-- a request that was asked for, and one that was not taken
pub asked_one : (s t : PortState) (asked : Asked) (n : ℕ) → IsSamePort s t → IsSubmitted s t asked n → HasAsked s t (asked ∷ [])
asked_one s t asked n same is =
    subst (λ u. HasAsked s u (asked ∷ [])) (sym is.state) (taken_one s asked is.made is.made_is (subst (IsSamePort s) is.state same))

pub asked_not : (s t : PortState) (asked : Asked) (error : SubmitError) → IsSamePort s t → IsNotSubmitted s t asked error → HasAsked s t []
asked_not s t asked (submit.Busy channel) same is =
    subst (λ u. HasAsked s u []) (sym is.state) (asked_still s (after_busy channel s) (subst (IsSamePort s) is.state same) refl refl (full_nothing channel s.requests))
asked_not s t asked submit.Broken same is = subst (λ u. HasAsked s u []) (sym is.1) (asked_none s)
asked_not s t asked (submit.Refused cause) same is = subst (λ u. HasAsked s u []) (sym is.1) (asked_none s)

-- a poll
polled_filled : (s : PortState) (done : Completion) → IsSamePort s (after_filled done s) → HasAsked s (after_filled done s) []
polled_filled s done same = asked_still s (after_filled done s) same refl refl (pushed_none s.requests)

polled_stray : (s : PortState) (done : Completion) → IsSamePort s (after_stray done s) → HasAsked s (after_stray done s) []
polled_stray s done same = asked_still s (after_stray done s) same refl refl (pushed_none s.requests)

pub asked_polled : (s t : PortState) (r : Result PollAnswer PollError) → IsSamePort s t → IfOk r (IsPolled s t) → IfErr r (IsNotPolled s t) → HasAsked s t []
asked_polled s t (Ok (Filled n)) same is err = subst (λ u. HasAsked s u []) (sym is.state) (polled_filled s is.done (subst (IsSamePort s) is.state same))
asked_polled s t (Ok Empty) same is err = subst (λ u. HasAsked s u []) (sym is.state) (asked_still s (after_nothing s) (subst (IsSamePort s) is.state same) refl refl (pushed_none s.requests))
asked_polled s t (Err poll.Broken) same ok is = subst (λ u. HasAsked s u []) (sym is.1) (asked_none s)
asked_polled s t (Err poll.Stray) same ok is = subst (λ u. HasAsked s u []) (sym is.state) (polled_stray s is.done (subst (IsSamePort s) is.state same))

-- the oldest reply was given up, if it was ready
pub asked_released : (s t : PortState) (released : Option ℕ) → IsSamePort s t → OnSome released (t ≡ after_release s) → IfNone released (t ≡ s) → HasAsked s t []
asked_released s t (Some n) same some none = subst (λ u. HasAsked s u []) (sym some) (asked_still s (after_release s) (subst (IsSamePort s) some same) refl refl (pushed_none s.requests))
asked_released s t None same some none = subst (λ u. HasAsked s u []) (sym none) (asked_none s)

-- ---- what came, and its text

came_still : (dones : List Completion) (d : Completion) (n : ℕ) (done : Completion) → first_with n dones ≡ Some done → first_with n (dones ++ d ∷ []) ≡ Some done
came_still dones d n done is =
    let is_of : Completion → Bool = λ x. x.number == n in
    ap (λ xs. slice_get xs 0) (filter-append is_of dones (d ∷ [])) ∙ there_still (filter is_of dones) (filter is_of (d ∷ [])) 0 done is

text_still : (port : ℕ) (dones : List Completion) (d : Completion) (taken : ℕ) → ((n : ℕ) → n < taken → (done : Completion) × (first_with n dones ≡ Some done)) → replies_text port (dones ++ d ∷ []) taken ≡ replies_text port dones taken
text_still port dones d zero came = refl
text_still port dones d (suc n) came =
    let here = came n (omega arith) in
    let line : Option Completion → List ℕ = λ o. option_map_or (λ done. reply_text port (reply_of done)) o [] in
    ap₂ ◌++◌ (text_still port dones d n (λ m below. came m (omega (arith, below)))) (ap line (came_still dones d n here.0 here.1 ∙ sym here.1))

reply_came : (o : Option Completion) (answer : Answer) → option_map reply_of o ≡ Some answer → (done : Completion) × (o ≡ Some done) × (reply_of done ≡ answer)
reply_came None answer e = cc
reply_came (Some done) answer e = (done, refl, cc)

text_more : (port : ℕ) (dones : List Completion) (taken : ℕ) (answer : Answer) (text line whole : List ℕ) → answer.number ≡ taken → option_map reply_of (first_with answer.number dones) ≡ Some answer
    → text ≡ replies_text port dones taken → line ≡ reply_text port answer → whole ≡ text ++ line → whole ≡ replies_text port dones (taken + 1)
text_more port dones taken answer text line whole at is so_far line_is whole_is =
    let came = reply_came (first_with taken dones) answer (subst (λ n. option_map reply_of (first_with n dones) ≡ Some answer) at is) in
    let line_of_it : line_of port dones taken ≡ line = ap (λ (o : Option Completion). option_map_or (λ done. reply_text port (reply_of done)) o []) came.1 ∙ ap (reply_text port) came.2 ∙ sym line_is in
    whole_is ∙ ap₂ ◌++◌ so_far (sym line_of_it) ∙ ap (replies_text port dones) (sym (add-one taken))

-- a step of the port that neither popped nor gave up
still_hosting : (a : Inside) (q : PortState) → IsHosting a → q.core.port ≡ a.port.core.port → q.taken ≡ a.port.taken → q.taken + length q.core.reorder.outstanding ≡ q.core.reorder.next → q.completions.took ≡ a.port.completions.took → IsHosting (record a { port = q })
still_hosting a q kept port taken counted took = record {
  number = kept.number ∙ sym port;
  counted = counted;
  came = subst (λ (xs : List Completion). (n : ℕ) → n < q.taken → (done : Completion) × (first_with n xs ≡ Some done)) (sym took)
      (λ n below. kept.came n (omega (arith, below, taken)));
  text = kept.text ∙ ap₂ (replies_text a.number) (sym took) (sym taken);
}

-- a step that popped
popped_hosting : (a : Inside) (q : PortState) (done : Completion) → IsHosting a → q.core.port ≡ a.port.core.port → q.taken ≡ a.port.taken → q.taken + length q.core.reorder.outstanding ≡ q.core.reorder.next → q.completions.took ≡ a.port.completions.took ++ done ∷ [] → IsHosting (record a { port = q })
popped_hosting a q done kept port taken counted took = record {
  number = kept.number ∙ sym port;
  counted = counted;
  came = subst (λ (xs : List Completion). (n : ℕ) → n < q.taken → (d : Completion) × (first_with n xs ≡ Some d)) (sym took)
      (λ n below. let before = kept.came n (omega (arith, below, taken)) in (before.0, came_still a.port.completions.took done n before.0 before.1));
  text = kept.text ∙ sym (text_still a.number a.port.completions.took done a.port.taken kept.came) ∙ ap₂ (replies_text a.number) (sym took) (sym taken);
}

pub hosting_submitted : (a : Inside) (q : PortState) (asked : Asked) (r : Result ℕ SubmitError) → IsHosting a → IfOk r (IsSubmitted a.port q asked) → IfErr r (IsNotSubmitted a.port q asked) → IsHosting (record a { port = q })
hosting_submitted a q asked (Ok n) kept is err =
    subst (λ u. IsHosting (record a { port = u })) (sym is.state) (still_hosting a (after_submit asked is.made a.port) kept refl refl (omega (arith, kept.counted, length-append a.port.core.reorder.outstanding (record { number = a.port.core.reorder.next; echo = echo_of asked; line = None; service = None } ∷ []))) refl)
hosting_submitted a q asked (Err (submit.Busy channel)) kept ok is = subst (λ u. IsHosting (record a { port = u })) (sym is.state) (still_hosting a (after_busy channel a.port) kept refl refl kept.counted refl)
hosting_submitted a q asked (Err submit.Broken) kept ok is = subst (λ u. IsHosting (record a { port = u })) (sym is.1) kept
hosting_submitted a q asked (Err (submit.Refused cause)) kept ok is = subst (λ u. IsHosting (record a { port = u })) (sym is.1) kept

pub hosting_polled : (a : Inside) (q : PortState) (r : Result PollAnswer PollError) → IsHosting a → IfOk r (IsPolled a.port q) → IfErr r (IsNotPolled a.port q) → IsHosting (record a { port = q })
hosting_polled a q (Ok (Filled n)) kept is err =
    subst (λ u. IsHosting (record a { port = u })) (sym is.state)
    (popped_hosting a (after_filled is.done a.port) is.done kept refl refl (omega (arith, kept.counted, length-map a.port.core.reorder.outstanding (filled is.done.number (service_of is.done) is.done.line))) refl)
hosting_polled a q (Ok Empty) kept is err = subst (λ u. IsHosting (record a { port = u })) (sym is.state) (still_hosting a (after_nothing a.port) kept refl refl kept.counted refl)
hosting_polled a q (Err poll.Broken) kept ok is = subst (λ u. IsHosting (record a { port = u })) (sym is.1) kept
hosting_polled a q (Err poll.Stray) kept ok is = subst (λ u. IsHosting (record a { port = u })) (sym is.state) (popped_hosting a (after_stray is.done a.port) is.done kept refl refl kept.counted refl)

one_fewer : (answer : Answer) (os : List Outstanding) → Some answer ≡ option_and_then answer_of (slice_get (take_while is_filled os) 0) → length (drop 1 os) + 1 ≡ length os
one_fewer answer [] e = cc
one_fewer answer (o ∷ os) e = omega arith

-- the oldest reply was printed and given up
pub hosting_released : (a b : Inside) (reply : Answer) (line : List ℕ) (released : Option ℕ) → IsHosting a → b.number ≡ a.number → string_bytes b.text ≡ string_bytes a.text ++ line → line ≡ reply_text a.number reply
    → Some reply ≡ nth_answer a.port.core.reorder 0 → IsOfFirst a.port reply → reply.number ≡ a.port.taken → released ≡ front_number a.port.core.reorder → OnSome released (b.port ≡ after_release a.port) → IsHosting b
hosting_released a b reply line released kept number text line_is front first oldest number_is some =
    let there : released ≡ Some reply.number = number_is ∙ ap (λ (o : Option Answer). option_map (λ answer. answer.number) o) (sym front) in
    let port : b.port ≡ after_release a.port = subst (λ (o : Option ℕ). OnSome o (b.port ≡ after_release a.port)) there some in
    let came = reply_came (first_with reply.number a.port.completions.took) reply first in
    let taken : b.port.taken ≡ a.port.taken + 1 = ap (λ (p : PortState). p.taken) port in
    let took : b.port.completions.took ≡ a.port.completions.took = ap (λ (p : PortState). p.completions.took) port in
    let next : b.port.core.reorder.next ≡ a.port.core.reorder.next = ap (λ (p : PortState). p.core.reorder.next) port in
    let left : length b.port.core.reorder.outstanding ≡ length (drop 1 a.port.core.reorder.outstanding) = ap (λ (p : PortState). length p.core.reorder.outstanding) port in
    record {
      number = number ∙ kept.number ∙ sym (ap (λ (p : PortState). p.core.port) port);
      counted = omega (arith, kept.counted, taken, next, left, one_fewer reply a.port.core.reorder.outstanding front);
      came = λ n below. came_there a.port.completions.took b.port.completions.took a.port.taken n (n == a.port.taken) refl (omega (arith, below, taken)) kept.came came.0 (subst (λ m. first_with m a.port.completions.took ≡ Some came.0) oldest came.1) took;
      text = text_more a.number a.port.completions.took a.port.taken reply (string_bytes a.text) line (string_bytes b.text) oldest first kept.text line_is text
          ∙ ap (λ n. replies_text n a.port.completions.took (a.port.taken + 1)) (sym number) ∙ ap₂ (replies_text b.number) (sym took) (sym taken);
    }
  where
    came_there : (xs ys : List Completion) (taken n : ℕ) (b : Bool) → (n == taken) ≡ b → n < taken + 1 → ((m : ℕ) → m < taken → (d : Completion) × (first_with m xs ≡ Some d)) → (done : Completion) → first_with taken xs ≡ Some done → ys ≡ xs → (d : Completion) × (first_with n ys ≡ Some d)
    came_there xs ys taken n true e below each done is same = (done, ap (first_with n) same ∙ ap (λ m. first_with m xs) (eqb-true n taken e) ∙ is)
    came_there xs ys taken n false e below each done is same =
        let before = each n (below_it n taken (λ eq. false≢true (sym e ∙ eq-eqb n taken eq)) below) in
        (before.0, ap (first_with n) same ∙ before.1)
      where
        below_it : (n taken : ℕ) → (n ≡ taken → ⊥) → n < taken + 1 → n < taken
        below_it n taken differ below = grind (arith, differ, below)

-- ---- the end

ends_pushed : (n : ℕ) (s : PortState) → ArePushed [] s.requests (after_ends n s).requests
ends_pushed zero s = pushed_none s.requests
ends_pushed (suc n) s =
    let t = after_ends n s in
    pushed_next [] [] s.requests t.requests (after_ends (suc n) s).requests (ends_pushed n s)
    (pushed_at [] t.ended (λ (x : Side). after_push x (item.End x.who.source)) t.requests (λ x. requests_of-append x.put (item.End x.who.source ∷ [])) (λ k differ. refl))

-- the Ends change the sides alone
pub record HasSameReplies (s t : PortState) : Type 0 where
  pub reorder : t.core.reorder ≡ s.core.reorder
  pub geometry : t.core.geometry ≡ s.core.geometry
  pub taken : t.taken ≡ s.taken
  pub completions : t.completions ≡ s.completions

ends_same : (n : ℕ) (s : PortState) → HasSameReplies s (after_ends n s)
ends_same zero s = record { reorder = refl; geometry = refl; taken = refl; completions = refl }
ends_same (suc n) s = let before = ends_same n s in record { reorder = before.reorder; geometry = before.geometry; taken = before.taken; completions = before.completions }

-- a port that couldn't be finished, since a queue was full
pub held_same : (s t : PortState) (channel : ℕ) → IsHeldUp (finished s) t channel → HasSameReplies s t
held_same s t channel is =
    let ends = ends_same (channel - s.ended) (finished s) in
    subst (HasSameReplies s) (sym is.state) (record { reorder = ends.reorder; geometry = ends.geometry; taken = ends.taken; completions = ends.completions })

pub asked_held : (s t : PortState) (channel : ℕ) → IsSamePort s t → IsHeldUp (finished s) t channel → HasAsked s t []
asked_held s t channel same is =
    let replies = held_same s t channel is in
    let ended = after_ends (channel - s.ended) (finished s) in
    asked_still s t same replies.geometry (ap (λ (r : ReorderState). r.next) replies.reorder)
    (subst (λ (u : PortState). ArePushed [] s.requests u.requests) (sym is.state)
    (pushed_next [] [] s.requests ended.requests (after_busy channel ended).requests (ends_pushed (channel - s.ended) (finished s)) (full_nothing channel ended.requests)))

-- a port that was finished
pub finished_from : (s t : PortState) (e : PortEnded) → HasAsked s t [] → t.taken + length t.core.reorder.outstanding ≡ t.core.reorder.next → IsFinished t e → IsEndOfPort t e → HasFinished s e
finished_from s t e asked counted is end =
    let n = length t.requests - t.ended in
    let ends = ends_same n (finished t) in
    let taken : e.taken ≡ t.taken = ap (λ (x : PortEnded). x.taken) is.left ∙ ends.taken in
    record {
      end = record { id = end.id ∙ asked.same.id; port = end.port ∙ asked.same.port; requests = end.requests ∙ asked.same.requests; completions = end.completions ∙ asked.same.completions };
      taken = omega (arith, taken, counted, is.nothing, asked.next);
      pushed = pushed_next [] [] s.requests t.requests e.requests (subst (λ made. ArePushed made s.requests t.requests) (none_made asked.made asked.made_are) asked.pushed)
          (subst (λ (x : PortEnded). ArePushed [] t.requests x.requests) (sym is.left) (ends_pushed n (finished t)));
    }
  where
    none_made : (made : List Request) → map (λ (r : Request). Some r) made ≡ [] → made ≡ []
    none_made [] e = refl
    none_made (r ∷ rs) e = cc

pub finished_text : (s t : PortState) (e : PortEnded) (text : List ℕ) → t.taken ≡ s.taken → t.completions.took ≡ s.completions.took → text ≡ replies_text s.core.port s.completions.took s.taken → IsFinished t e → text ≡ replies_text s.core.port e.completions.took e.taken
finished_text s t e text taken took is_text is =
    let n = length t.requests - t.ended in
    let ends = ends_same n (finished t) in
    let end_taken : e.taken ≡ s.taken = ap (λ (x : PortEnded). x.taken) is.left ∙ ends.taken ∙ taken in
    let end_took : e.completions.took ≡ s.completions.took = ap (λ (x : PortEnded). x.completions.took) is.left ∙ ap (λ (c : TakeSide Delivery Completion). c.took) ends.completions ∙ took in
    is_text ∙ ap₂ (replies_text s.core.port) (sym end_took) (sym end_taken)

-- a new port that was asked for these, and was finished
pub asked_whole : (number : ℕ) (s t u : PortState) (e : PortEnded) (asks : List Asked) → IsNewPort number s → HasAsked s t asks → HasAsked t u [] → HasFinished u e → AreAsked s.core.geometry number asks e
asked_whole number s t u e asks new first second end =
    let whole = asked_next s t u asks [] first second in
    let pushed = pushed_next whole.made [] s.requests u.requests e.requests whole.pushed end.pushed in
    let none = append-nil asks in
    record {
      made = whole.made;
      made_are = whole.made_are ∙ ap (requests_from s.core.geometry s.core.port s.core.reorder.next) none
          ∙ ap₂ (λ p n. requests_from s.core.geometry p n asks) new.port new.next;
      pushed = λ c side below is.
          let before = pushed c side is in
          before.2 ∙ ap (λ items. requests_of items ++ to_channel c (whole.made ++ [])) (new.pushed c before.0 below before.1) ∙ ap (to_channel c) (append-nil whole.made);
      taken = omega (arith, end.taken, whole.next, new.next, ap (λ (xs : List Asked). length xs) none);
    }

pub end_whole : (number : ℕ) (s t u : PortState) (e : PortEnded) (asks : List Asked) → HasAsked s t asks → HasAsked t u [] → HasFinished u e → IsEndOfPort s e
end_whole number s t u e asks first second end =
    let whole = same_next s t u first.same second.same in
    record { id = end.end.id ∙ whole.id; port = end.end.port ∙ whole.port; requests = end.end.requests ∙ whole.requests; completions = end.end.completions ∙ whole.completions }

-- ---- the instructions

pub taken_at : (k : ℕ) (x : kept.Instruction) (all : List kept.Instruction) → k < length all → x ≡ get_or all k x → (port : ℕ) → asks_of port (map view (take (k + 1) all)) ≡ asks_of port (map view (take k all)) ++ option_to_list (asked_at port (view x))
taken_at k x all within is port =
    ap (λ ys. asks_of port (map view ys)) (take_more all k x within ∙ ap (λ y. take k all ++ y ∷ []) (sym is)) ∙ ap (asks_of port) (map-append view (take k all) (x ∷ [])) ∙ filter_map-append (asked_at port) (map view (take k all)) (view x ∷ [])
    ∙ ap (λ ys. asks_of port (map view (take k all)) ++ ys) (one (asked_at port (view x)))
  where
    one : (o : Option Asked) → cons_option o [] ≡ option_to_list o
    one (Some a) = refl
    one None = refl
