-- A completion that is done is the right one, its port waits for it, and the reply that a port lends is the next.
use Rattle.std.proofs.Common.{◌≡◌, ℕ, zero, suc, ◌+◌, ◌%◌, ◌≤◌, Bool, true, false, cond, ◌||◌, List, [], ◌∷◌, ◌++◌, Option, Some, None, IfSome, take, length, refl, sym, ap, subst, ◌∙◌, arith}
use Rattle.std.specs.List.{find, sum_by, slice_get, slice_range, list_any, AllByRecursion}
use Rattle.std.specs.Option.{option_map, option_and_then}
use Rattle.std.proofs.lemmas.Bool.{eq-eqb, eqb-true}
use Rattle.std.proofs.lemmas.List.{append_assoc}
use Rattle.circular_buffer.proofs.Places.{slice_get-append_right}
use Rattle.ddr_address_map.specs.declared.request.Echo.{Echo}
use Rattle.ddr_address_map.specs.declared.request.Kind.{Kind}
use Rattle.ddr_address_map.specs.declared.request.Kind.TheVariants.{Read, Write}
use Rattle.ddr_address_map.specs.Requests.{Request, Completion}
use Rattle.ddr_channel.specs.Cycle.{line_served}
use Rattle.ddr_channel.specs.History as channel
use Rattle.ddr_channel.specs.History.{Call, Owner}
use Rattle.ddr_channel.specs.Memory.{line_of, line_after}
use Rattle.ddr_channel.specs.Promise.{answer_to, right_answer}
use Rattle.ddr_channel.specs.State as channel_state
use Rattle.ddr_channel.proofs.HeldLemmas.{part_of_sum}
use Rattle.ddr_channel.proofs.ListLemmas.{at_map, mapped_at}
use Rattle.ddr_channel.proofs.PromiseLemmas.{promise_kept}
use Rattle.ddr_reorder.specs.Replies.{Answer, asked_bytes, lent_bytes, answer_of, filled_prefix, has_number, nth_answer, outstanding_at, served_answer}
use Rattle.ddr_reorder.specs.State.{Outstanding, ReorderState, is_same_kind, is_same_echo, is_awaited, awaits}
use Rattle.ddr_world.specs.History.{Opening, Whereabouts, History}
use Rattle.ddr_world.specs.Promise.{bytes_after, bytes_for, reply_of, reply_at, replies_of_port}
use Rattle.ddr_world.specs.State.{PortSide, ChannelSide}
use Rattle.ddr_world.proofs.CoreCounts.{number_at, is_number, weigh_waiting, waits_there}
use Rattle.ddr_world.proofs.CoreKeeps.{requests_in, ChannelKeeps, Right, CoreKeeps, Grows, grows_by, there_still, before_still}
use Rattle.ddr_world.proofs.LineBytes.{IsPlaced, asked_of_line}

-- a completion that is done

pub all_taken : {X : Type 0} (P : X → Type 0) (xs : List X) (n : ℕ) → ((i : ℕ) (x : X) → slice_get xs i ≡ Some x → P x) → AllByRecursion P (take n xs)
all_taken P xs zero each = tt
all_taken P [] (suc n) each = tt
all_taken P (x ∷ xs) (suc n) each = (each 0 x refl, all_taken P xs n (λ i y is. each (suc i) y is))

first_of_both : {X : Type 0} (xs ys : List X) (x : X) → slice_get xs 0 ≡ Some x → slice_get (xs ++ ys) 0 ≡ Some x
first_of_both [] ys x is = cc
first_of_both (z ∷ zs) ys x is = is

pub some_of_map : {X Y : Type 0} (f : X → Y) (o : Option X) (y : Y) → option_map f o ≡ Some y → (x : X) × (o ≡ Some x) × (f x ≡ y)
some_of_map f None y is = cc
some_of_map f (Some x) y is = (x, refl, (let same : f x ≡ y = cc in same))

-- a read is served with what earlier requests left, a write with what it wrote; and so is lent
pub served_bytes : (kind : Kind) (off len addr : ℕ) (burst line : List ℕ) (earlier : List Request) → slice_range burst off (off + len) ≡ bytes_after earlier addr len
    → asked_bytes kind off len (line_served kind burst line) ≡ bytes_for kind earlier addr len
served_bytes Read off len addr burst line earlier is = is
served_bytes Write off len addr burst line earlier is = refl

-- the column command of which a completion tells, and its request
pub record IsAnswer (o : Opening) (calls : List Call) (d : Completion) : Type 0 where
  pub index : ℕ
  pub owner : Owner
  pub request : Request
  pub owned : slice_get (channel.run o.config o.cycle calls).owners index ≡ Some owner
  pub there : slice_get (channel.run o.config o.cycle calls).accepted owner.place ≡ Some request
  pub is : answer_to (channel.run o.config o.cycle calls).state.config (channel.run o.config o.cycle calls).accepted owner request ≡ d

pub done_answer : (o : Opening) (admitted accepted : List Request) (side : ChannelSide) (d : Completion) → (keeps : ChannelKeeps o admitted accepted side) → slice_get side.channel.done 0 ≡ Some d → IsAnswer o keeps.calls d
done_answer o admitted accepted side d keeps done =
    let run = channel.run o.config o.cycle keeps.calls in
    let promise = promise_kept o.config o.cycle keeps.calls keeps.calls_are in
    let first : slice_get run.state.done 0 ≡ Some d = ap (λ (s : channel_state.State). slice_get s.done 0) (sym keeps.state) ∙ done in
    let n = length run.popped in
    let whole : slice_get (run.popped ++ (run.state.done ++ run.state.flight)) n ≡ Some d =
    slice_get-append_right run.popped (run.state.done ++ run.state.flight) n 0 (omega arith) ∙ first_of_both run.state.done run.state.flight d first in
    let joined : slice_get ((run.popped ++ run.state.done) ++ run.state.flight) n ≡ Some d = ap (λ (ds : List Completion). slice_get ds n) (append_assoc run.popped run.state.done run.state.flight) ∙ whole in
    let answer = ap (λ (xs : List (Option Completion)). slice_get xs n) (sym promise.answers) ∙ mapped_at Some ((run.popped ++ run.state.done) ++ run.state.flight) n d joined in
    let found = at_map (right_answer run.state.config run.accepted) run.owners n (Some d) answer in
    let request = some_of_map (answer_to run.state.config run.accepted found.0) (slice_get run.accepted found.0.place) d found.2 in
    record { index = n; owner = found.0; request = request.0; owned = found.1; there = request.1; is = request.2 }

pub done_right : (o : Opening) (h : History) (c : ℕ) (side : ChannelSide) (d : Completion) → CoreKeeps o h → slice_get h.state.channels c ≡ Some side → slice_get side.channel.done 0 ≡ Some d
    → Right o.number h.accepted (h.sent d.port) d
done_right o h c side d k was done =
    let keeps = k.channels c side was in
    let run = channel.run o.config o.cycle keeps.calls in
    let answer = done_answer o (h.admitted c) (h.accepted c) side d keeps done in
    let owner = answer.owner in
    let r = answer.request in
    let is : answer_to run.state.config run.accepted owner r ≡ d = answer.is in
    let more : Grows run.accepted (h.accepted c) = grows_by run.accepted (h.accepted c) (requests_in side.requests) (sym keeps.accepted_are ∙ ap (λ (rs : List Request). rs ++ requests_in side.requests) (sym keeps.admitted_are)) in
    let there = there_still run.accepted (h.accepted c) owner.place r more answer.there in
    let back = k.accepted c owner.place r there in
    let port : r.port ≡ d.port = ap (λ (x : Completion). x.port) is in
    let number : r.number ≡ d.number = ap (λ (x : Completion). x.number) is in
    let echo : r.echo ≡ d.echo = ap (λ (x : Completion). x.echo) is in
    let earlier = take owner.place (h.accepted c) in
    let burst = line_after (take owner.place run.accepted) (line_of r.place) in
    let same : burst ≡ line_after earlier (line_of r.place) = ap (λ (rs : List Request). line_after rs (line_of r.place)) (sym (before_still run.accepted (h.accepted c) owner.place r more answer.there)) in
    let asked = asked_of_line o.config.geometry c r earlier back.placed (all_taken (IsPlaced o.config.geometry c) (h.accepted c) owner.place (λ i w at. (k.accepted c i w at).placed)) in
    let off = r.echo.addr % 64 in
    let lent : asked_bytes r.echo.kind off r.echo.len (line_served r.echo.kind burst r.line) ≡ bytes_for r.echo.kind earlier r.echo.addr r.echo.len =
    served_bytes r.echo.kind off r.echo.len r.echo.addr burst r.line earlier (ap (λ (xs : List ℕ). slice_range xs off (off + r.echo.len)) same ∙ asked) in
    record {
      index = back.index;
      at = record { channel = c; place = owner.place };
      request = r;
      sent_at = ap (λ n. slice_get (h.sent n) back.index) (sym port) ∙ back.sent_at;
      number = sym number ∙ back.number;
      there = there;
      echo = sym echo;
      bytes = ap (λ (x : Completion). lent_bytes x.echo x.line) (sym is) ∙ lent;
    }

-- a completion in the queue of its port

same_kind : (kind : Kind) → is_same_kind kind kind ≡ true
same_kind Read = refl
same_kind Write = refl

same_echo : (a b : Echo) → a ≡ b → is_same_echo a b ≡ true
same_echo a b same = subst (λ (e : Echo). is_same_echo a e ≡ true) same (rw (same_kind a.kind, eq-eqb a.addr a.addr refl, eq-eqb a.len a.len refl) refl)

any_at : {X : Type 0} (test : X → Bool) (xs : List X) (i : ℕ) (x : X) → slice_get xs i ≡ Some x → test x ≡ true → list_any test xs ≡ true
any_at test [] i x is passes = cc
any_at test (y ∷ ys) zero x is passes = let same : y ≡ x = cc in rw (ap test same ∙ passes) refl
any_at test (y ∷ ys) (suc i) x is passes = either (test y) (any_at test ys i x is passes)
  where
    either : (b : Bool) → list_any test ys ≡ true → (b || list_any test ys) ≡ true
    either true found = refl
    either false found = found

-- the port waits for the line: under this number and with this echo
pub record IsAwaited (o : Opening) (h : History) (p : ℕ) (side : PortSide) (d : Completion) : Type 0 where
  pub index : ℕ
  pub entry : Outstanding
  pub there : slice_get side.core.reorder.outstanding index ≡ Some entry
  pub number : entry.number ≡ d.number
  pub line : entry.line ≡ None
  pub right : Right o.number h.accepted (h.sent p) d
  pub place : right.index ≡ length (h.taken p) + index
  pub echo : entry.echo ≡ d.echo

-- two requests at one number of the port are the same
pub same_request : (accepted : ℕ → List Request) (sent : List Whereabouts) (i j : ℕ) (v w : Whereabouts) (q r : Request) → i ≡ j → slice_get sent i ≡ Some v → slice_get sent j ≡ Some w
    → slice_get (accepted v.channel) v.place ≡ Some q → slice_get (accepted w.channel) w.place ≡ Some r → (v ≡ w) × (q ≡ r)
same_request accepted sent i j v w q r same v_at w_at q_there r_there =
    let one : Some v ≡ Some w = sym v_at ∙ ap (slice_get sent) same ∙ w_at in
    let place : v ≡ w = cc in
    let both : Some q ≡ Some r = sym q_there ∙ ap (λ (x : Whereabouts). slice_get (accepted x.channel) x.place) place ∙ r_there in
    let request : q ≡ r = cc in
    (place, request)

pub awaited : (o : Opening) (h : History) (p : ℕ) (side : PortSide) (d : Completion) → CoreKeeps o h → slice_get h.state.ports p ≡ Some side → slice_get side.completions 0 ≡ Some d → IsAwaited o h p side d
awaited o h p side d k was first =
    let keeps = k.ports p side was in
    let f = is_number d.number in
    let one : f d.number ≡ 1 = ap (λ b. cond b 1 0) (eq-eqb d.number d.number refl) in
    let part = part_of_sum (λ (x : Completion). f x.number) side.completions 0 d first in
    let some : 1 ≤ sum_by (weigh_waiting f) side.core.reorder.outstanding = omega (arith, part, one, k.held f p side was) in
    let waits = waits_there d.number side.core.reorder.outstanding some in
    let right = keeps.right 0 d first in
    let settled = keeps.settled waits.index waits.entry waits.there in
    let number = number_at (o.number + length (h.taken p)) side.core.reorder.outstanding waits.index waits.entry keeps.numbers waits.there in
    let place : right.index ≡ length (h.taken p) + waits.index = omega (arith, right.number, waits.number, number) in
    let same = same_request h.accepted (h.sent p) right.index (length (h.taken p) + waits.index) right.at settled.at right.request settled.settled.request place right.sent_at settled.sent_at right.there settled.settled.there in
    record {
      index = waits.index;
      entry = waits.entry;
      there = waits.there;
      number = waits.number;
      line = waits.line;
      right = right;
      place = place;
      echo = settled.settled.echo ∙ ap (λ (r : Request). r.echo) (sym same.1) ∙ sym right.echo;
    }

pub awaited_test : (o : Opening) (h : History) (p : ℕ) (side : PortSide) (d : Completion) → IsAwaited o h p side d → awaits side.core.reorder d.number d.echo ≡ true
awaited_test o h p side d a =
    any_at (is_awaited d.number d.echo) side.core.reorder.outstanding a.index a.entry a.there
    (rw (eq-eqb a.entry.number d.number a.number, same_echo a.entry.echo d.echo a.echo, a.line) refl)

-- the reply that a port lends

-- of a number, the line that came back for it
pub record IsLent (s : ReorderState) (j : ℕ) (a : Answer) : Type 0 where
  pub entry : Outstanding
  pub line : List ℕ
  pub there : slice_get s.outstanding j ≡ Some entry
  pub filled : entry.line ≡ Some line
  pub answer : record { number = entry.number; echo = entry.echo; bytes = lent_bytes entry.echo line } ≡ a

pub some_of_then : {X Y : Type 0} (f : X → Option Y) (o : Option X) (y : Y) → option_and_then f o ≡ Some y → (x : X) × (o ≡ Some x) × (f x ≡ Some y)
some_of_then f None y is = cc
some_of_then f (Some x) y is = (x, refl, is)

pub at_take : {X : Type 0} (n : ℕ) (xs : List X) (k : ℕ) (x : X) → slice_get (take n xs) k ≡ Some x → slice_get xs k ≡ Some x
at_take zero xs k x is = cc
at_take (suc n) [] k x is = is
at_take (suc n) (y ∷ ys) zero x is = is
at_take (suc n) (y ∷ ys) (suc k) x is = at_take n ys k x is

-- an element that passes a test is one of them all
pub record IsFound {X : Type 0} (test : X → Bool) (xs : List X) (x : X) : Type 0 where
  pub place : ℕ
  pub there : slice_get xs place ≡ Some x
  pub passes : test x ≡ true

pub found_place : {X : Type 0} (test : X → Bool) (xs : List X) (x : X) → find test xs ≡ Some x → IsFound test xs x
found_place test [] x is = cc
found_place test (y ∷ ys) x is = by_test (test y) refl is (found_place test ys x)
  where
    by_test : (b : Bool) → test y ≡ b → cond b (Some y) (find test ys) ≡ Some x → (find test ys ≡ Some x → IsFound test ys x) → IsFound test (y ∷ ys) x
    by_test true passes is later = let same : y ≡ x = cc in record { place = 0; there = is; passes = subst (λ z. test z ≡ true) same passes }
    by_test false passes is later = let rest = later is in record { place = suc rest.place; there = rest.there; passes = rest.passes }

lent_by : (s : ReorderState) (j : ℕ) (e : Outstanding) (a : Answer) → slice_get s.outstanding j ≡ Some e → answer_of e ≡ Some a → IsLent s j a
lent_by s j e a there is =
    let found = some_of_map (λ line. record { number = e.number; echo = e.echo; bytes = lent_bytes e.echo line }) e.line a is in
    record { entry = e; line = found.0; there = there; filled = found.1; answer = found.2 }

pub is_front : (s : ReorderState) (a : Answer) → nth_answer s 0 ≡ Some a → IsLent s 0 a
is_front s a is =
    let lent = some_of_then answer_of (slice_get (filled_prefix s) 0) a is in
    lent_by s 0 lent.0 a (at_take _ s.outstanding 0 lent.0 lent.1) lent.2

-- the reply to an outstanding number
pub record IsServed (s : ReorderState) (number : ℕ) (a : Answer) : Type 0 where
  pub place : ℕ
  pub lent : IsLent s place a
  pub number_is : a.number ≡ number

pub is_served : (s : ReorderState) (number : ℕ) (a : Answer) → served_answer s number ≡ Some a → IsServed s number a
unfolding lent_by some_of_then
is_served s number a is =
    let told = some_of_then answer_of (outstanding_at s number) a is in
    let found = found_place (has_number number) s.outstanding told.0 told.1 in
    let lent = lent_by s found.place told.0 a found.there told.2 in
    record {
      place = found.place;
      lent = lent;
      number_is = ap (λ (x : Answer). x.number) (sym lent.answer) ∙ eqb-true told.0.number number found.passes;
    }

pub same_answer : (a b : Answer) → a.number ≡ b.number → a.echo ≡ b.echo → a.bytes ≡ b.bytes → a ≡ b
same_answer a b number echo bytes = λ i. record { number = number i; echo = echo i; bytes = bytes i }

-- it is the right one of the port's replies
pub record IsRightly (o : Opening) (h : History) (p n : ℕ) (a : Answer) : Type 0 where
  pub number : a.number ≡ o.number + n
  pub right : slice_get (replies_of_port h p) n ≡ Some (Some a)

pub lent_right : (o : Opening) (h : History) (p : ℕ) (side : PortSide) (j : ℕ) (a : Answer) → CoreKeeps o h → slice_get h.state.ports p ≡ Some side → IsLent side.core.reorder j a
    → IsRightly o h p (length (h.taken p) + j) a
lent_right o h p side j a k was lent =
    let keeps = k.ports p side was in
    let settled = keeps.settled j lent.entry lent.there in
    let number = number_at (o.number + length (h.taken p)) side.core.reorder.outstanding j lent.entry keeps.numbers lent.there in
    let n = length (h.taken p) + j in
    let at : slice_get (h.sent p) n ≡ Some settled.at = settled.sent_at in
    let sent = k.sent p n settled.at at in
    let r = settled.settled.request in
    let same = same_request h.accepted (h.sent p) n n settled.at settled.at sent.request r refl at at sent.there settled.settled.there in
    let its_number : sent.request.number ≡ r.number = ap (λ (q : Request). q.number) same.1 in
    let bytes : lent_bytes lent.entry.echo lent.line ≡ (reply_of (take settled.at.place (h.accepted settled.at.channel)) r).bytes =
    subst (λ (l : Option (List ℕ)). IfSome l (λ line. lent_bytes lent.entry.echo line ≡ (reply_of (take settled.at.place (h.accepted settled.at.channel)) r).bytes)) lent.filled settled.settled.line in
    let reply : a ≡ reply_of (take settled.at.place (h.accepted settled.at.channel)) r =
    sym lent.answer ∙ same_answer _ _ (let numbers : lent.entry.number ≡ r.number = omega (arith, number, sent.number, its_number) in numbers) settled.settled.echo bytes in
    let told : a.number ≡ lent.entry.number = ap (λ (x : Answer). x.number) (sym lent.answer) in
    record {
      number = omega (arith, number, told);
      right =
          mapped_at (reply_at h) (h.sent p) n settled.at at
          ∙ ap (λ (x : Option Request). Some (option_map (reply_of (take settled.at.place (h.accepted settled.at.channel))) x)) settled.settled.there
          ∙ ap (λ (x : Answer). Some (Some x)) (sym reply);
    }

-- that in front is the next one
pub lent_next : (o : Opening) (h : History) (p : ℕ) (side : PortSide) (a : Answer) → CoreKeeps o h → slice_get h.state.ports p ≡ Some side → nth_answer side.core.reorder 0 ≡ Some a
    → slice_get (replies_of_port h p) (length (h.taken p)) ≡ Some (Some a)
lent_next o h p side a k was is =
    ap (slice_get (replies_of_port h p)) (omega arith) ∙ (lent_right o h p side 0 a k was (is_front side.core.reorder a is)).right
