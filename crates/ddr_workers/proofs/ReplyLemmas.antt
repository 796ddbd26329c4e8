-- The first completion of each number, as more of them come.
use Rattle.std.proofs.Common.{◌≡◌, ℕ, ◌+◌, ◌<◌, Bool, true, false, cond, ◌||◌, ◌&&◌, eqb, nat_eq, eq-eqb, List, [], ◌∷◌, ◌++◌, All, length, map, filter, Option, Some, None, IfSome, is_none, slice_get, refl, sym, ap, ◌∙◌, arith}
use Rattle.std.specs.Option.{option_map}
use Rattle.std.specs.List.{list_any, range_with_len}
use Rattle.std.proofs.lemmas.Bool.{eqb-true, ne_eqb, and_parts, false≢true}
use Rattle.std.proofs.lemmas.List.Elements.{filter-append, All-nil, All-cons, All-head, All-tail, All-weaker, All-map}
use Rattle.ddr_address_map.specs.declared.request.Echo.{Echo}
use Rattle.ddr_address_map.specs.Requests.{Completion}
use Rattle.ddr_reorder.specs.declared.reply.Service.{Service}
use Rattle.ddr_reorder.specs.Replies.{Answer, answer_of}
use Rattle.ddr_reorder.specs.State.{Outstanding, is_same_echo, is_awaited, filled}
use Rattle.ddr_reorder.proofs.Fills.{same_echo}
use Rattle.ddr_ports.specs.State.{service_of}
use Rattle.ddr_workers.specs.Port.{first_with, reply_of}
use Rattle.ddr_workers.specs.PortView.{IsReady, IsAwaited}

-- the first of two lists, one behind the other

first_of_both : {X : Type 0} (xs ys : List X) (x : X) → slice_get xs 0 ≡ Some x → slice_get (xs ++ ys) 0 ≡ Some x
first_of_both [] ys x is = cc
first_of_both (z ∷ zs) ys x is = is

first_behind : {X : Type 0} (xs ys : List X) → slice_get xs 0 ≡ None → slice_get (xs ++ ys) 0 ≡ slice_get ys 0
first_behind [] ys is = refl
first_behind (z ∷ zs) ys is = cc

with_more : (n : ℕ) (dones : List Completion) (d : Completion) → first_with n (dones ++ d ∷ []) ≡ slice_get (filter (λ x. eqb x.number n) dones ++ filter (λ x. eqb x.number n) (d ∷ [])) 0
with_more n dones d = ap (λ xs. slice_get xs 0) (filter-append (λ x. eqb x.number n) dones (d ∷ []))

pub first_kept : (n : ℕ) (dones : List Completion) (d x : Completion) → first_with n dones ≡ Some x → first_with n (dones ++ d ∷ []) ≡ Some x
first_kept n dones d x is = with_more n dones d ∙ first_of_both (filter (λ y. eqb y.number n) dones) (filter (λ y. eqb y.number n) (d ∷ [])) x is

pub first_new : (n : ℕ) (dones : List Completion) (d : Completion) → d.number ≡ n → first_with n dones ≡ None → first_with n (dones ++ d ∷ []) ≡ Some d
first_new n dones d same none =
    let there : eqb d.number n ≡ true = eq-eqb d.number n same in
    with_more n dones d ∙ first_behind (filter (λ y. eqb y.number n) dones) (filter (λ y. eqb y.number n) (d ∷ [])) none ∙ ap (λ b. slice_get (cond b (d ∷ []) []) 0) there

pub first_other : (n : ℕ) (dones : List Completion) (d : Completion) → (d.number ≡ n → ⊥) → first_with n dones ≡ None → first_with n (dones ++ d ∷ []) ≡ None
first_other n dones d other none =
    let off : eqb d.number n ≡ false = ne_eqb d.number n other in
    with_more n dones d ∙ first_behind (filter (λ y. eqb y.number n) dones) (filter (λ y. eqb y.number n) (d ∷ [])) none ∙ ap (λ b. slice_get (cond b (d ∷ []) []) 0) off

-- what stands ready stays so

told_kept : {Y : Type 0} (f : Completion → Y) (n : ℕ) (dones : List Completion) (d : Completion) (y : Y) (o : Option Completion) → first_with n dones ≡ o → option_map f o ≡ Some y → option_map f (first_with n (dones ++ d ∷ [])) ≡ Some y
told_kept f n dones d y None is told = cc
told_kept f n dones d y (Some x) is told = ap (option_map f) (first_kept n dones d x is) ∙ told

answer_kept : (dones : List Completion) (d : Completion) (o : Option Answer) → IfSome o (λ a. option_map reply_of (first_with a.number dones) ≡ Some a) → IfSome o (λ a. option_map reply_of (first_with a.number (dones ++ d ∷ [])) ≡ Some a)
answer_kept dones d None ready = tt
answer_kept dones d (Some a) ready = told_kept reply_of a.number dones d a (first_with a.number dones) refl ready

service_kept : (n : ℕ) (dones : List Completion) (d : Completion) (o : Option Service) → IfSome o (λ v. option_map service_of (first_with n dones) ≡ Some v) → IfSome o (λ v. option_map service_of (first_with n (dones ++ d ∷ [])) ≡ Some v)
service_kept n dones d None ready = tt
service_kept n dones d (Some v) ready = told_kept service_of n dones d v (first_with n dones) refl ready

pub ready_kept : (dones : List Completion) (d : Completion) (o : Outstanding) → IsReady dones o → IsReady (dones ++ d ∷ []) o
ready_kept dones d o ready = record { reply = answer_kept dones d (answer_of o) ready.reply; service = service_kept o.number dones d o.service ready.service }

-- the number that is awaited is outstanding once

nothing : {X : Type 0} (o : Option X) → is_none o ≡ true → o ≡ None
nothing None e = refl
nothing (Some x) e = absurd (false≢true e)

-- with this number it is of this echo, and waits
abbrev pub IsIt : ℕ → Echo → Outstanding → Type 0
IsIt number echo o = o.number ≡ number → (o.echo ≡ echo) × (o.line ≡ None)

pub awaited_parts : (number : ℕ) (echo : Echo) (o : Outstanding) → is_awaited number echo o ≡ true → (o.number ≡ number) × ((o.echo ≡ echo) × (o.line ≡ None))
awaited_parts number echo o e =
    let line = and_parts (nat_eq o.number number && is_same_echo o.echo echo) (is_none o.line) e in
    let parts = and_parts (nat_eq o.number number) (is_same_echo o.echo echo) line.0 in
    (eqb-true o.number number parts.0, (same_echo o.echo echo parts.1, nothing o.line line.1))

none_below : (number : ℕ) (echo : Echo) (first : ℕ) (os : List Outstanding) → map (λ (o : Outstanding). o.number) os ≡ range_with_len first (length os) → number < first → All (IsIt number echo) os
none_below number echo first [] are below = All-nil (IsIt number echo)
none_below number echo first (o ∷ os) are below =
    let head : o.number ≡ first = cc in
    let tail : map (λ (x : Outstanding). x.number) os ≡ range_with_len (first + 1) (length os) = cc in
    All-cons (IsIt number echo) o os (λ same. absurd (omega (arith, same, head, below))) (none_below number echo (first + 1) os tail (omega arith))

pub unawaited_below : (number : ℕ) (echo : Echo) (first : ℕ) (os : List Outstanding) → map (λ (o : Outstanding). o.number) os ≡ range_with_len first (length os) → number < first → list_any (is_awaited number echo) os ≡ false
unawaited_below number echo first [] are below = refl
unawaited_below number echo first (o ∷ os) are below =
    let head : o.number ≡ first = cc in
    let tail : map (λ (x : Outstanding). x.number) os ≡ range_with_len (first + 1) (length os) = cc in
    let off : nat_eq o.number number ≡ false = ne_eqb o.number number (λ same. omega (arith, same, head, below)) in
    rw off (unawaited_below number echo (first + 1) os tail (omega arith))

-- of each outstanding number, and that the awaited one is below the next
pub record IsOnce (number : ℕ) (echo : Echo) (first : ℕ) (os : List Outstanding) : Type 0 where
  pub it : All (IsIt number echo) os
  pub under : number < first + length os

by_head : (number : ℕ) (echo : Echo) (first : ℕ) (o : Outstanding) (os : List Outstanding) (b : Bool) → is_awaited number echo o ≡ b → o.number ≡ first
    → map (λ (x : Outstanding). x.number) os ≡ range_with_len (first + 1) (length os) → (b || list_any (is_awaited number echo) os) ≡ true
    → (list_any (is_awaited number echo) os ≡ true → IsOnce number echo (first + 1) os) → IsOnce number echo first (o ∷ os)
by_head number echo first o os true e head tail any rest =
    let parts = awaited_parts number echo o e in
    record { it = All-cons (IsIt number echo) o os (λ same. parts.1) (none_below number echo (first + 1) os tail (omega (arith, parts.0, head))); under = omega (arith, parts.0, head) }
by_head number echo first o os false e head tail any rest =
    let once = rest any in
    record {
      it = All-cons (IsIt number echo) o os (λ same. absurd (false≢true (sym (unawaited_below number echo (first + 1) os tail (omega (arith, same, head))) ∙ any))) once.it;
      under = omega (arith, once.under);
    }

pub awaited_once : (number : ℕ) (echo : Echo) (first : ℕ) (os : List Outstanding) → map (λ (o : Outstanding). o.number) os ≡ range_with_len first (length os) → list_any (is_awaited number echo) os ≡ true → IsOnce number echo first os
awaited_once number echo first [] are any = absurd (false≢true any)
awaited_once number echo first (o ∷ os) are any =
    let head : o.number ≡ first = cc in
    let tail : map (λ (x : Outstanding). x.number) os ≡ range_with_len (first + 1) (length os) = cc in
    by_head number echo first o os (is_awaited number echo o) refl head tail any (awaited_once number echo (first + 1) os tail)

-- after the awaited completion has come

ready_filled : (dones : List Completion) (d : Completion) (o : Outstanding) (b : Bool) → nat_eq o.number d.number ≡ b → IsReady dones o → IsAwaited dones o → IsIt d.number d.echo o
    → IsReady (dones ++ d ∷ []) (cond b (record o { line = Some d.line; service = Some (service_of d) }) o)
ready_filled dones d o false e ready awaited it = ready_kept dones d o ready
ready_filled dones d o true e ready awaited it =
    let same = eqb-true o.number d.number e in
    let parts = it same in
    let first = first_new o.number dones d (sym same) (awaited parts.1) in
    record { reply = rw (first, same, parts.0) refl; service = ap (option_map service_of) first }

awaited_filled : (dones : List Completion) (d : Completion) (o : Outstanding) (b : Bool) → nat_eq o.number d.number ≡ b → IsAwaited dones o → IsAwaited (dones ++ d ∷ []) (cond b (record o { line = Some d.line; service = Some (service_of d) }) o)
awaited_filled dones d o true e awaited = λ none. cc
awaited_filled dones d o false e awaited = λ none. first_other o.number dones d (λ same. false≢true (sym e ∙ eq-eqb o.number d.number (sym same))) (awaited none)

all_of_three : {X : Type 0} (P Q R S : X → Type 0) → ((x : X) → P x → Q x → R x → S x) → (xs : List X) → All P xs → All Q xs → All R xs → All S xs
all_of_three P Q R S f [] p q r = All-nil S
all_of_three P Q R S f (x ∷ xs) p q r =
    All-cons S x xs (f x (All-head P x xs p) (All-head Q x xs q) (All-head R x xs r)) (all_of_three P Q R S f xs (All-tail P x xs p) (All-tail Q x xs q) (All-tail R x xs r))

pub all_ready_filled : (dones : List Completion) (d : Completion) (os : List Outstanding) → All (IsReady dones) os → All (IsAwaited dones) os → All (IsIt d.number d.echo) os → All (IsReady (dones ++ d ∷ [])) (map (filled d.number (service_of d) d.line) os)
all_ready_filled dones d os ready awaited it =
    All-map (IsReady (dones ++ d ∷ [])) (filled d.number (service_of d) d.line) os
    (all_of_three (IsReady dones) (IsAwaited dones) (IsIt d.number d.echo) (λ o. IsReady (dones ++ d ∷ []) (filled d.number (service_of d) d.line o)) (λ o. ready_filled dones d o (nat_eq o.number d.number) refl) os ready awaited it)

pub all_awaited_filled : (dones : List Completion) (d : Completion) (os : List Outstanding) → All (IsAwaited dones) os → All (IsAwaited (dones ++ d ∷ [])) (map (filled d.number (service_of d) d.line) os)
all_awaited_filled dones d os awaited =
    All-map (IsAwaited (dones ++ d ∷ [])) (filled d.number (service_of d) d.line) os
    (All-weaker (IsAwaited dones) (λ o. IsAwaited (dones ++ d ∷ []) (filled d.number (service_of d) d.line o)) (λ o. awaited_filled dones d o (nat_eq o.number d.number) refl) os awaited)
