-- How often a request is held in a channel, whatever becomes of it: for who follows a channel by what it was given and gave back.
use Rattle.std.proofs.Common.{◌≡◌, ℕ, ◌+◌, ◌≤◌, Bool, true, false, not, cond, eqb, List, [], ◌∷◌, ◌++◌, Option, Some, None, drop, set, refl, sym, ap, subst, ◌∙◌, arith}
use Rattle.std.specs.List.{sum_by, filter, remove, slice_get}
use Rattle.std.proofs.lemmas.List.Sums.{sum_by-cons, sum_by-append, sum_by-set, sum_by-remove, get_or-le-sum_by}
use Rattle.std.proofs.lemmas.Option.{slice_get_within, get_or_from_slice_get}
use Rattle.ddr_address_map.specs.Requests.{Request, Completion}
use Rattle.ddr_arbiter.specs.declared.choice.Choice.{Choice}
use Rattle.ddr_arbiter.specs.declared.choice.Choice.TheVariants as choice
use Rattle.ddr_arbiter.specs.Laws.{command_of}
use Rattle.ddr_channel.specs.Choice.{choice_of}
use Rattle.ddr_channel.specs.Cycle.{completed, at_choice, recorded, completion_of, served_at, served_by, after_cycle}
use Rattle.ddr_channel.specs.Promise.{requests_of}
use Rattle.ddr_channel.specs.State.{State}
use Rattle.ddr_channel.proofs.ListLemmas.{map-remove, mapped_at}
use Rattle.ddr_hazards.specs.declared.waiting.Waiting.{Waiting}

module _ {X : Type 0} (f : X → ℕ) where
  pub sum_replaced : (xs : List X) (i : ℕ) (old new : X) → slice_get xs i ≡ Some old → sum_by f (set xs i new) + f old ≡ sum_by f xs + f new
  sum_replaced xs i old new is =
      ap (λ x. sum_by f (set xs i new) + f x) (sym (get_or_from_slice_get xs i old old is)) ∙ sum_by-set f xs i new old (slice_get_within xs i old is)

  pub sum_removed : (xs : List X) (i : ℕ) (x : X) → slice_get xs i ≡ Some x → sum_by f (remove xs i) + f x ≡ sum_by f xs
  sum_removed xs i x is =
      ap (λ y. sum_by f (remove xs i) + f y) (sym (get_or_from_slice_get xs i x x is)) ∙ sum_by-remove f xs i x (slice_get_within xs i x is)

  pub sum_dropped : (xs : List X) (x : X) → slice_get xs 0 ≡ Some x → sum_by f (drop 1 xs) + f x ≡ sum_by f xs
  sum_dropped [] x is = cc
  sum_dropped (y ∷ ys) x is = let same : y ≡ x = cc in omega (arith, sum_by-cons f y ys, ap f same)

  pub part_of_sum : (xs : List X) (i : ℕ) (x : X) → slice_get xs i ≡ Some x → f x ≤ sum_by f xs
  part_of_sum xs i x is = subst (λ y. f y ≤ sum_by f xs) (get_or_from_slice_get xs i x x is) (get_or-le-sum_by f xs i x (slice_get_within xs i x is))

  split_by : (b : Bool) (x : X) (kept others xs : List X) → sum_by f others + sum_by f kept ≡ sum_by f xs →
      sum_by f (cond (not b) (x ∷ others) others) + sum_by f (cond b (x ∷ kept) kept) ≡ sum_by f (x ∷ xs)
  split_by true x kept others xs rest = omega (arith, sum_by-cons f x xs, sum_by-cons f x kept, rest)
  split_by false x kept others xs rest = omega (arith, sum_by-cons f x xs, sum_by-cons f x others, rest)

  pub sum_split : (test : X → Bool) (xs : List X) → sum_by f (filter (λ x. not (test x)) xs) + sum_by f (filter test xs) ≡ sum_by f xs
  sum_split test [] = refl
  sum_split test (x ∷ xs) = split_by (test x) x (filter test xs) (filter (λ y. not (test y)) xs) xs (sum_split test xs)

  pub sum_last : (xs : List X) (x : X) → sum_by f (xs ++ x ∷ []) ≡ sum_by f xs + f x
  sum_last xs x = omega (arith, sum_by-append f xs (x ∷ []))

-- what the requests of a channel weigh, by their ports and numbers: pending, in flight and done

abbrev pub weigh_request : (ℕ → ℕ → ℕ) → Request → ℕ
weigh_request weigh r = weigh r.port r.number

abbrev pub weigh_done : (ℕ → ℕ → ℕ) → Completion → ℕ
weigh_done weigh d = weigh d.port d.number

abbrev pub held : (ℕ → ℕ → ℕ) → State → ℕ
held weigh s = sum_by (weigh_request weigh) (requests_of s.pending) + (sum_by (weigh_done weigh) s.flight + sum_by (weigh_done weigh) s.done)

held_completed : (weigh : ℕ → ℕ → ℕ) (s : State) → held weigh (completed s) ≡ held weigh s
held_completed weigh s =
    omega (arith, sum_split (weigh_done weigh) (λ (d : Completion). eqb d.due s.now) s.flight, sum_by-append (weigh_done weigh) s.done (filter (λ (d : Completion). eqb d.due s.now) s.flight))

held_served_at : (weigh : ℕ → ℕ → ℕ) (place : ℕ) (o : Option Waiting) (s : State) → slice_get s.pending place ≡ o → held weigh (served_at place o s) ≡ held weigh s
held_served_at weigh place None s is = refl
held_served_at weigh place (Some w) s is =
    omega (
      arith,
      ap (sum_by (weigh_request weigh)) (map-remove (λ (x : Waiting). x.request) s.pending place),
      sum_removed (weigh_request weigh) (requests_of s.pending) place w.request (mapped_at (λ (x : Waiting). x.request) s.pending place w is),
      sum_last (weigh_done weigh) s.flight (completion_of s w.request),
    )

held_served : (weigh : ℕ → ℕ → ℕ) (c : Choice) (s : State) → held weigh (served_by c s) ≡ held weigh s
held_served weigh choice.Nothing s = refl
held_served weigh (choice.Refresh rank) s = refl
held_served weigh (choice.PreAll rank) s = refl
held_served weigh (choice.Act place) s = refl
held_served weigh (choice.Pre place) s = refl
held_served weigh (choice.Column place) s = held_served_at weigh place (slice_get s.pending place) s refl
held_served weigh (choice.ColumnAuto place) s = held_served_at weigh place (slice_get s.pending place) s refl

-- a cycle loses no request and makes none
pub held_cycle : (weigh : ℕ → ℕ → ℕ) (s : State) → held weigh (after_cycle s) ≡ held weigh s
held_cycle weigh s =
    let c = choice_of (at_choice s) in
    held_served weigh c (recorded (command_of (at_choice s).pending c) (at_choice s)) ∙ held_completed weigh s
