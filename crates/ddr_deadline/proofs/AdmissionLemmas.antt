-- Each accepted request was admitted in a cycle that the calls tell; where each pending one is in time, each one that was served is.
use Rattle.std.proofs.Common.{◌≡◌, ℕ, zero, suc, ◌+◌, ◌<◌, Bool, true, false, cond, eqb, get_or, List, [], ◌∷◌, ◌++◌, length, Option, Some, None, refl, sym, ap, subst, ◌∙◌, ◌⊎◌, inl, inr, arith}
use Rattle.std.specs.List.{fold, remove, slice_get}
use Rattle.std.specs.Option.{IsSomeAnd}
use Rattle.std.proofs.lemmas.Bool.{cases_lt}
use Rattle.std.proofs.lemmas.List.{append_assoc, append-nil, length_push}
use Rattle.std.proofs.lemmas.Option.{slice_get-get_or}
use Rattle.ddr_timing.specs.declared.config.Config.{Config}
use Rattle.ddr_timing.specs.declared.units.TheConstants.{CLOCK_STOP}
use Rattle.ddr_address_map.specs.Requests.{Request}
use Rattle.ddr_hazards.specs.declared.waiting.Waiting.{Waiting}
use Rattle.ddr_arbiter.specs.declared.choice.Choice.{Choice}
use Rattle.ddr_arbiter.specs.declared.choice.Choice.TheVariants as choice
use Rattle.ddr_arbiter.specs.Laws.{IsLawful, column_place_of}
use Rattle.ddr_arbiter.specs.Situation.{Situation}
use Rattle.ddr_arbiter.proofs.LawLemmas.{choice_lawful}
use Rattle.ddr_channel.specs.Choice.{choice_of, situation_of}
use Rattle.ddr_channel.specs.Cycle.{after_cycle, at_choice}
use Rattle.ddr_channel.specs.History.{Call, Admit, Cycle, Pop, History, Owner, after_call, begun, with_owner}
use Rattle.ddr_channel.specs.State.{State, after_admit, is_queue_full}
use Rattle.ddr_channel.proofs.HistoryLemmas.{IsKept, waiting_length}
use Rattle.ddr_channel.proofs.ListLemmas.{slice_get-remove_before, slice_get-remove_behind}
use Rattle.ddr_channel.proofs.PlaceLemmas.{at_place, pushed}
use Rattle.ddr_latency.specs.Bound.{burst, latency}
use Rattle.ddr_deadline.specs.InTime.{FindsAllTaken, TakesAll, admissions, admitted_by}
use Rattle.ddr_deadline.proofs.PendingLemmas.{pending_after, without}

-- one call more, behind some calls

pub admissions_more : (h : History) (calls : List Call) (call : Call) → admissions h (calls ++ call ∷ []) ≡ admissions h calls ++ admitted_by (fold after_call h calls) call
admissions_more h [] call = append-nil (admitted_by h call)
admissions_more h (first ∷ later) call = ap (λ (cs : List ℕ). admitted_by h first ++ cs) (admissions_more (after_call h first) later call) ∙ sym (append_assoc (admitted_by h first) (admissions (after_call h first) later) (admitted_by (fold after_call (after_call h first) later) call))

pub takes_more : (h : History) (calls : List Call) (call : Call) → TakesAll h calls → FindsAllTaken (fold after_call h calls) call → TakesAll h (calls ++ call ∷ [])
takes_more h [] call takes taken = (taken, tt)
takes_more h (first ∷ later) call takes taken = (takes.0, takes_more (after_call h first) later call takes.1 taken)

-- elements of a list that grew

there_still : {X : Type 0} (xs ys : List X) (k : ℕ) (x : X) → slice_get xs k ≡ Some x → slice_get (xs ++ ys) k ≡ Some x
there_still [] ys k x is = let never : ⊥ = cc in absurd never
there_still (z ∷ zs) ys zero x is = is
there_still (z ∷ zs) ys (suc k) x is = there_still zs ys k x is

last_there : {X : Type 0} (xs : List X) (x : X) → slice_get (xs ++ x ∷ []) (length xs) ≡ Some x
last_there [] x = refl
last_there (z ∷ zs) x = last_there zs x

some_of : (o : Option ℕ) (P : ℕ → Type 0) → IsSomeAnd o P → (n : ℕ) × (o ≡ Some n) × P n
some_of None P some = absurd some
some_of (Some n) P some = (n, refl, some)

-- What a history keeps: for each accepted request the cycle of its admission, which a pending one has with it, and which is in time for one
-- that was served.
pub record AreAdmitted (c : Config) (admitted : List ℕ) (h : History) : Type 0 where
  pub many : length admitted ≡ length h.accepted
  pub pending : (place number : ℕ) (w : Waiting) → slice_get h.waiting place ≡ Some number → slice_get h.state.pending place ≡ Some w → slice_get admitted number ≡ Some w.admitted
  pub served : (place : ℕ) (o : Owner) → slice_get h.owners place ≡ Some o → IsSomeAnd (slice_get admitted o.place) (λ cycle. o.cycle + burst c < cycle + latency c)

pub admitted_begun : (c config : Config) (start : ℕ) → AreAdmitted c [] (begun config start)
admitted_begun c config start = record {
  many = refl;
  pending = λ place number w at here. let never : ⊥ = cc in absurd never;
  served = λ place o is. let never : ⊥ = cc in absurd never;
}

-- an admission

admitted_pushed : (c : Config) (admitted : List ℕ) (h : History) (r : Request) → length h.waiting ≡ length h.state.pending → AreAdmitted c admitted h →
    AreAdmitted c (admitted ++ h.state.now ∷ []) (record h { state = after_admit r h.state; accepted = h.accepted ++ r ∷ []; waiting = h.waiting ++ length h.accepted ∷ [] })
admitted_pushed c admitted h r same a = record {
  many = length_push admitted h.state.now ∙ ap (λ k. k + 1) a.many ∙ sym (length_push h.accepted r);
  pending = λ place number w at here. elim (pushed h.waiting (length h.accepted) place number at) [
    | inl old ↦ elim (pushed h.state.pending (record { request = r; admitted = h.state.now }) place w here) [
      | inl both ↦ there_still admitted (h.state.now ∷ []) number w.admitted (a.pending place number w old.1 both.1)
      | inr new ↦ absurd (apart place (length h.waiting) (length h.state.pending) old.0 same new.0)
    ]
    | inr last ↦ elim (pushed h.state.pending (record { request = r; admitted = h.state.now }) place w here) [
      | inl both ↦ absurd (apart place (length h.state.pending) (length h.waiting) both.0 (sym same) last.0)
      | inr new ↦
          let now : h.state.now ≡ w.admitted = ap (λ (u : Waiting). u.admitted) new.1 in
          ap (slice_get (admitted ++ h.state.now ∷ [])) (sym last.1 ∙ sym a.many) ∙ last_there admitted h.state.now ∙ ap Some now
    ]
  ];
  served = λ place o is.
      let was = some_of (slice_get admitted o.place) (λ cycle. o.cycle + burst c < cycle + latency c) (a.served place o is) in
      subst (λ x. IsSomeAnd x (λ cycle. o.cycle + burst c < cycle + latency c)) (sym (there_still admitted (h.state.now ∷ []) o.place was.0 was.1)) was.2;
}
  where
    apart : (place one other : ℕ) → place < one → one ≡ other → place ≡ other → ⊥
    apart place one other below same at = omega (arith, below, same, at)

-- a cycle

-- what it makes of the lists, where it serves no request, and where it serves one
record OwnsNone (c : Choice) (h : History) : Type 0 where
  none : column_place_of c ≡ None
  waiting : (with_owner c h).waiting ≡ h.waiting
  owners : (with_owner c h).owners ≡ h.owners

record OwnsOne (c : Choice) (h : History) (pending : List Waiting) : Type 0 where
  place : ℕ
  auto : Bool
  some : column_place_of c ≡ Some place
  inside : place < length pending
  waiting : (with_owner c h).waiting ≡ remove h.waiting place
  owners : (with_owner c h).owners ≡ h.owners ++ record { place = get_or h.waiting place 0; cycle = h.state.now; auto = auto } ∷ []

owns : (s : Situation) (c : Choice) (h : History) → IsLawful s c → OwnsNone c h ⊎ OwnsOne c h s.waiting
owns s choice.Nothing h law = inl (record { none = refl; waiting = refl; owners = refl })
owns s (choice.Refresh rank) h law = inl (record { none = refl; waiting = refl; owners = refl })
owns s (choice.PreAll rank) h law = inl (record { none = refl; waiting = refl; owners = refl })
owns s (choice.Act place) h law = inl (record { none = refl; waiting = refl; owners = refl })
owns s (choice.Pre place) h law = inl (record { none = refl; waiting = refl; owners = refl })
owns s (choice.Column place) h law = inr (record { place = place; auto = false; some = refl; inside = law.in_list; waiting = refl; owners = refl })
owns s (choice.ColumnAuto place) h law = inr (record { place = place; auto = true; some = refl; inside = law.in_list; waiting = refl; owners = refl })

-- the accepted requests are as before
accepted_alike : (c : Choice) (h : History) → (with_owner c h).accepted ≡ h.accepted
accepted_alike choice.Nothing h = refl
accepted_alike (choice.Refresh rank) h = refl
accepted_alike (choice.PreAll rank) h = refl
accepted_alike (choice.Act place) h = refl
accepted_alike (choice.Pre place) h = refl
accepted_alike (choice.Column place) h = refl
accepted_alike (choice.ColumnAuto place) h = refl

-- lists with one taken out at the same place go together
removed_both : (waiting : List ℕ) (pending : List Waiting) (out place number : ℕ) (w : Waiting) → slice_get (remove waiting out) place ≡ Some number → slice_get (remove pending out) place ≡ Some w →
    (old : ℕ) × (slice_get waiting old ≡ Some number) × (slice_get pending old ≡ Some w)
removed_both waiting pending out place number w at here = elim (cases_lt place out) [
  | inl below ↦ (place, sym (slice_get-remove_before waiting out place below) ∙ at, sym (slice_get-remove_before pending out place below) ∙ here)
  | inr above ↦ (suc place, sym (slice_get-remove_behind waiting out place above) ∙ at, sym (slice_get-remove_behind pending out place above) ∙ here)
]

admitted_cycle : (c : Config) (admitted : List ℕ) (h : History) → length h.waiting ≡ length h.state.pending → ((place : ℕ) (w : Waiting) → slice_get h.state.pending place ≡ Some w → h.state.now + burst c < w.admitted + latency c) → AreAdmitted c admitted h →
    AreAdmitted c admitted (record (with_owner (choice_of (at_choice h.state)) h) { state = after_cycle h.state })
admitted_cycle c admitted h same waits a = by_owner (owns (situation_of (at_choice s)) ch h (choice_lawful (situation_of (at_choice s))))
  where
    s : State
    s = h.state

    ch : Choice
    ch = choice_of (at_choice s)

    after : History
    after = record (with_owner ch h) { state = after_cycle s }

    many : length admitted ≡ length after.accepted
    many = a.many ∙ sym (ap (λ (rs : List Request). length rs) (accepted_alike ch h))

    by_owner : OwnsNone ch h ⊎ OwnsOne ch h s.pending → AreAdmitted c admitted after
    by_owner (inl none) =
        let left : after.state.pending ≡ s.pending = pending_after s ∙ ap (λ o. without o s.pending) none.none in record {
          many = many;
          pending = λ place number w at here. a.pending place number w (ap (λ (ns : List ℕ). slice_get ns place) (sym none.waiting) ∙ at) (ap (λ (ws : List Waiting). slice_get ws place) (sym left) ∙ here);
          served = λ place o is. a.served place o (ap (λ (os : List Owner). slice_get os place) (sym none.owners) ∙ is);
        }
    by_owner (inr one) =
        let left : after.state.pending ≡ remove s.pending one.place = pending_after s ∙ ap (λ o. without o s.pending) one.some in
        let w = at_place s.pending one.place one.inside in
        let number : slice_get h.waiting one.place ≡ Some (get_or h.waiting one.place 0) = slice_get-get_or h.waiting one.place 0 (within one.place (length h.waiting) (length s.pending) one.inside same) in
        let cycle = a.pending one.place (get_or h.waiting one.place 0) w.0 number w.1 in record {
          many = many;
          pending = λ place k v at here.
              let old = removed_both h.waiting s.pending one.place place k v (ap (λ (ns : List ℕ). slice_get ns place) (sym one.waiting) ∙ at) (ap (λ (ws : List Waiting). slice_get ws place) (sym left) ∙ here) in
              a.pending old.0 k v old.1 old.2;
          served = λ place o is. elim (pushed h.owners _ place o (ap (λ (os : List Owner). slice_get os place) (sym one.owners) ∙ is)) [
            | inl old ↦ a.served place o old.1
            | inr new ↦
                subst (λ (p : Owner). IsSomeAnd (slice_get admitted p.place) (λ k. p.cycle + burst c < k + latency c)) new.1
                (subst (λ x. IsSomeAnd x (λ k. s.now + burst c < k + latency c)) (sym cycle) (waits one.place w.0 w.1))
          ];
        }
      where
        within : (place one other : ℕ) → place < other → one ≡ other → place < one
        within place one other below is = omega (arith, below, is)

-- each call

pub admitted_call : (config : Config) (start : ℕ) (c : Config) (admitted : List ℕ) (h : History) (call : Call) → IsKept config start h → ((place : ℕ) (w : Waiting) → slice_get h.state.pending place ≡ Some w → h.state.now + burst c < w.admitted + latency c) →
    AreAdmitted c admitted h → AreAdmitted c (admitted ++ admitted_by h call) (after_call h call)
admitted_call config start c admitted h (Admit r) kept waits a = by_full (is_queue_full h.state r.echo.kind)
  where
    by_full : (b : Bool) → AreAdmitted c (admitted ++ cond b [] (h.state.now ∷ [])) (cond b h (record h { state = after_admit r h.state; accepted = h.accepted ++ r ∷ []; waiting = h.waiting ++ length h.accepted ∷ [] }))
    by_full true = subst (λ (cs : List ℕ). AreAdmitted c cs h) (sym (append-nil admitted)) a
    by_full false = admitted_pushed c admitted h r (waiting_length h.state.now h kept.keeps) a
admitted_call config start c admitted h Cycle kept waits a = subst (λ (cs : List ℕ). AreAdmitted c cs (after_call h Cycle)) (sym (append-nil admitted)) (by_stop (eqb h.state.now CLOCK_STOP))
  where
    by_stop : (b : Bool) → AreAdmitted c admitted (cond b h (record (with_owner (choice_of (at_choice h.state)) h) { state = after_cycle h.state }))
    by_stop true = a
    by_stop false = admitted_cycle c admitted h (waiting_length h.state.now h kept.keeps) waits a
admitted_call config start c admitted h Pop kept waits a = subst (λ (cs : List ℕ). AreAdmitted c cs (after_call h Pop)) (sym (append-nil admitted)) (record { many = a.many; pending = a.pending; served = a.served })
