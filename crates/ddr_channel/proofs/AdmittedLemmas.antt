-- Each pending request was admitted by one of the calls, in the cycle that is kept with it.
use Rattle.std.proofs.Common.{◌≡◌, ◌⊎◌, inl, inr, ℕ, zero, suc, ◌<◌, ◌≤◌, Bool, true, false, cond, eqb, List, [], ◌∷◌, ◌++◌, Option, Some, None, length, refl, sym, ap, subst, ◌∙◌, arith}
use Rattle.std.specs.List.{slice_get, remove}
use Rattle.std.proofs.lemmas.Bool.{cases_order}
use Rattle.std.proofs.lemmas.List.{append_assoc, append-nil, length_push}
use Rattle.std.proofs.lemmas.List.Sums.{fold-append}
use Rattle.std.proofs.lemmas.Option.{slice_get_within}
use Rattle.circular_buffer.proofs.Places.{slice_get-append_left, slice_get-append_right}
use Rattle.ddr_timing.specs.declared.config.Config.{Config}
use Rattle.ddr_timing.specs.declared.units.TheConstants.{CLOCK_STOP}
use Rattle.ddr_address_map.specs.Requests.{Request}
use Rattle.ddr_hazards.specs.declared.waiting.Waiting.{Waiting}
use Rattle.ddr_arbiter.specs.declared.choice.Choice.{Choice}
use Rattle.ddr_arbiter.specs.declared.choice.Choice.TheVariants as choice
use Rattle.ddr_arbiter.specs.Laws.{command_of}
use Rattle.ddr_channel.specs.Choice.{choice_of}
use Rattle.ddr_channel.specs.Cycle.{at_choice, recorded, served_at, issued, after_cycle}
use Rattle.ddr_channel.specs.History.{Call, Admit, Cycle, Pop, History, begun, with_owner, after_call, run}
use Rattle.ddr_channel.specs.Promise.{AreCalls}
use Rattle.ddr_channel.specs.State.{State, after_admit, is_queue_full}
use Rattle.ddr_channel.proofs.HistoryLemmas.{waiting_length, kept_run}
use Rattle.ddr_channel.proofs.ListLemmas.{slice_get-remove_before, slice_get-remove_behind, remove_none, All-last}

-- the call that admitted a pending request, which has this place in the acceptance list
pub record Admission (config : Config) (start : ℕ) (calls : List Call) (place : ℕ) (w : Waiting) : Type 0 where
  pub earlier : List Call
  pub later : List Call
  pub calls_are : calls ≡ earlier ++ Admit w.request ∷ [] ++ later
  pub free : is_queue_full (run config start earlier).state w.request.echo.kind ≡ false
  pub place_is : length (run config start earlier).accepted ≡ place
  pub cycle : (run config start earlier).state.now ≡ w.admitted

-- each pending request has its call
abbrev HaveCalls : Config → ℕ → List Call → List ℕ → List Waiting → Type 0
HaveCalls config start calls waiting pending = (p n : ℕ) (w : Waiting) → slice_get waiting p ≡ Some n → slice_get pending p ≡ Some w → Admission config start calls n w

-- a call more
call_more : (config : Config) (start : ℕ) (calls : List Call) (call : Call) (waiting : List ℕ) (pending : List Waiting) → HaveCalls config start calls waiting pending → HaveCalls config start (calls ++ call ∷ []) waiting pending
call_more config start calls call waiting pending have p n w at here =
    let a = have p n w at here in record {
      earlier = a.earlier;
      later = a.later ++ call ∷ [];
      calls_are = ap (λ (cs : List Call). cs ++ call ∷ []) a.calls_are ∙ append_assoc (a.earlier ++ Admit w.request ∷ []) a.later (call ∷ []);
      free = a.free;
      place_is = a.place_is;
      cycle = a.cycle;
    }

-- an admission

have_admitted : (config : Config) (start : ℕ) (calls : List Call) (r : Request) → let h = run config start calls in
    is_queue_full h.state r.echo.kind ≡ false → length h.waiting ≡ length h.state.pending → HaveCalls config start calls h.waiting h.state.pending →
    HaveCalls config start (calls ++ Admit r ∷ []) (h.waiting ++ length h.accepted ∷ []) (after_admit r h.state).pending
have_admitted config start calls r free same have p n w at here =
    let h = run config start calls in
    let v : Waiting = record { request = r; admitted = h.state.now } in
    elim (cases_order p (length h.waiting)) [
      | inl last ↦
          let number = sym at ∙ slice_get-append_right h.waiting (length h.accepted ∷ []) p 0 (omega (arith, last)) in
          let is_number : length h.accepted ≡ n = let e : Some n ≡ Some (length h.accepted) = number in cc in
          let youngest = sym here ∙ slice_get-append_right h.state.pending (v ∷ []) p 0 (omega (arith, last, same)) in
          let is_v : v ≡ w = let e : Some w ≡ Some v = youngest in cc in
          subst (Admission config start (calls ++ Admit r ∷ []) n) is_v (record {
            earlier = calls;
            later = [];
            calls_are = sym (append-nil (calls ++ Admit r ∷ []));
            free = free;
            place_is = is_number;
            cycle = refl;
          })
      | inr (inl before) ↦
          call_more config start calls (Admit r) h.waiting h.state.pending have p n w
          (sym (slice_get-append_left h.waiting (length h.accepted ∷ []) p before) ∙ at)
          (sym (slice_get-append_left h.state.pending (v ∷ []) p (omega (arith, before, same))) ∙ here)
      | inr (inr past) ↦ absurd (let within = slice_get_within (h.waiting ++ length h.accepted ∷ []) p n at in omega (arith, past, within, length_push h.waiting (length h.accepted)))
    ]

-- a cycle

have_removed : (config : Config) (start : ℕ) (calls : List Call) (waiting : List ℕ) (pending : List Waiting) (place : ℕ) → HaveCalls config start calls waiting pending →
    HaveCalls config start calls (remove waiting place) (remove pending place)
have_removed config start calls waiting pending place have p n w at here = elim (order p place) [
  | inl before ↦ have p n w (sym (slice_get-remove_before waiting place p before) ∙ at) (sym (slice_get-remove_before pending place p before) ∙ here)
  | inr behind ↦ have (suc p) n w (sym (slice_get-remove_behind waiting place p behind) ∙ at) (sym (slice_get-remove_behind pending place p behind) ∙ here)
]
  where
    order : (m n : ℕ) → (m < n) ⊎ (n ≤ m)
    order m n = elim (cases_order m n) [
      | inl same ↦ inr (omega arith)
      | inr (inl less) ↦ inl less
      | inr (inr more) ↦ inr (omega arith)
    ]

not_there : {X Y : Type 0} (xs : List X) (ys : List Y) (n : ℕ) → length xs ≡ length ys → slice_get ys n ≡ None → slice_get xs n ≡ None
not_there [] ys n same none = refl
not_there (x ∷ xs) [] n same none = absurd (omega (arith, same))
not_there (x ∷ xs) (y ∷ ys) zero same none = cc
not_there (x ∷ xs) (y ∷ ys) (suc n) same none = not_there xs ys n (omega (arith, same)) none

have_column : (config : Config) (start : ℕ) (calls : List Call) (waiting : List ℕ) (place : ℕ) (o : Option Waiting) (s : State) → slice_get s.pending place ≡ o → length waiting ≡ length s.pending →
    HaveCalls config start calls waiting s.pending → HaveCalls config start calls (remove waiting place) (served_at place o s).pending
have_column config start calls waiting place None s none same have =
    subst (λ (ns : List ℕ). HaveCalls config start calls ns s.pending) (sym (remove_none waiting place (not_there waiting s.pending place same none))) have
have_column config start calls waiting place (Some w) s here same have = have_removed config start calls waiting s.pending place have

have_cycled : (config : Config) (start : ℕ) (calls : List Call) (h : History) (c : Choice) → length h.waiting ≡ length h.state.pending → HaveCalls config start calls h.waiting h.state.pending →
    HaveCalls config start calls (with_owner c h).waiting (issued c (at_choice h.state)).pending
have_cycled config start calls h choice.Nothing same have = have
have_cycled config start calls h (choice.Refresh rank) same have = have
have_cycled config start calls h (choice.PreAll rank) same have = have
have_cycled config start calls h (choice.Act place) same have = have
have_cycled config start calls h (choice.Pre place) same have = have
have_cycled config start calls h (choice.Column place) same have =
    have_column config start calls h.waiting place (slice_get h.state.pending place) (recorded (command_of h.state.pending (choice.Column place)) (at_choice h.state)) refl same have
have_cycled config start calls h (choice.ColumnAuto place) same have =
    have_column config start calls h.waiting place (slice_get h.state.pending place) (recorded (command_of h.state.pending (choice.ColumnAuto place)) (at_choice h.state)) refl same have

-- every call

abbrev KeepsCalls : Config → ℕ → List Call → History → Type 0
KeepsCalls config start calls h = HaveCalls config start calls h.waiting h.state.pending

by_test : (config : Config) (start : ℕ) (calls : List Call) (b : Bool) (x y : History) → (b ≡ true → KeepsCalls config start calls x) → (b ≡ false → KeepsCalls config start calls y) → KeepsCalls config start calls (cond b x y)
by_test config start calls true x y old new = old refl
by_test config start calls false x y old new = new refl

have_call : (config : Config) (start : ℕ) (calls : List Call) (call : Call) → AreCalls config calls → KeepsCalls config start calls (run config start calls) →
    KeepsCalls config start (calls ++ call ∷ []) (after_call (run config start calls) call)
have_call config start calls (Admit r) may have =
    let h = run config start calls in
    let same = waiting_length h.state.now h (kept_run config start calls may).keeps in
    by_test config start (calls ++ Admit r ∷ []) (is_queue_full h.state r.echo.kind) h _
    (λ full. call_more config start calls (Admit r) h.waiting h.state.pending have)
    (λ free. have_admitted config start calls r free same have)
have_call config start calls Cycle may have =
    let h = run config start calls in
    let same = waiting_length h.state.now h (kept_run config start calls may).keeps in
    let c = choice_of (at_choice h.state) in
    by_test config start (calls ++ Cycle ∷ []) (eqb h.state.now CLOCK_STOP) h (record (with_owner c h) { state = after_cycle h.state })
    (λ spent. call_more config start calls Cycle h.waiting h.state.pending have)
    (λ running. call_more config start calls Cycle (with_owner c h).waiting (issued c (at_choice h.state)).pending (have_cycled config start calls h c same have))
have_call config start calls Pop may have =
    let h = run config start calls in
    call_more config start calls Pop h.waiting h.state.pending have

have_from : (config : Config) (start : ℕ) (calls later : List Call) → AreCalls config calls → AreCalls config later → KeepsCalls config start calls (run config start calls) →
    KeepsCalls config start (calls ++ later) (run config start (calls ++ later))
have_from config start calls [] may may' have = subst (λ (cs : List Call). KeepsCalls config start cs (run config start cs)) (sym (append-nil calls)) have
have_from config start calls (call ∷ later) may may' have =
    let more = calls ++ call ∷ [] in
    let next = subst (KeepsCalls config start more) (sym (fold-append after_call (begun config start) calls (call ∷ []))) (have_call config start calls call may have) in
    subst (λ (cs : List Call). KeepsCalls config start cs (run config start cs)) (append_assoc calls (call ∷ []) later)
    (have_from config start more later (All-last _ calls call may may'.0) may'.1 next)

-- the pending request at a place was admitted by one of the calls
pub admission_of : (config : Config) (start : ℕ) (calls : List Call) → AreCalls config calls → (p n : ℕ) (w : Waiting) → slice_get (run config start calls).waiting p ≡ Some n →
    slice_get (run config start calls).state.pending p ≡ Some w → Admission config start calls n w
admission_of config start calls may = have_from config start [] calls tt may (λ p n w at here. cc)
