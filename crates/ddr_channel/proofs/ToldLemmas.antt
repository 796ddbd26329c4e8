-- What a cycle tells is so: in the trace, in flight, and in every history that begins with the cycle's.
use Rattle.std.proofs.Common.{◌≡◌, ℕ, ◌-◌, Bool, true, false, cond, eqb, List, [], ◌∷◌, ◌++◌, Option, Some, None, map, length, refl, sym, ap, ap₂, subst, ◌∙◌, arith}
use Rattle.std.specs.List.{slice_get, fold}
use Rattle.std.specs.Option.{is_some, option_map, IfSome, IsSomeAnd}
use Rattle.std.proofs.lemmas.Bool.{ne_eqb}
use Rattle.std.proofs.lemmas.List.{length_push}
use Rattle.std.proofs.lemmas.List.Sums.{fold-append}
use Rattle.std.proofs.lemmas.Option.{slice_get_within, get_or_from_slice_get}
use Rattle.circular_buffer.proofs.Places.{slice_get-append_left, slice_get-append_right}
use Rattle.ddr_timing.specs.declared.config.Config.{Config}
use Rattle.ddr_timing.specs.declared.units.TheConstants.{CLOCK_STOP}
use Rattle.ddr_trace.specs.declared.command.Command.{Command}
use Rattle.ddr_trace.specs.declared.command.Entry.{Entry}
use Rattle.ddr_trace.specs.Commands.{is_column}
use Rattle.ddr_address_map.specs.Requests.{Request, Completion}
use Rattle.ddr_hazards.specs.declared.waiting.Waiting.{Waiting}
use Rattle.ddr_arbiter.specs.declared.choice.Choice.{Choice}
use Rattle.ddr_arbiter.specs.declared.choice.Choice.TheVariants as choice
use Rattle.ddr_arbiter.specs.Commands.{activate_at, precharge_at, column_of}
use Rattle.ddr_arbiter.specs.Laws.{command_of}
use Rattle.ddr_channel.specs.declared.issued.Issued.{Issued}
use Rattle.ddr_channel.specs.declared.issued.Served.{Served}
use Rattle.ddr_channel.specs.Choice.{choice_of}
use Rattle.ddr_channel.specs.Cycle.{at_choice, with_command, recorded, served_at, served_by, after_cycle, completion_at}
use Rattle.ddr_channel.specs.History.{Call, Admit, Cycle, Pop, Owner, History, begun, owned, with_owner, after_call, run}
use Rattle.ddr_channel.specs.Kept.{Kept, state_of}
use Rattle.ddr_channel.specs.Memory.{line_of}
use Rattle.ddr_channel.specs.Promise.{right_answer, answer_to, completions_of, AreCalls, StandsFor}
use Rattle.ddr_channel.specs.State.{State, is_queue_full}
use Rattle.ddr_channel.specs.Told.{column_request, served_as, issued_with, issued_by, issued_in, with_issued, IsNewest, ComesAsTold, WasAdmitted}
use Rattle.ddr_channel.proofs.AdmittedLemmas.{admission_of}
use Rattle.ddr_channel.proofs.HistoryLemmas.{accepted_at, served_alike, kept_run}
use Rattle.ddr_channel.proofs.LegalNowLemmas.{column_is}
use Rattle.ddr_channel.proofs.ListLemmas.{at_map, mapped_at, All-last}
use Rattle.ddr_channel.proofs.PromiseLemmas.{promise_kept}

-- the trace

command_traced : (now : ℕ) (served : Option Served) (o : Option Command) (trace : List Entry) → with_command now o trace ≡ with_issued (option_map (issued_with now served) o) trace
command_traced now served None trace = refl
command_traced now served (Some c) trace = refl

-- the trace after a cycle has what was told
pub told_traced : (s : State) → (after_cycle s).trace ≡ with_issued (issued_in s) s.trace
told_traced s =
    let t = at_choice s in
    let c = choice_of t in
    served_alike (λ u. u.trace) (λ u place r. refl) c (recorded (command_of t.pending c) t)
    ∙ command_traced s.now (option_map (served_as s.config s.now) (column_request s.pending c)) (command_of t.pending c) s.trace

-- a request is told of where a column command serves it

-- the choice is a column command of the request at the place
record IsColumn (c : Choice) (auto : Bool) (place : ℕ) : Type 0 where
  owner : (h : History) → with_owner c h ≡ owned auto place h
  data_moved : (s : State) → served_by c s ≡ served_at place (slice_get s.pending place) s
  command : (pending : List Waiting) → command_of pending c ≡ option_map (λ w. column_of auto w.request) (slice_get pending place)

-- what holds of each request that is served holds of the one that is told of
abbrev Shown : State → Choice → (Issued → Served → Type 0) → Type 0
Shown s c P = (auto : Bool) (place : ℕ) (w : Waiting) → IsColumn c auto place → slice_get s.pending place ≡ Some w →
    P (issued_with s.now (Some (served_as s.config s.now w)) (column_of auto w.request)) (served_as s.config s.now w)

none_told : (s : State) (f : Waiting → Command) (o : Option Waiting) (P : Issued → Served → Type 0) → IfSome (option_map (issued_with s.now None) (option_map f o)) (λ i. IfSome i.served (P i))
none_told s f None P = tt
none_told s f (Some w) P = tt

column_told : (s : State) (c : Choice) (auto : Bool) (place : ℕ) (P : Issued → Served → Type 0) → IsColumn c auto place → Shown s c P → (o : Option Waiting) → slice_get s.pending place ≡ o →
    IfSome (option_map (issued_with s.now (option_map (served_as s.config s.now) o)) (option_map (λ w. column_of auto w.request) o)) (λ i. IfSome i.served (P i))
column_told s c auto place P is shown None here = tt
column_told s c auto place P is shown (Some w) here = shown auto place w is here

told_where : (s : State) (c : Choice) (P : Issued → Served → Type 0) → Shown s c P → IfSome (issued_by s c) (λ i. IfSome i.served (P i))
told_where s choice.Nothing P shown = tt
told_where s (choice.Refresh rank) P shown = tt
told_where s (choice.PreAll rank) P shown = tt
told_where s (choice.Act place) P shown = none_told s (λ w. activate_at w.request.place) (slice_get s.pending place) P
told_where s (choice.Pre place) P shown = none_told s (λ w. precharge_at w.request.place) (slice_get s.pending place) P
told_where s (choice.Column place) P shown =
    column_told s (choice.Column place) false place P (record { owner = λ h. refl; data_moved = λ t. refl; command = λ pending. refl }) shown (slice_get s.pending place) refl
told_where s (choice.ColumnAuto place) P shown =
    column_told s (choice.ColumnAuto place) true place P (record { owner = λ h. refl; data_moved = λ t. refl; command = λ pending. refl }) shown (slice_get s.pending place) refl

-- the completion in flight

newest : {X : Type 0} (xs : List X) (x : X) (P : X → Type 0) → P x → IsSomeAnd (slice_get (xs ++ x ∷ []) (length (xs ++ x ∷ []) - 1)) P
newest xs x P is =
    let last : length (xs ++ x ∷ []) - 1 ≡ length xs = omega (arith, length_push xs x) in
    let here = slice_get-append_right xs (x ∷ []) (length (xs ++ x ∷ []) - 1) 0 (omega (arith, last)) in
    subst (λ (o : Option _). IsSomeAnd o P) (sym here) is

-- the newest completion in flight is the one that was told
pub told_newest : (s : State) (flight : List Completion) → flight ≡ (after_cycle s).flight → IfSome (issued_in s) (λ i. IfSome i.served (IsNewest flight i))
told_newest s flight is_flight =
    let t = at_choice s in
    let c = choice_of t in
    told_where t c (IsNewest flight) (λ auto place w is here.
    let r = recorded (command_of t.pending c) t in
    let moved : flight ≡ t.flight ++ completion_at s.config s.now (t.cells (line_of w.request.place)) w.request ∷ [] =
    is_flight ∙ ap (λ (u : State). u.flight) (is.data_moved r) ∙ ap (λ (o : Option Waiting). (served_at place o r).flight) here in
    subst (λ (ds : List Completion). IsNewest ds (issued_with s.now (Some (served_as s.config s.now w)) (column_of auto w.request)) (served_as s.config s.now w)) (sym moved)
    (newest t.flight _ _ (record { port = refl; number = refl; echo = refl; issued = refl; due = refl })))

-- every later history

-- a call leaves the owners and the acceptance list as they were, but for what it adds behind

there : {X : Type 0} (xs ys : List X) (n : ℕ) (x : X) → slice_get xs n ≡ Some x → slice_get (xs ++ ys) n ≡ Some x
there xs ys n x is = slice_get-append_left xs ys n (slice_get_within xs n x is) ∙ is

owner_there : (c : Choice) (h : History) (n : ℕ) (o : Owner) → slice_get h.owners n ≡ Some o → slice_get (with_owner c h).owners n ≡ Some o
owner_there choice.Nothing h n o is = is
owner_there (choice.Refresh rank) h n o is = is
owner_there (choice.PreAll rank) h n o is = is
owner_there (choice.Act place) h n o is = is
owner_there (choice.Pre place) h n o is = is
owner_there (choice.Column place) h n o is = there h.owners _ n o is
owner_there (choice.ColumnAuto place) h n o is = there h.owners _ n o is

accepted_there : (c : Choice) (h : History) → (with_owner c h).accepted ≡ h.accepted
accepted_there choice.Nothing h = refl
accepted_there (choice.Refresh rank) h = refl
accepted_there (choice.PreAll rank) h = refl
accepted_there (choice.Act place) h = refl
accepted_there (choice.Pre place) h = refl
accepted_there (choice.Column place) h = refl
accepted_there (choice.ColumnAuto place) h = refl

-- the owner stands at the number n, and its request at its place
record Owns (n : ℕ) (o : Owner) (r : Request) (h : History) : Type 0 where
  owner : slice_get h.owners n ≡ Some o
  request : slice_get h.accepted o.place ≡ Some r

owns_if : (n : ℕ) (o : Owner) (r : Request) (b : Bool) (x y : History) → Owns n o r x → Owns n o r y → Owns n o r (cond b x y)
owns_if n o r true x y owns owns' = owns
owns_if n o r false x y owns owns' = owns'

owns_call : (n : ℕ) (o : Owner) (r : Request) (h : History) (call : Call) → Owns n o r h → Owns n o r (after_call h call)
owns_call n o r h (Admit q) owns = owns_if n o r (is_queue_full h.state q.echo.kind) h _ owns (record { owner = owns.owner; request = there h.accepted _ o.place r owns.request })
owns_call n o r h Cycle owns =
    let c = choice_of (at_choice h.state) in
    owns_if n o r (eqb h.state.now CLOCK_STOP) h _ owns (record {
      owner = owner_there c h n o owns.owner;
      request = ap (λ (rs : List Request). slice_get rs o.place) (accepted_there c h) ∙ owns.request;
    })
owns_call n o r h Pop owns = record { owner = owns.owner; request = owns.request }

owns_later : (n : ℕ) (o : Owner) (r : Request) (h : History) (later : List Call) → Owns n o r h → Owns n o r (fold after_call h later)
owns_later n o r h [] owns = owns
owns_later n o r h (call ∷ later) owns = owns_later n o r (after_call h call) later (owns_call n o r h call owns)

calls_join : (config : Config) (xs ys : List Call) → AreCalls config xs → AreCalls config ys → AreCalls config (xs ++ ys)
calls_join config [] ys may may' = may'
calls_join config (x ∷ xs) ys may may' = (may.0, calls_join config xs ys may.1 may')

-- where an owner's completion stands, it is the right answer
completed_as : (config : Config) (h : History) (n : ℕ) (o : Owner) (r : Request) (P : Completion → Type 0) → map Some (completions_of h) ≡ map (right_answer h.state.config h.accepted) h.owners → Owns n o r h →
    P (answer_to h.state.config h.accepted o r) → IsSomeAnd (slice_get (completions_of h) n) P
completed_as config h n o r P answers owns holds =
    let right : right_answer h.state.config h.accepted o ≡ Some (answer_to h.state.config h.accepted o r) = ap (option_map (answer_to h.state.config h.accepted o)) owns.request in
    let found = at_map Some (completions_of h) n (Some (answer_to h.state.config h.accepted o r))
    (ap (λ (xs : List (Option Completion)). slice_get xs n) answers ∙ mapped_at (right_answer h.state.config h.accepted) h.owners n o owns.owner ∙ ap Some right) in
    let same : found.0 ≡ answer_to h.state.config h.accepted o r = let e = found.2 in cc in
    subst (λ (x : Option Completion). IsSomeAnd x P) (sym found.1) (subst P (sym same) holds)

-- what the calls have of the request that a cycle serves

last_there : {X : Type 0} (xs : List X) (x : X) → slice_get (xs ++ x ∷ []) (length xs) ≡ Some x
last_there xs x = slice_get-append_right xs (x ∷ []) (length xs) 0 (omega arith)

record OnRecord (k : Kept) (calls : List Call) (auto : Bool) (place : ℕ) (w : Waiting) : Type 0 where
  -- its place in the acceptance list
  number : ℕ
  waits : slice_get (run k.config k.start calls).waiting place ≡ Some number
  pending : slice_get (run k.config k.start calls).state.pending place ≡ Some w
  owns : Owns (length (run k.config k.start calls).owners) (record { place = number; cycle = k.now; auto = auto }) w.request (run k.config k.start (calls ++ Cycle ∷ []))

on_record : (k : Kept) (calls : List Call) (auto : Bool) (place : ℕ) (w : Waiting) → StandsFor k calls → (k.now ≡ CLOCK_STOP → ⊥) → IsColumn (choice_of (at_choice (state_of k))) auto place →
    slice_get k.pending place ≡ Some w → OnRecord k calls auto place w
on_record k calls auto place w stands clock is here =
    let h = run k.config k.start calls in
    let kept = kept_run k.config k.start calls stands.calls_are in
    let pending : slice_get h.state.pending place ≡ Some w = ap (λ (t : State). slice_get t.pending place) (sym stands.state) ∙ here in
    let at = accepted_at h.state.now h place w.request kept.keeps (mapped_at (λ (v : Waiting). v.request) h.state.pending place w pending) in
    let now : h.state.now ≡ k.now = ap (λ (t : State). t.now) (sym stands.state) in
    let o : Owner = record { place = at.0; cycle = k.now; auto = auto } in
    let c = choice_of (at_choice h.state) in
    let made : History = record (with_owner c h) { state = after_cycle h.state } in
    let owners : made.owners ≡ h.owners ++ o ∷ [] =
    ap (λ (t : State). (with_owner (choice_of (at_choice t)) h).owners) (sym stands.state) ∙ ap (λ (g : History). g.owners) (is.owner h)
    ∙ ap₂ (λ n m. h.owners ++ record { place = n; cycle = m; auto = auto } ∷ []) (get_or_from_slice_get h.waiting place at.0 0 at.1) now in
    let running : eqb h.state.now CLOCK_STOP ≡ false = ne_eqb h.state.now CLOCK_STOP (λ e. clock (sym now ∙ e)) in
    let cycled : run k.config k.start (calls ++ Cycle ∷ []) ≡ made = fold-append after_call (begun k.config k.start) calls (Cycle ∷ []) ∙ ap (λ b. cond b h made) running in
    record {
      number = at.0;
      waits = at.1;
      pending = pending;
      owns = subst (Owns (length h.owners) o w.request) (sym cycled) (record {
        owner = ap (λ (os : List Owner). slice_get os (length h.owners)) owners ∙ last_there h.owners o;
        request = ap (λ (rs : List Request). slice_get rs at.0) (accepted_there c h) ∙ at.2;
      });
    }

-- what a cycle told comes
pub told_comes : (k : Kept) → (k.now ≡ CLOCK_STOP → ⊥)
    → IfSome (issued_in (state_of k)) (λ i. IfSome i.served (λ v. (calls : List Call) → StandsFor k calls → ComesAsTold k.config k.start calls i v))
told_comes k clock =
    let s = at_choice (state_of k) in
    told_where s (choice_of s) (λ i v. (calls : List Call) → StandsFor k calls → ComesAsTold k.config k.start calls i v) (λ auto place w is here calls stands later may.
    let r = on_record k calls auto place w stands clock is here in
    let o : Owner = record { place = r.number; cycle = k.now; auto = auto } in
    let n = length (run k.config k.start calls).owners in
    let all = (calls ++ Cycle ∷ []) ++ later in
    let g = run k.config k.start all in
    let is_g = fold-append after_call (begun k.config k.start) (calls ++ Cycle ∷ []) later in
    let may_all : AreCalls k.config all = calls_join k.config (calls ++ Cycle ∷ []) later (All-last _ calls Cycle stands.calls_are tt) may in
    completed_as k.config g n o w.request _ (promise_kept k.config k.start all may_all).answers
    (subst (Owns n o w.request) (sym is_g) (owns_later n o w.request (run k.config k.start (calls ++ Cycle ∷ [])) later r.owns))
    (record {
      port = refl;
      number = refl;
      echo = refl;
      issued = refl;
      due = ap (λ (m : Config). (completion_at m k.now [] w.request).due) (kept_run k.config k.start all may_all).config_is;
    }))

-- the request was admitted when a cycle told
pub told_admitted : (k : Kept) → (k.now ≡ CLOCK_STOP → ⊥) → IfSome (issued_in (state_of k)) (λ i. IfSome i.served (λ v. (calls : List Call) → StandsFor k calls → WasAdmitted k.config k.start calls v))
told_admitted k clock =
    let s = at_choice (state_of k) in
    told_where s (choice_of s) (λ i v. (calls : List Call) → StandsFor k calls → WasAdmitted k.config k.start calls v) (λ auto place w is here calls stands.
    let r = on_record k calls auto place w stands clock is here in
    let a = admission_of k.config k.start calls stands.calls_are place r.number w r.waits r.pending in
    record {
      earlier = a.earlier;
      request = w.request;
      later = a.later;
      calls_are = a.calls_are;
      free = a.free;
      asked = (refl, refl, refl);
      cycle = a.cycle;
      owner = ap (option_map (λ (o : Owner). o.place)) r.owns.owner ∙ ap Some (sym a.place_is);
    })

-- a request is told of at each column command, and at no other

no_column : (now : ℕ) (f : Waiting → Command) (o : Option Waiting) → ((w : Waiting) → is_column (f w) ≡ false) → IfSome (option_map (issued_with now None) (option_map f o)) (λ i. is_some i.served ≡ is_column i.entry.command)
no_column now f None row = tt
no_column now f (Some w) row = sym (row w)

at_column : (s : State) (auto : Bool) (o : Option Waiting) →
    IfSome (option_map (issued_with s.now (option_map (served_as s.config s.now) o)) (option_map (λ w. column_of auto w.request) o)) (λ i. is_some i.served ≡ is_column i.entry.command)
at_column s auto None = tt
at_column s auto (Some w) = sym (column_is auto w.request.echo.kind w.request.place)

columns_told : (s : State) (c : Choice) → IfSome (issued_by s c) (λ i. is_some i.served ≡ is_column i.entry.command)
columns_told s choice.Nothing = tt
columns_told s (choice.Refresh rank) = refl
columns_told s (choice.PreAll rank) = refl
columns_told s (choice.Act place) = no_column s.now (λ w. activate_at w.request.place) (slice_get s.pending place) (λ w. refl)
columns_told s (choice.Pre place) = no_column s.now (λ w. precharge_at w.request.place) (slice_get s.pending place) (λ w. refl)
columns_told s (choice.Column place) = at_column s false (slice_get s.pending place)
columns_told s (choice.ColumnAuto place) = at_column s true (slice_get s.pending place)

pub told_columns : (s : State) → IfSome (issued_in s) (λ i. is_some i.served ≡ is_column i.entry.command)
told_columns s = columns_told (at_choice s) (choice_of (at_choice s))
