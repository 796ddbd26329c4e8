-- A channel that stands for some calls stands, after one more, for those and that one.
use Rattle.std.proofs.Common.{◌≡◌, ℕ, Bool, true, false, cond, eqb, List, [], ◌∷◌, ◌++◌, Option, Some, length, refl, sym, ap, ap₂, subst, ◌∙◌}
use Rattle.std.specs.List.{slice_get}
use Rattle.std.proofs.lemmas.Bool.{ne_eqb}
use Rattle.std.proofs.lemmas.List.{append_assoc}
use Rattle.std.proofs.lemmas.List.Sums.{fold-append}
use Rattle.ddr_timing.specs.declared.config.Config.{Config}
use Rattle.ddr_address_map.specs.Requests.{Request, Completion}
use Rattle.ddr_channel.specs.Choice.{choice_of}
use Rattle.ddr_timing.specs.declared.units.TheConstants.{CLOCK_STOP}
use Rattle.ddr_channel.specs.Cycle.{at_choice, recorded, issued, after_cycle}
use Rattle.ddr_arbiter.specs.declared.choice.Choice.{Choice}
use Rattle.ddr_arbiter.specs.declared.choice.Choice.TheVariants as choice
use Rattle.ddr_arbiter.specs.Laws.{command_of}
use Rattle.ddr_channel.specs.History.{Call, Admit, Cycle, Pop, History, begun, with_owner, after_call, run}
use Rattle.ddr_channel.specs.Kept.{Kept, state_of}
use Rattle.ddr_channel.specs.Promise.{right_answer, MayCall, AreCalls, StandsFor, IsNextAnswer}
use Rattle.ddr_channel.specs.Sound.{IsServed}
use Rattle.ddr_channel.specs.State.{State, opened, after_admit, after_pop, is_queue_full}
use Rattle.ddr_channel.proofs.PromiseLemmas.{promise_kept}
use Rattle.ddr_channel.proofs.HistoryLemmas.{served_alike}
use Rattle.ddr_channel.proofs.ListLemmas.{All-last, at_map, mapped_at}

-- one more call
run_more : (config : Config) (start : ℕ) (calls : List Call) (call : Call) → run config start (calls ++ call ∷ []) ≡ after_call (run config start calls) call
run_more config start calls call = fold-append after_call (begun config start) calls (call ∷ [])

-- what a call has to do to the state
pub stands_after : (old new : Kept) (calls : List Call) (call : Call) → StandsFor old calls → MayCall old.config call → new.config ≡ old.config → new.start ≡ old.start →
    state_of new ≡ (after_call (run old.config old.start calls) call).state → StandsFor new (calls ++ call ∷ [])
stands_after old new calls call stands may config start state = record {
  calls_are = subst (λ (c : Config). AreCalls c (calls ++ call ∷ [])) (sym config) (All-last (MayCall old.config) calls call stands.calls_are may);
  state = state ∙ ap (λ (h : History). h.state) (sym (run_more old.config old.start calls call)) ∙ ap₂ (λ (c : Config) (s : ℕ). (run c s (calls ++ call ∷ [])).state) (sym config) (sym start);
}

pub stands_opened : (k : Kept) (config : Config) (start : ℕ) → state_of k ≡ opened config start → StandsFor k []
stands_opened k config start is = record {
  calls_are = tt;
  state = is ∙ ap₂ opened (ap (λ (s : State). s.config) (sym is)) (ap (λ (s : State). s.start) (sym is));
}

chosen_state : (b : Bool) (x y : History) → b ≡ false → (cond b x y).state ≡ y.state
chosen_state b x y e = ap (λ t. (cond t x y).state) e

kept_state : (b : Bool) (x y : History) → b ≡ true → (cond b x y).state ≡ x.state
kept_state b x y e = ap (λ t. (cond t x y).state) e

pub stands_admitted : (old new : Kept) (r : Request) (calls : List Call) → StandsFor old calls → IsServed old.config r.place → is_queue_full (state_of old) r.echo.kind ≡ false →
    state_of new ≡ after_admit r (state_of old) → StandsFor new (calls ++ Admit r ∷ [])
stands_admitted old new r calls stands served room is =
    let h = run old.config old.start calls in
    let room' : is_queue_full h.state r.echo.kind ≡ false = ap (λ (s : State). is_queue_full s r.echo.kind) (sym stands.state) ∙ room in
    stands_after old new calls (Admit r) stands served (ap (λ (s : State). s.config) is) (ap (λ (s : State). s.start) is)
    (is ∙ ap (after_admit r) stands.state ∙ sym (chosen_state (is_queue_full h.state r.echo.kind) h _ room'))

pub stands_refused : (old new : Kept) (r : Request) (calls : List Call) → StandsFor old calls → IsServed old.config r.place → is_queue_full (state_of old) r.echo.kind ≡ true →
    new ≡ old → StandsFor new (calls ++ Admit r ∷ [])
stands_refused old new r calls stands served full is =
    let h = run old.config old.start calls in
    let full' : is_queue_full h.state r.echo.kind ≡ true = ap (λ (s : State). is_queue_full s r.echo.kind) (sym stands.state) ∙ full in
    stands_after old new calls (Admit r) stands served (ap (λ (k : Kept). k.config) is) (ap (λ (k : Kept). k.start) is)
    (ap state_of is ∙ stands.state ∙ sym (kept_state (is_queue_full h.state r.echo.kind) h _ full'))

pub stands_cycled : (old new : Kept) (calls : List Call) → StandsFor old calls → (old.now ≡ CLOCK_STOP → ⊥) → state_of new ≡ after_cycle (state_of old) → (after_cycle (state_of old)).config ≡ old.config →
    (after_cycle (state_of old)).start ≡ old.start → StandsFor new (calls ++ Cycle ∷ [])
stands_cycled old new calls stands clock is config start =
    let h = run old.config old.start calls in
    let clock' : eqb h.state.now CLOCK_STOP ≡ false = ne_eqb h.state.now CLOCK_STOP (λ e. clock (ap (λ (s : State). s.now) stands.state ∙ e)) in
    stands_after old new calls Cycle stands tt (ap (λ (s : State). s.config) is ∙ config) (ap (λ (s : State). s.start) is ∙ start)
    (is ∙ ap after_cycle stands.state ∙ sym (chosen_state (eqb h.state.now CLOCK_STOP) h (record (with_owner (choice_of (at_choice h.state)) h) { state = after_cycle h.state }) clock'))

pub stands_popped : (old new : Kept) (calls : List Call) → StandsFor old calls → state_of new ≡ after_pop (state_of old) → StandsFor new (calls ++ Pop ∷ [])
stands_popped old new calls stands is =
    stands_after old new calls Pop stands tt (ap (λ (s : State). s.config) is) (ap (λ (s : State). s.start) is) (is ∙ ap after_pop stands.state)

-- the completion that is handed out

behind : {X : Type 0} (before after : List X) (x : X) → slice_get after 0 ≡ Some x → slice_get (before ++ after) (length before) ≡ Some x
behind [] after x is = is
behind (y ∷ ys) after x is = behind ys after x is

first_of_both : {X : Type 0} (xs ys : List X) (x : X) → slice_get xs 0 ≡ Some x → slice_get (xs ++ ys) 0 ≡ Some x
first_of_both [] ys x is = cc
first_of_both (z ∷ zs) ys x is = is

pub next_answer : (k : Kept) (calls : List Call) (d : Completion) → StandsFor k calls → slice_get k.done 0 ≡ Some d → IsNextAnswer (run k.config k.start calls) d
next_answer k calls d stands is =
    let h = run k.config k.start calls in
    let promise = promise_kept k.config k.start calls stands.calls_are in
    let done : slice_get h.state.done 0 ≡ Some d = ap (λ (s : State). slice_get s.done 0) (sym stands.state) ∙ is in
    let here : slice_get (h.popped ++ (h.state.done ++ h.state.flight)) (length h.popped) ≡ Some d = behind h.popped (h.state.done ++ h.state.flight) d (first_of_both h.state.done h.state.flight d done) in
    let whole = ap (λ (xs : List Completion). slice_get xs (length h.popped)) (append_assoc h.popped h.state.done h.state.flight) ∙ here in
    let answer = ap (λ (xs : List (Option Completion)). slice_get xs (length h.popped)) (sym promise.answers) ∙ mapped_at Some ((h.popped ++ h.state.done) ++ h.state.flight) (length h.popped) d whole in
    let found = at_map (right_answer h.state.config h.accepted) h.owners (length h.popped) (Some d) answer in
    record { owner = found.0; next = found.1; right = found.2 }

-- a cycle leaves the configuration and the first cycle

issued_config : (c : Choice) (s : State) → (issued c s).config ≡ s.config
issued_config c s = served_alike (λ t. t.config) (λ t place r. refl) c (recorded (command_of s.pending c) s)

issued_start : (c : Choice) (s : State) → (issued c s).start ≡ s.start
issued_start c s = served_alike (λ t. t.start) (λ t place r. refl) c (recorded (command_of s.pending c) s)

pub stands_after_cycle : (old new : Kept) (calls : List Call) → StandsFor old calls → (old.now ≡ CLOCK_STOP → ⊥) → state_of new ≡ after_cycle (state_of old) → StandsFor new (calls ++ Cycle ∷ [])
stands_after_cycle old new calls stands clock is =
    stands_cycled old new calls stands clock is (issued_config (choice_of (at_choice (state_of old))) (at_choice (state_of old))) (issued_start (choice_of (at_choice (state_of old))) (at_choice (state_of old)))

-- for who follows a channel: a cycle changes no first cycle, and no acceptance list

pub cycle_start : (old new : Kept) → state_of new ≡ after_cycle (state_of old) → new.start ≡ old.start
cycle_start old new made = ap (λ (s : State). s.start) made ∙ issued_start (choice_of (at_choice (state_of old))) (at_choice (state_of old))

pub owner_accepted : (c : Choice) (h : History) → (with_owner c h).accepted ≡ h.accepted
owner_accepted choice.Nothing h = refl
owner_accepted (choice.Refresh rank) h = refl
owner_accepted (choice.PreAll rank) h = refl
owner_accepted (choice.Act place) h = refl
owner_accepted (choice.Pre place) h = refl
owner_accepted (choice.Column place) h = refl
owner_accepted (choice.ColumnAuto place) h = refl

accepted_if : (b : Bool) (x y : History) → y.accepted ≡ x.accepted → (cond b x y).accepted ≡ x.accepted
accepted_if true x y same = refl
accepted_if false x y same = same

pub cycle_accepted : (h : History) → (after_call h Cycle).accepted ≡ h.accepted
cycle_accepted h = accepted_if (eqb h.state.now CLOCK_STOP) h (record (with_owner (choice_of (at_choice h.state)) h) { state = after_cycle h.state }) (owner_accepted (choice_of (at_choice h.state)) h)
