-- What each step of a turn keeps.
use Rattle.std.proofs.Common.{◌≡◌, ℕ, zero, suc, ◌+◌, replicate, ◌<◌, Bool, true, false, cond, eqb, List, [], ◌∷◌, ◌++◌, All, length, map, take, Option, Some, None, IfSome, is_some, Result, Ok, Err, slice_get, get_or, set, refl, sym, ap, ap₂, ◌∙◌, subst, arith}
use Rattle.std.specs.List.{fold}
use Rattle.std.specs.Option.{option_to_list}
use Rattle.std.specs.Result.{IsErrOf, OnOk, OnErr}
use Rattle.std.proofs.lemmas.List.{length-set}
use Rattle.std.proofs.lemmas.List.Elements.{All-push, All-nil}
use Rattle.std.proofs.lemmas.List.Sums.{fold-append}
use Rattle.ddr_timing.specs.declared.config.Config.{Config}
use Rattle.ddr_timing.specs.declared.units.TheConstants.{CLOCK_STOP}
use Rattle.ddr_address_map.specs.declared.request.Kind.TheVariants.{Read, Write}
use Rattle.ddr_address_map.specs.Map.{in_range, place_of}
use Rattle.ddr_address_map.specs.Requests as records
use Rattle.ddr_address_map.specs.Requests.{Completion}
use Rattle.ddr_arbiter.specs.declared.choice.Choice.{Choice}
use Rattle.ddr_arbiter.specs.declared.choice.Choice.TheVariants as choice
use Rattle.ddr_channel.specs.declared.channel.CycleError.{CycleError}
use Rattle.ddr_channel.specs.declared.channel.CycleError.TheVariants as cycle
use Rattle.ddr_channel.specs.Choice.{choice_of}
use Rattle.ddr_channel.specs.Cycle.{at_choice, after_cycle}
use Rattle.ddr_channel.specs.History.{Call, Admit, Cycle, Pop, History, begun, with_owner, after_call, run}
use Rattle.ddr_channel.specs.Kept as kept
use Rattle.ddr_channel.specs.Kept.{Kept}
use Rattle.ddr_channel.specs.Promise.{AreCalls, StandsFor, IsNextAnswer}
use Rattle.ddr_channel.specs.State.{State, after_admit, after_pop, is_queue_full}
use Rattle.ddr_channel.specs.Sound.{AreDue}
use Rattle.ddr_channel.proofs.HistoryLemmas.{kept_run}
use Rattle.ddr_channel.proofs.StandsLemmas.{cycle_start, owner_accepted}
use Rattle.ddr_world.specs.Items.{MayTake, Takes}
use Rattle.ddr_world.proofs.SideLemmas.{free_kind}
use Rattle.ddr_workers.specs.declared.completions.Delivery.{Delivery}
use Rattle.ddr_world.specs.declared.item.Item.{Item}
use Rattle.ddr_world.specs.declared.item.Item.TheVariants.{Request, End}
use Rattle.ddr_workers.specs.declared.requests.Route.{Route}
use Rattle.ddr_workers.specs.declared.worker.Cause.TheVariants.{OutOfMemory}
use Rattle.ddr_workers.specs.Open.{IsNewDonePut}
use Rattle.ddr_workers.specs.Requests.{IsNext, has_end, of_port}
use Rattle.ddr_workers.specs.Sides as sides
use Rattle.ddr_workers.specs.Sides.{PutSide, TakeSide, after_push, after_full, changed_at}
use Rattle.ddr_workers.specs.Worker.{WorkerState, AreBusy, AreSent, IsBusy, IsIdle, IsSameWorker, cause_of, is_without_work, refused_pushes, requests_of, to_port, unused_cycles}
use Rattle.ddr_workers.specs.WorkerView.{HasTried, IsSideOf, IsTaken, IsGiven, IsWhole, StandsAt, history_of, unused_in}
use Rattle.ddr_workers.proofs.ChangedLemmas.{length-changed, each_changed}
use Rattle.ddr_workers.proofs.PaceLemmas.{unused_next, first_taken, refused_pushed, refused_full, paced}
use Rattle.ddr_workers.proofs.SentLemmas.{first_as_list, map-changed, sent_held, sent_pushed, sent_full, given, requests_last, requests_ended, ends_asked, noted_ended, in_range_of}

abbrev Side : Type 0
Side = PutSide Delivery Completion

-- one more call
next_history : (k k' : Kept) (calls : List Call) (call : Call) → k'.config ≡ k.config → k'.start ≡ k.start → history_of k' (calls ++ call ∷ []) ≡ after_call (history_of k calls) call
next_history k k' calls call config start =
    ap₂ (λ (c : Config) (s : ℕ). run c s (calls ++ call ∷ [])) config start ∙ fold-append after_call (begun k.config k.start) calls (call ∷ [])

busy_more : (h : History) (calls : List Call) (call : Call) → AreBusy h calls → IsBusy (fold after_call h calls) call → AreBusy h (calls ++ call ∷ [])
busy_more h [] call busy is = (is, tt)
busy_more h (first ∷ later) call busy is = (busy.0, busy_more (after_call h first) later call busy.1 is)

busy_next : (k k' : Kept) (calls : List Call) (call : Call) → k'.config ≡ k.config → k'.start ≡ k.start → AreBusy (begun k.config k.start) calls → IsBusy (history_of k calls) call
    → AreBusy (begun k'.config k'.start) (calls ++ call ∷ [])
busy_next k k' calls call config start busy is =
    subst (λ h. AreBusy h (calls ++ call ∷ [])) (sym (ap₂ begun config start)) (busy_more (begun k.config k.start) calls call busy is)

-- what a worker keeps beside its calls goes over to another state of its channel
sides_of : (w : WorkerState) (k : Kept) → IsWhole w → k.config ≡ w.channel.config → (p : ℕ) (side : Side) → slice_get w.completions p ≡ Some side → IsSideOf k.config.geometry w.number p side
sides_of w k whole config p side there = subst (λ (c : Config). IsSideOf c.geometry w.number p side) (sym config) (whole.sides p side there)

route_of : (w : WorkerState) (k : Kept) → IsWhole w → k.config ≡ w.channel.config → w.requests.who.queue.purpose ≡ record { geometry = k.config.geometry; channel = w.number }
route_of w k whole config = subst (λ (c : Config). w.requests.who.queue.purpose ≡ record { geometry = c.geometry; channel = w.number }) (sym config) whole.route

if_given : (o : Option Completion) (P Q : Completion → Type 0) → ((d : Completion) → P d → Q d) → IfSome o P → IfSome o Q
if_given None P Q f p = tt
if_given (Some d) P Q f p = f d p

-- a completion was taken from the channel, and is held
pub whole_held : (w : WorkerState) (k : Kept) (o : Option Completion) → IsWhole w → w.held ≡ None → o ≡ slice_get w.channel.done 0 → kept.state_of k ≡ after_pop (kept.state_of w.channel) → k.config ≡ w.channel.config
    → ((calls : List Call) → StandsFor w.channel calls → IfSome o (IsNextAnswer (run w.channel.config w.channel.start calls)))
    → ((calls : List Call) → StandsFor w.channel calls → StandsFor k (calls ++ Pop ∷ [])) → IsWhole (record w { channel = k; held = o })
whole_held w k o whole none first rest config right stands =
    let calls = whole.calls in
    let h = history_of w.channel calls in
    let route = w.requests.who.queue.purpose in
    let ports = length w.completions in
    let next = next_history w.channel k calls Pop config (ap (λ (s : State). s.start) rest) in
    let taken : All (IsTaken route ports) h.accepted = subst (All (IsTaken route ports)) (sym whole.at_work.admitted) whole.taken in
    let held : IfSome o (IsGiven route ports) = if_given o (IsNextAnswer h) (IsGiven route ports) (λ d next. given h route ports d taken next) (right calls whole.at_work.stands) in
    let popped : take 1 h.state.done ≡ option_to_list o = ap (λ (s : State). take 1 s.done) (sym whole.at_work.stands.state) ∙ first_as_list w.channel.done ∙ ap option_to_list (sym first) in
    let unused = unused_next w.channel k calls Pop config (ap (λ (s : State). s.start) rest) in
    let unsent : length k.done + length (option_to_list o) ≡ length w.channel.done + length (option_to_list w.held) = omega (
      arith,
      ap (λ (s : State). length s.done) rest,
      first_taken w.channel.done,
      ap (λ (x : Option Completion). length (option_to_list x)) first,
      ap (λ (x : Option Completion). length (option_to_list x)) none,
    ) in
    let before : AreSent h.popped [] w.completions = subst (λ x. AreSent h.popped (option_to_list x) w.completions) none whole.at_work.sent in
    record {
      calls = calls ++ Pop ∷ [];
      at_work = record {
        stands = stands calls whole.at_work.stands;
        busy = busy_next w.channel k calls Pop config (ap (λ (s : State). s.start) rest) whole.at_work.busy tt;
        admitted = ap (λ (x : History). x.accepted) next ∙ whole.at_work.admitted;
        sent = subst (λ (x : History). AreSent x.popped (option_to_list o) w.completions) (sym next)
            (subst (λ xs. AreSent (h.popped ++ xs) (option_to_list o) w.completions) (sym popped) (sent_held h.popped o w.completions before (if_given o (IsGiven route ports) (λ d. d.port < ports) (λ d g. g.port) held)));
        unused = omega (arith, unused, whole.at_work.unused);
        left = omega (arith, unused, whole.at_work.left, unsent);
      };
      route = route_of w k whole config;
      ports = whole.ports;
      sides = sides_of w k whole config;
      taken = whole.taken;
      held = held;
      noted_ports = whole.noted_ports;
      noted = whole.noted;
    }

-- the completion that is held was pushed

pushed_at : (w : WorkerState) (d : Completion) (calls : List Call) → StandsAt w calls → w.held ≡ Some d → StandsAt (record w { completions = changed_at d.port (λ side. after_push side d) w.completions; held = None }) calls
pushed_at w d calls at held =
    let h = history_of w.channel calls in
    let refused = refused_pushed d d.port w.completions in
    record {
      stands = at.stands;
      busy = at.busy;
      admitted = at.admitted;
      sent = sent_pushed h.popped d w.completions (subst (λ o. AreSent h.popped (option_to_list o) w.completions) held at.sent);
      unused = omega (arith, refused, at.unused);
      left = omega (arith, refused, at.left);
    }

pub whole_pushed : (w : WorkerState) (d : Completion) (xs : List Side) → IsWhole w → w.held ≡ Some d → xs ≡ changed_at d.port (λ side. after_push side d) w.completions → IsWhole (record w { completions = xs; held = None })
whole_pushed w d xs whole held pushed =
    let change : Side → Side = λ side. after_push side d in
    let P = IsSideOf w.channel.config.geometry w.number in
    let count = length-changed change d.port w.completions in
    let whole' : IsWhole (record w { completions = changed_at d.port change w.completions; held = None }) = record {
      calls = whole.calls;
      at_work = pushed_at w d whole.calls whole.at_work held;
      route = whole.route;
      ports = whole.ports ∙ sym count;
      sides = each_changed change P P d.port w.completions whole.sides (λ x is. record { source = is.source; delivery = is.delivery }) (λ k x other is. is);
      taken = subst (λ n. All (IsTaken w.requests.who.queue.purpose n) (requests_of w.requests.took)) (sym count) whole.taken;
      held = tt;
      noted_ports = whole.noted_ports ∙ sym count;
      noted = λ p below. whole.noted p (subst (λ n. p < n) count below);
    } in
    subst (λ ys. IsWhole (record w { completions = ys; held = None })) (sym pushed) whole'

pub tried_pushed : (w : WorkerState) (d : Completion) (xs : List Side) → IsWhole w → w.held ≡ Some d → xs ≡ changed_at d.port (λ side. after_push side d) w.completions → HasTried (record w { completions = xs; held = None })
tried_pushed w d xs whole held pushed =
    let tried : HasTried (record w { completions = changed_at d.port (λ side. after_push side d) w.completions; held = None }) = record {
      calls = whole.calls;
      at_work = pushed_at w d whole.calls whole.at_work held;
      tried = omega (arith, refused_pushed d d.port w.completions, whole.at_work.left, ap (λ (o : Option Completion). length (option_to_list o)) held);
    } in
    subst (λ ys. HasTried (record w { completions = ys; held = None })) (sym pushed) tried

-- it was not, since the queue was full

full_at : (w : WorkerState) (d : Completion) (calls : List Call) → StandsAt w calls → d.port < length w.completions → StandsAt (record w { completions = changed_at d.port after_full w.completions }) calls
full_at w d calls at within =
    let h = history_of w.channel calls in
    let refused = refused_full d.port w.completions within in
    record {
      stands = at.stands;
      busy = at.busy;
      admitted = at.admitted;
      sent = sent_full h.popped (option_to_list w.held) d.port w.completions at.sent;
      unused = omega (arith, refused, at.unused);
      left = omega (arith, refused, at.left);
    }

held_port : (w : WorkerState) (d : Completion) → IsWhole w → w.held ≡ Some d → d.port < length w.completions
held_port w d whole held =
    let given : IsGiven w.requests.who.queue.purpose (length w.completions) d = subst (λ o. IfSome o (IsGiven w.requests.who.queue.purpose (length w.completions))) held whole.held in
    given.port

pub whole_full : (w : WorkerState) (d back : Completion) (xs : List Side) → IsWhole w → w.held ≡ Some d → back ≡ d → xs ≡ changed_at d.port after_full w.completions → IsWhole (record w { completions = xs; held = Some back })
whole_full w d back xs whole held same full =
    let P = IsSideOf w.channel.config.geometry w.number in
    let count = length-changed after_full d.port w.completions in
    let whole' : IsWhole (record w { completions = changed_at d.port after_full w.completions; held = w.held }) = record {
      calls = whole.calls;
      at_work = full_at w d whole.calls whole.at_work (held_port w d whole held);
      route = whole.route;
      ports = whole.ports ∙ sym count;
      sides = each_changed after_full P P d.port w.completions whole.sides (λ x is. record { source = is.source; delivery = is.delivery }) (λ k x other is. is);
      taken = subst (λ n. All (IsTaken w.requests.who.queue.purpose n) (requests_of w.requests.took)) (sym count) whole.taken;
      held = subst (λ n. IfSome w.held (IsGiven w.requests.who.queue.purpose n)) (sym count) whole.held;
      noted_ports = whole.noted_ports ∙ sym count;
      noted = λ p below. whole.noted p (subst (λ n. p < n) count below);
    } in
    subst (λ ys. IsWhole (record w { completions = ys; held = Some back })) (sym full)
    (subst (λ o. IsWhole (record w { completions = changed_at d.port after_full w.completions; held = o })) (held ∙ ap (λ x. Some x) (sym same)) whole')

pub tried_full : (w : WorkerState) (d back : Completion) (xs : List Side) → IsWhole w → w.held ≡ Some d → back ≡ d → xs ≡ changed_at d.port after_full w.completions → HasTried (record w { completions = xs; held = Some back })
tried_full w d back xs whole held same full =
    let within = held_port w d whole held in
    let tried : HasTried (record w { completions = changed_at d.port after_full w.completions; held = w.held }) = record {
      calls = whole.calls;
      at_work = full_at w d whole.calls whole.at_work within;
      tried = omega (arith, refused_full d.port w.completions within, whole.at_work.left);
    } in
    subst (λ ys. HasTried (record w { completions = ys; held = Some back })) (sym full)
    (subst (λ o. HasTried (record w { completions = changed_at d.port after_full w.completions; held = o })) (held ∙ ap (λ x. Some x) (sym same)) tried)

-- nothing is held, and nothing is done
pub tried_none : (w : WorkerState) → IsWhole w → w.held ≡ None → w.channel.done ≡ [] → HasTried w
tried_none w whole held done = record {
  calls = whole.calls;
  at_work = whole.at_work;
  tried = omega (arith, whole.at_work.unused, ap (λ (o : Option Completion). length (option_to_list o)) held, ap length done);
}

-- a request was admitted

chosen : (b : Bool) (x y : History) → b ≡ false → cond b x y ≡ y
chosen b x y e = ap (λ t. cond t x y) e

admitted_at : (w : WorkerState) (k : Kept) (r : records.Request) (calls : List Call) → StandsAt w calls
    → is_queue_full (kept.state_of w.channel) r.echo.kind ≡ false → kept.state_of k ≡ after_admit r (kept.state_of w.channel) → k.config ≡ w.channel.config
    → ((calls : List Call) → StandsFor w.channel calls → StandsFor k (calls ++ Admit r ∷ [])) → StandsAt (record w { channel = k; requests = sides.after_pop w.requests (Request r) }) (calls ++ Admit r ∷ [])
admitted_at w k r calls at room made config stands =
    let h = history_of w.channel calls in
    let h' : History = record h { state = after_admit r h.state; accepted = h.accepted ++ r ∷ []; waiting = h.waiting ++ length h.accepted ∷ [] } in
    let room' : is_queue_full h.state r.echo.kind ≡ false = ap (λ (s : State). is_queue_full s r.echo.kind) (sym at.stands.state) ∙ room in
    let start = ap (λ (s : State). s.start) made in
    let next = next_history w.channel k calls (Admit r) config start ∙ chosen (is_queue_full h.state r.echo.kind) h h' room' in
    let unused = unused_next w.channel k calls (Admit r) config start in
    let done = ap (λ (s : State). length s.done) made in
    record {
      stands = stands calls at.stands;
      busy = busy_next w.channel k calls (Admit r) config start at.busy tt;
      admitted = ap (λ (x : History). x.accepted) next ∙ ap (λ rs. rs ++ r ∷ []) at.admitted ∙ sym (requests_last w.requests.took r);
      sent = subst (λ (x : History). AreSent x.popped (option_to_list w.held) w.completions) (sym next) at.sent;
      unused = omega (arith, unused, at.unused);
      left = omega (arith, unused, done, at.left);
    }

pub whole_admitted : (w : WorkerState) (k : Kept) (r : records.Request) (t : TakeSide Route Item) → IsWhole w → t ≡ sides.after_pop w.requests (Request r) → IsNext w.requests (Request r)
    → is_queue_full (kept.state_of w.channel) r.echo.kind ≡ false → kept.state_of k ≡ after_admit r (kept.state_of w.channel) → k.config ≡ w.channel.config
    → ((calls : List Call) → StandsFor w.channel calls → StandsFor k (calls ++ Admit r ∷ [])) → IsWhole (record w { channel = k; requests = t })
whole_admitted w k r t whole popped is_next room made config stands =
    let calls = whole.calls in
    let route = w.requests.who.queue.purpose in
    let ports = length w.completions in
    let taken : IsTaken route ports r = record { port = subst (λ n. r.port < n) whole.ports is_next.port; placed = is_next.placed } in
    let whole' : IsWhole (record w { channel = k; requests = sides.after_pop w.requests (Request r) }) = record {
      calls = calls ++ Admit r ∷ [];
      at_work = admitted_at w k r calls whole.at_work room made config stands;
      route = route_of w k whole config;
      ports = whole.ports;
      sides = sides_of w k whole config;
      taken = subst (All (IsTaken route ports)) (sym (requests_last w.requests.took r)) (All-push (IsTaken route ports) (requests_of w.requests.took) r whole.taken taken);
      held = whole.held;
      noted_ports = whole.noted_ports;
      noted = λ p below. whole.noted p below ∙ sym (ends_asked p w.requests.took r);
    } in
    subst (λ (x : TakeSide Route Item). IsWhole (record w { channel = k; requests = x })) (sym popped) whole'

pub tried_admitted : (w : WorkerState) (k : Kept) (r : records.Request) (t : TakeSide Route Item) → HasTried w → t ≡ sides.after_pop w.requests (Request r)
    → is_queue_full (kept.state_of w.channel) r.echo.kind ≡ false → kept.state_of k ≡ after_admit r (kept.state_of w.channel) → k.config ≡ w.channel.config
    → ((calls : List Call) → StandsFor w.channel calls → StandsFor k (calls ++ Admit r ∷ [])) → HasTried (record w { channel = k; requests = t })
tried_admitted w k r t before popped room made config stands =
    let tried : HasTried (record w { channel = k; requests = sides.after_pop w.requests (Request r) }) = record {
      calls = before.calls ++ Admit r ∷ [];
      at_work = admitted_at w k r before.calls before.at_work room made config stands;
      tried = omega (arith, unused_next w.channel k before.calls (Admit r) config (ap (λ (s : State). s.start) made), ap (λ (s : State). length s.done) made, before.tried);
    } in
    subst (λ (x : TakeSide Route Item). HasTried (record w { channel = k; requests = x })) (sym popped) tried

-- an End was noted

noted_at : (w : WorkerState) (q : ℕ) (noted : List Bool) (calls : List Call) → StandsAt w calls → StandsAt (record w { requests = sides.after_pop w.requests (End q); noted = noted }) calls
noted_at w q noted calls at = record {
  stands = at.stands;
  busy = at.busy;
  admitted = at.admitted ∙ sym (requests_ended w.requests.took q);
  sent = at.sent;
  unused = at.unused;
  left = at.left;
}

pub whole_noted : (w : WorkerState) (q : ℕ) (t : TakeSide Route Item) → IsWhole w → t ≡ sides.after_pop w.requests (End q) → IsNext w.requests (End q) → IsWhole (record w { requests = t; noted = set w.noted q true })
whole_noted w q t whole popped is_next =
    let route = w.requests.who.queue.purpose in
    let ports = length w.completions in
    let same = requests_ended w.requests.took q in
    let within : q < length w.noted = omega (arith, is_next.port, whole.ports, whole.noted_ports) in
    let whole' : IsWhole (record w { requests = sides.after_pop w.requests (End q); noted = set w.noted q true }) = record {
      calls = whole.calls;
      at_work = noted_at w q (set w.noted q true) whole.calls whole.at_work;
      route = whole.route;
      ports = whole.ports;
      sides = whole.sides;
      taken = subst (All (IsTaken route ports)) (sym same) whole.taken;
      held = whole.held;
      noted_ports = length-set w.noted q true ∙ whole.noted_ports;
      noted = λ p below. noted_ended w.noted w.requests.took p q within (whole.noted p below);
    } in
    subst (λ (x : TakeSide Route Item). IsWhole (record w { requests = x; noted = set w.noted q true })) (sym popped) whole'

pub tried_noted : (w : WorkerState) (q : ℕ) (t : TakeSide Route Item) (noted : List Bool) → HasTried w → t ≡ sides.after_pop w.requests (End q) → HasTried (record w { requests = t; noted = noted })
tried_noted w q t noted before popped =
    let tried : HasTried (record w { requests = sides.after_pop w.requests (End q); noted = noted }) = record {
      calls = before.calls;
      at_work = noted_at w q noted before.calls before.at_work;
      tried = before.tried;
    } in
    subst (λ (x : TakeSide Route Item). HasTried (record w { requests = x; noted = noted })) (sym popped) tried

-- an item was taken

pub whole_taken : (w : WorkerState) (k : Kept) (x : Item) (t : TakeSide Route Item) (noted : List Bool) → IsWhole w → t ≡ sides.after_pop w.requests x → IsNext w.requests x
    → (is_queue_full (kept.state_of w.channel) Read ≡ false) × (is_queue_full (kept.state_of w.channel) Write ≡ false) → Takes x w.channel k w.noted noted → IsWhole (record w { channel = k; requests = t; noted = noted })
whole_taken w k (Request r) t noted whole popped is_next free takes =
    subst (λ (xs : List Bool). IsWhole (record w { channel = k; requests = t; noted = xs })) (sym takes.1)
    (whole_admitted w k r t whole popped is_next (free_kind (kept.state_of w.channel) r.echo.kind free) takes.0.state takes.0.config takes.0.stands)
whole_taken w k (End q) t noted whole popped is_next free takes =
    subst (λ (xs : List Bool). IsWhole (record w { channel = k; requests = t; noted = xs })) (sym takes.1)
    (subst (λ (c : Kept). IsWhole (record w { channel = c; requests = t; noted = set w.noted q true })) (sym takes.0) (whole_noted w q t whole popped is_next))

pub tried_taken : (w : WorkerState) (k : Kept) (x : Item) (t : TakeSide Route Item) (noted : List Bool) → HasTried w → t ≡ sides.after_pop w.requests x
    → (is_queue_full (kept.state_of w.channel) Read ≡ false) × (is_queue_full (kept.state_of w.channel) Write ≡ false) → Takes x w.channel k w.noted noted → HasTried (record w { channel = k; requests = t; noted = noted })
tried_taken w k (Request r) t noted before popped free takes =
    subst (λ (xs : List Bool). HasTried (record w { channel = k; requests = t; noted = xs })) (sym takes.1)
    (tried_admitted w k r t before popped (free_kind (kept.state_of w.channel) r.echo.kind free) takes.0.state takes.0.config takes.0.stands)
tried_taken w k (End q) t noted before popped free takes =
    subst (λ (c : Kept). HasTried (record w { channel = c; requests = t; noted = noted })) (sym takes.0) (tried_noted w q t noted before popped)

-- no item was there
pub tried_empty : (w : WorkerState) (t : TakeSide Route Item) → HasTried w → t ≡ sides.after_empty w.requests → HasTried (record w { requests = t })
tried_empty w t before none =
    let at = before.at_work in
    let tried : HasTried (record w { requests = sides.after_empty w.requests }) = record {
      calls = before.calls;
      at_work = record {
        stands = at.stands;
        busy = at.busy;
        admitted = at.admitted;
        sent = at.sent;
        unused = at.unused;
        left = at.left;
      };
      tried = before.tried;
    } in
    subst (λ (x : TakeSide Route Item). HasTried (record w { requests = x })) (sym none) tried

-- the channel made a cycle

owner_popped : (c : Choice) (h : History) → (with_owner c h).popped ≡ h.popped
owner_popped choice.Nothing h = refl
owner_popped (choice.Refresh rank) h = refl
owner_popped (choice.PreAll rank) h = refl
owner_popped (choice.Act place) h = refl
owner_popped (choice.Pre place) h = refl
owner_popped (choice.Column place) h = refl
owner_popped (choice.ColumnAuto place) h = refl

if_alike : {X : Type 0} (b : Bool) (x y : History) (f : History → X) → f y ≡ f x → f (cond b x y) ≡ f x
if_alike true x y f same = refl
if_alike false x y f same = same

cycle_alike : {X : Type 0} (h : History) (f : History → X) → f (record (with_owner (choice_of (at_choice h.state)) h) { state = after_cycle h.state }) ≡ f h → f (after_call h Cycle) ≡ f h
cycle_alike h f same = if_alike (eqb h.state.now CLOCK_STOP) h (record (with_owner (choice_of (at_choice h.state)) h) { state = after_cycle h.state }) f same

flight_due : (k : Kept) (calls : List Call) → StandsFor k calls → AreDue k.now k.flight
flight_due k calls stands = subst (λ (s : State). AreDue s.now s.flight) (sym stands.state) (kept_run k.config k.start calls stands.calls_are).keeps.due

pub whole_cycled : (w : WorkerState) (k : Kept) → IsWhole w → HasTried w → (IsIdle (kept.state_of w.channel) → ⊥) → k.config ≡ w.channel.config → kept.state_of k ≡ after_cycle (kept.state_of w.channel)
    → ((calls : List Call) → StandsFor w.channel calls → StandsFor k (calls ++ Cycle ∷ [])) → IsWhole (record w { channel = k })
whole_cycled w k whole before holds config made stands =
    let calls = before.calls in
    let at = before.at_work in
    let h = history_of w.channel calls in
    let s = kept.state_of w.channel in
    let start = cycle_start w.channel k made in
    let next = next_history w.channel k calls Cycle config start in
    let accepted = ap (λ (x : History). x.accepted) next ∙ cycle_alike h (λ x. x.accepted) (owner_accepted (choice_of (at_choice h.state)) h) in
    let popped = ap (λ (x : History). x.popped) next ∙ cycle_alike h (λ x. x.popped) (owner_popped (choice_of (at_choice h.state)) h) in
    let unused = unused_next w.channel k calls Cycle config start ∙ ap (λ (t : State). unused_in w calls + cond (is_without_work t) 1 0) (sym at.stands.state) in
    let pace = paced s (unused_in w calls) (length (option_to_list w.held)) (refused_pushes w.completions) (flight_due w.channel calls at.stands) holds before.tried in
    record {
      calls = calls ++ Cycle ∷ [];
      at_work = record {
        stands = stands calls at.stands;
        busy = busy_next w.channel k calls Cycle config start at.busy (λ idle. holds (subst IsIdle (sym at.stands.state) idle));
        admitted = accepted ∙ at.admitted;
        sent = subst (λ xs. AreSent xs (option_to_list w.held) w.completions) (sym popped) at.sent;
        unused = omega (arith, unused, pace.cycles);
        left = omega (arith, unused, ap (λ (t : State). length t.done) made, pace.left);
      };
      route = route_of w k whole config;
      ports = whole.ports;
      sides = sides_of w k whole config;
      taken = whole.taken;
      held = whole.held;
      noted_ports = whole.noted_ports;
      noted = whole.noted;
    }

-- it made none, and is in the state that it was in
pub whole_uncycled : (w : WorkerState) (k : Kept) → IsWhole w → kept.state_of k ≡ kept.state_of w.channel → IsWhole (record w { channel = k })
whole_uncycled w k whole same =
    let calls = whole.calls in
    let config : k.config ≡ w.channel.config = ap (λ (s : State). s.config) same in
    let start : k.start ≡ w.channel.start = ap (λ (s : State). s.start) same in
    let alike : history_of k calls ≡ history_of w.channel calls = ap₂ (λ (c : Config) (s : ℕ). run c s calls) config start in
    let unused = ap (λ h. unused_cycles h calls) (ap₂ begun config start) in
    record {
      calls = calls;
      at_work = record {
        stands = record {
          calls_are = subst (λ (c : Config). AreCalls c calls) (sym config) whole.at_work.stands.calls_are;
          state = same ∙ whole.at_work.stands.state ∙ ap (λ (x : History). x.state) (sym alike);
        };
        busy = subst (λ (x : History). AreBusy x calls) (sym (ap₂ begun config start)) whole.at_work.busy;
        admitted = ap (λ (x : History). x.accepted) alike ∙ whole.at_work.admitted;
        sent = subst (λ (x : History). AreSent x.popped (option_to_list w.held) w.completions) (sym alike) whole.at_work.sent;
        unused = omega (arith, unused, whole.at_work.unused);
        left = omega (arith, unused, ap (λ (s : State). length s.done) same, whole.at_work.left);
      };
      route = route_of w k whole config;
      ports = whole.ports;
      sides = sides_of w k whole config;
      taken = whole.taken;
      held = whole.held;
      noted_ports = whole.noted_ports;
      noted = whole.noted;
    }

-- it is the same worker

pub same_channel : (w : WorkerState) (k : Kept) (o : Option Completion) (t : TakeSide Route Item) (noted : List Bool) → k.config ≡ w.channel.config → k.start ≡ w.channel.start → k.keeps ≡ w.channel.keeps → t.who ≡ w.requests.who
    → IsSameWorker w (record w { channel = k; held = o; requests = t; noted = noted })
same_channel w k o t noted config start keeps who = record { id = refl; number = refl; config = config; start = start; keeps = keeps; requests = who; completions = refl }

pub same_sides : (w : WorkerState) (o : Option Completion) (place : ℕ) (change : Side → Side) (xs : List Side) → ((x : Side) → (change x).who ≡ x.who) → xs ≡ changed_at place change w.completions
    → IsSameWorker w (record w { completions = xs; held = o })
same_sides w o place change xs same is = record {
  id = refl;
  number = refl;
  config = refl;
  start = refl;
  keeps = refl;
  requests = refl;
  completions = ap (map (λ (side : Side). side.who)) is ∙ map-changed (λ (side : Side). side.who) change same place w.completions;
}

pub none_of : {X : Type 0} (o : Option X) → is_some o ≡ false → o ≡ None
none_of None e = refl
none_of (Some x) e = cc

-- the place of a request that was taken is in the memory
pub served : (w : WorkerState) (r : records.Request) → IsWhole w → IsNext w.requests (Request r) → in_range w.channel.config.geometry r.place ≡ true
served w r whole next =
    let placed = ap (λ (route : Route). place_of route.geometry r.echo.addr) (sym whole.route) ∙ next.placed.place in
    in_range_of w.channel.config.geometry r.echo.addr r.place placed

-- the channel may take what its worker popped
pub may_take : (w : WorkerState) (x : Item) → IsWhole w → IsNext w.requests x → (is_queue_full (kept.state_of w.channel) Read ≡ false) × (is_queue_full (kept.state_of w.channel) Write ≡ false) → MayTake x w.channel w.noted
may_take w (Request r) whole next free = (served w r whole next, free_kind (kept.state_of w.channel) r.echo.kind free)
may_take w (End q) whole next free = omega (arith, next.port, whole.ports, whole.noted_ports)

-- a cycle that was made, or was not
pub cycle_begins : {T : Type 0} (k k' : Kept) (r : Result T CycleError) → OnOk r (kept.state_of k' ≡ after_cycle (kept.state_of k)) → OnErr r (kept.state_of k' ≡ kept.state_of k) → k'.start ≡ k.start
cycle_begins k k' (Ok x) made none = cycle_start k k' made
cycle_begins k k' (Err e) made none = ap (λ (s : State). s.start) none

pub idle_after : {T : Type 0} (k k' : Kept) (r : Result T CycleError) (e : CycleError) → r ≡ Err e → OnErr r (kept.state_of k' ≡ kept.state_of k)
    → (choice_of (at_choice (kept.state_of k)) ≡ choice.Nothing → IsErrOf r cycle.OutOfMemory → ⊥) → cause_of e ≡ OutOfMemory → choice_of (at_choice (kept.state_of k')) ≡ choice.Nothing → ⊥
idle_after k k' (Ok x) e is none idle memory nothing = cc
idle_after k k' (Err cycle.ClockSpent) cycle.ClockSpent is none idle memory nothing = cc
idle_after k k' (Err cycle.ClockSpent) cycle.OutOfMemory is none idle memory nothing = cc
idle_after k k' (Err cycle.OutOfMemory) e is none idle memory nothing = idle (ap (λ (s : State). choice_of (at_choice s)) (sym none) ∙ nothing) refl

-- what an error says, and what it says where it is want of memory
pub on_err_of : {T : Type 0} (P : Type 0) (r : Result T CycleError) (e : CycleError) → r ≡ Err e → OnErr r P → P
on_err_of P (Ok x) e is holds = absurd (let impossible = is in cc)
on_err_of P (Err x) e is holds = holds

pub wanted_at : {T : Type 0} (P : Type 0) (r : Result T CycleError) (e : CycleError) → r ≡ Err e → (IsErrOf r cycle.OutOfMemory → P) → cause_of e ≡ OutOfMemory → P
wanted_at P r cycle.ClockSpent is wants memory = absurd (let impossible = memory in cc)
wanted_at P r cycle.OutOfMemory is wants memory = wants (is_error r is)
  where
    is_error : {T : Type 0} (x : Result T CycleError) → x ≡ Err cycle.OutOfMemory → IsErrOf x cycle.OutOfMemory
    is_error (Ok v) same = absurd (let impossible = same in cc)
    is_error (Err y) same = cc

-- before the first turn

get_or-replicate : (n k : ℕ) → get_or (replicate n false) k false ≡ false
get_or-replicate zero k = refl
get_or-replicate (suc n) zero = refl
get_or-replicate (suc n) (suc k) = get_or-replicate n k

length-replicate : {X : Type 0} (n : ℕ) (x : X) → length (replicate n x) ≡ n
length-replicate zero x = refl
length-replicate (suc n) x = ap suc (length-replicate n x)

pub whole_opened : (w : WorkerState) (config : Config) → w.channel.config ≡ config → StandsFor w.channel [] → w.requests.who.queue.purpose ≡ record { geometry = config.geometry; channel = w.number } → w.requests.who.count ≡ length w.completions
    → w.requests.took ≡ [] → ((p : ℕ) (side : Side) → slice_get w.completions p ≡ Some side → IsNewDonePut config.geometry w.number p side) → w.held ≡ None → w.noted ≡ replicate (length w.completions) false → IsWhole w
whole_opened w config same stands route ports took new held noted = record {
  calls = [];
  at_work = record {
    stands = stands;
    busy = tt;
    admitted = sym (ap requests_of took);
    sent = record {
      sent = λ p side there. sym (ap (λ xs. xs ++ to_port p (option_to_list w.held)) (new p side there).put ∙ ap (λ o. to_port p (option_to_list o)) held);
      ports = All-nil (λ (d : Completion). d.port < length w.completions);
    };
    unused = omega arith;
    left = omega (arith, ap (λ (s : State). length s.done) stands.state, ap (λ (o : Option Completion). length (option_to_list o)) held);
  };
  route = route ∙ ap (λ (c : Config). record { geometry = c.geometry; channel = w.number }) (sym same);
  ports = ports;
  sides = λ p side there. record {
    source = (new p side there).source;
    delivery = (new p side there).delivery ∙ ap (λ (c : Config). record { geometry = c.geometry; port = p }) (sym same);
  };
  taken = subst (λ xs. All (IsTaken w.requests.who.queue.purpose (length w.completions)) (requests_of xs)) (sym took) (All-nil (IsTaken w.requests.who.queue.purpose (length w.completions)));
  held = subst (λ o. IfSome o (IsGiven w.requests.who.queue.purpose (length w.completions))) (sym held) tt;
  noted_ports = ap length noted ∙ length-replicate (length w.completions) false;
  noted = λ p below. ap (λ bs. get_or bs p false) noted ∙ get_or-replicate (length w.completions) p ∙ sym (ap (λ xs. has_end (of_port p xs)) took);
}
