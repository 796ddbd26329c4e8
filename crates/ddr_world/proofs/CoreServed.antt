-- When the requests were served whose completions come to the ports.
use Rattle.std.proofs.Common.{◌≡◌, ℕ, zero, suc, ◌+◌, Bool, true, false, cond, List, [], ◌∷◌, ◌++◌, Option, Some, None, IfSome, map, refl, sym, ap, subst, ◌∙◌, inl, inr}
use Rattle.std.specs.List.{filter, slice_get}
use Rattle.std.specs.Option.{option_map, option_map_or, option_and_then}
use Rattle.std.proofs.lemmas.Bool.Decides.{eqb_tells}
use Rattle.std.proofs.lemmas.Option.{slice_get_within}
use Rattle.circular_buffer.proofs.Places.{slice_get-set_same, slice_get-set_other}
use Rattle.ddr_timing.specs.declared.config.Config.{Config}
use Rattle.ddr_trace.specs.declared.command.Entry.{Entry}
use Rattle.ddr_trace.specs.Commands.{entry, is_column}
use Rattle.ddr_address_map.specs.declared.request.Echo.{Echo}
use Rattle.ddr_address_map.specs.Requests.{Request, Completion}
use Rattle.ddr_arbiter.specs.Commands.{column_at, column_of}
use Rattle.ddr_channel.specs.Cycle.{service_time}
use Rattle.ddr_channel.specs.History as channel
use Rattle.ddr_channel.specs.Promise.{owned_entry}
use Rattle.ddr_channel.specs.State as channel_state
use Rattle.ddr_channel.proofs.HistoryLemmas.{kept_run}
use Rattle.ddr_channel.proofs.ListLemmas.{at_map, mapped_at}
use Rattle.ddr_channel.proofs.PromiseLemmas.{promise_kept}
use Rattle.ddr_reorder.specs.declared.reply.Service.{Service}
use Rattle.ddr_reorder.specs.Replies.{Answer, answer_of, filled_prefix, has_number, lent_bytes, nth_answer, nth_service, outstanding_at, served_answer, served_service}
use Rattle.ddr_reorder.specs.State.{Outstanding}
use Rattle.ddr_ports.specs.State.{service_of}
use Rattle.ddr_world.specs.History.{Opening, History}
use Rattle.ddr_world.specs.Promise.{trace_at}
use Rattle.ddr_world.specs.Served.{WasServed}
use Rattle.ddr_world.specs.State.{PortSide, ChannelSide, State}
use Rattle.ddr_world.specs.Step.{with_channel}
use Rattle.ddr_world.proofs.CoreKeeps.{PortServed, CoreKeeps, requests_in, Grows, grows_by, grows_none, there_still}
use Rattle.ddr_world.proofs.CoreReplies.{at_take, done_answer, found_place, some_of_then}

-- what is told stays, as the traces grow

pub served_still : (config : Config) (s s' : State) (echo : Echo) (v : Service) → ((c : ℕ) → Grows (trace_at s c) (trace_at s' c)) → WasServed config s echo v → WasServed config s' echo v
served_still config s s' echo v grows w = record {
  place = w.place;
  addressed = w.addressed;
  auto = w.auto;
  at = w.at;
  command = there_still (trace_at s w.place.channel) (trace_at s' w.place.channel) w.at (entry v.issued (column_at w.auto echo.kind w.place)) (grows w.place.channel) w.command;
  due = w.due;
}

pub filled_still : (config : Config) (s s' : State) (echo : Echo) (o : Option Service) → ((c : ℕ) → Grows (trace_at s c) (trace_at s' c)) → IfSome o (WasServed config s echo) → IfSome o (WasServed config s' echo)
filled_still config s s' echo None grows w = tt
filled_still config s s' echo (Some v) grows w = served_still config s s' echo v grows w

pub port_served_still : (config : Config) (s s' : State) (side : PortSide) → ((c : ℕ) → Grows (trace_at s c) (trace_at s' c)) → PortServed config s side → PortServed config s' side
port_served_still config s s' side grows k = record {
  queue = λ j d is. served_still config s s' d.echo (service_of d) grows (k.queue j d is);
  filled = λ j e is. filled_still config s s' e.echo e.service grows (k.filled j e is);
}

-- the traces, where that of one channel grew
pub traces_grow : (s : State) (c : ℕ) (old new : ChannelSide) → slice_get s.channels c ≡ Some old → Grows old.channel.trace new.channel.trace → (i : ℕ) → Grows (trace_at s i) (trace_at (with_channel c new s) i)
traces_grow s c old new was grows i = elim (eqb_tells i c) [
  | inl same ↦ (let before : trace_at s i ≡ old.channel.trace = ap (trace_at s) same.1 ∙ ap (λ (o : Option ChannelSide). option_map_or (λ side. side.channel.trace) o []) was in
      let after : trace_at (with_channel c new s) i ≡ new.channel.trace =
      ap (trace_at (with_channel c new s)) same.1 ∙ ap (λ (o : Option ChannelSide). option_map_or (λ side. side.channel.trace) o []) (slice_get-set_same s.channels c new (slice_get_within s.channels c old was)) in
      subst (λ (xs : List Entry). Grows xs (trace_at (with_channel c new s) i)) (sym before) (subst (λ (ys : List Entry). Grows old.channel.trace ys) (sym after) grows))
  | inr other ↦ grows_none (trace_at s i) (trace_at (with_channel c new s) i) (ap (λ (o : Option ChannelSide). option_map_or (λ side. side.channel.trace) o []) (slice_get-set_other s.channels c i new other.1))
]

-- an element that passes a test is one of them all
at_filter : {X : Type 0} (test : X → Bool) (xs : List X) (n : ℕ) (x : X) → slice_get (filter test xs) n ≡ Some x → (i : ℕ) × (slice_get xs i ≡ Some x)
at_filter test [] n x is = cc
at_filter test (y ∷ ys) n x is = by_test (test y) n is (λ m there. at_filter test ys m x there)
  where
    by_test : (b : Bool) (n : ℕ) → slice_get (cond b (y ∷ filter test ys) (filter test ys)) n ≡ Some x → ((m : ℕ) → slice_get (filter test ys) m ≡ Some x → (i : ℕ) × (slice_get ys i ≡ Some x))
        → (i : ℕ) × (slice_get (y ∷ ys) i ≡ Some x)
    by_test true zero is later = (0, is)
    by_test true (suc n) is later = let rest = later n is in (suc rest.0, rest.1)
    by_test false n is later = let rest = later n is in (suc rest.0, rest.1)

-- of a completion that is done
pub done_served : (o : Opening) (h : History) (c : ℕ) (side : ChannelSide) (d : Completion) → CoreKeeps o h → slice_get h.state.channels c ≡ Some side → slice_get side.channel.done 0 ≡ Some d
    → WasServed o.config h.state d.echo (service_of d)
done_served o h c side d k was done =
    let keeps = k.channels c side was in
    let run = channel.run o.config o.cycle keeps.calls in
    let promise = promise_kept o.config o.cycle keeps.calls keeps.calls_are in
    let kept = kept_run o.config o.cycle keeps.calls keeps.calls_are in
    let answer = done_answer o (h.admitted c) (h.accepted c) side d keeps done in
    let owner = answer.owner in
    let r = answer.request in
    let more : Grows run.accepted (h.accepted c) = grows_by run.accepted (h.accepted c) (requests_in side.requests) (sym keeps.accepted_are ∙ ap (λ (rs : List Request). rs ++ requests_in side.requests) (sym keeps.admitted_are)) in
    let back = k.accepted c owner.place r (there_still run.accepted (h.accepted c) owner.place r more answer.there) in
    let echo : r.echo ≡ d.echo = ap (λ (x : Completion). x.echo) answer.is in
    let column : slice_get (map Some (filter (λ e. is_column e.command) run.state.trace)) answer.index ≡ Some (Some (entry owner.cycle (column_of owner.auto r))) =
    ap (λ (xs : List (Option Entry)). slice_get xs answer.index) promise.commands ∙ mapped_at (owned_entry run.accepted) run.owners answer.index owner answer.owned
    ∙ ap (λ (q : Option Request). Some (option_map (λ r. entry owner.cycle (column_of owner.auto r)) q)) answer.there in
    let found = at_map Some (filter (λ e. is_column e.command) run.state.trace) answer.index (Some (entry owner.cycle (column_of owner.auto r))) column in
    let one : found.0 ≡ entry owner.cycle (column_of owner.auto r) = let same = found.2 in cc in
    let in_trace = at_filter (λ (e : Entry). is_column e.command) run.state.trace answer.index found.0 found.1 in
    let trace : trace_at h.state r.place.channel ≡ run.state.trace =
    ap (trace_at h.state) back.placed.channel ∙ ap (λ (x : Option ChannelSide). option_map_or (λ side. side.channel.trace) x []) was ∙ ap (λ (s : channel_state.State). s.trace) keeps.state in
    let there : slice_get (trace_at h.state r.place.channel) in_trace.0 ≡ Some (entry owner.cycle (column_at owner.auto r.echo.kind r.place)) =
    ap (λ (es : List Entry). slice_get es in_trace.0) trace ∙ in_trace.1 ∙ ap Some one in
    let served : WasServed o.config h.state r.echo (record { issued = owner.cycle; due = owner.cycle + service_time o.config r.echo.kind }) = record {
      place = r.place;
      addressed = back.placed.placed;
      auto = owner.auto;
      at = in_trace.0;
      command = there;
      due = refl;
    } in
    let cycles : service_of d ≡ record { issued = owner.cycle; due = owner.cycle + service_time o.config r.echo.kind } =
    ap service_of (sym answer.is) ∙ ap (λ (config : Config). record { issued = owner.cycle; due = owner.cycle + service_time config r.echo.kind }) kept.config_is in
    subst (λ (v : Service). WasServed o.config h.state d.echo v) (sym cycles) (subst (λ (x : Echo). WasServed o.config h.state x (record { issued = owner.cycle; due = owner.cycle + service_time o.config r.echo.kind })) echo served)

-- of the reply that a port lends

answer_echo : (e : Outstanding) (a : Answer) → answer_of e ≡ Some a → e.echo ≡ a.echo
answer_echo e a is = by_line e.line is
  where
    by_line : (l : Option (List ℕ)) → option_map (λ line. record { number = e.number; echo = e.echo; bytes = lent_bytes e.echo line }) l ≡ Some a → e.echo ≡ a.echo
    by_line None is = cc
    by_line (Some line) is = let same : record { number = e.number; echo = e.echo; bytes = lent_bytes e.echo line } ≡ a = cc in ap (λ (x : Answer). x.echo) same

both_served : (config : Config) (s : State) (side : PortSide) (o : Option Outstanding) (a : Answer) (v : Service) → PortServed config s side
    → ((e : Outstanding) → o ≡ Some e → (j : ℕ) × (slice_get side.core.reorder.outstanding j ≡ Some e)) → option_and_then answer_of o ≡ Some a → option_and_then (λ e. e.service) o ≡ Some v → WasServed config s a.echo v
both_served config s side o a v k place answer service =
    let told = some_of_then (λ (e : Outstanding). e.service) o v service in
    let lent = some_of_then answer_of o a answer in
    let one : Some told.0 ≡ Some lent.0 = sym told.1 ∙ lent.1 in
    let same : told.0 ≡ lent.0 = cc in
    let echo : told.0.echo ≡ a.echo = ap (λ (e : Outstanding). e.echo) same ∙ answer_echo lent.0 a lent.2 in
    let there = place told.0 told.1 in
    let served : WasServed config s told.0.echo v = subst (λ (o : Option Service). IfSome o (WasServed config s told.0.echo)) told.2 (k.filled there.0 told.0 there.1) in
    subst (λ (x : Echo). WasServed config s x v) echo served

pub front_served : (config : Config) (s : State) (side : PortSide) (a : Answer) (v : Service) → PortServed config s side → nth_answer side.core.reorder 0 ≡ Some a → nth_service side.core.reorder 0 ≡ Some v → WasServed config s a.echo v
front_served config s side a v k answer service =
    both_served config s side (slice_get (filled_prefix side.core.reorder) 0) a v k (λ e is. (0, at_take _ side.core.reorder.outstanding 0 e is)) answer service

pub number_served : (config : Config) (s : State) (side : PortSide) (number : ℕ) (a : Answer) (v : Service) → PortServed config s side → served_answer side.core.reorder number ≡ Some a
    → served_service side.core.reorder number ≡ Some v → WasServed config s a.echo v
number_served config s side number a v k answer service =
    both_served config s side (outstanding_at side.core.reorder number) a v k
    (λ e is. let found = found_place (has_number number) side.core.reorder.outstanding e is in (found.place, found.there)) answer service
