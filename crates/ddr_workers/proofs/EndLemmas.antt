-- What a worker has done at its end, and at any time.
use Rattle.std.proofs.Common.{◌≡◌, ℕ, ◌≤◌, List, [], ◌∷◌, ◌++◌, length, map, filter, Option, Some, slice_get, refl, sym, ap, ap₂, ◌∙◌, subst}
use Rattle.std.specs.List.{range_with_len}
use Rattle.std.specs.List.Sorted.{IsPermutation}
use Rattle.std.specs.Option.{option_to_list}
use Rattle.std.proofs.lemmas.List.{append-nil}
use Rattle.ddr_timing.specs.declared.config.Config.{Config}
use Rattle.ddr_trace.specs.declared.checker.Fault.{Fault}
use Rattle.ddr_trace.specs.declared.command.Entry.{Entry}
use Rattle.ddr_trace.specs.Commands.{is_column}
use Rattle.ddr_trace.specs.Legality.{IsLegal, IsRefreshed}
use Rattle.ddr_trace.specs.Traces.{Recorded}
use Rattle.ddr_address_map.specs.Requests as records
use Rattle.ddr_address_map.specs.Requests.{Completion}
use Rattle.ddr_channel.specs.History.{Call, Owner, begun, run}
use Rattle.ddr_channel.specs.Promise as promise
use Rattle.ddr_channel.specs.Promise.{AreCalls, KeepsPromise, right_answer, owned_entry}
use Rattle.ddr_channel.specs.State.{State}
use Rattle.ddr_channel.proofs.InTimeLemmas.{refreshed_run}
use Rattle.ddr_workers.specs.Worker.{WorkerState, AreBusy, AreSent, IsAtWork, IsWorkDone, HasNothing, refused_pushes, unused_cycles}
use Rattle.ddr_workers.specs.WorkerView.{IsWhole, history_of}

abbrev Promised : Type 0
Promised = (config : Config) (start : ℕ) (calls : List Call) → AreCalls config calls → KeepsPromise (run config start calls)

pub at_work : (w : WorkerState) → IsWhole w → Promised → IsAtWork w
at_work w whole promised = record {
  calls = whole.calls;
  history = history_of w.channel whole.calls;
  made = refl;
  busy = whole.at_work.busy;
  unused = whole.at_work.unused;
  state = whole.at_work.stands.state;
  admitted = whole.at_work.admitted;
  sent = whole.at_work.sent;
  promise = promised w.channel.config w.channel.start whole.calls whole.at_work.stands.calls_are;
}

none_waiting : (accepted : List records.Request) (waiting : List ℕ) → [] ≡ map (slice_get accepted) waiting → waiting ≡ []
none_waiting accepted [] e = refl
none_waiting accepted (n ∷ ns) e = cc

all_nil : {X : Type 0} (xs : List X) → xs ++ [] ++ [] ≡ xs
all_nil xs = append-nil (xs ++ []) ∙ append-nil xs

pub work_done : (w : WorkerState) (config : Config) (trace : Recorded) (left : Option Recorded) (fault : Option Fault) → IsWhole w → HasNothing w → Promised → trace ≡ record { start = w.channel.start; end = w.channel.now; entries = w.channel.trace }
    → IsLegal w.channel.config trace.start trace.end trace.entries
    → IsWorkDone w.channel.config (record { id = w.id; number = w.number; config = config; requests = w.requests; completions = w.completions; trace = trace; kept = left; fault = fault })
work_done w config trace left fault whole nothing promised is legal =
    let h = history_of w.channel whole.calls in
    let kept = promised w.channel.config w.channel.start whole.calls whole.at_work.stands.calls_are in
    let state = whole.at_work.stands.state in
    let accepted = whole.at_work.admitted in
    let own : h.state.config ≡ w.channel.config = ap (λ (s : State). s.config) (sym state) in
    let pending : h.state.pending ≡ [] = ap (λ (s : State). s.pending) (sym state) ∙ nothing.pending in
    let done : h.state.done ≡ [] = ap (λ (s : State). s.done) (sym state) ∙ nothing.done in
    let flight : h.state.flight ≡ [] = ap (λ (s : State). s.flight) (sym state) ∙ nothing.flight in
    let entries : h.state.trace ≡ trace.entries = ap (λ (s : State). s.trace) (sym state) ∙ sym (ap (λ (t : Recorded). t.entries) is) in
    let start : trace.start ≡ w.channel.start = ap (λ (t : Recorded). t.start) is in
    let waiting : h.waiting ≡ [] = none_waiting h.accepted h.waiting (sym (ap (λ ws. map (λ (r : records.Request). Some r) (promise.requests_of ws)) pending) ∙ kept.pending) in
    let all_popped : h.popped ++ h.state.done ++ h.state.flight ≡ h.popped = ap₂ (λ (xs ys : List Completion). h.popped ++ xs ++ ys) done flight ∙ all_nil h.popped in
    record {
      ends = nothing.ends;
      owners = h.owners;
      each_once = subst (λ rs. IsPermutation (range_with_len 0 (length rs)) (map (λ (o : Owner). o.place) h.owners)) accepted
          (subst (λ xs. IsPermutation (range_with_len 0 (length h.accepted)) xs) (ap (λ xs. map (λ (o : Owner). o.place) h.owners ++ xs) waiting ∙ append-nil (map (λ (o : Owner). o.place) h.owners)) kept.each_once);
      commands = ap (λ (es : List Entry). map (λ (e : Entry). Some e) (filter (λ e. is_column e.command) es)) (sym entries) ∙ kept.commands ∙ ap (λ rs. map (owned_entry rs) h.owners) accepted;
      dones = h.popped;
      answers = ap (map (λ (d : Completion). Some d)) (sym all_popped) ∙ kept.answers ∙ ap₂ (λ (c : Config) (rs : List records.Request). map (right_answer c rs) h.owners) own accepted;
      sent = subst (λ o. AreSent h.popped (option_to_list o) w.completions) nothing.held whole.at_work.sent;
      legal = legal;
      refreshed = subst (λ (t : Recorded). IsRefreshed w.channel.config t.start t.end t.entries) (sym is)
          (subst (λ (s : State). IsRefreshed s.config s.start s.now s.trace) (sym state) (refreshed_run w.channel.config w.channel.start whole.calls whole.at_work.stands.calls_are).refreshed);
      calls = whole.calls;
      admitted = ap (λ n. (run w.channel.config n whole.calls).accepted) start ∙ accepted;
      popped = sym (ap (λ n. (run w.channel.config n whole.calls).popped) start);
      entries = sym entries ∙ sym (ap (λ n. (run w.channel.config n whole.calls).state.trace) start);
      clock = ap (λ (t : Recorded). t.end) is ∙ ap (λ (s : State). s.now) state ∙ sym (ap (λ n. (run w.channel.config n whole.calls).state.now) start);
      busy = subst (λ n. AreBusy (begun w.channel.config n) whole.calls) (sym start) whole.at_work.busy;
      unused = subst (λ n. unused_cycles (begun w.channel.config n) whole.calls ≤ refused_pushes w.completions) (sym start) whole.at_work.unused;
    }
