-- What a new port begins with, and what a finished one leaves.
use Rattle.std.proofs.Common.{◌≡◌, ℕ, zero, suc, ◌-◌, ◌≤◌, false, nat_lt, List, [], ◌∷◌, ◌++◌, All, length, map, Option, Some, IfSome, slice_get, refl, sym, ap, ◌∙◌, subst, arith}
use Rattle.std.specs.List.{sum_by, range_with_len}
use Rattle.std.proofs.lemmas.Bool.Decides.{nat_tests}
use Rattle.std.proofs.lemmas.List.Elements.{All-nil}
use Rattle.std.proofs.lemmas.List.{append-nil}
use Rattle.ddr_timing.specs.declared.config.Config.{Config}
use Rattle.ddr_trace.specs.declared.checker.Fault.{Fault}
use Rattle.ddr_trace.specs.Traces.{Recorded}
use Rattle.ddr_address_map.specs.Requests.{Request, Completion}
use Rattle.ddr_reorder.specs.Sound.{IsSound}
use Rattle.ddr_reorder.specs.State.{Outstanding, IsWithinLine}
use Rattle.ddr_ports.specs.State as core
use Rattle.ddr_workers.specs.declared.completions.Delivery.{Delivery}
use Rattle.ddr_world.specs.declared.item.Item.{Item}
use Rattle.ddr_workers.specs.declared.requests.Route.{Route}
use Rattle.ddr_workers.specs.Counted.{IsCounted, numbers_put, numbers_filled}
use Rattle.ddr_workers.specs.Ended.{IsEnded, IsWorkerEnded}
use Rattle.ddr_workers.specs.Judged.{IsJudged}
use Rattle.ddr_workers.specs.Open.{IsNewPut, new_port}
use Rattle.ddr_workers.specs.Port.{PortState, first_with, after_ends}
use Rattle.ddr_workers.specs.PortView.{IsSideTo, IsReady, IsAwaited, IsWhole}
use Rattle.ddr_workers.specs.Requests.{has_end}
use Rattle.ddr_workers.specs.Sides.{PutSide, TakeSide}
use Rattle.ddr_workers.specs.Worker.{WorkerState, IsWorkDone, requests_of}
use Rattle.ddr_workers.specs.WorkerView as worker
use Rattle.ddr_workers.proofs.CountedLemmas.{numbers_of}
use Rattle.ddr_workers.proofs.PortLemmas.{ends_ended, ends_core, ends_length}

abbrev Side : Type 0
Side = PutSide Route Item

-- a new port

none_below : (c : ℕ) → nat_lt c 0 ≡ false
none_below c = grind (arith, nat_tests)

new_side : (config : Config) (port c : ℕ) (side : Side) → IsNewPut config.geometry port c side → IsSideTo port config.geometry 0 c side
new_side config port c side new = record { source = new.source; route = new.route; ends = ap has_end new.put ∙ sym (none_below c) }

nothing_put : (f : ℕ → ℕ) (sides : List Side) → ((c : ℕ) (side : Side) → slice_get sides c ≡ Some side → side.put ≡ []) → sum_by f (numbers_put sides) ≡ 0
nothing_put f [] none = refl
nothing_put f (side ∷ sides) none =
    let here : numbers_of side ≡ [] = ap (λ (items : List Item). map (λ (r : Request). r.number) (requests_of items)) (none 0 side refl) in
    ap (λ (ns : List ℕ). sum_by f (ns ++ numbers_put sides)) here ∙ nothing_put f sides (λ c x is. none (suc c) x is)

pub new_whole : (config : Config) (id port : ℕ) (sides : List Side) (take : TakeSide Delivery Completion) → IsSound (core.opened config port 0).reorder → length sides ≡ config.geometry.channels
    → ((c : ℕ) (side : Side) → slice_get sides c ≡ Some side → IsNewPut config.geometry port c side) → take.took ≡ [] → IsWhole (new_port config id port sides take)
new_whole config id port sides take sound channels new took = record {
  channels = channels;
  few = omega (arith, config.geometry.channels_range);
  sides = λ c side is. new_side config port c side (new c side is);
  ended = omega arith;
  unfinished = λ open_still. refl;
  counted = refl;
  sound = sound;
  ready = All-nil (IsReady take.took);
  awaited = λ working. All-nil (IsAwaited take.took);
  fresh = λ working n above. ap (first_with n) took;
}

pub new_counted : (config : Config) (id port : ℕ) (sides : List Side) (take : TakeSide Delivery Completion) → ((c : ℕ) (side : Side) → slice_get sides c ≡ Some side → IsNewPut config.geometry port c side) → take.took ≡ []
    → IsCounted (new_port config id port sides take)
new_counted config id port sides take new took = record {
  asked = λ f. nothing_put f sides (λ c side is. (new c side is).put);
  within = λ c side is. subst (λ (items : List Item). All (λ r. IsWithinLine r.echo) (requests_of items)) (sym (new c side is).put) (All-nil (λ r. IsWithinLine r.echo));
  got = λ working f. ap (λ (ds : List Completion). sum_by f (map (λ d. d.number) ds)) took;
}

-- a finished port

ends_broken : (n : ℕ) (s : PortState) → (after_ends n s).broken ≡ s.broken
ends_broken zero s = refl
ends_broken (suc n) s = ends_broken n s

none_filled : (f : ℕ → ℕ) (n : ℕ) (os : List Outstanding) → length os ≡ 0 → sum_by f (range_with_len 0 n ++ numbers_filled os) ≡ sum_by f (range_with_len 0 n)
none_filled f n [] none = ap (sum_by f) (append-nil (range_with_len 0 n))
none_filled f n (o ∷ os) none = absurd (omega (arith, none))

pub ended_kept : (s t : PortState) (port : ℕ) → IsWhole t → IsCounted t → s.broken ≡ false → s.ended ≤ length s.requests → length s.core.reorder.outstanding ≡ 0 → t ≡ after_ends (length s.requests - s.ended) s → port ≡ t.core.port
    → IsEnded (record { id = t.id; port = port; taken = t.taken; requests = t.requests; completions = t.completions })
ended_kept s t port whole counted working within nothing is number =
    let n = length s.requests - s.ended in
    let ended : t.ended ≡ t.core.geometry.channels = omega (arith, ap (λ (u : PortState). u.ended) is, ends_ended n s, within, ap (λ (u : PortState). length u.requests) is, ends_length n s, whole.channels) in
    let none : length t.core.reorder.outstanding ≡ 0 = ap (λ (u : PortState). length u.core.reorder.outstanding) is ∙ ap (λ (k : core.PortState). length k.reorder.outstanding) (ends_core n s) ∙ nothing in
    let works : t.broken ≡ false = ap (λ (u : PortState). u.broken) is ∙ ends_broken n s ∙ working in
    let all : t.core.reorder.next ≡ t.taken = omega (arith, whole.counted, none) in
    record {
      geometry = t.core.geometry;
      channels = whole.channels;
      sides = λ c side there. subst (λ m. IsSideTo port t.core.geometry m c side) ended (subst (λ m. IsSideTo m t.core.geometry t.ended c side) (sym number) (whole.sides c side there));
      asked = λ f. counted.asked f ∙ ap (λ m. sum_by f (range_with_len 0 m)) all;
      within = counted.within;
      got = λ f. counted.got works f ∙ none_filled f t.taken t.core.reorder.outstanding none;
    }

-- a worker at its end
pub worker_ended : (w : WorkerState) (config : Config) (trace : Recorded) (left : Option Recorded) (fault : Option Fault) → worker.IsWhole w → config ≡ w.channel.config → IfSome left (λ t. t ≡ trace) → IsJudged w.channel.config trace fault
    → IsWorkDone w.channel.config (record { id = w.id; number = w.number; config = config; requests = w.requests; completions = w.completions; trace = trace; kept = left; fault = fault })
    → IsWorkerEnded (record { id = w.id; number = w.number; config = config; requests = w.requests; completions = w.completions; trace = trace; kept = left; fault = fault })
worker_ended w config trace left fault whole own kept judged done = record {
  work = subst (λ (c : Config). IsWorkDone c (record { id = w.id; number = w.number; config = config; requests = w.requests; completions = w.completions; trace = trace; kept = left; fault = fault })) (sym own) done;
  route = subst (λ (c : Config). w.requests.who.queue.purpose ≡ record { geometry = c.geometry; channel = w.number }) (sym own) whole.route;
  count = whole.ports;
  sides = λ p side there. subst (λ (c : Config). worker.IsSideOf c.geometry w.number p side) (sym own) (whole.sides p side there);
  kept = kept;
  judged = subst (λ (c : Config). IsJudged c trace fault) (sym own) judged;
  taken = whole.taken;
}
