-- Each request of a replay is admitted in time.
use Rattle.std.proofs.Common.{◌≡◌, ◌≤◌, ◌<◌, ◌∙◌, ℕ, Bool, true, List, length, Some, Ok, refl, sym, ap, subst, arith}
use Rattle.std.specs.List.{slice_get}
use Rattle.std.proofs.lemmas.Option.{slice_get_within}
use Rattle.ddr_timing.specs.declared.config.Config.{Config}
use Rattle.ddr_latency.specs.Bound.{latency, leaves_room}
use Rattle.ddr_channel.specs.State as channel_state
use Rattle.ddr_deadline.proofs.OnWayLemmas.{in_time_run}
use Rattle.ddr_address_map.specs.Requests.{Request}
use Rattle.ddr_world.specs.History.{Answered}
use Rattle.ddr_world.specs.History as history
use Rattle.ddr_world.specs.State.{ChannelSide, State}
use Rattle.ddr_world.proofs.CoreRuns.{run_keeps}
use Rattle.ddr_core_deadline.specs.InCore.{calls_of}
use Rattle.ddr_core_deadline.proofs.NoneLemmas.{begun_none}
use Rattle.ddr_core_deadline.proofs.RoundLemmas.{IsPart, begun_reached}
use Rattle.ddr_stream.specs.Stream.{Queues}
use Rattle.ddr_replay.specs.declared.order.Order.{Order}
use Rattle.ddr_replay.specs.Runs.{Run, begun, replayed, turns}
use Rattle.ddr_replay_deadline.specs.InReplay.{events_of_turns, replay_opening}
use Rattle.ddr_replay_deadline.specs.Waits.{IsAdmittedIn, acceptances, admitted_in}
use Rattle.ddr_replay_deadline.proofs.AdmitLemmas.{run_waits}
use Rattle.ddr_replay_deadline.proofs.ClockLemmas.{Waits, left_in_time, waiting_in_time}
use Rattle.ddr_replay_deadline.proofs.RefusedLemmas.{Refuses, turns_refuse}
use Rattle.ddr_replay_deadline.proofs.TurnLemmas.{over_turns, turns_part}

admits_in : (config : Config) (events : List Answered) (s : State) → IsPart (history.begun (replay_opening config)).state events s → Refuses (history.begun (replay_opening config)).state events → leaves_room config ≡ true → (c : ℕ) (side : ChannelSide)
    → slice_get s.channels c ≡ Some side → IsAdmittedIn config events s c side
admits_in config events s part refuses leaves c side there =
    let o = replay_opening config in
    let led = part.leads (history.begun o) refl in
    let at : slice_get (history.run o events).state.channels c ≡ Some side = ap (λ (t : State). slice_get t.channels c) led.state ∙ there in
    let inside : c < config.geometry.channels = omega (arith, slice_get_within (history.run o events).state.channels c side at, (run_keeps o events).channels_are) in
    let k = run_waits o c events leaves inside led.takes (refuses (history.begun o) refl) in
    let by = k.made side at in
    let calls = calls_of c (history.begun o) events in
    let came = acceptances c (history.begun o) events in
    let left = admitted_in config events c in
    let room = config.limits.intake in
    let waits = subst (Waits room (latency config) came left) (sym (ap (λ (t : channel_state.State). t.now) by.state)) k.waits in
    record {
      is_record = led.is_record;
      state = led.state;
      accepted = k.counted;
      admitted = (in_time_run config 0 calls leaves by.are by.takes).each ∙ ap (λ (rs : List Request). length rs) by.admitted_are;
      in_time = record {
        few = k.bounded.few;
        each = λ place clock cycle came_at left_at. left_in_time room (latency config) came left side.channel.now waits place clock cycle came_at left_at;
        waiting = λ place clock behind came_at. waiting_in_time room (latency config) came left side.channel.now waits k.bounded place clock behind came_at;
      };
    }

pub turns_admit : (config : Config) (keeps : Bool) (order : Order) (queues : Queues) (n : ℕ) (last : Run) → leaves_room config ≡ true → turns config n (begun config keeps order queues) ≡ Some last → (c : ℕ) (side : ChannelSide)
    → slice_get last.state.channels c ≡ Some side → IsAdmittedIn config (events_of_turns config n (begun config keeps order queues)) last.state c side
turns_admit config keeps order queues n last leaves made =
    let o = replay_opening config in
    let run = begun config keeps order queues in
    admits_in config (events_of_turns config n run) last.state (turns_part o config n run last (begun_reached o) (begun_none o) made) (turns_refuse o config n run last (begun_reached o) (begun_none o) made) leaves

pub replay_admits : (config : Config) (keeps : Bool) (order : Order) (queues : Queues) (n : ℕ) (last : Run) → leaves_room config ≡ true → replayed config n (begun config keeps order queues) ≡ Ok last
    → (m : ℕ) × (m ≤ n) × (turns config m (begun config keeps order queues) ≡ Some last)
    × ((c : ℕ) (side : ChannelSide) → slice_get last.state.channels c ≡ Some side → IsAdmittedIn config (events_of_turns config m (begun config keeps order queues)) last.state c side)
replay_admits config keeps order queues n last leaves made =
    over_turns (λ m. (c : ℕ) (side : ChannelSide) → slice_get last.state.channels c ≡ Some side → IsAdmittedIn config (events_of_turns config m (begun config keeps order queues)) last.state c side) config n (begun config keeps order queues) last made
    (λ m is. turns_admit config keeps order queues m last leaves is)
