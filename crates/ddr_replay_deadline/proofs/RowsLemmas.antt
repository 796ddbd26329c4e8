-- Each row of a replay tells of its request, which was complete in time.
use Rattle.std.proofs.Common.{◌≡◌, ◌≤◌, ◌<◌, ◌+◌, ◌∙◌, ℕ, Bool, List, Option, Some, None, Ok, IsSomeAnd, refl, sym, ap, subst, arith}
use Rattle.std.specs.List.{slice_get}
use Rattle.ddr_timing.specs.declared.config.Config.{Config}
use Rattle.ddr_latency.specs.Bound.{burst, latency}
use Rattle.ddr_address_map.specs.declared.request.Kind.{Kind}
use Rattle.ddr_address_map.specs.declared.request.Kind.TheVariants.{Read, Write}
use Rattle.ddr_channel.specs.Cycle.{service_time}
use Rattle.ddr_channel.specs.State as channel_state
use Rattle.ddr_world.specs.History.{Answered}
use Rattle.ddr_world.specs.History as history
use Rattle.ddr_world.specs.State.{ChannelSide, State}
use Rattle.ddr_world.proofs.CorePromise.{core_keeps_promise}
use Rattle.ddr_world.proofs.CoreRuns.{run_keeps}
use Rattle.ddr_core_deadline.proofs.NoneLemmas.{begun_none}
use Rattle.ddr_core_deadline.proofs.RoundLemmas.{begun_reached}
use Rattle.ddr_stream.specs.Stream.{Queues}
use Rattle.ddr_replay.specs.declared.order.Order.{Order}
use Rattle.ddr_ledger.specs.declared.released.ReleasedRequest.{ReleasedRequest}
use Rattle.ddr_replay.specs.Runs.{Run, begun, replayed, turns}
use Rattle.ddr_replay_deadline.specs.InReplay.{IsServedIn, events_of_turns, replay_opening}
use Rattle.ddr_replay_deadline.specs.Rows.{IsRowInTime, IsRowOf, TellsRows, channel_by}
use Rattle.ddr_replay_deadline.specs.Waits.{IsAdmittedIn, admitted_in, longest_wait}
use Rattle.ddr_replay_deadline.proofs.AdmitLemmas.{there_is}
use Rattle.ddr_replay_deadline.proofs.ReplayLemmas.{turns_admit}
use Rattle.ddr_replay_deadline.proofs.RowLemmas.{turns_told}
use Rattle.ddr_replay_deadline.proofs.TellLemmas.{channel_inside}
use Rattle.ddr_replay_deadline.proofs.TurnLemmas.{over_turns, turns_in_time, turns_part}

service_most : (config : Config) (kind : Kind) → service_time config kind ≤ burst config
service_most config Read = omega arith
service_most config Write = omega arith

some_of : (o : Option ℕ) (P : ℕ → Type 0) → IsSomeAnd o P → (n : ℕ) × (o ≡ Some n) × P n
some_of None P some = absurd some
some_of (Some n) P some = (n, refl, some)

-- what is served in time and was admitted in time is complete in time
row_in_time : (config : Config) (events : List Answered) (s : State) (row : ReleasedRequest) → IsRowOf config events row → (history.run (replay_opening config) events).state ≡ s
    → ((c : ℕ) (side : ChannelSide) → slice_get s.channels c ≡ Some side → IsServedIn config events s c side) → ((c : ℕ) (side : ChannelSide) → slice_get s.channels c ≡ Some side → IsAdmittedIn config events s c side) → IsRowInTime config row
row_in_time config events s row r state serves admits =
    let o = replay_opening config in
    let h = history.run o events in
    let c = r.at.channel in
    let here = there_is o c h (run_keeps o events) (channel_inside config events c r.at.place r.request r.there) in
    let at : slice_get s.channels c ≡ Some here.0 = ap (λ (t : State). slice_get t.channels c) (sym state) ∙ here.1 in
    let serve = (serves c here.0 at).in_time in
    let admit = (admits c here.0 at).in_time in
    let config_is : here.0.channel.config ≡ config = ((core_keeps_promise o events).opened c here.0 here.1).0 in
    let left_at = slice_get (admitted_in config events c) r.owner.place in
    let same : (channel_by config events c).state.config ≡ config = ap (λ (t : channel_state.State). t.config) (sym serve.state) ∙ config_is in
    let served = subst (λ (k : Config). IsSomeAnd left_at (λ cycle. r.owner.cycle + burst k < cycle + latency k)) same (serve.in_time.served r.column r.owner r.owned) in
    let some = some_of left_at (λ cycle. r.owner.cycle + burst config < cycle + latency config) served in
    let left : slice_get (admitted_in config events c) r.at.place ≡ Some some.0 = ap (λ i. slice_get (admitted_in config events c) i) (sym r.place) ∙ some.1 in
    let each = admit.each r.at.place row.accepted some.0 r.accepted left in
    add_up row.due row.issued row.accepted r.owner.cycle some.0 (service_time config row.ask.kind) (burst config) (latency config) (longest_wait config) r.due r.issued (service_most config row.ask.kind)
    some.2 each.1
  where
    add_up : (due issued accepted cycle admitted service most clocks wait : ℕ) → due ≡ issued + service → cycle ≡ issued → service ≤ most → cycle + most < admitted + clocks → admitted ≤ accepted + wait → due < accepted + (wait + clocks)
    add_up due issued accepted cycle admitted service most clocks wait one two three four five = omega (arith, one, two, three, four, five)

pub turns_tell : (config : Config) (keeps : Bool) (order : Order) (queues : Queues) (n : ℕ) (last : Run) → turns config n (begun config keeps order queues) ≡ Some last → TellsRows config (events_of_turns config n (begun config keeps order queues)) last
turns_tell config keeps order queues n last made =
    let o = replay_opening config in
    let run = begun config keeps order queues in
    let events = events_of_turns config n run in
    let led = (turns_part o config n run last (begun_reached o) (begun_none o) made).leads (history.begun o) refl in
    let told = turns_told config keeps order queues n last made in
    record {
      is_record = led.is_record;
      state = led.state;
      rows = λ place row at.
          let one = told.ledger.each place row at in
          record {
            is_row = one.is_row;
            in_order = one.in_order;
            in_time = λ leaves. row_in_time config events last.state row one.is_row led.state (turns_in_time config keeps order queues n last leaves made) (turns_admit config keeps order queues n last leaves made);
          };
      whole = told.ledger.numbered;
    }

pub replay_tells : (config : Config) (keeps : Bool) (order : Order) (queues : Queues) (n : ℕ) (last : Run) → replayed config n (begun config keeps order queues) ≡ Ok last
    → (m : ℕ) × (m ≤ n) × (turns config m (begun config keeps order queues) ≡ Some last) × TellsRows config (events_of_turns config m (begun config keeps order queues)) last
replay_tells config keeps order queues n last made =
    over_turns (λ m. TellsRows config (events_of_turns config m (begun config keeps order queues)) last) config n (begun config keeps order queues) last made (λ m is. turns_tell config keeps order queues m last is)
