-- Each turn of a replay leaves nothing done, and so its requests are served in time.
use Rattle.std.proofs.Common.{◌≡◌, ◌≤◌, ◌∙◌, ℕ, zero, suc, Bool, true, false, cond, List, ◌++◌, [], Option, Some, None, Result, Ok, Err, refl, ap, subst, arith}
use Rattle.std.specs.Prelude.{◌==◌}
use Rattle.std.specs.List.{slice_get}
use Rattle.std.specs.Option.{option_map, option_map_or, option_and_then}
use Rattle.ddr_timing.specs.declared.config.Config.{Config}
use Rattle.ddr_latency.specs.Bound.{leaves_room}
use Rattle.ddr_rounds.specs.Rounds.{channels_served}
use Rattle.ddr_text.specs.declared.fault.Fault.{Fault}
use Rattle.ddr_text.specs.declared.fault.Fault.TheVariants.{ClockSpent, ReplayLimit}
use Rattle.ddr_world.specs.History.{Opening, Answered}
use Rattle.ddr_world.specs.History as history
use Rattle.ddr_world.specs.State.{ChannelSide, State}
use Rattle.ddr_core_deadline.specs.InRounds.{NoneDone, events_of_channels}
use Rattle.ddr_core_deadline.proofs.EventLemmas.{core_in_time}
use Rattle.ddr_core_deadline.proofs.NoneLemmas.{begun_none}
use Rattle.ddr_core_deadline.proofs.RoundLemmas.{IsPart, IsReached, begun_reached, channels_part, none_part, part_then, reached_then}
use Rattle.ddr_stream.specs.Stream.{Queues}
use Rattle.ddr_replay.specs.declared.order.Order.{Order}
use Rattle.ddr_replay.specs.Runs.{Run, all_submitted, begun, channels_counted, replayed, round_closed, round_made, turn, turns, unserved}
use Rattle.ddr_replay_deadline.specs.InReplay.{IsServedIn, events_of_all_submitted, events_of_ports_served, events_of_round_made, events_of_turn, events_of_turns, replay_opening}
use Rattle.ddr_replay_deadline.proofs.PartLemmas.{all_submitted_part, ports_served_part}

-- a turn

round_made_part : (o : Opening) (config : Config) (run next : Run) → IsReached o run.state → NoneDone run.state → round_made config run ≡ Some next → IsPart run.state (events_of_round_made config run) next.state
round_made_part o config run next reached none made = by_served (channels_served config.geometry.channels run.state) refl made
  where
    by_served : (x : Option State) → channels_served config.geometry.channels run.state ≡ x → option_map (round_closed config run) x ≡ Some next
        → IsPart run.state (events_of_channels config.geometry.channels run.state ++ option_map_or (λ s. events_of_ports_served config.limits.ports (channels_counted config run s)) x []) next.state
    by_served None is made = absurd (let impossible = made in cc)
    by_served (Some s) is made =
        let one = channels_part o config.geometry.channels run.state s reached none is in
        let counted = channels_counted config run s in
        let same : round_closed config run s ≡ next = cc in
        part_then run.state s next.state (events_of_channels config.geometry.channels run.state) (events_of_ports_served config.limits.ports counted) one
        (subst (λ (last : Run). IsPart s (events_of_ports_served config.limits.ports counted) last.state) same (ports_served_part config.limits.ports counted one.none))

pub turn_part : (o : Opening) (config : Config) (run next : Run) → IsReached o run.state → NoneDone run.state → turn config run ≡ Some next → IsPart run.state (events_of_turn config run) next.state
turn_part o config run next reached none made =
    let before = all_submitted config run in
    let events = events_of_all_submitted config run in
    let one = all_submitted_part config run none in
    part_then run.state before.state next.state events (events_of_round_made config before) one
    (round_made_part o config before next (reached_then o run.state before.state events reached one.leads) one.none made)

-- so many of them

by_turn : (o : Opening) (config : Config) (run last : Run) (events : Run → List Answered) (later : Run → Option Run) (x : Option Run) → IsReached o run.state → NoneDone run.state → turn config run ≡ x → option_and_then later x ≡ Some last
    → ((next : Run) → IsReached o next.state → NoneDone next.state → later next ≡ Some last → IsPart next.state (events next) last.state) → IsPart run.state (events_of_turn config run ++ option_map_or events x []) last.state
by_turn o config run last events later None reached none is made rest = absurd (let impossible = made in cc)
by_turn o config run last events later (Some next) reached none is made rest =
    let one = turn_part o config run next reached none is in
    part_then run.state next.state last.state (events_of_turn config run) (events next) one
    (rest next (reached_then o run.state next.state (events_of_turn config run) reached one.leads) one.none made)

pub turns_part : (o : Opening) (config : Config) (n : ℕ) (run last : Run) → IsReached o run.state → NoneDone run.state → turns config n run ≡ Some last → IsPart run.state (events_of_turns config n run) last.state
turns_part o config zero run last reached none made =
    let same : run ≡ last = cc in
    subst (λ (r : Run). IsPart run.state [] r.state) same (none_part run.state none)
turns_part o config (suc n) run last reached none made =
    by_turn o config run last (events_of_turns config n) (turns config n) (turn config run) reached none refl made (λ next at left is. turns_part o config n next last at left is)

-- a replay that ends made so many turns

EndsIn : Config → ℕ → Run → Run → Type 0
EndsIn config n run last = (m : ℕ) × (m ≤ n) × (turns config m run ≡ Some last)

over_ends : (config : Config) (n : ℕ) (run last : Run) (b : Bool) (more : Result Run Fault) → cond b (Ok run) more ≡ Ok last → (more ≡ Ok last → EndsIn config n run last) → EndsIn config n run last
unfolding EndsIn
over_ends config n run last true more made on =
    let same : run ≡ last = cc in
    (0, omega arith, ap (λ (r : Run). Some r) same)
over_ends config n run last false more made on = on made

more_ends : (config : Config) (n : ℕ) (run last : Run) (x : Option Run) → turn config run ≡ x → option_map_or (replayed config n) x (Err ClockSpent) ≡ Ok last
    → ((next : Run) → replayed config n next ≡ Ok last → EndsIn config n next last) → EndsIn config (suc n) run last
unfolding EndsIn
more_ends config n run last None is made on = absurd (let impossible = made in cc)
more_ends config n run last (Some next) is made on =
    let rest = on next made in
    let few : rest.0 ≤ n = rest.1 in
    (suc rest.0, omega (arith, few), ap (λ (y : Option Run). option_and_then (turns config rest.0) y) is ∙ rest.2)

replayed_ends : (config : Config) (n : ℕ) (run last : Run) → replayed config n run ≡ Ok last → EndsIn config n run last
replayed_ends config zero run last made = over_ends config zero run last (unserved run == 0) (Err ReplayLimit) made (λ impossible. absurd cc)
replayed_ends config (suc n) run last made =
    over_ends config (suc n) run last (unserved run == 0) (option_map_or (replayed config n) (turn config run) (Err ClockSpent)) made
    (λ more. more_ends config n run last (turn config run) refl more (λ next is. replayed_ends config n next last is))

-- what holds behind any number of turns holds at the end of a replay, behind as many as it made
pub over_turns : (P : ℕ → Type 0) (config : Config) (n : ℕ) (run last : Run) → replayed config n run ≡ Ok last → ((m : ℕ) → turns config m run ≡ Some last → P m) → (m : ℕ) × (m ≤ n) × (turns config m run ≡ Some last) × P m
unfolding EndsIn
over_turns P config n run last made all =
    let ends = replayed_ends config n run last made in
    (ends.0, ends.1, ends.2, all ends.0 ends.2)

-- each request is served in time

served_in : (config : Config) (events : List Answered) (s : State) → IsPart (history.begun (replay_opening config)).state events s → leaves_room config ≡ true → (c : ℕ) (side : ChannelSide) → slice_get s.channels c ≡ Some side
    → IsServedIn config events s c side
served_in config events s part leaves c side there =
    let o = replay_opening config in
    let led = part.leads (history.begun o) refl in
    record {
      is_record = led.is_record;
      state = led.state;
      in_time = core_in_time o events led.takes leaves c side (ap (λ (t : State). slice_get t.channels c) led.state ∙ there);
    }

pub turns_in_time : (config : Config) (keeps : Bool) (order : Order) (queues : Queues) (n : ℕ) (last : Run) → leaves_room config ≡ true → turns config n (begun config keeps order queues) ≡ Some last → (c : ℕ) (side : ChannelSide)
    → slice_get last.state.channels c ≡ Some side → IsServedIn config (events_of_turns config n (begun config keeps order queues)) last.state c side
turns_in_time config keeps order queues n last leaves made =
    let o = replay_opening config in
    let run = begun config keeps order queues in
    served_in config (events_of_turns config n run) last.state (turns_part o config n run last (begun_reached o) (begun_none o) made) leaves

pub replay_in_time : (config : Config) (keeps : Bool) (order : Order) (queues : Queues) (n : ℕ) (last : Run) → leaves_room config ≡ true → replayed config n (begun config keeps order queues) ≡ Ok last
    → (m : ℕ) × (m ≤ n) × (turns config m (begun config keeps order queues) ≡ Some last)
    × ((c : ℕ) (side : ChannelSide) → slice_get last.state.channels c ≡ Some side → IsServedIn config (events_of_turns config m (begun config keeps order queues)) last.state c side)
replay_in_time config keeps order queues n last leaves made =
    over_turns (λ m. (c : ℕ) (side : ChannelSide) → slice_get last.state.channels c ≡ Some side → IsServedIn config (events_of_turns config m (begun config keeps order queues)) last.state c side) config n (begun config keeps order queues) last made
    (λ m is. turns_in_time config keeps order queues m last leaves is)
