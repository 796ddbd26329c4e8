-- In quiet rounds, in which all ports wait, the core's cycles pass, the ports' waits and what is seen of the channels are counted, and
-- nothing else comes of them.
use Rattle.std.proofs.Common.{◌≡◌, ◌<◌, ◌≤◌, ◌+◌, ℕ, zero, suc, Bool, true, false, cond, List, [], ◌++◌, Option, Some, None, Ok, Err, All, length, refl, sym, ap, ap₂, ◌∙◌, arith}
use Rattle.std.specs.Prelude.{◌==◌}
use Rattle.std.specs.List.{slice_get}
use Rattle.std.specs.Option.{option_and_then, option_map, option_map_or}
use Rattle.std.proofs.lemmas.List.{length-map}
use Rattle.std.proofs.lemmas.List.Elements.{All-map}
use Rattle.ddr_channel.proofs.ListLemmas.{All-at}
use Rattle.ddr_timing.specs.declared.config.Config.{Config}
use Rattle.ddr_world.specs.Events.{Collect, Release, Take}
use Rattle.ddr_world.specs.Served.{front_service}
use Rattle.ddr_world.specs.Kept.{Kept, side_of, state_of}
use Rattle.ddr_world.specs.Quiet.{IsQuiet, IsQuietSide, passed, side_passed}
use Rattle.ddr_world.specs.State.{ChannelSide, State}
use Rattle.ddr_world.proofs.QuietLemmas.{fewer_of_side, first_all, first_at, first_passed, side_quiet_on, some_side}
use Rattle.ddr_text.specs.declared.fault.Fault.{Fault}
use Rattle.ddr_text.specs.declared.fault.Fault.TheVariants as faults
use Rattle.ddr_channel.specs.Cycle.{at_choice}
use Rattle.ddr_channel.specs.Told.{issued_by, issued_in}
use Rattle.ddr_rounds.specs.declared.told.Told.{Told}
use Rattle.ddr_rounds.specs.Rounds.{channels_served, items_of}
use Rattle.ddr_rounds.specs.Telling.{channel_told, channels_told, issue_told}
use Rattle.ddr_rounds.proofs.EventLemmas.{nothing_popped}
use Rattle.ddr_rounds.proofs.QuietLemmas.{channels_quiet, fewer_quiet, none_collected, passed_more}
use Rattle.ddr_replay.specs.Books.{all_found}
use Rattle.ddr_ledger.specs.Activities.{all_acted}
use Rattle.ddr_ledger.specs.Activity.{seen_at}
use Rattle.ddr_replay.specs.declared.order.Asking.{Asking}
use Rattle.ddr_ledger.specs.Ledgers.{Ledger}
use Rattle.ddr_replay.specs.Runs.{Run, all_submitted, channels_counted, port_served, ports_served, released, replayed, round_closed, round_made, turn, turns, unserved}
use Rattle.ddr_stream.specs.Stream.{queue_at}
use Rattle.ddr_stream.specs.Waiting.{Waiting}
use Rattle.ddr_replay.specs.View.{IsButBooks, IsButLedger, IsCycleFault, IsRunFault, Replay, run_of}
use Rattle.ddr_replay.specs.Waits.{AreQuiet, AreWaiting, all_full, come_of}
use Rattle.ddr_replay.proofs.ActivityLemmas.{channels_again, channels_alike, ports_past, seen_settled}
use Rattle.ddr_replay.proofs.ReleaseLemmas.{none_given}
use Rattle.ddr_replay.proofs.WaitLemmas.{all_wait, come_still, noted, waits_on}
use Rattle.ddr_replay.proofs.WaitedLemmas.{all_again, all_alike, all_none}

-- after a quiet round
abbrev later : Config → Run → Run
later config run = record run { state = passed 1 run.state; ledger = all_acted run.round 1 (seen_at (passed 1 run.state)) config.geometry.channels run.ledger; round = run.round + 1 }

-- after so many quiet rounds and one, before each of which but the first the ports with a request that has come wait, and in each
-- of which the same is seen of each channel
abbrev pub quietly : Config → ℕ → Run → Run
quietly config more run = record run {
  state = passed (suc more) run.state;
  ledger = all_acted run.round (suc more) (seen_at (passed (suc more) run.state)) config.geometry.channels (all_full more (come_of run.round run.queues) config.limits.ports run.ledger);
  round = run.round + suc more;
}

port_quiet : (p : ℕ) (run : Run) → All (λ port. port.completions ≡ []) run.state.ports → front_service run.state p ≡ None → port_served p run ≡ run
port_quiet p run none front =
    let s = run.state in
    let none_here = none_collected (slice_get s.ports p) (λ port there. All-at (λ port. port.completions ≡ []) s.ports p port none there) in
    ap (λ (t : State). released (items_of t (Release p)) p (record run { state = t })) (nothing_popped (Collect p) s none_here) ∙ none_given (items_of s (Release p)) p run front

ports_quiet : (n : ℕ) (run : Run) → All (λ port. port.completions ≡ []) run.state.ports → ((p : ℕ) → p < n → front_service run.state p ≡ None) → ports_served n run ≡ run
ports_quiet zero run none fronts = refl
ports_quiet (suc p) run none fronts =
    ap (port_served p) (ports_quiet p run none (λ q below. fronts q (omega (arith, below)))) ∙ port_quiet p run none (fronts p (omega arith))

-- of a quiet round nothing is told

quiet_side : (c : ℕ) (side : ChannelSide) → IsQuietSide 1 side → issue_told c (issued_in side.channel) ≡ []
quiet_side c side is = ap (λ x. issue_told c (issued_by (at_choice side.channel) x)) is.channel.0.issues

quiet_channel : (c : ℕ) (s : State) (side : ChannelSide) → slice_get s.channels c ≡ Some side → IsQuietSide 1 side → channel_told c s ≡ []
quiet_channel c s side there is =
    let none = ap (λ (o : Option ChannelSide). option_map_or (λ x. length x.requests) o 0) there ∙ ap length is.requests in
    ap (λ (t : State). option_map_or (λ (x : ChannelSide). issue_told c (issued_in x.channel)) (slice_get t.channels c) []) (nothing_popped (Take c) s none)
    ∙ ap (λ (o : Option ChannelSide). option_map_or (λ (x : ChannelSide). issue_told c (issued_in x.channel)) o []) there
    ∙ quiet_side c side is

told_none : (n : ℕ) (s : State) → n ≤ length s.channels → ((c : ℕ) (side : ChannelSide) → slice_get s.channels c ≡ Some side → IsQuietSide 1 side) → channels_told n s ≡ []
told_none zero s within is = refl
told_none (suc n) s within is =
    let xs = s.channels in
    let found = some_side n xs (omega (arith, within)) in
    let next : State = record s { channels = first_passed 1 n xs } in
    ap (λ (told : List Told). told ++ option_map_or (channel_told n) (channels_served n s) []) (told_none n s (omega (arith, within)) is)
    ∙ ap (λ (o : Option State). option_map_or (channel_told n) o []) (channels_quiet n s (omega (arith, within)) is)
    ∙ quiet_channel n next found.0 (first_at 1 n xs ∙ found.1) (is n found.0 found.1)

-- a quiet round
round_quiet : (config : Config) (count : ℕ) (run : Run) → AreQuiet config (suc count) run.state → round_made config run ≡ Some (later config run)
round_quiet config count run are =
    let s = run.state in
    let each = λ (c : ℕ) (side : ChannelSide) (there : slice_get s.channels c ≡ Some side). fewer_of_side 1 (suc count) side (omega arith) (All-at (IsQuietSide (suc count)) s.channels c side are.core.channels there) in
    let close : Option State → Option Run = option_map (round_closed config run) in
    let none : channels_told config.geometry.channels s ≡ [] = ap (λ n. channels_told n s) (sym are.channels) ∙ told_none (length s.channels) s (omega arith) each in
    let silent : State → Run = λ t. record run { state = t; ledger = all_acted run.round 1 (seen_at t) config.geometry.channels run.ledger } in
    let counts : (t : State) → channels_counted config run t ≡ silent t = λ t. ap (λ (told : List Told). record run { state = t; ledger = all_acted run.round 1 (seen_at t) config.geometry.channels (all_found s told run.ledger) }) none in
    ap (λ n. close (channels_served n s)) (sym are.channels)
    ∙ ap close (channels_quiet (length s.channels) s (omega arith) each ∙ ap (λ (xs : List ChannelSide). Some (record s { channels = xs })) (first_all 1 s.channels))
    ∙ ap (λ (r : Run). Some (record r { round = r.round + 1 })) (ap (ports_served config.limits.ports) (counts (passed 1 s)) ∙ ports_quiet config.limits.ports (silent (passed 1 s)) are.core.ports are.fronts)

quiet_on : (config : Config) (count : ℕ) (s : State) → AreQuiet config (suc count) s → AreQuiet config count (passed 1 s)
quiet_on config count s are = record {
  channels = length-map s.channels (side_passed 1) ∙ are.channels;
  core = record {
    channels = All-map (IsQuietSide count) (side_passed 1) s.channels (λ k d within. side_quiet_on count _ (are.core.channels k d within));
    ports = are.core.ports;
  };
  fronts = are.fronts;
}

-- so many quiet rounds, once the ports have submitted: what is made of them round by round is what is made of what they come to

module _ {X : Type 0} (config : Config) (on : ℕ → Run → X) (none : X) (goes : (k : ℕ) (run : Run) → (unserved run == 0) ≡ false → on (suc k) run ≡ option_map_or (on k) (turn config run) none) where
  quiet_turns : (k until : ℕ) (run : Run) → AreQuiet config (suc k) run.state → AreWaiting config.limits.ports until run → run.round + suc k ≤ until → (unserved run == 0) ≡ false → option_map_or (on k) (round_made config run) none ≡ on 0 (quietly config k run)
  quiet_turns zero until run are waits within busy =
      ap (λ o. option_map_or (on 0) o none) (round_quiet config 0 run are)
      ∙ ap (λ (l : Ledger). on 0 (record (later config run) { ledger = all_acted run.round 1 (seen_at (passed 1 run.state)) config.geometry.channels l })) (sym (all_none config.limits.ports (come_of run.round run.queues) run.ledger))
  quiet_turns (suc k) until run are waits within busy =
      let next = later config run in
      let ports = config.limits.ports in
      let channels = config.geometry.channels in
      let first = seen_at (passed 1 run.state) in
      let all = seen_at (passed (suc (suc k)) run.state) in
      let same : (c : ℕ) → first c ≡ all c = λ c. sym (seen_settled (suc k) c run.state (λ i side there. All-at (IsQuietSide (suc (suc k))) run.state.channels i side are.core.channels there)) in
      let come = come_of run.round run.queues in
      let come_next = come_of next.round next.queues in
      let waiting = noted next (all_full 1 come_next ports next.ledger) in
      let alike : (p : ℕ) → p < ports → come_next p ≡ come p = λ p below. come_still p until run.round (queue_at run.queues p) run.state (waits p below (omega (arith, within))) (omega (arith, within)) in
      let counted : Ledger → Ledger = all_acted next.round (suc k) all channels in
      let waited = all_full (suc k) come ports run.ledger in
      let ledger_is : counted (all_full k come_next ports (all_full 1 come_next ports next.ledger)) ≡ all_acted run.round (suc (suc k)) all channels waited =
      ap counted (all_again k ports come_next next.ledger ∙ all_alike (suc k) ports come_next come next.ledger alike ∙ ports_past (suc k) ports run.round 1 channels come first run.ledger ∙ channels_alike run.round 1 channels first all waited same)
      ∙ channels_again run.round k channels all waited in
      let last : run.round + 1 + suc k ≡ run.round + suc (suc k) = omega arith in
      let still : AreWaiting config.limits.ports until next = λ p below ahead. waits_on until until p run.round next.round run.state next.state (slice_get (queue_at run.queues p) 0) (omega arith) (omega arith) refl (waits p below (omega (arith, ahead))) in
      ap (λ o. option_map_or (on (suc k)) o none) (round_quiet config (suc k) run are)
      ∙ goes k next busy
      ∙ ap (λ (r : Run). option_map_or (on k) (round_made config r) none) (all_wait config until next still (omega (arith, within)))
      ∙ quiet_turns k until waiting (quiet_on config (suc k) run.state are) still (omega (arith, within)) busy
      ∙ ap₂ (λ (xs : List ChannelSide) (r : ℕ). on 0 (record run { state = record run.state { channels = xs }; ledger = all_acted next.round (suc k) (seen_at (record run.state { channels = xs })) channels (all_full k come_next ports (all_full 1 come_next ports next.ledger)); round = r })) (passed_more (suc k) run.state.channels) last
      ∙ ap (λ (l : Ledger). on 0 (record run { state = passed (suc (suc k)) run.state; ledger = l; round = run.round + suc (suc k) })) ledger_is

-- the core is quiet for as many rounds or fewer, and no reply is in front
pub are_quiet : (config : Config) (count quiet : ℕ) (k : Kept) → k.config ≡ config → length k.channels ≡ k.config.geometry.channels → IsQuiet quiet (state_of k)
    → ((port : ℕ) → port < config.limits.ports → front_service (state_of k) port ≡ None) → 0 < count → count ≤ quiet → AreQuiet config count (state_of k)
are_quiet config count quiet k same shape is fronts some within = record {
  channels = length-map k.channels side_of ∙ shape ∙ ap (λ (c : Config). c.geometry.channels) same;
  core = fewer_quiet count quiet (state_of k) within is some;
  fronts = fronts;
}

-- one round of so many that may be made

pub replayed_turn : (config : Config) (n m : ℕ) (run : Run) → n ≡ suc m → (unserved run == 0) ≡ false → replayed config n run ≡ option_map_or (replayed config m) (turn config run) (Err faults.ClockSpent)
replayed_turn config n m run e busy =
    ap (λ k. replayed config k run) e ∙ ap (λ (b : Bool). cond b (Ok run) (option_map_or (replayed config m) (turn config run) (Err faults.ClockSpent))) busy

pub replayed_over : (config : Config) (n : ℕ) (run : Run) → (unserved run == 0) ≡ true → replayed config n run ≡ Ok run
replayed_over config zero run over = ap (λ (b : Bool). cond b (Ok run) (Err faults.ReplayLimit)) over
replayed_over config (suc n) run over = ap (λ (b : Bool). cond b (Ok run) (option_map_or (replayed config n) (turn config run) (Err faults.ClockSpent))) over

pub replayed_limit : (config : Config) (n : ℕ) (run : Run) → n ≡ 0 → (unserved run == 0) ≡ false → replayed config n run ≡ Err faults.ReplayLimit
replayed_limit config n run e busy = ap (λ k. replayed config k run) e ∙ ap (λ (b : Bool). cond b (Ok run) (Err faults.ReplayLimit)) busy

-- a round was made
pub turn_made : (config : Config) (n m : ℕ) (run next : Run) → n ≡ suc m → (unserved run == 0) ≡ false → round_made config (all_submitted config run) ≡ Some next → replayed config n run ≡ replayed config m next
turn_made config n m run next e busy made = replayed_turn config n m run e busy ∙ ap (λ o. option_map_or (replayed config m) o (Err faults.ClockSpent)) made

-- so many quiet ones were

replayed_goes : (config : Config) (n k : ℕ) (run : Run) → (unserved run == 0) ≡ false → replayed config (n + suc k) run ≡ option_map_or (replayed config (n + k)) (turn config run) (Err faults.ClockSpent)
replayed_goes config n k run busy = replayed_turn config (n + suc k) (n + k) run (omega arith) busy

pub turns_passed : (config : Config) (n m k until : ℕ) (run ready : Run) → n ≡ suc (m + k) → (unserved run == 0) ≡ false → (unserved ready == 0) ≡ false → ready ≡ all_submitted config run
    → AreQuiet config (suc k) ready.state → AreWaiting config.limits.ports until ready → ready.round + suc k ≤ until → replayed config n run ≡ replayed config m (quietly config k ready)
turns_passed config n m k until run ready e busy still is are waits within =
    let none : m + 0 ≡ m = omega arith in
    replayed_turn config n (m + k) run e busy
    ∙ ap (λ (r : Run). option_map_or (replayed config (m + k)) (round_made config r) (Err faults.ClockSpent)) (sym is)
    ∙ quiet_turns config (λ j. replayed config (m + j)) (Err faults.ClockSpent) (replayed_goes config m) k until ready are waits within still
    ∙ ap (λ j. replayed config j (quietly config k ready)) none

-- turns, and more of them

by_turn : (config : Config) (k : ℕ) (o : Option Run) → option_and_then (turns config k) o ≡ option_map_or (turns config k) o None
by_turn config k None = refl
by_turn config k (Some run) = refl

pub turns_reached : (config : Config) (k until : ℕ) (run ready : Run) → (unserved ready == 0) ≡ false → ready ≡ all_submitted config run → AreQuiet config (suc k) ready.state → AreWaiting config.limits.ports until ready → ready.round + suc k ≤ until
    → turns config (suc k) run ≡ Some (quietly config k ready)
turns_reached config k until run ready still is are waits within =
    by_turn config k (turn config run)
    ∙ ap (λ (r : Run). option_map_or (turns config k) (round_made config r) None) (sym is)
    ∙ quiet_turns config (turns config) None (λ j next busy. by_turn config j (turn config next)) k until ready are waits within still

pub turn_reached : (config : Config) (run next : Run) → round_made config (all_submitted config run) ≡ Some next → turns config 1 run ≡ Some next
turn_reached config run next made = ap (option_and_then (turns config 0)) made

then_from : (config : Config) (n m : ℕ) (o : Option Run) (mid last : Run) → ((run : Run) → turns config n run ≡ Some mid → turns config (n + m) run ≡ Some last) → option_and_then (turns config n) o ≡ Some mid → option_and_then (turns config (n + m)) o ≡ Some last
then_from config n m None mid last on first = absurd (let impossible = first in cc)
then_from config n m (Some run) mid last on first = on run first

pub turns_then : (config : Config) (n m : ℕ) (run mid last : Run) → turns config n run ≡ Some mid → turns config m mid ≡ Some last → turns config (n + m) run ≡ Some last
turns_then config zero m run mid last first second =
    let same : run ≡ mid = cc in
    let none : 0 + m ≡ m = omega arith in
    ap (λ k. turns config k run) none ∙ ap (turns config m) same ∙ second
turns_then config (suc n) m run mid last first second =
    let more : suc n + m ≡ suc (n + m) = omega arith in
    ap (λ k. turns config k run) more ∙ then_from config n m (turn config run) mid last (λ next so. turns_then config n m next mid last so second) first

-- the channels' part failed
pub turn_failed : (config : Config) (n m : ℕ) (run ready : Run) (fault : Fault) → n ≡ suc m → (unserved run == 0) ≡ false → ready ≡ all_submitted config run → IsCycleFault fault (channels_served config.geometry.channels ready.state) → IsRunFault config fault (replayed config n run)
turn_failed config n m run ready faults.ClockSpent e busy is fault =
    replayed_turn config n m run e busy
    ∙ ap (λ (r : Run). option_map_or (replayed config m) (round_made config r) (Err faults.ClockSpent)) (sym is)
    ∙ ap (λ o. option_map_or (replayed config m) (option_map (round_closed config ready) o) (Err faults.ClockSpent)) fault
turn_failed config n m run ready faults.OutOfMemory e busy is fault = tt
turn_failed config n m run ready _ e busy is fault = absurd fault

-- all but the ledger is as it was
but_ledger : (old new : Replay) (ledger : Ledger) → IsButLedger old new → new.ledger ≡ ledger → run_of new ≡ record (run_of old) { ledger = ledger }
but_ledger old new ledger rest is =
    ap (λ (l : Ledger). record (run_of new) { ledger = l }) is
    ∙ ap₂ (λ (a : Asking) (w : Kept). record { asking = a; state = state_of w; queues = new.stream.queues; ledger = ledger; round = new.round }) rest.asking rest.world
    ∙ ap₂ (λ (w : Waiting) (r : ℕ). record { asking = old.asking; state = state_of old.world; queues = w.queues; ledger = ledger; round = r }) rest.stream rest.round

-- all but the core and the ledger is as it was
but_books : (old new : Replay) → IsButBooks old new → run_of new ≡ record (run_of old) { state = state_of new.world; ledger = new.ledger }
but_books old new rest =
    ap₂ (λ (a : Asking) (w : Waiting). record { asking = a; state = state_of new.world; queues = w.queues; ledger = new.ledger; round = new.round }) rest.asking rest.stream
    ∙ ap (λ (r : ℕ). record { asking = old.asking; state = state_of new.world; queues = old.stream.queues; ledger = new.ledger; round = r }) rest.round

-- a round that was made: the channels' part, what is seen of each, and the ports' part
pub round_ok : (old served counted last : Replay) (new : Run) → channels_served old.config.geometry.channels (state_of old.world) ≡ Some (state_of served.world)
    → served.ledger ≡ all_found (state_of old.world) (channels_told old.config.geometry.channels (state_of old.world)) old.ledger → IsButBooks old served
    → counted.ledger ≡ all_acted served.round 1 (seen_at (state_of served.world)) served.config.geometry.channels served.ledger → IsButLedger served counted
    → run_of last ≡ ports_served counted.config.limits.ports (run_of counted) → new ≡ record (run_of last) { round = last.round + 1 } → round_made old.config (run_of old) ≡ Some new
round_ok old served counted last new channels found same drains rest ports next =
    let s = state_of served.world in
    let config_is : counted.config ≡ old.config = rest.config ∙ same.config in
    let run_is : run_of counted ≡ channels_counted old.config (run_of old) s =
    but_ledger served counted (all_acted served.round 1 (seen_at s) served.config.geometry.channels served.ledger) rest drains
    ∙ ap₂ (λ (k : Config) (n : ℕ). record (run_of served) { ledger = all_acted n 1 (seen_at s) k.geometry.channels served.ledger }) same.config same.round
    ∙ ap (λ (r : Run). record r { ledger = all_acted old.round 1 (seen_at s) old.config.geometry.channels r.ledger }) (but_books old served same)
    ∙ ap (λ (l : Ledger). record (run_of old) { state = s; ledger = all_acted old.round 1 (seen_at s) old.config.geometry.channels l }) found in
    ap (option_map (round_closed old.config (run_of old))) channels
    ∙ ap (λ (r : Run). Some (record r { round = r.round + 1 })) (ap (ports_served old.config.limits.ports) (sym run_is) ∙ ap (λ (k : Config). ports_served k.limits.ports (run_of counted)) (sym config_is) ∙ sym ports)
    ∙ ap (λ (r : Run). Some r) (sym next)
