-- Rounds behind rounds, and that quiet ones only pass cycles.
use Rattle.std.proofs.Common.{◌≡◌, ◌<◌, ◌≤◌, ◌+◌, ℕ, zero, suc, List, [], ◌∷◌, Option, Some, None, All, length, map, refl, sym, ap, ◌∙◌, arith}
use Rattle.std.specs.List.{slice_get, slice_set}
use Rattle.std.specs.Option.{option_map, option_and_then, option_map_or}
use Rattle.std.proofs.lemmas.List.{length-map, map-id}
use Rattle.std.proofs.lemmas.List.Elements.{All-map}
use Rattle.std.proofs.lemmas.Option.{slice_get_within}
use Rattle.ddr_channel.proofs.ListLemmas.{All-at}
use Rattle.ddr_timing.specs.declared.config.Config.{Config}
use Rattle.ddr_world.specs.declared.event.Refusal.{Refusal}
use Rattle.ddr_world.specs.Events.{Take, Cycle, Deliver, Collect}
use Rattle.ddr_world.specs.Quiet.{IsQuiet, IsQuietFor, IsQuietSide, passed, side_passed}
use Rattle.ddr_world.specs.State.{ChannelSide, PortSide, State}
use Rattle.ddr_world.specs.Step.{Step, step, with_channel}
use Rattle.ddr_world.proofs.QuietLemmas.{fewer_of_side, first_all, first_at, first_more, first_passed, side_quiet_on, some_side, step_cycle}
use Rattle.ddr_rounds.specs.Rounds.{IsStopped, channel_served, channels_served, made_state, ports_collected, round, rounds, until_refused}
use Rattle.ddr_rounds.proofs.EventLemmas.{nothing_popped}
use Rattle.ddr_rounds.proofs.PartLemmas.{stopped_on}

-- rounds behind rounds

behind : (config : Config) (n m : ℕ) (o : Option State) → ((s : State) → rounds config (n + m) s ≡ option_and_then (rounds config m) (rounds config n s)) → option_and_then (rounds config (n + m)) o ≡ option_and_then (rounds config m) (option_and_then (rounds config n) o)
behind config n m None on = refl
behind config n m (Some s) on = on s

rounds_behind : (config : Config) (n m : ℕ) (s : State) → rounds config (n + m) s ≡ option_and_then (rounds config m) (rounds config n s)
rounds_behind config zero m s =
    let none : 0 + m ≡ m = omega arith in
    ap (λ k. rounds config k s) none
rounds_behind config (suc n) m s =
    let more : suc n + m ≡ suc (n + m) = omega arith in
    ap (λ k. rounds config k s) more ∙ behind config n m (round config s) (rounds_behind config n m)

pub rounds_then : (config : Config) (n m both : ℕ) (s now next : State) → both ≡ n + m → rounds config n s ≡ Some now → rounds config m now ≡ Some next → rounds config both s ≡ Some next
rounds_then config n m both s now next all first second = ap (λ k. rounds config k s) all ∙ rounds_behind config n m s ∙ ap (option_and_then (rounds config m)) first ∙ second

pub one_round : (config : Config) (s next : State) → round config s ≡ Some next → rounds config 1 s ≡ Some next
one_round config s next is = ap (option_and_then (rounds config 0)) is

-- quiet rounds

written_there : (xs : List ChannelSide) (c : ℕ) (side : ChannelSide) → c < length xs → slice_get (slice_set xs c side) c ≡ Some side
written_there [] c side within = absurd (omega (arith, within))
written_there (x ∷ xs) zero side within = refl
written_there (x ∷ xs) (suc c) side within = written_there xs c side (omega (arith, within))

channel_quiet : (c : ℕ) (s : State) (side : ChannelSide) → slice_get s.channels c ≡ Some side → IsQuietSide 1 side → channel_served c s ≡ Some (with_channel c (side_passed 1 side) s)
channel_quiet c s side there is =
    let next = with_channel c (side_passed 1 side) s in
    let on = side_quiet_on 0 side is in
    let found = written_there s.channels c (side_passed 1 side) (slice_get_within s.channels c side there) in
    let none_queued = ap (λ (o : Option ChannelSide). option_map_or (λ x. length x.requests) o 0) there ∙ ap length is.requests in
    let none_done = ap (λ (o : Option ChannelSide). option_map_or (λ x. length x.channel.done) o 0) found ∙ ap length on.done in
    ap (λ (t : State). option_map (until_refused (Deliver c)) (made_state (step t (Cycle c)))) (nothing_popped (Take c) s none_queued)
    ∙ ap (λ (r : Step). option_map (until_refused (Deliver c)) (made_state r)) (step_cycle s c side there is.channel.0.clock)
    ∙ ap (λ (t : State). Some t) (nothing_popped (Deliver c) next none_done)

pub channels_quiet : (k : ℕ) (s : State) → k ≤ length s.channels → ((c : ℕ) (side : ChannelSide) → slice_get s.channels c ≡ Some side → IsQuietSide 1 side)
    → channels_served k s ≡ Some (record s { channels = first_passed 1 k s.channels })
channels_quiet zero s within is = refl
channels_quiet (suc k) s within is =
    let xs = s.channels in
    let found = some_side k xs (omega (arith, within)) in
    let next : State = record s { channels = first_passed 1 k xs } in
    ap (option_and_then (channel_served k)) (channels_quiet k s (omega (arith, within)) is)
    ∙ channel_quiet k next found.0 (first_at 1 k xs ∙ found.1) (is k found.0 found.1)
    ∙ ap (λ (ys : List ChannelSide). Some (record s { channels = ys })) (first_more 1 k xs found.0 found.1)

pub none_collected : (x : Option PortSide) → ((port : PortSide) → x ≡ Some port → port.completions ≡ []) → option_map_or (λ (port : PortSide). length port.completions) x 0 ≡ 0
none_collected None none = refl
none_collected (Some port) none = ap length (none port refl)

ports_quiet : (n : ℕ) (s : State) → All (λ port. port.completions ≡ []) s.ports → ports_collected n s ≡ s
ports_quiet zero s none = refl
ports_quiet (suc p) s none =
    ap (until_refused (Collect p)) (ports_quiet p s none)
    ∙ nothing_popped (Collect p) s (none_collected (slice_get s.ports p) (λ port there. All-at (λ port. port.completions ≡ []) s.ports p port none there))

pub round_quiet : (config : Config) (count : ℕ) (s : State) → length s.channels ≡ config.geometry.channels → IsQuietFor (suc count) s → round config s ≡ Some (passed 1 s)
round_quiet config count s are is =
    let each = λ (c : ℕ) (side : ChannelSide) (there : slice_get s.channels c ≡ Some side). fewer_of_side 1 (suc count) side (omega arith) (All-at (IsQuietSide (suc count)) s.channels c side is.channels there) in
    ap (λ n. option_map (ports_collected config.limits.ports) (channels_served n s)) (sym are)
    ∙ ap (option_map (ports_collected config.limits.ports)) (channels_quiet (length s.channels) s (omega arith) each ∙ ap (λ (xs : List ChannelSide). Some (record s { channels = xs })) (first_all 1 s.channels))
    ∙ ap (λ (t : State). Some t) (ports_quiet config.limits.ports (passed 1 s) is.ports)

pub quiet_on : (count : ℕ) (s : State) → IsQuietFor (suc count) s → IsQuietFor count (passed 1 s)
quiet_on count s is = record {
  channels = All-map (IsQuietSide count) (side_passed 1) s.channels (λ k d within. side_quiet_on count _ (is.channels k d within));
  ports = is.ports;
}

pub passed_more : (count : ℕ) (xs : List ChannelSide) → map (side_passed count) (map (side_passed 1) xs) ≡ map (side_passed (suc count)) xs
passed_more count [] = refl
passed_more count (x ∷ xs) = ap (λ (ys : List ChannelSide). side_passed (suc count) x ∷ ys) (passed_more count xs)

-- so many quiet rounds only pass the cycles
pub rounds_quiet : (config : Config) (count : ℕ) (s : State) → length s.channels ≡ config.geometry.channels → IsQuiet count s → rounds config count s ≡ Some (passed count s)
rounds_quiet config zero s are is = ap (λ (xs : List ChannelSide). Some (record s { channels = xs })) (sym (map-id s.channels))
rounds_quiet config (suc count) s are is =
    let here = is (omega arith) in
    ap (option_and_then (rounds config count)) (round_quiet config count s are here)
    ∙ rounds_quiet config count (passed 1 s) (length-map s.channels (side_passed 1) ∙ are) (λ some. quiet_on count s here)
    ∙ ap (λ (xs : List ChannelSide). Some (record s { channels = xs })) (passed_more count s.channels)

-- fewer rounds of what is quiet are quiet too
pub fewer_quiet : (fewer count : ℕ) (s : State) → fewer ≤ count → IsQuiet count s → IsQuiet fewer s
fewer_quiet fewer count s within is some =
    let q = is (omega (arith, within, some)) in
    record { channels = λ k d below. fewer_of_side fewer count _ within (q.channels k d below); ports = q.ports }

-- the round behind so many was refused
pub rounds_stopped : (cause : Refusal) (config : Config) (n both : ℕ) (s now : State) → both ≡ n + 1 → rounds config n s ≡ Some now → IsStopped cause (round config now) → IsStopped cause (rounds config both s)
rounds_stopped cause config n both s now all first is =
    stopped_on cause (round config now) (rounds config both s)
    (λ none. ap (λ k. rounds config k s) all ∙ rounds_behind config n 1 s ∙ ap (option_and_then (rounds config 1)) first ∙ ap (option_and_then (rounds config 0)) none) is
