-- What a round tells of its commands is of requests of ports that there are.
use Rattle.std.proofs.Common.{◌≡◌, ◌<◌, ℕ, zero, suc, List, [], ◌∷◌, ◌++◌, Option, Some, None, IfSome, is_some, refl, subst}
use Rattle.std.specs.List.{AllByRecursion, slice_get}
use Rattle.std.specs.Option.{option_and_then, option_map, option_map_or}
use Rattle.ddr_timing.specs.declared.config.Config.{Config}
use Rattle.ddr_trace.specs.declared.command.Command.{Command}
use Rattle.ddr_trace.specs.Commands.{is_column}
use Rattle.ddr_hazards.specs.declared.waiting.Waiting.{Waiting}
use Rattle.ddr_arbiter.specs.Laws.{column_place_of, command_of}
use Rattle.ddr_channel.specs.declared.issued.Issued.{Issued}
use Rattle.ddr_channel.specs.declared.issued.Served.{Served}
use Rattle.ddr_channel.specs.Choice.{choice_of}
use Rattle.ddr_channel.specs.Cycle.{at_choice}
use Rattle.ddr_channel.specs.State as channel_state
use Rattle.ddr_channel.specs.Told.{column_request, issued_in, issued_with, served_as}
use Rattle.ddr_channel.proofs.ListLemmas.{at_recursion}
use Rattle.ddr_channel.proofs.ToldLemmas.{told_columns}
use Rattle.ddr_world.specs.Events.{Take}
use Rattle.ddr_world.specs.State.{ChannelSide, State}
use Rattle.ddr_rounds.specs.declared.told.Told.{Told}
use Rattle.ddr_rounds.specs.Rounds.{channel_served, channels_served, until_refused}
use Rattle.ddr_rounds.specs.Telling.{channel_told, channels_told, issue_told}
use Rattle.ddr_replay_counts.proofs.PortLemmas.{AreOf, IsPendingOf, channel_stays, popped_stays, side_at}
use Rattle.ddr_replay_counts.proofs.GainLemmas.{IsToldOf}

-- the request that a command serves is of a port that there is

abbrev OfPort : ℕ → Served → Type 0
OfPort ports v = v.port < ports

waiting_port : (ports : ℕ) (config : Config) (now : ℕ) (pending : List Waiting) (place : ℕ) (o : Option Waiting)
    → AllByRecursion (IsPendingOf ports) pending → slice_get pending place ≡ o
    → IfSome (option_map (served_as config now) o) (OfPort ports)
waiting_port ports config now pending place None all there = tt
waiting_port ports config now pending place (Some w) all there = at_recursion (IsPendingOf ports) pending place w all there

request_port : (ports : ℕ) (config : Config) (now : ℕ) (pending : List Waiting) (place : Option ℕ)
    → AllByRecursion (IsPendingOf ports) pending
    → IfSome (option_map (served_as config now) (option_and_then (slice_get pending) place)) (OfPort ports)
request_port ports config now pending None all = tt
request_port ports config now pending (Some place) all = waiting_port ports config now pending place (slice_get pending place) all refl

command_port : (ports now : ℕ) (v : Option Served) (o : Option Command) → IfSome v (OfPort ports)
    → IfSome (option_map (issued_with now v) o) (λ i. IfSome i.served (OfPort ports))
command_port ports now v None is = tt
command_port ports now v (Some command) is = is

issued_port : (ports : ℕ) (s : channel_state.State) → AllByRecursion (IsPendingOf ports) s.pending
    → IfSome (issued_in s) (λ i. IfSome i.served (OfPort ports))
issued_port ports s all =
    let t = at_choice s in
    let c = choice_of t in
    command_port ports s.now (option_map (served_as s.config s.now) (column_request s.pending c)) (command_of s.pending c)
    (request_port ports s.config s.now s.pending (column_place_of c) all)

issue_of : (ports c : ℕ) (o : Option Issued) → IfSome o (λ i. is_some i.served ≡ is_column i.entry.command)
    → IfSome o (λ i. IfSome i.served (OfPort ports)) → AllByRecursion (IsToldOf ports) (issue_told c o)
issue_of ports c None column port = tt
issue_of ports c (Some i) column port = ((column, port), tt)

side_of : (ports c : ℕ) (s : State) (o : Option ChannelSide) → AreOf ports s → slice_get s.channels c ≡ o
    → AllByRecursion (IsToldOf ports) (option_map_or (λ (side : ChannelSide). issue_told c (issued_in side.channel)) o [])
side_of ports c s None all there = tt
side_of ports c s (Some side) all there =
    issue_of ports c (issued_in side.channel) (told_columns side.channel)
    (issued_port ports side.channel (side_at ports c s side all there).pending)

part_of : (ports c : ℕ) (s : State) → AreOf ports s → AllByRecursion (IsToldOf ports) (channel_told c s)
part_of ports c s all =
    let popped = until_refused (Take c) s in
    side_of ports c popped (slice_get popped.channels c) (popped_stays ports (Take c) s all) refl

all_both : {X : Type 0} (P : X → Type 0) (xs ys : List X) → AllByRecursion P xs → AllByRecursion P ys → AllByRecursion P (xs ++ ys)
all_both P [] ys first second = second
all_both P (x ∷ xs) ys first second = (first.0, all_both P xs ys first.1 second)

-- of all that the parts tell

abbrev ServedOf : ℕ → State → List Told → Type 0
ServedOf ports done told = AreOf ports done × AllByRecursion (IsToldOf ports) told

next_of : (ports c : ℕ) (done : State) (told : List Told) (o : Option State) → ((mid : State) → o ≡ Some mid → ServedOf ports mid told)
    → option_and_then (channel_served c) o ≡ Some done
    → ServedOf ports done (told ++ option_map_or (channel_told c) o [])
next_of ports c done told None before served = absurd (let impossible = served in cc)
next_of ports c done told (Some mid) before served =
    let so = before mid refl in
    (channel_stays ports c mid done served so.0, all_both (IsToldOf ports) told (channel_told c mid) so.1 (part_of ports c mid so.0))

pub channels_of : (ports n : ℕ) (s done : State) → AreOf ports s → channels_served n s ≡ Some done → ServedOf ports done (channels_told n s)
channels_of ports zero s done all served =
    let here : s ≡ done = cc in
    (subst (AreOf ports) here all, tt)
channels_of ports (suc c) s done all served =
    next_of ports c done (channels_told c s) (channels_served c s) (λ mid is. channels_of ports c s mid all is) served
