-- What the parts of a round are made of, and where they stop.
use Rattle.std.proofs.Common.{◌≡◌, ◌<◌, ◌-◌, ◌+◌, ℕ, zero, suc, Option, Some, None, Result, Ok, Err, IfErr, IfSome, OnOk, IsTrue, inl, inr, refl, sym, ap, subst, ◌∙◌, arith}
use Rattle.std.specs.List.{slice_get}
use Rattle.std.specs.Option.{option_map, option_and_then}
use Rattle.std.proofs.lemmas.Bool.{false≢true}
use Rattle.std.proofs.lemmas.Option.{slice_get-map}
use Rattle.ddr_channel.specs.Room.{wants_memory}
use Rattle.ddr_timing.specs.declared.config.Config.{Config}
use Rattle.ddr_world.specs.declared.event.Outcome.{Outcome}
use Rattle.ddr_world.specs.declared.event.Refusal.{Refusal}
use Rattle.ddr_world.specs.Answer.{IsAnswered, Issues, MayWantMemory, WantsMemory}
use Rattle.ddr_world.specs.Events.{Event, Take, Cycle, Deliver, Collect}
use Rattle.ddr_world.specs.Kept.{Kept, KeptSide, side_of, state_of}
use Rattle.ddr_world.specs.State.{ChannelSide, State}
use Rattle.ddr_world.specs.Step.{IsRefusedFor, Step, made, step}
use Rattle.ddr_rounds.specs.Rounds.{IsCycleRefused, IsPartRefused, IsStopped, channel_served, channels_served, is_popping, items_of, made_state, outstanding, ports_collected, round, until_refused}
use Rattle.ddr_rounds.proofs.EventLemmas.{repeated_stays}
use Rattle.ddr_rounds.proofs.StepCounts.{cycled_numbers, popped_numbers}

-- a channel's part of a round

-- the cycle was made
pub served_by : (s popped cycled done : State) (c : ℕ) (o : Outcome) → popped ≡ until_refused (Take c) s → step popped (Cycle c) ≡ made cycled o → done ≡ until_refused (Deliver c) cycled → channel_served c s ≡ Some done
served_by s popped cycled done c o first second third =
    ap (λ (t : State). option_map (until_refused (Deliver c)) (made_state (step t (Cycle c)))) (sym first)
    ∙ ap (λ (r : Step). option_map (until_refused (Deliver c)) (made_state r)) second
    ∙ ap (λ (t : State). Some t) (sym third)

-- or it was refused
stopped_step : (cause : Refusal) (c : ℕ) (r : Step) → IsRefusedFor cause r → IsStopped cause (option_map (until_refused (Deliver c)) (made_state r))
stopped_step cause c (Ok m) is = inl is
stopped_step cause c (Err name) is = inr refl

pub stopped_by : (s popped : State) (c : ℕ) (cause : Refusal) → popped ≡ until_refused (Take c) s → IsRefusedFor cause (step popped (Cycle c)) → IsStopped cause (channel_served c s)
stopped_by s popped c cause first is =
    subst (λ (t : State). IsStopped cause (option_map (until_refused (Deliver c)) (made_state (step t (Cycle c))))) first (stopped_step cause c (step popped (Cycle c)) is)

-- memory was refused only to a cycle that issues a command

turned : {A B : Type 0} → (A → B → ⊥) → B → A → ⊥
turned f b a = f a b

issued : (x : Option KeptSide) → IfSome x (λ side. IsTrue (wants_memory side.channel)) → IfSome (option_map side_of x) (λ side. Issues side.channel)
issued None = λ wants. tt
issued (Some side) = turned (λ nothing. rw nothing false≢true)

may_want : (k : Kept) (c : ℕ) → WantsMemory k (Cycle c) → MayWantMemory (state_of k) (Cycle c)
may_want k c wants = subst (λ (x : Option ChannelSide). IfSome x (λ side. Issues side.channel)) (sym (slice_get-map side_of k.channels c)) (issued (slice_get k.channels c) wants)

pub cycle_refused : (before after : Kept) (s : State) (c : ℕ) (cause : Refusal) → state_of before ≡ until_refused (Take c) s → IsAnswered before after (Cycle c) (Err cause) → IsCycleRefused cause c s (state_of after)
cycle_refused before after s c cause first a = record {
  state = a.err ∙ first;
  refused = subst (λ (t : State). IsRefusedFor cause (step t (Cycle c))) (sym a.err) a.refused;
  memory = λ is. subst (λ (t : State). MayWantMemory t (Cycle c)) (sym a.err) (may_want before c (a.memory is));
}

-- one of the cycles was
pub refused_at : (cause : Refusal) (s now after : State) (c n : ℕ) → channels_served c s ≡ Some now → c < n → IsCycleRefused cause c now after → IsPartRefused cause n s after
refused_at cause s now after c n served within is = record {
  channel = c;
  within = within;
  before = now;
  served = served;
  cycle = is;
}

-- the channels before were served
pub channel_more : (s now next : State) (c n : ℕ) → channels_served c s ≡ Some now → channel_served c now ≡ Some next → n ≡ suc c → channels_served n s ≡ Some next
channel_more s now next c n before is e = ap (λ k. channels_served k s) e ∙ ap (option_and_then (channel_served c)) before ∙ is

none_later : (s : State) (c k : ℕ) → channels_served c s ≡ None → channels_served (k + c) s ≡ None
none_later s c zero is =
    let none : 0 + c ≡ c = omega arith in
    ap (λ n. channels_served n s) none ∙ is
none_later s c (suc k) is =
    let one : suc k + c ≡ suc (k + c) = omega arith in
    ap (λ n. channels_served n s) one ∙ ap (option_and_then (channel_served (k + c))) (none_later s c k is)

pub stopped_on : (cause : Refusal) (a b : Option State) → (a ≡ None → b ≡ None) → IsStopped cause a → IsStopped cause b
stopped_on cause a b none (inl memory) = inl memory
stopped_on cause a b none (inr is) = inr (none is)

-- one of the channels was not served
pub channel_stopped : (cause : Refusal) (s now : State) (c n : ℕ) → channels_served c s ≡ Some now → c < n → IsStopped cause (channel_served c now) → IsStopped cause (channels_served n s)
channel_stopped cause s now c n before within is =
    stopped_on cause (channel_served c now) (channels_served n s)
    (λ none.
    let here : channels_served (suc c) s ≡ None = ap (option_and_then (channel_served c)) before ∙ none in
    let all : n ≡ (n - suc c) + suc c = omega (arith, within) in
    ap (λ k. channels_served k s) all ∙ none_later s (suc c) (n - suc c) here) is

-- all of them were, and then the ports
pub round_whole : (config : Config) (s served done : State) → channels_served config.geometry.channels s ≡ Some served → done ≡ ports_collected config.limits.ports served → round config s ≡ Some done
round_whole config s served done first second = ap (option_map (ports_collected config.limits.ports)) first ∙ ap (λ (t : State). Some t) (sym second)

-- a round whose channels' part is not made is not made
pub round_stopped : (cause : Refusal) (config : Config) (s : State) → IsStopped cause (channels_served config.geometry.channels s) → IsStopped cause (round config s)
round_stopped cause config s is = stopped_on cause (channels_served config.geometry.channels s) (round config s) (λ none. ap (option_map (ports_collected config.limits.ports)) none) is

-- as many numbers stay outstanding

pub popped_alike : (event : Event) (s : State) → IsTrue (is_popping event) → outstanding (until_refused event s) ≡ outstanding s
popped_alike event s popping = repeated_stays outstanding event (popped_numbers event popping) (items_of s event) s

served_on : (c : ℕ) (s done : State) (r : Step) → step s (Cycle c) ≡ r → option_map (until_refused (Deliver c)) (made_state r) ≡ Some done → outstanding done ≡ outstanding s
served_on c s done (Ok m) is served =
    let here : until_refused (Deliver c) m.state ≡ done = cc in
    ap outstanding (sym here) ∙ popped_alike (Deliver c) m.state refl ∙ cycled_numbers c s m.state m.outcome is
served_on c s done (Err cause) is served = absurd (let impossible = served in cc)

pub channel_alike : (c : ℕ) (s done : State) → channel_served c s ≡ Some done → outstanding done ≡ outstanding s
channel_alike c s done served = served_on c (until_refused (Take c) s) done (step (until_refused (Take c) s) (Cycle c)) refl served ∙ popped_alike (Take c) s refl

then_alike : (c : ℕ) (s done : State) (o : Option State) → IfSome o (λ (t : State). outstanding t ≡ outstanding s) → option_and_then (channel_served c) o ≡ Some done → outstanding done ≡ outstanding s
then_alike c s done None before served = absurd (let impossible = served in cc)
then_alike c s done (Some mid) before served = channel_alike c mid done served ∙ before

some_alike : (s : State) (o : Option State) → ((t : State) → o ≡ Some t → outstanding t ≡ outstanding s) → IfSome o (λ (t : State). outstanding t ≡ outstanding s)
some_alike s None is = tt
some_alike s (Some t) is = is t refl

pub channels_alike : (n : ℕ) (s done : State) → channels_served n s ≡ Some done → outstanding done ≡ outstanding s
channels_alike zero s done served =
    let here : s ≡ done = cc in
    ap outstanding (sym here)
channels_alike (suc c) s done served = then_alike c s done (channels_served c s) (some_alike s (channels_served c s) (λ t is. channels_alike c s t is)) served

-- and so they do where a cycle is refused
pub refused_alike : (cause : Refusal) (c : ℕ) (s after : State) → IsCycleRefused cause c s after → outstanding after ≡ outstanding s
refused_alike cause c s after is = ap outstanding is.state ∙ popped_alike (Take c) s refl

pub part_alike : (cause : Refusal) (n : ℕ) (s after : State) → IsPartRefused cause n s after → outstanding after ≡ outstanding s
part_alike cause n s after is = refused_alike cause is.channel is.before after is.cycle ∙ channels_alike is.channel s is.before is.served

-- whatever came of the channels' parts
pub either_alike : (n : ℕ) (s after : State) (r : Result (Unit {0}) Refusal) → OnOk r (channels_served n s ≡ Some after) → IfErr r (λ cause. IsPartRefused cause n s after) → outstanding after ≡ outstanding s
either_alike n s after (Ok v) served refused = channels_alike n s after served
either_alike n s after (Err cause) served refused = part_alike cause n s after refused

pub ports_alike : (n : ℕ) (s : State) → outstanding (ports_collected n s) ≡ outstanding s
ports_alike zero s = refl
ports_alike (suc p) s = popped_alike (Collect p) (ports_collected p s) refl ∙ ports_alike p s

-- one port more has collected
pub ports_more : (p n : ℕ) (s now next : State) → now ≡ ports_collected p s → next ≡ until_refused (Collect p) now → n ≡ suc p → next ≡ ports_collected n s
ports_more p n s now next before is e = is ∙ ap (until_refused (Collect p)) before ∙ ap (λ k. ports_collected k s) (sym e)
