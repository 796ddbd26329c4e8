-- Quiet cycles of the core are so many cycles of each channel, one channel after another.
use Rattle.std.proofs.Common.{◌≡◌, ◌<◌, ◌≤◌, ◌+◌, ℕ, zero, suc, Bool, false, cond, List, [], ◌∷◌, ◌++◌, All, Option, Some, None, Ok, Err, length, map, take, drop, get_or, refl, sym, ap, ap₂, subst, ◌∙◌, arith}
use Rattle.std.specs.List.{fold, slice_get, slice_set}
use Rattle.std.specs.Option.{is_some, option_map, option_map_or}
use Rattle.std.proofs.lemmas.Bool.{ne_eqb}
use Rattle.std.proofs.lemmas.List.{set-set, set-get_or, length-map, map-set}
use Rattle.std.proofs.lemmas.List.Elements.{All-map}
use Rattle.std.proofs.lemmas.List.Sums.{fold-append}
use Rattle.std.proofs.lemmas.Option.{slice_get_within, slice_get-get_or, slice_get-map, get_or_from_slice_get}
use Rattle.circular_buffer.proofs.Places.{slice_get-set_same}
use Rattle.ddr_timing.specs.declared.config.Config.{Config}
use Rattle.ddr_timing.specs.declared.units.TheConstants.{CLOCK_STOP}
use Rattle.ddr_arbiter.specs.declared.choice.Choice.{Choice}
use Rattle.ddr_channel.specs.Cycle.{after_cycle, at_choice, issued}
use Rattle.ddr_channel.specs.Kept as channel_kept
use Rattle.ddr_channel.specs.Quiet as quiet
use Rattle.ddr_channel.specs.State as channel_state
use Rattle.ddr_channel.proofs.ListLemmas.{All-at}
use Rattle.ddr_world.specs.declared.event.Outcome.TheVariants.{Cycled}
use Rattle.ddr_world.specs.declared.event.Refusal.TheVariants as refusal
use Rattle.ddr_world.specs.Events.{Cycle}
use Rattle.ddr_world.specs.History.{Opening, Answered, History, begun, after, after_step, run}
use Rattle.ddr_world.specs.Kept.{Kept, KeptSide, opened_with, side_of, state_of}
use Rattle.ddr_world.specs.Quiet.{IsQuietSide, IsQuiet, side_passed, passed, cycles_of, cycles_made}
use Rattle.ddr_world.specs.Record.{IsRecord, StandsFor}
use Rattle.ddr_world.specs.State.{ChannelSide, State}
use Rattle.ddr_world.specs.Step.{Step, change_channel, cycled, made, step, with_channel}

-- fewer cycles of what is quiet

pub fewer_cycles : (fewer count : ℕ) (s : channel_state.State) → fewer ≤ count → quiet.IsQuiet count s → quiet.IsQuiet fewer s
fewer_cycles zero count s within is = tt
fewer_cycles (suc fewer) zero s within is = absurd (omega (arith, within))
fewer_cycles (suc fewer) (suc count) s within is = (is.0, fewer_cycles fewer count (after_cycle s) (omega (arith, within)) is.1)

pub fewer_of_side : (fewer count : ℕ) (side : ChannelSide) → fewer ≤ count → IsQuietSide count side → IsQuietSide fewer side
fewer_of_side fewer count side within is = record { channel = fewer_cycles fewer count side.channel within is.channel; requests = is.requests; done = is.done }

-- one cycle of what is quiet

idle_done : (s : channel_state.State) → quiet.IsIdleNext s → s.done ≡ [] → (after_cycle s).done ≡ []
idle_done s idle none = ap (λ (c : Choice). (issued c (at_choice s)).done) idle.issues ∙ ap₂ ◌++◌ none idle.completes

pub side_quiet_on : (count : ℕ) (side : ChannelSide) → IsQuietSide (suc count) side → IsQuietSide count (side_passed 1 side)
side_quiet_on count side is = record { channel = is.channel.1; requests = is.requests; done = idle_done side.channel is.channel.0 is.done }

pub step_cycle : (s : State) (c : ℕ) (side : ChannelSide) → slice_get s.channels c ≡ Some side → side.channel.now < CLOCK_STOP → step s (Cycle c) ≡ made (with_channel c (side_passed 1 side) s) Cycled
step_cycle s c side there below =
    ap (λ o. option_map_or (λ x. change_channel s c Cycled (cycled x)) o (Err refusal.NoSuch)) there
    ∙ ap (λ (b : Bool). change_channel s c Cycled (cond b (Err refusal.ClockSpent) (Ok (side_passed 1 side)))) (ne_eqb side.channel.now CLOCK_STOP (λ e. omega (arith, e, below)))

-- the channels, of which the first so many were passed

abbrev pub first_passed : ℕ → ℕ → List ChannelSide → List ChannelSide
first_passed count k xs = map (side_passed count) (take k xs) ++ drop k xs

pub first_at : (count k : ℕ) (xs : List ChannelSide) → slice_get (first_passed count k xs) k ≡ slice_get xs k
first_at count zero xs = refl
first_at count (suc k) [] = refl
first_at count (suc k) (x ∷ xs) = first_at count k xs

pub first_more : (count k : ℕ) (xs : List ChannelSide) (side : ChannelSide) → slice_get xs k ≡ Some side → slice_set (first_passed count k xs) k (side_passed count side) ≡ first_passed count (suc k) xs
first_more count zero [] side there = absurd (let impossible = there in cc)
first_more count zero (x ∷ xs) side there =
    let same : side ≡ x = cc in
    ap (λ (y : ChannelSide). side_passed count y ∷ xs) same
first_more count (suc k) [] side there = absurd (let impossible = there in cc)
first_more count (suc k) (x ∷ xs) side there = ap (λ (ys : List ChannelSide). side_passed count x ∷ ys) (first_more count k xs side there)

pub first_all : (count : ℕ) (xs : List ChannelSide) → first_passed count (length xs) xs ≡ map (side_passed count) xs
first_all count [] = refl
first_all count (x ∷ xs) = ap (λ (ys : List ChannelSide). side_passed count x ∷ ys) (first_all count xs)

pub some_side : (k : ℕ) (xs : List ChannelSide) → k < length xs → (side : ChannelSide) × (slice_get xs k ≡ Some side)
some_side k [] within = absurd (omega (arith, within))
some_side zero (x ∷ xs) within = (x, refl)
some_side (suc k) (x ∷ xs) within = some_side k xs (omega (arith, within))

-- the events lead to this state, and nothing else is noted
record Goes (h : History) (events : List Answered) (s : State) : Type 0 where
  is_record : IsRecord h events
  is : fold after h events ≡ record h { state = s }

record_append : (h : History) (xs ys : List Answered) → IsRecord h xs → IsRecord (fold after h xs) ys → IsRecord h (xs ++ ys)
record_append h [] ys first second = second
record_append h (x ∷ xs) ys first second = (first.0, record_append (after h x) xs ys first.1 second)

goes_then : (h : History) (xs ys : List Answered) (s t : State) → Goes h xs s → Goes (record h { state = s }) ys t → Goes h (xs ++ ys) t
goes_then h xs ys s t first second = record {
  is_record = record_append h xs ys first.is_record (subst (λ (g : History). IsRecord g ys) (sym first.is) second.is_record);
  is = fold-append after h xs ys ∙ ap (λ (g : History). fold after g ys) first.is ∙ second.is;
}

goes_nowhere : (h : History) (s : State) → s ≡ h.state → Goes h [] s
goes_nowhere h s is = record { is_record = tt; is = ap (λ (t : State). record h { state = t }) (sym is) }

one_goes : (h : History) (c : ℕ) (side : ChannelSide) → slice_get h.state.channels c ≡ Some side → side.channel.now < CLOCK_STOP → Goes h (cycles_of 1 c) (with_channel c (side_passed 1 side) h.state)
one_goes h c side there below =
    let step_is = step_cycle h.state c side there below in
    record {
      is_record = ((with_channel c (side_passed 1 side) h.state, step_is), tt);
      is = ap (λ (r : Step). after_step (Cycle c) h r) step_is;
    }

-- so many cycles of a channel
side_goes : (count : ℕ) (h : History) (c : ℕ) (side : ChannelSide) → slice_get h.state.channels c ≡ Some side → quiet.IsQuiet count side.channel → Goes h (cycles_of count c) (with_channel c (side_passed count side) h.state)
side_goes zero h c side there is =
    goes_nowhere h (with_channel c side h.state) (ap (λ (xs : List ChannelSide). record h.state { channels = xs })
    (ap (slice_set h.state.channels c) (sym (get_or_from_slice_get h.state.channels c side side there)) ∙ set-get_or h.state.channels c side))
side_goes (suc count) h c side there is =
    let next = with_channel c (side_passed 1 side) h.state in
    let rest = side_goes count (record h { state = next }) c (side_passed 1 side) (slice_get-set_same h.state.channels c (side_passed 1 side) (slice_get_within h.state.channels c side there)) is.1 in
    subst (λ (xs : List ChannelSide). Goes h (cycles_of (suc count) c) (record h.state { channels = xs })) (set-set h.state.channels c (side_passed 1 side) (side_passed (suc count) side))
    (goes_then h (cycles_of 1 c) (cycles_of count c) next (with_channel c (side_passed count (side_passed 1 side)) next) (one_goes h c side there is.0.clock) rest)

-- of each of the first so many channels
first_go : (count k : ℕ) (h : History) → k ≤ length h.state.channels → ((c : ℕ) (side : ChannelSide) → slice_get h.state.channels c ≡ Some side → quiet.IsQuiet count side.channel)
    → Goes h (cycles_made count k) (record h.state { channels = first_passed count k h.state.channels })
first_go count zero h within is = goes_nowhere h h.state refl
first_go count (suc k) h within is =
    let xs = h.state.channels in
    let found = some_side k xs (omega (arith, within)) in
    let next : State = record h.state { channels = first_passed count k xs } in
    subst (λ (ys : List ChannelSide). Goes h (cycles_made count (suc k)) (record h.state { channels = ys })) (first_more count k xs found.0 found.1)
    (goes_then h (cycles_made count k) (cycles_of count k) next (with_channel k (side_passed count found.0) next) (first_go count k h (omega (arith, within)) is)
    (side_goes count (record h { state = next }) k found.0 (first_at count k xs ∙ found.1) (is k found.0 found.1)))

-- the sides of the channels, as they are kept

pub each_quiet : (count : ℕ) (s : State) → IsQuiet count s → (c : ℕ) (side : ChannelSide) → slice_get s.channels c ≡ Some side → quiet.IsQuiet count side.channel
each_quiet zero s is c side there = tt
each_quiet (suc count) s is c side there = (All-at (IsQuietSide (suc count)) s.channels c side (is (omega arith)).channels there).channel

-- a core in which cycles were passed stands for them
pub stands_passed : (count : ℕ) (k k' : Kept) (opening : Opening) (earlier : List Answered) → IsQuiet count (state_of k) → k'.config ≡ k.config → k'.keeps ≡ k.keeps → state_of k' ≡ passed count (state_of k) → StandsFor k opening earlier
    → StandsFor k' opening (earlier ++ cycles_made count (length k.channels))
stands_passed count k k' opening earlier is config keeps state stands =
    let h = run opening earlier in
    let n = length k.channels in
    let long : n ≡ length h.state.channels = sym (length-map k.channels side_of) ∙ ap (λ (s : State). length s.channels) stands.state in
    let goes = first_go count n h (omega (arith, long)) (each_quiet count h.state (subst (IsQuiet count) stands.state is)) in
    record {
      config = config ∙ stands.config;
      keeps = keeps ∙ stands.keeps;
      is_record = record_append (begun opening) earlier (cycles_made count n) stands.is_record goes.is_record;
      state = state ∙ ap (passed count) stands.state
          ∙ ap (λ (xs : List ChannelSide). record h.state { channels = xs }) (sym (first_all count h.state.channels) ∙ ap (λ m. first_passed count m h.state.channels) (sym long))
          ∙ ap (λ (g : History). g.state) (sym (fold-append after (begun opening) earlier (cycles_made count n) ∙ goes.is));
    }

pub all_quiet : (count : ℕ) (k : Kept) → IsQuiet count (state_of k) → All (λ side. quiet.IsQuiet count (channel_kept.state_of side.channel)) k.channels
all_quiet count k is = λ i d within.
    each_quiet count (state_of k) is i (side_of (get_or k.channels i d)) (slice_get-map side_of k.channels i ∙ ap (option_map side_of) (slice_get-get_or k.channels i d within))

-- the next one is as it was at the start
pub next_side : (count i : ℕ) (start now : List KeptSide) (side : KeptSide) → map side_of now ≡ first_passed count i (map side_of start) → slice_get now i ≡ Some side → slice_get (map side_of start) i ≡ Some (side_of side)
next_side count i start now side passed there =
    sym (first_at count i (map side_of start)) ∙ ap (λ (xs : List ChannelSide). slice_get xs i) (sym passed) ∙ slice_get-map side_of now i ∙ ap (option_map side_of) there

pub next_quiet : (count i : ℕ) (start now : List KeptSide) (side : KeptSide) → map side_of now ≡ first_passed count i (map side_of start) → All (λ side. quiet.IsQuiet count (channel_kept.state_of side.channel)) start → slice_get now i ≡ Some side
    → quiet.IsQuiet count (channel_kept.state_of side.channel)
next_quiet count i start now side passed all there =
    All-at (λ (s : ChannelSide). quiet.IsQuiet count s.channel) (map side_of start) i (side_of side) (All-map (λ (s : ChannelSide). quiet.IsQuiet count s.channel) side_of start all) (next_side count i start now side passed there)

-- one more was passed
pub next_passed : (count i : ℕ) (start now : List KeptSide) (side new : KeptSide) → map side_of now ≡ first_passed count i (map side_of start) → slice_get now i ≡ Some side → side_of new ≡ side_passed count (side_of side)
    → map side_of (slice_set now i new) ≡ first_passed count (i + 1) (map side_of start)
next_passed count i start now side new passed there is =
    let one : suc i ≡ i + 1 = omega arith in
    map-set side_of now i new
    ∙ ap₂ (λ (xs : List ChannelSide) (x : ChannelSide). slice_set xs i x) passed is
    ∙ first_more count i (map side_of start) (side_of side) (next_side count i start now side passed there)
    ∙ ap (λ n. first_passed count n (map side_of start)) one

-- where the channels are as they were opened, each is still as the core was
pub openings_kept : (with : Config × Bool) (old new : List KeptSide) → map opened_with new ≡ map opened_with old → All (λ side. opened_with side ≡ with) old → All (λ side. opened_with side ≡ with) new
openings_kept with old new same all = λ k d within.
    All-at (λ (c : Config × Bool). c ≡ with) (map opened_with old) k (opened_with (get_or new k d)) (All-map (λ (c : Config × Bool). c ≡ with) opened_with old all)
    (ap (λ (cs : List (Config × Bool)). slice_get cs k) (sym same) ∙ slice_get-map opened_with new k ∙ ap (option_map opened_with) (slice_get-get_or new k d within))

-- nothing is first where nothing was found
pub none_first : {A T : Type 0} (f : A → T) (o : Option A) (xs : List T) → is_some o ≡ false → option_map f o ≡ slice_get xs 0 → xs ≡ []
none_first f None [] none is = refl
none_first f None (x ∷ xs) none is = absurd (let impossible = is in cc)
none_first f (Some a) xs none is = absurd (let impossible = none in cc)
