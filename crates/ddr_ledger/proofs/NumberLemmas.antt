-- The numbers of channels and ports, one after another.
use Rattle.std.proofs.Common.{◌≡◌, ◌≢◌, ℕ, zero, suc, ◌+◌, ◌<◌, Bool, true, false, List, [], Option, None, Some, Result, Ok, Err, IfOk, IfErr, refl, sym, ap, subst, ◌∙◌, ne_eqb, arith}
use Rattle.std.specs.Prelude.{◌==◌, ◌||◌}
use Rattle.std.specs.List.{list_any, range_with_len, slice_get}
use Rattle.std.specs.Option.{option_map, option_map_or}
use Rattle.std.proofs.lemmas.Option.{slice_get-map}
use Rattle.ddr_timing.specs.declared.units.TheConstants.{CLOCK_STOP}
use Rattle.ddr_channel.specs.Kept as channel_kept
use Rattle.ddr_world.specs.Kept.{Kept, KeptSide, side_of, state_of}
use Rattle.ddr_world.specs.State.{ChannelSide, State}
use Rattle.ddr_ledger.specs.declared.numbers.Numbers.{Numbers}
use Rattle.ddr_ledger.specs.Numbers.{IsCounted, is_spent, no_numbers, numbers_at, numbers_in}
use Rattle.ddr_ledger.specs.Places.{channel_places, places_at}
use Rattle.ddr_text.specs.declared.fault.Fault.{Fault}
use Rattle.ddr_text.specs.declared.fault.Fault.TheVariants.{ClockSpent}

-- a channel that is there

over : {X : Type 0} (f : ChannelSide → X) (c : ℕ) (k : channel_kept.Kept) (d : X) (o : Option KeptSide) (g : channel_kept.Kept → X) → ((side : KeptSide) → f (side_of side) ≡ g side.channel) → Some k ≡ option_map (λ (side : KeptSide). side.channel) o
    → option_map_or f (option_map side_of o) d ≡ g k
over f c k d None g same is = absurd (let impossible = is in cc)
over f c k d (Some side) g same is =
    let here : k ≡ side.channel = cc in
    same side ∙ ap g (sym here)

pub numbers_there : (w : Kept) (c : ℕ) (k : channel_kept.Kept) → Some k ≡ option_map (λ (side : KeptSide). side.channel) (slice_get w.channels c) → numbers_at (state_of w) c ≡ numbers_in k.config k.now k.trace
numbers_there w c k is =
    ap (λ o. option_map_or (λ (side : ChannelSide). numbers_in side.channel.config side.channel.now side.channel.trace) o no_numbers) (slice_get-map side_of w.channels c)
    ∙ over (λ (side : ChannelSide). numbers_in side.channel.config side.channel.now side.channel.trace) c k no_numbers (slice_get w.channels c) (λ (x : channel_kept.Kept). numbers_in x.config x.now x.trace) (λ side. refl) is

pub spent_there : (w : Kept) (c : ℕ) (k : channel_kept.Kept) → Some k ≡ option_map (λ (side : KeptSide). side.channel) (slice_get w.channels c) → is_spent (state_of w) c ≡ (k.now == CLOCK_STOP)
spent_there w c k is =
    ap (λ o. option_map_or (λ (side : ChannelSide). side.channel.now == CLOCK_STOP) o false) (slice_get-map side_of w.channels c)
    ∙ over (λ (side : ChannelSide). side.channel.now == CLOCK_STOP) c k false (slice_get w.channels c) (λ (x : channel_kept.Kept). x.now == CLOCK_STOP) (λ side. refl) is

pub places_there : (w : Kept) (c : ℕ) (k : channel_kept.Kept) → Some k ≡ option_map (λ (side : KeptSide). side.channel) (slice_get w.channels c) → places_at (state_of w) c ≡ channel_places k.config c k.now k.trace
places_there w c k is =
    ap (λ o. option_map_or (λ (side : ChannelSide). channel_places side.channel.config c side.channel.now side.channel.trace) o []) (slice_get-map side_of w.channels c)
    ∙ over (λ (side : ChannelSide). channel_places side.channel.config c side.channel.now side.channel.trace) c k [] (slice_get w.channels c) (λ (x : channel_kept.Kept). channel_places x.config c x.now x.trace) (λ side. refl) is

-- one that is not

beside : {X : Type 0} (f : ChannelSide → X) (d : X) (o : Option KeptSide) → None ≡ option_map (λ (side : KeptSide). side.channel) o → option_map_or f (option_map side_of o) d ≡ d
beside f d None is = refl
beside f d (Some side) is = absurd (let impossible = is in cc)

pub numbers_absent : (w : Kept) (c : ℕ) → None ≡ option_map (λ (side : KeptSide). side.channel) (slice_get w.channels c) → numbers_at (state_of w) c ≡ no_numbers
numbers_absent w c is =
    ap (λ o. option_map_or (λ (side : ChannelSide). numbers_in side.channel.config side.channel.now side.channel.trace) o no_numbers) (slice_get-map side_of w.channels c) ∙ beside (λ (side : ChannelSide). numbers_in side.channel.config side.channel.now side.channel.trace) no_numbers (slice_get w.channels c) is

pub spent_absent : (w : Kept) (c : ℕ) → None ≡ option_map (λ (side : KeptSide). side.channel) (slice_get w.channels c) → is_spent (state_of w) c ≡ false
spent_absent w c is =
    ap (λ o. option_map_or (λ (side : ChannelSide). side.channel.now == CLOCK_STOP) o false) (slice_get-map side_of w.channels c) ∙ beside (λ (side : ChannelSide). side.channel.now == CLOCK_STOP) false (slice_get w.channels c) is

pub places_absent : (w : Kept) (c : ℕ) → None ≡ option_map (λ (side : KeptSide). side.channel) (slice_get w.channels c) → places_at (state_of w) c ≡ []
places_absent w c is =
    ap (λ o. option_map_or (λ (side : ChannelSide). channel_places side.channel.config c side.channel.now side.channel.trace) o []) (slice_get-map side_of w.channels c)
    ∙ beside (λ (side : ChannelSide). channel_places side.channel.config c side.channel.now side.channel.trace) [] (slice_get w.channels c) is

-- a test of numbers one after another

neither : (a b : Bool) → (a || b) ≡ false → (a ≡ false) × (b ≡ false)
neither true b is = absurd (let impossible = is in cc)
neither false b is = (refl, is)

or_second : (a b : Bool) → b ≡ true → (a || b) ≡ true
or_second true b is = refl
or_second false b is = is

none_more : (f : ℕ → Bool) (a n m : ℕ) → m ≡ a + n → list_any f (range_with_len a n) ≡ false → f m ≡ false → list_any f (range_with_len a (suc n)) ≡ false
none_more f a zero m e none last =
    let here : a ≡ m = omega (arith, e) in
    ap (λ k. f k || false) here ∙ ap (λ b. b || false) last
none_more f a (suc n) m e none last =
    let both = neither (f a) (list_any f (range_with_len (a + 1) n)) none in
    ap (λ b. b || list_any f (range_with_len (a + 1) (suc n))) both.0 ∙ none_more f (a + 1) n m (omega (arith, e)) both.1 last

pub none_of : (f : ℕ → Bool) (n : ℕ) → list_any f (range_with_len 0 n) ≡ false → f n ≡ false → list_any f (range_with_len 0 (n + 1)) ≡ false
none_of f n none last =
    let more : n + 1 ≡ suc n = omega arith in
    ap (λ k. list_any f (range_with_len 0 k)) more ∙ none_more f 0 n n (omega arith) none last

some_from : (f : ℕ → Bool) (a n k m : ℕ) → m ≡ a + k → k < n → f m ≡ true → list_any f (range_with_len a n) ≡ true
some_from f a zero k m e within is = absurd (omega (arith, within))
some_from f a (suc n) zero m e within is =
    let here : a ≡ m = omega (arith, e) in
    ap (λ b. b || list_any f (range_with_len (a + 1) n)) (ap f here ∙ is)
some_from f a (suc n) (suc k) m e within is = or_second (f a) (list_any f (range_with_len (a + 1) n)) (some_from f (a + 1) n k m (omega (arith, e)) (omega (arith, within)) is)

pub some_of : (f : ℕ → Bool) (n k : ℕ) → k < n → f k ≡ true → list_any f (range_with_len 0 n) ≡ true
some_of f n k within is = some_from f 0 n k k (omega arith) within is

-- a clock that is spent is told
pub spent_told : {X : Type 0} (view : X → List Numbers) (s : State) (fault : Fault) (channels c : ℕ) → fault ≡ ClockSpent → c < channels → is_spent s c ≡ true → IsCounted view (Err fault) s channels
spent_told view s fault channels c is within spent = subst (λ (f : Fault). IsCounted view (Err f) s channels) (sym is) (some_of (is_spent s) channels c within spent)

-- none of so many passes, so neither does this one
pub none_at : (f : ℕ → Bool) (n k : ℕ) → k < n → list_any f (range_with_len 0 n) ≡ false → f k ≡ false
none_at f n k within none = go (f k) refl
  where
    go : (b : Bool) → f k ≡ b → f k ≡ false
    go false is = is
    go true is = absurd (let impossible : true ≡ false = sym (some_of f n k within is) ∙ none in cc)

-- its clock runs, or has come to its end

pub running_told : (r : Result Numbers Fault) (now : ℕ) (spent : Bool) → spent ≡ (now == CLOCK_STOP) → IfOk r (λ n. now ≢ CLOCK_STOP) → IfOk r (λ n. spent ≡ false)
running_told (Ok n) now spent is runs = is ∙ ne_eqb now CLOCK_STOP runs
running_told (Err fault) now spent is runs = tt

pub end_told : (r : Result Numbers Fault) (now : ℕ) (spent : Bool) → spent ≡ (now == CLOCK_STOP) → IfErr r (λ fault. (fault ≡ ClockSpent) × (now ≡ CLOCK_STOP)) → IfErr r (λ fault. (fault ≡ ClockSpent) × (spent ≡ true))
end_told (Ok n) now spent is ends = tt
end_told (Err fault) now spent is ends = (ends.0, is ∙ ap (λ m. m == CLOCK_STOP) ends.1)
