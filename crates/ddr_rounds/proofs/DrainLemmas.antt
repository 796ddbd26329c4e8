-- In how many cycles of some rounds writes were drained, one behind another or quiet ones at once.
use Rattle.std.proofs.Common.{◌≡◌, ◌<◌, ◌≤◌, ◌+◌, ℕ, zero, suc, Bool, true, false, List, [], ◌∷◌, Option, Some, None, if◌then◌else◌, length, refl, sym, ap, subst, ◌∙◌, inl, inr, arith}
use Rattle.std.specs.List.{slice_get, slice_set, slice_index_or}
use Rattle.std.specs.Option.{option_and_then, option_map, option_map_or}
use Rattle.std.proofs.lemmas.Bool.Decides.{eqb_tells}
use Rattle.std.proofs.lemmas.List.{length-map}
use Rattle.std.proofs.lemmas.Option.{slice_get-map}
use Rattle.ddr_channel.proofs.ListLemmas.{All-at}
use Rattle.ddr_channel.proofs.QuietLemmas.{cycles_idle}
use Rattle.ddr_channel.specs.State as channel
use Rattle.ddr_timing.specs.declared.config.Config.{Config}
use Rattle.ddr_world.specs.Quiet.{IsQuiet, IsQuietSide, passed, side_passed}
use Rattle.ddr_world.specs.State.{ChannelSide, State}
use Rattle.ddr_rounds.specs.Drains.{AreRaised, counted_in, drained, is_draining, raised}
use Rattle.ddr_rounds.specs.Rounds.{round, rounds}
use Rattle.ddr_rounds.proofs.QuietLemmas.{passed_more, quiet_on, round_quiet}

-- rounds behind rounds

pub drained_then : (config : Config) (n m : ℕ) (s now : State) (c : ℕ) → rounds config n s ≡ Some now → drained config (n + m) s c ≡ drained config n s c + drained config m now c
drained_then config zero m s now c is =
    let same : s ≡ now = cc in
    let none : 0 + m ≡ m = omega arith in
    ap (λ k. drained config k s c) none ∙ ap (λ t. drained config m t c) same ∙ omega arith
drained_then config (suc n) m s now c is =
    let more : suc n + m ≡ suc (n + m) = omega arith in
    ap (λ k. drained config k s c) more ∙ by_round (round config s) is (λ next later. drained_then config n m next now c later)
  where
    by_round : (o : Option State) → option_and_then (rounds config n) o ≡ Some now → ((next : State) → rounds config n next ≡ Some now → drained config (n + m) next c ≡ drained config n next c + drained config m now c)
        → option_map_or (λ next. counted_in 1 next c + drained config (n + m) next c) o 0 ≡ option_map_or (λ next. counted_in 1 next c + drained config n next c) o 0 + drained config m now c
    by_round None is later = cc
    by_round (Some next) is later = omega (arith, later next is)

pub drained_one : (config : Config) (s next : State) (c : ℕ) → round config s ≡ Some next → drained config 1 s c ≡ counted_in 1 next c
drained_one config s next c is = ap (λ (o : Option State). option_map_or (λ t. counted_in 1 t c + drained config 0 t c) o 0) is ∙ omega arith

-- in quiet ones the mode stays as it is behind the first

abbrev mode_of : Option ChannelSide → Bool
mode_of o = option_map_or (λ (side : ChannelSide). side.channel.drain) o false

settled_of : (count : ℕ) (o : Option ChannelSide) → ((side : ChannelSide) → o ≡ Some side → IsQuietSide (suc count) side) → mode_of (option_map (side_passed (suc count)) o) ≡ mode_of (option_map (side_passed 1) o)
settled_of count None each = refl
settled_of count (Some side) each =
    let quiet = (each side refl).channel in
    ap (λ (s : channel.State). s.drain) (cycles_idle (suc count) side.channel quiet) ∙ sym (ap (λ (s : channel.State). s.drain) (cycles_idle 1 side.channel (quiet.0, tt)))

pub mode_settled : (count c : ℕ) (s : State) → ((k : ℕ) (side : ChannelSide) → slice_get s.channels k ≡ Some side → IsQuietSide (suc count) side) → is_draining (passed (suc count) s) c ≡ is_draining (passed 1 s) c
mode_settled count c s each =
    ap mode_of (slice_get-map (side_passed (suc count)) s.channels c) ∙ settled_of count (slice_get s.channels c) (each c) ∙ sym (ap mode_of (slice_get-map (side_passed 1) s.channels c))

abbrev if_so : Bool → ℕ → ℕ
if_so b n = if b then n else 0

none_of : (b : Bool) → if_so b 0 ≡ 0
none_of true = refl
none_of false = refl

more_of : (b d : Bool) (count : ℕ) → b ≡ d → if_so b 1 + if_so d count ≡ if_so d (suc count)
more_of true true count same = omega arith
more_of false false count same = refl
more_of true false count same = cc
more_of false true count same = cc

pub drained_quiet : (config : Config) (count : ℕ) (s : State) (c : ℕ) → length s.channels ≡ config.geometry.channels → IsQuiet count s → drained config count s c ≡ counted_in count (passed count s) c
drained_quiet config zero s c are is = sym (none_of (is_draining (passed 0 s) c))
drained_quiet config (suc count) s c are is =
    let here = is (omega arith) in
    let next = passed 1 s in
    let later = drained_quiet config count next c (length-map s.channels (side_passed 1) ∙ are) (λ some. quiet_on count s here) in
    let same : passed count next ≡ passed (suc count) s = ap (λ (xs : List ChannelSide). record s { channels = xs }) (passed_more count s.channels) in
    ap (λ (o : Option State). option_map_or (λ t. counted_in 1 t c + drained config count t c) o 0) (round_quiet config count s are here)
    ∙ ap (λ n. counted_in 1 next c + n) (later ∙ ap (λ t. counted_in count t c) same)
    ∙ more_of (is_draining next c) (is_draining (passed (suc count) s) c) count
    (sym (mode_settled count c s (λ k side there. All-at (IsQuietSide (suc count)) s.channels k side here.channels there)))

-- numbers that are raised once and again

raised_twice : (a b n : ℕ) → raised a (raised b n) ≡ raised (b + a) n
raised_twice zero b n = let none : b + 0 ≡ b = omega arith in ap (λ k. raised k n) (sym none)
raised_twice (suc a) zero n = let none : 0 + suc a ≡ suc a = omega arith in ap (λ k. raised k n) (sym none)
raised_twice (suc a) (suc b) n =
    let all : suc b + suc a ≡ suc (suc b + a) = omega arith in
    omega arith ∙ ap (λ k. raised k n) (sym all)

maybe_twice : (a b : ℕ) (o : Option ℕ) → option_map (raised a) (option_map (raised b) o) ≡ option_map (raised (b + a)) o
maybe_twice a b None = refl
maybe_twice a b (Some n) = ap (λ m. Some m) (raised_twice a b n)

pub raised_then : (channels : ℕ) (first second both : ℕ → ℕ) (xs ys zs : List ℕ) → ((c : ℕ) → both c ≡ first c + second c) → AreRaised channels first xs ys → AreRaised channels second ys zs → AreRaised channels both xs zs
raised_then channels first second both xs ys zs are one two c within =
    two c within ∙ ap (option_map (raised (second c))) (one c within) ∙ maybe_twice (second c) (first c) (slice_get xs c) ∙ ap (λ k. option_map (raised k) (slice_get xs c)) (sym (are c))

maybe_none : (o : Option ℕ) → o ≡ option_map (raised 0) o
maybe_none None = refl
maybe_none (Some n) = refl

pub raised_nothing : (channels : ℕ) (more : ℕ → ℕ) (xs : List ℕ) → ((c : ℕ) → more c ≡ 0) → AreRaised channels more xs xs
raised_nothing channels more xs none c within = maybe_none (slice_get xs c) ∙ ap (λ k. option_map (raised k) (slice_get xs c)) (sym (none c))

-- one channel after another

set_at : (ys : List ℕ) (k c : ℕ) → slice_get (slice_set ys c (raised k (slice_index_or ys c 0))) c ≡ option_map (raised k) (slice_get ys c)
set_at [] k c = refl
set_at (y ∷ ys) k zero = refl
set_at (y ∷ ys) k (suc c) = set_at ys k c

pub set_beside : {X : Type 0} (ys : List X) (v : X) (c d : ℕ) → (c ≡ d → ⊥) → slice_get (slice_set ys c v) d ≡ slice_get ys d
set_beside [] v c d other = refl
set_beside (y ∷ ys) v zero zero other = absurd (other refl)
set_beside (y ∷ ys) v zero (suc d) other = refl
set_beside (y ∷ ys) v (suc c) zero other = refl
set_beside (y ∷ ys) v (suc c) (suc d) other = set_beside ys v c d (λ e. other (ap suc e))

-- those below a channel were raised, and the others not
pub record AreRaisedBelow (channel : ℕ) (more : ℕ → ℕ) (before after : List ℕ) : Type 0 where
  pub below : AreRaised channel more before after
  pub rest : (c : ℕ) → channel ≤ c → slice_get after c ≡ slice_get before c

pub none_below : (more : ℕ → ℕ) (xs : List ℕ) → AreRaisedBelow 0 more xs xs
none_below more xs = record { below = λ c within. absurd (omega (arith, within)); rest = λ c beyond. refl }

below_or : (c n : ℕ) → c < suc n → (c ≡ n → ⊥) → c < n
below_or zero zero within other = absurd (other refl)
below_or zero (suc n) within other = omega arith
below_or (suc c) zero within other = absurd (omega (arith, within))
below_or (suc c) (suc n) within other = omega (arith, below_or c n (omega (arith, within)) (λ e. other (ap suc e)))

-- one more, whose number came to this, and no other changed
pub one_below : (channel : ℕ) (more : ℕ → ℕ) (xs ys zs : List ℕ) → AreRaisedBelow channel more xs ys → slice_get zs channel ≡ option_map (raised (more channel)) (slice_get ys channel)
    → ((d : ℕ) → (channel ≡ d → ⊥) → slice_get zs d ≡ slice_get ys d) → AreRaisedBelow (channel + 1) more xs zs
one_below channel more xs ys zs k here others = record {
  below = λ c within. elim (eqb_tells c channel) [
    | inl same ↦ subst (λ n. slice_get zs n ≡ option_map (raised (more n)) (slice_get xs n)) (sym same.1) (here ∙ ap (option_map (raised (more channel))) (k.rest channel (omega arith)))
    | inr other ↦ others c (λ e. other.1 (sym e)) ∙ k.below c (below_or c channel (omega (arith, within)) other.1)
  ];
  rest = λ c beyond. others c (λ e. omega (arith, e, beyond)) ∙ k.rest c (omega (arith, beyond));
}

pub raised_here : (channel more_here : ℕ) (more : ℕ → ℕ) (xs ys zs : List ℕ) → AreRaisedBelow channel more xs ys → more_here ≡ more channel → zs ≡ slice_set ys channel (raised more_here (slice_index_or ys channel 0))
    → AreRaisedBelow (channel + 1) more xs zs
raised_here channel more_here more xs ys zs k here is =
    one_below channel more xs ys zs k
    (ap (λ (l : List ℕ). slice_get l channel) is ∙ set_at ys more_here channel ∙ ap (λ m. option_map (raised m) (slice_get ys channel)) here)
    (λ d other. ap (λ (l : List ℕ). slice_get l d) is ∙ set_beside ys _ channel d other)

pub not_raised_here : (channel : ℕ) (more : ℕ → ℕ) (xs ys : List ℕ) → AreRaisedBelow channel more xs ys → more channel ≡ 0 → AreRaisedBelow (channel + 1) more xs ys
not_raised_here channel more xs ys k none =
    one_below channel more xs ys ys k (maybe_none (slice_get ys channel) ∙ ap (λ m. option_map (raised m) (slice_get ys channel)) (sym none)) (λ d other. refl)
