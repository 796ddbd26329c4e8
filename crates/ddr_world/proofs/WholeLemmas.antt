-- What every event keeps of the fields of the core.
use Rattle.std.proofs.Common.{◌≡◌, ◌<◌, ◌≤◌, ◌↔◌, IsTrue, ltb, arith, ℕ, Bool, true, false, cond, List, [], ◌∷◌, Option, Some, None, IfSome, IsSome, Result, Ok, Err, length, get_or, refl, sym, ap, subst, ◌∙◌}
use Rattle.std.specs.List.{slice_get}
use Rattle.std.specs.Option.{option_map}
use Rattle.std.specs.Result.{IsErrAnd}
use Rattle.std.specs.Vec.{with_item}
use Rattle.std.proofs.lemmas.Bool.{false≢true, ltb-true, ltb-false}
use Rattle.std.proofs.lemmas.List.{length-set}
use Rattle.std.proofs.lemmas.List.Elements.{All-set}
use Rattle.std.proofs.lemmas.Option.{slice_get_read, slice_get-get_or}
use Rattle.ddr_timing.specs.declared.config.Config.{Config}
use Rattle.ddr_timing.specs.declared.geometry.Digit.TheVariants.{Channel}
use Rattle.ddr_timing.specs.declared.geometry.Geometry.{Geometry}
use Rattle.ddr_address_map.specs.declared.place.Place.{Place}
use Rattle.ddr_address_map.specs.Map.{in_range}
use Rattle.ddr_address_map.specs.Requests.{Completion}
use Rattle.ddr_address_map.proofs.MapLemmas.{IsInRange-test}
use Rattle.ddr_channel.specs.Sound.{IsServed}
use Rattle.ddr_reorder.specs.State.{awaits}
use Rattle.ddr_ports.specs.Asked.{Asked}
use Rattle.ddr_ports.specs.State.{PortState, after_fill}
use Rattle.ddr_world.specs.declared.world.World.TheInside.{Inside}
use Rattle.ddr_world.specs.Kept.{KeptSide, opened_with}
use Rattle.ddr_world.specs.State.{PortSide}
use Rattle.ddr_world.specs.Step.{after_submit, after_deliver, after_collect, after_release, after_end}
use Rattle.ddr_world.specs.View.{IsPortOf, IsWhole}

pub port_there : (a : Inside) (p : ℕ) (side : PortSide) → p < length a.ports.items → side ≡ get_or a.ports.items p side → slice_get a.ports.items p ≡ Some side
port_there a p side within is = slice_get_read a.ports.items (length a.ports.items) p side refl within is

pub channel_there : (a : Inside) (c : ℕ) (side : KeptSide) → c < length a.channels.items → side ≡ get_or a.channels.items c side → slice_get a.channels.items c ≡ Some side
channel_there a c side within is = slice_get_read a.channels.items (length a.channels.items) c side refl within is

pub old_port : (a : Inside) (p : ℕ) (side : PortSide) → IsWhole a → p < length a.ports.items → side ≡ get_or a.ports.items p side → IsPortOf a.config side
old_port a p side whole within is = subst (IsPortOf a.config) (sym is) (whole.ports_of_config p side within)

pub old_channel : (a : Inside) (c : ℕ) (side : KeptSide) → IsWhole a → c < length a.channels.items → side ≡ get_or a.channels.items c side → opened_with side ≡ (a.config, a.keeps)
old_channel a c side whole within is = ap opened_with is ∙ whole.channels_as_opened c side within

pub whole_port : (a : Inside) (p : ℕ) (side : PortSide) → IsWhole a → IsPortOf a.config side → IsWhole (record a { ports = with_item a.ports p side })
whole_port a p side whole of = record {
  ports_are = length-set a.ports.items p side ∙ whole.ports_are;
  channels_are = whole.channels_are;
  ports_of_config = All-set (IsPortOf a.config) a.ports.items p side of whole.ports_of_config;
  channels_as_opened = whole.channels_as_opened;
}

pub whole_channel : (a : Inside) (c : ℕ) (side : KeptSide) → IsWhole a → opened_with side ≡ (a.config, a.keeps) → IsWhole (record a { channels = with_item a.channels c side })
whole_channel a c side whole of = record {
  ports_are = whole.ports_are;
  channels_are = length-set a.channels.items c side ∙ whole.channels_are;
  ports_of_config = whole.ports_of_config;
  channels_as_opened = All-set (λ (s : KeptSide). opened_with s ≡ (a.config, a.keeps)) a.channels.items c side of whole.channels_as_opened;
}

-- a port keeps its shape

pub of_same : (config : Config) (old new : PortSide) → IsPortOf config old → new ≡ old → IsPortOf config new
of_same config old new of is = subst (IsPortOf config) (sym is) of

pub of_submit : (config : Config) (old new : PortSide) (asked : Asked) → IsPortOf config old → new ≡ after_submit asked old → IsPortOf config new
of_submit config old new asked of is = subst (IsPortOf config) (sym is) (record { geometry = of.geometry; channels = of.channels })

pub of_deliver : (config : Config) (old new : PortSide) (d : Completion) → IsPortOf config old → new ≡ after_deliver d old → IsPortOf config new
of_deliver config old new d of is = subst (IsPortOf config) (sym is) (record { geometry = of.geometry; channels = of.channels })

pub of_release : (config : Config) (old new : PortSide) → IsPortOf config old → new ≡ after_release old → IsPortOf config new
of_release config old new of is = subst (IsPortOf config) (sym is) (record { geometry = of.geometry; channels = of.channels })

pub of_end : (config : Config) (old new : PortSide) (c : ℕ) → IsPortOf config old → new ≡ after_end c old → IsPortOf config new
of_end config old new c of is = subst (IsPortOf config) (sym is) (record { geometry = of.geometry; channels = length-set old.pushed c true ∙ of.channels })

filled_geometry : (b : Bool) (d : Completion) (core : PortState) → (cond b (after_fill d core) core).geometry ≡ core.geometry
filled_geometry true d core = refl
filled_geometry false d core = refl

pub of_collect : (config : Config) (old new : PortSide) (o : Option Completion) (number : ℕ) → IsPortOf config old → Some number ≡ option_map (λ (d : Completion). d.number) o → IfSome o (λ d. new ≡ after_collect d old) → IsPortOf config new
of_collect config old new None number of some is = absurd (let impossible = some in cc)
of_collect config old new (Some d) number of some is = subst (IsPortOf config) (sym is) (record {
  geometry = filled_geometry (awaits old.core.reorder d.number d.echo) d old.core ∙ of.geometry;
  channels = of.channels;
})

-- the error that an answer is
pub err_of : {T E : Type 0} (r : Result T E) (P : E → Type 0) → IsErrAnd r P → (e : E) × (r ≡ Err e) × P e
err_of (Ok x) P is = absurd is
err_of (Err e) P is = (e, refl, is)

within_test : (b t : Bool) (n m : ℕ) → ltb n m ≡ t → (IsTrue b ↔ (n < m)) → b ≡ false → m ≤ n
within_test b true n m e test refuted = absurd (false≢true (sym refuted ∙ test.1 (ltb-true n m e)))
within_test b false n m e test refuted = ltb-false n m e

-- a number that is not below the bound
pub not_within : (b : Bool) (n m : ℕ) → (IsTrue b ↔ (n < m)) → b ≡ false → m ≤ n
not_within b n m test refuted = within_test b (ltb n m) n m refl test refuted

-- the test was told to be false
pub told_false : (b t : Bool) → (IsTrue b ↔ (t ≡ false)) → b ≡ false → t ≡ true
told_false b true test refuted = refl
told_false b false test refuted = absurd (false≢true (sym refuted ∙ test.1 refl))

-- two reads of one place

pub same_port : (a : Inside) (p : ℕ) (x y : PortSide) → p < length a.ports.items → x ≡ get_or a.ports.items p x → y ≡ get_or a.ports.items p y → x ≡ y
same_port a p x y within x_is y_is =
    let first = port_there a p x within x_is in
    let second = port_there a p y within y_is in
    cc

pub same_channel : (a : Inside) (c : ℕ) (x y : KeptSide) → c < length a.channels.items → x ≡ get_or a.channels.items c x → y ≡ get_or a.channels.items c y → x ≡ y
same_channel a c x y within x_is y_is =
    let first = channel_there a c x within x_is in
    let second = channel_there a c y within y_is in
    cc

-- a place that the port's memory has is on one of the channels

pub channel_within : (a : Inside) (port : PortSide) (place : Place) → IsWhole a → IsPortOf a.config port → in_range port.core.geometry place ≡ true → place.channel < length a.channels.items
channel_within a port place whole of placed =
    let below : place.channel < port.core.geometry.channels = (IsInRange-test port.core.geometry place placed).digits Channel in
    omega (arith, below, ap (λ (g : Geometry). g.channels) of.geometry, whole.channels_are)

pub served_there : (a : Inside) (port : PortSide) (side : KeptSide) (place : Place) → IsPortOf a.config port → side.channel.config ≡ a.config → in_range port.core.geometry place ≡ true → IsServed side.channel.config place
served_there a port side place of config placed =
    ap (λ (g : Geometry). in_range g place) (ap (λ (x : Config). x.geometry) config ∙ sym of.geometry) ∙ placed

pub some_channel : (a : Inside) (c : ℕ) → c < length a.channels.items → (side : KeptSide) × (slice_get a.channels.items c ≡ Some side)
some_channel a c within = has_item a.channels.items c within
  where
    has_item : (xs : List KeptSide) (i : ℕ) → i < length xs → (x : KeptSide) × (slice_get xs i ≡ Some x)
    has_item [] i within = absurd (omega (arith, within))
    has_item (x ∷ xs) i within = (get_or (x ∷ xs) i x, slice_get-get_or (x ∷ xs) i x within)

-- a completion is there where its port is
pub is_there : (done : Option Completion) (p : ℕ) {first : Option Completion} → done ≡ first → Some p ≡ option_map (λ (d : Completion). d.port) first → IsSome done
is_there (Some d) p is for = refl
is_there None p is for = absurd (let told = for ∙ ap (option_map (λ (x : Completion). x.port)) (sym is) in cc)
