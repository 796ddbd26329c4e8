-- What the calls of a port or a channel make of its side.
use Rattle.std.proofs.Common.{◌≡◌, ◌↔◌, IsTrue, Bool, true, false, cond, eqb, List, Result, Ok, Err, length, drop, refl, sym, ap, subst, ◌∙◌, arith}
use Rattle.std.specs.List.{All}
use Rattle.std.specs.Result.{IsOk, IsErr, IsErrOf, IsErrAnd, IfErr, OnOk}
use Rattle.std.specs.Global.{Vec}
use Rattle.std.proofs.lemmas.Bool.{false≢true, ne_eqb}
use Rattle.std.proofs.lemmas.List.{length-drop, length-set}
use Rattle.std.proofs.lemmas.List.Elements.{All-drop}
use Rattle.circular_buffer.specs.Buffer.{Buffer, buffer}
use Rattle.ddr_timing.specs.declared.config.Config.{Config}
use Rattle.ddr_timing.specs.declared.units.TheConstants.{CLOCK_STOP}
use Rattle.ddr_address_map.specs.declared.request.Kind.{Kind}
use Rattle.ddr_address_map.specs.declared.request.Kind.TheVariants.{Read, Write}
use Rattle.ddr_channel.specs.declared.channel.CycleError.{CycleError}
use Rattle.ddr_channel.specs.declared.channel.CycleError.TheVariants.{ClockSpent, OutOfMemory}
use Rattle.ddr_channel.specs.Cycle.{after_cycle}
use Rattle.ddr_channel.specs.Kept as channel
use Rattle.ddr_channel.specs.Room.{wants_memory}
use Rattle.ddr_channel.specs.State as channel_state
use Rattle.ddr_channel.specs.State.{is_queue_full}
use Rattle.ddr_world.specs.declared.event.Refusal.{Refusal}
use Rattle.ddr_world.specs.declared.event.Refusal.TheVariants as refusal
use Rattle.ddr_world.specs.declared.item.Item.{Item}
use Rattle.ddr_world.specs.declared.item.Item.TheVariants as item
use Rattle.ddr_world.specs.declared.channel_side.ChannelSide.TheInside.{Inside}
use Rattle.ddr_world.specs.Items.{channel_after, noted_after, MayTake, Takes}
use Rattle.ddr_world.specs.Kept.{KeptSide, side_of}
use Rattle.ddr_world.specs.Refusals.{cycle_refusal_from}
use Rattle.ddr_world.specs.Step.{cycled}
use Rattle.ddr_world.specs.View.{IsChannelWhole, IsServedItem}

-- where both queues have a free place, that of each kind has
pub free_kind : (s : channel_state.State) (kind : Kind) → (is_queue_full s Read ≡ false) × (is_queue_full s Write ≡ false) → is_queue_full s kind ≡ false
free_kind s Read free = free.0
free_kind s Write free = free.1

pub admitted : {T E : Type 0} (r : Result T E) (full : Bool) → (IsErr r ↔ IsTrue full) → full ≡ false → IsOk r
admitted (Ok x) full err free = refl
admitted (Err e) full err free = absurd (false≢true (sym free ∙ err.0 refl))

-- after an item was popped, and the channel did with it what it does
pub whole_popped : (a : Inside) (k : channel.Kept) (rest : Buffer Item) (noted : Vec Bool) → IsChannelWhole a → k.config ≡ a.channel.config → rest ≡ buffer (drop 1 a.requests.items) a.requests.capacity
    → length noted.items ≡ length a.noted.items → IsChannelWhole (record a { channel = k; requests = rest; noted = noted })
whole_popped a k rest noted whole config is count = record {
  room = ap (λ (b : Buffer Item). b.capacity) is ∙ whole.room ∙ ap (λ (c : Config). c.limits.intake) (sym config);
  fits = omega (arith, whole.fits, ap (λ (b : Buffer Item). b.capacity) is, ap (λ (b : Buffer Item). length b.items) is, length-drop 1 a.requests.items);
  served = subst (λ (c : Config). All (IsServedItem c) rest.items) (sym config)
      (subst (λ (xs : List Item). All (IsServedItem a.channel.config) xs) (sym (ap (λ (b : Buffer Item). b.items) is)) (All-drop (IsServedItem a.channel.config) 1 a.requests.items whole.served));
  ports = count ∙ whole.ports ∙ ap (λ (c : Config). c.limits.ports) (sym config);
}

-- the first item of a queue may be taken, where both queues of the channel have a free place
pub may_take : (k : channel.Kept) (noted : List Bool) (it : Item) → IsServedItem k.config it → length noted ≡ k.config.limits.ports
    → (is_queue_full (channel.state_of k) Read ≡ false) × (is_queue_full (channel.state_of k) Write ≡ false) → MayTake it k noted
may_take k noted (item.Request r) served ports free = (served, free_kind (channel.state_of k) r.echo.kind free)
may_take k noted (item.End p) served ports free = omega (arith, served, ports)

-- what taking an item leaves
pub record IsTakenIn (it : Item) (before after : channel.Kept) (noted noted' : List Bool) : Type 0 where
  pub state : channel.state_of after ≡ channel_after it (channel.state_of before)
  pub config : after.config ≡ before.config
  pub keeps : after.keeps ≡ before.keeps
  pub noted_is : noted' ≡ noted_after it noted
  pub count : length noted' ≡ length noted

pub taken_in : (it : Item) (before after : channel.Kept) (noted noted' : List Bool) → Takes it before after noted noted' → IsTakenIn it before after noted noted'
taken_in (item.Request r) before after noted noted' takes = record { state = takes.0.state; config = takes.0.config; keeps = takes.0.keeps; noted_is = takes.1; count = ap (λ (xs : List Bool). length xs) takes.1 }
taken_in (item.End p) before after noted noted' takes = record {
  state = ap channel.state_of takes.0;
  config = ap (λ (k : channel.Kept). k.config) takes.0;
  keeps = ap (λ (k : channel.Kept). k.keeps) takes.0;
  noted_is = takes.1;
  count = ap (λ (xs : List Bool). length xs) takes.1 ∙ length-set noted p true;
}

-- a cycle that was made
pub cycled_ok : {T : Type 0} (side : KeptSide) (k : channel.Kept) (r : Result T CycleError) → OnOk r (channel.state_of k ≡ after_cycle (channel.state_of side.channel))
    → (IsErrOf r ClockSpent ↔ (side.channel.now ≡ CLOCK_STOP)) → OnOk r (cycled (side_of side) ≡ Ok (side_of (record side { channel = k })))
cycled_ok side k (Ok x) is spent =
    let running : eqb side.channel.now CLOCK_STOP ≡ false = ne_eqb side.channel.now CLOCK_STOP (λ e. let broken = spent.1 e in cc) in
    ap (λ b. cond b (Err refusal.ClockSpent) (Ok (record (side_of side) { channel = after_cycle (channel.state_of side.channel) }))) running
    ∙ ap (λ (s : channel_state.State). Ok (record (side_of side) { channel = s })) (sym is)
cycled_ok side k (Err e) is spent = tt

-- a cycle that was refused for want of memory would have issued a command for which there is no room
pub wanted : {T U : Type 0} (k : channel.Kept) (e : CycleError) (r : Result T Refusal) → (IsErrOf {T = U} {E = CycleError} (Err e) OutOfMemory → IsTrue (wants_memory k))
    → IsErrAnd r (λ cause. cause ≡ cycle_refusal_from e) → IfErr r (λ cause. cause ≡ refusal.OutOfMemory → IsTrue (wants_memory k))
wanted k e (Ok x) wants is = absurd is
wanted k ClockSpent (Err cause) wants is = λ memory. absurd (let clock : refusal.ClockSpent ≡ refusal.OutOfMemory = sym is ∙ memory in cc)
wanted k OutOfMemory (Err cause) wants is = λ memory. wants refl
