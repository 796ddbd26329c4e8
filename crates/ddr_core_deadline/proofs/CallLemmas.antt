-- What one more call makes of a channel of which it is known by which calls it came about.
use Rattle.std.proofs.Common.{◌≡◌, ℕ, Bool, true, false, cond, eqb, List, [], ◌∷◌, ◌++◌, Some, set, refl, sym, ap, subst, ◌∙◌, append-nil}
use Rattle.std.specs.List.{slice_get}
use Rattle.std.proofs.lemmas.Bool.{eqb-true, eqb-false}
use Rattle.std.proofs.lemmas.List.Sums.{fold-append}
use Rattle.std.proofs.lemmas.Option.{slice_get_within}
use Rattle.circular_buffer.proofs.Places.{slice_get-set_same, slice_get-set_other}
use Rattle.ddr_timing.specs.declared.units.TheConstants.{CLOCK_STOP}
use Rattle.ddr_address_map.specs.declared.request.Kind.TheVariants.{Read, Write}
use Rattle.ddr_address_map.specs.Map.{in_range}
use Rattle.ddr_address_map.specs.Requests.{Request}
use Rattle.ddr_channel.specs.Choice.{choice_of}
use Rattle.ddr_channel.specs.Cycle.{at_choice, after_cycle}
use Rattle.ddr_channel.specs.History as channel
use Rattle.ddr_channel.specs.History.{Call, Admit, Cycle, Pop, begun, after_call, with_owner}
use Rattle.ddr_channel.specs.Promise.{AreCalls, MayCall}
use Rattle.ddr_channel.specs.State as channel_state
use Rattle.ddr_channel.specs.State.{after_admit, after_pop, is_queue_full}
use Rattle.ddr_channel.proofs.ListLemmas.{All-last}
use Rattle.ddr_channel.proofs.StandsLemmas.{cycle_accepted}
use Rattle.ddr_deadline.specs.InTime.{FindsAllTaken, TakesAll}
use Rattle.ddr_deadline.proofs.AdmissionLemmas.{takes_more}
use Rattle.ddr_world.specs.History.{Opening}
use Rattle.ddr_world.specs.State.{ChannelSide}
use Rattle.ddr_world.proofs.SideLemmas.{free_kind}

-- the channel is what these calls make of it, by which it admitted these requests, and each cycle among them found all taken
pub record IsMadeBy (o : Opening) (admitted : List Request) (calls : List Call) (s : channel_state.State) : Type 0 where
  pub are : AreCalls o.config calls
  pub takes : TakesAll (begun o.config o.cycle) calls
  pub state : s ≡ (channel.run o.config o.cycle calls).state
  pub admitted_are : (channel.run o.config o.cycle calls).accepted ≡ admitted

run_more : (o : Opening) (calls : List Call) (call : Call) → channel.run o.config o.cycle (calls ++ call ∷ []) ≡ after_call (channel.run o.config o.cycle calls) call
run_more o calls call = fold-append after_call (begun o.config o.cycle) calls (call ∷ [])

called : (o : Opening) (admitted admitted' : List Request) (calls : List Call) (old new : channel_state.State) (call : Call) → IsMadeBy o admitted calls old → MayCall o.config call
    → FindsAllTaken (channel.run o.config o.cycle calls) call → new ≡ (after_call (channel.run o.config o.cycle calls) call).state → (after_call (channel.run o.config o.cycle calls) call).accepted ≡ admitted'
    → IsMadeBy o admitted' (calls ++ call ∷ []) new
called o admitted admitted' calls old new call k may finds state admitted_are = record {
  are = All-last (MayCall o.config) calls call k.are may;
  takes = takes_more (begun o.config o.cycle) calls call k.takes finds;
  state = state ∙ ap (λ (h : channel.History). h.state) (sym (run_more o calls call));
  admitted_are = ap (λ (h : channel.History). h.accepted) (run_more o calls call) ∙ admitted_are;
}

other_state : (b : Bool) (x y : channel.History) → b ≡ false → (cond b x y).state ≡ y.state
other_state b x y e = ap (λ t. (cond t x y).state) e

other_accepted : (b : Bool) (x y : channel.History) → b ≡ false → (cond b x y).accepted ≡ y.accepted
other_accepted b x y e = ap (λ t. (cond t x y).accepted) e

pub made_cycle : (o : Opening) (admitted : List Request) (calls : List Call) (s : channel_state.State) → eqb s.now CLOCK_STOP ≡ false → s.done ≡ [] → IsMadeBy o admitted calls s
    → IsMadeBy o admitted (calls ++ Cycle ∷ []) (after_cycle s)
made_cycle o admitted calls s clock taken k =
    let h = channel.run o.config o.cycle calls in
    let clock' : eqb h.state.now CLOCK_STOP ≡ false = ap (λ (t : channel_state.State). eqb t.now CLOCK_STOP) (sym k.state) ∙ clock in
    called o admitted admitted calls s (after_cycle s) Cycle k tt (ap (λ (t : channel_state.State). t.done) (sym k.state) ∙ taken)
    (ap after_cycle k.state ∙ sym (other_state (eqb h.state.now CLOCK_STOP) h (record (with_owner (choice_of (at_choice h.state)) h) { state = after_cycle h.state }) clock'))
    (cycle_accepted h ∙ k.admitted_are)

pub made_pop : (o : Opening) (admitted : List Request) (calls : List Call) (s : channel_state.State) → IsMadeBy o admitted calls s → IsMadeBy o admitted (calls ++ Pop ∷ []) (after_pop s)
made_pop o admitted calls s k = called o admitted admitted calls s (after_pop s) Pop k tt tt (ap after_pop k.state) k.admitted_are

pub made_admit : (o : Opening) (admitted : List Request) (calls : List Call) (s : channel_state.State) (r : Request) → (is_queue_full s Read ≡ false) × (is_queue_full s Write ≡ false)
    → in_range o.config.geometry r.place ≡ true → IsMadeBy o admitted calls s → IsMadeBy o (admitted ++ r ∷ []) (calls ++ Admit r ∷ []) (after_admit r s)
made_admit o admitted calls s r free served k =
    let h = channel.run o.config o.cycle calls in
    let room : is_queue_full h.state r.echo.kind ≡ false = ap (λ (t : channel_state.State). is_queue_full t r.echo.kind) (sym k.state) ∙ free_kind s r.echo.kind free in
    called o admitted (admitted ++ r ∷ []) calls s (after_admit r s) (Admit r) k served tt
    (ap (after_admit r) k.state ∙ sym (other_state (is_queue_full h.state r.echo.kind) h _ room))
    (other_accepted (is_queue_full h.state r.echo.kind) h _ room ∙ ap (λ (rs : List Request). rs ++ r ∷ []) k.admitted_are)

pub made_none : (o : Opening) (admitted : List Request) (calls : List Call) (old new : channel_state.State) → new ≡ old → IsMadeBy o admitted calls old → IsMadeBy o admitted (calls ++ []) new
made_none o admitted calls old new same k = subst (λ (s : channel_state.State). IsMadeBy o admitted (calls ++ []) s) (sym same) (subst (λ (cs : List Call). IsMadeBy o admitted cs old) (sym (append-nil calls)) k)

-- of the channel of one number, if there is one
abbrev pub IsMadeAt : Opening → ℕ → List Request → List Call → List ChannelSide → Type 0
IsMadeAt o c admitted calls sides = (side : ChannelSide) → slice_get sides c ≡ Some side → IsMadeBy o admitted calls side.channel

pub none_at : (o : Opening) (c : ℕ) (admitted : List Request) (calls : List Call) (sides : List ChannelSide) → IsMadeAt o c admitted calls sides → IsMadeAt o c admitted (calls ++ []) sides
none_at o c admitted calls sides k side is = made_none o admitted calls side.channel side.channel refl (k side is)

-- where an event changes the channel of a number alone
pub changed_at : (o : Opening) (c t : ℕ) (admitted admitted' : List Request) (calls more : List Call) (sides : List ChannelSide) (old new : ChannelSide) (b : Bool) → eqb t c ≡ b → IsMadeAt o c admitted calls sides
    → slice_get sides t ≡ Some old → (t ≡ c → IsMadeBy o admitted calls old.channel → IsMadeBy o admitted' (calls ++ more) new.channel) → (b ≡ false → admitted' ≡ admitted)
    → IsMadeAt o c admitted' (calls ++ cond b more []) (set sides t new)
changed_at o c t admitted admitted' calls more sides old new true test k was here other side is =
    let same = eqb-true t c test in
    let there : slice_get (set sides t new) t ≡ Some new = slice_get-set_same sides t new (slice_get_within sides t old was) in
    let found : slice_get (set sides t new) t ≡ Some side = ap (slice_get (set sides t new)) same ∙ is in
    let it : new ≡ side = cc in
    subst (λ (x : ChannelSide). IsMadeBy o admitted' (calls ++ more) x.channel) it (here same (k old (ap (slice_get sides) (sym same) ∙ was)))
changed_at o c t admitted admitted' calls more sides old new false test k was here other side is =
    let apart = eqb-false t c test in
    let before : slice_get sides c ≡ Some side = sym (slice_get-set_other sides t c new (λ same. apart (sym same))) ∙ is in
    subst (λ (rs : List Request). IsMadeBy o rs (calls ++ []) side.channel) (sym (other refl)) (made_none o admitted calls side.channel side.channel refl (k side before))
