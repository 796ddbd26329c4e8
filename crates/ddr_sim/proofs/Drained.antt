-- A run that goes to its end leaves the core drained.
use Rattle.std.proofs.Common.{◌≡◌, ◌≢◌, ◌<◌, ◌≤◌, ℕ, zero, suc, Bool, true, false, not, cond, List, [], ◌∷◌, ◌++◌, Option, Some, None, Ok, Err, IfOk, All, length, drop, get_or, refl, sym, ap, subst, ◌∙◌, inl, inr, arith}
use Rattle.std.specs.Prelude.{◌==◌, ◌||◌, nat_le, unwrap_or}
use Rattle.std.specs.List.{slice_get, slice_set}
use Rattle.std.specs.Option.{option_map_or}
use Rattle.std.proofs.lemmas.Bool.{eqb-true, false≢true, lt-leb, ne_eqb}
use Rattle.std.proofs.lemmas.Bool.Decides.{eqb_tells}
use Rattle.std.proofs.lemmas.List.{get_or-set_other, get_or-set_same, length-set, set-set}
use Rattle.std.proofs.lemmas.List.Elements.{All-head, All-set, All-tail}
use Rattle.std.proofs.lemmas.List.Sums.{get_or-le-sum_by}
use Rattle.std.proofs.lemmas.Option.{get_or_from_slice_get, slice_get-get_or, slice_get_within, unwrap_or-slice_get}
use Rattle.ddr_timing.specs.declared.config.Config.{Config}
use Rattle.ddr_address_map.specs.Requests.{Request}
use Rattle.ddr_address_map.specs.declared.request.Kind.TheVariants.{Read, Write}
use Rattle.ddr_channel.proofs.ListLemmas.{All-at}
use Rattle.ddr_channel.specs.State.{is_queue_full}
use Rattle.ddr_world.specs.declared.event.Outcome.TheVariants as outcome
use Rattle.ddr_world.specs.declared.event.Refusal.TheVariants as refusal
use Rattle.ddr_world.specs.declared.item.Item.{Item}
use Rattle.ddr_world.specs.declared.item.Item.TheVariants as item
use Rattle.ddr_world.specs.Events.{Take, End}
use Rattle.ddr_world.specs.Promise.{IsIdle}
use Rattle.ddr_world.specs.State.{PortSide, ChannelSide, State, is_busy, IsDrained}
use Rattle.ddr_world.specs.Step.{Step, made, with_port, with_channel, at_channel, change_channel, queued, after_take, taken, after_end, end_at, step}
use Rattle.ddr_world.proofs.CoreKeeps.{replaced_at}
use Rattle.ddr_world.proofs.CorePromise.{core_keeps_promise}
use Rattle.ddr_rounds.specs.Rounds.{after, after_step, outstanding}
use Rattle.ddr_rounds.proofs.StepCounts.{slice_get-set}
use Rattle.ddr_text.specs.Script.{Instruction}
use Rattle.ddr_sim.specs.Rounds.{Run, Course, ◌then◌}
use Rattle.ddr_sim.specs.Runs.{all_followed, begun, channels_ended, ended, ports_ended, run_of, served_out, whole}
use Rattle.ddr_sim.proofs.Reached.{IsRequest, IsUnendedPort, IsReached, IsServedRun, ok_then, opening_of, run_reached}

-- the element of a place that is there
some_at : {X : Type 0} (xs : List X) (i : ℕ) → i < length xs → (x : X) × (slice_get xs i ≡ Some x)
some_at [] i within = absurd (omega (arith, within))
some_at (x ∷ xs) zero within = (x, refl)
some_at (x ∷ xs) (suc i) within = some_at xs i (omega (arith, within))

-- A core between the Ends of a run: nothing is outstanding or on the way, and each End that was pushed was taken.

record IsPortIdle (config : Config) (port : PortSide) : Type 0 where
  outstanding : length port.core.reorder.outstanding ≡ 0
  completions : port.completions ≡ []
  pushed_are : length port.pushed ≡ config.geometry.channels

record IsSideIdle (config : Config) (side : ChannelSide) : Type 0 where
  requests : side.requests ≡ []
  pending : side.channel.pending ≡ []
  flight : side.channel.flight ≡ []
  done : side.channel.done ≡ []
  noted_are : length side.noted ≡ config.limits.ports

record IsEnding (config : Config) (s : State) : Type 0 where
  ports_are : length s.ports ≡ config.limits.ports
  channels_are : length s.channels ≡ config.geometry.channels
  ports : All (IsPortIdle config) s.ports
  channels : All (IsSideIdle config) s.channels
  noted : (p c : ℕ) (port : PortSide) (side : ChannelSide) → slice_get s.ports p ≡ Some port → slice_get s.channels c ≡ Some side → get_or port.pushed c false ≡ true → get_or side.noted p false ≡ true

-- the port's End was pushed to the channel
abbrev IsPushed : State → ℕ → ℕ → Type 0
IsPushed s p c = (port : PortSide) → slice_get s.ports p ≡ Some port → get_or port.pushed c false ≡ true

-- where nothing is outstanding, and no End was pushed yet

emptied : (items : List Item) → All IsRequest items → ((i : ℕ) (r : Request) → slice_get items i ≢ Some (item.Request r)) → items ≡ []
emptied [] all none = refl
emptied (item.Request r ∷ items) all none = absurd (none 0 r refl)
emptied (item.End p ∷ items) all none = absurd (All-head IsRequest (item.End p) items all)

never : (xs : List Bool) (i : ℕ) → All (λ (b : Bool). b ≡ false) xs → get_or xs i false ≡ false
never [] zero all = refl
never [] (suc i) all = refl
never (x ∷ xs) zero all = All-head (λ (b : Bool). b ≡ false) x xs all
never (x ∷ xs) (suc i) all = never xs i (All-tail (λ (b : Bool). b ≡ false) x xs all)

begins_ending : (config : Config) (s : State) → IsReached config s → (outstanding s == 0) ≡ true → IsEnding config s
begins_ending config s r is =
    let zero_now : outstanding s ≡ 0 = eqb-true (outstanding s) 0 is in
    let none : All (λ (port : PortSide). length port.core.reorder.outstanding ≡ 0) s.ports = λ p d within. (
    let part = get_or-le-sum_by (λ (port : PortSide). length port.core.reorder.outstanding) s.ports p d within in
    omega (arith, zero_now, part)) in
    let promise = core_keeps_promise (opening_of config) r.events in
    let idle : IsIdle s = subst IsIdle r.is (promise.idle (subst (λ (t : State). All (λ (port : PortSide). length port.core.reorder.outstanding ≡ 0) t.ports) (sym r.is) none)) in
    record {
      ports_are = r.unended.ports_are;
      channels_are = r.unended.channels_are;
      ports = λ p d within. record { outstanding = none p d within; completions = idle.ports p d within; pushed_are = (r.unended.ports p d within).pushed_are };
      channels = λ c d within. (
          let side = idle.channels c d within in
          let still = r.unended.channels c d within in
          record {
            requests = emptied (get_or s.channels c d).requests still.requests side.requests;
            pending = side.pending;
            flight = side.flight;
            done = side.done;
            noted_are = still.noted_are;
          });
      noted = λ p c port side there found pushed. absurd (false≢true (sym (never port.pushed c (All-at (IsUnendedPort config) s.ports p port r.unended.ports there).pushed) ∙ pushed));
    }

-- an End, and the Take behind it

record IsEnded (config : Config) (s : State) (p c : ℕ) (t : State) : Type 0 where
  ending : IsEnding config t
  pushed : IsPushed t p c
  kept : (q d : ℕ) → IsPushed s q d → IsPushed t q d

abbrev take_items : State → ℕ → ChannelSide → List Item → Step
take_items s c side items =
    change_channel s c outcome.Taken (option_map_or (λ it. cond (is_queue_full side.channel Read || is_queue_full side.channel Write) (Err refusal.QueueFull) (Ok (after_take it side))) (slice_get items 0) (Err refusal.Nothing))

abbrev take_from : State → ℕ → Option ChannelSide → Step
take_from s c x = option_map_or (λ side. change_channel s c outcome.Taken (taken side)) x (Err refusal.NoSuch)

-- nothing is to be taken
take_nothing : (config : Config) (s : State) (c : ℕ) → IsEnding config s → after s (Take c) ≡ s
take_nothing config s c k = by_side (slice_get s.channels c) refl
  where
    by_side : (x : Option ChannelSide) → slice_get s.channels c ≡ x → after s (Take c) ≡ s
    by_side None there = ap (λ (x : Option ChannelSide). after_step s (take_from s c x)) there
    by_side (Some side) there =
        ap (λ (x : Option ChannelSide). after_step s (take_from s c x)) there
        ∙ ap (λ (items : List Item). after_step s (take_items s c side items)) (All-at (IsSideIdle config) s.channels c side k.channels there).requests

-- the End is refused, where there is no such port or it was pushed before
ends_nowhere : (config : Config) (s : State) (p c : ℕ) → IsEnding config s → IsPushed s p c → after s (End p c) ≡ s → IsEnded config s p c (after (after s (End p c)) (Take c))
ends_nowhere config s p c k pushed same =
    subst (IsEnded config s p c) (sym (ap (λ (t : State). after t (Take c)) same ∙ take_nothing config s c k)) (record { ending = k; pushed = pushed; kept = λ q d is. is })

abbrev end_of : State → ℕ → ℕ → Option PortSide → Step
end_of s p c x = option_map_or (λ port. at_channel s c (end_at s p c port)) x (Err refusal.NoSuch)

abbrev end_to : State → ℕ → ℕ → PortSide → Option ChannelSide → Step
end_to s p c port x = option_map_or (end_at s p c port) x (Err refusal.NoSuch)

-- by what is outstanding, whether it was pushed, and whether the queue is full
abbrev end_if : State → ℕ → ℕ → PortSide → ChannelSide → ℕ → Bool → Bool → Step
end_if s p c port side count pushed busy =
    cond (not (count == 0)) (Err refusal.NotEmpty)
    (cond pushed (Err refusal.Finished)
    (cond busy (Err (refusal.Busy c))
    (made (with_channel c (queued (item.End p) side) (with_port p (after_end c port) s)) outcome.Ended)))

end_step : (config : Config) (s : State) (p c : ℕ) (port : PortSide) (side : ChannelSide) (pushed : Bool) → IsEnding config s → slice_get s.ports p ≡ Some port → slice_get s.channels c ≡ Some side → get_or port.pushed c false ≡ pushed
    → step s (End p c) ≡ end_if s p c port side 0 pushed false
end_step config s p c port side pushed k there found is =
    let none = (All-at (IsPortIdle config) s.ports p port k.ports there).outstanding in
    let empty = (All-at (IsSideIdle config) s.channels c side k.channels found).requests in
    let free : is_busy side ≡ false = ne_eqb (length side.requests) side.channel.config.limits.intake (λ full. omega (arith, full, ap (λ (items : List Item). length items) empty, side.channel.config.limits.intake_range)) in
    let mark = unwrap_or (slice_get port.pushed c) false in
    ap (end_of s p c) there
    ∙ ap (end_to s p c port) found
    ∙ ap (λ n. end_if s p c port side n mark (is_busy side)) none
    ∙ ap (λ b. end_if s p c port side 0 b (is_busy side)) (unwrap_or-slice_get port.pushed c false ∙ is)
    ∙ ap (λ b. end_if s p c port side 0 pushed b) free

-- both queues of a channel in which nothing is pending have a free place

no_room_used : (limit : ℕ) → 1 ≤ limit → nat_le limit 0 ≡ false
no_room_used limit some = lt-leb limit 0 (omega (arith, some))

never_full : (side : ChannelSide) → side.channel.pending ≡ [] → (is_queue_full side.channel Read || is_queue_full side.channel Write) ≡ false
never_full side empty =
    let limits = side.channel.config.limits in
    ap (λ pending. is_queue_full (record side.channel { pending = pending }) Read || is_queue_full (record side.channel { pending = pending }) Write) empty
    ∙ ap (λ b. b || nat_le limits.writes 0) (no_room_used limits.reads limits.reads_range.0)
    ∙ no_room_used limits.writes limits.writes_range.0

-- the port and the channel once the End was pushed and taken
abbrev noted_side : ℕ → ChannelSide → ChannelSide
noted_side p side = after_take (item.End p) (queued (item.End p) side)

abbrev ended_state : State → ℕ → ℕ → PortSide → ChannelSide → State
ended_state s p c port side = record { ports = slice_set s.ports p (after_end c port); channels = slice_set s.channels c (noted_side p side) }

take_step : (s : State) (p c : ℕ) (side : ChannelSide) → slice_get s.channels c ≡ Some side → side.requests ≡ [] → side.channel.pending ≡ []
    → step (with_channel c (queued (item.End p) side) s) (Take c) ≡ made (with_channel c (noted_side p side) (with_channel c (queued (item.End p) side) s)) outcome.Taken
take_step s p c side was empty idle =
    let held = queued (item.End p) side in
    let now = with_channel c held s in
    ap (take_from now c) (slice_get-set s.channels c side held was)
    ∙ ap (λ (items : List Item). take_items now c held (items ++ item.End p ∷ [])) empty
    ∙ ap (λ b. change_channel now c outcome.Taken (cond b (Err refusal.QueueFull) (Ok (noted_side p side)))) (never_full side idle)

ended_is : (config : Config) (s : State) (p c : ℕ) (port : PortSide) (side : ChannelSide) → IsEnding config s → slice_get s.ports p ≡ Some port → slice_get s.channels c ≡ Some side → get_or port.pushed c false ≡ false
    → after (after s (End p c)) (Take c) ≡ ended_state s p c port side
ended_is config s p c port side k there found fresh =
    let held = queued (item.End p) side in
    let begun_at = with_port p (after_end c port) s in
    let pushed_at = with_channel c held begun_at in
    let idle = All-at (IsSideIdle config) s.channels c side k.channels found in
    ap (λ (r : Step). after (after_step s r) (Take c)) (end_step config s p c port side false k there found fresh)
    ∙ ap (after_step pushed_at) (take_step begun_at p c side found idle.requests idle.pending)
    ∙ ap (λ (sides : List ChannelSide). record begun_at { channels = sides }) (set-set s.channels c held (noted_side p side))

ended_noted : (config : Config) (s : State) (p c : ℕ) (port : PortSide) (side : ChannelSide) → IsEnding config s → slice_get s.ports p ≡ Some port → slice_get s.channels c ≡ Some side
    → (q d : ℕ) (x : PortSide) (y : ChannelSide) → slice_get (slice_set s.ports p (after_end c port)) q ≡ Some x → slice_get (slice_set s.channels c (noted_side p side)) d ≡ Some y → get_or x.pushed d false ≡ true → get_or y.noted q false ≡ true
ended_noted config s p c port side k there found q d x y at_port at_side pushed =
    let idle = All-at (IsSideIdle config) s.channels c side k.channels found in
    let inside : p < length side.noted = omega (arith, slice_get_within s.ports p port there, k.ports_are, idle.noted_are) in
    elim (replaced_at s.ports p q port (after_end c port) x there at_port) [
      | inl same ↦ elim (replaced_at s.channels c d side (noted_side p side) y found at_side) [
        | inl here ↦ ap (λ (z : ChannelSide). get_or z.noted q false) here.1 ∙ ap (λ n. get_or (slice_set side.noted p true) n false) same.0 ∙ get_or-set_same side.noted p true false inside
        | inr other ↦ k.noted q d port y (ap (slice_get s.ports) same.0 ∙ there) other.1 (sym (get_or-set_other port.pushed c d true false other.0) ∙ ap (λ (z : PortSide). get_or z.pushed d false) (sym same.1) ∙ pushed)
      ]
      | inr apart ↦ elim (replaced_at s.channels c d side (noted_side p side) y found at_side) [
        | inl here ↦ ap (λ (z : ChannelSide). get_or z.noted q false) here.1 ∙ get_or-set_other side.noted p q true false apart.0 ∙ k.noted q d x side apart.1 (ap (slice_get s.channels) here.0 ∙ found) pushed
        | inr other ↦ k.noted q d x y apart.1 other.1 pushed
      ]
    ]

ends_here : (config : Config) (s : State) (p c : ℕ) (port : PortSide) (side : ChannelSide) → IsEnding config s → slice_get s.ports p ≡ Some port → slice_get s.channels c ≡ Some side → IsEnded config s p c (ended_state s p c port side)
ends_here config s p c port side k there found =
    let was = All-at (IsPortIdle config) s.ports p port k.ports there in
    let idle = All-at (IsSideIdle config) s.channels c side k.channels found in
    let within : c < length port.pushed = omega (arith, slice_get_within s.channels c side found, k.channels_are, was.pushed_are) in
    record {
      ending = record {
        ports_are = length-set s.ports p (after_end c port) ∙ k.ports_are;
        channels_are = length-set s.channels c (noted_side p side) ∙ k.channels_are;
        ports = All-set (IsPortIdle config) s.ports p (after_end c port) (record { outstanding = was.outstanding; completions = was.completions; pushed_are = length-set port.pushed c true ∙ was.pushed_are }) k.ports;
        channels = All-set (IsSideIdle config) s.channels c (noted_side p side) (record {
          requests = ap (λ (items : List Item). drop 1 (items ++ item.End p ∷ [])) idle.requests;
          pending = idle.pending;
          flight = idle.flight;
          done = idle.done;
          noted_are = length-set side.noted p true ∙ idle.noted_are;
        }) k.channels;
        noted = ended_noted config s p c port side k there found;
      };
      pushed = λ x is. elim (replaced_at s.ports p p port (after_end c port) x there is) [
        | inl same ↦ ap (λ (z : PortSide). get_or z.pushed c false) same.1 ∙ get_or-set_same port.pushed c true false within
        | inr other ↦ absurd (other.0 refl)
      ];
      kept = λ q d before x is. elim (replaced_at s.ports p q port (after_end c port) x there is) [
        | inl same ↦ ap (λ (z : PortSide). get_or z.pushed d false) same.1 ∙ elim (eqb_tells d c) [
          | inl here ↦ ap (λ n. get_or (slice_set port.pushed c true) n false) here.1 ∙ get_or-set_same port.pushed c true false within
          | inr other ↦ get_or-set_other port.pushed c d true false other.1 ∙ before port (ap (slice_get s.ports) same.0 ∙ there)
        ]
        | inr other ↦ before x other.1
      ];
    }

ends_by : (config : Config) (s : State) (p c : ℕ) (port : PortSide) (side : ChannelSide) (pushed : Bool) → IsEnding config s → slice_get s.ports p ≡ Some port → slice_get s.channels c ≡ Some side → get_or port.pushed c false ≡ pushed
    → IsEnded config s p c (after (after s (End p c)) (Take c))
ends_by config s p c port side true k there found is =
    ends_nowhere config s p c k (λ x at. (let same : Some x ≡ Some port = sym at ∙ there in let one : x ≡ port = cc in ap (λ (z : PortSide). get_or z.pushed c false) one ∙ is))
    (ap (after_step s) (end_step config s p c port side true k there found is))
ends_by config s p c port side false k there found is = subst (IsEnded config s p c) (sym (ended_is config s p c port side k there found is)) (ends_here config s p c port side k there found)

ends : (config : Config) (s : State) (p c : ℕ) → IsEnding config s → c < config.geometry.channels → IsEnded config s p c (after (after s (End p c)) (Take c))
ends config s p c k within = by_port (slice_get s.ports p) refl
  where
    by_port : (x : Option PortSide) → slice_get s.ports p ≡ x → IsEnded config s p c (after (after s (End p c)) (Take c))
    by_port None there = ends_nowhere config s p c k (λ x at. absurd (let none = there in cc)) (ap (λ (x : Option PortSide). after_step s (end_of s p c x)) there)
    by_port (Some port) there =
        let found = some_at s.channels c (omega (arith, within, k.channels_are)) in
        ends_by config s p c port found.0 (get_or port.pushed c false) k there found.1 refl

-- the Ends of the ports to a channel, and those to each channel

ports_end : (config : Config) (c n : ℕ) (s : State) → IsEnding config s → c < config.geometry.channels
    → IsEnding config (ports_ended c n s) × ((q : ℕ) → q < n → IsPushed (ports_ended c n s) q c) × ((q d : ℕ) → IsPushed s q d → IsPushed (ports_ended c n s) q d)
ports_end config c zero s k within = (k, λ q below. absurd (omega (arith, below)), λ q d is. is)
ports_end config c (suc p) s k within =
    let before = ports_end config c p s k within in
    let one = ends config (ports_ended c p s) p c before.0 within in (
      one.ending,
      λ q below. elim (eqb_tells q p) [
        | inl same ↦ subst (λ n. IsPushed (ports_ended c (suc p) s) n c) (sym same.1) one.pushed
        | inr other ↦ one.kept q c (before.1 q (omega (arith, below, other.1)))
      ],
      λ q d is. one.kept q d (before.2 q d is),
    )

channels_end : (config : Config) (n : ℕ) (s : State) → IsEnding config s → n ≤ config.geometry.channels
    → IsEnding config (channels_ended config.limits.ports n s) × ((q d : ℕ) → q < config.limits.ports → d < n → IsPushed (channels_ended config.limits.ports n s) q d)
channels_end config zero s k within = (k, λ q d port below. absurd (omega (arith, below)))
channels_end config (suc c) s k within =
    let ports = config.limits.ports in
    let before = channels_end config c s k (omega (arith, within)) in
    let all = ports_end config c ports (channels_ended ports c s) before.0 within in (
      all.0,
      λ q d port below. elim (eqb_tells d c) [
        | inl same ↦ subst (λ n. IsPushed (channels_ended ports (suc c) s) q n) (sym same.1) (all.1 q port)
        | inr other ↦ all.2 q d (before.1 q d port (omega (arith, below, other.1)))
      ],
    )

-- then the core is drained

any_default : (xs : List Bool) (i : ℕ) (d : Bool) → i < length xs → get_or xs i false ≡ true → get_or xs i d ≡ true
any_default xs i d within is = get_or_from_slice_get xs i true d (slice_get-get_or xs i false within ∙ ap (λ (b : Bool). Some b) is)

all_drained : (config : Config) (s : State) → IsEnding config s → ((q d : ℕ) → q < config.limits.ports → d < config.geometry.channels → IsPushed s q d) → IsDrained s
all_drained config s k all = record {
  ports = λ p e within. (
      let port = get_or s.ports p e in
      let idle = k.ports p e within in
      record {
        outstanding = idle.outstanding;
        completions = idle.completions;
        pushed = λ c b below. any_default port.pushed c b below (all p c (omega (arith, within, k.ports_are)) (omega (arith, below, idle.pushed_are)) port (slice_get-get_or s.ports p e within));
      });
  channels = λ c e within. (
      let side = get_or s.channels c e in
      let idle = k.channels c e within in
      record {
        requests = idle.requests;
        pending = idle.pending;
        flight = idle.flight;
        done = idle.done;
        noted = λ p b below. (
            let port = some_at s.ports p (omega (arith, below, idle.noted_are, k.ports_are)) in
            any_default side.noted p b below
            (k.noted p c port.0 side port.1 (slice_get-get_or s.channels c e within) (all p c (omega (arith, below, idle.noted_are)) (omega (arith, within, k.channels_are)) port.0 port.1)));
      });
}

ended_drained : (config : Config) (run : Run) → IsServedRun config run → IsDrained (ended config run).state
ended_drained config run served =
    let last = channels_end config config.geometry.channels run.state (begins_ending config run.state served.0 served.1) (omega arith) in
    all_drained config (ended config run).state last.0 last.1

whole_drained : (config : Config) (instructions : List Instruction) → IfOk (whole config instructions (begun config)) (λ run. IsDrained run.state)
whole_drained config instructions =
    ok_then (IsServedRun config) (λ run. IsDrained run.state) (all_followed config instructions (begun config) then λ next. served_out config next.left next) (λ last. Ok (ended config last))
    (run_reached config instructions) (λ last served. ended_drained config last served)

pub run_drained : (config : Config) (instructions : List Instruction) (run : Run) → run_of config instructions ≡ Ok run → IsDrained run.state
unfolding run_of
run_drained config instructions run is = subst (λ (course : Course). IfOk course (λ last. IsDrained last.state)) is (whole_drained config instructions)
