-- What quiet cycles make of a state and of a channel's fields: the clock goes on, and the drain mode, and nothing else.
use Rattle.std.proofs.Common.{◌≡◌, ℕ, zero, suc, ◌+◌, ◌-◌, ◌<◌, ◌≤◌, Bool, true, false, not, cond, eqb, ltb, leb, map, replicate, List, [], ◌∷◌, ◌++◌, All, get_or, refl, sym, ap, subst, ◌∙◌, arith}
use Rattle.std.specs.List.{filter}
use Rattle.std.proofs.lemmas.Bool.Decides.{nat_tests}
use Rattle.std.proofs.lemmas.List.{append-nil, append_assoc}
use Rattle.ddr_timing.specs.declared.units.TheConstants.{CLOCK_STOP}
use Rattle.ddr_legality.specs.Bus.{Bus}
use Rattle.ddr_legality.specs.Bus as bus
use Rattle.ddr_legality.specs.Kept as legality
use Rattle.ddr_address_map.specs.declared.request.Kind.TheVariants.{Write}
use Rattle.ddr_address_map.specs.Requests.{Completion}
use Rattle.ddr_hazards.specs.PendingList.{pending_count}
use Rattle.ddr_refresh.specs.Refreshes.{Refreshes, after_ticks}
use Rattle.ddr_arbiter.specs.declared.choice.Choice.{Choice}
use Rattle.ddr_arbiter.specs.declared.choice.Choice.TheVariants as choice
use Rattle.ddr_arbiter.specs.declared.policy.Policy.{Policy}
use Rattle.ddr_arbiter.specs.Mode.{next_mode}
use Rattle.ddr_channel.specs.declared.channel.Channel.TheInside.{Inside}
use Rattle.ddr_channel.specs.Choice.{policy_of, rank_refreshes, refreshes_of}
use Rattle.ddr_channel.specs.Cycle.{at_choice, drained, issued, ticked, after_cycle}
use Rattle.ddr_channel.specs.History.{Call, Cycle, run}
use Rattle.ddr_channel.specs.Kept.{Kept, state_of}
use Rattle.ddr_channel.specs.Promise.{AreCalls, StandsFor}
use Rattle.ddr_channel.specs.Quiet.{IsIdleNext, IsQuiet, after_cycles, drain_after}
use Rattle.ddr_channel.specs.Sound.{IsSound}
use Rattle.ddr_channel.specs.State.{State}
use Rattle.ddr_channel.specs.View.{kept_of, IsWhole}
use Rattle.ddr_channel.proofs.SoundLemmas.{IsSound-after_cycle}
use Rattle.ddr_channel.proofs.StandsLemmas.{stands_after_cycle}

-- one quiet cycle

kept_by : {X : Type 0} (b : Bool) (x : X) (found others xs : List X) → cond b (x ∷ found) found ≡ [] → (found ≡ [] → others ≡ xs) → cond (not b) (x ∷ others) others ≡ x ∷ xs
kept_by true x found others xs none rest = cc
kept_by false x found others xs none rest = ap (λ ys. x ∷ ys) (rest none)

-- where a test finds nothing, all are others
all_others : {X : Type 0} (test : X → Bool) (xs : List X) → filter test xs ≡ [] → filter (λ x. not (test x)) xs ≡ xs
all_others test [] none = refl
all_others test (x ∷ xs) none = kept_by (test x) x (filter test xs) (filter (λ y. not (test y)) xs) xs none (all_others test xs)

-- after a quiet cycle
abbrev pub idled : State → State
idled s = record s { now = s.now + 1; drain = (drained s).drain }

pub cycle_idle : (s : State) → IsIdleNext s → after_cycle s ≡ idled s
cycle_idle s idle =
    let flight : filter (λ (d : Completion). not (eqb d.due s.now)) s.flight ≡ s.flight = all_others (λ (d : Completion). eqb d.due s.now) s.flight idle.completes in
    let done : s.done ++ filter (λ (d : Completion). eqb d.due s.now) s.flight ≡ s.done = ap (λ (ds : List Completion). s.done ++ ds) idle.completes ∙ append-nil s.done in
    let nothing : ticked (issued choice.Nothing (at_choice s)) ≡ idled s =
    λ i. record { config = s.config; start = s.start; now = s.now + 1; pending = s.pending; drain = (drained s).drain; flight = flight i; done = done i; trace = s.trace; cells = s.cells } in
    ap (λ (c : Choice). ticked (issued c (at_choice s))) idle.issues ∙ nothing

-- the drain mode

drains_on : (p : Policy) (writes : ℕ) (b : Bool) → p.low < p.high → ltb p.low writes ≡ b → next_mode p b writes ≡ b
drains_on p writes true apart is = is
drains_on p writes false apart is = grind (arith, nat_tests)

drains_from : (p : Policy) (writes : ℕ) (b : Bool) → p.low < p.high → leb p.high writes ≡ b → next_mode p b writes ≡ b
drains_from p writes true apart is = grind (arith, nat_tests)
drains_from p writes false apart is = is

-- with as many writes pending the mode stays, since the low mark lies below the high one
mode_stays : (p : Policy) (drain : Bool) (writes : ℕ) → p.low < p.high → next_mode p (next_mode p drain writes) writes ≡ next_mode p drain writes
mode_stays p true writes apart = drains_on p writes (ltb p.low writes) apart refl
mode_stays p false writes apart = drains_from p writes (leb p.high writes) apart refl

pub drain_stays : (s : State) → (drained (idled s)).drain ≡ (drained s).drain
drain_stays s = mode_stays (policy_of s.config) s.drain (pending_count Write s.pending) s.config.limits.marks_apart

drain_settled : (count : ℕ) (s : State) → drain_after count (idled s) ≡ (drained s).drain
drain_settled zero s = refl
drain_settled (suc count) s = drain_stays s

pub drain_later : (count : ℕ) (s : State) → (count ≡ 0 → ⊥) → (drained s).drain ≡ drain_after count s
drain_later zero s some = absurd (some refl)
drain_later (suc count) s some = refl

-- many quiet cycles

abbrev pub idled_for : ℕ → State → State
idled_for count s = record s { now = s.now + count; drain = drain_after count s }

pub cycles_idle : (count : ℕ) (s : State) → IsQuiet count s → after_cycles count s ≡ idled_for count s
cycles_idle zero s quiet = let same : s.now ≡ s.now + 0 = omega arith in ap (λ n. record s { now = n }) same
cycles_idle (suc count) s quiet =
    let step = cycle_idle s quiet.0 in
    let now : (s.now + 1) + count ≡ s.now + suc count = omega arith in
    let drain = drain_settled count s in
    let joined : idled_for count (idled s) ≡ idled_for (suc count) s = λ i. record s { now = now i; drain = drain i } in
    ap (after_cycles count) step ∙ cycles_idle count (idled s) (subst (IsQuiet count) step quiet.1) ∙ joined

pub cycles_clock : (count : ℕ) (s : State) → IsQuiet count s → s.now ≤ CLOCK_STOP → s.now + count ≤ CLOCK_STOP
cycles_clock zero s quiet clock = omega arith
cycles_clock (suc count) s quiet clock =
    let idle = quiet.0 in
    let rest = cycles_clock count (idled s) (subst (IsQuiet count) (cycle_idle s idle) quiet.1) (omega (arith, idle.clock)) in
    omega (arith, rest)

pub cycles_sound : (count : ℕ) (s : State) → IsSound s → IsSound (after_cycles count s)
cycles_sound zero s sound = sound
cycles_sound (suc count) s sound = cycles_sound count (after_cycle s) (IsSound-after_cycle s sound)

-- the calls

stands_same : (old new : Kept) (calls : List Call) → StandsFor old calls → state_of new ≡ state_of old → StandsFor new calls
stands_same old new calls stands is = record {
  calls_are = subst (λ (s : State). AreCalls s.config calls) (sym is) stands.calls_are;
  state = is ∙ stands.state ∙ ap (λ (s : State). (run s.config s.start calls).state) (sym is);
}

pub stands_passed : (count : ℕ) (old new : Kept) (calls : List Call) → StandsFor old calls → IsQuiet count (state_of old) → state_of new ≡ after_cycles count (state_of old) →
    StandsFor new (calls ++ replicate count Cycle)
stands_passed zero old new calls stands quiet is = subst (StandsFor new) (sym (append-nil calls)) (stands_same old new calls stands is)
stands_passed (suc count) old new calls stands quiet is =
    let s = state_of old in
    let idle = quiet.0 in
    let step = cycle_idle s idle in
    let next : Kept = record old { now = old.now + 1; drain = (drained s).drain } in
    let once = stands_after_cycle old next calls stands (λ spent. omega (arith, idle.clock, spent)) (sym step) in
    let more = stands_passed count next new (calls ++ Cycle ∷ []) once (subst (IsQuiet count) step quiet.1) (is ∙ ap (after_cycles count) step) in
    subst (StandsFor new) (append_assoc calls (Cycle ∷ []) (replicate count Cycle)) more

-- the fields

abbrev pub fields_passed : Inside → Bool → List Refreshes → legality.Kept → Inside
fields_passed a drain debts legality = record a { drain = drain; debts = debts; legality = legality }

pub state_idled : (a : Inside) (count : ℕ) (drain : Bool) (debts : List Refreshes) (legality : legality.Kept) → drain ≡ drain_after count (state_of (kept_of a)) → legality.bus ≡ bus.passed count a.legality.bus →
    state_of (kept_of (fields_passed a drain debts legality)) ≡ idled_for count (state_of (kept_of a))
state_idled a count drain debts legality drain_is on_bus =
    let s = state_of (kept_of a) in
    λ i. record s { start = (on_bus i).start; now = (on_bus i).now; trace = (on_bus i).trace; drain = drain_is i }

pub state_passed : (a : Inside) (count : ℕ) (drain : Bool) (debts : List Refreshes) (legality : legality.Kept) → IsQuiet count (state_of (kept_of a)) → drain ≡ drain_after count (state_of (kept_of a)) →
    legality.bus ≡ bus.passed count a.legality.bus → state_of (kept_of (fields_passed a drain debts legality)) ≡ after_cycles count (state_of (kept_of a))
state_passed a count drain debts legality quiet drain_is on_bus =
    state_idled a count drain debts legality drain_is on_bus ∙ sym (cycles_idle count (state_of (kept_of a)) quiet)

pub debts_passed : (count : ℕ) (s : State) → s.start ≤ s.now → map (after_ticks count) (refreshes_of s 2) ≡ refreshes_of (idled_for count s) 2
debts_passed count s begun =
    let later : (s.now - s.start) + count ≡ (s.now + count) - s.start = omega (arith, begun) in
    ap (λ n. record (rank_refreshes s 0) { ticks = n } ∷ record (rank_refreshes s 1) { ticks = n } ∷ []) later

-- no debt has counted so many cycles that these are too many
pub ticks_left : (a : Inside) (count : ℕ) → IsWhole a → IsQuiet count (state_of (kept_of a)) → All (λ (r : Refreshes). r.ticks + count ≤ CLOCK_STOP) a.debts
ticks_left a count whole quiet = subst (All (λ (r : Refreshes). r.ticks + count ≤ CLOCK_STOP)) (sym whole.debts) by_rank
  where
    by_rank : (k : ℕ) (r : Refreshes) → k < 2 → (get_or (refreshes_of (state_of (kept_of a)) 2) k r).ticks + count ≤ CLOCK_STOP
    by_rank zero r within = omega (arith, cycles_clock count (state_of (kept_of a)) quiet whole.clock)
    by_rank (suc zero) r within = omega (arith, cycles_clock count (state_of (kept_of a)) quiet whole.clock)
    by_rank (suc (suc k)) r within = absurd (omega (arith, within))
