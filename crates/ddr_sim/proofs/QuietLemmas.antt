-- In quiet rounds the core's cycles pass, and nothing else comes of them.
use Rattle.std.proofs.Common.{◌≡◌, ◌<◌, ◌≤◌, ◌-◌, ◌+◌, ℕ, zero, suc, Bool, false, cond, List, [], Option, Some, None, Ok, Err, IfOk, All, length, refl, sym, ap, ap₂, subst, ◌∙◌, arith}
use Rattle.std.specs.Prelude.{◌==◌}
use Rattle.std.specs.List.{slice_get}
use Rattle.std.proofs.lemmas.Bool.{ne_eqb}
use Rattle.std.proofs.lemmas.List.{length-map, map-id}
use Rattle.std.proofs.lemmas.List.Elements.{All-map}
use Rattle.ddr_channel.proofs.ListLemmas.{All-at}
use Rattle.ddr_timing.specs.declared.config.Config.{Config}
use Rattle.ddr_world.specs.Events.{Collect, Release}
use Rattle.ddr_world.specs.History.{front_of}
use Rattle.ddr_world.specs.Kept.{Kept, side_of, state_of}
use Rattle.ddr_world.specs.Quiet.{IsQuiet, IsQuietSide, passed, side_passed}
use Rattle.ddr_world.specs.State.{ChannelSide, State}
use Rattle.ddr_world.proofs.QuietLemmas.{fewer_of_side, first_all, side_quiet_on}
use Rattle.ddr_rounds.specs.Rounds.{channels_served, items_of, outstanding}
use Rattle.ddr_rounds.proofs.EventLemmas.{nothing_popped}
use Rattle.ddr_rounds.proofs.QuietLemmas.{channels_quiet, none_collected, passed_more}
use Rattle.ddr_text.specs.declared.fault.Fault.TheVariants as faults
use Rattle.ddr_sim.specs.Quiet.{AreQuiet, HasMade, quietly}
use Rattle.ddr_sim.specs.Rounds.{Run, Course, ◌then◌, port_served, ports_served, replied, round, round_closed, rounds, stopped}
use Rattle.ddr_sim.specs.Runs.{served_out}
use Rattle.ddr_sim.specs.Simulated.{Prints, Simulated, run_at}
use Rattle.ddr_sim.proofs.Courses.{none_replied}

-- a port's part of a quiet round

port_quiet : (p : ℕ) (run : Run) → All (λ port. port.completions ≡ []) run.state.ports → front_of run.state p ≡ None → port_served p run ≡ run
port_quiet p run none front =
    let none_here = none_collected (slice_get run.state.ports p) (λ port there. All-at (λ port. port.completions ≡ []) run.state.ports p port none there) in
    ap (λ (t : State). replied (items_of t (Release p)) p (record run { state = t })) (nothing_popped (Collect p) run.state none_here)
    ∙ none_replied (items_of run.state (Release p)) p run front

ports_quiet : (n : ℕ) (run : Run) → All (λ port. port.completions ≡ []) run.state.ports → ((p : ℕ) → p < n → front_of run.state p ≡ None) → ports_served n run ≡ run
ports_quiet zero run none fronts = refl
ports_quiet (suc p) run none fronts =
    ap (port_served p) (ports_quiet p run none (λ q below. fronts q (omega (arith, below)))) ∙ port_quiet p run none (fronts p (omega arith))

-- a quiet round
round_quiet : (config : Config) (count : ℕ) (run : Run) → AreQuiet config (suc count) run.state run.left → round config run ≡ Ok (quietly 1 run)
round_quiet config count run are =
    let s = run.state in
    let some = ne_eqb run.left 0 (λ e. omega (arith, e, are.most)) in
    let each = λ (c : ℕ) (side : ChannelSide) (there : slice_get s.channels c ≡ Some side). fewer_of_side 1 (suc count) side (omega arith) (All-at (IsQuietSide (suc count)) s.channels c side are.core.channels there) in
    ap (λ (b : Bool). cond b (stopped faults.ScriptLimit run) (round_closed config run (channels_served config.geometry.channels s))) some
    ∙ ap (λ n. round_closed config run (channels_served n s)) (sym are.channels)
    ∙ ap (round_closed config run) (channels_quiet (length s.channels) s (omega arith) each ∙ ap (λ (xs : List ChannelSide). Some (record s { channels = xs })) (first_all 1 s.channels))
    ∙ ap (λ (x : Run). Ok x) (ports_quiet config.limits.ports (quietly 1 run) are.core.ports are.fronts)

quiet_on : (config : Config) (count : ℕ) (s : State) (left : ℕ) → AreQuiet config (suc count) s left → AreQuiet config count (passed 1 s) (left - 1)
quiet_on config count s left are = record {
  channels = length-map s.channels (side_passed 1) ∙ are.channels;
  core = record {
    channels = All-map (IsQuietSide count) (side_passed 1) s.channels (λ k d within. side_quiet_on count _ (are.core.channels k d within));
    ports = are.core.ports;
  };
  fronts = are.fronts;
  most = omega (arith, are.most);
}

-- so many quiet rounds
pub rounds_quiet : (config : Config) (count : ℕ) (run : Run) → (0 < count → AreQuiet config count run.state run.left) → rounds config count run ≡ Ok (quietly count run)
rounds_quiet config zero run are =
    let none : run.left ≡ run.left - 0 = omega arith in
    ap₂ (λ (xs : List ChannelSide) (n : ℕ). Ok (record run { state = record run.state { channels = xs }; left = n })) (sym (map-id run.state.channels)) none
rounds_quiet config (suc count) run are =
    let here = are (omega arith) in
    let fewer : (run.left - 1) - count ≡ run.left - suc count = omega arith in
    ap (λ (course : Course). course then rounds config count) (round_quiet config count run here)
    ∙ rounds_quiet config count (quietly 1 run) (λ some. quiet_on config count run.state run.left here)
    ∙ ap₂ (λ (xs : List ChannelSide) (n : ℕ). Ok (record run { state = record run.state { channels = xs }; left = n })) (passed_more count run.state.channels) fewer

fewer_quiet : (config : Config) (fewer count : ℕ) (s : State) (left : ℕ) → fewer ≤ count → AreQuiet config count s left → AreQuiet config fewer s left
fewer_quiet config fewer count s left within are = record {
  channels = are.channels;
  core = record {
    channels = λ k d inside. fewer_of_side fewer count _ within (are.core.channels k d inside);
    ports = are.core.ports;
  };
  fronts = are.fronts;
  most = omega (arith, within, are.most);
}

-- as many numbers stay outstanding in them
pub quiet_waits : (config : Config) (count : ℕ) (old : Simulated) → AreQuiet config count (state_of old.world) old.left
    → (text : List ℕ) (k : ℕ) → k < count → IfOk (rounds config k (run_at old text)) (λ run. outstanding run.state ≡ outstanding (state_of old.world))
quiet_waits config count old are = λ text k below.
    subst (λ (course : Course). IfOk course (λ run. outstanding run.state ≡ outstanding (state_of old.world)))
    (sym (rounds_quiet config k (run_at old text) (λ some. fewer_quiet config k count (state_of old.world) old.left (omega (arith, below)) are))) refl

-- rounds behind rounds

behind : (config : Config) (n : ℕ) (g h : Run → Course) (course : Course) → ((run : Run) → course ≡ Ok run → g run ≡ (rounds config n run then h)) → (course then g) ≡ ((course then rounds config n) then h)
behind config n g h (Ok run) on = on run refl
behind config n g h (Err stop) on = refl

pub rounds_behind : (config : Config) (n m : ℕ) (run : Run) → rounds config (n + m) run ≡ (rounds config n run then rounds config m)
rounds_behind config zero m run =
    let none : 0 + m ≡ m = omega arith in
    ap (λ k. rounds config k run) none
rounds_behind config (suc n) m run =
    let more : suc n + m ≡ suc (n + m) = omega arith in
    ap (λ k. rounds config k run) more ∙ behind config n (rounds config (n + m)) (rounds config m) (round config run) (λ next is. rounds_behind config n m next)

pub served_out_behind : (config : Config) (n m : ℕ) (run : Run) → ((k : ℕ) → k < n → IfOk (rounds config k run) (λ next. (outstanding next.state == 0) ≡ false)) → served_out config (n + m) run ≡ (rounds config n run then served_out config m)
served_out_behind config zero m run busy =
    let none : 0 + m ≡ m = omega arith in
    ap (λ k. served_out config k run) none
served_out_behind config (suc n) m run busy =
    let more : suc n + m ≡ suc (n + m) = omega arith in
    ap (λ k. served_out config k run) more
    ∙ ap (λ (b : Bool). cond b (Ok run) (round config run then served_out config (n + m))) (busy 0 (omega arith))
    ∙ behind config n (served_out config (n + m)) (served_out config m) (round config run) (λ next is.
    served_out_behind config n m next (λ k below. subst (λ (course : Course). IfOk (course then rounds config k) (λ last. (outstanding last.state == 0) ≡ false)) is (busy (suc k) (omega (arith, below)))))

-- some of the rounds, and the others behind them

pub rounds_some : (config : Config) (n made : ℕ) (run : Run) → made ≤ n → rounds config n run ≡ (rounds config made run then rounds config (n - made))
rounds_some config n made run within =
    let all : n ≡ made + (n - made) = omega (arith, within) in
    ap (λ k. rounds config k run) all ∙ rounds_behind config made (n - made) run

waits_on : (course : Course) (s : State) → (outstanding s == 0) ≡ false → IfOk course (λ next. outstanding next.state ≡ outstanding s) → IfOk course (λ next. (outstanding next.state == 0) ≡ false)
waits_on (Ok next) s busy waits = ap (λ n. n == 0) waits ∙ busy
waits_on (Err stop) s busy waits = tt

pub served_out_some : (config : Config) (now : Simulated) (m made : ℕ) → now.left ≡ m + made → (outstanding (state_of now.world) == 0) ≡ false
    → ((text : List ℕ) (k : ℕ) → k < made → IfOk (rounds config k (run_at now text)) (λ run. outstanding run.state ≡ outstanding (state_of now.world)))
    → (text : List ℕ) → served_out config now.left (run_at now text) ≡ (rounds config made (run_at now text) then served_out config m)
served_out_some config now m made left busy waits text =
    let all : now.left ≡ made + m = omega (arith, left) in
    ap (λ k. served_out config k (run_at now text)) all
    ∙ served_out_behind config made m (run_at now text) (λ k below. waits_on (rounds config k (run_at now text)) (state_of now.world) busy (waits text k below))

-- the rounds for which the core is quiet, or fewer, are quiet
pub are_quiet : (config : Config) (count quiet : ℕ) (k : Kept) (left : ℕ) → k.config ≡ config → length k.channels ≡ k.config.geometry.channels → IsQuiet quiet (state_of k)
    → ((port : ℕ) → port < config.limits.ports → front_of (state_of k) port ≡ None) → 0 < count → count ≤ quiet → count ≤ left → AreQuiet config count (state_of k) left
are_quiet config count quiet k left same shape is fronts some within most =
    let all = is (omega (arith, some, within)) in
    record {
      channels = length-map k.channels side_of ∙ shape ∙ ap (λ (c : Config). c.geometry.channels) same;
      core = record { channels = λ i d inside. fewer_of_side count quiet _ within (all.channels i d inside); ports = all.ports };
      fronts = fronts;
      most = most;
    }

-- so many were made
pub quietly_made : (most count : ℕ) (old new : Simulated) (printed : Option (List ℕ)) → 0 < count → count ≤ most → AreQuiet old.config count (state_of old.world) old.left
    → state_of new.world ≡ passed count (state_of old.world) → new.left ≡ old.left - count → new.silent ≡ old.silent → HasMade most old printed new printed count
quietly_made most count old new printed some within are state left silent = record {
  some = some;
  within = within;
  leads = λ begin text before. (
    text,
    rounds_quiet old.config count (run_at old text) (λ _. are) ∙ ap₂ (λ (s : State) (n : ℕ). Ok (record { state = s; text = text; left = n })) (sym state) (sym left),
    subst (λ k. Prints k begin printed text) (sym silent) before,
  );
  left = omega (arith, left, are.most);
  waits = quiet_waits old.config count old are;
}
