-- What a part of a run prints comes behind what was printed before.
use Rattle.std.proofs.Common.{◌≡◌, ◌+◌, ℕ, zero, suc, Bool, true, false, cond, List, [], ◌∷◌, ◌++◌, Option, Some, None, Ok, Err, refl, sym, ap, subst, ◌∙◌, append-nil, append_assoc, arith}
use Rattle.std.specs.Prelude.{◌==◌, ◌-◌}
use Rattle.std.specs.Option.{option_map_or}
use Rattle.ddr_ports.specs.Asked.{Asked}
use Rattle.ddr_reorder.specs.Replies.{Answer}
use Rattle.ddr_timing.specs.declared.config.Config.{Config}
use Rattle.ddr_world.specs.Events.{Submit, Collect, Release}
use Rattle.ddr_world.specs.History.{front_of}
use Rattle.ddr_world.specs.State.{State}
use Rattle.ddr_world.specs.Step.{Step, step}
use Rattle.ddr_rounds.specs.Rounds.{after, channels_served, items_of, outstanding, until_refused}
use Rattle.ddr_text.specs.declared.fault.Fault.TheVariants as faults
use Rattle.ddr_text.specs.Replies.{reply_text}
use Rattle.ddr_sim.specs.Refusals.{refused_text}
use Rattle.ddr_sim.specs.Rounds.{Run, Course, ◌then◌, port_served, ports_served, replied, round, round_closed, rounds, stopped}
use Rattle.ddr_sim.specs.Runs.{after_submit, all_followed, served_out, ended, followed, submitted}
use Rattle.ddr_text.specs.Script.{Instruction, Ask, Rounds}
use Rattle.ddr_sim.specs.Simulated.{BeginsWith, printed_in}

-- whatever was printed before, this part prints more behind it
abbrev pub Grows : (Run → Course) → Type 0
Grows part = (run : Run) → BeginsWith (printed_in (part run)) run.text

pub begins_same : (xs : List ℕ) → BeginsWith xs xs
begins_same xs = ([], sym (append-nil xs))

pub begins_on : (xs ys zs : List ℕ) → BeginsWith ys xs → BeginsWith zs ys → BeginsWith zs xs
begins_on xs ys zs p q = (p.0 ++ q.0, q.1 ∙ ap (λ t. t ++ q.0) p.1 ∙ append_assoc xs p.0 q.0)

pub begins_part : (xs ys : List ℕ) → BeginsWith (xs ++ ys) xs
begins_part xs ys = (ys, refl)

more_then : (course : Course) (g : Run → Course) → Grows g → BeginsWith (printed_in (course then g)) (printed_in course)
more_then (Ok run) g grows = grows run
more_then (Err stop) g grows = begins_same stop.text

pub begins_then : (course : Course) (g : Run → Course) (front : List ℕ) → Grows g → BeginsWith (printed_in course) front → BeginsWith (printed_in (course then g)) front
begins_then course g front grows p = begins_on front (printed_in course) (printed_in (course then g)) p (more_then course g grows)

pub grows_then : (f g : Run → Course) → Grows f → Grows g → Grows (λ run. f run then g)
grows_then f g p q run = begins_then (f run) g run.text q (p run)

either_grows : (b : Bool) (x y : Course) (front : List ℕ) → BeginsWith (printed_in x) front → BeginsWith (printed_in y) front → BeginsWith (printed_in (cond b x y)) front
either_grows true x y front p q = p
either_grows false x y front p q = q

-- replies

maybe_replied : (o : Option Answer) (f : Answer → Run) (run : Run) → ((a : Answer) → BeginsWith (f a).text run.text) → BeginsWith (option_map_or f o run).text run.text
maybe_replied None f run more = begins_same run.text
maybe_replied (Some a) f run more = more a

pub replied_grows : (n p : ℕ) (run : Run) → BeginsWith (replied n p run).text run.text
replied_grows zero p run = begins_same run.text
replied_grows (suc n) p run = maybe_replied (front_of run.state p) (λ a. replied n p (record run { state = after run.state (Release p); text = run.text ++ reply_text p a })) run (λ a.
    let next : Run = record run { state = after run.state (Release p); text = run.text ++ reply_text p a } in
    begins_on run.text next.text (replied n p next).text (begins_part run.text (reply_text p a)) (replied_grows n p next))

pub port_grows : (p : ℕ) (run : Run) → BeginsWith (port_served p run).text run.text
port_grows p run =
    let collected : Run = record run { state = until_refused (Collect p) run.state } in
    replied_grows (items_of collected.state (Release p)) p collected

pub ports_grow : (n : ℕ) (run : Run) → BeginsWith (ports_served n run).text run.text
ports_grow zero run = begins_same run.text
ports_grow (suc p) run = begins_on run.text (ports_served p run).text (ports_served (suc p) run).text (ports_grow p run) (port_grows p (ports_served p run))

-- more ports print more
pub ports_more : (i k : ℕ) (run : Run) → BeginsWith (ports_served (k + i) run).text (ports_served i run).text
ports_more i zero run =
    let none : 0 + i ≡ i = omega arith in
    subst (λ n. BeginsWith (ports_served n run).text (ports_served i run).text) (sym none) (begins_same (ports_served i run).text)
ports_more i (suc k) run =
    let one : suc k + i ≡ suc (k + i) = omega arith in
    subst (λ n. BeginsWith (ports_served n run).text (ports_served i run).text) (sym one)
    (begins_on (ports_served i run).text (ports_served (k + i) run).text (ports_served (suc (k + i)) run).text (ports_more i k run) (port_grows (k + i) (ports_served (k + i) run)))

-- rounds

closed_grows : (config : Config) (run : Run) (o : Option State) → BeginsWith (printed_in (round_closed config run o)) run.text
closed_grows config run None = begins_same run.text
closed_grows config run (Some s) = ports_grow config.limits.ports (record run { state = s; left = run.left - 1 })

pub round_grows : (config : Config) → Grows (round config)
round_grows config run =
    either_grows (run.left == 0) (stopped faults.ScriptLimit run) (round_closed config run (channels_served config.geometry.channels run.state)) run.text
    (begins_same run.text) (closed_grows config run (channels_served config.geometry.channels run.state))

pub rounds_grow : (config : Config) (n : ℕ) → Grows (rounds config n)
rounds_grow config zero run = begins_same run.text
rounds_grow config (suc n) run = grows_then (round config) (rounds config n) (round_grows config) (rounds_grow config n) run

pub served_out_grows : (config : Config) (n : ℕ) → Grows (served_out config n)
served_out_grows config zero run = either_grows (outstanding run.state == 0) (Ok run) (stopped faults.ScriptLimit run) run.text (begins_same run.text) (begins_same run.text)
served_out_grows config (suc n) run =
    either_grows (outstanding run.state == 0) (Ok run) (round config run then served_out config n) run.text (begins_same run.text)
    (grows_then (round config) (served_out config n) (round_grows config) (served_out_grows config n) run)

-- instructions

submit_grows : (p : ℕ) (run : Run) (r : Step) → BeginsWith (after_submit p run r).text run.text
submit_grows p run (Ok m) = begins_same run.text
submit_grows p run (Err cause) = begins_part run.text (refused_text p cause)

pub submitted_grows : (p : ℕ) (asked : Asked) → Grows (λ run. Ok (submitted p asked run))
submitted_grows p asked run = submit_grows p run (step run.state (Submit p asked))

pub followed_grows : (config : Config) (instruction : Instruction) → Grows (followed config instruction)
followed_grows config (Ask p asked) run = submitted_grows p asked run
followed_grows config (Rounds n) run = rounds_grow config n run

pub all_followed_grow : (config : Config) (instructions : List Instruction) → Grows (all_followed config instructions)
all_followed_grow config [] run = begins_same run.text
all_followed_grow config (instruction ∷ more) run = grows_then (followed config instruction) (all_followed config more) (followed_grows config instruction) (all_followed_grow config more) run

pub ended_grows : (config : Config) → Grows (λ run. Ok (ended config run))
ended_grows config run = begins_same run.text
