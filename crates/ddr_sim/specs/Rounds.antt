-- A round of a run: the parts of a round of the core, what is printed in it, and how many may still be made.
use Rattle.std.specs.Prelude.{ℕ, ◌-◌, ◌==◌, suc, zero, if◌then◌else◌, List, ◌++◌, Option, Some, None, Result, Ok, Err}
use Rattle.std.specs.Option.{option_map_or}
use Rattle.ddr_timing.specs.declared.config.Config.{Config}
use Rattle.ddr_world.specs.Events.{Collect, Release}
use Rattle.ddr_world.specs.History.{front_of}
use Rattle.ddr_world.specs.State.{State}
use Rattle.ddr_rounds.specs.Rounds.{after, channels_served, items_of, until_refused}
use Rattle.ddr_text.specs.declared.fault.Fault.{Fault}
use Rattle.ddr_text.specs.declared.fault.Fault.TheVariants.{ClockSpent, ScriptLimit}
use Rattle.ddr_text.specs.Replies.{reply_text}

-- what a run has come to: the core's state, what was printed, and how many rounds may still be made
pub record Run : Type 0 where
  pub state : State
  pub text : List ℕ
  pub left : ℕ

-- what ended a run before its end, and what was printed before
pub record Stopped : Type 0 where
  pub fault : Fault
  pub text : List ℕ

-- a run that goes on, or was stopped
abbrev pub Course : Type 0
Course = Result Run Stopped

abbrev pub stopped : Fault → Run → Course
stopped fault run = Err (record { fault = fault; text = run.text })

infixl 10 ◌then◌
abbrev pub ◌then◌ : Course → (Run → Course) → Course
Ok run then next = next run
Err stop then next = Err stop

-- each reply in front of a port is printed and released, so many at most
abbrev pub replied : ℕ → ℕ → Run → Run
replied zero p run = run
replied (suc n) p run =
    option_map_or (λ a. replied n p (record run { state = after run.state (Release p); text = run.text ++ reply_text p a }))
    (front_of run.state p) run

-- a port's part of a round: Collect until it is refused, then its replies
abbrev pub port_served : ℕ → Run → Run
port_served p run =
    let collected = record run { state = until_refused (Collect p) run.state } in
    replied (items_of collected.state (Release p)) p collected

-- the first so many ports, in order
abbrev pub ports_served : ℕ → Run → Run
ports_served zero run = run
ports_served (suc p) run = port_served p (ports_served p run)

-- the ports' part of a round, once the channels' is made
abbrev pub round_closed : Config → Run → Option State → Course
round_closed config run None = stopped ClockSpent run
round_closed config run (Some s) = Ok (ports_served config.limits.ports (record run { state = s; left = run.left - 1 }))

-- a round: each channel's part, then each port's
abbrev pub round : Config → Run → Course
round config run =
    if run.left == 0 then stopped ScriptLimit run
    else round_closed config run (channels_served config.geometry.channels run.state)

-- so many rounds
abbrev pub rounds : Config → ℕ → Run → Course
rounds config zero run = Ok run
rounds config (suc n) run = round config run then rounds config n
