-- What a call finds in its slot, and what it leaves there.
use Rattle.std.specs.Prelude.{◌≡◌, ◌⊎◌, ℕ, ℤ, ◌<◌, ◌≤◌, List, Option, Some, None, Result, Ok, Err, if◌then◌else◌}
use Rattle.std.specs.Option.{option_map}
use Rattle.ddr_timing.specs.declared.config.Config.{Config}
use Rattle.ddr_timing.specs.declared.units.TheConstants.{CLOCK_STOP}
use Rattle.ddr_trace.specs.declared.command.Entry.{Entry}
use Rattle.ddr_trace.specs.Rules.{ends_late}
use Rattle.ddr_watch.specs.declared.told.Told.{Told}
use Rattle.ddr_watch.specs.Kept.{HasCounted, count_of}
use Rattle.ddr_watch.specs.Told.{IsTold, counted_with}
use Rattle.ddr_bus.specs.declared.bus.BusCommand.{BusCommand}
use Rattle.ddr_judge_c.specs.declared.codes.TheConstants as code
use Rattle.ddr_judge_c.specs.declared.fault.Fault.{Fault}
use Rattle.ddr_judge_c.specs.declared.judge.Judge.{Judge}
use Rattle.ddr_judge_c.specs.declared.slot.Slot.{Slot}
use Rattle.ddr_judge_c.specs.Bus.{entry_of}
use Rattle.ddr_judge_c.specs.Faults.{fault_of}

-- the judge that a slot holds, if it is open
abbrev pub judge_in : Slot → Option Judge
judge_in slot = slot.handle.holds

-- a closed slot stays so, and an open one stays open, with this between the judge before and the one after
abbrev pub Calls : Option Judge → Option Judge → Type 0 → (Judge → Judge → Type 0) → Type 0
Calls None None closed called = closed
Calls (Some before) (Some after) closed called = called before after
Calls _ _ closed called = ⊥

-- nothing was done, and C was told this code
abbrev pub IsRefused : ℤ → Fault → Fault → ℤ → Judge → Judge → Type 0
IsRefused cause old new told before after = (told ≡ cause) × (new ≡ old) × (after ≡ before)

-- the code of a command's verdict, and what is written of it
abbrev pub verdict_code : Option Told → ℤ
verdict_code None = code.OK
verdict_code (Some t) = code.ILLEGAL

abbrev pub fault_shown : Config → Entry → Option Told → Fault → Fault
fault_shown c e None old = old
fault_shown c e (Some t) old = fault_of c.timing e t

-- The command was judged behind those of the channel that count, and C was told the lowest rule that it breaks, and what that rests on.
pub record Judges (e : Entry) (old new : Fault) (told : ℤ) (before after : Judge) : Type 0 where
  pub early : e.cycle < CLOCK_STOP
  pub verdict : Option Told
  pub right : (c : Config) (start : ℕ) (history : List Entry) → HasCounted before.watch c start history → IsTold c start history e verdict
  pub counted : (c : Config) (start : ℕ) (history : List Entry) → HasCounted before.watch c start history → HasCounted after.watch c start (counted_with c history e)
  pub code_is : told ≡ verdict_code verdict
  pub shown : new ≡ fault_shown before.watch.config e verdict old
  pub last : option_map (λ b. b.told) after.last ≡ verdict
  pub config : after.watch.config ≡ before.watch.config
  pub start_is : after.watch.start ≡ before.watch.start

-- or it was none of the rules', or of a cycle at which a clock has stopped, or as many count as a judge takes
abbrev pub IsAnswered : Result Entry ℤ → Fault → Fault → ℤ → Judge → Judge → Type 0
IsAnswered (Err cause) old new told before after = IsRefused cause old new told before after
IsAnswered (Ok e) old new told before after =
    (IsRefused code.CLOCK_SPENT old new told before after × (CLOCK_STOP ≤ e.cycle))
    ⊎ (IsRefused code.SPENT old new told before after × (CLOCK_STOP ≤ count_of before.watch))
    ⊎ Judges e old new told before after

abbrev pub IsCommand : BusCommand → Fault → Fault → ℤ → Judge → Judge → Type 0
IsCommand b old new told before after = IsAnswered (entry_of b) old new told before after

-- whether a trace that ends there ends late, of whatever commands that the judge stands for
abbrev pub IsEnded : ℕ → ℤ → Judge → Type 0
IsEnded end told judge =
    (c : Config) (start : ℕ) (history : List Entry) → HasCounted judge.watch c start history
    → told ≡ (if ends_late c start end history then code.ILLEGAL else code.OK)
