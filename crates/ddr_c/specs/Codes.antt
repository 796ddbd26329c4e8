-- The codes of answers.
use Rattle.std.specs.Prelude.{ℤ, ℕ, Result, Ok, Err}
use Rattle.ddr_world.specs.declared.event.Outcome.{Outcome}
use Rattle.ddr_world.specs.declared.event.Outcome.TheVariants.{Accepted}
use Rattle.ddr_world.specs.declared.event.Refusal.{Refusal}
use Rattle.ddr_world.specs.declared.event.Refusal.TheVariants as refusal
use Rattle.ddr_c.specs.declared.codes.TheConstants as code

-- of a refusal
abbrev pub code_of : Refusal → ℤ
code_of refusal.Finished = code.FINISHED
code_of refusal.OutOfRange = code.OUT_OF_RANGE
code_of refusal.EmptyLength = code.EMPTY_LENGTH
code_of refusal.CrossesLine = code.CROSSES_LINE
code_of refusal.Spent = code.SPENT
code_of refusal.WindowFull = code.WINDOW_FULL
code_of (refusal.Busy channel) = code.BUSY
code_of refusal.Nothing = code.NOTHING
code_of refusal.QueueFull = code.QUEUE_FULL
code_of refusal.ClockSpent = code.CLOCK_SPENT
code_of refusal.OutOfMemory = code.NO_MEMORY
code_of refusal.NotEmpty = code.NOT_EMPTY
code_of refusal.NoSuch = code.NO_SUCH

-- of what an event came to
abbrev pub answer_code : Result Outcome Refusal → ℤ
answer_code (Ok o) = code.OK
answer_code (Err cause) = code_of cause

-- the number that is told: that of an accepted request, else the one that was there
abbrev pub number_told : Result Outcome Refusal → ℕ → ℕ
number_told (Ok (Accepted number)) before = number
number_told _ before = before
