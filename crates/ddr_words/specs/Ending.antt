-- What ends the program before its command is done.
use Rattle.std.specs.Prelude.{◌≡◌, ◌≢◌, ℕ, ◌⊎◌}
use Rattle.clap.specs.Words.{kind_of}
use Rattle.clap.specs.declared.error.Error.{Error}
use Rattle.clap.specs.declared.error.kind.ErrorKind.TheVariants as kinds
use Rattle.ddr_text.specs.declared.fault.Fault.TheVariants as faults
use Rattle.ddr_words.specs.declared.job.JobError.{JobError}
use Rattle.ddr_words.specs.declared.job.JobError.TheVariants as errors
use Rattle.ddr_words.specs.declared.ending.Ending.{Ending}
use Rattle.ddr_words.specs.declared.ending.Ending.TheVariants as endings
use Rattle.ddr_text.specs.Fault as fault

-- 2 where the words of the command line are at fault
abbrev pub status_of : Ending → ℕ
status_of endings.NotText = 2
status_of (endings.Words error) = 2
status_of (endings.Misuse misuse) = 2
status_of (endings.Fault f) = fault.status_of f

-- want of memory is a fault, another error of `clap` is one of the words
abbrev pub IsEndingByWords : Error → Ending → Type 0
IsEndingByWords error ending =
    ((kind_of error ≡ kinds.OutOfMemory) × (ending ≡ endings.Fault faults.OutOfMemory))
    ⊎ ((kind_of error ≢ kinds.OutOfMemory) × (ending ≡ endings.Words error))

-- words that state no job end the program by their error, or by the option that would have no effect
abbrev pub IsEndingBy : JobError → Ending → Type 0
IsEndingBy (errors.Words error) ending = IsEndingByWords error ending
IsEndingBy (errors.Misuse misuse) ending = ending ≡ endings.Misuse misuse
