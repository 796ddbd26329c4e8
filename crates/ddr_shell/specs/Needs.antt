-- Which commands need the scheduler.
use Rattle.std.specs.Prelude.{Bool, true, false}
use Rattle.ddr_words.specs.declared.command.Job.{Job}
use Rattle.ddr_words.specs.declared.command.Job.TheVariants as job

-- the command runs a script or a stream
abbrev pub needs_scheduler : Job → Bool
needs_scheduler (job.Sim sample trace) = true
needs_scheduler (job.Run sample) = true
needs_scheduler (job.Replay sample reading from_first fair told progress) = true
needs_scheduler (job.Measure sample reading from_first fair skip clock every progress) = true
needs_scheduler _ = false
