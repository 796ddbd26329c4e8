-- The four things that a cycle makes of the oldest request, and how soon a REF comes.
use Rattle.ddr_deadline.proofs.PromptLemmas.{refresh_soon}
use Rattle.ddr_deadline.proofs.StepLemmas.{step_run}
use Rattle.ddr_deadline.proofs.step.oldest_takes_a_step.Goals as goal

pub returns : goal.returns
returns c = record { step = step_run; soon = refresh_soon }
