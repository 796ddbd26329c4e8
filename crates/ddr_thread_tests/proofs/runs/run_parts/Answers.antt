use Rattle.ddr_workers.specs.Port.{IsEndOfPort}
use Rattle.ddr_workers.specs.Worker.{IsEndOf}
use Rattle.ddr_thread_tests.proofs.RunLemmas.{held_of_part}
use Rattle.ddr_thread_tests.proofs.runs.run_parts.Goals as goal

pub returns-clause-first : goal.returns-clause-first
returns-clause-first g c = held_of_part c.all_ends.result c.run_threads-hosted.result.0.0 (λ ends. ends.0) (IsEndOfPort c.args.ports.0) c.all_ends.ensures.first c.run_threads-hosted.ensures.first

pub returns-clause-second : goal.returns-clause-second
returns-clause-second g c = held_of_part c.all_ends.result c.run_threads-hosted.result.0.1 (λ ends. ends.1) (IsEndOfPort c.args.ports.1) c.all_ends.ensures.second c.run_threads-hosted.ensures.second

pub returns-clause-first_work : goal.returns-clause-first_work
returns-clause-first_work g c = held_of_part c.all_ends.result c.run_threads-hosted.result.1.0 (λ ends. ends.2) (IsEndOf c.args.workers.0) c.all_ends.ensures.first_work c.run_threads-hosted.ensures.first_work

pub returns-clause-second_work : goal.returns-clause-second_work
returns-clause-second_work g c = held_of_part c.all_ends.result c.run_threads-hosted.result.1.1 (λ ends. ends.3) (IsEndOf c.args.workers.1) c.all_ends.ensures.second_work c.run_threads-hosted.ensures.second_work
