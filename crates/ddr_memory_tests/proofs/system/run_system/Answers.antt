use Rattle.std.proofs.Common.{◌∷◌, []}
use Rattle.ddr_system_samples.proofs.OneOpen.{ends_of_two}
use Rattle.ddr_memory_tests.proofs.system.run_system.Goals as goal

pub returns-in-Ok : goal.returns-in-Ok
returns-in-Ok g c =
    let config = c.args.config.now in
    let first = c.in_ok-first.first in
    let second = c.in_ok-first.second in
    let one = c.in_ok-first.first_worker in
    let two = c.in_ok-first.second_worker in
    let opened = c.in_ok-first.ensures in
    let ends = c.in-Ok.all.0 in
    let each = c.in-Ok.ensures in
    c.ends_of_one_open.ensures config 0 7 (first ∷ second ∷ []) (one ∷ two ∷ []) (ends.0 ∷ ends.1 ∷ []) (ends.2 ∷ ends.3 ∷ []) opened
    (ends_of_two config 7 first second one two opened ends.0 ends.1 ends.2 ends.3 each.first each.second each.first_work each.second_work)
