use Rattle.std.proofs.Common.{rules, ◌≡◌, false, replicate, length, None, refl}
use Rattle.std.specs.Vec.{vec_len}
use Rattle.ddr_workers.specs.Worker.{WorkerState}
use Rattle.ddr_workers.proofs.WorkerLemmas.{whole_opened}
use Rattle.ddr_workers.proofs.worker.Worker.open.Goals as goal

pub invariant_of-result : goal.invariant_of-result
invariant_of-result c =
    let w : WorkerState = record {
      id = c.args.id;
      number = c.args.number;
      channel = c.in_ok-open.field-0;
      requests = c.args.requests;
      completions = c.args.completions.items;
      held = None;
      noted = c.in_ok-noted.noted.items;
    } in
    let count : vec_len c.args.completions ≡ length c.args.completions.items = search (rules, c.args.completions.ok) in
    let noted : c.in_ok-noted.noted.items ≡ replicate (length c.args.completions.items) false =
    search (rules, c.in_ok-noted.ensures.items, c.in_ok-noted.ensures.items_if_clones_equal, c.len.ensures, count) in
    whole_opened w c.args.config.now c.in_ok-open.ensures.config c.in_ok-open.ensures.stands c.requires.route c.requires.ports c.requires.took c.requires.sides refl noted
