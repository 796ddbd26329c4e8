use Rattle.std.proofs.Common.{rules, sym, ap, ◌∙◌, arith}
use Rattle.crossbeam_queue.specs.Passes.{view}
use Rattle.ddr_workers.specs.Law.{with_all_taken}
use Rattle.ddr_workers.proofs.JoinLemmas.{with_all_taken-nil, learns_left, fits_left, learns_left_now, pops_left, room_left, falls, is_left}
use Rattle.ddr_workers.proofs.lane.joining.take_left.Goals as goal

pub len_as-requires-clause-rule : goal.len_as-requires-clause-rule
len_as-requires-clause-rule g c = learns_left g.K.Carries.source g.K.Carries.proper _ _ c.requires.whole

pub loop-item-init : goal.loop-item-init
loop-item-init g c = record {
  queue = search rules;
  capacity = c.requires.room;
  knows = c.len_as.ensures.queue.1 ∙ with_all_taken-nil _ ∙ ap (with_all_taken (view c.args.pass.now)) (sym c.requires.spare);
  fits = fits_left g.K.Carries.source g.K.Carries.proper _ _ _ c.requires.whole c.len_as.ensures.rule.0 c.len_as.ensures.rule.1;
}

pub pop_as-requires-clause-rule : goal.pop_as-requires-clause-rule
pop_as-requires-clause-rule g c =
    (pops_left g.K.Carries.source g.K.Carries.proper _ _ _ c.requires.whole c.loop-item.invariant.knows _, learns_left_now g.K.Carries.source g.K.Carries.proper _ _ _ c.requires.whole c.loop-item.invariant.knows _)

pub push_reserved-requires : goal.push_reserved-requires
push_reserved-requires g c =
    let room = room_left g.K.Carries.source g.K.Carries.proper _ _ _ c.requires.whole c.loop-item.invariant.knows _ _ c.in-Some.ensures.rule.1.1 in
    omega (arith, room, c.loop-item.invariant.fits, c.loop-item.invariant.capacity)

pub loop-item-smaller : goal.loop-item-smaller
loop-item-smaller g c = falls g.K.Carries.source g.K.Carries.proper _ _ _ c.requires.whole c.loop-item.invariant.knows _ _ _ c.in-Some.ensures.rule.1.1 c.in-Some.ensures.rule.0

pub returns : goal.returns
returns g c = is_left g.K.Carries.source g.K.Carries.proper _ _ _ c.loop-item.invariant.knows c.in_default.ensures.rule.1
