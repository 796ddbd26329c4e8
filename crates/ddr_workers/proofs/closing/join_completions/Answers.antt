use Rattle.std.proofs.Common.{rules, ◌≡◌, ◌+◌, ◌<◌, length, drop, arith, sym, ◌∙◌, subst}
use Rattle.ddr_workers.specs.Joined.{IsWindowJoined}
use Rattle.ddr_workers.specs.Lanes.{lists}
use Rattle.ddr_workers.proofs.GatherLemmas.{all_joined, taken_off}
use Rattle.ddr_workers.proofs.closing.join_completions.Goals as goal

pub join-requires : goal.join-requires
join-requires g c =
    let l = c.loop in
    let some : 0 < length l.takes.items = omega (arith, l.invariant.left, c.loop-test.true) in
    let next = taken_off IsWindowJoined (lists c.args.puts.items) c.args.takes.items l.counter l.puts.items l.takes.items c.remove.result c.remove-in-loop.result
    l.invariant.puts l.invariant.takes l.invariant.beside some c.remove.ensures.value c.remove-in-loop.ensures.value in
    c.requires.sides l.counter c.remove.result.items c.remove-in-loop.result next.row_there next.y_there

pub loop-preserved : goal.loop-preserved
loop-preserved g c =
    let l = c.loop in
    let some : 0 < length l.takes.items = omega (arith, l.invariant.left, c.loop-test.true) in
    let next = taken_off IsWindowJoined (lists c.args.puts.items) c.args.takes.items l.counter l.puts.items l.takes.items c.remove.result c.remove-in-loop.result
    l.invariant.puts l.invariant.takes l.invariant.beside some c.remove.ensures.value c.remove-in-loop.ensures.value in
    record {
      puts = subst (λ rows. lists rows ≡ drop (l.counter + 1) (lists c.args.puts.items)) (sym c.remove.ensures.items) next.rows_left;
      takes = c.remove-in-loop.ensures.items ∙ next.ys_left;
      left = search rules;
      beside = search rules;
      joined = next.joined l.invariant.joined (record { left = c.join.result.items; told = c.join.ensures });
    }

pub returns : goal.returns
returns g c = all_joined IsWindowJoined (lists c.args.puts.items) c.args.takes.items c.loop.counter (search rules) c.loop.invariant.joined
