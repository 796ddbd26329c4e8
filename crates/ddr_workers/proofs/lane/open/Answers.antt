use Rattle.std.proofs.Common.{rules, sym, ap, ◌∙◌, ◌≡◌, length}
use Rattle.ddr_workers.specs.Sides.{queue_id, new_put}
use Rattle.ddr_workers.specs.Law.{another}
use Rattle.ddr_workers.proofs.LawLemmas.{makes_at}
use Rattle.ddr_workers.proofs.StepLemmas.{new_put_at, are_opened}
use Rattle.ddr_workers.proofs.SideLemmas.{each_pushed}
use Rattle.ddr_workers.proofs.lane.open.Goals as goal

pub another-requires-clause-rule : goal.another-requires-clause-rule
another-requires-clause-rule g c = makes_at g.K.Carries.source g.K.Carries.proper _ _ _ c.loop-source-test.true c.loop-source.invariant.knows

pub loop-source-preserved : goal.loop-source-preserved
loop-source-preserved g c =
    let was = c.loop-source.invariant in
    let capacity = c.args.capacity in
    let purpose = c.in_ok-lane.lane.value.purpose in
    let count = c.args.count in
    let copy = c.in_ok-try_clone.field-0.value in
    let same_table : c.another.result.table_id ≡ c.another.new.pass.table_id = search rules in
    let same_capacity : copy.queue.cap ≡ capacity = search rules in
    let same_purpose : copy.purpose ≡ purpose = search rules in
    let same_source : c.loop-source.source ≡ length c.loop-source.puts.items = search rules in
    record {
      queue = search rules;
      capacity = search rules;
      purpose = search rules;
      knows = search rules;
      made = search rules;
      room = search rules;
      sides = λ p s e. each_pushed (λ k y. y ≡ new_put (queue_id c.another.new.pass.table_id capacity count purpose) k) _ _
          (λ k y h. was.sides k y h ∙ ap (λ t. new_put (queue_id t capacity count purpose) k) (sym c.another.ensures.queue.0.0))
          (new_put_at _ _ _ _ _ _ _ _ _ c.loop-source.source copy.purpose (c.another.ensures.rule.1 ∙ ap another was.knows) same_table same_capacity same_purpose same_source) p s
          (rw c.push_reserved.ensures.items at e);
    }

pub returns : goal.returns
returns g c =
    let was = c.loop-source.invariant in
    let all : c.loop-source.source ≡ c.args.count = search rules in
    let made : length c.loop-source.puts.items ≡ c.loop-source.source = search rules in
    are_opened _ _ _ _ _ _ _ _ _ was.knows was.capacity was.purpose all made was.sides
