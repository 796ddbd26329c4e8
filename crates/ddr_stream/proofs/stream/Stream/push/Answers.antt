use Rattle.std.proofs.Common.{◌≡◌, List, sym, ap, subst, ◌∙◌, set}
use Rattle.std.proofs.lemmas.List.{set-get_or}
use Rattle.ddr_stream.specs.declared.ask.Ask.{Ask}
use Rattle.ddr_stream.specs.Stream.{Queues}
use Rattle.ddr_stream.specs.View.{waiting_of}
use Rattle.ddr_stream.specs.Waiting.{IsSized}
use Rattle.ddr_stream.proofs.NextLemmas.{on_err}
use Rattle.ddr_stream.proofs.stream.Stream.push.Goals as goal

pub invariant_of-self : goal.invariant_of-self
invariant_of-self c =
    let a = c.self.inside in
    let whole = c.self.invariant in
    let same : set a.queues.items c.args.placed.port c.push.new.self ≡ a.queues.items =
    ap (λ (x : List Ask). set a.queues.items c.args.placed.port x) (c.in_err-push.ensures.kept ∙ c.index_mut.ensures.value) ∙ set-get_or a.queues.items c.args.placed.port c.index_mut.result.now in
    record {
      well = whole.well;
      geometry = whole.geometry;
      few = whole.few;
      each = whole.each;
      sized = subst (λ (queues : Queues). IsSized (record (waiting_of a) { queues = queues })) (sym same) whole.sized;
    }

pub returns-in_err-push-clause-sized : goal.returns-in_err-push-clause-sized
returns-in_err-push-clause-sized c =
    let a = c.self.inside in
    let same : set a.queues.items c.args.placed.port c.push.new.self ≡ a.queues.items =
    ap (λ (x : List Ask). set a.queues.items c.args.placed.port x) (c.in_err-push.ensures.kept ∙ c.index_mut.ensures.value) ∙ set-get_or a.queues.items c.args.placed.port c.index_mut.result.now in
    subst (λ (queues : Queues). IsSized (record (waiting_of a) { queues = queues })) (sym same) c.self.invariant.sized

pub returns-in_err-push-clause-kept : goal.returns-in_err-push-clause-kept
returns-in_err-push-clause-kept c =
    let a = c.self.inside in
    let same : set a.queues.items c.args.placed.port c.push.new.self ≡ a.queues.items =
    ap (λ (x : List Ask). set a.queues.items c.args.placed.port x) (c.in_err-push.ensures.kept ∙ c.index_mut.ensures.value) ∙ set-get_or a.queues.items c.args.placed.port c.index_mut.result.now in
    on_err c.from_residual.result (ap (λ (queues : Queues). record (waiting_of a) { queues = queues }) same ∙ c.self.view_is)
