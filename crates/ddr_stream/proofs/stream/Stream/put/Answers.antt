use Rattle.std.proofs.Common.{ap, length, map, sym, ◌∙◌}
use Rattle.ddr_stream.proofs.NextLemmas.{put_sized}
use Rattle.ddr_stream.specs.Waiting.{Waiting}
use Rattle.ddr_stream.specs.View.{waiting_of}
use Rattle.ddr_stream.proofs.stream.Stream.put.Goals as goal

pub invariant_of-self : goal.invariant_of-self
invariant_of-self c =
    let whole = c.self.invariant in
    record {
      well = whole.well;
      geometry = whole.geometry;
      few = whole.few;
      each = whole.each;
      sized = put_sized (waiting_of c.self.inside) c.args.queues.items whole.sized (c.requires ∙ ap (λ (w : Waiting). map length w.queues) (sym c.self.view_is));
    }

pub returns-clause-sized : goal.returns-clause-sized
returns-clause-sized c = put_sized (waiting_of c.self.inside) c.args.queues.items c.self.invariant.sized (c.requires ∙ ap (λ (w : Waiting). map length w.queues) (sym c.self.view_is))
