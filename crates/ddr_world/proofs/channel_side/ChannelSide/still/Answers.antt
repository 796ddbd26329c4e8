-- Nothing waits in the queue or to be delivered.
use Rattle.std.proofs.Common.{length, sym, subst, ◌∙◌}
use Rattle.std.proofs.lemmas.Bool.{eqb-true}
use Rattle.std.proofs.lemmas.List.{nil_from_length}
use Rattle.ddr_world.specs.Kept.{KeptSide, side_of}
use Rattle.ddr_world.specs.Quiet.{IsQuietSide}
use Rattle.ddr_world.proofs.QuietLemmas.{none_first}
use Rattle.ddr_world.proofs.channel_side.ChannelSide.still.Goals as goal

pub returns : goal.returns
returns c = λ some.
    let a = c.self.inside in
    subst (λ (side : KeptSide). IsQuietSide c.still.result (side_of side)) c.self.view_is (record {
      channel = c.still.ensures;
      requests = nil_from_length a.requests.items (eqb-true (length a.requests.items) 0 (sym c.is_empty.ensures ∙ c.if-not-is_empty.false));
      done = none_first (λ x. x.now) c.next_done.result a.channel.done (sym c.is_some.ensures ∙ c.if-is_some.false) c.next_done.ensures.first;
    })
