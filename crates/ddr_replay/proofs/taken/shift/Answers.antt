-- As many requests of each port.
use Rattle.std.proofs.Common.{length, map, ap, ◌∙◌}
use Rattle.ddr_stream.specs.Stream.{Queues}
use Rattle.ddr_replay.proofs.TakenLemmas.{lengths_shifted}
use Rattle.ddr_replay.proofs.taken.shift.Goals as goal

pub put-requires : goal.put-requires
put-requires c =
    ap (λ (qs : Queues). map length qs) c.in_ok-queues.ensures ∙ lengths_shifted c.first_of-first.result c.queues-2.result.now ∙ ap (λ (qs : Queues). map length qs) c.queues-2.ensures
