-- The code and the head are those of what became of the reply.
use Rattle.std.proofs.Common.{◌≡◌, Bool, ℕ, w32, rules, ap, ◌∙◌}
use Rattle.std.specs.Option.{is_some}
use Rattle.std.specs.List.{slice_get}
use Rattle.std.proofs.lemmas.Int.{to_z-of_z}
use Rattle.ddr_world.specs.Told.{counts_of}
use Rattle.ddr_c.specs.Calls.{head_after, reply_code}
use Rattle.ddr_c.proofs.ReplyLemmas.{some_of_map}
use Rattle.ddr_c.proofs.show.Goals as goal

pub returns : goal.returns
returns c =
    let next = c.served-next.result in
    let known : c.is_some-known.result ≡ is_some (slice_get c.args.core.now.world.ports c.args.port) =
    c.is_some-known.ensures ∙ ap is_some c.counts.ensures ∙ some_of_map counts_of (slice_get c.args.core.now.world.ports c.args.port) in
    record {
      next = next;
      done = c.served-next.ensures.seen;
      code = to_z-of_z w32 c.hand_over.result (search rules) ∙ c.hand_over.ensures.code ∙ ap (λ (b : Bool). reply_code b next) known;
      head = c.hand_over.ensures.head ∙ ap (λ (n : ℕ). head_after next n c.args.head.now) c.clock-clock.ensures;
      right = c.served-next.ensures.right;
    }
