-- What is done first is the right answer to the next owner.
use Rattle.std.proofs.Common.{◌+◌, ltb, sym, ap, ap₂, ◌∙◌}
use Rattle.std.specs.List.{slice_get}
use Rattle.circular_buffer.specs.Buffer.{Buffer}
use Rattle.ddr_address_map.specs.Requests.{Completion}
use Rattle.ddr_channel.specs.Kept.{Kept, state_of}
use Rattle.ddr_channel.specs.State.{after_pop}
use Rattle.ddr_channel.specs.View.{kept_of}
use Rattle.ddr_channel.proofs.SleepLemmas.{still_taken, whole_popped}
use Rattle.ddr_channel.proofs.StandsLemmas.{next_answer, stands_popped}
use Rattle.ddr_channel.proofs.channel.Channel.pop_done.Goals as goal

pub invariant_of-self-2 : goal.invariant_of-self-2
invariant_of-self-2 c =
    let a = c.self.inside in
    let room = a.config.limits.done in
    whole_popped a c.pop_front.new.self c.still_with-self-inside.result c.self.invariant c.pop_front.ensures.items
    (still_taken (ltb (c.len.result + c.len-2.result) room) a.still_until c.still_with-self-inside.result (state_of (kept_of a))
    (ap₂ (λ m n. ltb (m + n) room) c.len.ensures.len c.len-2.ensures.len) c.still_with-self-inside.ensures c.self.invariant.still)

pub returns-clause-right : goal.returns-clause-right
returns-clause-right c = λ calls stands.
    next_answer c.args.self.now calls c.in_ok-taken.taken stands (ap (λ (k : Kept). slice_get k.done 0) (sym c.self.view_is) ∙ sym c.in_ok-taken.ensures.value)

pub returns-clause-stands : goal.returns-clause-stands
returns-clause-stands c = λ calls stands.
    let k = kept_of c.self.inside in
    let rest = ap (λ (b : Buffer Completion). state_of (record k { done = b.items })) c.pop_front.ensures.items in
    stands_popped c.args.self.now (record k { done = c.pop_front.new.self.items }) calls stands (rest ∙ ap (λ (j : Kept). after_pop (state_of j)) c.self.view_is)

pub returns-in_err-taken-clause-stands : goal.returns-in_err-taken-clause-stands
returns-in_err-taken-clause-stands c = λ calls stands.
    let k = kept_of c.self.inside in
    let rest = ap (λ (b : Buffer Completion). state_of (record k { done = b.items })) c.pop_front.ensures.items in
    stands_popped c.args.self.now (record k { done = c.pop_front.new.self.items }) calls stands (rest ∙ ap (λ (j : Kept). after_pop (state_of j)) c.self.view_is)
