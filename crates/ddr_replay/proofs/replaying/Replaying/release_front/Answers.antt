-- A reply in front of a port is released, since it is there, and told of; one request fewer is outstanding.
use Rattle.std.proofs.Common.{◌≡◌, ◌+◌, List, Some, ap, arith, sym, subst, ◌∙◌}
use Rattle.ddr_reorder.specs.Replies.{lent_service, said}
use Rattle.ddr_world.specs.Events.{Release}
use Rattle.ddr_world.specs.Kept.{state_of}
use Rattle.ddr_world.specs.Served.{front_service}
use Rattle.ddr_rounds.specs.Rounds.{items_of}
use Rattle.ddr_rounds.proofs.EventLemmas.{front_answered, front_fewer}
use Rattle.ddr_replay.specs.declared.books.Books.{Books}
use Rattle.ddr_ledger.specs.declared.released.ReleasedRequest.{ReleasedRequest}
use Rattle.ddr_replay.specs.Runs.{released_by}
use Rattle.ddr_replay.specs.Told.{IsKept, channel_of, wanted_of}
use Rattle.ddr_replay.specs.View.{Replay, Tells, replay_of, run_of}
use Rattle.ddr_replay.proofs.BooksLemmas.{noting_heard, release_kept}
use Rattle.ddr_replay.proofs.ReleaseLemmas.{front_taken, one_fewer}
use Rattle.ddr_replay.proofs.ToldLemmas.{tells_released}
use Rattle.ddr_counting.proofs.NotingLemmas.{noted_heard}
use Rattle.ddr_replay.proofs.replaying.Replaying.release_front.Goals as goal

pub overflow_add-self : goal.overflow_add-self
overflow_add-self c =
    let fewer = one_fewer c.self.inside.world c.release.new.world c.args.port c.release.result (said c.in-Some.reply) (sym c.in-Some.ensures.front) c.release.ensures.answer in
    let sized = c.self.invariant.sized in
    omega (arith, c.self.invariant.counted, fewer, sized.counted, sized.few)

pub invariant_of-self-2 : goal.invariant_of-self-2
invariant_of-self-2 c =
    let a = c.self.inside in
    let teller = c.note_release.new.teller in
    let books : Books = record a.books { ledger = c.note_release.new.ledger } in
    let same : c.release.new.watcher ≡ books = c.release.ensures.told ∙ release_kept books c.args.port c.release.result in
    let fewer = one_fewer a.world c.release.new.world c.args.port c.release.result (said c.in-Some.reply) (sym c.in-Some.ensures.front) c.release.ensures.answer in
    record {
      config = c.release.ensures.answer.config ∙ c.self.invariant.config;
      unkept = c.release.ensures.answer.keeps ∙ c.self.invariant.unkept;
      stream = c.self.invariant.stream;
      sized = c.self.invariant.sized;
      counted = omega (arith, c.self.invariant.counted, fewer);
      noted = noted_heard a.config (state_of a.world) (state_of c.release.new.world) a.books.noting c.release.new.watcher.noting c.self.invariant.noted (noting_heard books c.release.new.watcher (state_of a.world) (state_of c.release.new.world) c.release.ensures.heard);
      watched = ap (λ (b : Books). b.watched) same ∙ c.self.invariant.watched ∙ ap channel_of (sym c.note_release.ensures.wanted);
      kept = subst (λ (xs : List ReleasedRequest). IsKept teller.tale xs) (sym (ap (λ (b : Books). b.ledger.served) same)) (c.note_release.ensures.kept c.self.invariant.kept);
    }

pub returns-clause-released : goal.returns-clause-released
returns-clause-released c =
    let p = c.args.port in
    let a = c.self.inside in
    let v = lent_service c.in-Some.reply in
    let books : Books = record a.books { ledger = c.note_release.new.ledger } in
    let same : c.release.new.watcher ≡ books = c.release.ensures.told ∙ release_kept books p c.release.result in (
      v,
      subst (λ (s : Replay). front_service (state_of s.world) p ≡ Some v) c.self.view_is (sym c.in-Some.ensures.service),
      front_taken p (replay_of a) c.release.new.world v c.release.result (said c.in-Some.reply) _ (sym c.in-Some.ensures.front) c.release.ensures.answer (ap (λ (b : Books). b.ledger) same ∙ c.in_ok-note_release.ensures.ledger)
          ∙ ap (λ (s : Replay). released_by p (run_of s) v) c.self.view_is,
    )

pub returns-clause-fewer : goal.returns-clause-fewer
returns-clause-fewer c = λ _.
    let p = c.args.port in
    let before = c.self.inside.world in
    let after = c.release.new.world in
    let answered = front_answered before after p c.release.result (said c.in-Some.reply) (sym c.in-Some.ensures.front) c.release.ensures.answer in
    subst (λ (s : Replay). items_of (state_of s.world) (Release p) ≡ items_of (state_of after) (Release p) + 1) c.self.view_is
    (front_fewer (state_of before) (state_of after) p answered.0 answered.1)

pub returns-clause-told : goal.returns-clause-told
returns-clause-told c =
    let a = c.self.inside in
    let teller = c.note_release.new.teller in
    let books : Books = record a.books { ledger = c.note_release.new.ledger } in
    let same : c.release.new.watcher ≡ books = c.release.ensures.told ∙ release_kept books c.args.port c.release.result in
    let new : Replay = record (replay_of a) { world = c.release.new.world; ledger = c.release.new.watcher.ledger; wanted = wanted_of teller.tale; text = teller.text.items } in
    subst (λ (r : Replay). Tells r new) c.self.view_is
    (tells_released (replay_of a) new c.note_release.new.ledger.served c.args.port c.release.result c.note_release.ensures.wanted (ap (λ (b : Books). b.ledger.served) same) c.release.ensures.answer c.in_ok-note_release.ensures.told)
