-- No command was issued, and no reply released.
use Rattle.std.proofs.Common.{◌≡◌, ℕ, ap, sym, subst, rules, ◌∙◌}
use Rattle.ddr_counting.proofs.NotingLemmas.{noted_heard}
use Rattle.ddr_rounds.proofs.TraceLemmas.{passed_still}
use Rattle.ddr_world.specs.Kept.{Kept, state_of}
use Rattle.ddr_world.specs.Promise.{trace_at}
use Rattle.ddr_world.specs.Quiet.{IsQuietFor, passed}
use Rattle.ddr_world.specs.State.{State}
use Rattle.ddr_replay.specs.declared.books.Books.{Books}
use Rattle.ddr_replay.specs.View.{Replay, replay_of}
use Rattle.ddr_replay.proofs.BooksLemmas.{noting_heard}
use Rattle.ddr_replay.proofs.ToldLemmas.{tells_same}
use Rattle.ddr_replay.proofs.replaying.Replaying.pass.Goals as goal

pub invariant_of-self : goal.invariant_of-self
invariant_of-self c =
    let a = c.self.inside in
    let noted = noted_heard a.config (state_of a.world) (state_of c.pass.new.world) a.books.noting c.pass.new.watcher.noting c.self.invariant.noted (noting_heard a.books c.pass.new.watcher (state_of a.world) (state_of c.pass.new.world) c.pass.ensures.heard) in
    search (rules, noted)

pub returns-clause-told : goal.returns-clause-told
returns-clause-told c =
    let old = c.args.self.now in
    let a = c.self.inside in
    let fill = c.fill_all.ensures.rest in
    let act = c.act_all.ensures.rest in
    let before = c.self.view_is in
    let behind = c.self-2.view_is in
    let world_is : a.world ≡ old.world = ap (λ (r : Replay). r.world) before ∙ fill.world in
    let quiet = subst (λ (k : Kept). IsQuietFor c.args.count (state_of k)) (sym world_is) c.requires.quiet.core in
    let still : (d : ℕ) → trace_at (state_of c.pass.new.world) d ≡ trace_at (state_of old.world) d = λ d.
    ap (λ (s : State). trace_at s d) c.pass.ensures.state ∙ ap (λ n. trace_at (passed n (state_of a.world)) d) c.from-2.ensures ∙ passed_still c.args.count d (state_of a.world) (λ some. quiet) ∙ ap (λ (k : Kept). trace_at (state_of k) d) world_is in
    tells_same old (replay_of c.self-2.inside)
    (ap (λ (r : Replay). r.wanted) behind ∙ act.wanted ∙ ap (λ (r : Replay). r.wanted) before ∙ fill.wanted)
    (ap (λ (r : Replay). r.text) behind ∙ act.text ∙ ap (λ (r : Replay). r.text) before ∙ fill.text)
    (ap (λ (r : Replay). r.ledger.served) behind ∙ act.served ∙ ap (λ (b : Books). b.ledger.served) c.pass.ensures.told ∙ ap (λ (r : Replay). r.ledger.served) before ∙ fill.served)
    (λ d. ap (λ (r : Replay). trace_at (state_of r.world) d) behind ∙ ap (λ (k : Kept). trace_at (state_of k) d) act.world ∙ still d)
