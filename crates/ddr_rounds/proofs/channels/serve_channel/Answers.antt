-- The record goes on by what was taken, by the cycle, and by what was delivered; a cycle that is refused leaves the state in front of it.
use Rattle.std.proofs.Common.{List, fold, refl, ap, ◌∙◌}
use Rattle.std.proofs.lemmas.Result.{err_from_is_err_and}
use Rattle.ddr_world.specs.Events.{Cycle, Take}
use Rattle.ddr_world.specs.declared.event.Outcome.TheVariants.{Cycled}
use Rattle.ddr_world.specs.Kept.{state_of}
use Rattle.ddr_world.specs.Promise.{trace_at}
use Rattle.ddr_world.specs.State.{State}
use Rattle.ddr_world.specs.Told.{cycle_answer}
use Rattle.ddr_rounds.specs.declared.told.Told.{Told}
use Rattle.ddr_rounds.specs.Rounds.{outstanding}
use Rattle.ddr_rounds.proofs.ContinueLemmas.{continues_by, continues_then}
use Rattle.ddr_rounds.proofs.PartLemmas.{channel_alike, cycle_refused, served_by, stopped_by}
use Rattle.ddr_rounds.proofs.TraceLemmas.{channel_heard, channel_told_by, heard_nothing, popped_still}
use Rattle.ddr_rounds.proofs.channels.serve_channel.Goals as goal

pub returns-in_err-issued-clause-stopped : goal.returns-in_err-issued-clause-stopped
returns-in_err-issued-clause-stopped g c =
    let p = err_from_is_err_and c.from_residual.result c.from_residual.ensures.1 in
    rw (p.1, p.2) (stopped_by (state_of c.args.world.now) (state_of c.repeat.new.world) c.args.channel c.in_err-issued.field-0.0 c.repeat.ensures.state c.in_err-issued.ensures.answer.refused)

pub returns-in_err-issued-clause-refused : goal.returns-in_err-issued-clause-refused
returns-in_err-issued-clause-refused g c =
    let p = err_from_is_err_and c.from_residual.result c.from_residual.ensures.1 in
    rw (p.1, p.2) (cycle_refused c.repeat.new.world c.cycle.new.self (state_of c.args.world.now) c.args.channel c.in_err-issued.field-0.0 c.repeat.ensures.state c.in_err-issued.ensures.answer)

pub returns-in_err-issued-clause-outstanding : goal.returns-in_err-issued-clause-outstanding
returns-in_err-issued-clause-outstanding g c = ap (λ (s : State). outstanding s) c.in_err-issued.ensures.answer.err ∙ c.repeat.ensures.outstanding

pub returns-in_err-issued-clause-heard : goal.returns-in_err-issued-clause-heard
returns-in_err-issued-clause-heard g c =
    let start = state_of c.args.world.now in
    heard_nothing g.W.Watcher.hears c.args.watcher.now start (state_of c.cycle.new.self) (λ d. ap (λ (s : State). trace_at s d) (c.in_err-issued.ensures.answer.err ∙ c.repeat.ensures.state) ∙ popped_still d (Take c.args.channel) start refl)

pub returns-in_err-issued-clause-continues : goal.returns-in_err-issued-clause-continues
returns-in_err-issued-clause-continues g c =
    let popped = c.repeat.new.world in
    let cycled = c.cycle.new.self in
    continues_then c.args.world.now popped cycled c.repeat.ensures.continues (continues_by popped cycled (Cycle c.args.channel) (cycle_answer c.cycle.result) c.cycle.ensures.stands)

pub returns-clause-served : goal.returns-clause-served
returns-clause-served g c =
    served_by (state_of c.args.world.now) (state_of c.repeat.new.world) (state_of c.cycle.new.self) (state_of c.repeat-2.new.world) c.args.channel Cycled c.repeat.ensures.state c.in_ok-issued.ensures.answer.ok c.repeat-2.ensures.state

pub returns-clause-told : goal.returns-clause-told
returns-clause-told g c =
    c.tell.ensures ∙ ap (λ (told : List Told). fold g.W.Watcher.hears c.args.watcher.now told) (channel_told_by c.args.channel (state_of c.args.world.now) c.repeat.new.world c.cycle.new.self c.in_ok-issued.issued c.repeat.ensures.state c.in_ok-issued.ensures.told)

pub returns-clause-heard : goal.returns-clause-heard
returns-clause-heard g c =
    channel_heard g.W.Watcher.hears c.args.channel (state_of c.args.world.now) (state_of c.repeat-2.new.world) c.args.watcher.now c.tell.new.watcher
    (served_by (state_of c.args.world.now) (state_of c.repeat.new.world) (state_of c.cycle.new.self) (state_of c.repeat-2.new.world) c.args.channel Cycled c.repeat.ensures.state c.in_ok-issued.ensures.answer.ok c.repeat-2.ensures.state)
    (c.tell.ensures ∙ ap (λ (told : List Told). fold g.W.Watcher.hears c.args.watcher.now told) (channel_told_by c.args.channel (state_of c.args.world.now) c.repeat.new.world c.cycle.new.self c.in_ok-issued.issued c.repeat.ensures.state c.in_ok-issued.ensures.told))

pub returns-clause-outstanding : goal.returns-clause-outstanding
returns-clause-outstanding g c =
    channel_alike c.args.channel (state_of c.args.world.now) (state_of c.repeat-2.new.world)
    (served_by (state_of c.args.world.now) (state_of c.repeat.new.world) (state_of c.cycle.new.self) (state_of c.repeat-2.new.world) c.args.channel Cycled c.repeat.ensures.state c.in_ok-issued.ensures.answer.ok c.repeat-2.ensures.state)

pub returns-clause-continues : goal.returns-clause-continues
returns-clause-continues g c =
    let popped = c.repeat.new.world in
    let cycled = c.cycle.new.self in
    continues_then c.args.world.now popped c.repeat-2.new.world c.repeat.ensures.continues
    (continues_then popped cycled c.repeat-2.new.world (continues_by popped cycled (Cycle c.args.channel) (cycle_answer c.cycle.result) c.cycle.ensures.stands) c.repeat-2.ensures.continues)
