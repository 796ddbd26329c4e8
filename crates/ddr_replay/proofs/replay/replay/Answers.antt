-- What an input says, by its configuration and its body.
use Rattle.std.proofs.lemmas.Result.{err_from_is_err_and}
use Rattle.ddr_timing.specs.declared.profile.TheConstants.{PROFILE_S}
use Rattle.ddr_capture.specs.Feed.{waiting}
use Rattle.ddr_replay.proofs.ReplayLemmas.{first_by, front_said, said_by, told_by, unread, written_by}
use Rattle.ddr_replay.proofs.replay.replay.Goals as goal

pub returns-in_err-config-clause-fault : goal.returns-in_err-config-clause-fault
returns-in_err-config-clause-fault g c =
    let p = err_from_is_err_and c.from_residual.result c.from_residual.ensures.1 in
    let all = unread (waiting c.new-feed.result) (g.R.Read.remaining c.args.reader.now) c.new-feed.ensures.nothing in
    rw (p.1, p.2) (front_said c.args.sample PROFILE_S.now c.args.taking c.args.told (g.R.Read.remaining c.args.reader.now) c.in_err-config.field-0.0 (rw all at c.in_err-config.ensures.refused))

pub returns-clause-written : goal.returns-clause-written
returns-clause-written g c =
    let all = unread (waiting c.new-feed.result) (g.R.Read.remaining c.args.reader.now) c.new-feed.ensures.nothing in
    told_by c.args.sample PROFILE_S.now c.args.taking c.args.told (g.W.Write.contents c.args.writer.now) (g.W.Write.contents c.replay_body.new.writer) (g.R.Read.remaining c.args.reader.now) _ c.in_ok-config.config c.replay_body.result (rw all at c.in_ok-config.ensures.opened) c.replay_body.ensures.said

pub returns-clause-fault : goal.returns-clause-fault
returns-clause-fault g c =
    let all = unread (waiting c.new-feed.result) (g.R.Read.remaining c.args.reader.now) c.new-feed.ensures.nothing in
    said_by c.args.sample PROFILE_S.now c.args.taking c.args.told (g.W.Write.contents c.args.writer.now) (g.W.Write.contents c.replay_body.new.writer) (g.R.Read.remaining c.args.reader.now) _ c.in_ok-config.config c.replay_body.result (rw all at c.in_ok-config.ensures.opened) c.replay_body.ensures.said

pub returns-clause-first : goal.returns-clause-first
returns-clause-first g c =
    let all = unread (waiting c.new-feed.result) (g.R.Read.remaining c.args.reader.now) c.new-feed.ensures.nothing in
    first_by c.args.sample PROFILE_S.now c.args.taking c.args.told (g.W.Write.contents c.args.writer.now) (g.W.Write.contents c.replay_body.new.writer) (g.R.Read.remaining c.args.reader.now) _ c.in_ok-config.config c.replay_body.result (rw all at c.in_ok-config.ensures.opened)

pub returns-clause-begun : goal.returns-clause-begun
returns-clause-begun g c =
    let all = unread (waiting c.new-feed.result) (g.R.Read.remaining c.args.reader.now) c.new-feed.ensures.nothing in
    written_by c.args.sample PROFILE_S.now c.args.taking c.args.told (g.W.Write.contents c.args.writer.now) (g.W.Write.contents c.replay_body.new.writer) (g.R.Read.remaining c.args.reader.now) _ c.in_ok-config.config c.replay_body.result (rw all at c.in_ok-config.ensures.opened) c.replay_body.ensures.begun
