-- All requests of the body, as they stand or counted from the first one's cycle.
use Rattle.std.proofs.Common.{subst}
use Rattle.std.proofs.lemmas.Result.{err_from_is_err_and}
use Rattle.ddr_capture.specs.Feed.{left, waiting}
use Rattle.ddr_stream.specs.Waiting.{IsSaidFault, IsSame, Waiting, all_in}
use Rattle.ddr_replay.proofs.ReplayLemmas.{each}
use Rattle.ddr_replay.proofs.TakenLemmas.{not_so, so_it_is, taken_fault, taken_plainly, taken_shifted}
use Rattle.ddr_replay.proofs.taken.taken_of.Goals as goal

pub returns-in_err-read_ahead-clause-fault : goal.returns-in_err-read_ahead-clause-fault
returns-in_err-read_ahead-clause-fault g c =
    let p = err_from_is_err_and c.from_residual-in_err-read_ahead.result c.from_residual-in_err-read_ahead.ensures.1 in
    let fault = c.in_err-read_ahead.field-0.0 in
    let more = g.R.Read.remaining c.args.reader.now in
    rw (p.1, p.2) (taken_fault c.args.config.now c.args.taking (waiting c.args.feed) more fault (subst (λ (w : Waiting). IsSaidFault fault (all_in w more)) c.in_ok-stream.ensures c.in_err-read_ahead.ensures.fault))

pub returns-then-not-taking-clause-said : goal.returns-then-not-taking-clause-said
returns-then-not-taking-clause-said g c =
    let more = g.R.Read.remaining c.args.reader.now in
    let last = g.R.Read.remaining c.read_ahead.new.reader in
    taken_plainly c.args.config.now c.args.taking (waiting c.args.feed) more c.read_ahead.new.self last (subst (λ (w : Waiting). IsSame (all_in w more) (all_in c.read_ahead.new.self last)) c.in_ok-stream.ensures c.in_ok-read_ahead.ensures.same) (not_so c.args.taking.from_first c.if-not-taking.true)

pub returns-in_err-read_all-clause-fault : goal.returns-in_err-read_all-clause-fault
returns-in_err-read_all-clause-fault g c =
    let p = err_from_is_err_and c.from_residual-in_err-read_all.result c.from_residual-in_err-read_all.ensures.1 in
    let fault = c.in_err-read_all.field-0.0 in
    let more = g.R.Read.remaining c.args.reader.now in
    rw (p.1, p.2) (taken_fault c.args.config.now c.args.taking (waiting c.args.feed) more fault (subst (λ (w : Waiting). IsSaidFault fault (all_in w more)) c.in_ok-stream.ensures c.in_err-read_all.ensures.fault))

pub returns-in_err-shift-clause-fault : goal.returns-in_err-shift-clause-fault
returns-in_err-shift-clause-fault g c =
    let p = err_from_is_err_and c.from_residual-in_err-shift.result c.from_residual-in_err-shift.ensures.1 in
    rw (p.1, p.2) (each (left c.args.feed (g.R.Read.remaining c.args.reader.now)) (λ text. tt))

pub returns-clause-said : goal.returns-clause-said
returns-clause-said g c =
    let more = g.R.Read.remaining c.args.reader.now in
    let w = c.read_all.new.self in
    let last = g.R.Read.remaining c.read_all.new.reader in
    taken_shifted c.args.config.now c.args.taking (waiting c.args.feed) more w c.shift.new.stream last (subst (λ (v : Waiting). IsSame (all_in v more) (all_in w last)) c.in_ok-stream.ensures c.in_ok-read_all.ensures.same)
    c.in_ok-shift.ensures.shifted c.in_ok-read_all.ensures.rest.sized c.in_ok-shift.ensures.sized c.in_ok-read_all.ensures.ended (so_it_is c.args.taking.from_first c.if-not-taking.false)
