use Rattle.std.proofs.Common.{sym, ◌∙◌, arith}
use Rattle.std.proofs.lemmas.Result.{err_from_is_err_and}
use Rattle.ddr_timing.specs.declared.profile.TheConstants.{PROFILE_S}
use Rattle.ddr_text.specs.declared.fault.Fault.TheVariants as faults
use Rattle.ddr_capture.specs.Feed.{waiting}
use Rattle.ddr_capture.proofs.CaptureLemmas.{body_fault_said, front_fault_said, judged_said, missing_fault_said, nothing_waits}
use Rattle.ddr_capture.proofs.FrontLemmas.{opened_first}
use Rattle.ddr_capture.proofs.ReadLemmas.{told_there}
use Rattle.ddr_capture.proofs.capture.judge_all.Goals as goal

pub returns-in_err-config-clause-fault : goal.returns-in_err-config-clause-fault
returns-in_err-config-clause-fault g c =
    let p = err_from_is_err_and c.from_residual.result c.from_residual.ensures.1 in
    let all = nothing_waits (waiting c.new-feed.result) (g.R.Read.remaining c.args.reader.now) c.new-feed.ensures.nothing in
    rw (p.1, p.2) (front_fault_said c.args.sample PROFILE_S.now c.args.form c.args.start (g.R.Read.remaining c.args.reader.now) c.in_err-config.field-0.0 (rw all at c.in_err-config.ensures.refused))

pub returns-in_err-reading-clause-fault : goal.returns-in_err-reading-clause-fault
returns-in_err-reading-clause-fault g c =
    let p = err_from_is_err_and c.from_residual-in_err-reading.result c.from_residual-in_err-reading.ensures.1 in
    let all = nothing_waits (waiting c.new-feed.result) (g.R.Read.remaining c.args.reader.now) c.new-feed.ensures.nothing in
    rw (p.1, p.2) (body_fault_said c.args.sample PROFILE_S.now c.args.form c.args.start (g.R.Read.remaining c.args.reader.now) _ c.in_ok-config.config c.in_err-reading.field-0.0 (rw all at c.in_ok-config.ensures.opened) c.in_err-reading.ensures.refused)

pub returns-then-is_missing-clause-fault : goal.returns-then-is_missing-clause-fault
returns-then-is_missing-clause-fault g c =
    let all = nothing_waits (waiting c.new-feed.result) (g.R.Read.remaining c.args.reader.now) c.new-feed.ensures.nothing in
    missing_fault_said c.args.sample PROFILE_S.now c.args.form c.args.start (g.R.Read.remaining c.args.reader.now) _ c.in_ok-config.config (rw all at c.in_ok-config.ensures.opened) (sym c.is_missing.ensures ∙ c.if-is_missing.true)

pub verdicts-requires-clause-there : goal.verdicts-requires-clause-there
verdicts-requires-clause-there g c =
    let said = c.in_ok-reading.ensures.read in
    let config = c.in_ok-config.config in
    let told = told_there c.args.form.format c.args.form.channel config.geometry.channels (sym c.is_missing.ensures ∙ c.if-is_missing.false) config.geometry.channels_range.0 in
    omega (arith, told, said.has.judged.channels, c.first_told-first.ensures, c.told_channels-channels.ensures)

pub verdicts-requires-clause-few : goal.verdicts-requires-clause-few
verdicts-requires-clause-few g c =
    let config = c.in_ok-config.config in
    let told = told_there c.args.form.format c.args.form.channel config.geometry.channels (sym c.is_missing.ensures ∙ c.if-is_missing.false) config.geometry.channels_range.0 in
    omega (arith, told, config.geometry.channels_range.1, c.first_told-first.ensures, c.told_channels-channels.ensures)

pub verdicts-requires-clause-behind : goal.verdicts-requires-clause-behind
verdicts-requires-clause-behind g c =
    let said = c.in_ok-reading.ensures.read in
    omega (arith, said.has.judged.end, said.has.behind, c.last.ensures c.in_ok-config.config c.args.start said.read said.has)

pub returns-clause-judged : goal.returns-clause-judged
returns-clause-judged g c =
    let all = nothing_waits (waiting c.new-feed.result) (g.R.Read.remaining c.args.reader.now) c.new-feed.ensures.nothing in
    let said = c.in_ok-reading.ensures.read in
    let last = c.last.ensures c.in_ok-config.config c.args.start said.read said.has in
    judged_said c.args.sample PROFILE_S.now c.args.form c.args.start (g.R.Read.remaining c.args.reader.now) _ c.in_ok-config.config said.read c.in_ok-verdicts.verdicts.items (rw all at c.in_ok-config.ensures.opened) said.said
    (rw (last, c.first_told-first.ensures, c.told_channels-channels.ensures) at (c.in_ok-verdicts.ensures c.in_ok-config.config c.args.start said.read.records said.has.judged))

pub returns-in_err-config-clause-first : goal.returns-in_err-config-clause-first
returns-in_err-config-clause-first g c =
    let p = err_from_is_err_and c.from_residual.result c.from_residual.ensures.1 in
    let all = nothing_waits (waiting c.new-feed.result) (g.R.Read.remaining c.args.reader.now) c.new-feed.ensures.nothing in
    rw (p.1, p.2) (rw all at c.in_err-config.ensures.first)

pub returns-in_err-reading-clause-first : goal.returns-in_err-reading-clause-first
returns-in_err-reading-clause-first g c =
    let p = err_from_is_err_and c.from_residual-in_err-reading.result c.from_residual-in_err-reading.ensures.1 in
    let all = nothing_waits (waiting c.new-feed.result) (g.R.Read.remaining c.args.reader.now) c.new-feed.ensures.nothing in
    rw (p.1, p.2) (opened_first c.args.sample PROFILE_S.now (g.R.Read.remaining c.args.reader.now) _ c.in_ok-config.config c.in_err-reading.field-0.0 (rw all at c.in_ok-config.ensures.opened))

pub returns-then-is_missing-clause-first : goal.returns-then-is_missing-clause-first
returns-then-is_missing-clause-first g c =
    let all = nothing_waits (waiting c.new-feed.result) (g.R.Read.remaining c.args.reader.now) c.new-feed.ensures.nothing in
    opened_first c.args.sample PROFILE_S.now (g.R.Read.remaining c.args.reader.now) _ c.in_ok-config.config faults.TraceNoSuch (rw all at c.in_ok-config.ensures.opened)
