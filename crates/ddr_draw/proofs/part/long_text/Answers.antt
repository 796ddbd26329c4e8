use Rattle.std.proofs.Common.{◌∙◌}
use Rattle.std.proofs.lemmas.Result.{err_from_is_err_and}
use Rattle.ddr_timing.specs.declared.profile.TheConstants.{PROFILE_S}
use Rattle.ddr_trace.specs.Traces.{Recorded}
use Rattle.ddr_capture.specs.Feed.{waiting}
use Rattle.ddr_capture.proofs.CaptureLemmas.{nothing_waits}
use Rattle.ddr_draw.proofs.KeptLemmas.{pictured}
use Rattle.ddr_draw.proofs.PartLemmas.{body_refused, front_refused, long_pictured, within}
use Rattle.ddr_draw.proofs.part.long_text.Goals as goal

pub returns-in_err-config-clause-fault : goal.returns-in_err-config-clause-fault
returns-in_err-config-clause-fault g c =
    let p = err_from_is_err_and c.from_residual.result c.from_residual.ensures.1 in
    let all = nothing_waits (waiting c.new-feed.result) (g.R.Read.remaining c.args.reader.now) c.new-feed.ensures.nothing in
    rw (p.1, p.2) (front_refused c.args.sample PROFILE_S.now (g.R.Read.remaining c.args.reader.now) c.in_err-config.field-0.0 (rw all at c.in_err-config.ensures.refused))

pub read_long-requires-clause-none : goal.read_long-requires-clause-none
read_long-requires-clause-none g c = c.new-sketch.ensures.none c.in_ok-config.config

pub read_long-requires-clause-small : goal.read_long-requires-clause-small
read_long-requires-clause-small g c = c.new-sketch.ensures.small c.in_ok-config.config

pub returns-in_err-end-clause-fault : goal.returns-in_err-end-clause-fault
returns-in_err-end-clause-fault g c =
    let p = err_from_is_err_and c.from_residual-in_err-end.result c.from_residual-in_err-end.ensures.1 in
    let all = nothing_waits (waiting c.new-feed.result) (g.R.Read.remaining c.args.reader.now) c.new-feed.ensures.nothing in
    rw (p.1, p.2) (body_refused c.args.sample PROFILE_S.now (g.R.Read.remaining c.args.reader.now) _ c.in_ok-config.config c.in_err-end.field-0.0 (rw all at c.in_ok-config.ensures.opened) c.in_err-end.ensures.refused)

pub returns-clause-said : goal.returns-clause-said
returns-clause-said g c =
    let all = nothing_waits (waiting c.new-feed.result) (g.R.Read.remaining c.args.reader.now) c.new-feed.ensures.nothing in
    let read = c.in_ok-end.ensures.read in
    let config = c.in_ok-config.config in
    let view = c.new-view.result in
    let trace : Recorded = record { start = 0; end = c.in_ok-end.end; entries = read.0 } in
    let inside = within view c.new.result c.in_ok-end.end c.args.asked.from c.args.asked.to c.new-view.ensures.first c.new-view.ensures.last c.new.ensures.first c.new.ensures.last in
    let told = c.in_ok-text.ensures ∙ pictured config c.read_long.new.sketch read.0 view (rw (c.in_ok-end.ensures.view, c.new-sketch.ensures.view) inside) read.1 in
    long_pictured c.args.sample PROFILE_S.now (g.R.Read.remaining c.args.reader.now) _ config trace c.args.asked.from c.args.asked.to view _ (rw all at c.in_ok-config.ensures.opened) read.2 (record { first = c.new-view.ensures.first; last = c.new-view.ensures.last }) told
