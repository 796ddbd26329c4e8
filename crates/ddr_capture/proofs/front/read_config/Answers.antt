use Rattle.std.proofs.Common.{subst, ◌∙◌}
use Rattle.std.proofs.lemmas.Result.{err_from_is_err_and}
use Rattle.ddr_timing.specs.declared.profile.TheConstants.{PROFILE_S}
use Rattle.ddr_text.specs.Input.{IsText}
use Rattle.ddr_capture.specs.Feed.{left}
use Rattle.ddr_capture.proofs.FrontLemmas.{behind_opened, behind_refused, config_first, front_config, front_first, no_text, no_text_first, sample_first, sample_opened, sample_refused}
use Rattle.ddr_capture.proofs.front.read_config.Goals as goal

pub returns-then-sample-clause-opened : goal.returns-then-sample-clause-opened
returns-then-sample-clause-opened g c =
    rw c.if-sample.true (sample_opened (left c.args.feed.now (g.R.Read.remaining c.args.reader.now)) PROFILE_S.now c.configuration.result c.configuration.ensures.read)

pub returns-then-sample-clause-refused : goal.returns-then-sample-clause-refused
returns-then-sample-clause-refused g c =
    rw c.if-sample.true (sample_refused (left c.args.feed.now (g.R.Read.remaining c.args.reader.now)) PROFILE_S.now c.configuration.result c.configuration.ensures.refused)

pub returns-clause-opened : goal.returns-clause-opened
returns-clause-opened g c =
    rw c.if-sample.false (behind_opened (left c.args.feed.now (g.R.Read.remaining c.args.reader.now)) (left c.read_front.new.feed (g.R.Read.remaining c.read_front.new.reader)) PROFILE_S.now c.in_ok-front.front.items c.in_ok-text.text.now c.configuration-2.result
    c.in_ok-front.ensures.front (c.in_ok-text.ensures.text.0 ∙ c.as_slice.ensures.value) (subst IsText c.as_slice.ensures.value c.in_ok-text.ensures.text.1) c.configuration-2.ensures.read)

pub returns-clause-refused : goal.returns-clause-refused
returns-clause-refused g c =
    rw c.if-sample.false (behind_refused (left c.args.feed.now (g.R.Read.remaining c.args.reader.now)) (left c.read_front.new.feed (g.R.Read.remaining c.read_front.new.reader)) PROFILE_S.now c.in_ok-front.front.items c.in_ok-text.text.now c.configuration-2.result
    c.in_ok-front.ensures.front (c.in_ok-text.ensures.text.0 ∙ c.as_slice.ensures.value) c.configuration-2.ensures.refused)

pub returns-in_err-text-clause-refused : goal.returns-in_err-text-clause-refused
returns-in_err-text-clause-refused g c =
    let p = err_from_is_err_and c.from_residual-in_err-text.result c.from_residual-in_err-text.ensures.1 in
    rw (c.if-sample.false, p.1, p.2) (no_text (left c.args.feed.now (g.R.Read.remaining c.args.reader.now)) (left c.read_front.new.feed (g.R.Read.remaining c.read_front.new.reader)) PROFILE_S.now c.in_ok-front.front.items c.as_slice.result.now c.in_err-text.field-0.0
    c.in_ok-front.ensures.front c.as_slice.ensures.value c.in_err-text.ensures.refused)

pub returns-in_err-front-clause-refused : goal.returns-in_err-front-clause-refused
returns-in_err-front-clause-refused g c =
    let p = err_from_is_err_and c.from_residual.result c.from_residual.ensures.1 in
    rw (c.if-sample.false, p.1, p.2) (front_config (left c.args.feed.now (g.R.Read.remaining c.args.reader.now)) PROFILE_S.now c.in_err-front.field-0.0 c.in_err-front.ensures.refused)

pub returns-then-sample-clause-first : goal.returns-then-sample-clause-first
returns-then-sample-clause-first g c =
    rw c.if-sample.true (sample_first (left c.args.feed.now (g.R.Read.remaining c.args.reader.now)) c.configuration.result)

pub returns-in_err-front-clause-first : goal.returns-in_err-front-clause-first
returns-in_err-front-clause-first g c =
    let p = err_from_is_err_and c.from_residual.result c.from_residual.ensures.1 in
    rw (c.if-sample.false, p.1, p.2) (front_first (left c.args.feed.now (g.R.Read.remaining c.args.reader.now)) c.in_err-front.field-0.0 c.in_err-front.ensures.refused)

pub returns-in_err-text-clause-first : goal.returns-in_err-text-clause-first
returns-in_err-text-clause-first g c =
    let p = err_from_is_err_and c.from_residual-in_err-text.result c.from_residual-in_err-text.ensures.1 in
    rw (c.if-sample.false, p.1, p.2) (no_text_first (left c.args.feed.now (g.R.Read.remaining c.args.reader.now)) (left c.read_front.new.feed (g.R.Read.remaining c.read_front.new.reader)) c.in_ok-front.front.items c.as_slice.result.now c.in_err-text.field-0.0
    c.in_ok-front.ensures.front c.as_slice.ensures.value c.in_err-text.ensures.refused)

pub returns-clause-first : goal.returns-clause-first
returns-clause-first g c =
    rw c.if-sample.false (config_first (left c.args.feed.now (g.R.Read.remaining c.args.reader.now)) (left c.read_front.new.feed (g.R.Read.remaining c.read_front.new.reader)) c.in_ok-front.front.items c.configuration-2.result
    c.in_ok-front.ensures.front (subst IsText c.as_slice.ensures.value c.in_ok-text.ensures.text.1))
