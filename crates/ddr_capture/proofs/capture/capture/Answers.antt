use Rattle.std.proofs.Common.{◌∙◌}
use Rattle.std.proofs.lemmas.Result.{err_from_is_err_and}
use Rattle.ddr_timing.specs.declared.profile.TheConstants.{PROFILE_S}
use Rattle.ddr_capture.proofs.CaptureLemmas.{judged_first, verdicts_unwritten}
use Rattle.ddr_capture.proofs.capture.capture.Goals as goal

pub returns-in_err-write_whole-clause-fault : goal.returns-in_err-write_whole-clause-fault
returns-in_err-write_whole-clause-fault g c =
    let p = err_from_is_err_and c.from_residual-in_err-write_whole.result c.from_residual-in_err-write_whole.ensures.1 in
    rw p.1 (verdicts_unwritten c.args.sample PROFILE_S.now c.args.form c.args.start (g.R.Read.remaining c.args.reader.now) c.in_ok-verdicts.verdicts.items g.W.Sink.may_fail p.0 (p.2 ∙ c.in_err-write_whole.ensures.refused) c.in_ok-verdicts.ensures.judged)

pub returns-in_err-write_whole-clause-first : goal.returns-in_err-write_whole-clause-first
returns-in_err-write_whole-clause-first g c =
    let p = err_from_is_err_and c.from_residual-in_err-write_whole.result c.from_residual-in_err-write_whole.ensures.1 in
    rw p.1 (judged_first c.args.sample PROFILE_S.now c.args.form c.args.start (g.R.Read.remaining c.args.reader.now) c.in_ok-verdicts.verdicts.items p.0 c.in_ok-verdicts.ensures.judged)
