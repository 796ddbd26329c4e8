use Rattle.std.proofs.Common.{Ok, refl, sym, subst, ◌∙◌}
use Rattle.ddr_text.specs.Input.{IsText}
use Rattle.std.proofs.lemmas.Result.{err_from_is_err_and}
use Rattle.ddr_timing.specs.declared.profile.TheConstants.{PROFILE_S}
use Rattle.ddr_trace_text.specs.Reader.{records_in, trace_of}
use Rattle.ddr_trace_text.proofs.RefusalLemmas.{trace_not}
use Rattle.ddr_text.proofs.CheckLemmas.{not_read, not_written, parts_fault, trace_fault, trace_said}
use Rattle.ddr_text.proofs.check.read_checked.Goals as goal

pub returns-in_err-config-clause-fault : goal.returns-in_err-config-clause-fault
returns-in_err-config-clause-fault g c =
    let text = c.in_ok-text.ensures.text in
    let same = text.0 ∙ c.as_slice.ensures.value in
    let is_text = subst IsText c.as_slice.ensures.value text.1 in
    let p = err_from_is_err_and c.from_residual-in_err-config.result c.from_residual-in_err-config.ensures.1 in
    rw (p.1, p.2) (parts_fault (g.R.Read.remaining c.args.reader.now) c.in_ok-input.input.items c.in_ok-text.text.now PROFILE_S.now c.args.sample c.in_err-config.field-0.0 c.in_ok-input.ensures.all same is_text c.in_err-config.ensures.refused)

pub returns-in_err-trace-clause-fault : goal.returns-in_err-trace-clause-fault
returns-in_err-trace-clause-fault g c =
    let text = c.in_ok-text.ensures.text in
    let same = text.0 ∙ c.as_slice.ensures.value in
    let is_text = subst IsText c.as_slice.ensures.value text.1 in
    let p = err_from_is_err_and c.from_residual-in_err-trace.result c.from_residual-in_err-trace.ensures.1 in
    rw (p.1, p.2) (trace_fault (g.R.Read.remaining c.args.reader.now) PROFILE_S.now c.args.sample c.in_ok-config.config c.in_err-trace.field-0.0 (trace_of (records_in c.in_ok-config.body.now)) (trace_not (records_in c.in_ok-config.body.now)) c.in_err-trace.ensures.read
    (λ other e. trace_said (g.R.Read.remaining c.args.reader.now) c.in_ok-input.input.items c.in_ok-text.text.now PROFILE_S.now c.args.sample c.in_ok-config.config c.in_ok-config.body.now other c.in_ok-input.ensures.all same is_text c.in_ok-config.ensures.opened e))

pub returns-in_err-trace-clause-sure : goal.returns-in_err-trace-clause-sure
returns-in_err-trace-clause-sure g c =
    let p = err_from_is_err_and c.from_residual-in_err-trace.result c.from_residual-in_err-trace.ensures.1 in
    rw (p.1, p.2) (not_read _ c.in_err-trace.field-0.0 _ refl c.in_err-trace.ensures.sure)

pub returns-in_err-trace-clause-unwritten : goal.returns-in_err-trace-clause-unwritten
returns-in_err-trace-clause-unwritten g c =
    let p = err_from_is_err_and c.from_residual-in_err-trace.result c.from_residual-in_err-trace.ensures.1 in
    rw (p.1, p.2) (not_written _ c.in_err-trace.field-0.0 (trace_of (records_in c.in_ok-config.body.now)) _ (trace_not (records_in c.in_ok-config.body.now)) c.in_err-trace.ensures.read refl)

pub returns-clause-said : goal.returns-clause-said
returns-clause-said g c =
    let text = c.in_ok-text.ensures.text in
    let same = text.0 ∙ c.as_slice.ensures.value in
    let is_text = subst IsText c.as_slice.ensures.value text.1 in
    trace_said (g.R.Read.remaining c.args.reader.now) c.in_ok-input.input.items c.in_ok-text.text.now PROFILE_S.now c.args.sample c.in_ok-config.config c.in_ok-config.body.now (Ok _) c.in_ok-input.ensures.all same is_text c.in_ok-config.ensures.opened (sym c.in_ok-trace.ensures.read)
