-- What the text says that was read, the input says.
use Rattle.std.proofs.Common.{List, None, map, subst, string_bytes, ◌∙◌}
use Rattle.std.proofs.lemmas.Result.{err_from_is_err_and}
use Rattle.std.specs.Io.KnownBytes.{Appends}
use Rattle.ddr_timing.specs.declared.profile.TheConstants.{PROFILE_S}
use Rattle.ddr_text.specs.declared.script.Instruction as kept
use Rattle.ddr_text.specs.Script.{view}
use Rattle.ddr_run.specs.Started.{HasChecked, HasRunFault, IsRan, IsThreaded}
use Rattle.ddr_run.proofs.StartLemmas.{of_input, stopped, unwritten}
use Rattle.ddr_run.proofs.run.run.Goals as goal

pub returns-in_err-config-clause-fault : goal.returns-in_err-config-clause-fault
returns-in_err-config-clause-fault g c =
    let p = err_from_is_err_and c.from_residual-in_err-config.result c.from_residual-in_err-config.ensures.1 in
    rw (p.1, p.2) (of_input (g.R.Read.remaining c.args.reader.now) c.in_ok-input.input.items c.in_ok-text.text.now (λ input. HasRunFault c.args.sample PROFILE_S.now input c.in_err-config.field-0.0) c.in_ok-input.ensures.all (c.in_ok-text.ensures.text.0 ∙ c.as_slice.ensures.value) c.in_err-config.ensures.err)

pub returns-in_err-text-2-clause-fault : goal.returns-in_err-text-2-clause-fault
returns-in_err-text-2-clause-fault g c =
    let fault = c.in_err-text-2.field-0.0 in
    let instructions = map view c.in_ok-config.instructions.items in
    let p = err_from_is_err_and c.from_residual-in_err-text-2.result c.from_residual-in_err-text-2.ensures.1 in
    rw (p.1, p.2) (of_input (g.R.Read.remaining c.args.reader.now) c.in_ok-input.input.items c.in_ok-text.text.now (λ input. HasRunFault c.args.sample PROFILE_S.now input fault) c.in_ok-input.ensures.all (c.in_ok-text.ensures.text.0 ∙ c.as_slice.ensures.value)
    (stopped c.in_ok-text.text.now PROFILE_S.now c.args.sample c.in_ok-config.config instructions fault c.in_ok-config.ensures.ok c.in_err-text-2.ensures.stopped))

pub returns-in_err-write_whole-clause-fault : goal.returns-in_err-write_whole-clause-fault
returns-in_err-write_whole-clause-fault g c =
    let checked : HasChecked c.args.sample PROFILE_S.now c.in_ok-text.text.now None = (c.in_ok-config.config, map view c.in_ok-config.instructions.items, c.in_ok-config.ensures.ok) in
    let p = err_from_is_err_and c.from_residual-in_err-write_whole.result c.from_residual-in_err-write_whole.ensures.1 in
    rw p.1 (of_input (g.R.Read.remaining c.args.reader.now) c.in_ok-input.input.items c.in_ok-text.text.now (λ input. HasRunFault c.args.sample PROFILE_S.now input p.0) c.in_ok-input.ensures.all (c.in_ok-text.ensures.text.0 ∙ c.as_slice.ensures.value)
    (unwritten c.in_ok-text.text.now PROFILE_S.now c.args.sample g.W.Sink.may_fail p.0 (p.2 ∙ c.in_err-write_whole.ensures.refused) checked))

pub returns-clause-written : goal.returns-clause-written
returns-clause-written g c =
    let config = c.in_ok-config.config in
    let text = string_bytes c.in_ok-text-2.text in
    let legal = c.in_ok-text-2.legal in
    let old = g.W.Write.contents c.args.writer.now in
    let new = g.W.Write.contents c.write_whole.new.writer in
    of_input (g.R.Read.remaining c.args.reader.now) c.in_ok-input.input.items c.in_ok-text.text.now (λ input. IsRan c.args.sample PROFILE_S.now input legal old new) c.in_ok-input.ensures.all (c.in_ok-text.ensures.text.0 ∙ c.as_slice.ensures.value) (record {
      config = config;
      instructions = map view c.in_ok-config.instructions.items;
      checked = c.in_ok-config.ensures.ok;
      text = text;
      threaded = subst (λ (xs : List kept.Instruction). IsThreaded config (map view xs) text legal) c.as_slice-2.ensures.value c.in_ok-text-2.ensures.ran;
      written = subst (Appends old new) c.as_str.ensures.value c.in_ok-write_whole.ensures.written;
    })
