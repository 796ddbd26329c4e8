-- The input asks for what was run, or its fault is the one that is told.
use Rattle.std.proofs.Common.{Ok, Err, List, Vec, Global, true, map, ap, sym, ◌∙◌}
use Rattle.std.proofs.lemmas.Result.{err_from_is_err_and}
use Rattle.ddr_timing.specs.declared.profile.TheConstants.{PROFILE_S}
use Rattle.ddr_text.specs.Instructions.{form_of, instructions_of}
use Rattle.ddr_text.specs.declared.script.Instruction as kept
use Rattle.ddr_text.specs.Script.{view}
use Rattle.ddr_sim.proofs.RunLemmas.{end_fault, flush_fault, has_run, input_of, late_unread, late_untouched, names_no_channel, no_script, parts_fault, replies_written, run_fault, said_by, trace_written}
use Rattle.ddr_sim.proofs.sim.sim.Goals.{in-None+in_ok-flush-in-None, in-Some+in_ok-write_trace-in-Some}
use Rattle.ddr_sim.proofs.sim.sim.Goals as goal

pub returns-in_err-config-clause-fault : goal.returns-in_err-config-clause-fault
returns-in_err-config-clause-fault g c =
    let read = input_of (g.R.Read.remaining c.args.reader.now) c.as_slice.ensures.value c.in_ok-text.ensures.text c.in_ok-input.ensures.all in
    let p = err_from_is_err_and c.from_residual-in_err-config.result c.from_residual-in_err-config.ensures.1 in
    rw (p.1, p.2) (parts_fault PROFILE_S.now c.args.sample c.args.trace (g.W.Write.contents c.args.writer.now) c.in_err-config.field-0.0 read c.in_err-config.ensures.refused)

pub returns-then-not-has_channel-clause-fault : goal.returns-then-not-has_channel-clause-fault
returns-then-not-has_channel-clause-fault g c =
    let read = input_of (g.R.Read.remaining c.args.reader.now) c.as_slice.ensures.value c.in_ok-text.ensures.text c.in_ok-input.ensures.all in
    names_no_channel PROFILE_S.now c.args.sample c.args.trace c.in_ok-config.config c.in_ok-config.body.now read c.in_ok-config.ensures.opened (sym c.if-not-has_channel.ensures)

pub returns-in_err-instructions-clause-fault : goal.returns-in_err-instructions-clause-fault
returns-in_err-instructions-clause-fault g c =
    let read = input_of (g.R.Read.remaining c.args.reader.now) c.as_slice.ensures.value c.in_ok-text.ensures.text c.in_ok-input.ensures.all in
    let p = err_from_is_err_and c.from_residual-in_err-instructions.result c.from_residual-in_err-instructions.ensures.1 in
    rw (p.1, p.2) (no_script {X = Vec kept.Instruction Global} (λ v. map view v.items) (g.R.Read.remaining c.args.reader.now) PROFILE_S.now c.args.sample c.args.trace c.in_ok-config.config c.in_err-instructions.field-0.0 (instructions_of (form_of c.in_ok-config.config true) c.in_ok-config.body.now) (g.W.Write.contents c.args.writer.now) c.in_err-instructions.ensures
    (λ other e. said_by PROFILE_S.now c.args.sample c.args.trace c.in_ok-config.config c.in_ok-config.body.now other read c.in_ok-config.ensures.opened (sym c.if-not-has_channel.ensures) e))

pub returns-in_err-run-clause-untouched : goal.returns-in_err-run-clause-untouched
returns-in_err-run-clause-untouched g c =
    let read = input_of (g.R.Read.remaining c.args.reader.now) c.as_slice.ensures.value c.in_ok-text.ensures.text c.in_ok-input.ensures.all in
    let ran = has_run PROFILE_S.now c.args.sample c.args.trace c.in_ok-config.body.now c.in_ok-simulation.simulation c.run.new.self (g.W.Write.contents c.args.writer.now) (g.W.Write.contents c.run.new.writer) (Err c.in_err-run.field-0.0)
    c.in_ok-simulation.ensures.config c.in_ok-simulation.ensures.begun (c.in_ok-simulation.ensures.silent ∙ c.is_some.ensures) (ap (λ (xs : List kept.Instruction). map view xs) c.as_slice-2.ensures.value)
    read c.in_ok-config.ensures.opened (sym c.if-not-has_channel.ensures) c.in_ok-instructions.ensures c.run.ensures.silent c.in_err-run.ensures.leads in
    let p = err_from_is_err_and c.from_residual-in_err-run.result c.from_residual-in_err-run.ensures.1 in
    rw (p.1, p.2) (late_untouched ran)

pub returns-in_err-run-clause-sure : goal.returns-in_err-run-clause-sure
returns-in_err-run-clause-sure g c =
    let read = input_of (g.R.Read.remaining c.args.reader.now) c.as_slice.ensures.value c.in_ok-text.ensures.text c.in_ok-input.ensures.all in
    let ran = has_run PROFILE_S.now c.args.sample c.args.trace c.in_ok-config.body.now c.in_ok-simulation.simulation c.run.new.self (g.W.Write.contents c.args.writer.now) (g.W.Write.contents c.run.new.writer) (Err c.in_err-run.field-0.0)
    c.in_ok-simulation.ensures.config c.in_ok-simulation.ensures.begun (c.in_ok-simulation.ensures.silent ∙ c.is_some.ensures) (ap (λ (xs : List kept.Instruction). map view xs) c.as_slice-2.ensures.value)
    read c.in_ok-config.ensures.opened (sym c.if-not-has_channel.ensures) c.in_ok-instructions.ensures c.run.ensures.silent c.in_err-run.ensures.leads in
    let p = err_from_is_err_and c.from_residual-in_err-run.result c.from_residual-in_err-run.ensures.1 in
    rw (p.1, p.2) (late_unread ran)

pub returns-in_err-run-clause-fault : goal.returns-in_err-run-clause-fault
returns-in_err-run-clause-fault g c =
    let read = input_of (g.R.Read.remaining c.args.reader.now) c.as_slice.ensures.value c.in_ok-text.ensures.text c.in_ok-input.ensures.all in
    let ran = has_run PROFILE_S.now c.args.sample c.args.trace c.in_ok-config.body.now c.in_ok-simulation.simulation c.run.new.self (g.W.Write.contents c.args.writer.now) (g.W.Write.contents c.run.new.writer) (Err c.in_err-run.field-0.0)
    c.in_ok-simulation.ensures.config c.in_ok-simulation.ensures.begun (c.in_ok-simulation.ensures.silent ∙ c.is_some.ensures) (ap (λ (xs : List kept.Instruction). map view xs) c.as_slice-2.ensures.value)
    read c.in_ok-config.ensures.opened (sym c.if-not-has_channel.ensures) c.in_ok-instructions.ensures c.run.ensures.silent c.in_err-run.ensures.leads in
    let p = err_from_is_err_and c.from_residual-in_err-run.result c.from_residual-in_err-run.ensures.1 in
    rw (p.1, p.2) (run_fault ran)

pub returns-in_err-flush-in-None-clause-fault : goal.returns-in_err-flush-in-None-clause-fault
returns-in_err-flush-in-None-clause-fault g c =
    let read = input_of (g.R.Read.remaining c.args.reader.now) c.as_slice.ensures.value c.in_ok-text.ensures.text c.in_ok-input.ensures.all in
    let ran = has_run PROFILE_S.now c.args.sample c.args.trace c.in_ok-config.body.now c.in_ok-simulation.simulation c.run.new.self (g.W.Write.contents c.args.writer.now) (g.W.Write.contents c.run.new.writer) (Ok tt)
    c.in_ok-simulation.ensures.config c.in_ok-simulation.ensures.begun (c.in_ok-simulation.ensures.silent ∙ c.is_some.ensures) (ap (λ (xs : List kept.Instruction). map view xs) c.as_slice-2.ensures.value)
    read c.in_ok-config.ensures.opened (sym c.if-not-has_channel.ensures) c.in_ok-instructions.ensures c.run.ensures.silent c.in_ok-run.ensures.leads in
    let p = err_from_is_err_and c.from_residual-in_err-flush-in-None.result c.from_residual-in_err-flush-in-None.ensures.1 in
    rw (p.1, p.2) (flush_fault (g.W.Write.contents c.flush.new.writer) ran c.in_err-flush-in-None.ensures.refused.0)

pub returns-in_err-write_trace-in-Some-clause-fault : goal.returns-in_err-write_trace-in-Some-clause-fault
returns-in_err-write_trace-in-Some-clause-fault g c =
    let read = input_of (g.R.Read.remaining c.args.reader.now) c.as_slice.ensures.value c.in_ok-text.ensures.text c.in_ok-input.ensures.all in
    let ran = has_run PROFILE_S.now c.args.sample c.args.trace c.in_ok-config.body.now c.in_ok-simulation.simulation c.run.new.self (g.W.Write.contents c.args.writer.now) (g.W.Write.contents c.run.new.writer) (Ok tt)
    c.in_ok-simulation.ensures.config c.in_ok-simulation.ensures.begun (c.in_ok-simulation.ensures.silent ∙ c.is_some.ensures) (ap (λ (xs : List kept.Instruction). map view xs) c.as_slice-2.ensures.value)
    read c.in_ok-config.ensures.opened (sym c.if-not-has_channel.ensures) c.in_ok-instructions.ensures c.run.ensures.silent c.in_ok-run.ensures.leads in
    let p = err_from_is_err_and c.from_residual-in_err-write_trace-in-Some.result c.from_residual-in_err-write_trace-in-Some.ensures.1 in
    rw (p.1, p.2) (end_fault (g.W.Write.contents c.write_trace.new.writer) ran c.in-Some.is c.in_err-write_trace-in-Some.ensures.spared c.in_err-write_trace-in-Some.ensures.fault)

pub returns-clause-written : goal.returns-clause-written
returns-clause-written g c =
    let read = input_of (g.R.Read.remaining c.args.reader.now) c.as_slice.ensures.value c.in_ok-text.ensures.text c.in_ok-input.ensures.all in
    let ran = has_run PROFILE_S.now c.args.sample c.args.trace c.in_ok-config.body.now c.in_ok-simulation.simulation c.run.new.self (g.W.Write.contents c.args.writer.now) (g.W.Write.contents c.run.new.writer) (Ok tt)
    c.in_ok-simulation.ensures.config c.in_ok-simulation.ensures.begun (c.in_ok-simulation.ensures.silent ∙ c.is_some.ensures) (ap (λ (xs : List kept.Instruction). map view xs) c.as_slice-2.ensures.value)
    read c.in_ok-config.ensures.opened (sym c.if-not-has_channel.ensures) c.in_ok-instructions.ensures c.run.ensures.silent c.in_ok-run.ensures.leads in
    elim c.match-trace.branch [
      | in-None+in_ok-flush-in-None w ↦ rw w.writer-is (replies_written (g.W.Write.contents w.flush.new.writer) ran w.in-None.is w.in_ok-flush-in-None.ensures.kept)
      | in-Some+in_ok-write_trace-in-Some w ↦ rw w.writer-is (trace_written (g.W.Write.contents w.write_trace.new.writer) ran w.in-Some.is w.in_ok-write_trace-in-Some.ensures.written)
    ]
