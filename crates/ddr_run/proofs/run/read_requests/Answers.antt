use Rattle.std.proofs.Common.{None, Vec, Global, map}
use Rattle.std.proofs.lemmas.Result.{err_from_is_err_and}
use Rattle.ddr_timing.specs.declared.profile.TheConstants.{PROFILE_S}
use Rattle.ddr_text.specs.declared.script.Instruction as kept
use Rattle.ddr_text.specs.Script.{view}
use Rattle.ddr_run.proofs.StartLemmas.{checked, no_requests, not_taken, parts_fault}
use Rattle.ddr_run.proofs.run.read_requests.Goals as goal

pub returns-in_err-config-clause-err : goal.returns-in_err-config-clause-err
returns-in_err-config-clause-err c =
    let p = err_from_is_err_and c.from_residual.result c.from_residual.ensures.1 in
    rw (p.1, p.2) (parts_fault c.args.text.now PROFILE_S.now c.args.sample c.in_err-config.field-0.0 c.requires c.in_err-config.ensures.refused)

pub returns-in_err-instructions-clause-err : goal.returns-in_err-instructions-clause-err
returns-in_err-instructions-clause-err c =
    let p = err_from_is_err_and c.from_residual-in_err-instructions.result c.from_residual-in_err-instructions.ensures.1 in
    rw (p.1, p.2) (no_requests {X = Vec kept.Instruction Global} (λ v. map view v.items) c.args.text.now PROFILE_S.now c.args.sample c.in_ok-config.config c.in_ok-config.body.now c.in_err-instructions.field-0.0 c.requires c.in_ok-config.ensures.opened c.in_err-instructions.ensures)

pub returns-in_err-check_requests-clause-err : goal.returns-in_err-check_requests-clause-err
returns-in_err-check_requests-clause-err c =
    let p = err_from_is_err_and c.from_residual-in_err-check_requests.result c.from_residual-in_err-check_requests.ensures.1 in
    rw (p.1, p.2) (not_taken c.args.text.now PROFILE_S.now c.args.sample c.in_ok-config.config c.in_ok-config.body.now (map view c.in_ok-instructions.instructions.items) c.in_err-check_requests.field-0.0 c.requires c.in_ok-config.ensures.opened c.in_ok-instructions.ensures c.in_err-check_requests.ensures)

pub returns-clause-ok : goal.returns-clause-ok
returns-clause-ok c = checked c.args.text.now PROFILE_S.now c.args.sample c.in_ok-config.config c.in_ok-config.body.now (map view c.in_ok-instructions.instructions.items) None c.requires c.in_ok-config.ensures.opened c.in_ok-instructions.ensures c.in_ok-check_requests.ensures
