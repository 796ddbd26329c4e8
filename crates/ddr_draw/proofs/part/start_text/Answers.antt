use Rattle.std.proofs.Common.{◌≡◌, true, rules, subst}
use Rattle.ddr_timing.specs.declared.profile.TheConstants.{PROFILE_S}
use Rattle.ddr_text.specs.declared.fault.Fault.TheVariants as faults
use Rattle.ddr_text.specs.Check.{HasCheckFault}
use Rattle.ddr_draw.proofs.PartLemmas.{start_long}
use Rattle.ddr_draw.proofs.part.start_text.Goals as goal

pub returns-in-Err-TraceTooLong-clause-none : goal.returns-in-Err-TraceTooLong-clause-none
returns-in-Err-TraceTooLong-clause-none c = λ old new is.
    let whole : c.args.start.now.is_whole ≡ true = search rules in
    let said : HasCheckFault c.args.sample PROFILE_S.now c.as_slice.result.now faults.TraceTooLong = rw c.in-Err-TraceTooLong.field-0-is at c.in-Err-TraceTooLong.ensures.fault in
    start_long c.args.sample PROFILE_S.now old new c.args.start.now whole is (subst (λ bytes. HasCheckFault c.args.sample PROFILE_S.now bytes faults.TraceTooLong) c.as_slice.ensures.value said)
