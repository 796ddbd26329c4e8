-- The verdict of the judge, which was told each command, is one on the trace.
use Rattle.std.proofs.Common.{Option, Some, None, sym, subst}
use Rattle.ddr_trace.specs.declared.checker.Fault as checker
use Rattle.ddr_channel.specs.Kept.{Kept}
use Rattle.ddr_judge.specs.Records.{of_channel}
use Rattle.ddr_judge.specs.Verdict.{IsVerdict}
use Rattle.ddr_workers.specs.declared.judged.TheConstants.{CHANNEL}
use Rattle.ddr_workers.specs.Judged.{IsJudged, told}
use Rattle.ddr_workers.proofs.JudgedLemmas.{judged_fault, judged_none}
use Rattle.ddr_workers.proofs.judged.JudgedChannel.first_fault.Goals as goal

abbrev SaysOf : Option checker.Fault → Kept → Type 0
SaysOf fault k = IsJudged k.config (record { start = k.start; end = k.now; entries = k.trace }) fault

pub returns-in_err-fault : goal.returns-in_err-fault
returns-in_err-fault c =
    let k : Kept = c.self.inside.channel in
    let verdict = subst (λ n. IsVerdict k.config k.start n (of_channel CHANNEL (told k.trace)) None) c.now.ensures.value (c.in_err-fault.ensures k.config k.start (told k.trace) c.self.invariant.judged) in
    subst (λ fault. SaysOf fault c.args.self.now) (sym c.from_residual.ensures) (subst (SaysOf None) c.self.view_is (judged_none k.config k.start k.now k.trace verdict))

pub returns : goal.returns
returns c =
    let k : Kept = c.self.inside.channel in
    let verdict = subst (λ n. IsVerdict k.config k.start n (of_channel CHANNEL (told k.trace)) (Some c.in_ok-fault.fault)) c.now.ensures.value (c.in_ok-fault.ensures k.config k.start (told k.trace) c.self.invariant.judged) in
    subst (SaysOf (Some (record { place = c.in_ok-fault.fault.place; rule = c.in_ok-fault.fault.rule }))) c.self.view_is (judged_fault k.config k.start k.now k.trace c.in_ok-fault.fault verdict)
