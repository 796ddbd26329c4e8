use Rattle.std.proofs.Common.{map, take, subst, sym}
use Rattle.std.specs.Option.{option_to_list}
use Rattle.ddr_run.specs.Hosting.{HasAsked, asked_at, asks_of}
use Rattle.ddr_text.specs.Script.{view}
use Rattle.ddr_run.proofs.HostLemmas.{asked_next, asked_none, taken_at}
use Rattle.ddr_run.proofs.hosting.Host.ask_all.Goals as goal

pub loop-instruction-init : goal.loop-instruction-init
loop-instruction-init g c = asked_none c.args.self.now

pub loop-instruction-preserved : goal.loop-instruction-preserved
loop-instruction-preserved g c =
    let first = c.args.self.now in
    let i = c.loop-instruction.instruction-index in
    let x = c.instruction-item.result in
    let all = c.args.instructions.now in
    let kept = c.loop-instruction.invariant in
    subst (HasAsked first c.follow.new.self) (sym (taken_at i x all c.loop-instruction-test.true c.instruction-item.is first.core.port))
    (asked_next first c.loop-instruction.self c.follow.new.self (asks_of first.core.port (map view (take i all))) (option_to_list (asked_at first.core.port (view x))) kept
    (subst (λ p. HasAsked c.loop-instruction.self c.follow.new.self (option_to_list (asked_at p (view x)))) kept.same.port c.in_ok-follow.ensures))
