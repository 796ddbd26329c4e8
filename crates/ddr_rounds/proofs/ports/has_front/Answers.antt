-- No reply is in front of one port more.
use Rattle.std.proofs.Common.{◌≡◌, None, below_more, sym, ◌∙◌, arith}
use Rattle.ddr_world.specs.History.{front_of}
use Rattle.ddr_world.specs.Kept.{state_of}
use Rattle.ddr_world.specs.Served.{front_service}
use Rattle.ddr_rounds.proofs.EventLemmas.{none_in_front, none_served}
use Rattle.ddr_rounds.proofs.ports.has_front.Goals as goal

pub loop-port-preserved : goal.loop-port-preserved
loop-port-preserved c =
    let s = state_of c.args.world.now in
    let i = c.loop-port.port in
    let none = sym c.is_some.ensures ∙ c.if-is_some.false in
    record {
      replies = below_more (λ p. front_of s p ≡ None) i c.loop-port.invariant.replies (none_in_front c.front.result (front_of s i) none c.front.ensures.front);
      services = below_more (λ p. front_service s p ≡ None) i c.loop-port.invariant.services (none_served c.front.result (front_service s i) none c.front.ensures.service);
    }

pub returns : goal.returns
returns c = record {
  replies = λ none p below. c.loop-port.invariant.replies p (omega (arith, below, c.loop-port-test.false));
  services = λ none p below. c.loop-port.invariant.services p (omega (arith, below, c.loop-port-test.false));
}
