-- The replies in front of a port, one after another.
use Rattle.std.proofs.Common.{Ok, Err, arith, refl, ◌∙◌}
use Rattle.std.proofs.lemmas.Result.{err_from_is_err_and}
use Rattle.ddr_world.specs.History.{front_of}
use Rattle.ddr_world.specs.Kept.{state_of}
use Rattle.ddr_world.specs.Events.{Release}
use Rattle.ddr_rounds.specs.Rounds.{items_of}
use Rattle.ddr_rounds.proofs.EventLemmas.{front_answered, front_fewer}
use Rattle.ddr_sim.proofs.Growth.{replied_grows}
use Rattle.ddr_sim.proofs.Courses.{device_failed, no_replies, port_led, printed_none, printed_there, replies_of, reply_more, same_on}
use Rattle.ddr_sim.proofs.simulation.Simulation.serve_port.Goals as goal

pub replies-init : goal.replies-init
replies-init g c = record {
  onward = λ d cd r q. q;
  left = refl;
  same = record { config = refl; silent = refl; waiting = omega arith };
}

pub replies-preserved : goal.replies-preserved
replies-preserved g c =
    let contents = g.W.Write.contents in
    let now = c.replies.self in
    let kept = c.replies.invariant in
    let front = front_of (state_of now.world) c.args.port in
    let there = printed_there c.args.port front now.silent c.in_ok-print_front.field-0 (contents c.replies.writer) (contents c.print_front.new.writer) c.if-branch.true c.in_ok-print_front.ensures.printed in
    let made = front_answered now.world c.make.new.self.world c.args.port c.make.result there.0 there.1 c.make.ensures.answer in
    record {
      onward = reply_more c.args.port (replies_of c.args.port) c.collect.new.self now c.make.new.self (contents c.args.writer.now) (contents c.replies.writer) (contents c.print_front.new.writer) there.0 made.0 there.1 made.1 c.make.ensures.left c.make.ensures.same.silent there.2 kept.onward;
      left = c.make.ensures.left ∙ kept.left;
      same = same_on c.collect.new.self now c.make.new.self 0 0 kept.same c.make.ensures.same;
    }

pub replies-smaller : goal.replies-smaller
replies-smaller g c =
    let contents = g.W.Write.contents in
    let now = c.replies.self in
    let front = front_of (state_of now.world) c.args.port in
    let there = printed_there c.args.port front now.silent c.in_ok-print_front.field-0 (contents c.replies.writer) (contents c.print_front.new.writer) c.if-branch.true c.in_ok-print_front.ensures.printed in
    let made = front_answered now.world c.make.new.self.world c.args.port c.make.result there.0 there.1 c.make.ensures.answer in
    omega (arith, front_fewer (state_of now.world) (state_of c.make.new.self.world) c.args.port made.0 made.1)

pub returns-clause-leads : goal.returns-clause-leads
returns-clause-leads g c =
    let contents = g.W.Write.contents in
    let now = c.replies.self in
    let kept = c.replies.invariant in
    let front = front_of (state_of now.world) c.args.port in
    let none = printed_none c.args.port front now.silent c.in_ok-print_front.field-0 (contents c.replies.writer) (contents c.print_front.new.writer) c.if-branch.false c.in_ok-print_front.ensures.printed in
    let last = no_replies c.args.port now (contents c.replies.writer) tt none.0 in
    rw none.1 (port_led c.args.port c.args.self.now c.collect.new.self now (contents c.args.writer.now) (contents c.replies.writer) (Ok tt) c.collect.ensures.state c.collect.ensures.left c.collect.ensures.same.silent (kept.onward now (contents c.replies.writer) (Ok tt) last))

pub returns-in_err-print_front-clause-leads : goal.returns-in_err-print_front-clause-leads
returns-in_err-print_front-clause-leads g c =
    let contents = g.W.Write.contents in
    let now = c.replies.self in
    let fault = c.in_err-print_front.field-0.0 in
    let p = err_from_is_err_and c.from_residual.result c.from_residual.ensures.1 in
    let failed = device_failed (replies_of c.args.port) now now (contents c.replies.writer) (contents c.print_front.new.writer) fault (λ run. replied_grows (items_of run.state (Release c.args.port)) c.args.port run) refl c.in_err-print_front.ensures.spared c.in_err-print_front.ensures.fault in
    rw (p.1, p.2) (port_led c.args.port c.args.self.now c.collect.new.self now (contents c.args.writer.now) (contents c.print_front.new.writer) (Err fault) c.collect.ensures.state c.collect.ensures.left c.collect.ensures.same.silent (c.replies.invariant.onward now (contents c.print_front.new.writer) (Err fault) failed))
