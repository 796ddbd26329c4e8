-- ORDER is told by the last cycle, PLACE by the command, RTRS by the other rank, and the others by the command's rank.
use Rattle.std.proofs.Common.{◌≡◌, true, false, sym, ◌∙◌}
use Rattle.ddr_trace.specs.Rules.{breaks_rtrs}
use Rattle.ddr_legality.proofs.BrokenLemmas.{comes_after, in_order, order_broken, out_of_order, place_broken, rank_broken, switch_broken}
use Rattle.ddr_legality.proofs.bus_readiness.BusReadiness.broken_by.Goals as goal

pub returns-then-not-is_in_order-clause-lowest : goal.returns-then-not-is_in_order-clause-lowest
returns-then-not-is_in_order-clause-lowest c = λ history issued.
    let i = c.args.self.now in
    sym (order_broken i.config i.start c.args.end history c.args.entry.now (out_of_order i history issued c.args.end c.args.entry.now (sym c.if-not-is_in_order.ensures)))

pub returns-then-not-is_in-clause-lowest : goal.returns-then-not-is_in-clause-lowest
returns-then-not-is_in-clause-lowest c = λ history issued.
    let i = c.args.self.now in
    sym (place_broken i.config i.start c.args.end history c.args.entry.now (in_order i history issued c.args.end c.args.entry.now (sym c.if-not-is_in_order.ensures)) (sym c.if-not-is_in.ensures))

pub returns-in-Some-clause-lowest : goal.returns-in-Some-clause-lowest
returns-in-Some-clause-lowest c = λ history issued.
    let i = c.args.self.now in
    let e = c.args.entry.now in
    let order = in_order i history issued c.args.end e (sym c.if-not-is_in_order.ensures) in
    let told = c.fault.ensures history issued (comes_after i.start c.args.end history e order) in
    sym (rank_broken i.config i.start c.args.end history e order (sym c.if-not-is_in.ensures) c.in-Some.rule (sym told ∙ c.in-Some.is))

pub returns-then-is_switched_too_soon-clause-lowest : goal.returns-then-is_switched_too_soon-clause-lowest
returns-then-is_switched_too_soon-clause-lowest c = λ history issued.
    let i = c.args.self.now in
    let e = c.args.entry.now in
    let order = in_order i history issued c.args.end e (sym c.if-not-is_in_order.ensures) in
    let told = c.fault.ensures history issued (comes_after i.start c.args.end history e order) in
    let soon : breaks_rtrs i.config.timing history e ≡ true = sym (c.is_switched_too_soon.ensures history issued) ∙ c.if-is_switched_too_soon.true in
    sym (rw soon at (switch_broken i.config i.start c.args.end history e order (sym c.if-not-is_in.ensures) (sym told ∙ c.in_default.is)))

pub returns-clause-lowest : goal.returns-clause-lowest
returns-clause-lowest c = λ history issued.
    let i = c.args.self.now in
    let e = c.args.entry.now in
    let order = in_order i history issued c.args.end e (sym c.if-not-is_in_order.ensures) in
    let told = c.fault.ensures history issued (comes_after i.start c.args.end history e order) in
    let kept : breaks_rtrs i.config.timing history e ≡ false = sym (c.is_switched_too_soon.ensures history issued) ∙ c.if-is_switched_too_soon.false in
    sym (rw kept at (switch_broken i.config i.start c.args.end history e order (sym c.if-not-is_in.ensures) (sym told ∙ c.in_default.is)))
