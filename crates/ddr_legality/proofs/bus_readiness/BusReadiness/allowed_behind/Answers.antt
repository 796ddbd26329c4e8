-- ORDER, PLACE and RTRS are told beside the distances on the command's rank.
use Rattle.std.proofs.Common.{◌+◌, max, sym, ap, ◌∙◌}
use Rattle.ddr_trace.specs.Commands.{entry}
use Rattle.ddr_legality.specs.BusReadiness.{behind_last}
use Rattle.ddr_legality.proofs.AllowedLemmas.{allowed_told, never_outside}
use Rattle.ddr_legality.proofs.bus_readiness.BusReadiness.allowed_behind.Goals as goal

pub returns-then-not-is_in-clause-first : goal.returns-then-not-is_in-clause-first
returns-then-not-is_in-clause-first c = λ history cycle issued switched begun below.
    let i = c.args.self.now in
    never_outside i.config i.start (cycle + 1) history (entry cycle c.args.command.now) cycle below (sym c.if-not-is_in.ensures)

pub returns-clause-first : goal.returns-clause-first
returns-clause-first c = λ history cycle issued switched begun below.
    let i = c.args.self.now in
    let command = c.args.command.now in
    allowed_told i history command c.args.from cycle _ _ issued (sym c.if-not-is_in.ensures) below c.requires begun
    (c.max.ensures
    ∙ ap (λ n. max n c.args.switched) (c.max-free.ensures ∙ ap (λ n. max c.args.from n) issued.free)
    ∙ ap (λ n. max (max c.args.from (behind_last i.last)) n) switched)
    c.allowed_on_rank.ensures.from
    (λ reached. c.allowed_on_rank.ensures.first history cycle issued reached below)
