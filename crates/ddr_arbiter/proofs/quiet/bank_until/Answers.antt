-- The one command that the bank waits for, by its row and whether a candidate wants it.
use Rattle.std.proofs.Common.{◌≤◌, false, sym, subst, ◌∙◌, arith}
use Rattle.std.proofs.lemmas.Bool.{false≢true}
use Rattle.ddr_trace.specs.declared.command.Command.{Command}
use Rattle.ddr_arbiter.specs.Commands.{column_at}
use Rattle.ddr_arbiter.proofs.StuckLemmas.{IsAllowedFrom, LAST_CYCLE, refused_before, unwanted_stuck, wanted_stuck}
use Rattle.ddr_arbiter.proofs.quiet.bank_until.Goals as goal

pub returns-in_default : goal.returns-in_default
returns-in_default c = c.idle_until.ensures c.args.candidates.now c.args.pending.now.waiting c.args.room

pub returns-then-not-is_row_wanted : goal.returns-then-not-is_row_wanted
returns-then-not-is_row_wanted c =
    unwanted_stuck c.args.legality.now.bus c.args.candidates.now c.args.pending.now.waiting c.args.room c.args.at c.in-Some.row c.allowed_at.result
    (sym c.ready_row.ensures ∙ c.in-Some.is) (λ now is. sym (c.is_row_wanted.ensures now is) ∙ c.if-not-is_row_wanted.true) (omega (arith, c.allowed_at.type_inv))
    (subst (λ (command : Command). IsAllowedFrom c.args.legality.now.bus command c.allowed_at.result) c.precharge_at.ensures c.allowed_at.ensures.legal)

pub returns-then-not-room : goal.returns-then-not-room
returns-then-not-room c =
    wanted_stuck c.args.legality.now.bus c.args.candidates.now c.args.pending.now.waiting c.args.room c.args.at c.in-Some.row 18446744073709551615
    (sym c.ready_row.ensures ∙ c.in-Some.is) (λ now is. sym (c.is_row_wanted.ensures now is) ∙ c.if-not-is_row_wanted.false)
    (λ count before room. absurd (false≢true (sym c.if-not-room.true ∙ room)))

pub returns : goal.returns
returns c =
    let bus = c.args.legality.now.bus in
    let first = record c.args.at { row = c.in-Some.row; line = 0 } in
    let bound : c.allowed_at-2.result ≤ LAST_CYCLE = omega (arith, c.allowed_at-2.type_inv) in
    let allowed = subst (λ (command : Command). IsAllowedFrom bus command c.allowed_at-2.result) c.column_at.ensures c.allowed_at-2.ensures.legal in
    wanted_stuck bus c.args.candidates.now c.args.pending.now.waiting c.args.room c.args.at c.in-Some.row c.allowed_at-2.result
    (sym c.ready_row.ensures ∙ c.in-Some.is) (λ now is. sym (c.is_row_wanted.ensures now is) ∙ c.if-not-is_row_wanted.false)
    (λ count before room. refused_before bus (column_at false c.args.candidates.now.kind first) c.allowed_at-2.result count bound allowed before)
