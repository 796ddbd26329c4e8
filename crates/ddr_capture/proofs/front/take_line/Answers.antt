use Rattle.std.proofs.Common.{Err, ap, sym, ◌∙◌}
use Rattle.ddr_capture.proofs.FrontLemmas.{front_mark, front_more, front_refused, front_wide}
use Rattle.ddr_capture.proofs.front.take_line.Goals as goal

pub returns-then-is_mark-clause-said : goal.returns-then-is_mark-clause-said
returns-then-is_mark-clause-said c =
    λ a b d so_far has. front_mark a b d c.args.front.now.items c.args.line.now so_far has (sym c.is_mark.ensures ∙ c.if-is_mark.true)

pub returns-in-Ok-clause-said : goal.returns-in-Ok-clause-said
returns-in-Ok-clause-said c =
    λ a b d so_far has. rw c.in-Ok.ensures.items (front_more a b d c.args.front.now.items c.args.line.now so_far has (sym c.is_mark.ensures ∙ c.if-is_mark.false) (sym c.is_wide.ensures ∙ c.if-is_wide.false))

pub returns-in-Err-clause-said : goal.returns-in-Err-clause-said
returns-in-Err-clause-said c =
    λ a b d so_far has. front_refused a b d c.args.front.now.items c.args.line.now c.in-Err.fault so_far has (sym c.is_mark.ensures ∙ c.if-is_mark.false) (λ e. c.in-Err.ensures.long (ap Err e)) c.in-Err.ensures.refused

pub returns-then-is_wide-clause-said : goal.returns-then-is_wide-clause-said
returns-then-is_wide-clause-said c =
    λ a b d so_far has. front_wide a b d c.args.front.now.items c.args.line.now so_far has (sym c.is_mark.ensures ∙ c.if-is_mark.false) (sym c.is_wide.ensures ∙ c.if-is_wide.true)
