-- The choice for the one kind of ranks, else for the other.
use Rattle.std.proofs.Common.{◌≡◌, ◌∙◌, ◌++◌, ℕ, Bool, true, false, cond, List, sym, ap}
use Rattle.std.specs.List.{filter}
use Rattle.ddr_arbiter.specs.Choice.{first_choice, is_idly_forced, is_overdue, is_something, ranks_of, refresh_choice_at}
use Rattle.ddr_arbiter.specs.declared.choice.Choice.{Choice}
use Rattle.ddr_arbiter.proofs.PlaceLemmas.{choice_append}
use Rattle.ddr_arbiter.proofs.refresh.refresh_choice.Goals as goal

either : (f : ℕ → Choice) (xs ys : List ℕ) (w : Bool) → is_something (first_choice f xs) ≡ w → first_choice f (xs ++ ys) ≡ cond w (first_choice f xs) (first_choice f ys)
either f xs ys w is = choice_append f xs ys ∙ ap (λ t. cond t (first_choice f xs) (first_choice f ys)) is

pub returns-then-is_something : goal.returns-then-is_something
returns-then-is_something c =
    let f = refresh_choice_at c.args.legality.now.bus in
    let ranks = ranks_of c.args.debts.now in
    c.overdue_choice-overdue.ensures
    ∙ sym (either f (filter (is_overdue c.args.debts.now) ranks) (filter (is_idly_forced c.args.pending.now.waiting c.args.debts.now) ranks) true
    (ap is_something (sym c.overdue_choice-overdue.ensures) ∙ sym c.is_something.ensures ∙ c.if-is_something.true))

pub returns-else-is_something : goal.returns-else-is_something
returns-else-is_something c =
    let f = refresh_choice_at c.args.legality.now.bus in
    let ranks = ranks_of c.args.debts.now in
    c.idle_choice.ensures
    ∙ sym (either f (filter (is_overdue c.args.debts.now) ranks) (filter (is_idly_forced c.args.pending.now.waiting c.args.debts.now) ranks) false
    (ap is_something (sym c.overdue_choice-overdue.ensures) ∙ sym c.is_something.ensures ∙ c.if-is_something.false))
