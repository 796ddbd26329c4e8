-- Each step gives what the definition does, and that is lawful.
use Rattle.std.proofs.Common.{List, ℕ, sym, ◌∙◌, ap}
use Rattle.ddr_arbiter.specs.Choice.{candidates, column_place, is_something, row_choice}
use Rattle.ddr_arbiter.specs.Situation.{Situation, situation}
use Rattle.ddr_arbiter.proofs.ChoiceLemmas.{refresh_chosen, column_chosen, row_chosen}
use Rattle.ddr_arbiter.proofs.LawLemmas.{lawful_where}
use Rattle.ddr_arbiter.proofs.choice.choose.Goals as goal

pub returns-then-is_something : goal.returns-then-is_something
returns-then-is_something c =
    let s : Situation = situation c.args.pending.now c.args.legality.now c.args.debts.now c.args.policy.now c.args.drain c.args.room in
    let is = c.refresh_choice-refresh.ensures ∙ refresh_chosen s (ap is_something (sym c.refresh_choice-refresh.ensures) ∙ sym c.is_something.ensures ∙ c.if-is_something.true) in
    record { exact = is; lawful = lawful_where s _ is }

pub returns-in-Some : goal.returns-in-Some
returns-in-Some c =
    let s : Situation = situation c.args.pending.now c.args.legality.now c.args.debts.now c.args.policy.now c.args.drain c.args.room in
    let free = ap is_something (sym c.refresh_choice-refresh.ensures) ∙ sym c.is_something.ensures ∙ c.if-is_something.false in
    let places =
    sym (c.candidates-candidates.ensures.places c.args.debts.now c.forced_ranks-forced.ensures)
    ∙ ap (λ (now : ℕ). candidates now c.args.policy.now.cap c.args.drain c.args.pending.now.waiting c.args.debts.now) c.now.ensures.value in
    let found = c.in-Some.ensures ∙ ap (λ (ps : List ℕ). column_place c.args.legality.now.bus c.args.pending.now.waiting ps c.args.room) places in
    let is = c.column_choice.ensures ∙ column_chosen s c.in-Some.place free found in
    record { exact = is; lawful = lawful_where s _ is }

pub returns-in-None : goal.returns-in-None
returns-in-None c =
    let s : Situation = situation c.args.pending.now c.args.legality.now c.args.debts.now c.args.policy.now c.args.drain c.args.room in
    let free = ap is_something (sym c.refresh_choice-refresh.ensures) ∙ sym c.is_something.ensures ∙ c.if-is_something.false in
    let places =
    sym (c.candidates-candidates.ensures.places c.args.debts.now c.forced_ranks-forced.ensures)
    ∙ ap (λ (now : ℕ). candidates now c.args.policy.now.cap c.args.drain c.args.pending.now.waiting c.args.debts.now) c.now.ensures.value in
    let none = c.in-None.ensures ∙ ap (λ (ps : List ℕ). column_place c.args.legality.now.bus c.args.pending.now.waiting ps c.args.room) places in
    let is = c.row_choice.ensures ∙ ap (λ (ps : List ℕ). row_choice c.args.legality.now.bus c.args.pending.now.waiting ps) places ∙ row_chosen s free none in
    record { exact = is; lawful = lawful_where s _ is }
