-- The statistics are those of the whole trace.
use Rattle.std.proofs.Common.{ℕ, ap, ap₂, sym, subst, ◌∙◌}
use Rattle.ddr_timing.specs.declared.geometry.Geometry.{Geometry}
use Rattle.ddr_timing.specs.declared.timing.Timing.{Timing}
use Rattle.ddr_statistics.specs.declared.counts.Counts.{Counts}
use Rattle.ddr_statistics.specs.Debts.{IsInOrder, debts_most}
use Rattle.ddr_statistics.specs.Turns as turns
use Rattle.ddr_ledger.specs.declared.numbers.Numbers.{Numbers}
use Rattle.ddr_ledger.specs.Numbers.{numbers_in}
use Rattle.ddr_ledger.proofs.numbers.numbers_in.Goals as goal

pub returns-clause-counted : goal.returns-clause-counted
unfolding numbers_in
returns-clause-counted c =
    let channel = c.args.channel.now in
    let trace = channel.trace in
    let end = channel.now in
    let made = c.all_are_counted.ensures in
    let s = c.args.statistics.now in
    let numbers : ℕ → ℕ → ℕ → Counts → Numbers = λ a b m d. record { turn_rounds = a; rank_switches = b; refresh_debt_most = m; counts = d } in
    let most =
    c.refresh_debts_most.ensures.counted trace made.stands made.few (subst (λ n. IsInOrder n trace) (sym c.now-2.ensures.value) made.order)
    ∙ ap (λ n. debts_most s.timing.refi s.start n s.geometry.ranks trace) c.now-2.ensures.value
    ∙ ap₂ (λ (t : Timing) (g : Geometry). debts_most t.refi s.start end g.ranks trace) made.timing made.geometry
    ∙ ap (λ n. debts_most channel.config.timing.refi n end channel.config.geometry.ranks trace) made.start in
    ap (λ a. numbers a c.rank_switches.result c.refresh_debts_most.result c.total.result) (c.turn_rounds.ensures.counted trace made.stands)
    ∙ ap (λ b. numbers (turns.turn_rounds trace) b c.refresh_debts_most.result c.total.result) (c.rank_switches.ensures.counted trace made.stands)
    ∙ ap (λ m. numbers (turns.turn_rounds trace) (turns.rank_switches trace) m c.total.result) most
    ∙ ap (λ (d : Counts). numbers (turns.turn_rounds trace) (turns.rank_switches trace) (debts_most channel.config.timing.refi 0 end channel.config.geometry.ranks trace) d) (c.total.ensures.counted trace made.stands)
