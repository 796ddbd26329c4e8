-- The statistics of all commands of the channel's trace, up to its clock.
use Rattle.std.proofs.Common.{◌≡◌, ℕ, ap, sym, subst, ◌∙◌}
use Rattle.ddr_timing.specs.declared.geometry.Geometry.{Geometry}
use Rattle.ddr_timing.specs.declared.timing.Timing.{Timing}
use Rattle.ddr_statistics.specs.Background.{active_clocks, idle_clocks, refresh_clocks}
use Rattle.ddr_statistics.specs.Debts.{IsInOrder, debt_most}
use Rattle.ddr_ledger.proofs.places.rank_numbers.Goals as goal

pub returns : goal.returns
returns c =
    let channel = c.args.channel.now in
    let trace = channel.trace in
    let rank = c.args.rank in
    let made = c.all_are_counted.ensures in
    let s = c.args.statistics.now in
    let order = subst (λ n. IsInOrder n trace) (sym c.now-end.ensures.value) made.order in
    let told : (f : Timing → Geometry → ℕ → ℕ → ℕ) → f s.timing s.geometry s.start c.now-end.result ≡ f channel.config.timing channel.config.geometry 0 channel.now =
    λ f. ap (λ n. f s.timing s.geometry s.start n) c.now-end.ensures.value
    ∙ ap (λ (t : Timing). f t s.geometry s.start channel.now) made.timing
    ∙ ap (λ (g : Geometry). f channel.config.timing g s.start channel.now) made.geometry
    ∙ ap (λ n. f channel.config.timing channel.config.geometry n channel.now) made.start in
    let most = c.refresh_debt_most.ensures.counted trace made.stands made.few order ∙ told (λ t g start end. debt_most t.refi start end rank trace) in
    let active = c.active_clocks.ensures.counted trace made.stands order ∙ told (λ t g start end. active_clocks t g start end rank trace) in
    let refresh = c.refresh_clocks.ensures.counted trace made.stands order ∙ told (λ t g start end. refresh_clocks t g start end rank trace) in
    let idle = c.idle_clocks.ensures.counted trace made.stands order ∙ told (λ t g start end. idle_clocks t g start end rank trace) in
    let counts = c.rank.ensures.counted trace made.stands in
    λ i. record { refresh_debt_most = most i; active_clocks = active i; refresh_clocks = refresh i; idle_clocks = idle i; counts = counts i }
