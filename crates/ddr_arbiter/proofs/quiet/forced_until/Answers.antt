-- What is pending and what is owed stays as it is, and nothing can be chosen for any rank that has to be refreshed or for any candidate.
use Rattle.std.proofs.Common.{◌≡◌, ℕ, ◌+◌, true, sym, subst, ap, ◌∙◌, arith}
use Rattle.ddr_arbiter.specs.Choice.{candidates, is_oldest_capped, is_rank_forced}
use Rattle.ddr_arbiter.specs.Situation.{Situation, situation}
use Rattle.ddr_arbiter.specs.Until.{IsRefreshStuckUntil}
use Rattle.ddr_arbiter.proofs.QuietLemmas.{forced_wait, quiet_empty, quiet_where}
use Rattle.ddr_arbiter.proofs.quiet.forced_until.Goals as goal

pub returns-then-len-eq0 : goal.returns-then-len-eq0
returns-then-len-eq0 c =
    let s : Situation = situation c.args.pending.now c.args.legality.now c.args.debts.now c.args.policy.now c.args.drain c.args.room in
    let wait : (rank : ℕ) → is_rank_forced s.waiting s.refreshes rank ≡ true → IsRefreshStuckUntil c.min-steady.result s.bus rank =
    forced_wait s.waiting s.refreshes c.args.forced.now s.bus c.min-steady.result c.rank_until.result c.rank_until-2.result c.requires.forced c.requires.ranks
    (omega (arith, c.min.ensures, c.min-steady.ensures)) (omega (arith, c.min-steady.ensures)) c.rank_until.ensures c.rank_until-2.ensures in
    quiet_empty s c.min-steady.result wait (λ count before. c.steady_until.ensures count (omega (arith, before, c.now-now.ensures.value, c.min.ensures, c.min-steady.ensures)))
    (sym c.len.ensures.exact ∙ c.if-len-eq0.true)

pub returns : goal.returns
returns c =
    let s : Situation = situation c.args.pending.now c.args.legality.now c.args.debts.now c.args.policy.now c.args.drain c.args.room in
    let wait : (rank : ℕ) → is_rank_forced s.waiting s.refreshes rank ≡ true → IsRefreshStuckUntil c.stuck_until.result s.bus rank =
    forced_wait s.waiting s.refreshes c.args.forced.now s.bus c.stuck_until.result c.rank_until.result c.rank_until-2.result c.requires.forced c.requires.ranks
    (omega (arith, c.min.ensures, c.min-steady.ensures, c.stuck_until.ensures.end, c.min-end.ensures)) (omega (arith, c.min-steady.ensures, c.stuck_until.ensures.end, c.min-end.ensures))
    c.rank_until.ensures c.rank_until-2.ensures in
    quiet_where s c.candidates-candidates.result c.stuck_until.result wait
    (λ count before. c.steady_until.ensures count (omega (arith, before, c.now-now.ensures.value, c.stuck_until.ensures.end, c.min-end.ensures, c.min.ensures, c.min-steady.ensures)))
    (λ count before. subst (λ (now : ℕ). is_oldest_capped (now + count) s.policy.cap s.waiting ≡ is_oldest_capped now s.policy.cap s.waiting) c.now-now.ensures.value
    (c.age_steady_until.ensures count (omega (arith, before, c.now-now.ensures.value, c.stuck_until.ensures.end, c.min-end.ensures))))
    (ap (λ (now : ℕ). candidates now s.policy.cap s.drain s.waiting s.refreshes) (sym c.now-now.ensures.value) ∙ c.candidates-candidates.ensures.places s.refreshes c.requires.forced)
    c.stuck_until.ensures.stuck
