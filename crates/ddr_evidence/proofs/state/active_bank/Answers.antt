-- Some bank of the rank is active, or none.
use Rattle.std.proofs.Common.{◌≡◌, false, true, sym, ap, subst, is_some, ◌∙◌}
use Rattle.ddr_trace.specs.Banks.{any_bank, bank_behind, is_active}
use Rattle.ddr_evidence.proofs.FindLemmas.{any_bank_none, any_bank_some}
use Rattle.ddr_evidence.proofs.state.active_bank.Goals as goal

pub returns-in_err-number-clause-broken : goal.returns-in_err-number-clause-broken
returns-in_err-number-clause-broken c =
    ap is_some c.from_residual.ensures
    ∙ sym (subst (λ r. any_bank c.args.config.now.geometry r (λ bank. is_active c.args.config.now.timing c.args.entry.now.cycle (bank_behind bank c.args.history.now)) ≡ false) c.rank-rank.ensures
    (any_bank_none c.args.config.now.geometry c.rank-rank.result (λ bank. is_active c.args.config.now.timing c.args.entry.now.cycle (bank_behind bank c.args.history.now)) c.in_err-number.ensures))

pub returns-clause-broken : goal.returns-clause-broken
returns-clause-broken c =
    sym (subst (λ r. any_bank c.args.config.now.geometry r (λ bank. is_active c.args.config.now.timing c.args.entry.now.cycle (bank_behind bank c.args.history.now)) ≡ true) c.rank-rank.ensures
    (any_bank_some c.args.config.now.geometry c.rank-rank.result (λ bank. is_active c.args.config.now.timing c.args.entry.now.cycle (bank_behind bank c.args.history.now)) c.in_ok-number.number c.in_ok-number.ensures.inside c.in_ok-number.ensures.passes))
