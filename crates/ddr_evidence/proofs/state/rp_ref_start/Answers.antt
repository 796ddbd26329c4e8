-- Some bank of the rank has an auto-precharge that isn't over for so long, or none.
use Rattle.std.proofs.Common.{rules, ◌≡◌, false, true, sym, ap, subst, is_some, ◌∙◌}
use Rattle.ddr_trace.specs.Banks.{any_bank, bank_behind, is_auto_within}
use Rattle.ddr_trace.specs.Commands.{is_refresh}
use Rattle.ddr_evidence.proofs.FindLemmas.{and_both, and_none, any_bank_none, any_bank_some}
use Rattle.ddr_evidence.proofs.state.rp_ref_start.Goals as goal

pub returns-in_err-number-clause-broken : goal.returns-in_err-number-clause-broken
returns-in_err-number-clause-broken c =
    ap is_some c.from_residual.ensures
    ∙ sym (and_none _ _ (subst (λ r. any_bank c.args.config.now.geometry r (λ bank. is_auto_within c.args.config.now.timing c.args.config.now.timing.rp c.args.entry.now.cycle (bank_behind bank c.args.history.now)) ≡ false) c.rank-rank.ensures
    (any_bank_none c.args.config.now.geometry c.rank-rank.result (λ bank. is_auto_within c.args.config.now.timing c.args.config.now.timing.rp c.args.entry.now.cycle (bank_behind bank c.args.history.now)) c.in_err-number.ensures)))

pub returns-clause-broken : goal.returns-clause-broken
returns-clause-broken c =
    let within : is_some c.start_of.result ≡ true =
    c.start_of.ensures.broken ∙ ap (λ b. is_auto_within c.args.config.now.timing c.args.config.now.timing.rp c.args.entry.now.cycle (bank_behind b c.args.history.now)) c.bank_at.ensures ∙ c.in_ok-number.ensures.passes in
    let refresh : is_refresh c.args.entry.now.command ≡ true = search rules in
    let some = subst (λ r. any_bank c.args.config.now.geometry r (λ bank. is_auto_within c.args.config.now.timing c.args.config.now.timing.rp c.args.entry.now.cycle (bank_behind bank c.args.history.now)) ≡ true) c.rank-rank.ensures
    (any_bank_some c.args.config.now.geometry c.rank-rank.result (λ bank. is_auto_within c.args.config.now.timing c.args.config.now.timing.rp c.args.entry.now.cycle (bank_behind bank c.args.history.now)) c.in_ok-number.number c.in_ok-number.ensures.inside c.in_ok-number.ensures.passes) in
    within ∙ sym (and_both _ _ refresh some)
