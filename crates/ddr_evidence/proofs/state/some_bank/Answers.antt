-- Some bank of the rank passes, or none.
use Rattle.std.proofs.Common.{◌≡◌, is_some, subst, ◌∙◌}
use Rattle.ddr_trace.specs.Banks.{any_bank, bank_behind}
use Rattle.ddr_evidence.specs.Evidence.{bank_test}
use Rattle.ddr_evidence.proofs.FindLemmas.{first_is_any}
use Rattle.ddr_evidence.proofs.state.some_bank.Goals as goal

pub returns : goal.returns
returns c =
    let config = c.args.config.now in
    let history = c.args.history.now in
    let cycle = c.args.entry.now.cycle in
    c.is_some.ensures
    ∙ subst (λ r. is_some c.first_bank.result ≡ any_bank config.geometry r (λ bank. bank_test c.args.test config.timing cycle (bank_behind bank history))) c.rank.ensures
    (first_is_any config c.rank.result history (bank_test c.args.test config.timing cycle) c.first_bank.result c.first_bank.ensures)
