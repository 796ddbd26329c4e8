-- A rank whose REF is not legal yet, and none of whose banks is active, waits for its REF alone.
use Rattle.std.proofs.Common.{◌∙◌, sym, arith}
use Rattle.std.proofs.lemmas.Bool.{le-leb, true≢false}
use Rattle.ddr_arbiter.proofs.WaitLemmas.{refresh_stuck}
use Rattle.ddr_arbiter.proofs.quiet.refresh_until.Goals as goal
use Rattle.ddr_arbiter.proofs.quiet.refresh_until.Goals.{then-allowed-now, else-allowed-now}

pub returns-else-may_come : goal.returns-else-may_come
returns-else-may_come c = elim c.if-allowed-now.branch [
  | then-allowed-now w ↦ absurd (true≢false (sym (le-leb c.allowed_at-allowed.result c.now-now.result w.if-allowed-now.true) ∙ sym w.may_come-is ∙ c.if-may_come.false))
  | else-allowed-now w ↦
      refresh_stuck c.args.legality.now.bus c.args.rank c.allowed_at-allowed.result (sym w.is_active-may_come.ensures ∙ sym w.may_come-is ∙ c.if-may_come.false)
      (omega (arith, c.allowed_at-allowed.type_inv)) c.allowed_at-allowed.ensures.legal
]
