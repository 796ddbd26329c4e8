-- A bank outside the geometry was never opened.
use Rattle.std.proofs.Common.{inl, inr, sym, ap, arith}
use Rattle.ddr_trace.specs.Banks.{ready_row}
use Rattle.ddr_rank.proofs.OpenLemmas.{outside_idle}
use Rattle.ddr_rank.proofs.rank.Rank.ready_row.Goals as goal
use Rattle.ddr_rank.proofs.rank.Rank.ready_row.Goals.{then-group-self-via-then-group-self, then-group-self-via-else-group-self+then-bank-ge-GROUP_BANKS}

pub returns-then-group-self : goal.returns-then-group-self
returns-then-group-self c =
    rw (← c.self.view_is)
    (λ rank history stands. sym (ap ready_row (outside_idle c.self.inside.config.geometry rank c.args.group c.args.bank history stands.placed
    (elim c.then-group-self.branch [
      | then-group-self-via-then-group-self w ↦ inl (omega arith)
      | then-group-self-via-else-group-self+then-bank-ge-GROUP_BANKS w ↦ inr (omega arith)
    ]))))
