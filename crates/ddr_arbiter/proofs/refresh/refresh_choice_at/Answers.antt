-- A legal REF finds all banks idle.
use Rattle.std.proofs.Common.{◌∙◌, sym}
use Rattle.ddr_arbiter.proofs.RefreshLemmas.{refresh_legal}
use Rattle.ddr_arbiter.proofs.refresh.refresh_choice_at.Goals as goal

pub returns-then-is_legal : goal.returns-then-is_legal
returns-then-is_legal c = refresh_legal c.args.legality.now.bus c.args.rank (sym c.is_legal.ensures ∙ c.if-is_legal.true)
