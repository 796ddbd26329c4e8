-- What is answered of REF tells whether a bank is active.
use Rattle.std.proofs.Common.{sym}
use Rattle.ddr_arbiter.proofs.CommandLemmas.{legal_from_none}
use Rattle.ddr_arbiter.proofs.RefreshLemmas.{legal_idle, other_idle, state_active}
use Rattle.ddr_arbiter.proofs.refresh.is_active.Goals as goal

pub returns-in-Ok : goal.returns-in-Ok
returns-in-Ok c = sym (legal_idle c.args.legality.now.bus c.args.rank (legal_from_none c.args.legality.now.bus _ c.in-Ok.ensures.lowest))

pub returns-in-State : goal.returns-in-State
returns-in-State c = sym (state_active c.args.legality.now.bus c.args.rank (rw c.in-State.is at c.in-Err.ensures.lowest))

pub returns-in_default : goal.returns-in_default
returns-in_default c = sym (other_idle c.args.legality.now.bus c.args.rank c.in-Err.rule c.in_default.not-State c.in-Err.ensures.lowest c.requires)
