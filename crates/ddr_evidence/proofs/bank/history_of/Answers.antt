-- With no ACT of the bank it is idle, and nothing changed it.
use Rattle.std.proofs.Common.{sym}
use Rattle.ddr_evidence.proofs.BackLemmas.{never_changed, never_opened}
use Rattle.ddr_evidence.proofs.bank.history_of.Goals as goal

pub returns-in-None-clause-bank : goal.returns-in-None-clause-bank
returns-in-None-clause-bank c = sym (never_opened c.args.command.now c.args.history.now c.in-None.ensures.none)

pub returns-in-None-clause-changed : goal.returns-in-None-clause-changed
returns-in-None-clause-changed c = never_changed c.args.command.now c.args.history.now c.in-None.ensures.none
