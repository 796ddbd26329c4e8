-- Whether a rank has to be refreshed, by which of them have to be.
use Rattle.ddr_arbiter.proofs.quiet.rest_of.Goals as goal

pub returns-clause-must_refresh : goal.returns-clause-must_refresh
returns-clause-must_refresh c = c.is_any.ensures c.args.pending.now.waiting c.args.debts.now c.forced_ranks-forced.ensures
