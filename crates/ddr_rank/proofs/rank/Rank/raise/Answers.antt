-- The parts are raised, and so the first cycles that contracts see.
use Rattle.std.proofs.Common.{sym, ◌∙◌}
use Rattle.ddr_rank.proofs.PartLemmas.{groups_fit, ready_raised, ready_size}
use Rattle.ddr_rank.proofs.rank.Rank.raise.Goals as goal

pub returns-clause-raised : goal.returns-clause-raised
returns-clause-raised c =
    let old = c.self.inside.first_cycles in
    let new = c.raise.new.self in
    let up = c.raise.ensures in
    rw (← c.self.view_is) record {
      size = ready_size new ∙ up.size ∙ sym (ready_size old);
      banks = ready_raised c.self.inside.config.timing c.args.entry.now.cycle c.args.entry.now.command old new c.self.inside.config.geometry.groups c.self.invariant.first_cycles (groups_fit c.self.inside.config.geometry) up;
      all = up.of_all;
    }
