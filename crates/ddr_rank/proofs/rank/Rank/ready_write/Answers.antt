use Rattle.std.proofs.Common.{ap, ◌∙◌}
use Rattle.ddr_rank.proofs.PartLemmas.{bank_told}
use Rattle.ddr_rank.specs.declared.ready.Ready.{Ready}
use Rattle.ddr_rank.proofs.rank.Rank.ready_write.Goals as goal

pub returns : goal.returns
returns c =
    let group = rw (← c.self.view_is) at c.requires.group_in in
    rw (← c.self.view_is)
    (c.max.ensures ∙ ap (λ (r : Ready). r.write) (bank_told c.self.inside.first_cycles c.self.inside.config.geometry.groups c.args.group c.args.bank c.number_in_rank.result c.index.result.now c.self.invariant.first_cycles group c.requires.bank_in c.number_in_rank.ensures c.index.ensures))
