-- The command's rank tells.
use Rattle.std.proofs.Common.{◌≡◌, ◌≢◌, sym, ap, subst, arith, ◌∙◌}
use Rattle.ddr_timing.specs.declared.config.Config.{Config}
use Rattle.ddr_trace.specs.Commands.{entry, rank_of}
use Rattle.ddr_rank.specs.Distances.{keeps_distances}
use Rattle.ddr_rank.specs.Stands.{StandsFor}
use Rattle.ddr_legality.proofs.RankLemmas.{second_rank}
use Rattle.ddr_legality.proofs.bus_readiness.BusReadiness.allowed_on_rank.Goals as goal

pub returns-in-0-clause-first : goal.returns-in-0-clause-first
returns-in-0-clause-first c = λ history cycle issued begun below.
    let i = c.args.self.now in
    let own : rank_of c.args.command.now ≡ 0 = cc in
    sym (ap (λ (g : Config). keeps_distances g history (entry cycle c.args.command.now)) i.first_config)
    ∙ c.allowed_at.ensures.first history cycle (subst (λ n. StandsFor i.first n history) (sym own) issued.first) begun below

pub returns-in_default-clause-first : goal.returns-in_default-clause-first
returns-in_default-clause-first c = λ history cycle issued begun below.
    let i = c.args.self.now in
    let apart : rank_of c.args.command.now ≢ 0 = omega arith in
    let own : rank_of c.args.command.now ≡ 1 = second_rank i.config.geometry c.args.command.now c.requires apart in
    sym (ap (λ (g : Config). keeps_distances g history (entry cycle c.args.command.now)) i.second_config)
    ∙ c.allowed_at-in_default.ensures.first history cycle (subst (λ n. StandsFor i.second n history) (sym own) issued.second) begun below
