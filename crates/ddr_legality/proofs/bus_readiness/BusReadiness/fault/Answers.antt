-- The command's rank tells.
use Rattle.std.proofs.Common.{◌≡◌, ◌≢◌, sym, ap, subst, arith, ◌∙◌}
use Rattle.ddr_timing.specs.declared.config.Config.{Config}
use Rattle.ddr_trace.specs.Commands.{rank_of}
use Rattle.ddr_rank.specs.Stands.{StandsFor, lowest_on_rank}
use Rattle.ddr_legality.proofs.RankLemmas.{second_rank}
use Rattle.ddr_legality.proofs.bus_readiness.BusReadiness.fault.Goals as goal

pub returns-in-0 : goal.returns-in-0
returns-in-0 c = λ history issued after.
    let i = c.args.self.now in
    let e = c.args.entry.now in
    let own : rank_of e.command ≡ 0 = cc in
    c.fault.ensures history (subst (λ n. StandsFor i.first n history) (sym own) issued.first) after
    ∙ ap (λ (g : Config). lowest_on_rank g history e) i.first_config

pub returns-in_default : goal.returns-in_default
returns-in_default c = λ history issued after.
    let i = c.args.self.now in
    let e = c.args.entry.now in
    let apart : rank_of e.command ≢ 0 = omega arith in
    let own : rank_of e.command ≡ 1 = second_rank i.config.geometry e.command c.requires apart in
    c.fault-in_default.ensures history (subst (λ n. StandsFor i.second n history) (sym own) issued.second) after
    ∙ ap (λ (g : Config). lowest_on_rank g history e) i.second_config
