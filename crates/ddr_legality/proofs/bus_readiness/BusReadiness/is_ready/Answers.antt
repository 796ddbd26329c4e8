-- The command's rank tells.
use Rattle.std.proofs.Common.{◌≡◌, ◌≢◌, is_none, sym, ap, subst, arith, ◌∙◌}
use Rattle.ddr_timing.specs.declared.config.Config.{Config}
use Rattle.ddr_trace.specs.Commands.{entry, rank_of}
use Rattle.ddr_rank.specs.Stands.{StandsFor, lowest_on_rank}
use Rattle.ddr_legality.proofs.RankLemmas.{second_rank}
use Rattle.ddr_legality.proofs.bus_readiness.BusReadiness.is_ready.Goals as goal

pub returns-in-0 : goal.returns-in-0
returns-in-0 c = λ history issued after.
    let i = c.args.self.now in
    let e = entry c.args.cycle c.args.command.now in
    let own : rank_of e.command ≡ 0 = cc in
    c.is_ready.ensures history (subst (λ n. StandsFor i.first n history) (sym own) issued.first) after
    ∙ ap (λ (g : Config). is_none (lowest_on_rank g history e)) i.first_config

pub returns-in_default : goal.returns-in_default
returns-in_default c = λ history issued after.
    let i = c.args.self.now in
    let e = entry c.args.cycle c.args.command.now in
    let apart : rank_of e.command ≢ 0 = omega arith in
    let own : rank_of e.command ≡ 1 = second_rank i.config.geometry e.command c.requires.placed apart in
    c.is_ready-in_default.ensures history (subst (λ n. StandsFor i.second n history) (sym own) issued.second) after
    ∙ ap (λ (g : Config). is_none (lowest_on_rank g history e)) i.second_config
