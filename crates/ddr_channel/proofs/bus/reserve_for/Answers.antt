-- A legal ACT is of a bank and a row that are there.
use Rattle.std.proofs.Common.{◌≡◌, true, subst}
use Rattle.ddr_trace.specs.declared.command.Command.{Command}
use Rattle.ddr_trace.specs.Rules.{is_in}
use Rattle.ddr_channel.proofs.IssueLemmas.{act_there, placed_in}
use Rattle.ddr_channel.proofs.bus.reserve_for.Goals as goal

pub number-requires-clause-rank_in : goal.number-requires-clause-rank_in
number-requires-clause-rank_in c =
    let placed = placed_in c.args.config.now c.args.legality.now.bus c.args.command c.requires.of_config c.requires.legal in
    let act = subst (λ (x : Command). is_in c.args.config.now.geometry x ≡ true) c.in-Act.is placed in
    (act_there c.args.config.now c.args.legality.now.bus.trace c.args.rows.now c.in-Act.rank c.in-Act.group c.in-Act.bank c.in-Act.row c.requires.agrees act).bank_in.0

pub number-requires-clause-group_in : goal.number-requires-clause-group_in
number-requires-clause-group_in c =
    let placed = placed_in c.args.config.now c.args.legality.now.bus c.args.command c.requires.of_config c.requires.legal in
    let act = subst (λ (x : Command). is_in c.args.config.now.geometry x ≡ true) c.in-Act.is placed in
    (act_there c.args.config.now c.args.legality.now.bus.trace c.args.rows.now c.in-Act.rank c.in-Act.group c.in-Act.bank c.in-Act.row c.requires.agrees act).bank_in.1

pub number-requires-clause-bank_in : goal.number-requires-clause-bank_in
number-requires-clause-bank_in c =
    let placed = placed_in c.args.config.now c.args.legality.now.bus c.args.command c.requires.of_config c.requires.legal in
    let act = subst (λ (x : Command). is_in c.args.config.now.geometry x ≡ true) c.in-Act.is placed in
    (act_there c.args.config.now c.args.legality.now.bus.trace c.args.rows.now c.in-Act.rank c.in-Act.group c.in-Act.bank c.in-Act.row c.requires.agrees act).bank_in.2

pub ensure-requires-clause-row_in : goal.ensure-requires-clause-row_in
ensure-requires-clause-row_in c =
    let placed = placed_in c.args.config.now c.args.legality.now.bus c.args.command c.requires.of_config c.requires.legal in
    let act = subst (λ (x : Command). is_in c.args.config.now.geometry x ≡ true) c.in-Act.is placed in
    (act_there c.args.config.now c.args.legality.now.bus.trace c.args.rows.now c.in-Act.rank c.in-Act.group c.in-Act.bank c.in-Act.row c.requires.agrees act).row_in
