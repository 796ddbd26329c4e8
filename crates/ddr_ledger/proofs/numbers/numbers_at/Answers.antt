-- The channel's numbers are those of its trace, by its statistics.
use Rattle.std.proofs.Common.{◌≡◌, IfOk, sym, subst}
use Rattle.ddr_counting.proofs.NotingLemmas.{noted_of}
use Rattle.ddr_ledger.specs.declared.numbers.Numbers.{Numbers}
use Rattle.ddr_ledger.proofs.NumberLemmas.{end_told, numbers_absent, numbers_there, running_told, spent_absent, spent_there}
use Rattle.ddr_ledger.proofs.numbers.numbers_at.Goals as goal

pub numbers_in-requires : goal.numbers_in-requires
numbers_in-requires c =
    noted_of c.args.world.now c.args.noting.now c.args.number c.in-Some.channel.now c.at.result.now c.requires c.at.ensures c.in-Some.ensures.value c.in-Some.ensures.config

pub returns-in-Some-clause-counted : goal.returns-in-Some-clause-counted
returns-in-Some-clause-counted c =
    subst (λ (x : Numbers). IfOk c.numbers_in.result (λ n. n ≡ x)) (sym (numbers_there c.args.world.now c.args.number c.in-Some.channel.now c.in-Some.ensures.value)) c.numbers_in.ensures.counted

pub returns-in-Some-clause-running : goal.returns-in-Some-clause-running
returns-in-Some-clause-running c =
    running_told c.numbers_in.result c.in-Some.channel.now.now _ (spent_there c.args.world.now c.args.number c.in-Some.channel.now c.in-Some.ensures.value) c.numbers_in.ensures.running

pub returns-in-Some-clause-spent : goal.returns-in-Some-clause-spent
returns-in-Some-clause-spent c =
    end_told c.numbers_in.result c.in-Some.channel.now.now _ (spent_there c.args.world.now c.args.number c.in-Some.channel.now c.in-Some.ensures.value) c.numbers_in.ensures.spent

pub returns-in-None-clause-counted : goal.returns-in-None-clause-counted
returns-in-None-clause-counted c = sym (numbers_absent c.args.world.now c.args.number c.in-None.ensures.value)

pub returns-in-None-clause-running : goal.returns-in-None-clause-running
returns-in-None-clause-running c = spent_absent c.args.world.now c.args.number c.in-None.ensures.value
