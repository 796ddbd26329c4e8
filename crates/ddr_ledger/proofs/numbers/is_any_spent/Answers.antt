-- One channel more, whose clock has not come to its end; or it has.
use Rattle.std.proofs.Common.{sym, ◌∙◌}
use Rattle.ddr_world.specs.Kept.{state_of}
use Rattle.ddr_ledger.specs.Numbers.{is_spent}
use Rattle.ddr_ledger.proofs.NumberLemmas.{none_of, some_of}
use Rattle.ddr_ledger.proofs.numbers.is_any_spent.Goals as goal

pub returns-then-is_spent : goal.returns-then-is_spent
returns-then-is_spent c = sym (some_of (is_spent (state_of c.args.world.now)) c.args.channels c.loop-channel.channel c.loop-channel-test.true (sym c.is_spent.ensures ∙ c.if-is_spent.true))

pub loop-channel-preserved : goal.loop-channel-preserved
loop-channel-preserved c = none_of (is_spent (state_of c.args.world.now)) c.loop-channel.channel c.loop-channel.invariant (sym c.is_spent.ensures ∙ c.if-is_spent.false)
