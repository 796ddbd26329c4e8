-- One channel more.
use Rattle.std.proofs.Common.{arith, below_more}
use Rattle.ddr_replay.specs.Laws.{IsLegalAt}
use Rattle.ddr_replay.proofs.laws.all_are_legal.Goals as goal

pub loop-channel-preserved : goal.loop-channel-preserved
loop-channel-preserved c = below_more (λ n. IsLegalAt c.args.world.now n) c.loop-channel.channel c.loop-channel.invariant c.is_legal_at.ensures

pub returns : goal.returns
returns c = λ n below. c.loop-channel.invariant n (omega (arith, below, c.loop-channel-test.false))
