use Rattle.std.proofs.Common.{arith}
use Rattle.ddr_workers.proofs.PortLemmas.{may_end, still_finished, one_end_more, held_up}
use Rattle.ddr_workers.proofs.port.Port.end_all.Goals as goal

pub end-requires-clause-finished : goal.end-requires-clause-finished
end-requires-clause-finished g c = still_finished c.args.self.now c.loop-channel.self c.loop-channel.channel c.requires c.loop-channel.invariant.state

pub end-requires-clause-missing : goal.end-requires-clause-missing
end-requires-clause-missing g c =
    may_end c.args.self.now c.loop-channel.self c.loop-channel.channel c.loop-channel.invariant.begun (omega (arith, c.loop-channel-test.true, c.channels-channel-end.ensures)) c.loop-channel.invariant.state

pub returns-in-Err-clause-err : goal.returns-in-Err-clause-err
returns-in-Err-clause-err g c =
    held_up c.args.self.now c.loop-channel.self c.end.new.self c.loop-channel.channel c.loop-channel.invariant.begun (omega (arith, c.loop-channel-test.true, c.channels-channel-end.ensures))
    c.loop-channel.invariant.state c.in-Err.ensures.full c.in-Err.ensures.err

pub loop-channel-preserved : goal.loop-channel-preserved
loop-channel-preserved g c = record {
  begun = omega (arith, c.loop-channel.invariant.begun);
  state = one_end_more c.args.self.now c.loop-channel.self c.end.new.self c.loop-channel.channel c.loop-channel.invariant.begun c.loop-channel.invariant.state c.in-Ok.ensures.ok;
}
