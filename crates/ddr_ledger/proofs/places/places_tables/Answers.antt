use Rattle.std.proofs.Common.{arith}
use Rattle.std.proofs.lemmas.Grind.{common_steps}
use Rattle.ddr_statistics.proofs.TextLemmas.{next_text}
use Rattle.ddr_world.specs.Kept.{state_of}
use Rattle.ddr_ledger.specs.Numbers.{is_spent}
use Rattle.ddr_ledger.specs.Places.{places_at}
use Rattle.ddr_ledger.proofs.NumberLemmas.{none_at}
use Rattle.ddr_ledger.proofs.places.places_tables.Goals as goal

pub places_at-requires-clause-running : goal.places_at-requires-clause-running
places_at-requires-clause-running c = none_at (is_spent (state_of c.args.world.now)) c.args.channels c.loop-channel.channel c.loop-channel-test.true c.requires.running

pub loop-channel-preserved : goal.loop-channel-preserved
loop-channel-preserved c = grind (arith, common_steps, next_text (places_at (state_of c.args.world.now)) c.loop-channel.channel)
