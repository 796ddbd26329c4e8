-- No command was issued.
use Rattle.std.proofs.Common.{rules}
use Rattle.ddr_counting.proofs.NotingLemmas.{noted_still}
use Rattle.ddr_world.specs.Kept.{state_of}
use Rattle.ddr_replay.proofs.replaying.Replaying.collect.Goals as goal

pub invariant_of-self : goal.invariant_of-self
invariant_of-self c =
    let a = c.self.inside in
    let noted = noted_still a.config (state_of a.world) (state_of c.collect.new.world) a.books.noting c.self.invariant.noted c.collect.ensures.traces in
    search (rules, noted)
