-- The trace of a channel that is there.
use Rattle.std.proofs.Common.{ℕ, List, OnOk, subst, sym, ◌∙◌}
use Rattle.std.proofs.KnownBytes.{Appends-nil}
use Rattle.std.specs.Io.KnownBytes.{Appends}
use Rattle.ddr_world.specs.Kept.{state_of}
use Rattle.ddr_sim.specs.Runs.{channel_text}
use Rattle.ddr_sim.specs.Simulated.{Simulated}
use Rattle.ddr_sim.proofs.Courses.{channel_absent, channel_there}
use Rattle.ddr_sim.proofs.simulation.Simulation.write_trace.Goals as goal

pub returns-in_default-clause-written : goal.returns-in_default-clause-written
returns-in_default-clause-written g c =
    let old = g.W.Write.contents c.args.writer.now in
    subst (λ (s : Simulated). Appends old old (channel_text (state_of s.world) c.args.channel)) c.self.view_is
    (subst (Appends old old) (sym (channel_absent c.self.inside.world c.args.channel c.in_default.ensures.value)) (Appends-nil old))

pub returns-clause-written : goal.returns-clause-written
returns-clause-written g c =
    let old = g.W.Write.contents c.args.writer.now in
    let new = g.W.Write.contents c.write_bytes.new.writer in
    let k = c.in-Some.channel.now in
    subst (λ (s : Simulated). OnOk c.write_bytes.result (Appends old new (channel_text (state_of s.world) c.args.channel))) c.self.view_is
    (subst (λ (text : List ℕ). OnOk c.write_bytes.result (Appends old new text)) (c.as_slice.ensures.value ∙ c.in_ok-text.ensures.text ∙ sym (channel_there c.self.inside.world c.args.channel k c.in-Some.ensures.value)) c.write_bytes.ensures.written)
