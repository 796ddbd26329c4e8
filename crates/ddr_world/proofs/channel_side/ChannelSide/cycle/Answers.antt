-- A cycle that was made, with what it told, and one that memory stopped.
use Rattle.std.proofs.Common.{◌≡◌, ◌∙◌, Ok, IfErr, IsTrue, ap, subst}
use Rattle.ddr_channel.specs.Kept as channel
use Rattle.ddr_channel.specs.Room.{wants_memory}
use Rattle.ddr_channel.specs.Told.{issued_in, with_issued}
use Rattle.ddr_world.specs.declared.event.Refusal.TheVariants.{OutOfMemory}
use Rattle.ddr_world.specs.Kept.{KeptSide, side_of}
use Rattle.ddr_world.specs.Step.{cycled}
use Rattle.ddr_world.specs.View.{channel_of}
use Rattle.ddr_world.proofs.SideLemmas.{cycled_ok, wanted}
use Rattle.ddr_world.proofs.channel_side.ChannelSide.cycle.Goals as goal

pub returns-clause-ok : goal.returns-clause-ok
returns-clause-ok c =
    let a = c.self.inside in
    subst (λ (side : KeptSide). cycled (side_of side) ≡ Ok (side_of (record (channel_of a) { channel = c.cycle_observed.new.self }))) c.self.view_is
    (cycled_ok (channel_of a) c.cycle_observed.new.self (Ok c.in_ok-issued.issued) c.in_ok-issued.ensures.ok c.in_ok-issued.ensures.spent)

pub returns-clause-told : goal.returns-clause-told
returns-clause-told c = record {
  exact = c.in_ok-issued.ensures.issued ∙ ap (λ (side : KeptSide). issued_in (channel.state_of side.channel)) c.self.view_is;
  trace = c.in_ok-issued.ensures.trace ∙ ap (λ (side : KeptSide). with_issued c.in_ok-issued.issued side.channel.trace) c.self.view_is;
}

pub returns-in_err-issued-clause-memory : goal.returns-in_err-issued-clause-memory
returns-in_err-issued-clause-memory c =
    subst (λ (side : KeptSide). IfErr c.from_residual.result (λ cause. cause ≡ OutOfMemory → IsTrue (wants_memory side.channel))) c.self.view_is
    (wanted c.self.inside.channel c.in_err-issued.field-0.0 c.from_residual.result c.in_err-issued.ensures.memory c.from_residual.ensures.1)
