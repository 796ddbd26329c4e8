-- A line is taken where the slot of its number waits for it.
use Rattle.std.proofs.Common.{◌≡◌, ◌+◌, ◌<◌, ◌∙◌, ap, arith, refl, subst, sym}
use Rattle.ddr_reorder.specs.Sound.{IsSound}
use Rattle.ddr_reorder.specs.State.{after_fill, awaits}
use Rattle.ddr_reorder.specs.View.{has_line, state_of}
use Rattle.ddr_reorder.proofs.Fills.{awaits_at, awaits_below, filled_slot, state_filled, waiting_slot, whole_filled}
use Rattle.ddr_reorder.proofs.Prefix.{prefix_len-set}
use Rattle.ddr_reorder.proofs.Ready.{first_is, first_of}
use Rattle.ddr_reorder.proofs.Wholes.{sound_whole}
use Rattle.ddr_reorder.proofs.reorder.Reorder.fill.Goals as goal

pub returns-in_default-clause-awaited : goal.returns-in_default-clause-awaited
returns-in_default-clause-awaited c =
    let a = c.self.inside in
    let first = first_is a c.args.self.now c.first.result c.self.invariant c.self.view_is c.first.ensures in
    let below : c.args.number < first_of a = omega (arith, c.in_default.ensures) in
    awaits_below a c.args.number c.args.echo below ∙ ap (λ s. awaits s c.args.number c.args.echo) c.self.view_is

pub returns-in_default-clause-sound : goal.returns-in_default-clause-sound
returns-in_default-clause-sound c = subst IsSound c.self.view_is (sound_whole c.self.inside c.self.invariant)

pub filled_prefix-self-inside-requires : goal.filled_prefix-self-inside-requires
filled_prefix-self-inside-requires c =
    let a = c.self.inside in
    let more = prefix_len-set has_line a.slots.items c.in-Some.index (filled_slot c.args.echo (record { service = c.args.service; line = c.args.line })) refl in
    rw c.in-Ok.ensures.ok (omega (arith, c.self.invariant.ready))

pub invariant_of-self : goal.invariant_of-self
invariant_of-self c =
    let a = c.self.inside in
    let waiting = waiting_slot a c.in-Some.index c.args.echo c.in-Ok.ensures.waited in
    whole_filled a _ c.in-Some.index c.args.echo waiting.0 (record { service = c.args.service; line = c.args.line }) c.self.invariant waiting.1 refl c.in-Ok.ensures.ok c.filled_prefix-self-inside.ensures refl

pub returns-in-Ok-clause-awaited : goal.returns-in-Ok-clause-awaited
returns-in-Ok-clause-awaited c =
    let a = c.self.inside in
    let first = first_is a c.args.self.now c.first.result c.self.invariant c.self.view_is c.first.ensures in
    let at : first_of a + c.in-Some.index ≡ c.args.number = omega (arith, c.in-Some.ensures) in
    awaits_at a c.args.number c.in-Some.index c.args.echo _ at c.in-Ok.ensures.waited
    ∙ ap (λ s. awaits s c.args.number c.args.echo) c.self.view_is

pub returns-in-Ok-clause-ok : goal.returns-in-Ok-clause-ok
returns-in-Ok-clause-ok c =
    let a = c.self.inside in
    let first = first_is a c.args.self.now c.first.result c.self.invariant c.self.view_is c.first.ensures in
    let at : first_of a + c.in-Some.index ≡ c.args.number = omega (arith, c.in-Some.ensures) in
    let waiting = waiting_slot a c.in-Some.index c.args.echo c.in-Ok.ensures.waited in
    let b = record a { slots = c.put_line.new.slots; ready = c.filled_prefix-self-inside.result } in
    state_filled a b c.args.number c.in-Some.index c.args.echo waiting.0 (record { service = c.args.service; line = c.args.line }) waiting.1 at refl c.in-Ok.ensures.ok
    ∙ ap (after_fill c.args.number c.args.service c.args.line.value) c.self.view_is

pub returns-in-Ok-clause-sound : goal.returns-in-Ok-clause-sound
returns-in-Ok-clause-sound c = sound_whole _ (invariant_of-self c)

pub returns-in-Err-clause-awaited : goal.returns-in-Err-clause-awaited
returns-in-Err-clause-awaited c =
    let a = c.self.inside in
    let first = first_is a c.args.self.now c.first.result c.self.invariant c.self.view_is c.first.ensures in
    let at : first_of a + c.in-Some.index ≡ c.args.number = omega (arith, c.in-Some.ensures) in
    awaits_at a c.args.number c.in-Some.index c.args.echo _ at c.in-Err.ensures.waited
    ∙ ap (λ s. awaits s c.args.number c.args.echo) c.self.view_is

pub returns-in-Err-clause-sound : goal.returns-in-Err-clause-sound
returns-in-Err-clause-sound c =
    let a = c.self.inside in
    let unchanged = ap (λ slots. state_of (record a { slots = slots })) c.in-Err.ensures.err.1 in
    subst IsSound (sym unchanged) (sound_whole a c.self.invariant)
