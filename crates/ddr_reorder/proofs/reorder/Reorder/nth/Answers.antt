-- What is ready has a slot, and the slot has its line.
use Rattle.std.proofs.Common.{Some, None, ◌∙◌, ap, arith, subst, sym}
use Rattle.std.specs.Option.{option_copied, option_map}
use Rattle.ddr_reorder.specs.Replies.{lent_service, nth_answer, nth_service, said}
use Rattle.ddr_reorder.specs.Sound.{IsSound}
use Rattle.std.proofs.lemmas.List.Sums.{prefix_len-le-length}
use Rattle.ddr_reorder.specs.View.{has_line}
use Rattle.ddr_reorder.proofs.Ready.{first_is, nth_past, nth_slot, service_past, service_slot, within_at}
use Rattle.ddr_reorder.proofs.Wholes.{sound_whole}
use Rattle.ddr_reorder.proofs.reorder.Reorder.nth.Goals as goal

pub returns-then-k-self-clause-answer : goal.returns-then-k-self-clause-answer
returns-then-k-self-clause-answer c = sym (nth_past c.self.inside c.args.k c.self.invariant c.if-k-self.true) ∙ ap (λ s. nth_answer s c.args.k) c.self.view_is

pub returns-then-k-self-clause-service : goal.returns-then-k-self-clause-service
returns-then-k-self-clause-service c = sym (service_past c.self.inside c.args.k c.self.invariant c.if-k-self.true) ∙ ap (λ s. nth_service s c.args.k) c.self.view_is

pub returns-then-k-self-clause-sound : goal.returns-then-k-self-clause-sound
returns-then-k-self-clause-sound c = subst IsSound c.self.view_is (sound_whole c.self.inside c.self.invariant)

pub overflow_add-number : goal.overflow_add-number
overflow_add-number c =
    let a = c.self.inside in
    let first = first_is a c.args.self.now c.first.result c.self.invariant c.self.view_is c.first.ensures in
    let within = prefix_len-le-length has_line a.slots.items in
    let spent = c.self.invariant.spent in
    omega (arith, c.self.invariant.begun, c.self.invariant.ready, c.if-k-self.false)

pub returns-in_err-slot-clause-answer : goal.returns-in_err-slot-clause-answer
returns-in_err-slot-clause-answer c =
    let first = first_is c.self.inside c.args.self.now c.first.result c.self.invariant c.self.view_is c.first.ensures in
    let none = sym c.get.ensures ∙ ap option_copied c.in_err-slot.was in
    ap (option_map said) c.from_residual.ensures
    ∙ sym (nth_slot c.self.inside c.args.k c.first.result None c.self.invariant c.if-k-self.false first none)
    ∙ ap (λ s. nth_answer s c.args.k) c.self.view_is

pub returns-in_err-slot-clause-service : goal.returns-in_err-slot-clause-service
returns-in_err-slot-clause-service c =
    let first = first_is c.self.inside c.args.self.now c.first.result c.self.invariant c.self.view_is c.first.ensures in
    let none = sym c.get.ensures ∙ ap option_copied c.in_err-slot.was in
    ap (option_map lent_service) c.from_residual.ensures
    ∙ sym (service_slot c.self.inside c.args.k c.first.result None c.self.invariant c.if-k-self.false first none)
    ∙ ap (λ s. nth_service s c.args.k) c.self.view_is

pub returns-in_err-slot-clause-sound : goal.returns-in_err-slot-clause-sound
returns-in_err-slot-clause-sound c = subst IsSound c.self.view_is (sound_whole c.self.inside c.self.invariant)

pub reply-requires : goal.reply-requires
reply-requires c =
    let at = sym c.get.ensures ∙ ap option_copied c.in_ok-slot.was in
    within_at c.self.inside.slots.items c.args.k c.in_ok-slot.slot.now c.self.invariant.within_line at

pub returns-clause-answer : goal.returns-clause-answer
returns-clause-answer c =
    let at = sym c.get.ensures ∙ ap option_copied c.in_ok-slot.was in
    let first = first_is c.self.inside c.args.self.now c.first.result c.self.invariant c.self.view_is c.first.ensures in
    c.reply.ensures.answer
    ∙ sym (nth_slot c.self.inside c.args.k c.first.result (Some c.in_ok-slot.slot.now) c.self.invariant c.if-k-self.false first at)
    ∙ ap (λ s. nth_answer s c.args.k) c.self.view_is

pub returns-clause-service : goal.returns-clause-service
returns-clause-service c =
    let at = sym c.get.ensures ∙ ap option_copied c.in_ok-slot.was in
    let first = first_is c.self.inside c.args.self.now c.first.result c.self.invariant c.self.view_is c.first.ensures in
    c.reply.ensures.service
    ∙ sym (service_slot c.self.inside c.args.k c.first.result (Some c.in_ok-slot.slot.now) c.self.invariant c.if-k-self.false first at)
    ∙ ap (λ s. nth_service s c.args.k) c.self.view_is

pub returns-clause-sound : goal.returns-clause-sound
returns-clause-sound c = subst IsSound c.self.view_is (sound_whole c.self.inside c.self.invariant)
