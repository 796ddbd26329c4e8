-- An outstanding number has its slot, and the slot its line once it has come back.
use Rattle.std.proofs.Common.{◌≡◌, ◌+◌, ◌<◌, Some, None, ◌∙◌, ap, arith, subst, sym}
use Rattle.std.specs.Option.{option_copied, option_map}
use Rattle.ddr_reorder.specs.Replies.{answer_of, lent_service, said, served_answer, served_service}
use Rattle.ddr_reorder.specs.Sound.{IsSound}
use Rattle.ddr_reorder.proofs.Ready.{first_is, first_of, served_below, served_slot, within_at}
use Rattle.ddr_reorder.proofs.Wholes.{sound_whole}
use Rattle.ddr_reorder.proofs.reorder.Reorder.served.Goals as goal

pub returns-in_err-index-clause-answer : goal.returns-in_err-index-clause-answer
returns-in_err-index-clause-answer c =
    let a = c.self.inside in
    let first = first_is a c.args.self.now c.first.result c.self.invariant c.self.view_is c.first.ensures in
    let below : c.args.number < first_of a = omega arith in
    ap (option_map said) c.from_residual.ensures ∙ sym (served_below answer_of a c.args.number below) ∙ ap (λ s. served_answer s c.args.number) c.self.view_is

pub returns-in_err-index-clause-service : goal.returns-in_err-index-clause-service
returns-in_err-index-clause-service c =
    let a = c.self.inside in
    let first = first_is a c.args.self.now c.first.result c.self.invariant c.self.view_is c.first.ensures in
    let below : c.args.number < first_of a = omega arith in
    ap (option_map lent_service) c.from_residual.ensures ∙ sym (served_below (λ o. o.service) a c.args.number below) ∙ ap (λ s. served_service s c.args.number) c.self.view_is

pub returns-in_err-index-clause-sound : goal.returns-in_err-index-clause-sound
returns-in_err-index-clause-sound c = subst IsSound c.self.view_is (sound_whole c.self.inside c.self.invariant)

pub returns-in_err-outstanding-clause-answer : goal.returns-in_err-outstanding-clause-answer
returns-in_err-outstanding-clause-answer c =
    let a = c.self.inside in
    let first = first_is a c.args.self.now c.first.result c.self.invariant c.self.view_is c.first.ensures in
    let at : first_of a + c.in_ok-index.index ≡ c.args.number = omega arith in
    let none = sym c.get.ensures ∙ ap option_copied c.in_err-outstanding.was in
    ap (option_map said) c.from_residual-in_err-outstanding.ensures
    ∙ sym (served_slot answer_of a c.args.number c.in_ok-index.index None at none)
    ∙ ap (λ s. served_answer s c.args.number) c.self.view_is

pub returns-in_err-outstanding-clause-service : goal.returns-in_err-outstanding-clause-service
returns-in_err-outstanding-clause-service c =
    let a = c.self.inside in
    let first = first_is a c.args.self.now c.first.result c.self.invariant c.self.view_is c.first.ensures in
    let at : first_of a + c.in_ok-index.index ≡ c.args.number = omega arith in
    let none = sym c.get.ensures ∙ ap option_copied c.in_err-outstanding.was in
    ap (option_map lent_service) c.from_residual-in_err-outstanding.ensures
    ∙ sym (served_slot (λ o. o.service) a c.args.number c.in_ok-index.index None at none)
    ∙ ap (λ s. served_service s c.args.number) c.self.view_is

pub returns-in_err-outstanding-clause-sound : goal.returns-in_err-outstanding-clause-sound
returns-in_err-outstanding-clause-sound c = subst IsSound c.self.view_is (sound_whole c.self.inside c.self.invariant)

pub reply-requires : goal.reply-requires
reply-requires c =
    let there = sym c.get.ensures ∙ ap option_copied c.in_ok-outstanding.was in
    within_at c.self.inside.slots.items c.in_ok-index.index c.in_ok-outstanding.outstanding.now c.self.invariant.within_line there

pub returns-clause-answer : goal.returns-clause-answer
returns-clause-answer c =
    let a = c.self.inside in
    let first = first_is a c.args.self.now c.first.result c.self.invariant c.self.view_is c.first.ensures in
    let at : first_of a + c.in_ok-index.index ≡ c.args.number = omega arith in
    let there = sym c.get.ensures ∙ ap option_copied c.in_ok-outstanding.was in
    c.reply.ensures.answer
    ∙ sym (served_slot answer_of a c.args.number c.in_ok-index.index (Some c.in_ok-outstanding.outstanding.now) at there)
    ∙ ap (λ s. served_answer s c.args.number) c.self.view_is

pub returns-clause-service : goal.returns-clause-service
returns-clause-service c =
    let a = c.self.inside in
    let first = first_is a c.args.self.now c.first.result c.self.invariant c.self.view_is c.first.ensures in
    let at : first_of a + c.in_ok-index.index ≡ c.args.number = omega arith in
    let there = sym c.get.ensures ∙ ap option_copied c.in_ok-outstanding.was in
    c.reply.ensures.service
    ∙ sym (served_slot (λ o. o.service) a c.args.number c.in_ok-index.index (Some c.in_ok-outstanding.outstanding.now) at there)
    ∙ ap (λ s. served_service s c.args.number) c.self.view_is

pub returns-clause-sound : goal.returns-clause-sound
returns-clause-sound c = subst IsSound c.self.view_is (sound_whole c.self.inside c.self.invariant)
