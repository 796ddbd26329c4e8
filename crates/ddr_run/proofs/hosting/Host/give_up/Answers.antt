use Rattle.std.proofs.Common.{refl, ap, string_bytes, ◌++◌, ◌∙◌}
use Rattle.ddr_reorder.specs.Replies.{said}
use Rattle.ddr_run.proofs.HostLemmas.{asked_none, asked_released, hosting_released}
use Rattle.ddr_run.proofs.hosting.Host.give_up.Goals as goal

pub returns-in_default : goal.returns-in_default
returns-in_default c = asked_none c.args.self.now

pub returns-in_err-line : goal.returns-in_err-line
returns-in_err-line c = asked_none c.args.self.now

pub returns-in_err-push_str : goal.returns-in_err-push_str
returns-in_err-push_str c = rw (← c.self.view_is) (asked_none c.self.inside.port)

pub invariant_of-self-2 : goal.invariant_of-self-2
invariant_of-self-2 c = hosting_released c.self.inside _ (said c.in-Some.reply) (string_bytes c.in_ok-line.line) c.release.result c.self.invariant refl
    (c.in_ok-push_str.ensures.bytes ∙ ap (λ added. string_bytes c.self.inside.text ++ added) c.as_str.ensures.value)
    c.in_ok-line.ensures c.in-Some.ensures.answer c.in-Some.ensures.first c.in-Some.ensures.oldest c.release.ensures.number c.release.ensures.some

pub returns : goal.returns
returns c = rw (← c.self.view_is) (asked_released c.self.inside.port c.release.new.self c.release.result c.release.ensures.same c.release.ensures.some c.release.ensures.none)
