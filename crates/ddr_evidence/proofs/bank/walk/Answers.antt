-- The last change so far, entry by entry.
use Rattle.std.proofs.Common.{◌≡◌, length, refl, subst, arith}
use Rattle.ddr_trace.specs.Banks.{bank_behind}
use Rattle.ddr_evidence.specs.Places.{changes_at}
use Rattle.ddr_evidence.proofs.PlaceLemmas.{IsLastBelow, bank_more, change_all, change_more, idle_more, none_below}
use Rattle.ddr_evidence.proofs.bank.walk.Goals as goal

pub loop-place-init : goal.loop-place-init
unfolding bank_behind
loop-place-init c = record { bank = refl; changed = none_below _; idle = refl }

pub loop-place-preserved : goal.loop-place-preserved
loop-place-preserved c =
    let now = c.loop-place.invariant in
    record {
      bank = bank_more c.args.command.now c.args.history.now c.loop-place.place _ _ _ c.loop-place-test.true now.bank c.after-seen.ensures.bank;
      changed = change_more c.args.command.now c.args.history.now c.loop-place.place _ _ _ _ c.loop-place-test.true now.bank now.changed c.after-seen.ensures.changed;
      idle = idle_more c.args.command.now c.args.history.now c.loop-place.place _ _ _ _ _ now.idle c.after-seen.ensures.bank c.after-seen.ensures.changed;
    }

pub returns-clause-changed : goal.returns-clause-changed
returns-clause-changed c =
    let all : c.loop-place.place ≡ length c.args.history.now = omega arith in
    change_all c.args.command.now c.args.history.now c.loop-place.seen.changed
    (subst (λ n. IsLastBelow (changes_at c.args.command.now c.args.history.now) n c.loop-place.seen.changed) all c.loop-place.invariant.changed)
