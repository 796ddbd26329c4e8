-- One channel more.
use Rattle.std.proofs.Common.{[], ◌∷◌, ◌++◌, List, Vec, Global, ap₂, sym, arith, ◌∙◌}
use Rattle.std.proofs.lemmas.List.FromFn.{map-range_with_len_more}
use Rattle.std.proofs.lemmas.Result.{err_from_is_err_and}
use Rattle.ddr_world.specs.Kept.{state_of}
use Rattle.ddr_ledger.specs.declared.numbers.Numbers.{Numbers}
use Rattle.ddr_ledger.specs.Numbers.{is_spent, numbers_at}
use Rattle.ddr_ledger.proofs.NumberLemmas.{none_of, spent_told}
use Rattle.ddr_ledger.proofs.numbers.numbers_of.Goals as goal

pub returns-in_err-numbers_at : goal.returns-in_err-numbers_at
returns-in_err-numbers_at c =
    let p = err_from_is_err_and c.from_residual.result c.from_residual.ensures.1 in
    let spent = c.in_err-numbers_at.ensures.spent in
    rw (p.1, p.2) (spent_told {X = Vec Numbers Global} (λ v. v.items) (state_of c.args.world.now) c.in_err-numbers_at.field-0.0 c.args.channels c.loop-channel.channel spent.0 c.loop-channel-test.true spent.1)

pub loop-channel-preserved : goal.loop-channel-preserved
loop-channel-preserved c =
    let n = c.loop-channel.channel in
    let s = state_of c.args.world.now in
    let kept = c.loop-channel.invariant in
    record {
      counted = c.in_ok-push.ensures.items
          ∙ ap₂ (λ (xs : List Numbers) (x : Numbers). xs ++ x ∷ []) kept.counted c.in_ok-numbers_at.ensures.counted
          ∙ sym (map-range_with_len_more (numbers_at s) 0 n n (omega arith));
      running = none_of (is_spent s) n kept.running c.in_ok-numbers_at.ensures.running;
    }
