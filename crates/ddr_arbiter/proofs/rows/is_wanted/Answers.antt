-- The list of the bank has each of its requests.
use Rattle.std.proofs.Common.{◌≡◌, ℕ, Some, sym, ap, ◌∙◌, arith, inl, inr}
use Rattle.std.proofs.lemmas.Bool.{cases_eq}
use Rattle.ddr_hazards.specs.Banks.{in_bank}
use Rattle.ddr_arbiter.specs.CandidateSet.{wants}
use Rattle.ddr_arbiter.proofs.BankPlaceLemmas.{all_listed, ended}
use Rattle.ddr_arbiter.proofs.RowLemmas.{found_wanted, none_wanted}
use Rattle.ddr_arbiter.proofs.rows.is_wanted.Goals as goal

pub returns-then-wants : goal.returns-then-wants
returns-then-wants c = λ b is.
    sym (found_wanted b c.args.candidates.now c.args.pending.now.waiting c.args.at c.args.row c.loop-k.k c.in-Some.place is (sym c.in_bank.ensures ∙ c.in-Some.is)
    (sym c.wants.ensures ∙ c.if-wants.true))

pub returns-in_default : goal.returns-in_default
returns-in_default c = λ b is.
    sym (none_wanted b c.args.candidates.now c.args.pending.now.waiting c.args.at c.args.row is
    (λ j place there. c.loop-k.invariant j place
    (ended c.args.at.rank c.args.at.group c.args.at.bank c.loop-k.k c.args.pending.now.waiting (sym c.in_bank.ensures ∙ c.in_default.is) j place there) there))

pub loop-k-preserved : goal.loop-k-preserved
loop-k-preserved c = λ j place within there. elim (cases_eq j c.loop-k.k) [
  | inl last ↦
      let again : Some place ≡ Some c.in-Some.place =
      sym there ∙ ap (λ (i : ℕ). in_bank c.args.at.rank c.args.at.group c.args.at.bank i c.args.pending.now.waiting) last ∙ sym c.in_bank.ensures ∙ c.in-Some.is in
      let same : place ≡ c.in-Some.place = cc in
      ap (wants c.args.candidates.now c.args.row c.args.pending.now.waiting) same ∙ sym c.wants.ensures ∙ c.if-wants.false
  | inr before ↦ c.loop-k.invariant j place (omega (arith, within, before)) there
]

pub returns : goal.returns
returns c = λ b is.
    sym (none_wanted b c.args.candidates.now c.args.pending.now.waiting c.args.at c.args.row is
    (λ j place there. c.loop-k.invariant j place
    (omega (arith, all_listed c.args.at.rank c.args.at.group c.args.at.bank c.args.pending.now.waiting j place there, c.loop-k-test.false, c.len-k-end.ensures.exact)) there))
