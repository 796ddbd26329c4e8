-- The end is looked at for each rank.
use Rattle.std.proofs.Common.{◌≡◌, true, false, ◌==◌, refl, sym, ◌∙◌}
use Rattle.ddr_legality.proofs.RankLemmas.{not_rank}
use Rattle.ddr_legality.proofs.RefreshLemmas.{ends_told, is_late}
use Rattle.ddr_legality.proofs.one_pass.Checker.ends_late.Goals as goal

pub returns-then-ends_late : goal.returns-then-ends_late
returns-then-ends_late c = λ history passed.
    let i = c.args.self.now.issued in
    let late : is_late i.config.timing i.start c.args.end history 0 ≡ true = sym (c.ends_late.ensures 0 history passed.first) ∙ c.if-ends_late.true in
    c.if-ends_late.true ∙ sym (ends_told i.config i.start c.args.end history ∙ rw late refl)

pub returns-then-config-eq2 : goal.returns-then-config-eq2
returns-then-config-eq2 c = λ history passed.
    let i = c.args.self.now.issued in
    let kept : is_late i.config.timing i.start c.args.end history 0 ≡ false = sym (c.ends_late.ensures 0 history passed.first) ∙ c.if-ends_late.false in
    c.ends_late-then-config-eq2.ensures 1 history passed.second
    ∙ sym (ends_told i.config i.start c.args.end history ∙ rw (kept, c.if-config-eq2.true) refl)

pub returns-else-config-eq2 : goal.returns-else-config-eq2
returns-else-config-eq2 c = λ history passed.
    let i = c.args.self.now.issued in
    let kept : is_late i.config.timing i.start c.args.end history 0 ≡ false = sym (c.ends_late.ensures 0 history passed.first) ∙ c.if-ends_late.false in
    let one : (i.config.geometry.ranks == 2) ≡ false = not_rank i.config.geometry.ranks 2 c.if-config-eq2.false in
    one ∙ sym (ends_told i.config i.start c.args.end history ∙ rw (kept, one) refl)
