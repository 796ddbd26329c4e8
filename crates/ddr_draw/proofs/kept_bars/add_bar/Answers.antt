use Rattle.std.proofs.Common.{◌≡◌, [], ◌∷◌, ◌++◌, None, rules, sym, ◌∙◌}
use Rattle.ddr_draw.proofs.KeptLemmas.{bar_more, bar_none, open_bar}
use Rattle.ddr_draw.proofs.kept_bars.add_bar.Goals as goal

pub returns-then-not-may_have_bar-clause-shown : goal.returns-then-not-may_have_bar-clause-shown
returns-then-not-may_have_bar-clause-shown c = λ v later within.
    bar_none c.args.config.now v c.args.view.now c.args.bars.now.items c.args.entry.now later within (sym c.may_have_bar.ensures ∙ c.if-not-may_have_bar.true)

pub returns-clause-shown : goal.returns-clause-shown
returns-clause-shown c = λ v later within.
    let grown : c.push.new.self.items ≡ c.args.bars.now.items ++ record { entry = c.args.entry.now; next = None } ∷ [] = search rules in
    rw grown (bar_more c.args.config.now v c.args.bars.now.items c.args.entry.now later)

pub returns-clause-kept : goal.returns-clause-kept
returns-clause-kept c = λ all.
    let grown : c.push.new.self.items ≡ c.args.bars.now.items ++ record { entry = c.args.entry.now; next = None } ∷ [] = search rules in
    rw grown (open_bar c.args.config.now c.args.view.now c.args.bars.now.items c.args.entry.now all (sym c.may_have_bar.ensures ∙ c.if-not-may_have_bar.false))
