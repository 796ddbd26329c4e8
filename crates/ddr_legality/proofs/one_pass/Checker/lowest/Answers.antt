-- The rules on commands come first, and then those on refresh.
use Rattle.std.proofs.Common.{sym, ◌∙◌}
use Rattle.ddr_legality.proofs.BrokenLemmas.{command_first, place_kept, then_refresh}
use Rattle.ddr_legality.proofs.PassedLemmas.{counted_of}
use Rattle.ddr_legality.proofs.one_pass.Checker.lowest.Goals as goal

pub returns-in-Some-clause-lowest : goal.returns-in-Some-clause-lowest
returns-in-Some-clause-lowest c = λ history passed.
    let i = c.args.self.now.issued in
    sym (command_first i.config i.start c.args.end history c.args.entry.now c.in-Some.rule (sym (c.broken_by.ensures.lowest history passed.issued) ∙ c.in-Some.is))

pub returns-clause-lowest : goal.returns-clause-lowest
returns-clause-lowest c = λ history passed.
    let i = c.args.self.now.issued in
    let e = c.args.entry.now in
    let none = sym (c.broken_by.ensures.lowest history passed.issued) ∙ c.in_default.is in
    c.broken_by-2.ensures history (rw c.refreshes_of.ensures (counted_of c.args.self.now history e passed (place_kept i.config i.start c.args.end history e none)))
    ∙ sym (then_refresh i.config i.start c.args.end history e none)
