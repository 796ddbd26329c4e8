use Rattle.std.proofs.Common.{◌≡◌, [], ◌∷◌, ◌++◌, rules}
use Rattle.ddr_draw.proofs.KeptLemmas.{last_more}
use Rattle.ddr_draw.proofs.sketch.remember.Goals as goal

pub returns-clause-last : goal.returns-clause-last
returns-clause-last c = λ entries are.
    let grown : c.push.new.self.items ≡ c.shorten.new.recent.items ++ c.args.entry.now ∷ [] = search rules in
    rw grown (last_more c.shorten.new.recent.items entries c.args.entry.now (c.shorten.ensures.last entries are))
