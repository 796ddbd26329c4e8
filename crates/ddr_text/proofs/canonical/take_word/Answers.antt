use Rattle.std.proofs.Common.{◌≡◌, ◌≢◌, ℕ, List, ◌++◌, Bor}
use Rattle.std.proofs.lemmas.Bool.Decides.{Decides-eqb}
use Rattle.std.proofs.lemmas.Slice.Eq.{strip_prefix_is}
use Rattle.ddr_text.proofs.CanonicalLemmas.{if_some}
use Rattle.ddr_text.proofs.canonical.take_word.Goals as goal

pub returns : goal.returns
returns c =
    if_some {X = Bor (List ℕ)} c.strip_prefix.result ((rest : List ℕ) → c.args.text.now ≢ c.args.word.now ++ rest) (λ rest. c.args.text.now ≡ c.args.word.now ++ rest.now)
    (strip_prefix_is Decides-eqb c.args.text.now c.args.word.now c.strip_prefix.result c.strip_prefix.ensures.cases)
