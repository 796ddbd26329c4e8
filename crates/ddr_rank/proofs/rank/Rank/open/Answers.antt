-- No command has come, of whatever rank.
use Rattle.std.proofs.Common.{refl, replicate}
use Rattle.ddr_rank.proofs.NotedLemmas.{all_blank, stands_new}
use Rattle.ddr_rank.proofs.PartLemmas.{all_free_joined}
use Rattle.ddr_rank.specs.declared.ready.FirstCycles.{FirstCycles}
use Rattle.ddr_rank.specs.Parts.{columns_free}
use Rattle.ddr_rank.specs.Ready.{all_free}
use Rattle.ddr_rank.proofs.rank.Rank.open.Goals as goal

pub returns-clause-stands : goal.returns-clause-stands
returns-clause-stands c = λ rank.
    let first : FirstCycles = record { banks = c.in_ok-vec-3.field-0; columns = replicate 4 columns_free; all = all_free } in
    stands_new _ rank (c.in_ok-vec.ensures.items_if_clones_equal (λ y same. same)) (c.in_ok-vec-2.ensures.items_if_clones_equal (λ y same. same)) refl (rw c.in_ok-with_capacity.ensures refl)
    (all_free_joined first _ (c.in_ok-vec-3.ensures.items_if_clones_equal (λ y same. same)) (λ g. all_blank 4 _ columns_free refl g)) refl
