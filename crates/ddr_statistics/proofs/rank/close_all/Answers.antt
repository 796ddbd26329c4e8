use Rattle.std.proofs.Common.{◌≡◌, ℕ, ◌+◌, List, ◌++◌, length, map, take, drop, sym, ap, arith, ◌∙◌}
use Rattle.std.proofs.lemmas.Grind.{common_steps}
use Rattle.std.proofs.lemmas.List.{length-append, length-map, take-append-drop}
use Rattle.std.proofs.lemmas.List.Edits.{map_over_more}
use Rattle.ddr_statistics.specs.declared.bank.Bank.{Bank}
use Rattle.ddr_statistics.specs.Noted.{bank_closed}
use Rattle.ddr_statistics.proofs.rank.close_all.Goals as goal

-- no bank is lost
size_of : (f : Bank → Bank) (xs ys : List Bank) (i : ℕ) → ys ≡ map f (take i xs) ++ drop i xs → length ys ≡ length xs
size_of f xs ys i h =
    ap (λ (zs : List Bank). length zs) h
    ∙ length-append (map f (take i xs)) (drop i xs)
    ∙ ap (λ n. n + length (drop i xs)) (length-map (take i xs) f)
    ∙ sym (length-append (take i xs) (drop i xs))
    ∙ ap (λ (zs : List Bank). length zs) (take-append-drop i xs)

pub loop-bank-preserved : goal.loop-bank-preserved
loop-bank-preserved c =
    let size = size_of (bank_closed c.args.command.now) c.args.banks.now c.loop-bank.bank-items c.loop-bank.bank-index c.loop-bank.invariant in
    grind (arith, common_steps, map_over_more (bank_closed c.args.command.now))
