-- One request more was taken.
use Rattle.std.proofs.Common.{◌≡◌, ℕ, zero, suc, List, [], ◌∷◌, drop, add-one, refl, ap, ◌∙◌}
use Rattle.ddr_stream.specs.declared.ask.Ask.{Ask}
use Rattle.ddr_stream.proofs.queue.Queue.pop.Goals as goal

drop_one : (n : ℕ) (xs : List Ask) → drop (suc n) xs ≡ drop 1 (drop n xs)
drop_one zero xs = refl
drop_one (suc n) [] = refl
drop_one (suc n) (x ∷ xs) = drop_one n xs

pub returns-then-self-len : goal.returns-then-self-len
returns-then-self-len c =
    let a = c.self.inside in
    c.move_to_front.ensures ∙ ap (λ (n : ℕ). drop n a.asks.items) (add-one a.taken) ∙ drop_one a.taken a.asks.items ∙ ap (λ (q : List Ask). drop 1 q) c.self.view_is

pub returns-else-self-len : goal.returns-else-self-len
returns-else-self-len c =
    let a = c.self.inside in
    ap (λ (n : ℕ). drop n a.asks.items) (add-one a.taken) ∙ drop_one a.taken a.asks.items ∙ ap (λ (q : List Ask). drop 1 q) c.self.view_is
