use Rattle.std.proofs.Common.{◌≡◌, ℕ, ◌+◌, ◌-◌, ◌*◌, ◌<◌, ◌≤◌, ◌++◌, Bool, true, false, cond, List, length, take, replicate, Result, Ok, Err, IsOk, is_ok, refl, sym, ap, ◌∙◌, arith, vec_len}
use Rattle.std.proofs.lemmas.List.{take_all}
use Rattle.ddr_row_array.specs.Blocks.{items_of}
use Rattle.ddr_row_array.proofs.Blocks.{length_filled, small, end_at, end_long, end_capacity, IsInOrder-pushed, items_of-pushed}
use Rattle.ddr_row_array.proofs.arena.Arena.push_in_block.Goals as goal

is_ok_there : {T E : Type 0} (r : Result T E) → IsOk r → is_ok r ≡ true
is_ok_there (Ok x) h = refl
is_ok_there (Err e) h = absurd (let f : false ≡ true = h in cc)

longer : {T : Type 0} (xs : List T) (long n : ℕ) (x : T) → long ≡ length xs → take (long + n) xs ++ replicate (long + n - long) x ≡ xs ++ replicate n x
longer xs long n x is =
    let more : long + n - long ≡ n = omega arith in
    ap (λ ys. ys ++ replicate (long + n - long) x) (take_all (long + n) xs (omega arith)) ∙ ap (λ m. xs ++ replicate m x) more

taken : {X : Type 0} (b : Bool) (x y z : X) → b ≡ true → z ≡ cond b x y → z ≡ x
taken true x y z there is = is
taken false x y z there is = absurd (let f : false ≡ true = there in cc)

pub index_mut-block-requires : goal.index_mut-block-requires
index_mut-block-requires g c =
    let a = c.self.inside in
    let asked : length (items_of a.blocks.items) + c.args.count ≤ vec_len a.blocks * 131072 = rw (← c.self.view_is) at c.requires.room in
    let some = c.requires.some in
    end_at a c.self.invariant (omega (arith, asked, some))

pub prove-unreachable-requires : goal.prove-unreachable-requires
prove-unreachable-requires g c =
    let a = c.self.inside in
    let asked : length (items_of a.blocks.items) + c.args.count ≤ vec_len a.blocks * 131072 = rw (← c.self.view_is) at c.requires.room in
    let some = c.requires.some in
    let room : length (items_of a.blocks.items) < vec_len a.blocks * 131072 = omega (arith, asked, some) in
    let b = c.index_mut-block.result.now in
    let is = c.index_mut-block.ensures.value in
    let long = end_long a c.self.invariant room b is in
    let memory = end_capacity a c.self.invariant room b is in
    let pushed = c.min-pushed.ensures in
    let below = small a.len in
    let counted = c.len.ensures in
    let there = is_ok_there c.resize-filled.result (c.resize-filled.ensures.succeeds (omega (arith, long, memory, pushed, below, counted))) in
    let f : false ≡ true = sym c.if-prove.true ∙ c.is_ok.ensures.value ∙ there in
    cc

pub overflow_add-self : goal.overflow_add-self
overflow_add-self g c =
    let a = c.self.inside in
    let asked : length (items_of a.blocks.items) + c.args.count ≤ vec_len a.blocks * 131072 = rw (← c.self.view_is) at c.requires.room in
    let long = length_filled a.len a.blocks.items c.self.invariant.filled in
    let pushed = c.min-pushed.ensures in
    let bounded = c.self.invariant.bounded in
    record { fits = omega (arith, asked, long, pushed, bounded) }

pub invariant_of-self : goal.invariant_of-self
invariant_of-self g c =
    let a = c.self.inside in
    let asked : length (items_of a.blocks.items) + c.args.count ≤ vec_len a.blocks * 131072 = rw (← c.self.view_is) at c.requires.room in
    let some = c.requires.some in
    let room : length (items_of a.blocks.items) < vec_len a.blocks * 131072 = omega (arith, asked, some) in
    let b = c.index_mut-block.result.now in
    let is = c.index_mut-block.ensures.value in
    let memory = end_capacity a c.self.invariant room b is in
    let pushed = c.min-pushed.ensures in
    let below = small a.len in
    let ok = sym c.is_ok.ensures.value ∙ c.if-prove.false in
    let more = c.resize-filled.ensures.capacity in
    let new_long = taken (is_ok c.resize-filled.result) (c.len.result + c.min-pushed.result) (vec_len b) (vec_len c.resize-filled.new.self) ok c.resize-filled.ensures.len in
    IsInOrder-pushed a c.self.invariant room b is c.resize-filled.new.self c.min-pushed.result (omega (arith, pushed, below)) (new_long ∙ ap (λ n. n + c.min-pushed.result) c.len.ensures) (omega (arith, memory, more))

pub returns-clause-items : goal.returns-clause-items
returns-clause-items g c =
    let a = c.self.inside in
    let asked : length (items_of a.blocks.items) + c.args.count ≤ vec_len a.blocks * 131072 = rw (← c.self.view_is) at c.requires.room in
    let some = c.requires.some in
    let room : length (items_of a.blocks.items) < vec_len a.blocks * 131072 = omega (arith, asked, some) in
    let b = c.index_mut-block.result.now in
    let is = c.index_mut-block.ensures.value in
    let n = c.min-pushed.result in
    let ok = sym c.is_ok.ensures.value ∙ c.if-prove.false in
    let all = take (c.len.result + n) b.items ++ replicate (c.len.result + n - vec_len b) c.args.item in
    let made = taken (is_ok c.resize-filled.result) all b.items c.resize-filled.new.self.items ok c.resize-filled.ensures.items in
    let pushed = made ∙ ap (λ m. take (c.len.result + n) b.items ++ replicate (c.len.result + n - m) c.args.item) (sym c.len.ensures) ∙ longer b.items c.len.result n c.args.item (c.len.ensures ∙ b.ok.0) in
    rw (← c.self.view_is) (items_of-pushed a c.self.invariant room b is c.resize-filled.new.self (replicate n c.args.item) pushed)
