-- The sides of several queues, gathered from those who held one side of each.
use Rattle.std.specs.Prelude.{ℕ, ◌+◌, ◌-◌, ◌≤◌, List, [], ◌∷◌, ◌++◌, All, replicate, vec_capacity, vec_len}
use Rattle.ddr_workers.specs.declared.gathered.Gathered.TheInside.{Inside}
use Rattle.ddr_workers.specs.Lanes.{each_with, lists}

-- Of each queue the put sides, the take sides of the other queues, and for how many holders more there is room
pub record Gathering (P T : Type 0) : Type 0 where
  pub puts : List (List P)
  pub takes : List T
  pub spare : ℕ

module _ {P T : Type 0} where
  abbrev pub gathering : Inside P T → Gathering P T
  gathering a = record { puts = lists a.puts.items; takes = a.takes.items; spare = vec_capacity a.takes - vec_len a.takes }

  -- each row has room for those that the take sides have room for
  abbrev pub HasRoom : Inside P T → Type 0
  HasRoom a = All (λ row. vec_len row + (vec_capacity a.takes - vec_len a.takes) ≤ vec_capacity row) a.puts.items

  -- nothing yet, with room for so many holders, who hold a side of so many queues each
  abbrev pub nothing_of : ℕ → ℕ → Gathering P T
  nothing_of holders queues = record { puts = replicate queues []; takes = []; spare = holders }

  -- what one holder has is added
  abbrev pub with_one : Gathering P T → List P → T → Gathering P T
  with_one g puts take = record { puts = each_with g.puts puts; takes = g.takes ++ take ∷ []; spare = g.spare - 1 }

  -- what each of several holders has, in order
  abbrev pub with_all : {E : Type 0} → (E → List P) → (E → T) → Gathering P T → List E → Gathering P T
  with_all puts take g [] = g
  with_all puts take g (e ∷ es) = with_all puts take (with_one g (puts e) (take e)) es
