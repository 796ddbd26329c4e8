-- The items of a list in blocks of memory: item q * 131072 + r stands in block q at r.
use Rattle.std.proofs.Common.{◌≡◌, ℕ, ◌+◌, ◌-◌, ◌*◌, ◌/◌, ◌%◌, ◌<◌, ◌≤◌, List, [], ◌∷◌, ◌++◌, length, get_or, set, sym, ap, subst, ◌∙◌, arith, vec_len, vec_capacity, append_assoc, length-append}
use Prim.Native.Nat.{zero, suc}
use Rattle.std.specs.declared.alloc.Global.{Global}
use Rattle.std.specs.declared.vec.Vec.{Vec}
use Rattle.std.proofs.lemmas.List.{append-nil, get_or_append_left, get_or-append_right, set-append_left, set-append_right, nil_from_length}
use Rattle.std.proofs.lemmas.List.Concat.{flat_map-append}
use Rattle.std.specs.Vec.{with_item}
use Rattle.std.proofs.lemmas.Nat.{div-add-mod', mod_below}
use Rattle.ddr_row_array.specs.declared.arena.Arena.TheInside.{Inside}
use Rattle.ddr_row_array.specs.Blocks.{Fills, IsInOrder, items_of, reserved_of}
use Rattle.ddr_row_array.specs.LentItem.{with_item as written}

in_first : (r : ℕ) → 0 * 131072 + r ≡ r
in_first r = omega arith

one_block_less : (q r : ℕ) → suc q * 131072 + r - 131072 ≡ q * 131072 + r
one_block_less q r = omega arith

module _ {T : Type 0} where
  pub length_filled : (n : ℕ) (bs : List (Vec T Global)) → Fills n bs → length (items_of bs) ≡ n
  length_filled n [] h = sym h
  length_filled n (b ∷ bs) h =
      let rest = length_filled (n - 131072) bs h.2 in
      let first = h.0 in
      omega (arith, b.ok.0, length-append b.items (items_of bs))

  none_filled : (n : ℕ) (bs : List (Vec T Global)) → Fills n bs → n ≡ 0 → items_of bs ≡ []
  none_filled n bs h none = nil_from_length (items_of bs) (length_filled n bs h ∙ none)

  -- there is memory for all of them
  pub filled_le : (n : ℕ) (bs : List (Vec T Global)) → Fills n bs → n ≤ length bs * 131072
  filled_le n [] h = omega arith
  filled_le n (b ∷ bs) h = let rest = filled_le (n - 131072) bs h.2 in omega arith

  pub block_within : (q r n : ℕ) (bs : List (Vec T Global)) → Fills n bs → q * 131072 + r < n → q < length bs
  block_within q r n bs h within = let all = filled_le n bs h in omega arith

  pub block_long : (q r n : ℕ) (bs : List (Vec T Global)) (e : Vec T Global) → Fills n bs → q * 131072 + r < n → r < 131072 → r < vec_len (get_or bs q e)
  block_long q r n [] e h within small = absurd (omega arith)
  block_long zero r n (b ∷ bs) e h within small = let first = h.0 in omega arith
  block_long (suc q) r n (b ∷ bs) e h within small = block_long q r (n - 131072) bs e h.2 (omega arith) small

  -- a full block before another
  full : (q r n : ℕ) (b : Vec T Global) (bs : List (Vec T Global)) → Fills n (b ∷ bs) → suc q * 131072 + r ≤ n → length b.items ≡ 131072
  full q r n b bs h within = let first = h.0 in omega (arith, b.ok.0)

  pub item_at : (q r n : ℕ) (bs : List (Vec T Global)) (e : Vec T Global) (d : T) → Fills n bs → q * 131072 + r < n → r < 131072 → get_or (items_of bs) (q * 131072 + r) d ≡ get_or (get_or bs q e).items r d
  item_at q r n [] e d h within small = absurd (omega arith)
  item_at zero r n (b ∷ bs) e d h within small =
      let first = h.0 in
      ap (λ k. get_or (b.items ++ items_of bs) k d) (in_first r)
      ∙ get_or_append_left b.items (items_of bs) d r (omega (arith, b.ok.0))
  item_at (suc q) r n (b ∷ bs) e d h within small =
      get_or-append_right b.items (items_of bs) 131072 (suc q * 131072 + r) d (full q r n b bs h (omega arith)) (omega arith)
      ∙ ap (λ k. get_or (items_of bs) k d) (one_block_less q r)
      ∙ item_at q r (n - 131072) bs e d h.2 (omega arith) small

  -- ---- an item is written
  pub items-set : (q r n : ℕ) (bs : List (Vec T Global)) (new e : Vec T Global) (x : T) → Fills n bs → q * 131072 + r < n → r < 131072 → new.items ≡ set (get_or bs q e).items r x → items_of (set bs q new) ≡ set (items_of bs) (q * 131072 + r) x
  items-set q r n [] new e x h within small is = absurd (omega arith)
  items-set zero r n (b ∷ bs) new e x h within small is =
      let first = h.0 in
      ap (λ ys. ys ++ items_of bs) is
      ∙ sym (set-append_left b.items (items_of bs) r x (omega (arith, b.ok.0)))
      ∙ ap (λ k. set (b.items ++ items_of bs) k x) (sym (in_first r))
  items-set (suc q) r n (b ∷ bs) new e x h within small is =
      ap (λ ys. b.items ++ ys) (items-set q r (n - 131072) bs new e x h.2 (omega arith) small is)
      ∙ ap (λ k. b.items ++ set (items_of bs) k x) (sym (one_block_less q r))
      ∙ sym (set-append_right b.items (items_of bs) 131072 (suc q * 131072 + r) x (full q r n b bs h (omega arith)) (omega arith))

  pub Fills-set : (q n : ℕ) (bs : List (Vec T Global)) (new e : Vec T Global) → Fills n bs → q < length bs → vec_len new ≡ vec_len (get_or bs q e) → vec_capacity new ≡ vec_capacity (get_or bs q e) → Fills n (set bs q new)
  Fills-set q n [] new e h within long room = absurd (omega arith)
  Fills-set zero n (b ∷ bs) new e h within long room = (long ∙ h.0, rw room h.1, h.2)
  Fills-set (suc q) n (b ∷ bs) new e h within long room =
      (h.0, h.1, Fills-set q (n - 131072) bs new e h.2 (omega arith) long room)

  -- ---- an item is put at the end
  block_end : (q r n : ℕ) (bs : List (Vec T Global)) (e : Vec T Global) → Fills n bs → q * 131072 + r ≡ n → r < 131072 → q < length bs → vec_len (get_or bs q e) ≡ r
  block_end q r n [] e h is small within = absurd (omega arith)
  block_end zero r n (b ∷ bs) e h is small within = let first = h.0 in omega arith
  block_end (suc q) r n (b ∷ bs) e h is small within = block_end q r (n - 131072) bs e h.2 (omega arith) small (omega arith)

  block_capacity : (q n : ℕ) (bs : List (Vec T Global)) (e : Vec T Global) → Fills n bs → q < length bs → 131072 ≤ vec_capacity (get_or bs q e)
  block_capacity q n [] e h within = absurd (omega arith)
  block_capacity zero n (b ∷ bs) e h within = h.1
  block_capacity (suc q) n (b ∷ bs) e h within = block_capacity q (n - 131072) bs e h.2 (omega arith)

  -- k more items, that the block has memory for
  pub Fills-run : (q r n k : ℕ) (bs : List (Vec T Global)) (new e : Vec T Global) → Fills n bs → q * 131072 + r ≡ n → r < 131072 → r + k ≤ 131072 → q < length bs → vec_len new ≡ vec_len (get_or bs q e) + k → 131072 ≤ vec_capacity new → Fills (n + k) (set bs q new)
  Fills-run q r n k [] new e h is small fits within long room = absurd (omega arith)
  Fills-run zero r n k (b ∷ bs) new e h is small fits within long room =
      let first = h.0 in (omega arith, room, subst (λ m. Fills m bs) (omega arith) h.2)
  Fills-run (suc q) r n k (b ∷ bs) new e h is small fits within long room =
      let first = h.0 in
      let rest = Fills-run q r (n - 131072) k bs new e h.2 (omega arith) small fits (omega arith) long room in
      (omega arith, h.1, subst (λ m. Fills m (set bs q new)) (omega arith) rest)

  pub items-run : (q r n : ℕ) (bs : List (Vec T Global)) (new e : Vec T Global) (xs : List T) → Fills n bs → q * 131072 + r ≡ n → r < 131072 → q < length bs → new.items ≡ (get_or bs q e).items ++ xs → items_of (set bs q new) ≡ items_of bs ++ xs
  items-run q r n [] new e xs h is small within made = absurd (omega arith)
  items-run zero r n (b ∷ bs) new e xs h is small within made =
      let empty = none_filled (n - 131072) bs h.2 (omega arith) in
      ap (λ ys. new.items ++ ys) empty ∙ append-nil new.items ∙ made
      ∙ ap (λ ys. ys ++ xs) (sym (append-nil b.items) ∙ ap (λ ys. b.items ++ ys) (sym empty))
  items-run (suc q) r n (b ∷ bs) new e xs h is small within made =
      ap (λ ys. b.items ++ ys) (items-run q r (n - 131072) bs new e xs h.2 (omega arith) small (omega arith) made)
      ∙ sym (append_assoc b.items (items_of bs) xs)

  -- ---- one more block
  pub Fills-block : (n : ℕ) (bs : List (Vec T Global)) (new : Vec T Global) → Fills n bs → vec_len new ≡ 0 → 131072 ≤ vec_capacity new → Fills n (bs ++ new ∷ [])
  Fills-block n [] new h empty room = (omega arith, room, omega arith)
  Fills-block n (b ∷ bs) new h empty room = (h.0, h.1, Fills-block (n - 131072) bs new h.2 empty room)

  pub items-block : (bs : List (Vec T Global)) (new : Vec T Global) → new.items ≡ [] → items_of (bs ++ new ∷ []) ≡ items_of bs
  items-block bs new empty =
      flat_map-append (λ (b : Vec T Global). b.items) bs (new ∷ [])
      ∙ ap (λ ys. items_of bs ++ (ys ++ [])) empty ∙ append-nil (items_of bs)

-- ---- what the code does at an index
split : (k : ℕ) → k / 131072 * 131072 + k % 131072 ≡ k
split k = div-add-mod' k 131072

pub small : (k : ℕ) → k % 131072 < 131072
small k = mod_below k 131072 (omega arith)

module _ {T : Type 0} (a : Inside T) (sound : IsInOrder a) (k : ℕ) where
  abbrev bs : List (Vec T Global)
  bs = a.blocks.items

  pub index_within : k < length (items_of bs) → k < a.len
  index_within h = subst (λ n. k < n) (length_filled a.len bs sound.filled) h

  module _ (within : k < a.len) where
    split_within : k / 131072 * 131072 + k % 131072 < a.len
    split_within = subst (λ n. n < a.len) (sym (split k)) within

    pub block_at : k / 131072 < vec_len a.blocks
    block_at = let h = block_within (k / 131072) (k % 131072) a.len bs sound.filled split_within in omega (arith, a.blocks.ok.0)

    block_in_list : k / 131072 < length bs
    block_in_list = block_within (k / 131072) (k % 131072) a.len bs sound.filled split_within

    module _ (b : Vec T Global) (is : b ≡ get_or bs (k / 131072) b) where
      pub place_in_block : k % 131072 < vec_len b
      place_in_block = rw is (block_long (k / 131072) (k % 131072) a.len bs b sound.filled split_within (small k))

      pub item_of : (x : T) → x ≡ get_or b.items (k % 131072) x → x ≡ get_or (items_of bs) k x
      item_of x read =
          read ∙ ap (λ (v : Vec T Global). get_or v.items (k % 131072) x) is
          ∙ sym (item_at (k / 131072) (k % 131072) a.len bs b x sound.filled split_within (small k))
          ∙ ap (λ n. get_or (items_of bs) n x) (split k)

      -- the list with another item there
      abbrev pub lent : T → Inside T
      lent w = record a { blocks = with_item a.blocks (k / 131072) (with_item b (k % 131072) w) }

      pub IsInOrder-lent : (w : T) → IsInOrder (lent w)
      IsInOrder-lent w = record {
        filled = Fills-set (k / 131072) a.len bs (with_item b (k % 131072) w) b sound.filled block_in_list (ap (λ (v : Vec T Global). vec_len v) is) (ap (λ (v : Vec T Global). vec_capacity v) is);
        bounded = sound.bounded;
      }

      pub reserved_of-lent : (w : T) → reserved_of (lent w) ≡ written (reserved_of a) k w
      reserved_of-lent w =
          ap (λ items. record (reserved_of a) { items = items })
          (items-set (k / 131072) (k % 131072) a.len bs (with_item b (k % 131072) w) b w sound.filled split_within (small k) (ap (λ (v : Vec T Global). set v.items (k % 131072) w) is)
          ∙ ap (λ n. set (items_of bs) n w) (split k))

-- ---- what the code does at the end
module _ {T : Type 0} (a : Inside T) (sound : IsInOrder a) (room : length (items_of a.blocks.items) < vec_len a.blocks * 131072) where
  abbrev q : ℕ
  q = a.len / 131072

  end_below : a.len < vec_len a.blocks * 131072
  end_below = let h = length_filled a.len a.blocks.items sound.filled in omega arith

  pub end_at : q < vec_len a.blocks
  end_at = let h = end_below in let s = split a.len in omega arith

  end_in_list : q < length a.blocks.items
  end_in_list = let h = end_at in omega (arith, a.blocks.ok.0)

  module _ (b : Vec T Global) (is : b ≡ get_or a.blocks.items q b) where
    -- how many items the block has, and for how many it has memory
    pub end_long : vec_len b ≡ a.len % 131072
    end_long = rw is (block_end q (a.len % 131072) a.len a.blocks.items b sound.filled (split a.len) (small a.len) end_in_list)

    pub end_capacity : 131072 ≤ vec_capacity b
    end_capacity = rw is (block_capacity q a.len a.blocks.items b sound.filled end_in_list)

    pub end_room : vec_len b < vec_capacity b
    end_room = let long = end_long in let room = end_capacity in let below = small a.len in omega arith

    module _ (new : Vec T Global) where
      pub IsInOrder-pushed : (k : ℕ) → a.len % 131072 + k ≤ 131072 → vec_len new ≡ vec_len b + k → 131072 ≤ vec_capacity new → IsInOrder (record a { blocks = with_item a.blocks q new; len = a.len + k })
      IsInOrder-pushed k fits long more = record {
        filled = Fills-run q (a.len % 131072) a.len k a.blocks.items new b sound.filled (split a.len) (small a.len) fits end_in_list (long ∙ ap (λ (v : Vec T Global). vec_len v + k) is) more;
        bounded = sound.bounded;
      }

      pub items_of-pushed : (xs : List T) → new.items ≡ b.items ++ xs → items_of (set a.blocks.items q new) ≡ items_of a.blocks.items ++ xs
      items_of-pushed xs pushed =
          items-run q (a.len % 131072) a.len a.blocks.items new b xs sound.filled (split a.len) (small a.len) end_in_list (pushed ∙ ap (λ (v : Vec T Global). v.items ++ xs) is)
