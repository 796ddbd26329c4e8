-- Faults that a loop finds, one for each item or none.
use Rattle.std.proofs.Common.{◌≡◌, ℕ, ◌+◌, ◌<◌, List, [], ◌∷◌, ◌++◌, length, get_or, take, map, Option, Some, None, string_bytes, refl, sym, ap, ◌∙◌, append_assoc}
use Rattle.std.specs.List.{filter_map, cons_option}
use Rattle.std.specs.Map.{keys_of}
use Rattle.std.specs.Option.{option_to_list}
use Rattle.std.proofs.lemmas.List.{take_more}
use Rattle.std.proofs.lemmas.List.Elements.{filter_map-append}
use Rattle.toml.specs.View.{members_view}
use Rattle.toml.proofs.Views.{Entry}
use Rattle.ddr_findings.specs.Faults.{names_of}

cons_option-nil : {Y : Type 0} (found : Option Y) → cons_option found [] ≡ option_to_list found
cons_option-nil None = refl
cons_option-nil (Some y) = refl

filter_map_more : {X Y : Type 0} (h : X → Option Y) (xs : List X) (i : ℕ) (d : X) → i < length xs → filter_map h (take (i + 1) xs) ≡ filter_map h (take i xs) ++ option_to_list (h (get_or xs i d))
filter_map_more h xs i d within =
    ap (filter_map h) (take_more xs i d within)
    ∙ filter_map-append h (take i xs) (get_or xs i d ∷ [])
    ∙ ap (λ last. filter_map h (take i xs) ++ last) (cons_option-nil (h (get_or xs i d)))

-- one more item is looked at, and what speaks against it is added
pub found_more : {X Y : Type 0} (h : X → Option Y) (xs : List X) (i : ℕ) (x : X) (start before after : List Y) (found : Option Y) → i < length xs → x ≡ get_or xs i x → found ≡ h x → before ≡ start ++ filter_map h (take i xs) → after ≡ before ++ option_to_list found → after ≡ start ++ filter_map h (take (i + 1) xs)
found_more h xs i x start before after found within at is so_far grown =
    let more : filter_map h (take (i + 1) xs) ≡ filter_map h (take i xs) ++ option_to_list found = filter_map_more h xs i x within ∙ ap (λ o. filter_map h (take i xs) ++ option_to_list o) (sym (is ∙ ap h at)) in
    grown ∙ ap (λ b. b ++ option_to_list found) so_far ∙ append_assoc start (filter_map h (take i xs)) (option_to_list found) ∙ ap (λ m. start ++ m) (sym more)

-- the names of the members are the keys of the map
pub names_of-entries : (entries : List Entry) → names_of (members_view entries) ≡ map string_bytes (keys_of entries)
names_of-entries [] = refl
names_of-entries (entry ∷ entries) = ap (λ more. string_bytes entry.0 ∷ more) (names_of-entries entries)
