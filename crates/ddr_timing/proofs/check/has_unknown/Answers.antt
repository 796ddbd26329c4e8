-- The keys of the map are the names of the members.
use Rattle.std.proofs.Common.{◌≡◌, ◌∷◌, [], List, not, ◌||◌, string_bytes, refl, ap, ◌∙◌, rules, tests}
use Rattle.std.specs.List.{list_any}
use Rattle.std.specs.Map.{keys_of}
use Rattle.std.proofs.lemmas.Iterator.Consumers.{YieldsList-from_rest}
use Rattle.std.proofs.lemmas.Iterator.Search.{any_from_yields_List}
use Rattle.toml.specs.View.{members_view}
use Rattle.toml.proofs.Views.{Entry}
use Rattle.ddr_timing.specs.declared.key.Key.{Key}
use Rattle.ddr_timing.specs.Refusals.{has_other, is_key}
use Rattle.ddr_timing.proofs.check.has_unknown.Goals as goal

has_other-entries : (keys : List Key) (entries : List Entry) → list_any (λ key. not (is_key keys (string_bytes key))) (keys_of entries) ≡ has_other keys (members_view entries)
has_other-entries keys [] = refl
has_other-entries keys (entry ∷ entries) = ap (λ more. not (is_key keys (string_bytes entry.0)) || more) (has_other-entries keys entries)

pub returns : goal.returns
returns c =
    let names = keys_of c.args.table.now.entries in
    let keys = c.keys-keys.result.now in
    let found = any_from_yields_List (λ key. not (is_key keys (string_bytes key))) _ _ c.any.result c.any.ensures.ran (YieldsList-from_rest names c.keys.ensures.rest) (λ x b q k. search (rules, tests)) in
    found ∙ has_other-entries keys c.args.table.now.entries ∙ ap (λ others. has_other others (members_view c.args.table.now.entries)) c.keys-keys.ensures
