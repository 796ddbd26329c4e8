-- What is kept of each group and span, as it is written.
use Rattle.std.proofs.Common.{◌≡◌, ℕ, List, [], ◌∷◌, Option, refl, ◌∙◌}
use Rattle.std.specs.Prelude.{flat_map, map}
use Rattle.std.proofs.lemmas.List.Folds.{flat_map-map}
use Rattle.std.proofs.lemmas.Grind.{flat_map-append}
use Rattle.ddr_measure.specs.Spreads.{spread_of, spreads_of, spreads_tables}
use Rattle.ddr_measure.specs.Text.{all_groups, all_spans, group_tables, groups_tables, span_table}
use Rattle.ddr_measure.specs.declared.group.Group.{Group}
use Rattle.ddr_measure.specs.declared.span.Span.{Span}
use Rattle.ddr_measure.specs.declared.spread.Spread.{Spread}
use Rattle.ddr_measure.specs.declared.timed.Timed.{Timed}

groups_written : (clock : Option ℕ) (requests : List Timed) (spans : List Span) (groups : List Group)
    → spreads_tables clock (flat_map (λ group. map (spread_of requests group) spans) groups) ≡ flat_map (λ group. group_tables clock group spans requests) groups
groups_written clock requests spans [] = refl
groups_written clock requests spans (group ∷ more) =
    let table : Spread → List ℕ = λ spread. span_table clock spread.group spread.span spread.clocks in
    let here : spreads_tables clock (map (spread_of requests group) spans) ≡ group_tables clock group spans requests = flat_map-map table (spread_of requests group) spans in
    let rest = groups_written clock requests spans more in
    flat_map-append table (map (spread_of requests group) spans) (flat_map (λ g. map (spread_of requests g) spans) more) ∙ rw (here, rest) refl

pub spreads_written : (clock : Option ℕ) (requests : List Timed) → spreads_tables clock (spreads_of requests) ≡ groups_tables clock all_groups requests
spreads_written clock requests = groups_written clock requests all_spans all_groups
