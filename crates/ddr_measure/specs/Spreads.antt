-- How long the requests of each group took from each step to another.
use Rattle.std.specs.Prelude.{ℕ, List, Option, flat_map, map}
use Rattle.ddr_measure.specs.Groups.{distribution_of, noted}
use Rattle.ddr_measure.specs.Text.{all_groups, all_spans, span_table}
use Rattle.ddr_measure.specs.declared.group.Group.{Group}
use Rattle.ddr_measure.specs.declared.span.Span.{Span}
use Rattle.ddr_measure.specs.declared.spread.Spread.{Spread}
use Rattle.ddr_measure.specs.declared.timed.Timed.{Timed}

abbrev pub spread_of : List Timed → Group → Span → Spread
spread_of requests group span = record { group = group; span = span; clocks = distribution_of group span requests }

-- one of each group and span, in the order of their tables
abbrev pub spreads_of : List Timed → List Spread
spreads_of requests = flat_map (λ group. map (spread_of requests group) all_spans) all_groups

-- one request more
abbrev pub noted_in : Timed → Spread → Spread
noted_in request spread = record spread { clocks = noted spread.group spread.span spread.clocks request }

-- a table of each of these
abbrev pub spreads_tables : Option ℕ → List Spread → List ℕ
spreads_tables clock spreads = flat_map (λ spread. span_table clock spread.group spread.span spread.clocks) spreads
