-- A channel before its first cycle.
use Rattle.std.proofs.Common.{◌∷◌, [], sym, ap, subst, ◌∙◌}
use Rattle.ddr_refresh.specs.Refreshes.{Refreshes}
use Rattle.ddr_channel.specs.declared.channel.Channel.TheInside.{Inside}
use Rattle.ddr_channel.specs.Kept.{state_of}
use Rattle.ddr_channel.specs.View.{kept_of, IsWhole}
use Rattle.ddr_channel.proofs.ChannelLemmas.{fields_are_open, state_open, whole_open}
use Rattle.ddr_channel.proofs.StandsLemmas.{stands_opened}
use Rattle.ddr_channel.proofs.channel.Channel.open_as.Goals as goal

pub invariant_of-result : goal.invariant_of-result
invariant_of-result c =
    let l = c.in_ok-open_bus.field-0 in
    subst IsWhole (sym (fields_are_open c.args.config.now c.args.first_cycle c.open.result (c.open-2.result ∷ c.open-2.result ∷ []) c.in_ok-with_capacity.field-0 c.in_ok-with_capacity-2.field-0 l c.in_ok-open.field-0
    c.open.ensures (ap (λ (r : Refreshes). r ∷ r ∷ []) c.open-2.ensures) c.in_ok-with_capacity.ensures c.in_ok-with_capacity-2.ensures c.in_ok-open_bus.ensures.bus))
    (whole_open c.args.config.now c.args.first_cycle l.spare l.keeps c.in_ok-open.field-0 c.requires c.in_ok-open.ensures)

pub returns-clause-state : goal.returns-clause-state
returns-clause-state c =
    let l = c.in_ok-open_bus.field-0 in
    ap (λ (a : Inside). state_of (kept_of a)) (fields_are_open c.args.config.now c.args.first_cycle c.open.result (c.open-2.result ∷ c.open-2.result ∷ []) c.in_ok-with_capacity.field-0 c.in_ok-with_capacity-2.field-0 l c.in_ok-open.field-0
    c.open.ensures (ap (λ (r : Refreshes). r ∷ r ∷ []) c.open-2.ensures) c.in_ok-with_capacity.ensures c.in_ok-with_capacity-2.ensures c.in_ok-open_bus.ensures.bus)
    ∙ state_open c.args.config.now c.args.first_cycle l.spare l.keeps c.in_ok-open.field-0 c.in_ok-open.ensures

pub returns-clause-stands : goal.returns-clause-stands
returns-clause-stands c =
    let l = c.in_ok-open_bus.field-0 in
    stands_opened _ c.args.config.now c.args.first_cycle
    (ap (λ (a : Inside). state_of (kept_of a)) (fields_are_open c.args.config.now c.args.first_cycle c.open.result (c.open-2.result ∷ c.open-2.result ∷ []) c.in_ok-with_capacity.field-0 c.in_ok-with_capacity-2.field-0 l c.in_ok-open.field-0
    c.open.ensures (ap (λ (r : Refreshes). r ∷ r ∷ []) c.open-2.ensures) c.in_ok-with_capacity.ensures c.in_ok-with_capacity-2.ensures c.in_ok-open_bus.ensures.bus)
    ∙ state_open c.args.config.now c.args.first_cycle l.spare l.keeps c.in_ok-open.field-0 c.in_ok-open.ensures)
