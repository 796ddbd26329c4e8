use Rattle.std.proofs.Common.{◌≡◌, ℕ, ◌+◌, ◌<◌, ◌≤◌, ◌++◌, length, map, take, drop, get_or, set, sym, ap, ◌∙◌, arith}
use Rattle.std.proofs.lemmas.List.{take_all, drop_all, append-nil, get_or_default, length-set}
use Rattle.std.proofs.lemmas.List.Edits.{map_over_more}
use Rattle.ddr_hazards.specs.Slots.{lowered}
use Rattle.ddr_hazards.proofs.slots.lower_above.Goals as goal

pub loop-it-preserved : goal.loop-it-preserved
loop-it-preserved c =
    let i = c.loop-it.it-index in
    let x = get_or c.loop-it.places i 0 in
    let inside : i < length c.args.places.now = omega arith in
    let within : i < length c.loop-it.places = omega (arith, c.loop-it.invariant.long) in
    record {
      long = length-set c.loop-it.places i c.lowered.result ∙ c.loop-it.invariant.long;
      so_far = ap (set c.loop-it.places i) c.lowered.ensures
          ∙ map_over_more (lowered c.args.place) c.args.places.now c.loop-it.places i x inside c.loop-it.invariant.so_far (get_or_default c.loop-it.places i 0 x within);
    }

pub returns : goal.returns
returns c =
    let xs = c.args.places.now in
    let past : length xs ≤ c.loop-it.it-index = omega arith in
    c.loop-it.invariant.so_far ∙ (λ k. map (lowered c.args.place) (take_all c.loop-it.it-index xs past k) ++ drop_all c.loop-it.it-index xs past k) ∙ append-nil (map (lowered c.args.place) xs)
