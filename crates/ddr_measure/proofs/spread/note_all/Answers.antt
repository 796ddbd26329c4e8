use Rattle.std.proofs.Common.{◌<◌, length, ap, ◌∙◌, slice_set, arith}
use Rattle.std.proofs.lemmas.List.{get_or_default}
use Rattle.std.proofs.lemmas.List.Edits.{map_over_more}
use Rattle.ddr_measure.specs.Spreads.{noted_in}
use Rattle.ddr_measure.proofs.spread.note_all.Goals as goal

pub loop-spread-preserved : goal.loop-spread-preserved
loop-spread-preserved c =
    let i = c.loop-spread.spread-index in
    let spreads = c.loop-spread.spreads in
    let within : i < length c.args.spreads.now = omega arith in
    let there : i < length spreads = omega arith in
    ap (slice_set spreads i) c.note.ensures
    ∙ map_over_more (noted_in c.args.request.now) c.args.spreads.now spreads i _ within c.loop-spread.invariant (get_or_default spreads i _ _ there)
