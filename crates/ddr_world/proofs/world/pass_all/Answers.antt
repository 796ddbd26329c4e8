-- One channel more makes its cycles.
use Rattle.std.proofs.Common.{◌<◌, length, get_or, arith, ◌∙◌}
use Rattle.std.proofs.lemmas.Option.{slice_get-get_or}
use Rattle.std.proofs.Math.Seq.{map-set_same}
use Rattle.ddr_world.specs.Kept.{opened_with}
use Rattle.ddr_world.proofs.QuietLemmas.{next_passed, next_quiet}
use Rattle.ddr_world.proofs.world.pass_all.Goals as goal

pub pass-requires : goal.pass-requires
pass-requires c =
    let i = c.loop-side.side-index in
    let now = c.loop-side.channels in
    let within : i < length now = omega arith in
    next_quiet c.args.count i c.args.channels.now now (get_or now i c.side-item.result) c.loop-side.invariant.passed c.requires (slice_get-get_or now i c.side-item.result within)

pub loop-side-preserved : goal.loop-side-preserved
loop-side-preserved c =
    let i = c.loop-side.side-index in
    let now = c.loop-side.channels in
    let within : i < length now = omega arith in
    record {
      passed = next_passed c.args.count i c.args.channels.now now (get_or now i c.side-item.result) c.pass.new.self c.loop-side.invariant.passed (slice_get-get_or now i c.side-item.result within) c.pass.ensures.state;
      as_opened = map-set_same opened_with now i c.pass.new.self c.side-item.result c.pass.ensures.opened ∙ c.loop-side.invariant.as_opened;
    }
