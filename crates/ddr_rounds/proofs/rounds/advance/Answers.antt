-- Quiet rounds were made at once.
use Rattle.std.proofs.Common.{Some, sym, ap, ◌∙◌, arith}
use Rattle.std.proofs.lemmas.List.{length-map}
use Rattle.ddr_world.specs.Kept.{side_of, state_of}
use Rattle.ddr_world.specs.State.{State}
use Rattle.ddr_rounds.specs.Drains.{counted_in}
use Rattle.ddr_rounds.proofs.DrainLemmas.{drained_one, drained_quiet}
use Rattle.ddr_rounds.proofs.QuietLemmas.{fewer_quiet, rounds_quiet}
use Rattle.ddr_rounds.proofs.rounds.advance.Goals as goal

pub pass-requires : goal.pass-requires
pass-requires g c = fewer_quiet c.min-quiet.result c.still.result (state_of c.args.world.now) (omega (arith, c.min-quiet.ensures)) c.still.ensures.quiet

pub returns-clause-made : goal.returns-clause-made
returns-clause-made g c =
    let world = c.args.world.now in
    rounds_quiet world.config c.min-quiet.result (state_of world) (length-map world.channels side_of ∙ c.still.ensures.channels)
    (fewer_quiet c.min-quiet.result c.still.result (state_of world) (omega (arith, c.min-quiet.ensures)) c.still.ensures.quiet)
    ∙ ap (λ (s : State). Some s) (sym c.pass.ensures.state)

pub returns-then-quiet-eq0-clause-steady : goal.returns-then-quiet-eq0-clause-steady
returns-then-quiet-eq0-clause-steady g c = λ d. drained_one c.args.world.now.config (state_of c.args.world.now) (state_of c.make_round.new.world) d c.in_ok-make_round.ensures.made

pub returns-clause-steady : goal.returns-clause-steady
returns-clause-steady g c = λ d.
    let world = c.args.world.now in
    drained_quiet world.config c.min-quiet.result (state_of world) d (length-map world.channels side_of ∙ c.still.ensures.channels)
    (fewer_quiet c.min-quiet.result c.still.result (state_of world) (omega (arith, c.min-quiet.ensures)) c.still.ensures.quiet)
    ∙ ap (λ (s : State). counted_in c.min-quiet.result s d) (sym c.pass.ensures.state)
