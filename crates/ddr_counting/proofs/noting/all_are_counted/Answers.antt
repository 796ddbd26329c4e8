-- The commands of a channel lie in its geometry, in the order of their cycles, and there are fewer of them than cycles.
use Rattle.std.proofs.Common.{◌<◌, length, arith}
use Rattle.ddr_timing.specs.declared.units.TheConstants.{CLOCK_STOP}
use Rattle.ddr_counting.proofs.LegalLemmas.{all_in_order, all_placed, few_commands}
use Rattle.ddr_counting.proofs.noting.all_are_counted.Goals as goal

pub returns : goal.returns
returns c =
    let k = c.args.channel.now in
    let noted = c.requires.noted in
    let legal = c.commands_are_legal.ensures in
    let most = few_commands k.config k.start k.now k.trace legal in
    let few : length k.trace < CLOCK_STOP = omega (arith, most, c.now.ensures.value, c.now.ensures.bound, c.requires.running) in
    record {
      geometry = noted.geometry;
      timing = noted.timing;
      start = noted.start;
      stands = noted.stands (all_placed k.config k.start k.now k.trace legal) few;
      few = few;
      order = all_in_order k.config k.start k.now k.trace legal;
    }
