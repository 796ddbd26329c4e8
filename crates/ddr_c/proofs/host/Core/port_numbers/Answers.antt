-- Where there is nothing of what came of its requests, none came.
use Rattle.std.proofs.Common.{ap, sym, ◌∙◌, arith}
use Rattle.std.specs.List.{slice_get}
use Rattle.std.proofs.lemmas.List.{get_or_past}
use Rattle.ddr_c.specs.declared.traffic.Traffic.{Traffic}
use Rattle.ddr_c.specs.Traffic.{no_traffic, port_numbers_of}
use Rattle.ddr_c.proofs.ReplyLemmas.{numbers_told}
use Rattle.ddr_c.proofs.host.Core.port_numbers.Goals as goal

pub returns : goal.returns
returns c =
    let core = c.args.self.now in
    let side = slice_get core.world.ports c.args.port in
    let counts = sym c.in_ok-counts.was ∙ c.counts.ensures in
    numbers_told side c.in_ok-counts.counts no_traffic c.port_numbers-2.result counts c.port_numbers-2.ensures
    ∙ ap (λ (t : Traffic). port_numbers_of side t) (sym (get_or_past core.traffic.items c.args.port no_traffic (omega (arith, c.if-port-len.false, c.len.ensures))))
