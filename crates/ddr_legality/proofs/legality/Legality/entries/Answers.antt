-- A legal trace keeps the data bus.
use Rattle.std.proofs.Common.{◌+◌, List, sym, subst}
use Rattle.ddr_trace.specs.declared.command.Entry.{Entry}
use Rattle.ddr_trace.specs.Bus.{KeepsBus}
use Rattle.ddr_trace.proofs.BusLemmas.{bus_kept}
use Rattle.ddr_legality.proofs.legality.Legality.entries.Goals as goal

pub returns-clause-bus : goal.returns-clause-bus
returns-clause-bus c =
    let a = c.self.inside in
    rw (← c.self.view_is, c.as_slice.ensures.value)
    (λ keeps. subst (λ (es : List Entry). KeepsBus a.issued.config.timing es) (sym (c.self.invariant.kept keeps))
    (bus_kept a.issued.config a.issued.start (a.now + 1) a.past.items c.self.invariant.legal))
