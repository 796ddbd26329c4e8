-- A read and a write wait for the other rank, and no other command does.
use Rattle.std.proofs.Common.{refl, ap, ◌∙◌}
use Rattle.ddr_legality.specs.declared.columns.Switch.{Switch}
use Rattle.ddr_legality.proofs.IssuedLemmas.{all_left, no_column, read_told, write_told}
use Rattle.ddr_legality.proofs.bus_readiness.BusReadiness.is_legal.Goals as goal

pub returns-in-Act : goal.returns-in-Act
returns-in-Act c = λ history issued.
    c.is_kept.ensures history issued (all_left c.args.self.now c.args.command.now (rw c.in-Act.is refl))

pub returns-in-Rd : goal.returns-in-Rd
returns-in-Rd c = λ history issued.
    c.is_kept-in-Rd.ensures history issued (ap (λ (s : Switch). s.read) c.switch_of-in-Rd.ensures ∙ read_told c.args.self.now history issued c.in-Rd.rank c.args.command.now c.in-Rd.is)

pub returns-in-Wr : goal.returns-in-Wr
returns-in-Wr c = λ history issued.
    c.is_kept-in-Wr.ensures history issued (ap (λ (s : Switch). s.write) c.switch_of.ensures ∙ write_told c.args.self.now history issued c.in-Wr.rank c.args.command.now c.in-Wr.is)

pub returns-in-Pre : goal.returns-in-Pre
returns-in-Pre c = λ history issued.
    c.is_kept-in-Pre.ensures history issued (all_left c.args.self.now c.args.command.now (rw c.in-Pre.is refl))

pub returns-in-PreAll : goal.returns-in-PreAll
returns-in-PreAll c = λ history issued.
    c.is_kept-in-PreAll.ensures history issued (all_left c.args.self.now c.args.command.now (no_column c.args.command.now c.in-PreAll.is))
