-- A read and a write wait for the other rank, and no other command does.
use Rattle.std.proofs.Common.{refl, ap, ◌∙◌}
use Rattle.ddr_legality.specs.declared.columns.Switch.{Switch}
use Rattle.ddr_legality.proofs.IssuedLemmas.{all_left, no_column, read_told, write_told}
use Rattle.ddr_legality.proofs.bus_readiness.BusReadiness.allowed_at.Goals as goal

pub returns-in-Act-clause-first : goal.returns-in-Act-clause-first
returns-in-Act-clause-first c = λ history cycle issued begun below.
    c.allowed_behind.ensures.first history cycle issued (all_left c.args.self.now c.args.command.now (rw c.in-Act.is refl)) begun below

pub returns-in-Rd-clause-first : goal.returns-in-Rd-clause-first
returns-in-Rd-clause-first c = λ history cycle issued begun below.
    c.allowed_behind-in-Rd.ensures.first history cycle issued (ap (λ (s : Switch). s.read) c.switch_of-in-Rd.ensures ∙ read_told c.args.self.now history issued c.in-Rd.rank c.args.command.now c.in-Rd.is) begun below

pub returns-in-Wr-clause-first : goal.returns-in-Wr-clause-first
returns-in-Wr-clause-first c = λ history cycle issued begun below.
    c.allowed_behind-in-Wr.ensures.first history cycle issued (ap (λ (s : Switch). s.write) c.switch_of.ensures ∙ write_told c.args.self.now history issued c.in-Wr.rank c.args.command.now c.in-Wr.is) begun below

pub returns-in-Pre-clause-first : goal.returns-in-Pre-clause-first
returns-in-Pre-clause-first c = λ history cycle issued begun below.
    c.allowed_behind-in-Pre.ensures.first history cycle issued (all_left c.args.self.now c.args.command.now (rw c.in-Pre.is refl)) begun below

pub returns-in-PreAll-clause-first : goal.returns-in-PreAll-clause-first
returns-in-PreAll-clause-first c = λ history cycle issued begun below.
    c.allowed_behind-in-PreAll.ensures.first history cycle issued (all_left c.args.self.now c.args.command.now (no_column c.args.command.now c.in-PreAll.is)) begun below
