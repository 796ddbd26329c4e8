use Rattle.std.proofs.Common.{◌≡◌, ◌+◌, ◌<◌, Option, Err, Ok, ap, subst, arith}
use Rattle.std.proofs.lemmas.Result.{err_from_is_err_and}
use Rattle.ddr_text.specs.declared.fault.Fault.{Fault}
use Rattle.ddr_text.specs.declared.fault.Fault.TheVariants as faults
use Rattle.ddr_capture.specs.Feed.{left, line_in, waiting}
use Rattle.ddr_capture.specs.Lines.{text_of}
use Rattle.ddr_stream.specs.declared.placing.Placed.{Placed}
use Rattle.ddr_stream.specs.Next.{IsNext, left_in, next_of}
use Rattle.ddr_stream.specs.View.{waiting_of}
use Rattle.ddr_stream.specs.Waiting.{IsSaidFault, Waiting}
use Rattle.ddr_stream.proofs.NextLemmas.{line_fault_said, line_kind, line_lost, line_next, line_said}
use Rattle.ddr_stream.proofs.PlacedLemmas.{fault_ends, not_read}
use Rattle.ddr_stream.proofs.stream.Stream.next.Goals as goal

pub returns-in-Err-clause-fault : goal.returns-in-Err-clause-fault
returns-in-Err-clause-fault g c =
    let more = g.R.Read.remaining c.args.reader.now in
    let a = c.self.inside in
    subst (λ (w : Waiting). IsSaidFault c.line_fault.result (left_in w c.args.sent more)) c.self.view_is
    (rw c.line_fault.ensures (line_lost a.config.geometry a.reading a.config.limits.ports a.count c.args.sent (left a.feed more) c.in-Err.refusal (λ e. c.in-Err.ensures.long (ap Err e))))

pub returns-in_err-asked-clause-kind : goal.returns-in_err-asked-clause-kind
returns-in_err-asked-clause-kind g c =
    let a = c.self.inside in
    let w : Waiting = waiting_of a in
    let fault : Fault = c.in_err-asked.field-0.0 in
    let text = text_of c.in-Ok.found (line_in c.next.new.self) in
    let some : 0 < a.config.limits.ports = omega (arith, a.config.limits.ports_range.0) in
    let p = err_from_is_err_and c.from_residual.result c.from_residual.ensures.1 in
    let said = line_said w a.map.geometry c.args.sent c.in-Ok.found c.in-Some.text.now c.line.result.now (line_in c.next.new.self) (Err fault) c.self.invariant.geometry c.in-Some.ensures.text c.line.ensures c.in_err-asked.ensures in
    rw (p.1, p.2) (fault_ends fault (line_kind w c.args.sent text fault some said))

pub returns-in_err-asked-clause-fault : goal.returns-in_err-asked-clause-fault
returns-in_err-asked-clause-fault g c =
    let more = g.R.Read.remaining c.args.reader.now in
    let a = c.self.inside in
    let w : Waiting = waiting_of a in
    let fault : Fault = c.in_err-asked.field-0.0 in
    let text = text_of c.in-Ok.found (line_in c.next.new.self) in
    let some : 0 < a.config.limits.ports = omega (arith, a.config.limits.ports_range.0) in
    let p = err_from_is_err_and c.from_residual.result c.from_residual.ensures.1 in
    let said = line_said w a.map.geometry c.args.sent c.in-Ok.found c.in-Some.text.now c.line.result.now (line_in c.next.new.self) (Err fault) c.self.invariant.geometry c.in-Some.ensures.text c.line.ensures c.in_err-asked.ensures in
    rw (p.1, p.2) (subst (λ (v : Waiting). IsSaidFault fault (left_in v c.args.sent more)) c.self.view_is
    (line_fault_said w c.args.sent more (left c.next.new.self (g.R.Read.remaining c.next.new.reader)) c.in-Ok.found (line_in c.next.new.self) fault some c.in-Ok.ensures.found c.in-Some.ensures.some said))

pub returns-in_err-asked-clause-sure : goal.returns-in_err-asked-clause-sure
returns-in_err-asked-clause-sure g c = λ is.
    let a = c.self.inside in
    let w : Waiting = waiting_of a in
    let fault : Fault = c.in_err-asked.field-0.0 in
    let text = text_of c.in-Ok.found (line_in c.next.new.self) in
    let some : 0 < a.config.limits.ports = omega (arith, a.config.limits.ports_range.0) in
    let p = err_from_is_err_and c.from_residual.result c.from_residual.ensures.1 in
    let said = line_said w a.map.geometry c.args.sent c.in-Ok.found c.in-Some.text.now c.line.result.now (line_in c.next.new.self) (Err fault) c.self.invariant.geometry c.in-Some.ensures.text c.line.ensures c.in_err-asked.ensures in
    let read : c.in_err-asked.field-0.0 ≡ faults.Read = let e = p.1 in let f = p.2 in cc in
    absurd (not_read fault (line_kind w c.args.sent text fault some said) read)

pub returns-clause-next : goal.returns-clause-next
returns-clause-next g c =
    let more = g.R.Read.remaining c.args.reader.now in
    let less = g.R.Read.remaining c.next.new.reader in
    let a = c.self.inside in
    let w : Waiting = waiting_of a in
    let waits = waiting c.next.new.self in
    let asked : Option Placed = c.in_ok-asked.asked in
    let text = text_of c.in-Ok.found (line_in c.next.new.self) in
    let some : 0 < a.config.limits.ports = omega (arith, a.config.limits.ports_range.0) in
    let said = line_said w a.map.geometry c.args.sent c.in-Ok.found c.in-Some.text.now c.line.result.now (line_in c.next.new.self) (Ok asked) c.self.invariant.geometry c.in-Some.ensures.text c.line.ensures c.in_ok-asked.ensures in
    rw c.next_of.ensures (subst (λ (v : Waiting). IsNext (next_of asked) v c.args.sent more (record w { bytes = waits; count = a.count + 1 }) less) c.self.view_is
    (line_next w c.args.sent waits more less c.in-Ok.found (line_in c.next.new.self) asked some c.in-Ok.ensures.found c.in-Some.ensures.some said))
