-- What was taken of the records stays the same trace from one command to the next.
use Rattle.std.proofs.Common.{◌≡◌, ◌+◌, [], ◌∷◌, ◌++◌, Err, ap, arith, length, refl, rules, true, ◌∙◌}
use Rattle.std.specs.Result.{is_ok}
use Rattle.std.proofs.lemmas.List.{length-append}
use Rattle.ddr_trace_text.proofs.ReadLemmas.{fails_later, taken_end, taken_more, taken_too_many}
use Rattle.ddr_trace_text.proofs.reader.read_entries.Goals as goal

pub loop-line-init : goal.loop-line-init
loop-line-init g c =
    (c.requires.reading, rw c.requires.none refl, λ rows left. (65538, rows, refl, left, rw c.requires.none refl))

pub returns-in_err-entry-clause-fault : goal.returns-in_err-entry-clause-fault
returns-in_err-entry-clause-fault g c =
    let e : c.from_residual.result ≡ Err c.in_err-entry.field-0.0 = search rules in
    rw e (fails_later g.R.Read.remaining c.args.table.now c.loop-line.table c.loop-line.line c.loop-line.entries.items c.in_err-entry.field-0.0 (omega arith) (omega arith) c.loop-line.invariant.2 c.in_err-entry.ensures.fault)

pub returns-in-End-clause-taken : goal.returns-in-End-clause-taken
returns-in-End-clause-taken g c =
    taken_end g.R.Read.remaining c.args.table.now c.loop-line.table c.read_record.new.table c.loop-line.line c.loop-line.entries.items c.in-End.end (omega arith) (omega arith) c.loop-line.invariant.1 c.loop-line.invariant.2 (rw c.in-End.is at c.in_ok-entry.ensures.said)

pub loop-line-preserved : goal.loop-line-preserved
loop-line-preserved g c =
    let taken = taken_more g.R.Read.remaining c.args.table.now c.loop-line.table c.read_record.new.table c.loop-line.line c.loop-line.entries.items c.in-Command.entry (omega arith) (omega arith) c.loop-line.invariant.1 c.loop-line.invariant.2 (rw c.in-Command.is at c.in_ok-entry.ensures.said) in
    let good : is_ok c.push.result ≡ true = search rules in
    let items : c.push.new.self.items ≡ c.loop-line.entries.items ++ c.in-Command.entry ∷ [] = rw good at c.push.ensures.items in
    let longer : length c.push.new.self.items ≡ length c.loop-line.entries.items + 1 = ap length items ∙ length-append c.loop-line.entries.items (c.in-Command.entry ∷ []) in
    (c.in_ok-entry.ensures.reading, omega arith, rw items taken)

pub returns-in_err-read_record-clause-fault : goal.returns-in_err-read_record-clause-fault
returns-in_err-read_record-clause-fault g c =
    let e : c.from_residual-in_err-read_record.result ≡ Err c.in_err-read_record.field-0.0 = search rules in
    let last : c.loop-line.line ≡ 65538 = omega arith in
    rw e (fails_later g.R.Read.remaining c.args.table.now c.loop-line.table 65538 c.loop-line.entries.items c.in_err-read_record.field-0.0 (omega arith) (omega arith) (rw last at c.loop-line.invariant.2) c.in_err-read_record.ensures.fault)

pub returns-in-Command-2-clause-fault : goal.returns-in-Command-2-clause-fault
returns-in-Command-2-clause-fault g c =
    taken_too_many g.R.Read.remaining c.args.table.now c.loop-line.table c.read_record-2.new.table c.loop-line.line c.loop-line.entries.items _ (omega arith) c.loop-line.invariant.1 c.loop-line.invariant.2 (rw c.in-Command-2.is at c.in_ok-read_record.ensures.said)

pub returns-in-End-2-clause-taken : goal.returns-in-End-2-clause-taken
returns-in-End-2-clause-taken g c =
    taken_end g.R.Read.remaining c.args.table.now c.loop-line.table c.read_record-2.new.table c.loop-line.line c.loop-line.entries.items c.in-End-2.end (omega arith) (omega arith) c.loop-line.invariant.1 c.loop-line.invariant.2 (rw c.in-End-2.is at c.in_ok-read_record.ensures.said)
