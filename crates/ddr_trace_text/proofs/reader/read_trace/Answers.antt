-- From the header over the commands to what stands behind END.
use Rattle.ddr_trace.specs.Traces.{Recorded}
use Rattle.std.proofs.Common.{◌≡◌, ◌+◌, Err, Ok, ap, rules, sym, subst, ◌∙◌}
use Rattle.ddr_trace_text.specs.Reader.{FailsAs, behind_end}
use Rattle.ddr_trace_text.specs.Text.{trace_text}
use Rattle.ddr_trace_text.proofs.BackLemmas.{answer_back}
use Rattle.ddr_trace_text.proofs.ReadLemmas.{left_at_start, nothing_behind}
use Rattle.ddr_trace_text.proofs.reader.read_trace.Goals as goal

pub returns-in_err-read_header-clause-read : goal.returns-in_err-read_header-clause-read
returns-in_err-read_header-clause-read g c = λ text known.
    let e : c.from_residual.result ≡ Err c.in_err-read_header.field-0.0 = search rules in
    let left = left_at_start g.R.Read.remaining c.args.reader c.from_reader-table.result text c.from_reader-table.ensures.source c.from_reader-table.ensures.state known in
    rw e (c.in_err-read_header.ensures.fault 65538 _ left)

pub returns-in_err-end-clause-read : goal.returns-in_err-end-clause-read
returns-in_err-end-clause-read g c = λ text known.
    let e : c.from_residual-in_err-end.result ≡ Err c.in_err-end.field-0.0 = search rules in
    let left = left_at_start g.R.Read.remaining c.args.reader c.from_reader-table.result text c.from_reader-table.ensures.source c.from_reader-table.ensures.state known in
    let behind = c.in_ok-read_header.ensures.header 65538 _ left in
    rw e (subst (λ said. FailsAs said c.in_err-end.field-0.0) (sym behind.1) (c.in_err-end.ensures.fault behind.0 behind.2))

pub returns-in_err-read_nothing-clause-read : goal.returns-in_err-read_nothing-clause-read
returns-in_err-read_nothing-clause-read g c = λ text known.
    let e : c.from_residual-in_err-read_nothing.result ≡ Err c.in_err-read_nothing.field-0.0 = search rules in
    let left = left_at_start g.R.Read.remaining c.args.reader c.from_reader-table.result text c.from_reader-table.ensures.source c.from_reader-table.ensures.state known in
    let behind = c.in_ok-read_header.ensures.header 65538 _ left in
    let taken = c.in_ok-end.ensures.taken behind.0 behind.2 in
    let trace : Recorded = record { start = 0; end = c.in_ok-end.end; entries = c.read_entries.new.entries.items } in
    let place = ap (λ n. behind_end (n + 3) trace taken.1) (sym (c.len.ensures ∙ c.read_entries.new.entries.ok.0)) in
    let fails = c.in_err-read_nothing.ensures.fault taken.0 taken.1 trace taken.2 in
    rw e (subst (λ said. FailsAs said c.in_err-read_nothing.field-0.0) (sym (behind.1 ∙ taken.3 ∙ place)) fails)

pub returns-clause-read : goal.returns-clause-read
returns-clause-read g c = λ text known.
    let left = left_at_start g.R.Read.remaining c.args.reader c.from_reader-table.result text c.from_reader-table.ensures.source c.from_reader-table.ensures.state known in
    let behind = c.in_ok-read_header.ensures.header 65538 _ left in
    let taken = c.in_ok-end.ensures.taken behind.0 behind.2 in
    sym (behind.1 ∙ taken.3 ∙ nothing_behind _ _ taken.1 (c.in_ok-read_nothing.ensures.nothing taken.0 taken.1 taken.2))

pub returns-in_err-read_header-clause-back : goal.returns-in_err-read_header-clause-back
returns-in_err-read_header-clause-back g c = λ config entries end fits known.
    answer_back config.geometry entries end c.from_residual.result fits (returns-in_err-read_header-clause-read g c (trace_text entries end) known)

pub returns-in_err-end-clause-back : goal.returns-in_err-end-clause-back
returns-in_err-end-clause-back g c = λ config entries end fits known.
    answer_back config.geometry entries end c.from_residual-in_err-end.result fits (returns-in_err-end-clause-read g c (trace_text entries end) known)

pub returns-in_err-read_nothing-clause-back : goal.returns-in_err-read_nothing-clause-back
returns-in_err-read_nothing-clause-back g c = λ config entries end fits known.
    answer_back config.geometry entries end c.from_residual-in_err-read_nothing.result fits (returns-in_err-read_nothing-clause-read g c (trace_text entries end) known)

pub returns-clause-back : goal.returns-clause-back
returns-clause-back g c = λ config entries end fits known.
    answer_back config.geometry entries end (Ok (record { start = 0; end = c.in_ok-end.end; entries = c.read_entries.new.entries.items })) fits (returns-clause-read g c (trace_text entries end) known)
