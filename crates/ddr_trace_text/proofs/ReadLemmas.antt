-- What a read of a table takes of the records that are left in it, and what a trace's records say one by one.
use Rattle.std.proofs.Common.{◌≡◌, ℕ, ◌+◌, ◌-◌, ◌<◌, ◌≤◌, Bool, true, false, suc, List, [], ◌∷◌, ◌++◌, length, Option, None, Some, Ok, Err, refl, sym, ap, subst, arith, ◌∙◌}
use Rattle.std.proofs.lemmas.Bool.Decides.{nat_tests}
use Rattle.csv.specs.Reading.{Reached, ReadRecord, default_config, records_from, source_of, strip_bom}
use Rattle.std.specs.Prelude.{option_map}
use Rattle.csv.specs.declared.parser.State.TheVariants as state
use Rattle.csv.specs.Machine.{Read, next_record}
use Rattle.csv.specs.declared.parser.State.{State}
use Rattle.csv.specs.declared.reader.Reader.{Reader}
use Rattle.csv.proofs.ReadFacts.{rows-end, rows-more}
use Rattle.ddr_trace.specs.declared.command.Entry.{Entry}
use Rattle.ddr_trace_text.specs.declared.parse.Parsed.{Parsed}
use Rattle.ddr_trace_text.specs.declared.parse.Parsed.TheVariants as says
use Rattle.ddr_trace_text.specs.declared.text.TraceError.{TraceError}
use Rattle.ddr_trace_text.specs.declared.text.TraceError.TheVariants as error
use Rattle.ddr_trace_text.specs.Parse.{is_header, record_of}
use Rattle.ddr_trace_text.specs.Reader.{FailsAs, behind_end, entries_of, records_in, trace_of}
use Rattle.ddr_trace_text.specs.Table.{HasLeft, Takes}
use Rattle.ddr_trace.specs.Traces.{Recorded}

rows_after : (n : ℕ) (s t : State) (bytes rest : List ℕ) (fields : List (List ℕ)) (p : Read) → next_record default_config s [] [] bytes ≡ Some p → fields ≡ p.0 → p.1 ≡ t → p.2 ≡ rest → records_from default_config (suc n) s bytes ≡ fields ∷ records_from default_config n t rest
unfolding records_from
rows_after n s t bytes rest fields p taken first after left = rw (taken, first, ← after, ← left) refl

-- a read takes the next of the records that are left
pub takes_next : {R : Type 0} (remaining : R → Option (List ℕ)) (a b : Reader R) (found : Bool) (fields : List (List ℕ)) → a.config ≡ default_config → ReadRecord remaining a b found fields → Takes remaining a b found fields
unfolding records_from Reached
takes_next remaining a b true fields config read n rows left =
    let more = rows-more remaining a b fields default_config a.state left.0 left.0 [] config left.1 (refl, refl) read in
    (records_from default_config n b.state more.0, left.2 ∙ rows_after n a.state b.state left.0 more.0 fields more.2.0 more.2.1 more.2.2 more.2.3.0 more.2.3.1, (more.0, more.1, refl))
takes_next remaining a b false fields config read n rows left =
    let end = rows-end remaining a b fields default_config left.0 config left.1 read in
    rw (left.2, end) refl

-- the header, and what stands in its place
pub header_taken : (rows rest : List (List (List ℕ))) (fields : List (List ℕ)) → rows ≡ fields ∷ rest → is_header fields ≡ true → trace_of rows ≡ entries_of 2 [] rest
unfolding trace_of
header_taken rows rest fields e header = rw (e, header) refl

pub header_missing : (rows : List (List (List ℕ))) → rows ≡ [] → trace_of rows ≡ Err error.Header
unfolding trace_of
header_missing rows e = rw e refl

pub header_wrong : (rows rest : List (List (List ℕ))) (fields : List (List ℕ)) → rows ≡ fields ∷ rest → is_header fields ≡ false → trace_of rows ≡ Err error.Header
unfolding trace_of
header_wrong rows rest fields e header = rw (e, header) refl

-- the records behind the header, by the first of them
pub entries_missing : (line : ℕ) (so_far : List Entry) (rows : List (List (List ℕ))) → rows ≡ [] → entries_of line so_far rows ≡ Err error.Truncated
unfolding entries_of
entries_missing line so_far rows e = rw e refl

pub entry_wrong : (line : ℕ) (so_far : List Entry) (rows rest : List (List (List ℕ))) (fields : List (List ℕ)) → rows ≡ fields ∷ rest → record_of fields ≡ None → entries_of line so_far rows ≡ Err (error.Row line)
unfolding entries_of
entry_wrong line so_far rows rest fields e wrong = rw (e, wrong) refl

pub entry_taken : (line : ℕ) (so_far : List Entry) (rows rest : List (List (List ℕ))) (fields : List (List ℕ)) (entry : Entry) → rows ≡ fields ∷ rest → record_of fields ≡ Some (says.Command entry) → length so_far < 65536 → entries_of line so_far rows ≡ entries_of (line + 1) (so_far ++ entry ∷ []) rest
unfolding entries_of
entry_taken line so_far rows rest fields entry e said few = rw (e, said) (grind (arith, nat_tests))

pub entry_too_many : (line : ℕ) (so_far : List Entry) (rows rest : List (List (List ℕ))) (fields : List (List ℕ)) (entry : Entry) → rows ≡ fields ∷ rest → record_of fields ≡ Some (says.Command entry) → length so_far ≡ 65536 → entries_of line so_far rows ≡ Err error.TooLong
unfolding entries_of
entry_too_many line so_far rows rest fields entry e said many = rw (e, said, many) refl

pub end_taken : (line : ℕ) (so_far : List Entry) (rows rest : List (List (List ℕ))) (fields : List (List ℕ)) (end : ℕ) → rows ≡ fields ∷ rest → record_of fields ≡ Some (says.End end) → entries_of line so_far rows ≡ behind_end (line + 1) (record { start = 0; end = end; entries = so_far }) rest
unfolding entries_of
end_taken line so_far rows rest fields end e said = rw (e, said) refl

-- what stands behind END
pub nothing_behind : (line : ℕ) (trace : Recorded) (rows : List (List (List ℕ))) → rows ≡ [] → behind_end line trace rows ≡ Ok trace
unfolding behind_end
nothing_behind line trace rows e = rw e refl

pub wrong_behind : (line : ℕ) (trace : Recorded) (rows rest : List (List (List ℕ))) (fields : List (List ℕ)) → rows ≡ fields ∷ rest → record_of fields ≡ None → behind_end line trace rows ≡ Err (error.Row line)
unfolding behind_end
wrong_behind line trace rows rest fields e wrong = rw (e, wrong) refl

pub record_behind : (line : ℕ) (trace : Recorded) (rows rest : List (List (List ℕ))) (fields : List (List ℕ)) (said : Parsed) → rows ≡ fields ∷ rest → record_of fields ≡ Some said → behind_end line trace rows ≡ Err (error.Order line)
unfolding behind_end
record_behind line trace rows rest fields (says.Command entry) e said = rw (e, said) refl
record_behind line trace rows rest fields (says.End end) e said = rw (e, said) refl

-- these commands were taken of the records, and so many records of the most are left
abbrev pub HasTaken : {R : Type 0} → (R → Option (List ℕ)) → Reader R → Reader R → ℕ → List Entry → List (List (List ℕ)) → Type 0
HasTaken remaining first now line so_far rows = HasLeft remaining first 65538 rows
    → (n : ℕ) × (rest : List (List (List ℕ))) × (n + line ≡ 65540) × HasLeft remaining now n rest × (entries_of 2 [] rows ≡ entries_of line so_far rest)

abbrev pub Records : Type 0
Records = List (List (List ℕ))

-- one record and more are left
pub left_more : {R : Type 0} (remaining : R → Option (List ℕ)) (table : Reader R) (n k : ℕ) (rows : Records) → n ≡ suc k → HasLeft remaining table n rows → HasLeft remaining table (suc k) rows
left_more remaining table n k rows e left = rw e at left

-- an error at the records that are left is the error of the whole
pub fails_later : {R : Type 0} (remaining : R → Option (List ℕ)) (first now : Reader R) (line : ℕ) (so_far : List Entry) (fault : TraceError) → 2 ≤ line → line ≤ 65538
    → ((rows : Records) → HasTaken remaining first now line so_far rows)
    → ((n : ℕ) (rows : Records) (so_far : List Entry) → HasLeft remaining now (suc n) rows → FailsAs (entries_of line so_far rows) fault)
    → (rows : Records) → HasLeft remaining first 65538 rows → FailsAs (entries_of 2 [] rows) fault
fails_later remaining first now line so_far fault low high taken fails rows left =
    let t = taken rows left in
    subst (λ said. FailsAs said fault) (sym t.4) (fails (65539 - line) t.1 so_far (left_more remaining now t.0 (65539 - line) t.1 (omega arith) t.3))

-- a command more is taken
pub taken_more : {R : Type 0} (remaining : R → Option (List ℕ)) (first now next : Reader R) (line : ℕ) (so_far : List Entry) (entry : Entry) → 2 ≤ line → line < 65538 → length so_far + 2 ≡ line
    → ((rows : Records) → HasTaken remaining first now line so_far rows)
    → ((n : ℕ) (rows : Records) → HasLeft remaining now (suc n) rows → (fields : List (List ℕ)) × (rest : Records) × (rows ≡ fields ∷ rest) × (record_of fields ≡ Some (says.Command entry)) × HasLeft remaining next n rest)
    → (rows : Records) → HasTaken remaining first next (line + 1) (so_far ++ entry ∷ []) rows
taken_more remaining first now next line so_far entry low high size taken said rows left =
    let t = taken rows left in
    let more = said (65539 - line) t.1 (left_more remaining now t.0 (65539 - line) t.1 (omega arith) t.3) in
    (65539 - line, more.1, omega arith, more.4, t.4 ∙ entry_taken line so_far t.1 more.1 more.0 entry more.2 more.3 (omega arith))

-- a command too many
pub taken_too_many : {R : Type 0} (remaining : R → Option (List ℕ)) (first now next : Reader R) (line : ℕ) (so_far : List Entry) (entry : Entry) → line ≡ 65538 → length so_far + 2 ≡ line
    → ((rows : Records) → HasTaken remaining first now line so_far rows)
    → ((n : ℕ) (rows : Records) → HasLeft remaining now (suc n) rows → (fields : List (List ℕ)) × (rest : Records) × (rows ≡ fields ∷ rest) × (record_of fields ≡ Some (says.Command entry)) × HasLeft remaining next n rest)
    → (rows : Records) → HasLeft remaining first 65538 rows → FailsAs (entries_of 2 [] rows) error.TooLong
taken_too_many remaining first now next line so_far entry high size taken said rows left =
    let t = taken rows left in
    let more = said 1 t.1 (left_more remaining now t.0 1 t.1 (omega arith) t.3) in
    sym (t.4 ∙ entry_too_many line so_far t.1 more.1 more.0 entry more.2 more.3 (omega arith))

-- END is taken
pub taken_end : {R : Type 0} (remaining : R → Option (List ℕ)) (first now next : Reader R) (line : ℕ) (so_far : List Entry) (end : ℕ) → 2 ≤ line → line ≤ 65538 → length so_far + 2 ≡ line
    → ((rows : Records) → HasTaken remaining first now line so_far rows)
    → ((n : ℕ) (rows : Records) → HasLeft remaining now (suc n) rows → (fields : List (List ℕ)) × (rest : Records) × (rows ≡ fields ∷ rest) × (record_of fields ≡ Some (says.End end)) × HasLeft remaining next n rest)
    → (rows : Records) → HasLeft remaining first 65538 rows
    → (n : ℕ) × (rest : Records) × HasLeft remaining next (suc n) rest × (entries_of 2 [] rows ≡ behind_end (length so_far + 3) (record { start = 0; end = end; entries = so_far }) rest)
taken_end remaining first now next line so_far end low high size taken said rows left =
    let t = taken rows left in
    let more = said (65539 - line) t.1 (left_more remaining now t.0 (65539 - line) t.1 (omega arith) t.3) in
    let place : line + 1 ≡ length so_far + 3 = omega arith in (
      65538 - line,
      more.1,
      left_more remaining next (65539 - line) (65538 - line) more.1 (omega arith) more.4,
      t.4 ∙ end_taken line so_far t.1 more.1 more.0 end more.2 more.3 ∙ ap (λ l. behind_end l (record { start = 0; end = end; entries = so_far }) more.1) place,
    )

-- the records of a text are what a reader of its bytes has left at the start
pub left_at_start : {R : Type 0} (remaining : R → Option (List ℕ)) (reader : R) (table : Reader R) (text : List ℕ) → source_of remaining table ≡ option_map strip_bom (remaining reader) → table.state ≡ state.StartRecord → remaining reader ≡ Some text → HasLeft remaining table 65539 (records_in text)
left_at_start remaining reader table text source start known =
    (strip_bom text, rw (source, known) refl, ap (λ s. records_from default_config 65539 s (strip_bom text)) (sym start))
