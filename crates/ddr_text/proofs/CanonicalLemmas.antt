-- What stands at the front of a trace's text, put together.
use Rattle.std.proofs.Common.{◌≡◌, ℕ, ◌+◌, ◌-◌, ◌*◌, ◌/◌, ◌%◌, ◌<◌, ◌≤◌, List, [], ◌∷◌, ◌++◌, length, Option, Some, None, Ok, IfSome, sym, ap, arith, ◌∙◌, append_assoc}
use Rattle.std.specs.Prelude.{MatchOption, codes}
use Rattle.std.specs.List.{flat_map}
use Rattle.std.specs.Fmt.{decimal}
use Rattle.std.proofs.lemmas.Fmt.{decimal_digit, decimal_step}
use Rattle.std.proofs.lemmas.List.{length-append}
use Rattle.ddr_timing.specs.declared.geometry.Geometry.{Geometry}
use Rattle.ddr_trace.specs.declared.command.Command.TheVariants.{Act, Rd, Wr, RdAuto, WrAuto, Pre, PreAll, Refresh}
use Rattle.ddr_trace.specs.declared.command.Entry.{Entry}
use Rattle.ddr_trace_text.specs.Text.{command_fields, end_fields, header, record_text, trace_text}
use Rattle.ddr_trace_text.specs.Reader.{IsAnswer, records_in, trace_of}
use Rattle.ddr_trace.specs.Traces.{Recorded}
use Rattle.ddr_trace_text.proofs.BackLemmas.{text_back}
use Rattle.ddr_text.specs.Canonical.{IsCanonical, IsCommandThen, bank_then, number_then, target_then}
use Rattle.ddr_text.specs.declared.canonical.BankNumbers.{BankNumbers}
use Rattle.ddr_text.specs.declared.canonical.Target.{Target}

-- what is said of an outcome where there is one
pub if_some : {X : Type 0} (r : Option X) (P : Type 0) (Q : X → Type 0) → MatchOption r P Q → IfSome r Q
if_some None P Q h = tt
if_some (Some x) P Q h = h

-- a digit alone
pub digit_first : (text rest : List ℕ) (byte : ℕ) → text ≡ byte ∷ rest → 48 ≤ byte → byte ≤ 57 → text ≡ decimal (byte - 48) ++ rest
digit_first text rest byte e low high =
    let digit = decimal_digit (byte - 48) (omega arith) in
    let back : 48 + (byte - 48) ≡ byte = omega arith in
    rw (digit, back) e

-- one more digit behind a number that is not 0
pub digit_more : (text rest behind : List ℕ) (number byte : ℕ) → text ≡ decimal number ++ rest → rest ≡ byte ∷ behind → 48 ≤ byte → byte ≤ 57 → 0 < number → number ≤ 1000000000000000000 → text ≡ decimal (number * 10 + (byte - 48)) ++ behind
digit_more text rest behind number byte e f low high some small =
    let front : (number * 10 + (byte - 48)) / 10 ≡ number = omega arith in
    let last : 48 + (number * 10 + (byte - 48)) % 10 ≡ byte = omega arith in
    let step = rw (front, last) at (decimal_step (number * 10 + (byte - 48)) (omega arith) (omega arith)) in
    e ∙ ap (λ (t : List ℕ). decimal number ++ t) f ∙ sym (append_assoc (decimal number) (byte ∷ []) behind) ∙ ap (λ (d : List ℕ). d ++ behind) (sym step)

-- a text that begins with a command's word and its numbers
pub read_said : (text behind rest : List ℕ) (t : Target) → text ≡ codes "RD," ++ behind → behind ≡ target_then t rest → IsCommandThen text (Rd t.rank t.group t.bank t.row t.line) rest
unfolding record_text command_fields
read_said text behind rest t e f cycle = rw (e, f) (sym (simp append_assoc))

pub write_said : (text behind rest : List ℕ) (t : Target) → text ≡ codes "WR," ++ behind → behind ≡ target_then t rest → IsCommandThen text (Wr t.rank t.group t.bank t.row t.line) rest
unfolding record_text command_fields
write_said text behind rest t e f cycle = rw (e, f) (sym (simp append_assoc))

pub read_auto_said : (text behind rest : List ℕ) (t : Target) → text ≡ codes "RDA," ++ behind → behind ≡ target_then t rest → IsCommandThen text (RdAuto t.rank t.group t.bank t.row t.line) rest
unfolding record_text command_fields
read_auto_said text behind rest t e f cycle = rw (e, f) (sym (simp append_assoc))

pub write_auto_said : (text behind rest : List ℕ) (t : Target) → text ≡ codes "WRA," ++ behind → behind ≡ target_then t rest → IsCommandThen text (WrAuto t.rank t.group t.bank t.row t.line) rest
unfolding record_text command_fields
write_auto_said text behind rest t e f cycle = rw (e, f) (sym (simp append_assoc))

pub activate_said : (text behind fields last rest : List ℕ) (b : BankNumbers) (row : ℕ) → text ≡ codes "ACT," ++ behind → behind ≡ bank_then b fields → fields ≡ number_then row 44 last → last ≡ 10 ∷ rest → IsCommandThen text (Act b.rank b.group b.bank row) rest
unfolding record_text command_fields
activate_said text behind fields last rest b row e f h i cycle = rw (e, f, h, i) (sym (simp append_assoc))

pub precharge_said : (text behind last rest : List ℕ) (b : BankNumbers) → text ≡ codes "PRE," ++ behind → behind ≡ bank_then b last → last ≡ 44 ∷ 10 ∷ rest → IsCommandThen text (Pre b.rank b.group b.bank) rest
unfolding record_text command_fields
precharge_said text behind last rest b e f h cycle = rw (e, f, h) (sym (simp append_assoc))

pub precharge_all_said : (text behind last rest : List ℕ) (rank : ℕ) → text ≡ codes "PREA," ++ behind → behind ≡ number_then rank 44 last → last ≡ 44 ∷ 44 ∷ 44 ∷ 10 ∷ rest → IsCommandThen text (PreAll rank) rest
unfolding record_text command_fields
precharge_all_said text behind last rest rank e f h cycle = rw (e, f, h) (sym (simp append_assoc))

pub refresh_said : (text behind last rest : List ℕ) (rank : ℕ) → text ≡ codes "REF," ++ behind → behind ≡ number_then rank 44 last → last ≡ 44 ∷ 44 ∷ 44 ∷ 10 ∷ rest → IsCommandThen text (Refresh rank) rest
unfolding record_text command_fields
refresh_said text behind last rest rank e f h cycle = rw (e, f, h) (sym (simp append_assoc))

-- END's line, and nothing behind it
end_line : (c : ℕ) → number_then c 44 (codes "END,,,,," ++ 10 ∷ []) ≡ record_text (end_fields c)
unfolding record_text end_fields
end_line c = sym (simp append_assoc)

pub end_said : (text behind rest : List ℕ) (end : ℕ) → text ≡ number_then end 44 behind → behind ≡ codes "END,,,,," ++ 10 ∷ rest → length rest ≡ 0 → text ≡ record_text (end_fields end)
end_said text behind [] end e f none = e ∙ ap (λ (t : List ℕ). number_then end 44 t) f ∙ end_line end
end_said text behind (byte ∷ rest) end e f none = absurd (omega arith)

-- a line has its line feed at least
pub line_short : (text rest : List ℕ) (fields : List (List ℕ)) → text ≡ record_text fields ++ rest → length rest < length text
unfolding record_text
line_short text rest fields e = omega (arith, simp length-append at (ap length e))

-- the header's line
pub header_first : (text rest : List ℕ) → text ≡ codes "cycle,cmd,rank,group,bank,row,col" ++ (10 ∷ rest) → text ≡ record_text header ++ rest
unfolding record_text header
header_first text rest e = e

-- the lines and END are the whole
pub text_whole : (text rest : List ℕ) (entries : List Entry) (end : ℕ) → text ≡ record_text header ++ (flat_map (λ x. record_text (command_fields x.cycle x.command)) entries ++ rest) → rest ≡ record_text (end_fields end) → text ≡ trace_text entries end
unfolding trace_text record_text header
text_whole text rest entries end whole last = rw (← last) whole

-- such a text is answered with its trace
pub canonical_answer : (g : Geometry) (text : List ℕ) (trace : Recorded) → IsCanonical g text trace → IsAnswer (trace_of (records_in text)) (Ok trace)
canonical_answer g text trace h =
    sym (ap (λ (t : List ℕ). trace_of (records_in t)) h.written ∙ text_back g trace.entries trace.end h.fits ∙ ap (λ (s : ℕ). Ok (record { start = s; end = trace.end; entries = trace.entries })) (sym h.start))
