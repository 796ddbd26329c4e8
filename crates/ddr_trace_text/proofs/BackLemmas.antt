-- A trace's text, read back.
use Rattle.std.proofs.Common.{◌≡◌, ℕ, ◌+◌, ◌-◌, ◌*◌, ◌/◌, ◌%◌, ◌^◌, ◌<◌, ◌≤◌, Bool, true, false, ◌&&◌, zero, suc, List, [], ◌∷◌, ◌++◌, length, map, Some, Result, Ok, refl, sym, ap, subst, arith, ◌∙◌, append_assoc}
use Rattle.std.specs.Prelude.{nat_lt, nat_le}
use Rattle.std.specs.List.{flat_map, list_all}
use Rattle.std.specs.Fmt.{decimal}
use Rattle.std.proofs.lemmas.Bool.{and_parts, le-leb, leb-true, lt-ltb, ltb-true}
use Rattle.std.proofs.lemmas.List.{append-nil, length-append, length-map}
use Rattle.ddr_trace_text.specs.Reader.{FitsText, IsAnswer, behind_end, entries_of, records_in, trace_of}
use Rattle.ddr_trace_text.proofs.ReadLemmas.{Records, end_taken, entry_taken}
use Rattle.std.proofs.lemmas.Bool.Decides.{nat_tests}
use Rattle.std.proofs.lemmas.Fmt.{decimal_nonempty, digits_decimal, digits_value-decimal, length-decimal-le}
use Rattle.csv.specs.Machine.{next_record}
use Rattle.csv.specs.Reading.{default_config, records_from, strip_bom}
use Rattle.csv.specs.Writing.{default_writer, read_back, row_text}
use Rattle.csv.specs.declared.parser.State.TheVariants as state
use Rattle.csv.proofs.RoundTrip.{read-write, rows_text}
use Rattle.ddr_timing.specs.declared.geometry.Geometry.{Geometry}
use Rattle.ddr_timing.specs.declared.units.TheConstants.{CLOCK_STOP, LINE_COLUMNS}
use Rattle.ddr_trace.specs.declared.command.Command.{Command}
use Rattle.ddr_trace.specs.declared.command.Command.TheVariants.{Act, Rd, Wr, RdAuto, WrAuto, Pre, PreAll, Refresh}
use Rattle.ddr_trace.specs.declared.command.Entry.{Entry}
use Rattle.ddr_trace_text.specs.declared.parse.Parsed.TheVariants as says
use Rattle.ddr_trace_text.specs.Parse.{act_of, command_of, end_of, entry_of, index_of, line_of, pre_of, prea_of, rd_of, rda_of, record_of, ref_of, with_cycle, wr_of, wra_of}
use Rattle.ddr_trace_text.specs.Numbers.{number_of}
use Rattle.ddr_trace.specs.Rules.{is_bank_in, is_in}
use Rattle.ddr_trace_text.specs.Text.{command_fields, end_fields, header, record_text, trace_text}
use Rattle.ddr_trace_text.specs.Table.{IsPlain}
use Rattle.ddr_trace.specs.Traces.{Recorded}
use Rattle.ddr_trace_text.specs.declared.text.TraceError.{TraceError}
use Rattle.ddr_trace_text.proofs.NumberLemmas.{digits_are}
use Rattle.ddr_trace_text.proofs.TextLemmas.{decimal_plain, header_is_line, row_is_line}

-- the digits of a number spell it
number_back : (most n : ℕ) → n ≤ most → n < 2 ^ 64 → number_of most (decimal n) ≡ Some n
unfolding number_of
number_back most n small wide =
    let value = digits_value-decimal digits_are n wide in
    let digits = digits_decimal digits_are n wide in
    let some = lt-ltb _ _ (decimal_nonempty n wide) in
    let few = le-leb _ _ (length-decimal-le 20 n (omega arith) (omega arith) wide) in
    let high = le-leb _ _ small in
    rw (value, digits, some, few, high) refl

index_back : (n : ℕ) → n < 2 ^ 32 → index_of (decimal n) ≡ Some n
index_back n small = number_back (2 ^ 32 - 1) n (omega arith) (omega arith)

line_back : (n : ℕ) → n < 2 ^ 29 → line_of (decimal (LINE_COLUMNS * n)) ≡ Some n
unfolding line_of
line_back n small =
    let column = index_back (LINE_COLUMNS * n) (omega arith) in
    let whole : (LINE_COLUMNS * n) % LINE_COLUMNS ≡ 0 = omega arith in
    let back : (LINE_COLUMNS * n) / LINE_COLUMNS ≡ n = omega arith in
    rw (column, whole, back) refl

-- the fields of a command say it
act_back : (c k g b w : ℕ) → c ≤ CLOCK_STOP → k < 2 ^ 32 → g < 2 ^ 32 → b < 2 ^ 32 → w < 2 ^ 32 → record_of (command_fields c (Act k g b w)) ≡ Some (says.Command (record { cycle = c; command = Act k g b w }))
unfolding record_of with_cycle entry_of command_of act_of command_fields
act_back c k g b w hc hk hg hb hw = rw (number_back CLOCK_STOP c hc (omega arith), index_back k hk, index_back g hg, index_back b hb, index_back w hw) refl

rd_back : (c k g b w l : ℕ) → c ≤ CLOCK_STOP → k < 2 ^ 32 → g < 2 ^ 32 → b < 2 ^ 32 → w < 2 ^ 32 → l < 2 ^ 29 → record_of (command_fields c (Rd k g b w l)) ≡ Some (says.Command (record { cycle = c; command = Rd k g b w l }))
unfolding record_of with_cycle entry_of command_of rd_of command_fields
rd_back c k g b w l hc hk hg hb hw hl = rw (number_back CLOCK_STOP c hc (omega arith), index_back k hk, index_back g hg, index_back b hb, index_back w hw, line_back l hl) refl

wr_back : (c k g b w l : ℕ) → c ≤ CLOCK_STOP → k < 2 ^ 32 → g < 2 ^ 32 → b < 2 ^ 32 → w < 2 ^ 32 → l < 2 ^ 29 → record_of (command_fields c (Wr k g b w l)) ≡ Some (says.Command (record { cycle = c; command = Wr k g b w l }))
unfolding record_of with_cycle entry_of command_of wr_of command_fields
wr_back c k g b w l hc hk hg hb hw hl = rw (number_back CLOCK_STOP c hc (omega arith), index_back k hk, index_back g hg, index_back b hb, index_back w hw, line_back l hl) refl

rda_back : (c k g b w l : ℕ) → c ≤ CLOCK_STOP → k < 2 ^ 32 → g < 2 ^ 32 → b < 2 ^ 32 → w < 2 ^ 32 → l < 2 ^ 29 → record_of (command_fields c (RdAuto k g b w l)) ≡ Some (says.Command (record { cycle = c; command = RdAuto k g b w l }))
unfolding record_of with_cycle entry_of command_of rda_of command_fields
rda_back c k g b w l hc hk hg hb hw hl = rw (number_back CLOCK_STOP c hc (omega arith), index_back k hk, index_back g hg, index_back b hb, index_back w hw, line_back l hl) refl

wra_back : (c k g b w l : ℕ) → c ≤ CLOCK_STOP → k < 2 ^ 32 → g < 2 ^ 32 → b < 2 ^ 32 → w < 2 ^ 32 → l < 2 ^ 29 → record_of (command_fields c (WrAuto k g b w l)) ≡ Some (says.Command (record { cycle = c; command = WrAuto k g b w l }))
unfolding record_of with_cycle entry_of command_of wra_of command_fields
wra_back c k g b w l hc hk hg hb hw hl = rw (number_back CLOCK_STOP c hc (omega arith), index_back k hk, index_back g hg, index_back b hb, index_back w hw, line_back l hl) refl

pre_back : (c k g b : ℕ) → c ≤ CLOCK_STOP → k < 2 ^ 32 → g < 2 ^ 32 → b < 2 ^ 32 → record_of (command_fields c (Pre k g b)) ≡ Some (says.Command (record { cycle = c; command = Pre k g b }))
unfolding record_of with_cycle entry_of command_of pre_of command_fields
pre_back c k g b hc hk hg hb = rw (number_back CLOCK_STOP c hc (omega arith), index_back k hk, index_back g hg, index_back b hb) refl

prea_back : (c k : ℕ) → c ≤ CLOCK_STOP → k < 2 ^ 32 → record_of (command_fields c (PreAll k)) ≡ Some (says.Command (record { cycle = c; command = PreAll k }))
unfolding record_of with_cycle entry_of command_of prea_of command_fields
prea_back c k hc hk = rw (number_back CLOCK_STOP c hc (omega arith), index_back k hk) refl

ref_back : (c k : ℕ) → c ≤ CLOCK_STOP → k < 2 ^ 32 → record_of (command_fields c (Refresh k)) ≡ Some (says.Command (record { cycle = c; command = Refresh k }))
unfolding record_of with_cycle entry_of command_of ref_of command_fields
ref_back c k hc hk = rw (number_back CLOCK_STOP c hc (omega arith), index_back k hk) refl

end_back : (c : ℕ) → c ≤ CLOCK_STOP → record_of (end_fields c) ≡ Some (says.End c)
unfolding record_of with_cycle end_of end_fields
end_back c hc = rw (number_back CLOCK_STOP c hc (omega arith)) refl

-- each index in a geometry is small
bank_small : (g : Geometry) (k n b : ℕ) → is_bank_in g k n b ≡ true → (k < 2 ^ 32) × (n < 2 ^ 32) × (b < 2 ^ 32)
bank_small g k n b h =
    let groups : g.groups ≤ 4 = grind (arith, nat_tests, g.groups_are) in
    let ranks : g.ranks ≤ 2 = g.ranks_range.1 in
    (grind (arith, nat_tests, ranks), grind (arith, nat_tests, groups), grind (arith, nat_tests))

rank_small : (g : Geometry) (k : ℕ) → nat_lt k g.ranks ≡ true → k < 2 ^ 32
rank_small g k h = let below = ltb-true _ _ h in omega (arith, g.ranks_range)

row_small : (g : Geometry) (p : Bool) (w : ℕ) → (p && nat_lt w g.rows) ≡ true → (p ≡ true) × (w < 2 ^ 32)
row_small g true w h = (refl, let below = ltb-true _ _ h in omega (arith, g.rows_range))
row_small g false w h = cc h

line_small : (g : Geometry) (p : Bool) (w l : ℕ) → (p && nat_lt w g.rows && nat_lt l (g.columns / LINE_COLUMNS)) ≡ true → (p ≡ true) × (w < 2 ^ 32) × (l < 2 ^ 29)
line_small g true w l h =
    let r = and_parts (nat_lt w g.rows) (nat_lt l (g.columns / LINE_COLUMNS)) h in
    let row = ltb-true _ _ r.0 in
    let column = ltb-true _ _ r.1 in
    (refl, omega (arith, g.rows_range), omega (arith, g.columns_range))
line_small g false w l h = cc h

command_back : (g : Geometry) (c : ℕ) (command : Command) → is_in g command ≡ true → c ≤ CLOCK_STOP → record_of (command_fields c command) ≡ Some (says.Command (record { cycle = c; command = command }))
command_back g c (Act k n b w) h hc =
    let r = row_small g (is_bank_in g k n b) w h in
    let s = bank_small g k n b r.0 in
    act_back c k n b w hc s.0 s.1 s.2 r.1
command_back g c (Rd k n b w l) h hc =
    let r = line_small g (is_bank_in g k n b) w l h in
    let s = bank_small g k n b r.0 in
    rd_back c k n b w l hc s.0 s.1 s.2 r.1 r.2
command_back g c (Wr k n b w l) h hc =
    let r = line_small g (is_bank_in g k n b) w l h in
    let s = bank_small g k n b r.0 in
    wr_back c k n b w l hc s.0 s.1 s.2 r.1 r.2
command_back g c (RdAuto k n b w l) h hc =
    let r = line_small g (is_bank_in g k n b) w l h in
    let s = bank_small g k n b r.0 in
    rda_back c k n b w l hc s.0 s.1 s.2 r.1 r.2
command_back g c (WrAuto k n b w l) h hc =
    let r = line_small g (is_bank_in g k n b) w l h in
    let s = bank_small g k n b r.0 in
    wra_back c k n b w l hc s.0 s.1 s.2 r.1 r.2
command_back g c (Pre k n b) h hc = let s = bank_small g k n b h in pre_back c k n b hc s.0 s.1 s.2
command_back g c (PreAll k) h hc = prea_back c k hc (rank_small g k h)
command_back g c (Refresh k) h hc = ref_back c k hc (rank_small g k h)

-- the records of a trace
abbrev rows_of : List Entry → ℕ → Records
rows_of entries end = header ∷ (map (λ e. command_fields e.cycle e.command) entries ++ end_fields end ∷ [])

-- commands that fit, and END, are read as they stand
entries_back : (g : Geometry) (line : ℕ) (so_far entries : List Entry) (end : ℕ) → length so_far + length entries ≤ 65536 → list_all (λ e. is_in g e.command && nat_le e.cycle CLOCK_STOP) entries ≡ true → end ≤ CLOCK_STOP
    → entries_of line so_far (map (λ e. command_fields e.cycle e.command) entries ++ end_fields end ∷ []) ≡ Ok (record { start = 0; end = end; entries = so_far ++ entries })
unfolding behind_end
entries_back g line so_far [] end few within ends =
    end_taken line so_far _ [] (end_fields end) end refl (end_back end ends) ∙ ap (λ es. Ok (record { start = 0; end = end; entries = es })) (sym (append-nil so_far))
entries_back g line so_far (e ∷ entries) end few within ends =
    let first = and_parts (is_in g e.command && nat_le e.cycle CLOCK_STOP) _ within in
    let fits = and_parts (is_in g e.command) _ first.0 in
    let said = command_back g e.cycle e.command fits.0 (leb-true _ _ fits.1) in
    let longer = length-append so_far (e ∷ []) in
    entry_taken line so_far _ _ (command_fields e.cycle e.command) e refl said (omega arith)
    ∙ entries_back g (line + 1) (so_far ++ e ∷ []) entries end (omega arith) first.1 ends
    ∙ ap (λ es. Ok (record { start = 0; end = end; entries = es })) (append_assoc so_far (e ∷ []) entries)

trace_back : (g : Geometry) (entries : List Entry) (end : ℕ) → FitsText g entries end → trace_of (rows_of entries end) ≡ Ok (record { start = 0; end = end; entries = entries })
unfolding trace_of header
trace_back g entries end fits = entries_back g 2 [] entries end (omega (arith, fits.few)) fits.within fits.ends

-- as many records as there are, and no more, are read of what was written
all_read : (n : ℕ) (rows : Records) → length rows ≤ n → records_from default_config n state.StartRecord (rows_text rows) ≡ map read_back rows
unfolding records_from rows_text next_record
all_read zero [] few = refl
all_read (suc n) [] few = refl
all_read zero (row ∷ rows) few = absurd (omega arith)
all_read (suc n) (row ∷ rows) few = rw (read-write row (rows_text rows)) (ap (λ (t : Records). read_back row ∷ t) (all_read n rows (omega arith)))

-- no field of a record that fits calls for quotes
small_plain : (n : ℕ) → n < 2 ^ 32 → IsPlain (decimal n)
small_plain n h = decimal_plain n (omega arith)

command_line : (g : Geometry) (c : ℕ) (command : Command) → is_in g command ≡ true → c ≤ CLOCK_STOP → row_text default_writer (command_fields c command) ≡ record_text (command_fields c command)
unfolding command_fields
command_line g c (Act k n b w) h hc =
    let r = row_small g (is_bank_in g k n b) w h in
    let s = bank_small g k n b r.0 in
    row_is_line _ _ _ (decimal_plain c (omega arith), (refl, (small_plain k s.0, (small_plain n s.1, (small_plain b s.2, (small_plain w r.1, (refl, tt)))))))
command_line g c (Rd k n b w l) h hc =
    let r = line_small g (is_bank_in g k n b) w l h in
    let s = bank_small g k n b r.0 in
    row_is_line _ _ _ (decimal_plain c (omega arith), (refl, (small_plain k s.0, (small_plain n s.1, (small_plain b s.2, (small_plain w r.1, (decimal_plain (8 * l) (omega (arith, r.2)), tt)))))))
command_line g c (Wr k n b w l) h hc =
    let r = line_small g (is_bank_in g k n b) w l h in
    let s = bank_small g k n b r.0 in
    row_is_line _ _ _ (decimal_plain c (omega arith), (refl, (small_plain k s.0, (small_plain n s.1, (small_plain b s.2, (small_plain w r.1, (decimal_plain (8 * l) (omega (arith, r.2)), tt)))))))
command_line g c (RdAuto k n b w l) h hc =
    let r = line_small g (is_bank_in g k n b) w l h in
    let s = bank_small g k n b r.0 in
    row_is_line _ _ _ (decimal_plain c (omega arith), (refl, (small_plain k s.0, (small_plain n s.1, (small_plain b s.2, (small_plain w r.1, (decimal_plain (8 * l) (omega (arith, r.2)), tt)))))))
command_line g c (WrAuto k n b w l) h hc =
    let r = line_small g (is_bank_in g k n b) w l h in
    let s = bank_small g k n b r.0 in
    row_is_line _ _ _ (decimal_plain c (omega arith), (refl, (small_plain k s.0, (small_plain n s.1, (small_plain b s.2, (small_plain w r.1, (decimal_plain (8 * l) (omega (arith, r.2)), tt)))))))
command_line g c (Pre k n b) h hc =
    let s = bank_small g k n b h in
    row_is_line _ _ _ (decimal_plain c (omega arith), (refl, (small_plain k s.0, (small_plain n s.1, (small_plain b s.2, (refl, (refl, tt)))))))
command_line g c (PreAll k) h hc =
    row_is_line _ _ _ (decimal_plain c (omega arith), (refl, (small_plain k (rank_small g k h), (refl, (refl, (refl, (refl, tt)))))))
command_line g c (Refresh k) h hc =
    row_is_line _ _ _ (decimal_plain c (omega arith), (refl, (small_plain k (rank_small g k h), (refl, (refl, (refl, (refl, tt)))))))

end_line : (c : ℕ) → c ≤ CLOCK_STOP → row_text default_writer (end_fields c) ≡ record_text (end_fields c)
unfolding end_fields
end_line c hc = row_is_line _ _ _ (decimal_plain c (omega arith), (refl, (refl, (refl, (refl, (refl, (refl, tt)))))))

-- the text of a trace is the text of its records
lines_are_rows : (g : Geometry) (entries : List Entry) (end : ℕ) → list_all (λ e. is_in g e.command && nat_le e.cycle CLOCK_STOP) entries ≡ true → end ≤ CLOCK_STOP
    → flat_map (λ e. record_text (command_fields e.cycle e.command)) entries ++ record_text (end_fields end) ≡ rows_text (map (λ e. command_fields e.cycle e.command) entries ++ end_fields end ∷ [])
unfolding rows_text
lines_are_rows g [] end within ends = sym (append-nil _ ∙ end_line end ends)
lines_are_rows g (e ∷ entries) end within ends =
    let first = and_parts (is_in g e.command && nat_le e.cycle CLOCK_STOP) _ within in
    let fits = and_parts (is_in g e.command) _ first.0 in
    append_assoc (record_text (command_fields e.cycle e.command)) _ _
    ∙ ap (λ (t : List ℕ). record_text (command_fields e.cycle e.command) ++ t) (lines_are_rows g entries end first.1 ends)
    ∙ ap (λ (t : List ℕ). t ++ rows_text (map (λ e. command_fields e.cycle e.command) entries ++ end_fields end ∷ [])) (sym (command_line g e.cycle e.command fits.0 (leb-true _ _ fits.1)))

text_is_rows : (g : Geometry) (entries : List Entry) (end : ℕ) → FitsText g entries end → trace_text entries end ≡ rows_text (rows_of entries end)
unfolding rows_text trace_text record_text header end_fields
text_is_rows g entries end fits =
    ap (λ (t : List ℕ). record_text header ++ t) (lines_are_rows g entries end fits.within fits.ends)
    ∙ ap (λ (t : List ℕ). t ++ rows_text (map (λ e. command_fields e.cycle e.command) entries ++ end_fields end ∷ [])) (sym header_is_line)

-- it begins with no byte order mark
no_mark : (entries : List Entry) (end : ℕ) → strip_bom (trace_text entries end) ≡ trace_text entries end
unfolding trace_text record_text header strip_bom
no_mark entries end = refl

-- no record of it is one of no fields
command_kept : (c : ℕ) (command : Command) → read_back (command_fields c command) ≡ command_fields c command
unfolding command_fields
command_kept c (Act k n b w) = refl
command_kept c (Rd k n b w l) = refl
command_kept c (Wr k n b w l) = refl
command_kept c (RdAuto k n b w l) = refl
command_kept c (WrAuto k n b w l) = refl
command_kept c (Pre k n b) = refl
command_kept c (PreAll k) = refl
command_kept c (Refresh k) = refl

end_kept : (c : ℕ) → read_back (end_fields c) ≡ end_fields c
unfolding end_fields
end_kept c = refl

kept_back : (entries : List Entry) (end : ℕ) → map read_back (map (λ e. command_fields e.cycle e.command) entries ++ end_fields end ∷ []) ≡ map (λ e. command_fields e.cycle e.command) entries ++ end_fields end ∷ []
kept_back [] end = ap (λ (f : List (List ℕ)). f ∷ []) (end_kept end)
kept_back (e ∷ entries) end = rw (command_kept e.cycle e.command) (ap (λ (t : Records). command_fields e.cycle e.command ∷ t) (kept_back entries end))

rows_kept : (entries : List Entry) (end : ℕ) → map read_back (rows_of entries end) ≡ rows_of entries end
unfolding header
rows_kept entries end = ap (λ (t : Records). header ∷ t) (kept_back entries end)

rows_size : (entries : List Entry) (end : ℕ) → length (rows_of entries end) ≡ length entries + 2
rows_size entries end =
    let a = length-append (map (λ e. command_fields e.cycle e.command) entries) (end_fields end ∷ []) in
    let b = length-map entries (λ (e : Entry). command_fields e.cycle e.command) in
    omega arith

-- a text that was written is read back
pub text_back : (g : Geometry) (entries : List Entry) (end : ℕ) → FitsText g entries end → trace_of (records_in (trace_text entries end)) ≡ Ok (record { start = 0; end = end; entries = entries })
text_back g entries end fits =
    let size = rows_size entries end in
    let read = all_read 65539 (rows_of entries end) (omega (arith, fits.few)) in
    ap trace_of (ap (λ (t : List ℕ). records_from default_config 65539 state.StartRecord t) (no_mark entries end ∙ text_is_rows g entries end fits) ∙ read ∙ rows_kept entries end)
    ∙ trace_back g entries end fits

-- the answer to a text that was written
pub answer_back : (g : Geometry) (entries : List Entry) (end : ℕ) (answer : Result Recorded TraceError) → FitsText g entries end → IsAnswer (trace_of (records_in (trace_text entries end))) answer → IsAnswer (Ok (record { start = 0; end = end; entries = entries })) answer
answer_back g entries end answer fits said = subst (λ t. IsAnswer t answer) (text_back g entries end fits) said
