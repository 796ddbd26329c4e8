-- Records of plain fields are written without quotes, and lines with no writer say the same.
use Rattle.std.proofs.Common.{◌≡◌, ℕ, ◌+◌, ◌%◌, ◌^◌, ◌<◌, ◌≤◌, ◌≢◌, false, zero, suc, List, get_or, [], ◌∷◌, ◌++◌, map, replicate, codes, refl, ap, arith, ◌∙◌}
use Rattle.std.proofs.lemmas.Bool.Decides.{nat_tests}
use Rattle.std.proofs.lemmas.List.Folds.{list_any-append}
use Rattle.std.proofs.lemmas.Fmt.{decimal_by_steps}
use Rattle.std.proofs.lemmas.List.{append-nil}
use Rattle.std.specs.List.{join_with_byte}
use Rattle.std.specs.Fmt.{decimal}
use Rattle.csv.specs.Writing.{default_writer, row_text, fields_text, field_text, is_blank, needs_byte, writer_setup}
use Rattle.csv.specs.declared.writer.Writer.{Writer}
use Rattle.csv.specs.declared.writer.QuoteStyle.TheVariants as style
use Rattle.ddr_trace_text.specs.Text.{record_text, header}
use Rattle.ddr_trace_text.specs.Table.{IsPlain}

digit_plain : (n : ℕ) → n < 10 → needs_byte default_writer (48 + n) ≡ false
digit_plain n h = grind (arith, nat_tests)

one_plain : (n : ℕ) → n < 10 → IsPlain ((48 + n) ∷ [])
one_plain n h = rw (digit_plain n h)

more_plain : (n : ℕ) (ds : List ℕ) → 10 ≤ n → IsPlain ds → IsPlain (ds ++ ((48 + n % 10) ∷ []))
more_plain n ds h p = rw (list_any-append (needs_byte default_writer) ds ((48 + n % 10) ∷ []), p) (one_plain (n % 10) (omega arith))

-- a number's digits are plain
pub decimal_plain : (n : ℕ) → n < 2 ^ 64 → IsPlain (decimal n)
decimal_plain n h = decimal_by_steps (λ m ds. IsPlain ds) one_plain more_plain n h

-- each field is plain
abbrev pub AllPlain : List (List ℕ) → Type 0
AllPlain [] = Unit {0}
AllPlain (f ∷ fs) = IsPlain f × AllPlain fs

plain_text : (f : List ℕ) → IsPlain f → field_text default_writer f ≡ f
plain_text f p = rw p

fields_plain : (f : List ℕ) (fs : List (List ℕ)) → AllPlain fs → f ++ fields_text default_writer fs ≡ join_with_byte 44 (f ∷ fs)
unfolding fields_text
fields_plain f [] p = append-nil f
fields_plain f (g ∷ gs) p =
    ap (λ rest. f ++ 44 ∷ rest) (ap (λ text. text ++ fields_text default_writer gs) (plain_text g p.0) ∙ fields_plain g gs p.1)

-- a record of plain fields is a line
pub row_is_line : (f g : List ℕ) (fs : List (List ℕ)) → AllPlain (f ∷ g ∷ fs) → row_text default_writer (f ∷ g ∷ fs) ≡ record_text (f ∷ g ∷ fs)
unfolding record_text is_blank
row_is_line f g fs p =
    ap (λ body. body ++ 10 ∷ [])
    (ap (λ text. text ++ fields_text default_writer (g ∷ fs)) (plain_text f p.0) ∙ fields_plain f (g ∷ fs) p.1)

-- a list of numbers, written out, is plain
pub numbers_plain : (ns : List ℕ) (fs : List (List ℕ)) → ((k : ℕ) → get_or ns k 0 < 2 ^ 64) → AllPlain fs → AllPlain (map decimal ns ++ fs)
numbers_plain [] fs small p = p
numbers_plain (n ∷ ns) fs small p =
    (decimal_plain n (small 0), numbers_plain ns fs (λ k. small (suc k)) p)

pub empty_plain : (n : ℕ) → AllPlain (replicate n [])
empty_plain zero = tt
empty_plain (suc n) = (refl, empty_plain n)

-- the usual marks quote what needs it
pub usual_style : {W : Type 0} (table : Writer W) → writer_setup table ≡ default_writer → (writer_setup table).style ≢ style.NonNumeric
usual_style table setup = rw setup (λ e. cc e)

-- the fields of a record that was put together in four steps
pub fields_joined : (none one two more all : List (List ℕ)) (cycle partial name : List ℕ) (numbers empty : List (List ℕ)) → none ≡ [] → one ≡ none ++ cycle ∷ [] → partial ≡ [] → two ≡ one ++ ((partial ++ name) ∷ []) → more ≡ two ++ numbers → all ≡ more ++ empty → all ≡ cycle ∷ name ∷ (numbers ++ empty)
fields_joined none one two more all cycle partial name numbers empty e0 e1 ep e2 e3 e4 = rw (e4, e3, e2, e1, e0, ep)

-- the header's names are plain
pub header_is_line : row_text default_writer header ≡ record_text header
unfolding header
header_is_line =
    let plain : AllPlain header = (refl, (refl, (refl, (refl, (refl, (refl, (refl, tt))))))) in
    row_is_line (codes "cycle") (codes "cmd") (codes "rank" ∷ codes "group" ∷ codes "bank" ∷ codes "row" ∷ codes "col" ∷ []) plain
