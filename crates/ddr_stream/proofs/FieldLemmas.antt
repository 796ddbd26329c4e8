-- The fields of a line. A line of a stream has at most four, so the first six tell what all tell.
use Rattle.std.proofs.Common.{◌≡◌, ◌≢◌, ℕ, ◌+◌, ◌-◌, ◌<◌, ◌≤◌, Bool, true, false, List, [], ◌∷◌, ◌++◌, length, take, drop, filter, cond, get_or, nat_lt, Result, Err, refl, sym, ap, ◌∙◌, arith, length-drop}
use Rattle.std.specs.List.{position_or_len, slice_split}
use Rattle.std.proofs.lemmas.Bool.{lt-ltb}
use Rattle.std.proofs.lemmas.List.{length-take-le, take_all}
use Rattle.std.proofs.lemmas.List.Elements.{filter-append}
use Rattle.std.proofs.lemmas.List.Splits.{slice_split-cons_yes, slice_split_first, slice_split_none}
use Rattle.std.proofs.lemmas.List.Sums.{fails_before_first, position_or_len_is}
use Rattle.ddr_text.specs.declared.fault.LineFault.{LineFault}
use Rattle.ddr_text.specs.declared.fault.LineFault.TheVariants.{Fields, Spaces}
use Rattle.ddr_text.specs.Script.{fields_of, has_space_at_end}
use Rattle.ddr_stream.specs.declared.line.Sent.{Sent}
use Rattle.ddr_stream.specs.Line.{is_white, of_four, of_three, of_two, white_fields_of, within_spaces}

-- a line of six fields is at fault
four_kept : (ports : ℕ) (all : List (List ℕ)) → of_four ports (take 6 all) ≡ of_four ports all
four_kept ports [] = refl
four_kept ports (a ∷ []) = refl
four_kept ports (a ∷ b ∷ []) = refl
four_kept ports (a ∷ b ∷ c ∷ []) = refl
four_kept ports (a ∷ b ∷ c ∷ d ∷ []) = refl
four_kept ports (a ∷ b ∷ c ∷ d ∷ e ∷ []) = refl
four_kept ports (a ∷ b ∷ c ∷ d ∷ e ∷ f ∷ more) = refl

two_kept : (port : ℕ) (all : List (List ℕ)) → of_two port (take 6 all) ≡ of_two port all
two_kept port [] = refl
two_kept port (a ∷ []) = refl
two_kept port (a ∷ b ∷ []) = refl
two_kept port (a ∷ b ∷ c ∷ []) = refl
two_kept port (a ∷ b ∷ c ∷ d ∷ []) = refl
two_kept port (a ∷ b ∷ c ∷ d ∷ e ∷ []) = refl
two_kept port (a ∷ b ∷ c ∷ d ∷ e ∷ f ∷ more) = refl

within : (line : List ℕ) (said : Result Sent LineFault) → has_space_at_end line ≡ false → within_spaces line said ≡ said
within line said inside = ap (λ (b : Bool). cond b (Err Spaces) said) inside

-- what the kept fields say, the line says
pub said_by_four : (ports : ℕ) (line : List ℕ) (fields : List (List ℕ)) → has_space_at_end line ≡ false → fields ≡ take 6 (fields_of line) → of_four ports fields ≡ within_spaces line (of_four ports (fields_of line))
said_by_four ports line fields inside is = ap (of_four ports) is ∙ four_kept ports (fields_of line) ∙ sym (within line (of_four ports (fields_of line)) inside)

pub said_by_two : (port : ℕ) (line : List ℕ) (fields : List (List ℕ)) → has_space_at_end line ≡ false → fields ≡ take 6 (fields_of line) → of_two port fields ≡ within_spaces line (of_two port (fields_of line))
said_by_two port line fields inside is = ap (of_two port) is ∙ two_kept port (fields_of line) ∙ sym (within line (of_two port (fields_of line)) inside)

-- another number of fields is at fault
pub not_three : (port : ℕ) (fields : List (List ℕ)) → length fields ≢ 3 → of_three port fields ≡ Err Fields
not_three port [] n = refl
not_three port (a ∷ []) n = refl
not_three port (a ∷ b ∷ []) n = refl
not_three port (a ∷ b ∷ c ∷ []) n = absurd (n refl)
not_three port (a ∷ b ∷ c ∷ d ∷ rest) n = refl

-- ---- white space

-- the first white space
pub place_is : (text : List ℕ) (i : ℕ) → i ≤ length text → ((k : ℕ) → k < i → is_white (get_or text k 0) ≡ false) → (i < length text → is_white (get_or text i 0) ≡ true) → position_or_len is_white text ≡ i
place_is text i within before here = position_or_len_is is_white text i 0 within before here

-- what stands from a place on, as it is lent
from_place : (text : List ℕ) (i : ℕ) → take (length text - i) (drop i text) ≡ drop i text
from_place text i = take_all (length text - i) (drop i text) (omega (arith, length-drop i text))

-- white space in front parts nothing
pub white_more : (rest behind : List ℕ) (byte : ℕ) → rest ≡ byte ∷ behind → is_white byte ≡ true → white_fields_of behind ≡ white_fields_of rest
white_more rest behind byte e white =
    sym (ap white_fields_of e ∙ ap (filter (λ (field : List ℕ). nat_lt 0 (length field))) (slice_split-cons_yes is_white byte behind white))

pub front_inside : (rest behind : List ℕ) (byte : ℕ) → rest ≡ byte ∷ behind → is_white byte ≡ false → 0 < position_or_len is_white rest
front_inside rest behind byte e other = rw (e, other) (omega arith)

-- a field that is not empty is kept
field_kept : (field : List ℕ) → 0 < length field → filter (λ (field : List ℕ). nat_lt 0 (length field)) (field ∷ []) ≡ field ∷ []
field_kept field some = ap (λ (b : Bool). cond b (field ∷ []) []) (lt-ltb 0 (length field) some)

-- white space parts the first field from the others
pub field_first : (text : List ℕ) (i : ℕ) → position_or_len is_white text ≡ i → i < length text → 0 < i → white_fields_of text ≡ take i text ∷ white_fields_of (take (length text - (i + 1)) (drop (i + 1) text))
field_first text i place within some =
    let kept : List ℕ → Bool = λ field. nat_lt 0 (length field) in
    let parts : slice_split is_white text ≡ take i text ∷ slice_split is_white (drop (i + 1) text) =
    rw place at (slice_split_first is_white text 0 (rw (sym place) at within)) in
    rw (from_place text (i + 1))
    (ap (filter kept) parts
    ∙ filter-append kept (take i text ∷ []) (slice_split is_white (drop (i + 1) text))
    ∙ ap (λ (front : List (List ℕ)). front ++ white_fields_of (drop (i + 1) text)) (field_kept (take i text) (omega (arith, length-take-le i text (omega arith)))))

pub field_last : (text : List ℕ) → position_or_len is_white text ≡ length text → 0 < length text → white_fields_of text ≡ text ∷ white_fields_of []
field_last text none some =
    ap (filter (λ (field : List ℕ). nat_lt 0 (length field))) (slice_split_none is_white text (λ k d below. fails_before_first is_white text k d (omega (arith, none))))
    ∙ field_kept text some
