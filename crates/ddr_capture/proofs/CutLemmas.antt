-- The fields of a line.
use Rattle.std.proofs.Common.{◌≡◌, ◌≢◌, ℕ, ◌+◌, ◌-◌, ◌<◌, ◌≤◌, ◌==◌, Bool, true, false, List, [], ◌∷◌, ◌++◌, length, take, drop, filter, cond, get_or, nat_lt, Err, refl, sym, ap, ◌∙◌, eq-eqb, arith, length-drop}
use Rattle.std.specs.List.{position_or_len, slice_split}
use Rattle.std.proofs.lemmas.Bool.{lt-ltb, ne_eqb}
use Rattle.std.proofs.lemmas.List.{length-map, length-take-le, take_all}
use Rattle.std.proofs.lemmas.List.Elements.{filter-append}
use Rattle.std.proofs.lemmas.List.Splits.{length-slice_split, slice_split_first, slice_split_none}
use Rattle.std.proofs.lemmas.List.Sums.{fails_before_first, position_or_len_is}
use Rattle.ddr_trace_text.proofs.FieldLemmas.{header_not_seven}
use Rattle.ddr_text.specs.declared.fault.LineFault.TheVariants.{Fields}
use Rattle.ddr_text.specs.Script.{fields_of}
use Rattle.ddr_capture.specs.Fields.{cut, trimmed, trimmed_cut}
use Rattle.ddr_capture.specs.Line.{of_eight, of_own, of_seven}
use Rattle.ddr_capture.specs.declared.tool.Tool as tools

-- the first place of a byte
pub place_is : (text : List ℕ) (wanted i : ℕ) → i ≤ length text → ((k : ℕ) → k < i → get_or text k 0 ≡ wanted → ⊥) → (i < length text → get_or text i 0 ≡ wanted) → position_or_len (λ byte. byte == wanted) text ≡ i
place_is text wanted i within before here =
    position_or_len_is (λ byte. byte == wanted) text i 0 within (λ k below. ne_eqb (get_or text k 0) wanted (before k below)) (λ inside. eq-eqb (get_or text i 0) wanted (here inside))

-- what stands from a place on, as it is lent
pub from_place : (text : List ℕ) (i : ℕ) → take (length text - i) (drop i text) ≡ drop i text
from_place text i = take_all (length text - i) (drop i text) (omega (arith, length-drop i text))

-- a comma parts the first field from the others
pub cut_first : (text : List ℕ) (i : ℕ) → position_or_len (λ byte. byte == 44) text ≡ i → i < length text → cut text ≡ take i text ∷ cut (take (length text - (i + 1)) (drop (i + 1) text))
cut_first text i place within =
    rw (from_place text (i + 1))
    (rw place at (slice_split_first (λ byte. byte == 44) text 0 (rw (sym place) at within)))

pub cut_none : (text : List ℕ) → position_or_len (λ byte. byte == 44) text ≡ length text → cut text ≡ text ∷ []
cut_none text none =
    slice_split_none (λ byte. byte == 44) text (λ k d below. fails_before_first (λ byte. byte == 44) text k d (omega (arith, none)))

-- there is always a field
pub cut_some : (text : List ℕ) → 0 < length (cut text)
cut_some text = omega (arith, length-slice_split (λ byte. byte == 44) text)

pub trimmed_some : (text : List ℕ) → 0 < length (trimmed_cut text)
trimmed_some text = omega (arith, cut_some text, length-map (cut text) trimmed)

-- a space in front parts nothing
pub space_more : (rest behind : List ℕ) (byte : ℕ) → rest ≡ byte ∷ behind → byte ≡ 32 → fields_of behind ≡ fields_of rest
space_more rest behind byte e f = sym (rw (e, f) refl)

pub front_inside : (rest behind : List ℕ) (byte : ℕ) → rest ≡ byte ∷ behind → (byte ≡ 32 → ⊥) → 0 < position_or_len (λ byte. byte == 32) rest
front_inside rest behind byte e other = rw (e, ne_eqb byte 32 other) (omega arith)

-- a field that is not empty is kept
field_kept : (field : List ℕ) → 0 < length field → filter (λ (field : List ℕ). nat_lt 0 (length field)) (field ∷ []) ≡ field ∷ []
field_kept field some = ap (λ (b : Bool). cond b (field ∷ []) []) (lt-ltb 0 (length field) some)

-- a space parts the first field from the others
pub field_first : (text : List ℕ) (i : ℕ) → position_or_len (λ byte. byte == 32) text ≡ i → i < length text → 0 < i → fields_of text ≡ take i text ∷ fields_of (take (length text - (i + 1)) (drop (i + 1) text))
field_first text i place within some =
    let kept : List ℕ → Bool = λ field. nat_lt 0 (length field) in
    let parts : slice_split (λ byte. byte == 32) text ≡ take i text ∷ slice_split (λ byte. byte == 32) (drop (i + 1) text) =
    rw place at (slice_split_first (λ byte. byte == 32) text 0 (rw (sym place) at within)) in
    rw (from_place text (i + 1))
    (ap (filter kept) parts
    ∙ filter-append kept (take i text ∷ []) (slice_split (λ byte. byte == 32) (drop (i + 1) text))
    ∙ ap (λ (front : List (List ℕ)). front ++ fields_of (drop (i + 1) text)) (field_kept (take i text) (omega (arith, length-take-le i text (omega arith)))))

pub field_last : (text : List ℕ) → position_or_len (λ byte. byte == 32) text ≡ length text → 0 < length text → fields_of text ≡ text ∷ fields_of []
field_last text none some =
    ap (filter (λ (field : List ℕ). nat_lt 0 (length field))) (slice_split_none (λ byte. byte == 32) text (λ k d below. fails_before_first (λ byte. byte == 32) text k d (omega (arith, none))))
    ∙ field_kept text some

-- another number of fields is at fault
pub not_eight : (t : tools.Tool) (fields : List (List ℕ)) → length fields ≢ 8 → of_eight t fields ≡ Err Fields
not_eight t [] n = refl
not_eight t (a ∷ []) n = refl
not_eight t (a ∷ b ∷ []) n = refl
not_eight t (a ∷ b ∷ c ∷ []) n = refl
not_eight t (a ∷ b ∷ c ∷ d ∷ []) n = refl
not_eight t (a ∷ b ∷ c ∷ d ∷ e ∷ []) n = refl
not_eight t (a ∷ b ∷ c ∷ d ∷ e ∷ f ∷ []) n = refl
not_eight t (a ∷ b ∷ c ∷ d ∷ e ∷ f ∷ g ∷ []) n = refl
not_eight t (a ∷ b ∷ c ∷ d ∷ e ∷ f ∷ g ∷ h ∷ []) n = absurd (n refl)
not_eight t (a ∷ b ∷ c ∷ d ∷ e ∷ f ∷ g ∷ h ∷ i ∷ rest) n = refl

seven_not : (fields : List (List ℕ)) → length fields ≢ 7 → of_seven fields ≡ Err Fields
seven_not [] n = refl
seven_not (a ∷ []) n = refl
seven_not (a ∷ b ∷ []) n = refl
seven_not (a ∷ b ∷ c ∷ []) n = refl
seven_not (a ∷ b ∷ c ∷ d ∷ []) n = refl
seven_not (a ∷ b ∷ c ∷ d ∷ e ∷ []) n = refl
seven_not (a ∷ b ∷ c ∷ d ∷ e ∷ f ∷ []) n = refl
seven_not (a ∷ b ∷ c ∷ d ∷ e ∷ f ∷ g ∷ []) n = absurd (n refl)
seven_not (a ∷ b ∷ c ∷ d ∷ e ∷ f ∷ g ∷ h ∷ rest) n = refl

pub not_seven : (first : Bool) (fields : List (List ℕ)) → length fields ≢ 7 → of_own first fields ≡ Err Fields
not_seven true fields n = rw (header_not_seven fields n) (seven_not fields n)
not_seven false fields n = seven_not fields n
