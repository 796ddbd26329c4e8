-- The fields of a record of a trace's text.
use Rattle.std.proofs.Common.{◌≡◌, ◌≢◌, ℕ, false, zero, suc, List, [], ◌∷◌, length, get_or, None, Some, refl, sym, ap, arith}
use Rattle.csv.specs.Records.{field_at}
use Rattle.ddr_trace_text.specs.Parse.{record_of, is_header, seven_of}

-- seven fields, one by one
pub seven : (fields : List (List ℕ)) → length fields ≡ 7 → fields ≡ seven_of fields
seven (a ∷ b ∷ c ∷ e ∷ f ∷ g ∷ h ∷ []) n = refl
seven (a ∷ b ∷ c ∷ e ∷ f ∷ g ∷ h ∷ i ∷ rest) n = absurd (omega arith)
seven [] n = absurd (omega arith)
seven (a ∷ []) n = absurd (omega arith)
seven (a ∷ b ∷ []) n = absurd (omega arith)
seven (a ∷ b ∷ c ∷ []) n = absurd (omega arith)
seven (a ∷ b ∷ c ∷ e ∷ []) n = absurd (omega arith)
seven (a ∷ b ∷ c ∷ e ∷ f ∷ []) n = absurd (omega arith)
seven (a ∷ b ∷ c ∷ e ∷ f ∷ g ∷ []) n = absurd (omega arith)

pub record_by_seven : (fields : List (List ℕ)) → length fields ≡ 7 → record_of (seven_of fields) ≡ record_of fields
record_by_seven fields n = ap record_of (sym (seven fields n))

pub header_by_seven : (fields : List (List ℕ)) → length fields ≡ 7 → is_header (seven_of fields) ≡ is_header fields
header_by_seven fields n = ap (λ fs. is_header fs) (sym (seven fields n))

-- a list of another length is no record
pub record_not_seven : (fields : List (List ℕ)) → length fields ≢ 7 → record_of fields ≡ None
unfolding record_of
record_not_seven [] n = refl
record_not_seven (a ∷ []) n = refl
record_not_seven (a ∷ b ∷ []) n = refl
record_not_seven (a ∷ b ∷ c ∷ []) n = refl
record_not_seven (a ∷ b ∷ c ∷ d ∷ []) n = refl
record_not_seven (a ∷ b ∷ c ∷ d ∷ e ∷ []) n = refl
record_not_seven (a ∷ b ∷ c ∷ d ∷ e ∷ f ∷ []) n = refl
record_not_seven (a ∷ b ∷ c ∷ d ∷ e ∷ f ∷ g ∷ []) n = absurd (n refl)
record_not_seven (a ∷ b ∷ c ∷ d ∷ e ∷ f ∷ g ∷ h ∷ rest) n = refl

pub header_not_seven : (fields : List (List ℕ)) → length fields ≢ 7 → is_header fields ≡ false
header_not_seven [] n = refl
header_not_seven (a ∷ []) n = refl
header_not_seven (a ∷ b ∷ []) n = refl
header_not_seven (a ∷ b ∷ c ∷ []) n = refl
header_not_seven (a ∷ b ∷ c ∷ d ∷ []) n = refl
header_not_seven (a ∷ b ∷ c ∷ d ∷ e ∷ []) n = refl
header_not_seven (a ∷ b ∷ c ∷ d ∷ e ∷ f ∷ []) n = refl
header_not_seven (a ∷ b ∷ c ∷ d ∷ e ∷ f ∷ g ∷ []) n = absurd (n refl)
header_not_seven (a ∷ b ∷ c ∷ d ∷ e ∷ f ∷ g ∷ h ∷ rest) n = refl

-- the field at a place, or an empty one
pub field_there : (fields : List (List ℕ)) (i : ℕ) (field : List ℕ) → Some field ≡ field_at fields i → field ≡ get_or fields i []
unfolding field_at
field_there [] i field e = cc e
field_there (f ∷ fs) zero field e = cc e
field_there (f ∷ fs) (suc i) field e = field_there fs i field e

pub field_absent : (fields : List (List ℕ)) (i : ℕ) → None ≡ field_at fields i → [] ≡ get_or fields i []
unfolding field_at
field_absent [] i e = refl
field_absent (f ∷ fs) zero e = cc e
field_absent (f ∷ fs) (suc i) e = field_absent fs i e
