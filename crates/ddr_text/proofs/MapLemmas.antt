-- The text of a map.
use Rattle.std.proofs.Common.{◌≡◌, ◌≢◌, ℕ, ◌+◌, ◌*◌, ◌<◌, ◌≤◌, Bool, true, false, List, [], ◌∷◌, ◌++◌, length, get_or, drop, Option, Some, None, Result, Ok, Err, refl, sym, subst, ap, ◌∙◌, IfErr, IfSome, OnOk, append_assoc, arith}
use Rattle.std.specs.Fmt.{decimal}
use Rattle.std.specs.Io.KnownBytes.{Appends}
use Rattle.std.specs.Option.{option_map_or}
use Rattle.ddr_text.specs.Input.{IsText}
use Rattle.std.proofs.lemmas.Bool.{ne_eqb}
use Rattle.std.proofs.lemmas.List.{at_drop_more, at_drop_all}
use Rattle.ddr_timing.specs.declared.geometry.Geometry.{Geometry}
use Rattle.ddr_timing.specs.declared.units.TheConstants.{LINE_COLUMNS}
use Rattle.ddr_address_map.specs.declared.place.Place.{Place}
use Rattle.ddr_address_map.specs.Map.{place_of}
use Rattle.ddr_timing.specs.declared.config.Config.{Config}
use Rattle.ddr_text.specs.declared.fault.Fault.{Fault}
use Rattle.ddr_text.specs.declared.fault.Fault.TheVariants as faults
use Rattle.ddr_text.specs.Body.{HasParts, IsRefused, parts_of}
use Rattle.ddr_text.specs.MapText.{HasMapFault, IsMapFault, IsMapped, SaysPlaces, address_text, line_text, map_text, text_from}
use Rattle.ddr_text.specs.Sink.{write_fault}
use Rattle.ddr_text.proofs.BodyLemmas.{not_of_parts}

-- beyond the memory
pub address_text-out : (shape : Geometry) (addr : ℕ) → place_of shape addr ≡ None → decimal addr ++ (32 ∷ 111 ∷ 117 ∷ 116 ∷ 10 ∷ []) ≡ address_text shape addr
unfolding address_text
address_text-out shape addr out = rw out (sym (append_assoc (decimal addr) (32 ∷ 111 ∷ 117 ∷ 116 ∷ []) (10 ∷ [])))

-- in the memory, under version 2
pub address_text-ranked : (shape : Geometry) (addr : ℕ) (p : Place) → place_of shape addr ≡ Some p → shape.version ≡ 2
    → decimal addr ++ (32 ∷ (decimal p.channel ++ (32 ∷ (decimal p.rank ++ (32 ∷ (decimal p.group ++ (32 ∷ (decimal p.bank ++ (32 ∷ (decimal p.row ++ (32 ∷ (decimal (LINE_COLUMNS * p.line) ++ (32 ∷ (decimal p.offset ++ (10 ∷ []))))))))))))))) ≡ address_text shape addr
unfolding address_text
address_text-ranked shape addr p at second = rw (at, second) (sym (simp append_assoc))

-- and under version 1
pub address_text-in : (shape : Geometry) (addr : ℕ) (p : Place) → place_of shape addr ≡ Some p → shape.version ≢ 2
    → decimal addr ++ (32 ∷ (decimal p.channel ++ (32 ∷ (decimal p.group ++ (32 ∷ (decimal p.bank ++ (32 ∷ (decimal p.row ++ (32 ∷ (decimal (LINE_COLUMNS * p.line) ++ (32 ∷ (decimal p.offset ++ (10 ∷ []))))))))))))) ≡ address_text shape addr
unfolding address_text
address_text-in shape addr p at first = rw (at, ne_eqb shape.version 2 first) (sym (simp append_assoc))

-- the next line
at_line : (shape : Geometry) (texts : List (List ℕ)) (count n : ℕ) (old line : List ℕ) (next : Option (List ℕ)) → count ≡ n → (n < length texts) × (line ≡ get_or texts n line) → line_text shape line ≡ next
    → text_from shape count old (drop count texts) ≡ option_map_or (λ added. text_from shape (count + 1) (old ++ added) (drop (count + 1) texts)) next (Err (count + 1))
at_line shape texts count n old line next at turn is_next =
    let here : line ≡ get_or texts count line = turn.1 ∙ ap (λ m. get_or texts m line) (sym at) in
    at_drop_more (text_from shape count old) texts count line (omega (arith, turn.0))
    ∙ ap (λ t. option_map_or (λ added. text_from shape (count + 1) (old ++ added) (drop (count + 1) texts)) (line_text shape t) (Err (count + 1))) (sym here)
    ∙ ap (λ o. option_map_or (λ added. text_from shape (count + 1) (old ++ added) (drop (count + 1) texts)) o (Err (count + 1))) is_next

-- a line that is empty or an address
pub text_more : (shape : Geometry) (texts : List (List ℕ)) (count n : ℕ) (old new line added : List ℕ) (all : Result (List ℕ) ℕ) → count ≡ n → (n < length texts) × (line ≡ get_or texts n line) → line_text shape line ≡ Some added → new ≡ old ++ added
    → text_from shape count old (drop count texts) ≡ all → text_from shape (count + 1) new (drop (count + 1) texts) ≡ all
text_more shape texts count n old new line added all at turn ok grown so_far =
    ap (λ t. text_from shape (count + 1) t (drop (count + 1) texts)) grown ∙ sym (at_line shape texts count n old line (Some added) at turn ok) ∙ so_far

-- a line that is at fault
pub text_fault : (shape : Geometry) (texts : List (List ℕ)) (count n : ℕ) (old line : List ℕ) (all : Result (List ℕ) ℕ) → count ≡ n → (n < length texts) × (line ≡ get_or texts n line) → line_text shape line ≡ None
    → text_from shape count old (drop count texts) ≡ all → all ≡ Err (count + 1)
text_fault shape texts count n old line all at turn bad so_far = sym so_far ∙ at_line shape texts count n old line None at turn bad

-- after the last line
pub text_end : (shape : Geometry) (texts : List (List ℕ)) (count : ℕ) (text : List ℕ) (all : Result (List ℕ) ℕ) → length texts ≤ count → text_from shape count text (drop count texts) ≡ all → all ≡ Ok text
text_end shape texts count text all le so_far = sym so_far ∙ at_drop_all (text_from shape count text) texts count le

-- what was read and opened says what the body says
pub said_of : (remaining : Option (List ℕ)) (items text sample_text : List ℕ) (sample : Bool) (config : Config) (body : List ℕ) (shape : Geometry) (said : Result (List ℕ) ℕ) → IfSome remaining (λ bytes. items ≡ bytes) → text ≡ items → IsText items → HasParts (parts_of sample sample_text text) config body → shape ≡ config.geometry → map_text shape body ≡ said
    → IfSome remaining (λ input. SaysPlaces sample sample_text input said)
said_of None items text sample_text sample config body shape said known same is_text opened e mapped = tt
said_of (Some input) items text sample_text sample config body shape said known same is_text opened e mapped =
    subst (λ i. SaysPlaces sample sample_text i said) known (record {
      text = is_text;
      config = config;
      body = body;
      opened = subst (λ t. HasParts (parts_of sample sample_text t) config body) same opened;
      mapped = ap (λ g. map_text g body) (sym e) ∙ mapped;
    })

-- the fault of a text that is not opened
unopened : (profile text : List ℕ) (sample : Bool) (fault : Fault) → IsText text → IsRefused (parts_of sample profile text) fault → HasMapFault sample profile text fault
unopened profile text sample faults.OutOfMemory is_text refused = tt
unopened profile text sample faults.Read is_text refused = tt
unopened profile text sample faults.Write is_text refused = not_of_parts (parts_of sample profile text) faults.Write refused refl
unopened profile text sample (faults.MapLine line) is_text refused = not_of_parts (parts_of sample profile text) (faults.MapLine line) refused refl
unopened profile text sample faults.InputTooLong is_text refused = not_of_parts (parts_of sample profile text) faults.InputTooLong refused refl
unopened profile text sample faults.InputNotUtf8 is_text refused = not_of_parts (parts_of sample profile text) faults.InputNotUtf8 refused refl
unopened profile text sample _ is_text refused = (is_text, refused)

pub opening_fault : (remaining : Option (List ℕ)) (items text profile : List ℕ) (sample : Bool) (fault : Fault) → IfSome remaining (λ bytes. items ≡ bytes) → text ≡ items → IsText items → IsRefused (parts_of sample profile text) fault → IfSome remaining (λ input. HasMapFault sample profile input fault)
opening_fault None items text profile sample fault known same is_text refused = tt
opening_fault (Some input) items text profile sample fault known same is_text refused =
    subst (λ i. HasMapFault sample profile i fault) known
    (unopened profile items sample fault is_text (subst (λ t. IsRefused (parts_of sample profile t) fault) same refused))

-- a body at fault
pub map_fault : (remaining : Option (List ℕ)) (profile : List ℕ) (sample : Bool) (fault : Fault) (all : Result (List ℕ) ℕ) → IsMapFault fault all → ((said : Result (List ℕ) ℕ) → all ≡ said → IfSome remaining (λ input. SaysPlaces sample profile input said)) → IfSome remaining (λ input. HasMapFault sample profile input fault)
map_fault None profile sample fault all fails says = tt
map_fault (Some input) profile sample faults.OutOfMemory all fails says = tt
map_fault (Some input) profile sample (faults.MapLine line) all fails says = says (Err line) fails
map_fault (Some input) profile sample _ all fails says = absurd fails

-- what was written is the text
pub map_written : (r : Result (Unit {0}) Fault) (remaining : Option (List ℕ)) (profile text : List ℕ) (sample : Bool) (old new : Option (List ℕ)) → IfSome remaining (λ input. SaysPlaces sample profile input (Ok text)) → OnOk r (Appends old new text) → OnOk r (IfSome remaining (λ input. IsMapped sample profile input old new))
map_written (Err fault) remaining profile text sample old new says written = tt
map_written (Ok v) None profile text sample old new says written = tt
map_written (Ok v) (Some input) profile text sample old new says written = record { text = text; says = says; written = written }

-- a text that was not written
pub map_unwritten : (r : Result (Unit {0}) Fault) (remaining : Option (List ℕ)) (profile text : List ℕ) (sample may_fail : Bool) → IfSome remaining (λ input. SaysPlaces sample profile input (Ok text)) → IfErr r (λ fault. fault ≡ write_fault may_fail) → IfErr r (λ fault. IfSome remaining (λ input. HasMapFault sample profile input fault))
map_unwritten (Ok v) remaining profile text sample may_fail says refused = tt
map_unwritten (Err fault) None profile text sample may_fail says refused = tt
map_unwritten (Err fault) (Some input) profile text sample true says refused = rw refused (text, says)
map_unwritten (Err fault) (Some input) profile text sample false says refused = rw refused tt
