-- Going over the lines of a script.
use Rattle.std.proofs.Common.{◌≡◌, ℕ, ◌+◌, ◌<◌, ◌≤◌, Bool, true, false, cond, ◌==◌, List, [], ◌∷◌, length, get_or, drop, Result, Ok, Err, sym, ap, ◌∙◌, arith}
use Rattle.std.specs.List.{slice_split}
use Rattle.std.specs.Str.Lines.{lines, lines_of_parts}
use Rattle.std.proofs.lemmas.List.{at_drop_more, at_drop_all}
use Rattle.std.proofs.lemmas.List.Sums.{count_by-le-length}
use Rattle.std.proofs.lemmas.List.Splits.{length-slice_split}
use Rattle.ddr_text.specs.declared.fault.Fault.{Fault}
use Rattle.ddr_text.specs.declared.fault.Fault.TheVariants as faults
use Rattle.ddr_text.specs.declared.instructions.Form.{Form}
use Rattle.ddr_text.specs.Instructions.{AreRead, IsRead, Script, script_from, with_line, ◌>>>◌}
use Rattle.ddr_text.specs.Script.{Instruction}

last_line : (b : Bool) (x : List ℕ) → length (cond b [] (x ∷ [])) ≤ 1
last_line true x = omega arith
last_line false x = omega arith

length-lines_of_parts : (parts : List (List ℕ)) → length (lines_of_parts parts) ≤ length parts
length-lines_of_parts [] = omega arith
length-lines_of_parts (x ∷ []) = last_line _ x
length-lines_of_parts (x ∷ y ∷ more) = omega (arith, length-lines_of_parts (y ∷ more))

-- a text has no more lines than bytes, and one
pub length-lines : (text : List ℕ) → length (lines text) ≤ length text + 1
length-lines text =
    let is_feed : ℕ → Bool = λ b. b == 10 in
    omega (arith, length-lines_of_parts (slice_split is_feed text), length-slice_split is_feed text, count_by-le-length is_feed text)

-- the next line
at_line : (form : Form) (texts : List (List ℕ)) (count n : ℕ) (old : Script) (text : List ℕ) (next : Result Script Fault) → count ≡ n → (n < length texts) × (text ≡ get_or texts n text) → with_line form (count + 1) old text ≡ next
    → script_from form count old (drop count texts) ≡ (next >>> λ more. script_from form (count + 1) more (drop (count + 1) texts))
at_line form texts count n old text next at turn is_next =
    let here : text ≡ get_or texts count text = turn.1 ∙ ap (λ m. get_or texts m text) (sym at) in
    at_drop_more (script_from form count old) texts count text (omega (arith, turn.0))
    ∙ ap (λ t. with_line form (count + 1) old t >>> λ more. script_from form (count + 1) more (drop (count + 1) texts)) (sym here)
    ∙ ap (λ r. r >>> λ more. script_from form (count + 1) more (drop (count + 1) texts)) is_next

-- a line that is read
pub script_more : (form : Form) (texts : List (List ℕ)) (count n : ℕ) (old new : Script) (text : List ℕ) (all : Result Script Fault) → count ≡ n → (n < length texts) × (text ≡ get_or texts n text) → with_line form (count + 1) old text ≡ Ok new
    → script_from form count old (drop count texts) ≡ all → script_from form (count + 1) new (drop (count + 1) texts) ≡ all
script_more form texts count n old new text all at turn ok so_far = sym (at_line form texts count n old text (Ok new) at turn ok) ∙ so_far

-- a line that is at fault
pub script_fault : {X : Type 0} (view : X → List Instruction) (form : Form) (texts : List (List ℕ)) (count n : ℕ) (old next : Script) (text : List ℕ) (all : Result Script Fault) (fault : Fault) → count ≡ n → (n < length texts) × (text ≡ get_or texts n text)
    → IsRead next (Err fault) (with_line form (count + 1) old text) → script_from form count old (drop count texts) ≡ all → AreRead view (Err fault) (all >>> λ script. Ok script.instructions)
script_fault view form texts count n old next text all faults.OutOfMemory at turn is so_far = tt
script_fault view form texts count n old next text all faults.ScriptLimit at turn is so_far =
    ap (λ r. r >>> λ (script : Script). Ok script.instructions) (sym so_far ∙ at_line form texts count n old text (Err faults.ScriptLimit) at turn is)
script_fault view form texts count n old next text all (faults.ScriptLine line) at turn is so_far =
    ap (λ r. r >>> λ (script : Script). Ok script.instructions) (sym so_far ∙ at_line form texts count n old text (Err (faults.ScriptLine line)) at turn is)
script_fault view form texts count n old next text all _ at turn is so_far = absurd is

-- after the last line
pub script_end : (form : Form) (texts : List (List ℕ)) (count : ℕ) (script : Script) (all : Result Script Fault) → length texts ≤ count → script_from form count script (drop count texts) ≡ all → all ≡ Ok script
script_end form texts count script all le so_far = sym so_far ∙ at_drop_all (script_from form count script) texts count le
