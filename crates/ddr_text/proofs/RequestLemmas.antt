-- Going over the requests of a script.
use Rattle.std.proofs.Common.{◌≡◌, ℕ, ◌+◌, ◌<◌, ◌≤◌, List, length, get_or, drop, Option, None, Err, sym, ap, ◌∙◌, arith}
use Rattle.std.specs.Option.{option_or}
use Rattle.std.proofs.lemmas.List.{at_drop_more, at_drop_all}
use Rattle.ddr_timing.specs.declared.config.Config.{Config}
use Rattle.ddr_text.specs.declared.fault.Fault.{Fault}
use Rattle.ddr_text.specs.declared.fault.Fault.TheVariants as faults
use Rattle.ddr_text.specs.Requests.{IsTaken, fault_at, first_fault}

-- the next line
at_line : (config : Config) (texts : List (List ℕ)) (count n : ℕ) (text : List ℕ) → count ≡ n → (n < length texts) × (text ≡ get_or texts n text)
    → first_fault config count (drop count texts) ≡ option_or (fault_at config.limits.ports config.geometry (count + 1) text) (first_fault config (count + 1) (drop (count + 1) texts))
at_line config texts count n text at turn =
    let here : text ≡ get_or texts count text = turn.1 ∙ ap (λ m. get_or texts m text) (sym at) in
    at_drop_more (first_fault config count) texts count text (omega (arith, turn.0))
    ∙ ap (λ t. option_or (fault_at config.limits.ports config.geometry (count + 1) t) (first_fault config (count + 1) (drop (count + 1) texts))) (sym here)

-- a line that has no fault
pub requests_more : (config : Config) (texts : List (List ℕ)) (count n : ℕ) (text : List ℕ) (all : Option Fault) → count ≡ n → (n < length texts) × (text ≡ get_or texts n text) → fault_at config.limits.ports config.geometry (count + 1) text ≡ None
    → first_fault config count (drop count texts) ≡ all → first_fault config (count + 1) (drop (count + 1) texts) ≡ all
requests_more config texts count n text all at turn none so_far =
    sym (at_line config texts count n text at turn ∙ ap (λ f. option_or f (first_fault config (count + 1) (drop (count + 1) texts))) none) ∙ so_far

-- a line that has one
pub requests_fault : (config : Config) (texts : List (List ℕ)) (count n : ℕ) (text : List ℕ) (all : Option Fault) (fault : Fault) → count ≡ n → (n < length texts) × (text ≡ get_or texts n text) → IsTaken (Err fault) (fault_at config.limits.ports config.geometry (count + 1) text)
    → first_fault config count (drop count texts) ≡ all → IsTaken (Err fault) all
requests_fault config texts count n text all faults.OutOfMemory at turn is so_far = tt
requests_fault config texts count n text all (faults.RequestLine line cause) at turn is so_far =
    sym so_far ∙ at_line config texts count n text at turn ∙ ap (λ f. option_or f (first_fault config (count + 1) (drop (count + 1) texts))) is
requests_fault config texts count n text all _ at turn is so_far = absurd is

-- after the last line
pub requests_end : (config : Config) (texts : List (List ℕ)) (count : ℕ) (all : Option Fault) → length texts ≤ count → first_fault config count (drop count texts) ≡ all → all ≡ None
requests_end config texts count all le so_far = sym so_far ∙ at_drop_all (first_fault config count) texts count le
