-- Reading a stream on, line by line.
use Rattle.std.proofs.Common.{◌≡◌, ◌≢◌, ℕ, zero, suc, ◌+◌, ◌<◌, ◌≤◌, Bool, true, false, cond, List, [], ◌∷◌, ◌++◌, length, map, drop, get_or, nat_lt, set, replicate, Option, Some, None, IfSome, Result, Ok, Err, IfOk, OnOk, OnErr, inl, inr, refl, sym, ap, ap₂, subst, ◌∙◌, add-zero, append_assoc, arith, length-append, length-drop}
use Rattle.std.specs.List.{sum}
use Rattle.std.specs.Io.KnownBytes.{prepend_known}
use Rattle.std.specs.Option.{option_map}
use Rattle.std.specs.Str.{is_utf8}
use Rattle.std.specs.Str.Lines.{lines}
use Rattle.std.proofs.lemmas.Bool.{lt-ltb, ltb-false, ltb-true}
use Rattle.std.proofs.lemmas.List.{get_or_past, length-map, length-set}
use Rattle.std.proofs.lemmas.List.Sums.{sum-map, sum_by-set}
use Rattle.ddr_timing.specs.declared.geometry.Geometry.{Geometry}
use Rattle.ddr_text.specs.declared.command.Reading.{Reading}
use Rattle.ddr_text.specs.declared.fault.Fault.{Fault}
use Rattle.ddr_text.specs.declared.fault.Fault.TheVariants as faults
use Rattle.ddr_text.specs.declared.fault.LineFault.TheVariants.{NotUtf8, TooLong}
use Rattle.ddr_text.specs.Instructions.{◌>>>◌}
use Rattle.ddr_capture.specs.Feed.{HasFound, IsFound, IsTooLong}
use Rattle.ddr_capture.specs.Lines.{text_of}
use Rattle.ddr_capture.specs.declared.feed.Found.{Found}
use Rattle.ddr_capture.specs.declared.feed.Found.TheVariants as found
use Rattle.ddr_capture.specs.declared.feed.Refusal.{Refusal}
use Rattle.ddr_capture.specs.declared.feed.Refusal.TheVariants as refusals
use Rattle.ddr_capture.specs.declared.feed.TheConstants.{LONGEST_LINE, MOST_LINES}
use Rattle.ddr_capture.proofs.LineLemmas.{lines_step, long_first}
use Rattle.ddr_stream.specs.declared.ask.Ask.{Ask}
use Rattle.ddr_stream.specs.declared.placing.Placed.{Placed}
use Rattle.ddr_stream.specs.declared.requests.Requests.{Requests}
use Rattle.ddr_stream.specs.Next.{IsNext, next_of, in_front_of, left_in, line_fault, pushed}
use Rattle.ddr_stream.specs.Requests.{no_requests, with_request, with_requests}
use Rattle.ddr_stream.specs.Stream.{Queues, asks_in, in_front, of_line, of_text, queue_at, rest_of}
use Rattle.ddr_stream.specs.Waiting.{All, IsReadOn, IsSaidFault, IsSame, IsSized, IsStreamFault, Knows, Waiting, all_in, popped, rest_in, with_rest}
use Rattle.ddr_stream.proofs.AllLemmas.{beside-set, left_sized}
use Rattle.ddr_stream.proofs.PlacedLemmas.{IsLineFault, IsPlaced, fault_ends, line_placed}

-- ---- the same is known

pub same_refl : {X : Type 0} (a : Option X) → IsSame a a
same_refl None = tt
same_refl (Some x) = refl

pub same_on : {X : Type 0} (a b c : Option X) → IsSame a b → IsSame b c → IsSame a c
same_on None b c first second = tt
same_on (Some x) None c first second = absurd (cc)
same_on (Some x) (Some y) c first second = second ∙ first

same_mapped : {X Y : Type 0} (f : X → Y) (a b : Option X) → IsSame a b → IsSame (option_map f a) (option_map f b)
same_mapped f None b same = tt
same_mapped f (Some x) b same = ap (option_map f) same

same_along : {X : Type 0} (a b c d : Option X) → a ≡ c → b ≡ d → IsSame c d → IsSame a b
same_along {X = X} a b c d first second same = subst (λ (x : Option X). IsSame x b) (sym first) (subst (λ (y : Option X). IsSame c y) (sym second) same)

-- ---- the first fault

abbrev pub fault_in : {X : Type 0} → Result X Fault → Option Fault
fault_in (Ok x) = None
fault_in (Err fault) = Some fault

-- the one has the fault of the other
abbrev pub HaveSameFault : {X Y : Type 0} → Option (Result X Fault) → Option (Result Y Fault) → Type 0
HaveSameFault a b = IsSame (option_map fault_in a) (option_map fault_in b)

said_back : {X Y : Type 0} (fault : Fault) (a : Option (Result X Fault)) (b : Option (Result Y Fault)) → HaveSameFault a b → IfSome b (λ said. said ≡ Err fault) → IfSome a (λ said. said ≡ Err fault)
said_back fault None b same is = tt
said_back fault (Some said) None same is = absurd (cc)
said_back fault (Some (Ok x)) (Some other) same is = let e = ap fault_in is in absurd (cc)
said_back fault (Some (Err own)) (Some other) same is = let e = ap fault_in is in cc

pub fault_back : {X Y : Type 0} (fault : Fault) (a : Option (Result X Fault)) (b : Option (Result Y Fault)) → HaveSameFault a b → IsSaidFault fault b → IsSaidFault fault a
fault_back (faults.ReplayLine line cause) a b same is = said_back (faults.ReplayLine line cause) a b same is
fault_back (faults.ReplayRange line) a b same is = said_back (faults.ReplayRange line) a b same is
fault_back faults.InputTooLong a b same is = said_back faults.InputTooLong a b same is
fault_back faults.Read a b same is = tt
fault_back faults.OutOfMemory a b same is = tt
fault_back _ a b same is = absurd is

pub fault_same : {X : Type 0} (fault : Fault) (a b : Option (Result X Fault)) → IsSame a b → IsSaidFault fault b → IsSaidFault fault a
fault_same fault a b same is = fault_back fault a b (same_mapped fault_in a b same) is

-- a line's fault is told
pub fault_said : {X : Type 0} (fault : Fault) (a : Option (Result X Fault)) → IsStreamFault fault → IfSome a (λ said. said ≡ Err fault) → IsSaidFault fault a
fault_said (faults.ReplayLine line cause) a kind is = is
fault_said (faults.ReplayRange line) a kind is = is
fault_said faults.InputTooLong a kind is = is
fault_said faults.Read a kind is = tt
fault_said faults.OutOfMemory a kind is = tt
fault_said _ a kind is = absurd kind

-- memory is refused
pub refused_said : {X : Type 0} (fault : Fault) (a : Option (Result X Fault)) → fault ≡ faults.OutOfMemory → IsSaidFault fault a
refused_said fault a is = subst (λ (f : Fault). IsSaidFault f a) (sym is) tt

pub refused_kind : (fault : Fault) → fault ≡ faults.OutOfMemory → IsStreamFault fault
refused_kind fault is = subst IsStreamFault (sym is) tt

-- all requests have the fault of those that were not read
all_fault : (w : Waiting) (said : Option (Result Queues Fault)) → HaveSameFault (option_map (λ (r : Result Queues Fault). r >>> λ rest. Ok (with_rest w rest)) said) said
all_fault w None = tt
all_fault w (Some (Ok rest)) = refl
all_fault w (Some (Err fault)) = refl

pub rest_fault : (w : Waiting) (more : Option (List ℕ)) → HaveSameFault (all_in w more) (rest_in w more)
rest_fault w more = all_fault w (rest_in w more)

-- ---- the next line

module _ (geometry : Geometry) (reading : Reading) (ports : ℕ) where
  abbrev left : ℕ → ℕ → Option (List ℕ) → Option (Result Queues Fault)
  left count sent known = option_map (λ text. rest_of geometry reading ports count sent (lines text)) known

  module _ (count sent : ℕ) where
    abbrev behind_it : List (List ℕ) → Option Placed → Result Queues Fault
    behind_it more p = rest_of geometry reading ports (count + 1) (sent + asks_in p) more >>> λ queues. Ok (in_front p queues)

    line_step : (f : Found) (text line behind : List ℕ) → IsFound f text line behind → f ≢ found.End
        → rest_of geometry reading ports count sent (lines text) ≡ (of_line geometry reading ports (count + 1) sent (text_of f line) >>> behind_it (lines behind))
    line_step f text line behind is other = ap (rest_of geometry reading ports count sent) (lines_step f text line behind is other)

    -- it asks for this, or for nothing
    pub line_asks : (a b : Option (List ℕ)) (f : Found) (line : List ℕ) (asked : Option Placed) → HasFound f line a b → f ≢ found.End → of_line geometry reading ports (count + 1) sent (text_of f line) ≡ Ok asked
        → IsSame (left count sent a) (in_front_of asked (left (count + 1) (sent + asks_in asked) b))
    line_asks None b f line asked has other said = tt
    line_asks (Some text) None f line asked has other said = absurd has
    line_asks (Some text) (Some behind) f line asked has other said =
        ap Some (sym (line_step f text line behind has other ∙ ap (λ (r : Result (Option Placed) Fault). r >>> behind_it (lines behind)) said))

    front_none : (rest : Option (Result Queues Fault)) → in_front_of None rest ≡ rest
    front_none None = refl
    front_none (Some (Ok queues)) = refl
    front_none (Some (Err fault)) = refl

    pub line_nothing : (a b : Option (List ℕ)) (f : Found) (line : List ℕ) → HasFound f line a b → f ≢ found.End → of_line geometry reading ports (count + 1) sent (text_of f line) ≡ Ok None
        → IsSame (left count sent a) (left (count + 1) sent b)
    line_nothing a b f line has other said =
        subst (λ (x : Option (Result Queues Fault)). IsSame (left count sent a) x) (front_none (left (count + 1) (sent + 0) b) ∙ ap (λ n. left (count + 1) n b) (add-zero sent)) (line_asks a b f line None has other said)

    -- it is at fault
    pub line_refused : (a b : Option (List ℕ)) (f : Found) (line : List ℕ) (fault : Fault) → HasFound f line a b → f ≢ found.End → of_line geometry reading ports (count + 1) sent (text_of f line) ≡ Err fault
        → IfSome (left count sent a) (λ said. said ≡ Err fault)
    line_refused None b f line fault has other said = tt
    line_refused (Some text) None f line fault has other said = absurd has
    line_refused (Some text) (Some behind) f line fault has other said =
        line_step f text line behind has other ∙ ap (λ (r : Result (Option Placed) Fault). r >>> behind_it (lines behind)) said

    -- there is none
    pub line_none : (a b : Option (List ℕ)) (line : List ℕ) → HasFound found.End line a b → IsSame (left count sent a) (Some (Ok (replicate ports [])))
    line_none None b line has = tt
    line_none (Some text) None line has = absurd has
    line_none (Some text) (Some behind) line has = sym (ap (λ (t : List ℕ). left count sent (Some t)) has.0)

    long_refused : (text : List ℕ) → LONGEST_LINE < length text → of_line geometry reading ports (count + 1) sent text ≡ Err (faults.ReplayLine (count + 1) TooLong)
    long_refused text long =
        ap (λ (b : Bool). cond b (Err (faults.ReplayLine (count + 1) TooLong)) (cond (nat_lt MOST_LINES (count + 1)) (Err faults.InputTooLong) (cond (is_utf8 text) (of_text geometry reading ports (count + 1) sent text) (Err (faults.ReplayLine (count + 1) NotUtf8))))) (lt-ltb LONGEST_LINE (length text) long)

    line_long : (a : Option (List ℕ)) → IfSome a IsTooLong → IfSome (left count sent a) (λ said. said ≡ Err (faults.ReplayLine (count + 1) TooLong))
    line_long None long = tt
    line_long (Some text) long =
        let h = long_first text long in
        ap (rest_of geometry reading ports count sent) h.lined ∙ ap (λ (r : Result (Option Placed) Fault). r >>> behind_it h.more) (long_refused h.first h.long)

    -- it was not found
    pub line_lost : (a : Option (List ℕ)) (refusal : Refusal) → (refusal ≡ refusals.Line → IfSome a IsTooLong) → IsSaidFault (line_fault (count + 1) refusal) (left count sent a)
    line_lost a refusals.Line long = line_long a (long refl)
    line_lost a refusals.Read long = tt
    line_lost a refusals.OutOfMemory long = tt

-- what is said of the line in the memory's geometry
pub line_said : (w : Waiting) (geometry : Geometry) (sent : ℕ) (f : Found) (text line same : List ℕ) (said : Result (Option Placed) Fault) → geometry ≡ w.config.geometry → text ≡ text_of f line → line ≡ same
    → said ≡ of_line geometry w.reading w.config.limits.ports (w.count + 1) sent text → of_line w.config.geometry w.reading w.config.limits.ports (w.count + 1) sent (text_of f same) ≡ said
line_said w geometry sent f text line same said map is lent e =
    sym (e ∙ ap₂ (λ (g : Geometry) (t : List ℕ). of_line g w.reading w.config.limits.ports (w.count + 1) sent t) map (is ∙ ap (text_of f) lent))

-- what the line is
pub line_next : (w : Waiting) (sent : ℕ) (bytes : List ℕ) (more less : Option (List ℕ)) (f : Found) (line : List ℕ) (asked : Option Placed) → 0 < w.config.limits.ports
    → HasFound f line (prepend_known w.bytes more) (prepend_known bytes less) → f ≢ found.End → of_line w.config.geometry w.reading w.config.limits.ports (w.count + 1) sent (text_of f line) ≡ Ok asked
    → IsNext (next_of asked) w sent more (record w { bytes = bytes; count = w.count + 1 }) less
line_next w sent bytes more less f line None some has other said =
    line_nothing w.config.geometry w.reading w.config.limits.ports w.count sent (prepend_known w.bytes more) (prepend_known bytes less) f line has other said
line_next w sent bytes more less f line (Some p) some has other said =
    let placed = subst (λ (r : Result (Option Placed) Fault). IsPlaced w.config.limits.ports (w.count + 1) r) said (line_placed w.config.limits.ports w.config.geometry w.reading (w.count + 1) sent (text_of f line) some) in
    (placed.0, line_asks w.config.geometry w.reading w.config.limits.ports w.count sent (prepend_known w.bytes more) (prepend_known bytes less) f line (Some p) has other said)

pub line_kind : (w : Waiting) (sent : ℕ) (text : List ℕ) (fault : Fault) → 0 < w.config.limits.ports → of_line w.config.geometry w.reading w.config.limits.ports (w.count + 1) sent text ≡ Err fault → IsLineFault fault
line_kind w sent text fault some said =
    subst (λ (r : Result (Option Placed) Fault). IsPlaced w.config.limits.ports (w.count + 1) r) said (line_placed w.config.limits.ports w.config.geometry w.reading (w.count + 1) sent text some)

pub line_fault_said : (w : Waiting) (sent : ℕ) (more b : Option (List ℕ)) (f : Found) (line : List ℕ) (fault : Fault) → 0 < w.config.limits.ports
    → HasFound f line (prepend_known w.bytes more) b → f ≢ found.End → of_line w.config.geometry w.reading w.config.limits.ports (w.count + 1) sent (text_of f line) ≡ Err fault → IsSaidFault fault (left_in w sent more)
line_fault_said w sent more b f line fault some has other said =
    fault_said fault (left_in w sent more) (fault_ends fault (line_kind w sent (text_of f line) fault some said))
    (line_refused w.config.geometry w.reading w.config.limits.ports w.count sent (prepend_known w.bytes more) b f line fault has other said)

pub lost_kind : (line : ℕ) (refusal : Refusal) → IsStreamFault (line_fault line refusal)
lost_kind line refusals.Line = tt
lost_kind line refusals.Read = tt
lost_kind line refusals.OutOfMemory = tt

-- ---- all requests stay the same

abbrev all_of : Waiting → Option (Result Queues Fault) → Option (Result All Fault)
all_of w said = option_map (λ r. r >>> λ rest. Ok (with_rest w rest)) said

rest_unended : (w : Waiting) (more : Option (List ℕ)) → w.ended ≡ false → rest_in w more ≡ left_in w w.sent more
rest_unended w more unended = ap (λ (b : Bool). cond b (Some (Ok (replicate w.config.limits.ports []))) (left_in w w.sent more)) unended

all_unended : (w : Waiting) (more : Option (List ℕ)) → w.ended ≡ false → all_in w more ≡ all_of w (left_in w w.sent more)
all_unended w more unended = ap (all_of w) (rest_unended w more unended)

-- and so does their fault
pub unended_fault : (w : Waiting) (more : Option (List ℕ)) → w.ended ≡ false → HaveSameFault (all_in w more) (left_in w w.sent more)
unended_fault w more unended = subst (λ (x : Option (Result Queues Fault)). HaveSameFault (all_in w more) x) (rest_unended w more unended) (rest_fault w more)

module _ (old : Waiting) (bytes : List ℕ) (count : ℕ) (more less : Option (List ℕ)) (unended : old.ended ≡ false) where
  abbrev on : Waiting
  on = record old { bytes = bytes; count = count }

  pub nothing_same : IsSame (left_in old old.sent more) (left_in on old.sent less) → IsSame (all_in old more) (all_in on less)
  nothing_same same =
      same_along (all_in old more) (all_in on less) (all_of old (left_in old old.sent more)) (all_of old (left_in on old.sent less)) (all_unended old more unended) (all_unended on less unended)
      (same_mapped (λ (r : Result Queues Fault). r >>> λ rest. Ok (with_rest old rest)) (left_in old old.sent more) (left_in on old.sent less) same)

  pub end_same : IsSame (left_in old old.sent more) (Some (Ok (replicate old.config.limits.ports []))) → IsSame (all_in old more) (all_in (record on { ended = true }) less)
  end_same same =
      same_along (all_in old more) (all_in (record on { ended = true }) less) (all_of old (left_in old old.sent more)) (all_of old (Some (Ok (replicate old.config.limits.ports [])))) (all_unended old more unended) refl
      (same_mapped (λ (r : Result Queues Fault). r >>> λ rest. Ok (with_rest old rest)) (left_in old old.sent more) (Some (Ok (replicate old.config.limits.ports []))) same)

pushed_rest : (w : Waiting) (p : Placed) (rest : Queues) → IsSized w → p.port < w.config.limits.ports → length rest ≡ w.config.limits.ports → with_rest w (in_front (Some p) rest) ≡ with_rest (pushed p w) rest
pushed_rest w p rest sized below is =
    let joined : List Ask → List Ask → List Ask = λ asks more. asks ++ more in
    let waits : List Ask = queue_at w.queues p.port in
    let next : List Ask = queue_at rest p.port in
    let queues = beside-set joined w.queues rest p.port (waits ++ p.ask ∷ []) (p.ask ∷ next) [] [] (omega (arith, below, sized.queues)) (omega (arith, below, is)) (sym (append_assoc waits (p.ask ∷ []) next)) in
    let asked = beside-set with_requests w.asked rest p.port (with_request p.ask.kind (get_or w.asked p.port no_requests)) (p.ask ∷ next) no_requests [] (omega (arith, below, sized.asked)) (omega (arith, below, is)) refl in
    ap₂ (λ (qs : Queues) (rs : List Requests). record { queues = qs; requests = rs }) queues asked

pushed_all : (w : Waiting) (p : Placed) (said : Option (Result Queues Fault)) → IsSized w → p.port < w.config.limits.ports → IfSome said (λ r. IfOk r (λ queues. length queues ≡ w.config.limits.ports))
    → all_of w (in_front_of (Some p) said) ≡ all_of (pushed p w) said
pushed_all w p None sized below each = refl
pushed_all w p (Some (Err fault)) sized below each = refl
pushed_all w p (Some (Ok rest)) sized below each = ap (λ (x : All). Some (Ok x)) (pushed_rest w p rest sized below each)

-- as wide as it was
sized_on : (old : Waiting) (bytes : List ℕ) (count : ℕ) → IsSized old → IsSized (record old { bytes = bytes; count = count })
sized_on old bytes count sized = record { queues = sized.queues; asked = sized.asked; counted = sized.counted; few = sized.few }

module _ (old : Waiting) (bytes : List ℕ) (count : ℕ) (more less : Option (List ℕ)) (unended : old.ended ≡ false) where
  pub ask_same : (p : Placed) → IsSized old → p.port < old.config.limits.ports → IsSame (left_in old old.sent more) (in_front_of (Some p) (left_in (record old { bytes = bytes; count = count }) (old.sent + 1) less))
      → IsSame (all_in old more) (all_in (pushed p (record old { bytes = bytes; count = count })) less)
  ask_same p sized below same =
      let next : Waiting = record old { bytes = bytes; count = count } in
      let rest = left_in next (old.sent + 1) less in
      let each = left_sized old.config.geometry old.reading old.config.limits.ports count (old.sent + 1) (prepend_known bytes less) in
      same_along (all_in old more) (all_in (pushed p next) less) (all_of old (left_in old old.sent more)) (all_of old (in_front_of (Some p) rest)) (all_unended old more unended)
      (all_unended (pushed p next) less unended ∙ sym (pushed_all next p rest (sized_on old bytes count sized) below each))
      (same_mapped (λ (r : Result Queues Fault). r >>> λ queues. Ok (with_rest old queues)) (left_in old old.sent more) (in_front_of (Some p) rest) same)

-- ---- what is known stays known

pub read_none : (w : Waiting) → IsSized w → IsReadOn w w
read_none w sized = record { config = refl; taken = refl; knows = λ port knows. knows; sized = sized }

pub read_on : (a b c : Waiting) → IsReadOn a b → IsReadOn b c → IsReadOn a c
read_on a b c first second = record {
  config = second.config ∙ first.config;
  taken = second.taken ∙ first.taken;
  knows = λ port knows. second.knows port (first.knows port knows);
  sized = second.sized;
}

pub read_nothing : (old : Waiting) (bytes : List ℕ) (count : ℕ) → IsSized old → IsReadOn old (record old { bytes = bytes; count = count })
read_nothing old bytes count sized = record { config = refl; taken = refl; knows = λ port knows. knows; sized = sized_on old bytes count sized }

pub read_end : (old : Waiting) (bytes : List ℕ) (count : ℕ) → IsSized old → IsReadOn old (record old { bytes = bytes; count = count; ended = true })
read_end old bytes count sized = record {
  config = refl;
  taken = refl;
  knows = λ port knows. by_known port knows;
  sized = record { queues = sized.queues; asked = sized.asked; counted = sized.counted; few = sized.few };
}
  where
    by_known : (port : ℕ) → Knows old port → Knows (record old { bytes = bytes; count = count; ended = true }) port
    by_known port (inl some) = inl some
    by_known port (inr ended) = inr refl

grown : {X : Type 0} (xs : List (List X)) (p k : ℕ) (y : X) → length (get_or xs k []) ≤ length (get_or (set xs p (get_or xs p [] ++ y ∷ [])) k [])
grown [] p k y = omega arith
grown (x ∷ xs) zero zero y = omega (arith, length-append x (y ∷ []))
grown (x ∷ xs) zero (suc k) y = omega arith
grown (x ∷ xs) (suc p) zero y = omega arith
grown (x ∷ xs) (suc p) (suc k) y = grown xs p k y

pub pushed_sized : (w : Waiting) (p : Placed) → IsSized w → p.port < w.config.limits.ports → w.sent < MOST_LINES → IsSized (pushed p w)
pushed_sized w p sized below few =
    let waits : List Ask = queue_at w.queues p.port in
    let next : List Ask = waits ++ p.ask ∷ [] in
    record {
      queues = length-set w.queues p.port next ∙ sized.queues;
      asked = length-set w.asked p.port (with_request p.ask.kind (get_or w.asked p.port no_requests)) ∙ sized.asked;
      counted = omega (arith, sized.counted, length-append waits (p.ask ∷ []), sum_by-set length w.queues p.port next [] (omega (arith, below, sized.queues)));
      few = omega (arith, few);
    }

pub read_pushed : (old : Waiting) (p : Placed) → IsSized (pushed p old) → IsReadOn old (pushed p old)
read_pushed old p sized = record {
  config = refl;
  taken = refl;
  knows = λ port knows. by_known port knows;
  sized = sized;
}
  where
    by_known : (port : ℕ) → Knows old port → Knows (pushed p old) port
    by_known port (inl some) = inl (omega (arith, some, grown old.queues p.port port p.ask))
    by_known port (inr ended) = inr ended

-- ---- what a line leaves

-- it was read, and nothing of it is kept
abbrev pub IsKept : Waiting → Waiting → Type 0
IsKept old new = new ≡ record old { bytes = new.bytes; count = new.count }

module _ (old next : Waiting) (more less : Option (List ℕ)) (kept : IsKept old next) where
  pub after_nothing : old.ended ≡ false → IsSame (left_in old old.sent more) (left_in next old.sent less) → IsSame (all_in old more) (all_in next less)
  after_nothing unended same =
      subst (λ (w : Waiting). IsSame (all_in old more) (all_in w less)) (sym kept)
      (nothing_same old next.bytes next.count more less unended (subst (λ (w : Waiting). IsSame (left_in old old.sent more) (left_in w old.sent less)) kept same))

  pub after_end : old.ended ≡ false → IsSame (left_in old old.sent more) (Some (Ok (replicate old.config.limits.ports []))) → IsSame (all_in old more) (all_in (record next { ended = true }) less)
  after_end unended same =
      subst (λ (w : Waiting). IsSame (all_in old more) (all_in (record w { ended = true }) less)) (sym kept) (end_same old next.bytes next.count more less unended same)

  pub after_ask : (p : Placed) (new : Waiting) (result : Result (Unit {0}) Fault) → old.ended ≡ false → IsSized old → p.port < old.config.limits.ports
      → IsSame (left_in old old.sent more) (in_front_of (Some p) (left_in next (old.sent + 1) less)) → OnOk result (new ≡ pushed p next) → OnOk result (IsSame (all_in old more) (all_in new less))
  after_ask p new (Err fault) unended sized below same is = tt
  after_ask p new (Ok done) unended sized below same is =
      subst (λ (w : Waiting). IsSame (all_in old more) (all_in w less)) (sym (is ∙ ap (pushed p) kept))
      (ask_same old next.bytes next.count more less unended p sized below (subst (λ (w : Waiting). IsSame (left_in old old.sent more) (in_front_of (Some p) (left_in w (old.sent + 1) less))) kept same))

module _ (old next : Waiting) (kept : IsKept old next) (sized : IsSized old) where
  pub on_nothing : IsReadOn old next
  on_nothing = subst (λ (w : Waiting). IsReadOn old w) (sym kept) (read_nothing old next.bytes next.count sized)

  pub on_end : IsReadOn old (record next { ended = true })
  on_end = subst (λ (w : Waiting). IsReadOn old (record w { ended = true })) (sym kept) (read_end old next.bytes next.count sized)

  pub on_ask : (p : Placed) (new : Waiting) (result : Result (Unit {0}) Fault) → OnOk result (new ≡ pushed p next) → OnErr result (new ≡ next) → IsSized new → IsReadOn old new
  on_ask p new (Ok done) is lost good =
      subst (λ (w : Waiting). IsReadOn old w) (sym is) (read_on old next (pushed p next) on_nothing (read_pushed next p (subst IsSized is good)))
  on_ask p new (Err fault) is lost good = subst (λ (w : Waiting). IsReadOn old w) (sym lost) on_nothing

-- ---- a request is taken, and others are put in their place

queue_there : (queues : Queues) (port : ℕ) → 0 < length (queue_at queues port) → port < length queues
queue_there queues port some = by_place (nat_lt port (length queues)) refl
  where
    by_place : (b : Bool) → nat_lt port (length queues) ≡ b → port < length queues
    by_place true e = ltb-true port (length queues) e
    by_place false e = absurd (omega (arith, some, ap (λ (q : List Ask). length q) (get_or_past queues port [] (ltb-false port (length queues) e))))

pub popped_sized : (w : Waiting) (port : ℕ) → IsSized w → 0 < length (queue_at w.queues port) → IsSized (popped port w)
popped_sized w port sized some =
    let waits : List Ask = queue_at w.queues port in
    let next : List Ask = drop 1 waits in
    record {
      queues = length-set w.queues port next ∙ sized.queues;
      asked = sized.asked;
      counted = omega (arith, sized.counted, some, length-drop 1 waits, sum_by-set length w.queues port next [] (queue_there w.queues port some));
      few = sized.few;
    }

pub put_sized : (w : Waiting) (queues : Queues) → IsSized w → map length queues ≡ map length w.queues → IsSized (record w { queues = queues })
put_sized w queues sized is = record {
  queues = sym (length-map queues length) ∙ ap (λ (ns : List ℕ). length ns) is ∙ length-map w.queues length ∙ sized.queues;
  asked = sized.asked;
  counted = omega (arith, sized.counted, ap sum is, sum-map length queues, sum-map length w.queues);
  few = sized.few;
}

-- ---- a line whose request isn't kept

fault_in_front : (asked : Option Placed) (rest : Option (Result Queues Fault)) → HaveSameFault (in_front_of asked rest) rest
fault_in_front asked None = tt
fault_in_front asked (Some (Ok queues)) = refl
fault_in_front asked (Some (Err fault)) = refl

module _ {A : Type 0} (a : Option (Result A Fault)) (old next : Waiting) (sent : ℕ) (more less : Option (List ℕ)) (kept : IsKept old next) (unended : old.ended ≡ false) where
  left_at : (w : Waiting) (n : ℕ) (known : Option (List ℕ)) → w.ended ≡ false → rest_in (record w { sent = n }) known ≡ left_in w n known
  left_at w n known is = ap (λ (b : Bool). cond b (Some (Ok (replicate w.config.limits.ports []))) (left_in w n known)) is

  next_unended : next.ended ≡ false
  next_unended = ap (λ (w : Waiting). w.ended) kept ∙ unended

  skipped_on : (n : ℕ) → HaveSameFault a (rest_in (record old { sent = sent }) more) → HaveSameFault (left_in old sent more) (left_in next n less)
      → HaveSameFault a (rest_in (record next { sent = n }) less)
  skipped_on n before same =
      subst (λ (x : Option (Result Queues Fault)). HaveSameFault a x) (sym (left_at next n less next_unended))
      (same_on (option_map fault_in a) (option_map fault_in (left_in old sent more)) (option_map fault_in (left_in next n less))
      (subst (λ (x : Option (Result Queues Fault)). HaveSameFault a x) (left_at old sent more unended) before) same)

  pub skipped_nothing : HaveSameFault a (rest_in (record old { sent = sent }) more) → IsSame (left_in old sent more) (left_in next sent less)
      → HaveSameFault a (rest_in (record next { sent = sent }) less)
  skipped_nothing before same = skipped_on sent before (same_mapped fault_in (left_in old sent more) (left_in next sent less) same)

  pub skipped_ask : (p : Placed) → HaveSameFault a (rest_in (record old { sent = sent }) more) → IsSame (left_in old sent more) (in_front_of (Some p) (left_in next (sent + 1) less))
      → HaveSameFault a (rest_in (record next { sent = sent + 1 }) less)
  skipped_ask p before same =
      let rest = left_in next (sent + 1) less in
      skipped_on (sent + 1) before
      (same_on (option_map fault_in (left_in old sent more)) (option_map fault_in (in_front_of (Some p) rest)) (option_map fault_in rest)
      (same_mapped fault_in (left_in old sent more) (in_front_of (Some p) rest) same) (fault_in_front (Some p) rest))

-- ---- no line is left

pub skipped_sound : (a : Option (Result All Fault)) (w : Waiting) (more : Option (List ℕ)) → w.ended ≡ true → HaveSameFault a (rest_in w more) → IfSome a (λ said. (all : All) × (said ≡ Ok all))
skipped_sound None w more ended same = tt
skipped_sound (Some (Ok all)) w more ended same = (all, refl)
skipped_sound (Some (Err fault)) w more ended same =
    let e = ap (λ (said : Option (Result Queues Fault)). option_map fault_in said) (ap (λ (b : Bool). cond b (Some (Ok (replicate w.config.limits.ports []))) (left_in w w.sent more)) ended) in
    absurd (cc)

-- ---- what holds anyway

pub on_err : {X E P : Type 0} (result : Result X E) → P → OnErr result P
on_err (Ok x) holds = tt
on_err (Err e) holds = holds
