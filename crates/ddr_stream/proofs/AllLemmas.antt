-- What is known of all requests while a stream is read.
use Rattle.std.proofs.Common.{◌≡◌, ℕ, zero, suc, ◌+◌, ◌<◌, ◌≤◌, Bool, true, cond, List, [], ◌∷◌, ◌++◌, length, map, drop, get_or, set, replicate, Option, Some, None, IfSome, Result, Ok, Err, IfOk, inl, inr, refl, sym, ap, ap₂, subst, ◌∙◌, arith, length-append}
use Rattle.std.specs.Io.KnownBytes.{prepend_known}
use Rattle.std.specs.List.{slice_get, sum_by}
use Rattle.std.specs.Option.{option_map}
use Rattle.std.specs.Str.Lines.{lines}
use Rattle.std.proofs.lemmas.List.{append-nil, get_or-replicate, length-replicate, length-set}
use Rattle.std.proofs.lemmas.List.Sums.{sum_by-cons}
use Rattle.ddr_timing.specs.declared.config.Config.{Config}
use Rattle.ddr_timing.specs.declared.geometry.Geometry.{Geometry}
use Rattle.ddr_text.specs.declared.command.Reading.{Reading}
use Rattle.ddr_text.specs.declared.fault.Fault.{Fault}
use Rattle.ddr_text.specs.Instructions.{◌>>>◌}
use Rattle.ddr_stream.specs.declared.ask.Ask.{Ask}
use Rattle.ddr_stream.specs.declared.placing.Placed.{Placed}
use Rattle.ddr_stream.specs.declared.requests.Requests.{Requests}
use Rattle.ddr_stream.specs.Requests.{no_requests, requests_in, with_requests}
use Rattle.ddr_stream.specs.Stream.{Queues, asks_in, in_front, of_line, queue_at, queues_of, rest_of}
use Rattle.ddr_stream.specs.Waiting.{All, IsSized, Knows, Waiting, all_in, begun, beside, dropped, popped, rest_in, with_rest}

-- ---- one list beside another

beside-nil : {A B : Type 0} (f : A → B → A) (own : List A) → beside f own [] ≡ own
beside-nil f [] = refl
beside-nil f (a ∷ own) = refl

pub length-beside : {A B : Type 0} (f : A → B → A) (own : List A) (others : List B) → length (beside f own others) ≡ length own
length-beside f [] others = refl
length-beside f (a ∷ own) [] = refl
length-beside f (a ∷ own) (b ∷ others) = ap suc (length-beside f own others)

-- nothing stands beside them
beside-none : {A B : Type 0} (f : A → B → A) (none : B) → ((a : A) → f a none ≡ a) → (own : List A) (n : ℕ) → beside f own (replicate n none) ≡ own
beside-none f none is [] n = refl
beside-none f none is (a ∷ own) zero = refl
beside-none f none is (a ∷ own) (suc n) = ap₂ (λ x xs. x ∷ xs) (is a) (beside-none f none is own n)

-- they stand beside nothing
none-beside : {A B : Type 0} (f : A → B → A) (g : B → A) (none : A) → ((b : B) → f none b ≡ g b) → (others : List B) → beside f (replicate (length others) none) others ≡ map g others
none-beside f g none is [] = refl
none-beside f g none is (b ∷ others) = ap₂ (λ x xs. x ∷ xs) (is b) (none-beside f g none is others)

map-same : {A : Type 0} (own : List A) → map (λ (a : A). a) own ≡ own
map-same [] = refl
map-same (a ∷ own) = ap (λ xs. a ∷ xs) (map-same own)

abbrev joined : {X : Type 0} → List X → List X → List X
joined xs ys = xs ++ ys

at-beside : {X : Type 0} (own others : List (List X)) (p : ℕ) → p < length own → get_or (beside joined own others) p [] ≡ get_or own p [] ++ get_or others p []
at-beside [] others p below = absurd (omega (arith, below))
at-beside (a ∷ own) [] zero below = sym (append-nil a)
at-beside (a ∷ own) [] (suc p) below = sym (append-nil (get_or own p []))
at-beside (a ∷ own) (b ∷ others) zero below = refl
at-beside (a ∷ own) (b ∷ others) (suc p) below = at-beside own others p (omega (arith, below))

-- another element on either side
pub beside-set : {A B : Type 0} (f : A → B → A) (own : List A) (others : List B) (p : ℕ) (x : A) (y : B) (d : A) (e : B) → p < length own → p < length others
    → f (get_or own p d) y ≡ f x (get_or others p e) → beside f own (set others p y) ≡ beside f (set own p x) others
beside-set f [] others p x y d e inside within is = absurd (omega (arith, inside))
beside-set f (a ∷ own) [] p x y d e inside within is = absurd (omega (arith, within))
beside-set f (a ∷ own) (b ∷ others) zero x y d e inside within is = ap (λ z. z ∷ beside f own others) is
beside-set f (a ∷ own) (b ∷ others) (suc p) x y d e inside within is =
    ap (λ zs. f a b ∷ zs) (beside-set f own others p x y d e (omega (arith, inside)) (omega (arith, within)) is)

-- the first is taken of those in front
drop-beside : {X : Type 0} (own others : List (List X)) (p : ℕ) → 0 < length (get_or own p [])
    → beside joined (set own p (drop 1 (get_or own p []))) others ≡ set (beside joined own others) p (drop 1 (get_or (beside joined own others) p []))
drop-beside [] others p some = absurd (omega (arith, some))
drop-beside (a ∷ own) [] p some = beside-nil joined (set (a ∷ own) p (drop 1 (get_or (a ∷ own) p [])))
drop-beside ([] ∷ own) (b ∷ others) zero some = absurd (omega (arith, some))
drop-beside ((x ∷ xs) ∷ own) (b ∷ others) zero some = refl
drop-beside (a ∷ own) (b ∷ others) (suc p) some = ap (λ zs. (a ++ b) ∷ zs) (drop-beside own others p some)

sum-beside : {X : Type 0} (own others : List (List X)) → sum_by length own ≤ sum_by length (beside joined own others)
sum-beside [] others = omega arith
sum-beside (a ∷ own) [] = omega arith
sum-beside (a ∷ own) (b ∷ others) =
    omega (arith, sum_by-cons length a own, sum_by-cons length (a ++ b) (beside joined own others), length-append a b, sum-beside own others)

front_kept : {X : Type 0} (xs ys : List X) → 0 < length xs → slice_get (xs ++ ys) 0 ≡ slice_get xs 0
front_kept [] ys some = absurd (omega (arith, some))
front_kept (x ∷ xs) ys some = refl

-- ---- what is left of the lines

-- there is a queue of each port
module _ (geometry : Geometry) (reading : Reading) (ports : ℕ) where
  front_sized : (p : Option Placed) (said : Result Queues Fault) → IfOk said (λ queues. length queues ≡ ports) → IfOk (said >>> λ queues. Ok (in_front p queues)) (λ queues. length queues ≡ ports)
  front_sized p (Err fault) sized = tt
  front_sized None (Ok queues) sized = sized
  front_sized (Some p) (Ok queues) sized = length-set queues p.port (p.ask ∷ queue_at queues p.port) ∙ sized

  pub rest_sized : (count sent : ℕ) (texts : List (List ℕ)) → IfOk (rest_of geometry reading ports count sent texts) (λ queues. length queues ≡ ports)
  rest_sized count sent [] = length-replicate ports []
  rest_sized count sent (text ∷ more) = by_line (of_line geometry reading ports (count + 1) sent text) (λ p. rest_sized (count + 1) (sent + asks_in p) more)
    where
      by_line : (asked : Result (Option Placed) Fault) → ((p : Option Placed) → IfOk (rest_of geometry reading ports (count + 1) (sent + asks_in p) more) (λ queues. length queues ≡ ports)) → IfOk (asked >>> λ p. rest_of geometry reading ports (count + 1) (sent + asks_in p) more >>> λ queues. Ok (in_front p queues)) (λ queues. length queues ≡ ports)
      by_line (Err fault) sized = tt
      by_line (Ok p) sized = front_sized p (rest_of geometry reading ports (count + 1) (sent + asks_in p) more) (sized p)

  pub left_sized : (count sent : ℕ) (known : Option (List ℕ)) → IfSome (option_map (λ text. rest_of geometry reading ports count sent (lines text)) known) (λ said. IfOk said (λ queues. length queues ≡ ports))
  left_sized count sent None = tt
  left_sized count sent (Some text) = rest_sized count sent (lines text)

-- what those have that are known
sized_at : (ports : ℕ) (said : Option (Result Queues Fault)) (rest : Queues) → said ≡ Some (Ok rest) → IfSome said (λ r. IfOk r (λ queues. length queues ≡ ports)) → length rest ≡ ports
sized_at ports said rest is sized = subst (λ (s : Option (Result Queues Fault)). IfSome s (λ r. IfOk r (λ queues. length queues ≡ ports))) is sized

-- ---- all requests

record IsAll (w : Waiting) (more : Option (List ℕ)) (all : All) : Type 0 where
  rest : Queues
  is : rest_in w more ≡ Some (Ok rest)
  whole : all ≡ with_rest w rest

all_cut : (w : Waiting) (more : Option (List ℕ)) (all : All) → all_in w more ≡ Some (Ok all) → IsAll w more all
all_cut w more all is = by_rest (rest_in w more) refl is
  where
    by_rest : (said : Option (Result Queues Fault)) → rest_in w more ≡ said → option_map (λ (r : Result Queues Fault). r >>> λ rest. Ok (with_rest w rest)) said ≡ Some (Ok all) → IsAll w more all
    by_rest None e said_is = absurd (cc)
    by_rest (Some (Err fault)) e said_is = absurd (cc)
    by_rest (Some (Ok rest)) e said_is = record { rest = rest; is = e; whole = cc }

all_made : (w : Waiting) (more : Option (List ℕ)) (rest : Queues) → rest_in w more ≡ Some (Ok rest) → all_in w more ≡ Some (Ok (with_rest w rest))
all_made w more rest is = ap (λ (said : Option (Result Queues Fault)). option_map (λ r. r >>> λ queues. Ok (with_rest w queues)) said) is

rest_ended : (w : Waiting) (more : Option (List ℕ)) → w.ended ≡ true → rest_in w more ≡ Some (Ok (replicate w.config.limits.ports []))
rest_ended w more ended =
    ap (λ (b : Bool). cond b (Some (Ok (replicate w.config.limits.ports []))) (option_map (λ text. rest_of w.config.geometry w.reading w.config.limits.ports w.count w.sent (lines text)) (prepend_known w.bytes more))) ended

-- none is behind what waits
none_behind : (w : Waiting) (more : Option (List ℕ)) (rest : Queues) → w.ended ≡ true → rest_in w more ≡ Some (Ok rest) → rest ≡ replicate w.config.limits.ports []
none_behind w more rest ended is = let e = rest_ended w more ended in cc

ended_first : (ports p : ℕ) (waits rest : List (List Ask)) → p < ports → length waits ≡ ports → rest ≡ replicate ports [] → slice_get (get_or (beside joined waits rest) p []) 0 ≡ slice_get (get_or waits p []) 0
ended_first ports p waits rest below sized none =
    let behind : get_or rest p [] ≡ [] = ap (λ (xs : List (List Ask)). get_or xs p []) none ∙ get_or-replicate ports p [] [] below in
    ap (λ (xs : List Ask). slice_get xs 0) (at-beside waits rest p (omega (arith, below, sized)) ∙ ap (λ ys. get_or waits p [] ++ ys) behind ∙ append-nil (get_or waits p []))

pub all_first : (w : Waiting) (more : Option (List ℕ)) (all : All) (p : ℕ) → IsSized w → p < w.config.limits.ports → Knows w p → all_in w more ≡ Some (Ok all) → slice_get (queue_at all.queues p) 0 ≡ slice_get (queue_at w.queues p) 0
all_first w more all p sized below knows is = ap (λ (x : All). slice_get (queue_at x.queues p) 0) cut.whole ∙ by_known knows
  where
    cut : IsAll w more all
    cut = all_cut w more all is

    by_known : Knows w p → slice_get (queue_at (with_rest w cut.rest).queues p) 0 ≡ slice_get (queue_at w.queues p) 0
    by_known (inl some) =
        ap (λ (xs : List Ask). slice_get xs 0) (at-beside w.queues cut.rest p (omega (arith, below, sized.queues)))
        ∙ front_kept (queue_at w.queues p) (queue_at cut.rest p) some
    by_known (inr ended) = ended_first w.config.limits.ports p w.queues cut.rest below sized.queues (none_behind w more cut.rest ended cut.is)

popped_rest : (w : Waiting) (p : ℕ) (rest : Queues) → 0 < length (queue_at w.queues p) → with_rest (popped p w) rest ≡ dropped p (with_rest w rest)
popped_rest w p rest some = ap (λ (queues : Queues). record { queues = queues; requests = beside with_requests w.asked rest }) (drop-beside w.queues rest p some)

pub all_popped : (w : Waiting) (more : Option (List ℕ)) (all : All) (p : ℕ) → IsSized w → 0 < length (queue_at w.queues p) → all_in w more ≡ Some (Ok all) → all_in (popped p w) more ≡ Some (Ok (dropped p all))
all_popped w more all p sized some is =
    let cut = all_cut w more all is in
    all_made (popped p w) more cut.rest cut.is ∙ ap (λ (x : All). Some (Ok x)) (popped_rest w p cut.rest some ∙ ap (dropped p) (sym cut.whole))

pub all_popped_fault : (w : Waiting) (more : Option (List ℕ)) (fault : Fault) (p : ℕ) → all_in w more ≡ Some (Err fault) → all_in (popped p w) more ≡ Some (Err fault)
all_popped_fault w more fault p is = by_rest (rest_in w more) is
  where
    by_rest : (said : Option (Result Queues Fault)) → option_map (λ (r : Result Queues Fault). r >>> λ rest. Ok (with_rest w rest)) said ≡ Some (Err fault) → option_map (λ (r : Result Queues Fault). r >>> λ rest. Ok (with_rest (popped p w) rest)) said ≡ Some (Err fault)
    by_rest None said_is = absurd (cc)
    by_rest (Some (Err other)) said_is = said_is
    by_rest (Some (Ok rest)) said_is = absurd (cc)

pub all_ended : (w : Waiting) (more : Option (List ℕ)) → IsSized w → w.ended ≡ true → all_in w more ≡ Some (Ok (record { queues = w.queues; requests = w.asked }))
all_ended w more sized ended =
    let none : Queues = replicate w.config.limits.ports [] in
    let queues : beside joined w.queues none ≡ w.queues = beside-none joined [] (λ a. append-nil a) w.queues w.config.limits.ports in
    let asked : beside with_requests w.asked none ≡ w.asked = beside-none with_requests [] (λ a. refl) w.asked w.config.limits.ports in
    all_made w more none (rest_ended w more ended) ∙ ap₂ (λ (qs : Queues) (rs : List Requests). Some (Ok (record { queues = qs; requests = rs }))) queues asked

begun_rest : (config : Config) (reading : Reading) (bytes : List ℕ) (rest : Queues) → length rest ≡ config.limits.ports → with_rest (begun config reading bytes) rest ≡ record { queues = rest; requests = map requests_in rest }
begun_rest config reading bytes rest sized =
    let queues : beside joined (replicate config.limits.ports []) rest ≡ rest =
    subst (λ (n : ℕ). beside joined (replicate n []) rest ≡ rest) sized (none-beside joined (λ (q : List Ask). q) [] (λ b. refl) rest ∙ map-same rest) in
    let asked : beside with_requests (replicate config.limits.ports no_requests) rest ≡ map requests_in rest =
    subst (λ (n : ℕ). beside with_requests (replicate n no_requests) rest ≡ map requests_in rest) sized (none-beside with_requests requests_in no_requests (λ b. refl) rest) in
    ap₂ (λ (qs : Queues) (rs : List Requests). record { queues = qs; requests = rs }) queues asked

pub all_begun : (config : Config) (reading : Reading) (bytes : List ℕ) (more : Option (List ℕ)) (text : List ℕ) → prepend_known bytes more ≡ Some text → all_in (begun config reading bytes) more ≡ Some (queues_of config reading text >>> λ qs. Ok (record { queues = qs; requests = map requests_in qs }))
unfolding queues_of
all_begun config reading bytes more text is =
    ap (λ (known : Option (List ℕ)). option_map (λ (r : Result Queues Fault). r >>> λ rest. Ok (with_rest (begun config reading bytes) rest)) (option_map (λ t. rest_of config.geometry reading config.limits.ports 0 0 (lines t)) known)) is
    ∙ ap Some (by_rest (rest_of config.geometry reading config.limits.ports 0 0 (lines text)) (rest_sized config.geometry reading config.limits.ports 0 0 (lines text)))
  where
    by_rest : (said : Result Queues Fault) → IfOk said (λ queues. length queues ≡ config.limits.ports) → (said >>> λ rest. Ok (with_rest (begun config reading bytes) rest)) ≡ (said >>> λ qs. Ok (record { queues = qs; requests = map requests_in qs }))
    by_rest (Err fault) sized = refl
    by_rest (Ok rest) sized = ap Ok (begun_rest config reading bytes rest sized)

pub all_sized : (w : Waiting) (more : Option (List ℕ)) (all : All) → IsSized w → all_in w more ≡ Some (Ok all) → length all.queues ≡ w.config.limits.ports
all_sized w more all sized is =
    let cut = all_cut w more all is in
    ap (λ (x : All). length x.queues) cut.whole ∙ length-beside joined w.queues cut.rest ∙ sized.queues

pub all_least : (w : Waiting) (more : Option (List ℕ)) (all : All) → all_in w more ≡ Some (Ok all) → sum_by length w.queues ≤ sum_by length all.queues
all_least w more all is =
    let cut = all_cut w more all is in
    subst (λ (x : All). sum_by length w.queues ≤ sum_by length x.queues) (sym cut.whole) (sum-beside w.queues cut.rest)
