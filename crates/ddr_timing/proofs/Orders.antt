-- The digits that words have, and how many words an order has.
use Rattle.std.proofs.Common.{map, codes, ◌⊎◌, ◌≡◌, ◌≢◌, ℕ, ◌+◌, ◌<◌, Bool, true, false, ◌&&◌, cond, List, [], ◌∷◌, ◌++◌, length, get_or, take, drop, zero, suc, Option, Some, None, option_map, refl, sym, ap, ◌∙◌, inl, inr, arith}
use Rattle.std.specs.Prelude.{IfSome, ◌==◌, find, if◌then◌else◌, option_and_then, count_by}
use Rattle.std.proofs.lemmas.Bool.{false≢true, cases_Bool, and_parts, eqb-true}
use Rattle.std.proofs.lemmas.Option.{cond_some, none-some, same_Some}
use Rattle.std.proofs.lemmas.List.{append-nil, get_or_append_left, length_push, take-append-drop, take_more}
use Rattle.std.proofs.lemmas.List.Sums.{sum_by-cons}
use Rattle.std.proofs.lemmas.List.Splits.{join_with_byte-slice_split, length-slice_split}
use Rattle.std.proofs.lemmas.Slice.Eq.{bytes_eq-Decides}
use Rattle.std.specs.List.{join_with_byte, onto_first}
use Rattle.std.specs.Str.{bytes_eq}
use Rattle.ddr_timing.specs.declared.geometry.Digit.{Digit}
use Rattle.ddr_timing.specs.declared.geometry.Digit.TheVariants.{Channel, Group, Bank, Column, Row, Rank}
use Rattle.ddr_timing.specs.Order.{digits as all_digits, same_digit, stands_once, each_once, digit_of, digits_of, words_of, order_of, text_of, whole_text, word_of}

-- one digit in front of more, if all are there
abbrev in_front : Option Digit → Option (List Digit) → Option (List Digit)
in_front first more = option_and_then (λ digit. option_map (λ digits. digit ∷ digits) more) first

record Parts (first : Option Digit) (more : Option (List Digit)) (all : List Digit) : Type 0 where
  head : Digit
  tail : List Digit
  first_is : first ≡ Some head
  more_is : more ≡ Some tail
  joined : all ≡ head ∷ tail

parts_of : (first : Option Digit) (more : Option (List Digit)) (all : List Digit) → in_front first more ≡ Some all → Parts first more all
parts_of None more all e = absurd (none-some all e)
parts_of (Some head) None all e = absurd (none-some all e)
parts_of (Some head) (Some tail) all e =
    record { head = head; tail = tail; first_is = refl; more_is = refl; joined = sym (same_Some _ _ e) }

-- the digits of words, where one more word follows
digits_of-push : (words : List (List ℕ)) (word : List ℕ) (digits : List Digit) (digit : Digit) → digits_of words ≡ Some digits → digit_of word ≡ Some digit → digits_of (words ++ word ∷ []) ≡ Some (digits ++ digit ∷ [])
digits_of-push [] word digits digit e f = rw (f, ← same_Some [] digits e) refl
digits_of-push (first ∷ words) word digits digit e f =
    let p = parts_of (digit_of first) (digits_of words) digits e in
    rw (p.first_is, digits_of-push words word p.tail digit p.more_is f)
    (ap (λ all. Some (all ++ digit ∷ [])) (sym p.joined))

-- the digits of the words up to a place, and of the word at it
pub digits_of-more : (words : List (List ℕ)) (i : ℕ) (word : List ℕ) (digits : List Digit) (digit : Digit) → i < length words → word ≡ get_or words i word → digits_of (take i words) ≡ Some digits → digit_of word ≡ Some digit → digits_of (take (i + 1) words) ≡ Some (digits ++ digit ∷ [])
digits_of-more words i word digits digit within here e f =
    rw (take_more words i word within, ← here) (digits_of-push (take i words) word digits digit e f)

in_front-none : (first : Option Digit) → in_front first None ≡ None
in_front-none None = refl
in_front-none (Some digit) = refl

-- a word that is none of a digit
digits_of-stop : (words : List (List ℕ)) (i : ℕ) (word : List ℕ) → i < length words → word ≡ get_or words i word → digit_of word ≡ None → digits_of words ≡ None
digits_of-stop [] i word within here e = absurd (omega arith)
digits_of-stop (first ∷ words) zero word within here e = rw (← here, e) refl
digits_of-stop (first ∷ words) (suc i) word within here e = rw (digits_of-stop words i word (omega arith) here e) (in_front-none (digit_of first))

length-digits_of : (words : List (List ℕ)) (digits : List Digit) → digits_of words ≡ Some digits → length digits ≡ length words
length-digits_of [] digits e = rw (← same_Some [] digits e) refl
length-digits_of (first ∷ words) digits e =
    let p = parts_of (digit_of first) (digits_of words) digits e in
    rw p.joined (omega (arith, length-digits_of words p.tail p.more_is))

-- how often a digit stands in the digits
abbrev times : Digit → List Digit → ℕ
times digit digits = count_by (same_digit digit) digits

times-cons : (digit first : Digit) (digits : List Digit) → times digit (first ∷ digits) ≡ cond (same_digit digit first) 1 0 + times digit digits
times-cons digit first digits = sum_by-cons _ first digits

-- whether the first is the second
abbrev is_the : Digit → Digit → ℕ
is_the digit first = cond (same_digit digit first) 1 0

one_of_six : (digit : Digit) → is_the Channel digit + is_the Group digit + is_the Bank digit + is_the Column digit + is_the Row digit + is_the Rank digit ≡ 1
one_of_six Channel = refl
one_of_six Group = refl
one_of_six Bank = refl
one_of_six Column = refl
one_of_six Row = refl
one_of_six Rank = refl

length-by_digit : (digits : List Digit) → length digits ≡ times Channel digits + times Group digits + times Bank digits + times Column digits + times Row digits + times Rank digits
length-by_digit [] = refl
length-by_digit (first ∷ digits) =
    omega (arith, length-by_digit digits, one_of_six first, times-cons Channel first digits, times-cons Group first digits, times-cons Bank first digits, times-cons Column first digits, times-cons Row first digits, times-cons Rank first digits)

length-each_once : (digits : List Digit) → each_once digits ≡ true → length digits ≡ 6
length-each_once digits e =
    let once : Digit → Bool = λ digit. stands_once digits digit in
    let (five, rank) = and_parts (once Channel && once Group && once Bank && once Column && once Row) (once Rank) e in
    let (four, row) = and_parts (once Channel && once Group && once Bank && once Column) (once Row) five in
    let (three, column) = and_parts (once Channel && once Group && once Bank) (once Column) four in
    let (two, bank) = and_parts (once Channel && once Group) (once Bank) three in
    let (channel, group) = and_parts (once Channel) (once Group) two in
    let is_one = λ (digit : Digit) (h : once digit ≡ true). eqb-true (times digit digits) 1 h in
    omega (arith, length-by_digit digits, is_one Channel channel, is_one Group group, is_one Bank bank, is_one Column column, is_one Row row, is_one Rank rank)

-- the order of a text whose words are the words of digits
pub order_of-digits : (text : List ℕ) (digits : List Digit) → digits_of (words_of text) ≡ Some digits → order_of text ≡ cond (each_once digits) (Some digits) None
unfolding order_of
order_of-digits text digits e = rw e refl

order_of-stop : (text : List ℕ) → digits_of (words_of text) ≡ None → order_of text ≡ None
unfolding order_of
order_of-stop text e = rw e refl

unless_each_once : (digits : List Digit) → length digits ≢ 6 → cond (each_once digits) (Some digits) None ≡ None
unless_each_once digits other =
    elim (cases_Bool (each_once digits)) [
      | inl once ↦ absurd (other (length-each_once digits once))
      | inr e ↦ rw e refl
    ]

by_digits : (text : List ℕ) (read : Option (List Digit)) → digits_of (words_of text) ≡ read → length (words_of text) ≢ 6 → order_of text ≡ None
by_digits text None e other = order_of-stop text e
by_digits text (Some digits) e other =
    order_of-digits text digits e ∙ unless_each_once digits (λ six. other (sym (length-digits_of (words_of text) digits e) ∙ six))

-- a text that has a word too many or too few
pub order_of-length : (text : List ℕ) → length (words_of text) ≢ 6 → order_of text ≡ None
order_of-length text other = by_digits text (digits_of (words_of text)) refl other

-- a text with a word that no digit has
pub order_of-unknown : (text : List ℕ) (i : ℕ) (word : List ℕ) → i < length (words_of text) → word ≡ get_or (words_of text) i word → digit_of word ≡ None → order_of text ≡ None
order_of-unknown text i word within here e = order_of-stop text (digits_of-stop (words_of text) i word within here e)

kept-once : (read : Option (List Digit)) (order : List Digit) → option_and_then (λ digits. if each_once digits then Some digits else None) read ≡ Some order → each_once order ≡ true
kept-once None order e = absurd (none-some order e)
kept-once (Some digits) order e =
    let (once, same) = cond_some (each_once digits) digits order e in
    rw (← same) once

-- an order that a text lists has each digit once
pub order_of-once : (text : List ℕ) (order : List Digit) → order_of text ≡ Some order → each_once order ≡ true
unfolding order_of
order_of-once text order e = kept-once (digits_of (words_of text)) order e

chosen : (passed : Bool) (first digit : Digit) (rest : Option Digit) → cond passed (Some first) rest ≡ Some digit → ((passed ≡ true) × (first ≡ digit)) ⊎ (rest ≡ Some digit)
chosen true first digit rest e = inl (refl, same_Some first digit e)
chosen false first digit rest e = inr e

find-passes : (test : Digit → Bool) (digits : List Digit) (digit : Digit) → find test digits ≡ Some digit → test digit ≡ true
find-passes test [] digit e = absurd (none-some digit e)
find-passes test (first ∷ digits) digit e =
    elim (chosen (test first) first digit (find test digits) e) [
      | inl here ↦ rw (← here.1) here.0
      | inr more ↦ find-passes test digits digit more
    ]

word_of-digit : (word : List ℕ) (digit : Digit) → digit_of word ≡ Some digit → word ≡ word_of digit
unfolding digit_of
word_of-digit word digit e =
    (bytes_eq-Decides word (word_of digit)).0 (find-passes (λ other. bytes_eq word (word_of other)) all_digits digit e)

map-digits_of : (words : List (List ℕ)) (digits : List Digit) → digits_of words ≡ Some digits → words ≡ map word_of digits
map-digits_of [] digits e = rw (← same_Some [] digits e) refl
map-digits_of (word ∷ words) digits e =
    let p = parts_of (digit_of word) (digits_of words) digits e in
    ap (λ first. first ∷ words) (word_of-digit word p.head p.first_is)
    ∙ ap (λ more. word_of p.head ∷ more) (map-digits_of words p.tail p.more_is)
    ∙ ap (map word_of) (sym p.joined)

all_kept : (read : Option (List Digit)) (order : List Digit) → option_and_then (λ digits. if each_once digits then Some digits else None) read ≡ Some order → read ≡ Some order
all_kept None order e = absurd (none-some order e)
all_kept (Some digits) order e = ap Some (cond_some (each_once digits) digits order e).1

-- an order that a text lists has that text
pub text_of-order_of : (text : List ℕ) (order : List Digit) → order_of text ≡ Some order → text ≡ text_of order
unfolding order_of
text_of-order_of text order e =
    sym (join_with_byte-slice_split 32 text)
    ∙ ap (join_with_byte 32) (map-digits_of (words_of text) order (all_kept (digits_of (words_of text)) order e))

digit_of-word : (digit : Digit) → digit_of (word_of digit) ≡ Some digit
unfolding digit_of
digit_of-word Channel = refl
digit_of-word Group = refl
digit_of-word Bank = refl
digit_of-word Column = refl
digit_of-word Row = refl
digit_of-word Rank = refl

digits_of-map : (digits : List Digit) → digits_of (map word_of digits) ≡ Some digits
digits_of-map [] = refl
digits_of-map (digit ∷ digits) = rw (digit_of-word digit, digits_of-map digits) refl

words_of-word : (digit : Digit) → words_of (word_of digit) ≡ word_of digit ∷ []
words_of-word Channel = refl
words_of-word Group = refl
words_of-word Bank = refl
words_of-word Column = refl
words_of-word Row = refl
words_of-word Rank = refl

words_of-more : (digit : Digit) (text : List ℕ) → words_of (word_of digit ++ (32 ∷ text)) ≡ word_of digit ∷ words_of text
words_of-more Channel text = refl
words_of-more Group text = refl
words_of-more Bank text = refl
words_of-more Column text = refl
words_of-more Row text = refl
words_of-more Rank text = refl

words_of-text : (first : Digit) (digits : List Digit) → words_of (text_of (first ∷ digits)) ≡ map word_of (first ∷ digits)
words_of-text first [] = words_of-word first
words_of-text first (second ∷ digits) =
    words_of-more first (text_of (second ∷ digits)) ∙ ap (λ words. word_of first ∷ words) (words_of-text second digits)

-- the text of an order lists it
order_of-text : (order : List Digit) → each_once order ≡ true → order_of (text_of order) ≡ Some order
order_of-text [] once = absurd (false≢true once)
order_of-text (first ∷ digits) once =
    order_of-digits (text_of (first ∷ digits)) (first ∷ digits)
    (ap digits_of (words_of-text first digits) ∙ digits_of-map (first ∷ digits))
    ∙ rw once refl

-- what `order` answers lists the text, and an order that has the text is answered
pub listed-from_value : (text : List ℕ) (read : Option (List Digit)) → read ≡ order_of text → IfSome read (λ order. text ≡ text_of order)
listed-from_value text None e = tt
listed-from_value text (Some order) e = text_of-order_of text order (sym e)

pub only-from_value : (text : List ℕ) (read : Option (List Digit)) → read ≡ order_of text → (order : List Digit) → each_once order ≡ true → text ≡ text_of order → read ≡ Some order
only-from_value text read e order once same = e ∙ ap order_of same ∙ order_of-text order once

onto_front : (byte : ℕ) (words more : List (List ℕ)) → 0 < length words → onto_first byte (words ++ more) ≡ onto_first byte words ++ more
onto_front byte [] more some = absurd (omega arith)
onto_front byte (first ∷ words) more some = refl

words_of-append : (text more : List ℕ) → words_of (text ++ (32 ∷ more)) ≡ words_of text ++ words_of more
words_of-append [] more = refl
words_of-append (byte ∷ text) more =
    rw (words_of-append text more) (by_test (byte == 32))
  where
    by_test : (b : Bool) → cond b ([] ∷ words_of text ++ words_of more) (onto_first byte (words_of text ++ words_of more)) ≡ cond b ([] ∷ words_of text) (onto_first byte (words_of text)) ++ words_of more
    by_test true = refl
    by_test false = onto_front byte (words_of text) (words_of more) (omega (arith, length-slice_split (λ other. other == 32) text))

-- the whole text has the rank behind the words of a text of version 1
with_rank : (text : List ℕ) → words_of (text ++ codes " rank") ≡ words_of text ++ word_of Rank ∷ []
with_rank text = words_of-append text (word_of Rank)

-- a text of a version that has a word too many or too few
by_count : (is_second : Bool) (text : List ℕ) → length (words_of text) ≢ cond is_second 6 5 → order_of (cond is_second text (text ++ codes " rank")) ≡ None
by_count true text other = order_of-length text other
by_count false text other =
    order_of-length (text ++ codes " rank")
    (λ six. other (omega (arith, six, ap length (with_rank text), length_push (words_of text) (word_of Rank))))

pub order_of-count : (version : ℕ) (text : List ℕ) → length (words_of text) ≢ cond (version == 2) 6 5 → order_of (whole_text version text) ≡ None
order_of-count version text other = by_count (version == 2) text other

-- one with a word that no digit has
by_unknown : (is_second : Bool) (text : List ℕ) (i : ℕ) (word : List ℕ) → i < length (words_of text) → word ≡ get_or (words_of text) i word → digit_of word ≡ None → order_of (cond is_second text (text ++ codes " rank")) ≡ None
by_unknown true text i word within here e = order_of-unknown text i word within here e
by_unknown false text i word within here e =
    order_of-unknown (text ++ codes " rank") i word
    (omega (arith, within, ap length (with_rank text), length_push (words_of text) (word_of Rank)))
    (here ∙ sym (get_or_append_left (words_of text) (word_of Rank ∷ []) word i within) ∙ ap (λ words. get_or words i word) (sym (with_rank text)))
    e

pub order_of-stranger : (version : ℕ) (text : List ℕ) (i : ℕ) (word : List ℕ) → i < length (words_of text) → word ≡ get_or (words_of text) i word → digit_of word ≡ None → order_of (whole_text version text) ≡ None
order_of-stranger version text i word within here e = by_unknown (version == 2) text i word within here e

-- one whose words are the words of digits: what is left of the order is the rank
abbrev pub ranks : List Digit
ranks = Rank ∷ Rank ∷ Rank ∷ Rank ∷ Rank ∷ Rank ∷ []

by_digits_read : (is_second : Bool) (text : List ℕ) (order : List Digit) → digits_of (words_of text) ≡ Some (take (cond is_second 6 5) order) → drop (cond is_second 6 5) order ≡ drop (cond is_second 6 5) ranks → digits_of (words_of (cond is_second text (text ++ codes " rank"))) ≡ Some order
by_digits_read true text order read left = read ∙ ap Some (sym (append-nil _) ∙ ap (λ more. take 6 order ++ more) (sym left) ∙ take-append-drop 6 order)
by_digits_read false text order read left =
    ap digits_of (with_rank text)
    ∙ digits_of-push (words_of text) (word_of Rank) (take 5 order) Rank read (digit_of-word Rank)
    ∙ ap Some (ap (λ more. take 5 order ++ more) (sym left) ∙ take-append-drop 5 order)

pub digits_of-whole : (version words : ℕ) (text : List ℕ) (order : List Digit) → words ≡ cond (version == 2) 6 5 → digits_of (words_of text) ≡ Some (take words order) → drop words order ≡ drop words ranks → digits_of (words_of (whole_text version text)) ≡ Some order
digits_of-whole version words text order is read left = by_digits_read (version == 2) text order (rw is at read) (rw is at left)
