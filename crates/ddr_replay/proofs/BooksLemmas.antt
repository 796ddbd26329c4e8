-- What is noted of the channels' parts of a round: how each request found its bank that was read or written in it.
use Rattle.std.proofs.Common.{◌≡◌, ◌≢◌, ◌<◌, ◌≤◌, ◌+◌, ℕ, zero, suc, Bool, true, false, if◌then◌else◌, List, [], ◌∷◌, ◌++◌, All, Option, Some, None, IsTrue, append_assoc, append-nil, get_or, length, refl, sym, ap, subst, ◌∙◌, inl, inr, arith}
use Rattle.std.specs.Prelude.{◌⊎◌, ◌-◌, ◌==◌, Result, Ok, Err}
use Rattle.std.specs.List.{fold, slice_get, slice_set}
use Rattle.std.specs.Option.{option_map, option_map_or}
use Rattle.std.proofs.lemmas.Bool.Decides.{eqb_tells, nat_tests}
use Rattle.std.proofs.lemmas.List.{length-append}
use Rattle.std.proofs.lemmas.List.Sums.{fold-append}
use Rattle.std.proofs.lemmas.Option.{slice_get-map}
use Rattle.ddr_timing.specs.declared.config.Config.{Config}
use Rattle.ddr_timing.specs.declared.units.TheConstants.{CLOCK_STOP}
use Rattle.ddr_trace.specs.declared.command.Command.{Command}
use Rattle.ddr_trace.specs.declared.command.Entry.{Entry}
use Rattle.ddr_trace.specs.Rules.{is_in}
use Rattle.ddr_channel.specs.declared.issued.Issued.{Issued}
use Rattle.ddr_channel.specs.declared.issued.Served as issued
use Rattle.ddr_channel.specs.Told.{issued_in}
use Rattle.ddr_counting.specs.Noting as counting
use Rattle.ddr_counting.specs.Noting.{AreNoted, finding_at}
use Rattle.ddr_counting.proofs.FindingLemmas as counted
use Rattle.ddr_counting.proofs.LegalLemmas.{all_placed, few_commands}
use Rattle.ddr_rounds.specs.declared.told.Told.{Told}
use Rattle.ddr_rounds.specs.declared.told.Told.TheVariants as tell
use Rattle.ddr_rounds.specs.Rounds.{channels_served, until_refused}
use Rattle.ddr_rounds.specs.Telling.{IsHeard, channel_told, channels_told, entries_told, entry_told, issue_told, release_told}
use Rattle.ddr_rounds.proofs.TraceLemmas.{entries_append}
use Rattle.ddr_statistics.specs.declared.counts.Finding.{Finding}
use Rattle.ddr_statistics.specs.Tally.{Tally}
use Rattle.ddr_statistics.specs.Visits.{finding}
use Rattle.ddr_world.specs.declared.event.Outcome.{Outcome}
use Rattle.ddr_world.specs.declared.event.Outcome.TheVariants as outcome
use Rattle.ddr_world.specs.declared.event.Refusal.{Refusal}
use Rattle.ddr_world.specs.Events.{Take}
use Rattle.ddr_world.specs.Kept.{Kept, KeptSide, side_of, state_of}
use Rattle.ddr_world.specs.Promise.{trace_at}
use Rattle.ddr_world.specs.State.{ChannelSide, State}
use Rattle.ddr_replay.specs.declared.books.Books.{Books}
use Rattle.ddr_replay.specs.Books.{all_found, found_told, heard, newest_of}
use Rattle.ddr_replay.specs.Laws.{IsLegalAt}
use Rattle.ddr_ledger.specs.Ledgers.{Ledger, found_at, times_at, with_column, with_command, with_found}
use Rattle.ddr_ledger.specs.Times.{count_of}

-- ---- the statistics are those that a watcher of their own would have

one_noted : (books : Books) (x : Told) → (heard books x).noting ≡ counting.heard books.noting x
one_noted books (tell.Issued c i) = refl
one_noted books (tell.Accepted p number) = refl
one_noted books (tell.Refused p cause) = refl
one_noted books (tell.Released p number) = refl
one_noted books (tell.Passed rounds) = refl

all_noted : (told : List Told) (books : Books) → (fold heard books told).noting ≡ fold counting.heard books.noting told
all_noted [] books = refl
all_noted (x ∷ more) books = all_noted more (heard books x) ∙ ap (λ (all : List Tally). fold counting.heard all more) (one_noted books x)

pub noting_heard : (before after : Books) (s next : State) → IsHeard heard before after s next → IsHeard counting.heard before.noting after.noting s next
noting_heard before after s next h = record {
  told = h.told;
  heard = ap (λ (b : Books). b.noting) h.heard ∙ all_noted h.told before;
  traces = h.traces;
}

-- a reply that is released tells nothing of a command
pub release_kept : (books : Books) (p : ℕ) (r : Result Outcome Refusal) → fold heard books (release_told p r) ≡ books
release_kept books p (Ok (outcome.Released number)) = refl
release_kept books p (Ok _) = refl
release_kept books p (Err cause) = refl

-- ---- what is told of a channel's part

-- nothing, or the command that it issued
abbrev IsTold : ℕ → List Told → Type 0
IsTold c tail = (tail ≡ []) ⊎ ((i : Issued) × (tail ≡ tell.Issued c i ∷ []))

issue_is : (c : ℕ) (o : Option Issued) → IsTold c (issue_told c o)
issue_is c None = inl refl
issue_is c (Some i) = inr (i, refl)

channel_is : (c : ℕ) (o : Option ChannelSide) → IsTold c (option_map_or (λ (side : ChannelSide). issue_told c (issued_in side.channel)) o [])
channel_is c None = inl refl
channel_is c (Some side) = issue_is c (issued_in side.channel)

part_is : (c : ℕ) (o : Option State) → IsTold c (option_map_or (channel_told c) o [])
part_is c None = inl refl
part_is c (Some mid) = channel_is c (slice_get (until_refused (Take c) mid).channels c)

-- the last part of what the first so many channels tell
abbrev tail_of : ℕ → State → List Told
tail_of c s = option_map_or (channel_told c) (channels_served c s) []

-- of another channel it tells nothing
beside : (c d : ℕ) (tail : List Told) → IsTold d tail → d ≢ c → entries_told c tail ≡ []
beside c d tail (inl none) other = ap (entries_told c) none
beside c d tail (inr one) other = ap (entries_told c) one.1 ∙ by_test one.0
  where
    by_test : (i : Issued) → entries_told c (tell.Issued d i ∷ []) ≡ []
    by_test i = elim (eqb_tells d c) as (λ _. entries_told c (tell.Issued d i ∷ []) ≡ []) [
      | inl is ↦ absurd (other is.1)
      | inr is ↦ ap (λ (b : Bool). (if b then i.entry ∷ [] else []) ++ []) is.0
    ]

none_before : (n c : ℕ) (s : State) → n ≤ c → entries_told c (channels_told n s) ≡ []
none_before zero c s below = refl
none_before (suc n) c s below =
    entries_append c (channels_told n s) (tail_of n s)
    ∙ ap (λ (es : List Entry). es ++ entries_told c (tail_of n s)) (none_before n c s (omega (arith, below)))
    ∙ beside c n (tail_of n s) (part_is n (channels_served n s)) (λ same. absurd (omega (arith, below, same)))

-- the channels behind so many tell more
record TellsMore (n count : ℕ) (s : State) : Type 0 where
  more : List Told
  is : channels_told (n + count) s ≡ channels_told n s ++ more

tells_more : (n count : ℕ) (s : State) → TellsMore n count s
tells_more n zero s =
    let none : n + 0 ≡ n = omega arith in
    record { more = []; is = ap (λ k. channels_told k s) none ∙ sym (append-nil (channels_told n s)) }
tells_more n (suc count) s =
    let before = tells_more n count s in
    let next : n + suc count ≡ suc (n + count) = omega arith in
    record {
      more = before.more ++ tail_of (n + count) s;
      is = ap (λ k. channels_told k s) next ∙ ap (λ (xs : List Told). xs ++ tail_of (n + count) s) before.is ∙ append_assoc (channels_told n s) before.more (tail_of (n + count) s);
    }

-- ---- the commands so far lie in the geometry, and are fewer than the cycles of a clock

pub record AreFew (config : Config) (entries : List Entry) : Type 0 where
  pub placed : All (λ e. IsTrue (is_in config.geometry e.command)) entries
  pub few : length entries ≤ CLOCK_STOP

by_side : (k : Kept) (c : ℕ) (o : Option KeptSide) → slice_get k.channels c ≡ o → IsLegalAt k c → AreFew k.config (option_map_or (λ (side : ChannelSide). side.channel.trace) (option_map side_of o) [])
by_side k c None is legal = record { placed = λ i d within. absurd (omega (arith, within)); few = omega arith }
by_side k c (Some side) is legal =
    let here = legal side is in
    record {
      placed = all_placed k.config side.channel.start side.channel.now side.channel.trace here.0;
      few = omega (arith, few_commands k.config side.channel.start side.channel.now side.channel.trace here.0, here.1);
    }

-- those of a channel that are legal
pub few_of : (k : Kept) (c : ℕ) → IsLegalAt k c → AreFew k.config (trace_at (state_of k) c)
few_of k c legal =
    subst (λ (o : Option ChannelSide). AreFew k.config (option_map_or (λ (side : ChannelSide). side.channel.trace) o [])) (sym (slice_get-map side_of k.channels c)) (by_side k c (slice_get k.channels c) refl legal)

front : {X : Type 0} (P : X → Type 0) (xs ys : List X) → All P (xs ++ ys) → (k : ℕ) (d : X) → k < length xs → P (get_or xs k d)
front P [] ys all k d within = absurd (omega (arith, within))
front P (x ∷ xs) ys all zero d within = all 0 d (omega arith)
front P (x ∷ xs) ys all (suc k) d within = front P xs ys (λ j e below. all (suc j) e (omega (arith, below))) k d (omega (arith, within))

next_of : {X : Type 0} (P : X → Type 0) (xs : List X) (x : X) (ys : List X) → All P (xs ++ x ∷ ys) → P x
next_of P [] x ys all = all 0 x (omega arith)
next_of P (y ∷ xs) x ys all = next_of P xs x ys (λ j e below. all (suc j) e (omega (arith, below)))

-- a command that is one of them is found by those before it

own_entry : (c : ℕ) (i : Issued) → entry_told c (tell.Issued c i) ≡ i.entry ∷ []
own_entry c i = elim (eqb_tells c c) as (λ _. entry_told c (tell.Issued c i) ≡ i.entry ∷ []) [
  | inl is ↦ ap (λ (b : Bool). if b then i.entry ∷ [] else []) is.0
  | inr is ↦ absurd (is.1 refl)
]

one_found : (config : Config) (s : State) (noting : List Tally) (told more : List Told) (c : ℕ) (i : Issued) → AreNoted config s noting → c < config.geometry.channels → entries_told c told ≡ []
    → AreFew config (trace_at s c ++ entries_told c (told ++ (tell.Issued c i ∷ more))) → finding_at (fold counting.heard noting told) c i.entry.command ≡ finding (trace_at s c) i.entry.command
one_found config s noting told more c i noted within none few =
    let rest = entries_told c more in
    let all : entries_told c (told ++ (tell.Issued c i ∷ more)) ≡ i.entry ∷ rest =
    entries_append c told (tell.Issued c i ∷ more) ∙ ap (λ (es : List Entry). es ++ (entry_told c (tell.Issued c i) ++ rest)) none ∙ ap (λ (es : List Entry). es ++ rest) (own_entry c i) in
    let here : AreFew config (trace_at s c ++ (i.entry ∷ rest)) = subst (λ (es : List Entry). AreFew config (trace_at s c ++ es)) all few in
    counted.found_at config s noting told c i.entry.command noted within none (front (λ e. IsTrue (is_in config.geometry e.command)) (trace_at s c) (i.entry ∷ rest) here.placed)
    (omega (arith, here.few, length-append (trace_at s c) (i.entry ∷ rest))) (next_of (λ e. IsTrue (is_in config.geometry e.command)) (trace_at s c) i.entry rest here.placed)

-- ---- what is noted of all

module _ (config : Config) (s : State) (books : Books) (channels : ℕ) (noted : AreNoted config s books.noting) (all : channels ≡ config.geometry.channels)
    (few : (c : ℕ) → c < channels → AreFew config (trace_at s c ++ entries_told c (channels_told channels s))) where
  abbrev Found : ℕ → Type 0
  Found n = (fold heard books (channels_told n s)).ledger ≡ all_found s (channels_told n s) books.ledger

  by_tail : (n : ℕ) (tail more : List Told) → n < channels → IsTold n tail → channels_told channels s ≡ (channels_told n s ++ tail) ++ more → Found n
      → (fold heard (fold heard books (channels_told n s)) tail).ledger ≡ fold (found_told s) (all_found s (channels_told n s) books.ledger) tail
  by_tail n tail more within (inl none) is so =
      ap (λ (xs : List Told). (fold heard (fold heard books (channels_told n s)) xs).ledger) none ∙ so ∙ sym (ap (fold (found_told s) (all_found s (channels_told n s) books.ledger)) none)
  by_tail n tail more within (inr one) is so =
      let i = one.0 in
      let before = fold heard books (channels_told n s) in
      let all_is : channels_told channels s ≡ channels_told n s ++ (tell.Issued n i ∷ more) =
      is ∙ append_assoc (channels_told n s) tail more ∙ ap (λ (xs : List Told). channels_told n s ++ (xs ++ more)) one.1 in
      let found : finding_at before.noting n i.entry.command ≡ finding (trace_at s n) i.entry.command =
      ap (λ (ts : List Tally). finding_at ts n i.entry.command) (all_noted (channels_told n s) books)
      ∙ one_found config s books.noting (channels_told n s) more n i noted (omega (arith, within, all)) (none_before n n s (omega arith))
      (subst (λ (xs : List Told). AreFew config (trace_at s n ++ entries_told n xs)) all_is (few n within)) in
      ap (λ (xs : List Told). (fold heard before xs).ledger) one.1
      ∙ ap (λ f. with_command n i.entry (option_map_or (λ v. with_found v.port v.number i.entry.command f before.ledger) i.served before.ledger)) found
      ∙ ap (λ (l : Ledger). found_told s l (tell.Issued n i)) so
      ∙ sym (ap (fold (found_told s) (all_found s (channels_told n s) books.ledger)) one.1)

  found_so_far : (n : ℕ) → n ≤ channels → Found n
  found_so_far zero within = refl
  found_so_far (suc n) within =
      let before = channels_told n s in
      let tail = tail_of n s in
      let left : (count : ℕ) × (suc n + count ≡ channels) = rest_of (suc n) channels within in
      let more = tells_more (suc n) left.0 s in
      let is : channels_told channels s ≡ (before ++ tail) ++ more.more = ap (λ k. channels_told k s) (sym left.1) ∙ more.is in
      ap (λ (b : Books). b.ledger) (fold-append heard books before tail)
      ∙ by_tail n tail more.more (omega (arith, within)) (part_is n (channels_served n s)) is (found_so_far n (omega (arith, within)))
      ∙ sym (fold-append (found_told s) books.ledger before tail)
    where
      rest_of : (a b : ℕ) → a ≤ b → (count : ℕ) × (a + count ≡ b)
      rest_of zero b below = (b, omega arith)
      rest_of (suc a) zero below = absurd (omega (arith, below))
      rest_of (suc a) (suc b) below = let r = rest_of a b (omega (arith, below)) in (r.0, omega (arith, r.1))

  pub all_are_found : (fold heard books (channels_told channels s)).ledger ≡ all_found s (channels_told channels s) books.ledger
  all_are_found = found_so_far channels (omega arith)

-- ---- all but how requests found their banks stays

abbrev pub AreLists : Ledger → Ledger → Type 0
AreLists old new = (new.accepted ≡ old.accepted) × (new.ports ≡ old.ports) × (new.keeps ≡ old.keeps) × (new.served ≡ old.served)

set_found : (b : Bool) (found : List (List (Option Finding))) (l : Ledger) → AreLists l (if b then record l { found = found } else l)
set_found true found l = (refl, refl, refl, refl)
set_found false found l = (refl, refl, refl, refl)

by_request : (command : Command) (f : Option Finding) (l : Ledger) (o : Option issued.Served) → AreLists l (option_map_or (λ v. with_found v.port v.number command f l) o l)
by_request command f l None = (refl, refl, refl, refl)
by_request command f l (Some v) = set_found l.keeps (slice_set l.found v.port (slice_set (found_at l v.port) (v.number - count_of (times_at l v.port)) f)) (with_column v.port command f l)

one_list : (s : State) (x : Told) (l : Ledger) → AreLists l (found_told s l x)
one_list s (tell.Issued c i) l = by_request i.entry.command (finding (trace_at s c) i.entry.command) l i.served
one_list s (tell.Accepted p number) l = (refl, refl, refl, refl)
one_list s (tell.Refused p cause) l = (refl, refl, refl, refl)
one_list s (tell.Released p number) l = (refl, refl, refl, refl)
one_list s (tell.Passed rounds) l = (refl, refl, refl, refl)

pub found_lists : (s : State) (told : List Told) (l : Ledger) → AreLists l (all_found s told l)
found_lists s [] l = (refl, refl, refl, refl)
found_lists s (x ∷ more) l =
    let one = one_list s x l in
    let rest = found_lists s more (found_told s l x) in
    (rest.0 ∙ one.0, rest.1 ∙ one.1, rest.2 ∙ one.2, rest.3 ∙ one.3)

one_served : (books : Books) (x : Told) → (heard books x).ledger.served ≡ books.ledger.served
one_served books (tell.Issued c i) = (by_request i.entry.command (finding_at books.noting c i.entry.command) books.ledger i.served).3
one_served books (tell.Accepted p number) = refl
one_served books (tell.Refused p cause) = refl
one_served books (tell.Released p number) = refl
one_served books (tell.Passed rounds) = refl

pub heard_served : (told : List Told) (books : Books) → (fold heard books told).ledger.served ≡ books.ledger.served
heard_served [] books = refl
heard_served (x ∷ more) books = heard_served more (heard books x) ∙ one_served books x

-- ---- a round's part, in a core whose channels' commands are legal

pub served_found : (config : Config) (old new : Kept) (before after : Books) → AreNoted config (state_of old) before.noting → new.config ≡ config → ((c : ℕ) → c < config.geometry.channels → IsLegalAt new c)
    → ((c : ℕ) → trace_at (state_of new) c ≡ trace_at (state_of old) c ++ entries_told c (channels_told config.geometry.channels (state_of old)))
    → after ≡ fold heard before (channels_told config.geometry.channels (state_of old)) → after.ledger ≡ all_found (state_of old) (channels_told config.geometry.channels (state_of old)) before.ledger
served_found config old new before after noted same legal traces told =
    ap (λ (b : Books). b.ledger) told
    ∙ all_are_found config (state_of old) before config.geometry.channels noted refl
    (λ c within. subst (AreFew config) (traces c) (subst (λ (k : Config). AreFew k (trace_at (state_of new) c)) same (few_of new c (legal c within))))

-- ---- the newest command of the channel that is asked for

one_watched : (books : Books) (x : Told) → (heard books x).watched ≡ books.watched
one_watched books (tell.Issued c i) = refl
one_watched books (tell.Accepted p number) = refl
one_watched books (tell.Refused p cause) = refl
one_watched books (tell.Released p number) = refl
one_watched books (tell.Passed rounds) = refl

pub all_watched : (told : List Told) (books : Books) → (fold heard books told).watched ≡ books.watched
all_watched [] books = refl
all_watched (x ∷ more) books = all_watched more (heard books x) ∙ one_watched books x

-- the commands of the channel that was told of in this round, if one is asked for
abbrev pub entries_of : Option ℕ → List Told → List Entry
entries_of None told = []
entries_of (Some c) told = entries_told c told

abbrev pub newest_list : Option Entry → List Entry
newest_list None = []
newest_list (Some e) = e ∷ []

newest_tail : (c n : ℕ) (tail : List Told) (before : List Entry) (books : Books) → IsTold n tail → books.watched ≡ Some c → newest_list books.newest ≡ before → (n ≡ c → before ≡ []) → newest_list (fold heard books tail).newest ≡ before ++ entries_told c tail
newest_tail c n tail before books (inl none) watched so first =
    ap (λ (xs : List Told). newest_list (fold heard books xs).newest) none ∙ so ∙ sym (ap (λ (xs : List Told). before ++ entries_told c xs) none ∙ append-nil before)
newest_tail c n tail before books (inr one) watched so first =
    ap (λ (xs : List Told). newest_list (fold heard books xs).newest) one.1
    ∙ ap (λ (w : Option ℕ). newest_list (newest_of n one.0.entry w books.newest)) watched
    ∙ by_test
    ∙ sym (ap (λ (xs : List Told). before ++ entries_told c xs) one.1)
  where
    here : Bool → List Entry
    here b = newest_list (if b then Some one.0.entry else books.newest)

    told_own : (b : Bool) → (n == c) ≡ b → entries_told c (tell.Issued n one.0 ∷ []) ≡ (if b then one.0.entry ∷ [] else [])
    told_own true is = ap (λ (b : Bool). (if b then one.0.entry ∷ [] else []) ++ []) is
    told_own false is = ap (λ (b : Bool). (if b then one.0.entry ∷ [] else []) ++ []) is

    by_test : here (c == n) ≡ before ++ entries_told c (tell.Issued n one.0 ∷ [])
    by_test = elim (eqb_tells c n) as (λ _. here (c == n) ≡ before ++ entries_told c (tell.Issued n one.0 ∷ [])) [
      | inl is ↦ (
          let same : (n == c) ≡ true = grind (arith, nat_tests, is.1) in
          ap here is.0 ∙ sym (ap (λ (es : List Entry). es ++ entries_told c (tell.Issued n one.0 ∷ [])) (first (sym is.1)) ∙ told_own true same))
      | inr is ↦ (
          let apart : (n == c) ≡ false = grind (arith, nat_tests, is.1) in
          ap here is.0 ∙ so ∙ sym (ap (λ (es : List Entry). before ++ es) (told_own false apart) ∙ append-nil before))
    ]

newest_so_far : (c n : ℕ) (s : State) (books : Books) → books.watched ≡ Some c → books.newest ≡ None → newest_list (fold heard books (channels_told n s)).newest ≡ entries_told c (channels_told n s)
newest_so_far c zero s books watched none = ap newest_list none
newest_so_far c (suc n) s books watched none =
    let before = channels_told n s in
    let tail = tail_of n s in
    ap (λ (b : Books). newest_list b.newest) (fold-append heard books before tail)
    ∙ newest_tail c n tail (entries_told c before) (fold heard books before) (part_is n (channels_served n s)) (all_watched before books ∙ watched) (newest_so_far c n s books watched none) (λ same. none_before n c s (omega (arith, same)))
    ∙ sym (entries_append c before tail)

one_unwatched : (books : Books) (x : Told) → books.watched ≡ None → (heard books x).newest ≡ books.newest
one_unwatched books (tell.Issued c i) none = ap (λ (w : Option ℕ). newest_of c i.entry w books.newest) none
one_unwatched books (tell.Accepted p number) none = refl
one_unwatched books (tell.Refused p cause) none = refl
one_unwatched books (tell.Released p number) none = refl
one_unwatched books (tell.Passed rounds) none = refl

all_unwatched : (told : List Told) (books : Books) → books.watched ≡ None → (fold heard books told).newest ≡ books.newest
all_unwatched [] books none = refl
all_unwatched (x ∷ more) books none = all_unwatched more (heard books x) (one_watched books x ∙ none) ∙ one_unwatched books x none

-- after the channels' part of a round it is what that channel's trace has more
pub newest_told : (n : ℕ) (s : State) (books : Books) (w : Option ℕ) → books.watched ≡ w → books.newest ≡ None → newest_list (fold heard books (channels_told n s)).newest ≡ entries_of w (channels_told n s)
newest_told n s books None watched none = ap newest_list (all_unwatched (channels_told n s) books watched ∙ none)
newest_told n s books (Some c) watched none = newest_so_far c n s books watched none
