-- How many reads and writes of a history find their banks so.
use Rattle.std.proofs.Common.{◌≡◌, ◌≤◌, ◌+◌, ℕ, Bool, true, false, ◌&&◌, not, cond, List, [], ◌∷◌, ◌++◌, length, Option, Some, refl, arith}
use Rattle.std.specs.List.{count_by}
use Rattle.std.proofs.lemmas.List.Sums.{sum_by-cons}
use Rattle.ddr_trace.specs.declared.command.Command.{Command}
use Rattle.ddr_trace.specs.declared.command.Command.TheVariants.{Act, Rd, Wr, RdAuto, WrAuto, Pre, PreAll, Refresh}
use Rattle.ddr_trace.specs.declared.command.Entry.{Entry}
use Rattle.ddr_trace.specs.Commands.{is_auto, is_read, is_write}
use Rattle.ddr_statistics.specs.declared.counts.Finding.{Finding}
use Rattle.ddr_statistics.specs.declared.counts.Finding.TheVariants.{Hit, Miss, Conflict}
use Rattle.ddr_statistics.specs.Counts.{count_behind, count_from, found_count, is_any, is_rd, is_rda, is_wr, is_wra, kind_count}
use Rattle.ddr_statistics.specs.Visits.{finding, is_conflict, is_hit, is_miss}
use Rattle.ddr_replay_counts.proofs.SumLemmas.{counted_if}

-- a test of a command and of how it finds its bank
abbrev pub Test : Type 0
Test = Command → Option Finding → Bool

abbrev pub read_so : (Option Finding → Bool) → Test
read_so so command found = is_read command && so found

abbrev pub write_so : (Option Finding → Bool) → Test
write_so so command found = not (is_read command) && so found

-- how many commands of a history pass it
abbrev pub test_at : Test → List Entry → Entry → Bool
test_at test before e = test e.command (finding before e.command)

abbrev pub passed : Test → List Entry → ℕ
passed test history = count_behind (test_at test) history

-- two tests of which each command passes one, where it passes a third

from_both : (a b c : List Entry → Entry → Bool)
    → ((before : List Entry) (e : Entry) → counted_if (a before e) + counted_if (b before e) ≡ counted_if (c before e))
    → (later before : List Entry)
    → count_from a before later + count_from b before later ≡ count_from c before later
from_both a b c each [] before = refl
from_both a b c each (e ∷ later) before = omega (arith, each before e, from_both a b c each later (before ++ e ∷ []))

one_kind : (r so : Bool) → counted_if (r && so) + counted_if (not r && so) ≡ counted_if so
one_kind true true = refl
one_kind true false = refl
one_kind false true = refl
one_kind false false = refl

-- reads and writes together
pub both_kinds : (so : Option Finding → Bool) (history : List Entry)
    → passed (read_so so) history + passed (write_so so) history ≡ found_count so is_any history
unfolding count_behind
both_kinds so history =
    from_both (test_at (read_so so)) (test_at (write_so so)) (λ before e. is_any e.command && so (finding before e.command))
    (λ before e. one_kind (is_read e.command) (so (finding before e.command))) history []

-- three tests of which each command passes one, where it is of one of two kinds

from_three : (a b c : List Entry → Entry → Bool) (p q : Entry → Bool)
    → ((before : List Entry) (e : Entry) → counted_if (a before e) + counted_if (b before e) + counted_if (c before e) ≡ cond (p e) 1 0 + cond (q e) 1 0)
    → (later before : List Entry)
    → count_from a before later + count_from b before later + count_from c before later ≡ count_by p later + count_by q later
from_three a b c p q each [] before = refl
from_three a b c p q each (e ∷ later) before =
    omega
    (arith, each before e, from_three a b c p q each later (before ++ e ∷ []), sum_by-cons (λ (x : Entry). cond (p x) 1 0) e later, sum_by-cons (λ (x : Entry). cond (q x) 1 0) e later)

-- a read or a write finds its bank in one of three ways
one_way : (f : Finding) → counted_if (is_hit (Some f)) + counted_if (is_miss (Some f)) + counted_if (is_conflict (Some f)) ≡ 1
one_way Hit = refl
one_way Miss = refl
one_way Conflict = refl

abbrev AllWays : Test → Test → Test → (Command → Bool) → (Command → Bool) → List Entry → Command → Type 0
AllWays a b c p q before command =
    let found = finding before command in
    counted_if (a command found) + counted_if (b command found) + counted_if (c command found) ≡ cond (p command) 1 0 + cond (q command) 1 0

read_ways : (before : List Entry) (command : Command)
    → AllWays (read_so is_hit) (read_so is_miss) (read_so is_conflict) is_rd is_rda before command
read_ways before (Act rank group bank row) = refl
read_ways before (Rd rank group bank row line) = one_way _
read_ways before (Wr rank group bank row line) = refl
read_ways before (RdAuto rank group bank row line) = one_way _
read_ways before (WrAuto rank group bank row line) = refl
read_ways before (Pre rank group bank) = refl
read_ways before (PreAll rank) = refl
read_ways before (Refresh rank) = refl

write_ways : (before : List Entry) (command : Command)
    → AllWays (write_so is_hit) (write_so is_miss) (write_so is_conflict) is_wr is_wra before command
write_ways before (Act rank group bank row) = refl
write_ways before (Rd rank group bank row line) = refl
write_ways before (Wr rank group bank row line) = one_way _
write_ways before (RdAuto rank group bank row line) = refl
write_ways before (WrAuto rank group bank row line) = one_way _
write_ways before (Pre rank group bank) = refl
write_ways before (PreAll rank) = refl
write_ways before (Refresh rank) = refl

pub all_reads : (history : List Entry)
    → passed (read_so is_hit) history + passed (read_so is_miss) history + passed (read_so is_conflict) history
    ≡ kind_count is_rd is_any history + kind_count is_rda is_any history
unfolding count_behind kind_count
all_reads history =
    from_three (test_at (read_so is_hit)) (test_at (read_so is_miss)) (test_at (read_so is_conflict))
    (λ e. is_any e.command && is_rd e.command) (λ e. is_any e.command && is_rda e.command) (λ before e. read_ways before e.command) history
    []

pub all_writes : (history : List Entry)
    → passed (write_so is_hit) history + passed (write_so is_miss) history + passed (write_so is_conflict) history
    ≡ kind_count is_wr is_any history + kind_count is_wra is_any history
unfolding count_behind kind_count
all_writes history =
    from_three (test_at (write_so is_hit)) (test_at (write_so is_miss)) (test_at (write_so is_conflict))
    (λ e. is_any e.command && is_wr e.command) (λ e. is_any e.command && is_wra e.command) (λ before e. write_ways before e.command) history
    []

-- they are no more than there are entries

one_at_most : (b : Bool) → counted_if b ≤ 1
one_at_most true = omega arith
one_at_most false = omega arith

from_few : (test : List Entry → Entry → Bool) (later before : List Entry) → count_from test before later ≤ length later
from_few test [] before = omega arith
from_few test (e ∷ later) before = omega (arith, one_at_most (test before e), from_few test later (before ++ e ∷ []))

pub found_few : (so : Option Finding → Bool) (history : List Entry) → found_count so is_any history ≤ length history
unfolding count_behind
found_few so history = from_few (λ before e. is_any e.command && so (finding before e.command)) history []

two_few : (p q : Entry → Bool) → ((e : Entry) → cond (p e) 1 0 + cond (q e) 1 0 ≤ 1) → (history : List Entry)
    → count_by p history + count_by q history ≤ length history
two_few p q each [] = omega arith
two_few p q each (e ∷ later) =
    omega
    (arith, each e, two_few p q each later, sum_by-cons (λ (x : Entry). cond (p x) 1 0) e later, sum_by-cons (λ (x : Entry). cond (q x) 1 0) e later)

one_of_two : (of auto : Bool) → cond (of && not auto) 1 0 + cond (of && auto) 1 0 ≤ 1
one_of_two true true = omega arith
one_of_two true false = omega arith
one_of_two false auto = omega arith

pub few_reads : (history : List Entry) → kind_count is_rd is_any history + kind_count is_rda is_any history ≤ length history
unfolding kind_count
few_reads history =
    two_few (λ e. is_any e.command && is_rd e.command) (λ e. is_any e.command && is_rda e.command)
    (λ e. one_of_two (is_read e.command) (is_auto e.command)) history

pub few_writes : (history : List Entry) → kind_count is_wr is_any history + kind_count is_wra is_any history ≤ length history
unfolding kind_count
few_writes history =
    two_few (λ e. is_any e.command && is_wr e.command) (λ e. is_any e.command && is_wra e.command)
    (λ e. one_of_two (is_write e.command) (is_auto e.command)) history
