-- The tables of a replay count the same reads and writes by ports and by channels.
use Rattle.std.proofs.Common.{◌≡◌, ◌≤◌, ◌<◌, ◌+◌, ◌*◌, ◌^◌, ◌∙◌, ℕ, zero, suc, Bool, List, length, Option, le_trans, refl, sym, ap, arith}
use Rattle.ddr_timing.specs.declared.config.Config.{Config}
use Rattle.ddr_trace.specs.declared.command.Entry.{Entry}
use Rattle.ddr_statistics.specs.declared.counts.Counts.{Counts}
use Rattle.ddr_statistics.specs.declared.counts.Finding.{Finding}
use Rattle.ddr_statistics.specs.Counts.{found_count, is_any, is_rd, is_rda, is_wr, is_wra, kind_count}
use Rattle.ddr_statistics.specs.Noted.{raised}
use Rattle.ddr_statistics.specs.Visits.{is_conflict, is_hit, is_miss}
use Rattle.ddr_world.specs.Promise.{trace_at}
use Rattle.ddr_ledger.specs.declared.rows.Rows.{Rows}
use Rattle.ddr_ledger.specs.Numbers.{numbers_of, together}
use Rattle.ddr_ledger.specs.Rows.{all_rows, both_rows}
use Rattle.ddr_replay.specs.Runs.{Run}
use Rattle.ddr_replay_counts.specs.Rows.{CountsAddUp, CountsAgree}
use Rattle.ddr_replay_counts.proofs.HistoryLemmas.{Test, all_reads, all_writes, both_kinds, few_reads, few_writes, found_few, passed, read_so, write_so}
use Rattle.ddr_replay_counts.proofs.RowLemmas.{IsCounter, read_conflicts, read_hits, read_misses, write_conflicts, write_hits, write_misses}
use Rattle.ddr_replay_counts.proofs.RunLemmas.{AreEven}
use Rattle.ddr_replay_counts.proofs.SumLemmas.{over, over_both, over_few, stopped}
use Rattle.ddr_replay_counts.proofs.CountLemmas.{IsCount, channels_count, conflicts_counted, hits_counted, misses_counted, ports_count, reads_auto_counted, reads_counted, writes_auto_counted, writes_counted}

-- two numbers of ports, and the sum that the channels count
record AreTwo (a b all x y : ℕ) : Type 0 where
  first : a ≡ stopped x
  second : b ≡ stopped y
  sum : all ≡ stopped (x + y)

two_agree : (a b all x y : ℕ) → AreTwo a b all x y → raised b a ≡ all
two_agree a b all x y is = omega (arith, is.first, is.second, is.sum)

two_add : (a b all x y : ℕ) → AreTwo a b all x y → x + y < 18446744073709551616 → a + b ≡ all
two_add a b all x y is few = omega (arith, is.first, is.second, is.sum, few)

-- three numbers of ports, and two of channels, of one sum
record AreThree (a b d p q x y z u v : ℕ) : Type 0 where
  first : a ≡ stopped x
  second : b ≡ stopped y
  third : d ≡ stopped z
  plain : p ≡ stopped u
  auto : q ≡ stopped v
  sum : x + y + z ≡ u + v

both_stopped : (a b x y : ℕ) → a ≡ stopped x → b ≡ stopped y → raised b a ≡ stopped (x + y)
both_stopped a b x y first second = omega (arith, first, second)

three_agree : (a b d p q x y z u v : ℕ) → AreThree a b d p q x y z u v → raised d (raised b a) ≡ raised q p
three_agree a b d p q x y z u v is =
    both_stopped (raised b a) d (x + y) z (both_stopped a b x y is.first is.second) is.third ∙ ap stopped is.sum
    ∙ sym (both_stopped p q u v is.plain is.auto)

below_top : (n m : ℕ) → n ≡ stopped m → m < 18446744073709551616 → n ≡ m
below_top n m is few = omega (arith, is, few)

three_add : (a b d p q x y z u v : ℕ) → AreThree a b d p q x y z u v → u + v < 18446744073709551616 → a + b + d ≡ p + q
three_add a b d p q x y z u v is few =
    let a_is = below_top a x is.first (omega (arith, is.sum, few)) in
    let b_is = below_top b y is.second (omega (arith, is.sum, few)) in
    let d_is = below_top d z is.third (omega (arith, is.sum, few)) in
    let p_is = below_top p u is.plain (omega (arith, few)) in
    let q_is = below_top q v is.auto (omega (arith, few)) in
    omega (arith, a_is, b_is, d_is, p_is, q_is, is.sum)

over_three : (f g h p q : ℕ → ℕ) (n : ℕ) → ((c : ℕ) → f c + g c + h c ≡ p c + q c) → over f n + over g n + over h n ≡ over p n + over q n
over_three f g h p q zero each = refl
over_three f g h p q (suc n) each = omega (arith, over_three f g h p q n each, each n)

-- a run's
abbrev rows_of : Run → Rows
rows_of last = all_rows last.ledger.rows

abbrev counts_in : Config → Run → Counts
counts_in config last = (together (numbers_of last.state config.geometry.channels)).counts

-- a number of each channel's trace, of all channels together
abbrev all_over : Config → Run → (List Entry → ℕ) → ℕ
all_over config last of = over (λ c. of (trace_at last.state c)) config.geometry.channels

abbrev Joins : (Rows → ℕ) → Type 0
Joins row = (a b : Rows) → row (both_rows a b) ≡ raised (row b) (row a)

-- one of the ways in which banks are found

found_sum : (so : Option Finding → Bool) (config : Config) (last : Run)
    → all_over config last (passed (read_so so)) + all_over config last (passed (write_so so)) ≡ all_over config last (found_count so is_any)
found_sum so config last =
    over_both (λ c. passed (read_so so) (trace_at last.state c)) (λ c. passed (write_so so) (trace_at last.state c))
    (λ c. found_count so is_any (trace_at last.state c)) config.geometry.channels (λ c. both_kinds so (trace_at last.state c))

found_two : (read write : Rows → ℕ) (so : Option Finding → Bool) (count : Counts → ℕ) → IsCounter read (read_so so)
    → IsCounter write (write_so so) → Joins read → Joins write → IsCount count (found_count so is_any)
    → (config : Config) (last : Run) → AreEven config last
    → AreTwo (read (rows_of last)) (write (rows_of last)) (count (counts_in config last)) (all_over config last (passed (read_so so)))
    (all_over config last (passed (write_so so)))
found_two read write so count reads writes read_joined write_joined counted config last is = record {
  first = ports_count read (read_so so) reads read_joined config last is;
  second = ports_count write (write_so so) writes write_joined config last is;
  sum = channels_count count (found_count so is_any) counted last.state config.geometry.channels ∙ ap stopped (sym (found_sum so config last));
}

-- they are no more than each channel had rounds
found_below : (so : Option Finding → Bool) (config : Config) (last : Run) → AreEven config last
    → config.geometry.channels * last.round < 18446744073709551616
    → all_over config last (passed (read_so so)) + all_over config last (passed (write_so so)) < 18446744073709551616
found_below so config last is few =
    let most : all_over config last (found_count so is_any) ≤ config.geometry.channels * last.round =
    over_few (λ c. found_count so is_any (trace_at last.state c)) config.geometry.channels last.round
    (λ c. le_trans (found_few so (trace_at last.state c)) (is.short c)) in
    omega (arith, found_sum so config last, most, few)

-- reads, or writes
abbrev Adds : Test → Test → Test → (List Entry → ℕ) → (List Entry → ℕ) → Type 0
Adds a b d p q = (history : List Entry) → passed a history + passed b history + passed d history ≡ p history + q history

kind_three : (hits misses conflicts : Rows → ℕ) (a b d : Test) (plain auto : Counts → ℕ) (p q : List Entry → ℕ) → IsCounter hits a
    → IsCounter misses b → IsCounter conflicts d → Joins hits → Joins misses → Joins conflicts
    → IsCount plain p → IsCount auto q → Adds a b d p q → (config : Config) (last : Run) → AreEven config last
    → AreThree (hits (rows_of last)) (misses (rows_of last)) (conflicts (rows_of last)) (plain (counts_in config last))
    (auto (counts_in config last))
    (all_over config last (passed a)) (all_over config last (passed b)) (all_over config last (passed d)) (all_over config last p)
    (all_over config last q)
kind_three hits misses conflicts a b d plain auto p q is_a is_b is_d join_a join_b join_d is_p is_q each config last is = record {
  first = ports_count hits a is_a join_a config last is;
  second = ports_count misses b is_b join_b config last is;
  third = ports_count conflicts d is_d join_d config last is;
  plain = channels_count plain p is_p last.state config.geometry.channels;
  auto = channels_count auto q is_q last.state config.geometry.channels;
  sum =
      over_three (λ c. passed a (trace_at last.state c)) (λ c. passed b (trace_at last.state c)) (λ c. passed d (trace_at last.state c))
      (λ c. p (trace_at last.state c)) (λ c. q (trace_at last.state c)) config.geometry.channels (λ c. each (trace_at last.state c));
}

kind_below : (p q : List Entry → ℕ) → ((history : List Entry) → p history + q history ≤ length history) → (config : Config) (last : Run)
    → AreEven config last → config.geometry.channels * last.round < 18446744073709551616
    → all_over config last p + all_over config last q < 18446744073709551616
kind_below p q each config last is few =
    let both = λ (history : List Entry). p history + q history in
    let sum : all_over config last p + all_over config last q ≡ all_over config last both =
    over_both (λ c. p (trace_at last.state c)) (λ c. q (trace_at last.state c)) (λ c. both (trace_at last.state c)) config.geometry.channels
    (λ c. refl) in
    let most : all_over config last both ≤ config.geometry.channels * last.round =
    over_few (λ c. both (trace_at last.state c)) config.geometry.channels last.round
    (λ c. le_trans (each (trace_at last.state c)) (is.short c)) in
    omega (arith, sum, most, few)

-- each of them, of a run

hits_two : (config : Config) (last : Run) → AreEven config last
    → AreTwo (rows_of last).reads.hits (rows_of last).writes.hits (counts_in config last).row_hits
    (all_over config last (passed (read_so is_hit))) (all_over config last (passed (write_so is_hit)))
hits_two =
    found_two (λ rows. rows.reads.hits) (λ rows. rows.writes.hits) is_hit (λ counts. counts.row_hits) read_hits write_hits (λ a b. refl)
    (λ a b. refl) hits_counted

misses_two : (config : Config) (last : Run) → AreEven config last
    → AreTwo (rows_of last).reads.misses (rows_of last).writes.misses (counts_in config last).row_misses
    (all_over config last (passed (read_so is_miss))) (all_over config last (passed (write_so is_miss)))
misses_two =
    found_two (λ rows. rows.reads.misses) (λ rows. rows.writes.misses) is_miss (λ counts. counts.row_misses) read_misses write_misses
    (λ a b. refl) (λ a b. refl) misses_counted

conflicts_two : (config : Config) (last : Run) → AreEven config last
    → AreTwo (rows_of last).reads.conflicts (rows_of last).writes.conflicts (counts_in config last).row_conflicts
    (all_over config last (passed (read_so is_conflict))) (all_over config last (passed (write_so is_conflict)))
conflicts_two =
    found_two (λ rows. rows.reads.conflicts) (λ rows. rows.writes.conflicts) is_conflict (λ counts. counts.row_conflicts) read_conflicts
    write_conflicts (λ a b. refl) (λ a b. refl) conflicts_counted

reads_three : (config : Config) (last : Run) → AreEven config last
    → AreThree (rows_of last).reads.hits (rows_of last).reads.misses (rows_of last).reads.conflicts (counts_in config last).reads
    (counts_in config last).reads_auto
    (all_over config last (passed (read_so is_hit))) (all_over config last (passed (read_so is_miss)))
    (all_over config last (passed (read_so is_conflict))) (all_over config last (kind_count is_rd is_any))
    (all_over config last (kind_count is_rda is_any))
reads_three =
    kind_three (λ rows. rows.reads.hits) (λ rows. rows.reads.misses) (λ rows. rows.reads.conflicts) (read_so is_hit) (read_so is_miss)
    (read_so is_conflict) (λ counts. counts.reads) (λ counts. counts.reads_auto)
    (kind_count is_rd is_any) (kind_count is_rda is_any) read_hits read_misses read_conflicts (λ a b. refl) (λ a b. refl) (λ a b. refl)
    reads_counted reads_auto_counted all_reads

writes_three : (config : Config) (last : Run) → AreEven config last
    → AreThree (rows_of last).writes.hits (rows_of last).writes.misses (rows_of last).writes.conflicts (counts_in config last).writes
    (counts_in config last).writes_auto
    (all_over config last (passed (write_so is_hit))) (all_over config last (passed (write_so is_miss)))
    (all_over config last (passed (write_so is_conflict))) (all_over config last (kind_count is_wr is_any))
    (all_over config last (kind_count is_wra is_any))
writes_three =
    kind_three (λ rows. rows.writes.hits) (λ rows. rows.writes.misses) (λ rows. rows.writes.conflicts) (write_so is_hit) (write_so is_miss)
    (write_so is_conflict) (λ counts. counts.writes) (λ counts. counts.writes_auto)
    (kind_count is_wr is_any) (kind_count is_wra is_any) write_hits write_misses write_conflicts (λ a b. refl) (λ a b. refl) (λ a b. refl)
    writes_counted writes_auto_counted all_writes

-- ---- what a reader of the tables sees

pub even_agree : (config : Config) (last : Run) → AreEven config last → CountsAgree config last
even_agree config last is = record {
  hits = two_agree _ _ _ _ _ (hits_two config last is);
  misses = two_agree _ _ _ _ _ (misses_two config last is);
  conflicts = two_agree _ _ _ _ _ (conflicts_two config last is);
  reads = three_agree _ _ _ _ _ _ _ _ _ _ (reads_three config last is);
  writes = three_agree _ _ _ _ _ _ _ _ _ _ (writes_three config last is);
}

pub even_add_up : (config : Config) (last : Run) → config.geometry.channels * last.round < 2 ^ 64 → AreEven config last
    → CountsAddUp config last
even_add_up config last few is = record {
  hits = two_add _ _ _ _ _ (hits_two config last is) (found_below is_hit config last is few);
  misses = two_add _ _ _ _ _ (misses_two config last is) (found_below is_miss config last is few);
  conflicts = two_add _ _ _ _ _ (conflicts_two config last is) (found_below is_conflict config last is few);
  reads =
      three_add _ _ _ _ _ _ _ _ _ _ (reads_three config last is)
      (kind_below (kind_count is_rd is_any) (kind_count is_rda is_any) few_reads config last is few);
  writes =
      three_add _ _ _ _ _ _ _ _ _ _ (writes_three config last is)
      (kind_below (kind_count is_wr is_any) (kind_count is_wra is_any) few_writes config last is few);
}
