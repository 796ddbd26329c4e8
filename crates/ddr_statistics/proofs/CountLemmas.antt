-- The numbers of a history, as its next entry joins it.
use Rattle.std.proofs.Common.{◌≡◌, ℕ, ◌+◌, ◌*◌, ◌^◌, ◌<◌, ◌≤◌, Bool, true, false, ◌&&◌, if◌then◌else◌, List, [], ◌∷◌, ◌++◌, length, cond, Option, Some, refl, sym, ap, arith, add_assoc, append_assoc, ◌∙◌}
use Rattle.std.proofs.lemmas.List.{append-nil}
use Rattle.std.proofs.lemmas.List.Sums.{count_by-le-length, fold_push, sum_by_push}
use Rattle.ddr_timing.specs.declared.units.TheConstants.{BURST_CLOCKS, CLOCK_STOP}
use Rattle.ddr_trace.specs.declared.command.Command.{Command}
use Rattle.ddr_trace.specs.declared.command.Entry.{Entry}
use Rattle.ddr_trace.specs.Commands.{is_activate, is_column, is_of_all_banks, is_refresh}
use Rattle.ddr_statistics.specs.declared.bank.Visit.{Visit}
use Rattle.ddr_statistics.specs.declared.counts.Counts.{Counts}
use Rattle.ddr_statistics.specs.declared.counts.Finding.{Finding}
use Rattle.ddr_statistics.specs.Counts.{count_behind, count_from, counts_of, found_count, is_pre, is_rd, is_rda, is_wr, is_wra, kind_count}
use Rattle.ddr_statistics.specs.Noted.{counts_noted, raised, raised_if, turns_noted}
use Rattle.ddr_statistics.specs.Stands.{turns_of}
use Rattle.ddr_statistics.specs.Turns.{is_rank_switch, is_turn_round, last_column}
use Rattle.ddr_statistics.specs.Visits.{finding, first_visit, is_at, is_conflict, is_hit, is_miss, visit_after, visit_behind}

count_from-push : (test : List Entry → Entry → Bool) (before later : List Entry) (e : Entry)
    → count_from test before (later ++ e ∷ []) ≡ count_from test before later + (if test (before ++ later) e then 1 else 0)
count_from-push test before [] e = rw (append-nil before) (omega arith)
count_from-push test before (a ∷ later) e =
    ap (λ n. (if test before a then 1 else 0) + n)
    (count_from-push test (before ++ a ∷ []) later e
    ∙ ap (λ (h : List Entry). count_from test (before ++ a ∷ []) later + (if test h e then 1 else 0)) (append_assoc before (a ∷ []) later))
    ∙ sym (add_assoc (if test before a then 1 else 0) (count_from test (before ++ a ∷ []) later) (if test (before ++ a ∷ later) e then 1 else 0))

pub count_behind-push : (test : List Entry → Entry → Bool) (history : List Entry) (e : Entry)
    → count_behind test (history ++ e ∷ []) ≡ count_behind test history + (if test history e then 1 else 0)
unfolding count_behind
count_behind-push test history e = count_from-push test [] history e

one_at_most : (w : Bool) → (if w then 1 else 0) ≤ 1
one_at_most true = omega arith
one_at_most false = omega arith

count_from-le-length : (test : List Entry → Entry → Bool) (before later : List Entry) → count_from test before later ≤ length later
count_from-le-length test before [] = omega arith
count_from-le-length test before (a ∷ later) =
    let here = one_at_most (test before a) in
    let behind = count_from-le-length test (before ++ a ∷ []) later in
    omega (arith, here, behind)

count_behind-le-length : (test : List Entry → Entry → Bool) (history : List Entry) → count_behind test history ≤ length history
unfolding count_behind
count_behind-le-length test history = count_from-le-length test [] history

kind_count-push : (kind place : Command → Bool) (history : List Entry) (e : Entry)
    → kind_count kind place (history ++ e ∷ []) ≡ kind_count kind place history + (if place e.command && kind e.command then 1 else 0)
unfolding kind_count
kind_count-push kind place history e = sum_by_push (λ (a : Entry). cond (place a.command && kind a.command) 1 0) history e

kind_count-le-length : (kind place : Command → Bool) (history : List Entry) → kind_count kind place history ≤ length history
unfolding kind_count
kind_count-le-length kind place history = count_by-le-length (λ (a : Entry). place a.command && kind a.command) history

-- no number stops
raised_exactly : (by n : ℕ) → n + by < 2 ^ 64 → raised by n ≡ n + by
raised_exactly by n h = omega arith

raised_once : (w : Bool) (n : ℕ) → n + 1 < CLOCK_STOP → raised_if w n ≡ n + (if w then 1 else 0)
raised_once true n h = raised_exactly 1 n (omega arith)
raised_once false n h = omega arith

raised_by_burst : (w : Bool) (n : ℕ) → n + 1 < CLOCK_STOP → (if w then raised BURST_CLOCKS (BURST_CLOCKS * n) else BURST_CLOCKS * n) ≡ BURST_CLOCKS * (n + (if w then 1 else 0))
raised_by_burst true n h = raised_exactly 4 (4 * n) (omega arith) ∙ omega arith
raised_by_burst false n h = omega arith

-- a number that counts by a test of the entry and of what stands before it
pub behind_step : (test : List Entry → Entry → Bool) (w : Bool) (history : List Entry) (e : Entry) → test history e ≡ w → length history + 1 < CLOCK_STOP
    → raised_if w (count_behind test history) ≡ count_behind test (history ++ e ∷ [])
behind_step test w history e is short =
    let few = count_behind-le-length test history in
    raised_once w (count_behind test history) (omega (arith, few))
    ∙ sym (count_behind-push test history e ∙ ap (λ v. count_behind test history + (if v then 1 else 0)) is)

kind_step : (kind place : Command → Bool) (history : List Entry) (e : Entry) → place e.command ≡ true → length history + 1 < CLOCK_STOP
    → raised_if (kind e.command) (kind_count kind place history) ≡ kind_count kind place (history ++ e ∷ [])
kind_step kind place history e here short =
    let few = kind_count-le-length kind place history in
    raised_once (kind e.command) (kind_count kind place history) (omega (arith, few))
    ∙ sym (kind_count-push kind place history e ∙ ap (λ v. kind_count kind place history + (if v && kind e.command then 1 else 0)) here)

burst_step : (place : Command → Bool) (history : List Entry) (e : Entry) → place e.command ≡ true → length history + 1 < CLOCK_STOP
    → (if is_column e.command then raised BURST_CLOCKS (BURST_CLOCKS * kind_count is_column place history) else BURST_CLOCKS * kind_count is_column place history) ≡ BURST_CLOCKS * kind_count is_column place (history ++ e ∷ [])
burst_step place history e here short =
    let few = kind_count-le-length is_column place history in
    raised_by_burst (is_column e.command) (kind_count is_column place history) (omega (arith, few))
    ∙ sym (ap (λ n. BURST_CLOCKS * n) (kind_count-push is_column place history e ∙ ap (λ v. kind_count is_column place history + (if v && is_column e.command then 1 else 0)) here))

found_step : (so : Option Finding → Bool) (place : Command → Bool) (history : List Entry) (e : Entry) → place e.command ≡ true → length history + 1 < CLOCK_STOP
    → raised_if (so (finding history e.command)) (found_count so place history) ≡ found_count so place (history ++ e ∷ [])
found_step so place history e here short =
    behind_step (λ before a. place a.command && so (finding before a.command)) (so (finding history e.command)) history e
    (ap (λ v. v && so (finding history e.command)) here) short

-- counts are the same where their numbers are
pub alike : (a b : Counts)
    → a.activates ≡ b.activates
    → a.precharges ≡ b.precharges
    → a.precharges_all ≡ b.precharges_all
    → a.reads ≡ b.reads
    → a.writes ≡ b.writes
    → a.reads_auto ≡ b.reads_auto
    → a.writes_auto ≡ b.writes_auto
    → a.refreshes ≡ b.refreshes
    → a.row_hits ≡ b.row_hits
    → a.row_misses ≡ b.row_misses
    → a.row_conflicts ≡ b.row_conflicts
    → a.busy_clocks ≡ b.busy_clocks
    → a ≡ b
alike a b activates precharges precharges_all reads writes reads_auto writes_auto refreshes row_hits row_misses row_conflicts busy_clocks =
    λ i. record {
      activates = activates i;
      precharges = precharges i;
      precharges_all = precharges_all i;
      reads = reads i;
      writes = writes i;
      reads_auto = reads_auto i;
      writes_auto = writes_auto i;
      refreshes = refreshes i;
      row_hits = row_hits i;
      row_misses = row_misses i;
      row_conflicts = row_conflicts i;
      busy_clocks = busy_clocks i;
    }

-- a command of the place
pub counts_step : (place : Command → Bool) (history : List Entry) (e : Entry) → place e.command ≡ true → length history + 1 < CLOCK_STOP
    → counts_noted e.command (finding history e.command) (counts_of place history) ≡ counts_of place (history ++ e ∷ [])
unfolding counts_of counts_noted
counts_step place history e here short =
    alike _ _
    (kind_step is_activate place history e here short)
    (kind_step is_pre place history e here short)
    (kind_step is_of_all_banks place history e here short)
    (kind_step is_rd place history e here short)
    (kind_step is_wr place history e here short)
    (kind_step is_rda place history e here short)
    (kind_step is_wra place history e here short)
    (kind_step is_refresh place history e here short)
    (found_step is_hit place history e here short)
    (found_step is_miss place history e here short)
    (found_step is_conflict place history e here short)
    (burst_step place history e here short)

-- a command of another place
kind_skip : (kind place : Command → Bool) (history : List Entry) (e : Entry) → place e.command ≡ false
    → kind_count kind place history ≡ kind_count kind place (history ++ e ∷ [])
kind_skip kind place history e away =
    sym (kind_count-push kind place history e ∙ ap (λ v. kind_count kind place history + (if v && kind e.command then 1 else 0)) away ∙ omega arith)

found_skip : (so : Option Finding → Bool) (place : Command → Bool) (history : List Entry) (e : Entry) → place e.command ≡ false
    → found_count so place history ≡ found_count so place (history ++ e ∷ [])
found_skip so place history e away =
    sym (count_behind-push (λ before a. place a.command && so (finding before a.command)) history e
    ∙ ap (λ v. found_count so place history + (if v && so (finding history e.command) then 1 else 0)) away
    ∙ omega arith)

pub counts_skip : (place : Command → Bool) (history : List Entry) (e : Entry) → place e.command ≡ false
    → counts_of place history ≡ counts_of place (history ++ e ∷ [])
unfolding counts_of
counts_skip place history e away =
    alike _ _
    (kind_skip is_activate place history e away)
    (kind_skip is_pre place history e away)
    (kind_skip is_of_all_banks place history e away)
    (kind_skip is_rd place history e away)
    (kind_skip is_wr place history e away)
    (kind_skip is_rda place history e away)
    (kind_skip is_wra place history e away)
    (kind_skip is_refresh place history e away)
    (found_skip is_hit place history e away)
    (found_skip is_miss place history e away)
    (found_skip is_conflict place history e away)
    (ap (λ n. BURST_CLOCKS * n) (kind_skip is_column place history e away))

-- a bank
pub visit_behind-push : (rank group bank : ℕ) (history : List Entry) (e : Entry)
    → visit_behind rank group bank (history ++ e ∷ []) ≡ (if is_at rank group bank e.command then visit_after e.command (visit_behind rank group bank history) else visit_behind rank group bank history)
unfolding visit_behind
visit_behind-push rank group bank history e =
    fold_push (λ (visit : Visit) (a : Entry). if is_at rank group bank a.command then visit_after a.command visit else visit) first_visit history e

-- the data bus
last_column-push : (history : List Entry) (e : Entry) → last_column (history ++ e ∷ []) ≡ (if is_column e.command then Some e.command else last_column history)
unfolding last_column
last_column-push history e = fold_push (λ (last : Option Command) (a : Entry). if is_column a.command then Some a.command else last) _ history e

pub turns_step : (history : List Entry) (e : Entry) → length history + 1 < CLOCK_STOP → turns_noted e.command (turns_of history) ≡ turns_of (history ++ e ∷ [])
turns_step history e short =
    let last = sym (last_column-push history e) in
    let rounds = behind_step is_turn_round (is_turn_round history e) history e refl short in
    let switches = behind_step is_rank_switch (is_rank_switch history e) history e refl short in
    λ i. record { last = last i; turn_rounds = rounds i; rank_switches = switches i }
