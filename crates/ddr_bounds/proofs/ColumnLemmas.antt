-- In a legal trace any two column commands stand at least a burst's clocks apart.
use Rattle.std.proofs.Common.{◌≡◌, ℕ, ◌+◌, ◌≤◌, Bool, true, false, ◌||◌, max, ltb, eqb, List, take, refl, sym, arith}
use Rattle.std.specs.List.{list_any}
use Rattle.std.proofs.lemmas.Bool.{false≢true}
use Rattle.std.proofs.lemmas.Bool.Decides.{nat_tests}
use Rattle.ddr_timing.specs.declared.config.Config.{Config}
use Rattle.ddr_timing.specs.declared.timing.Timing.{Timing}
use Rattle.ddr_trace.specs.declared.command.Command.{Command}
use Rattle.ddr_trace.specs.declared.command.Command.TheVariants.{Rd, RdAuto}
use Rattle.ddr_trace.specs.declared.command.Entry.{Entry}
use Rattle.ddr_trace.specs.declared.rule.Rule.{Rule}
use Rattle.ddr_trace.specs.declared.rule.Rule.TheVariants as rule
use Rattle.ddr_trace.specs.Commands.{is_read, is_write, is_column, is_same_rank, group_of}
use Rattle.ddr_trace.specs.Rules.{breaks, is_on_commands, is_switched_too_soon, is_too_close, spacing_of}
use Rattle.ddr_trace.specs.Legality.{IsLegal}
use Rattle.ddr_channel.specs.History.{Call, run}
use Rattle.ddr_channel.specs.Promise.{AreCalls}
use Rattle.ddr_channel.proofs.HistoryLemmas.{kept_run}
use Rattle.ddr_channel.proofs.ListLemmas.{list_any-none_at}
use Rattle.ddr_bounds.specs.Columns.{AreColumnsApart}
use Rattle.ddr_channel.proofs.PlaceLemmas.{taken_at}

-- the pair keeps the rule on two commands
abbrev Keeps : Timing → Rule → Entry → Entry → Type 0
Keeps t r a b = is_too_close (spacing_of t r) a b ≡ false

-- a pair keeps the distances that are asked of column commands
record KeepsDistances (t : Timing) (a b : Entry) : Type 0 where
  same_group : Keeps t rule.CcdL a b
  other_group : Keeps t rule.CcdS a b
  read_in_group : Keeps t rule.WtrL a b
  read_in_other_group : Keeps t rule.WtrS a b
  write : Keeps t rule.Rtw a b

-- two of a kind
alike_apart : (t : Timing) (a b : Entry) → is_same_rank a.command b.command ≡ true → is_column a.command ≡ true → is_column b.command ≡ true → (read write : Bool) → is_read a.command ≡ read → is_write a.command ≡ write → is_read b.command ≡ read → is_write b.command ≡ write
    → (same : Bool) → (eqb (group_of a.command) (group_of b.command)) ≡ same → KeepsDistances t a b → a.cycle + 4 ≤ b.cycle
alike_apart t a b rank first second true write ar aw br bw true group kept =
    let far : ltb b.cycle (a.cycle + t.ccd_l) ≡ false = rw (ar, br, rank, group) at kept.same_group in grind (arith, nat_tests)
alike_apart t a b rank first second true write ar aw br bw false group kept =
    let far : ltb b.cycle (a.cycle + t.ccd_s) ≡ false = rw (ar, br, rank, group) at kept.other_group in grind (arith, nat_tests)
alike_apart t a b rank first second false true ar aw br bw true group kept =
    let far : ltb b.cycle (a.cycle + t.ccd_l) ≡ false = rw (ar, aw, br, bw, rank, group) at kept.same_group in grind (arith, nat_tests)
alike_apart t a b rank first second false true ar aw br bw false group kept =
    let far : ltb b.cycle (a.cycle + t.ccd_s) ≡ false = rw (ar, aw, br, bw, rank, group) at kept.other_group in grind (arith, nat_tests)
alike_apart t a b rank first second false false ar aw br bw same group kept = absurd (false≢true (rw (ar, aw) at first))

-- a read and a write behind it
turn_apart : (t : Timing) (a b : Entry) → is_same_rank a.command b.command ≡ true → is_read a.command ≡ true → is_write b.command ≡ true → KeepsDistances t a b → a.cycle + 4 ≤ b.cycle
turn_apart t a b rank first second kept =
    let far : ltb b.cycle (a.cycle + t.rtw) ≡ false = rw (first, second, rank) at kept.write in grind (arith, nat_tests)

-- a write and a read behind it
back_apart : (t : Timing) (a b : Entry) → is_same_rank a.command b.command ≡ true → is_write a.command ≡ true → is_read b.command ≡ true → (same : Bool) → (eqb (group_of a.command) (group_of b.command)) ≡ same → KeepsDistances t a b → a.cycle + 4 ≤ b.cycle
back_apart t a b rank first second true group kept =
    let far : ltb b.cycle (a.cycle + (t.cwl + 4 + t.wtr_l)) ≡ false = rw (first, second, rank, group) at kept.read_in_group in grind (arith, nat_tests)
back_apart t a b rank first second false group kept =
    let far : ltb b.cycle (a.cycle + (t.cwl + 4 + t.wtr_s)) ≡ false = rw (first, second, rank, group) at kept.read_in_other_group in grind (arith, nat_tests)

-- a column command is a read or a write
written : (read write : Bool) → (read || write) ≡ true → read ≡ false → write ≡ true
written true write is not_read = absurd (false≢true (sym not_read))
written false write is not_read = is

not_both : (c : Command) → is_read c ≡ true → is_write c ≡ false
not_both (Rd k g n w l) read = refl
not_both (RdAuto k g n w l) read = refl
not_both _ read = cc

-- the distances keep the column commands of one rank apart
rank_apart : (t : Timing) (a b : Entry) → is_same_rank a.command b.command ≡ true → is_column a.command ≡ true → is_column b.command ≡ true → (first second : Bool) → is_read a.command ≡ first → is_read b.command ≡ second → KeepsDistances t a b → a.cycle + 4 ≤ b.cycle
rank_apart t a b rank column later true true is_first is_second kept =
    alike_apart t a b rank column later true false is_first (not_both a.command is_first) is_second (not_both b.command is_second) _ refl kept
rank_apart t a b rank column later true false is_first is_second kept = turn_apart t a b rank is_first (written _ _ later is_second) kept
rank_apart t a b rank column later false true is_first is_second kept = back_apart t a b rank (written _ _ column is_first) is_second _ refl kept
rank_apart t a b rank column later false false is_first is_second kept =
    alike_apart t a b rank column later false true is_first (written _ _ column is_first) is_second (written _ _ later is_second) _ refl kept

-- and the rank switch those of different ranks
most_apart : (x y n : ℕ) → ltb y (x + max 4 n) ≡ false → x + 4 ≤ y
most_apart x y n far = grind (arith, nat_tests)

ranks_apart : (t : Timing) (a b : Entry) → is_same_rank a.command b.command ≡ false → is_column a.command ≡ true → is_column b.command ≡ true → is_switched_too_soon t a b ≡ false → a.cycle + 4 ≤ b.cycle
ranks_apart t a b ranks first second kept = most_apart a.cycle b.cycle _ (rw (first, second, ranks) at kept)

pub columns_apart : (c : Config) (start end : ℕ) (entries : List Entry) → IsLegal c start end entries → AreColumnsApart entries
columns_apart c start end entries legal i j a b before here there first second = by_rank (is_same_rank a.command b.command) refl
  where
    kept : (r : Rule) → is_on_commands r ≡ true → breaks c start end r (take j entries) b ≡ false
    kept r low = rw there at (legal j r low)

    far : (test : Entry → Bool) → list_any test (take j entries) ≡ false → test a ≡ false
    far test none = list_any-none_at test (take j entries) i a none (taken_at entries j i a before here)

    by_rank : (same : Bool) → is_same_rank a.command b.command ≡ same → a.cycle + 4 ≤ b.cycle
    by_rank false ranks = ranks_apart c.timing a b ranks first second (far _ (kept rule.Rtrs refl))
    by_rank true ranks = rank_apart c.timing a b ranks first second _ _ refl refl record {
      same_group = far _ (kept rule.CcdL refl);
      other_group = far _ (kept rule.CcdS refl);
      read_in_group = far _ (kept rule.WtrL refl);
      read_in_other_group = far _ (kept rule.WtrS refl);
      write = far _ (kept rule.Rtw refl);
    }

-- so it is in every channel's trace
pub columns_of_run : (config : Config) (start : ℕ) (calls : List Call) → AreCalls config calls → AreColumnsApart (run config start calls).state.trace
columns_of_run config start calls may =
    let s = (run config start calls).state in
    columns_apart s.config s.start s.now s.trace (kept_run config start calls may).sound.legal
