-- RTRS is told by the last read and the last write of the other rank.
use Rattle.std.proofs.Common.{◌≡◌, ℕ, ◌+◌, ◌-◌, ◌<◌, Bool, true, false, ◌&&◌, ◌||◌, not, nat_lt, max, if◌then◌else◌, List, [], ◌∷◌, Option, Some, None, refl, sym, ap, arith, ◌∙◌}
use Rattle.std.specs.List.{AllByRecursion, list_any}
use Rattle.std.specs.Option.{option_map}
use Rattle.ddr_timing.specs.declared.geometry.Geometry.{Geometry}
use Rattle.ddr_timing.specs.declared.timing.Timing.{Timing}
use Rattle.ddr_timing.specs.declared.units.TheConstants.{BURST_CLOCKS}
use Rattle.ddr_trace.specs.declared.command.Command.{Command}
use Rattle.ddr_trace.specs.declared.command.Command.TheVariants.{Rd, Wr, RdAuto, WrAuto, Refresh}
use Rattle.ddr_trace.specs.declared.command.Entry.{Entry}
use Rattle.ddr_trace.specs.Commands.{is_column, is_read, is_refresh, is_same_rank, is_write, rank_of}
use Rattle.ddr_trace.specs.Rules.{breaks_rtrs, is_in, is_switched_too_soon, latency}
use Rattle.ddr_rank.proofs.LatestLemmas.{any_within}
use Rattle.ddr_rank.specs.Latest.{is_within}
use Rattle.ddr_rank.specs.Stands.{is_of_rank}
use Rattle.ddr_legality.specs.declared.columns.Columns.{Columns}
use Rattle.ddr_legality.specs.Columns.{IsLast, KeepsColumns, is_switched_soon, switches_soon}
use Rattle.ddr_legality.proofs.RankLemmas.{other_rank, rank_within}

-- the least distance behind a command of this latency
abbrev behind : Timing → ℕ → Command → ℕ
behind t first command = max BURST_CLOCKS (first + BURST_CLOCKS + t.rtrs - latency t command)

-- a command that passes the test stands too close before the entry
abbrev any_too_close : Timing → ℕ → (Command → Bool) → List Entry → Entry → Bool
any_too_close t first test history e =
    list_any (λ a. test a.command && nat_lt e.cycle (a.cycle + behind t first e.command)) history

-- a read is no write
not_write : (c : Command) → is_write c ≡ true → is_read c ≡ false
not_write (Wr k n b w l) h = refl
not_write (WrAuto k n b w l) h = refl
not_write _ h = cc

read_latency : (t : Timing) (a b : Bool) → (a && b) ≡ true → (if a then t.cl else t.cwl) ≡ t.cl
read_latency t true b h = refl
read_latency t false b h = cc

write_latency : (t : Timing) (c : Command) (b : Bool) → (is_write c && b) ≡ true → latency t c ≡ t.cwl
write_latency t c b h = by_kind (is_write c) refl h
  where
    by_kind : (w : Bool) → is_write c ≡ w → (w && b) ≡ true → latency t c ≡ t.cwl
    by_kind true is h = rw (not_write c is) refl
    by_kind false is h = cc

-- all commands of one latency that pass a test, by the last of them
by_last : (t : Timing) (first : ℕ) (test : Command → Bool) (history : List Entry) (e : Entry) (last : Option Entry) → IsLast test history last → ((c : Command) → test c ≡ true → latency t c ≡ first) → is_switched_soon t last e ≡ any_too_close t first test history e
by_last t first test history e last kept alike =
    here last kept.passes
    ∙ ap (λ o. is_within (behind t first e.command) e.cycle o) kept.cycle
    ∙ sym (any_within test (behind t first e.command) e.cycle history)
  where
    here : (o : Option Entry) → ((a : Entry) → o ≡ Some a → test a.command ≡ true) → is_switched_soon t o e ≡ is_within (behind t first e.command) e.cycle (option_map {T = Entry} (λ a. a.cycle) o)
    here None passes = refl
    here (Some a) passes = rw (alike a.command (passes a refl)) refl

-- a command of the other rank is a read, a write, or neither
kinds : (close : ℕ → Bool) (t : Timing) (c : Command) (other : Bool) → (((is_column c && true) && other) && close (latency t c)) ≡ (((is_read c && other) && close t.cl) || ((is_write c && other) && close t.cwl))
kinds close t (Rd k n b w l) other = sym (or_false (other && close t.cl))
  where
    or_false : (b : Bool) → (b || false) ≡ b
    or_false true = refl
    or_false false = refl
kinds close t (RdAuto k n b w l) other = sym (or_false (other && close t.cl))
  where
    or_false : (b : Bool) → (b || false) ≡ b
    or_false true = refl
    or_false false = refl
kinds close t _ other = refl

shuffled : (a b c d : Bool) → ((a || b) || (c || d)) ≡ ((a || c) || (b || d))
shuffled true b c d = refl
shuffled false true true d = refl
shuffled false true false d = refl
shuffled false false c d = refl

abbrev reads : ℕ → Command → Bool
reads rank c = is_read c && is_of_rank rank c

abbrev writes : ℕ → Command → Bool
writes rank c = is_write c && is_of_rank rank c

module _ (g : Geometry) (t : Timing) (e : Entry) (other : ℕ) (two : rank_of e.command + other ≡ 1) (column : is_column e.command ≡ true) where
  read_close : Entry → Bool
  read_close a = reads other a.command && nat_lt e.cycle (a.cycle + behind t t.cl e.command)

  write_close : Entry → Bool
  write_close a = writes other a.command && nat_lt e.cycle (a.cycle + behind t t.cwl e.command)

  by_entry : (a : Entry) → is_in g a.command ≡ true → is_switched_too_soon t a e ≡ (read_close a || write_close a)
  unfolding read_close write_close
  by_entry a placed =
      let below : rank_of a.command < 2 = omega (arith, rank_within g a.command placed, g.ranks_range) in
      ap (λ b. is_column a.command && b && not (is_same_rank a.command e.command) && nat_lt e.cycle (a.cycle + behind t (latency t a.command) e.command)) column
      ∙ ap (λ b. is_column a.command && true && b && nat_lt e.cycle (a.cycle + behind t (latency t a.command) e.command)) (other_rank (rank_of a.command) (rank_of e.command) other below two)
      ∙ kinds (λ first. nat_lt e.cycle (a.cycle + behind t first e.command)) t a.command (is_of_rank other a.command)

  split : (history : List Entry) → AllByRecursion (λ a. is_in g a.command ≡ true) history → breaks_rtrs t history e ≡ (list_any read_close history || list_any write_close history)
  split [] placed = refl
  split (a ∷ history) placed =
      ap (λ b. b || breaks_rtrs t history e) (by_entry a placed.0)
      ∙ ap (λ b. (read_close a || write_close a) || b) (split history placed.1)
      ∙ shuffled (read_close a) (write_close a) (list_any read_close history) (list_any write_close history)

  by_kind : (history : List Entry) → AllByRecursion (λ a. is_in g a.command ≡ true) history → breaks_rtrs t history e ≡ (any_too_close t t.cl (reads other) history e || any_too_close t t.cwl (writes other) history e)
  unfolding read_close write_close
  by_kind history placed = split history placed

-- only a read or a write breaks the rule
pub no_switch : (t : Timing) (history : List Entry) (e : Entry) → is_column e.command ≡ false → breaks_rtrs t history e ≡ false
no_switch t [] e none = refl
no_switch t (a ∷ history) e none =
    rw (none, no_switch t history e none) (off (is_column a.command) _ _)
  where
    off : (a b c : Bool) → (((a && false) && b && c) || false) ≡ false
    off true b c = refl
    off false b c = refl

pub no_column : (c : Command) → is_refresh c ≡ true → is_column c ≡ false
no_column (Refresh k) h = refl
no_column _ h = cc

-- RTRS, by the last read and the last write
pub switch_told : (g : Geometry) (t : Timing) (history : List Entry) (e : Entry) (other : ℕ) (columns : Columns) → AllByRecursion (λ a. is_in g a.command ≡ true) history → rank_of e.command + other ≡ 1 → KeepsColumns other history columns → switches_soon t columns e ≡ breaks_rtrs t history e
switch_told g t history e other columns placed two kept = by_test (is_column e.command) refl
  where
    by_test : (w : Bool) → is_column e.command ≡ w → (w && (is_switched_soon t columns.read e || is_switched_soon t columns.write e)) ≡ breaks_rtrs t history e
    by_test false none = sym (no_switch t history e none)
    by_test true column =
        ap (λ b. b || is_switched_soon t columns.write e) (by_last t t.cl (reads other) history e columns.read kept.read (λ c passes. read_latency t (is_read c) _ passes))
        ∙ ap (λ b. any_too_close t t.cl (reads other) history e || b) (by_last t t.cwl (writes other) history e columns.write kept.write (λ c passes. write_latency t c _ passes))
        ∙ sym (by_kind g t e other two column history placed)
