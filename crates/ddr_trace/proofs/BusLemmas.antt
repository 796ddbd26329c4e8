-- In a legal trace no two bursts overlap on the data bus.
use Rattle.std.proofs.Common.{◌≡◌, ℕ, ◌+◌, ◌<◌, ◌≤◌, true, false, not, nat_lt, max, ◌-◌, List, length, take, get_or, Some, slice_get, sym, ap, arith, ◌∙◌, Bool, ◌&&◌, refl}
use Rattle.std.specs.List.{list_any}
use Rattle.std.proofs.lemmas.Bool.{eqb-true, false≢true, false_from_ne_true}
use Rattle.std.proofs.lemmas.Bool.Decides.{nat_tests}
use Rattle.std.proofs.lemmas.List.{get_or-take, length-take-le}
use Rattle.std.proofs.lemmas.List.Folds.{list_any_at}
use Rattle.std.proofs.lemmas.Option.{get_or_from_slice_get, slice_get_within}
use Rattle.ddr_timing.specs.declared.config.Config.{Config}
use Rattle.ddr_timing.specs.declared.timing.Timing.{Timing}
use Rattle.ddr_trace.specs.declared.command.Command.{Command}
use Rattle.ddr_trace.specs.declared.command.Command.TheVariants.{Rd, Wr, RdAuto, WrAuto}
use Rattle.ddr_trace.specs.declared.command.Entry.{Entry}
use Rattle.ddr_trace.specs.declared.rule.Rule.{Rule}
use Rattle.ddr_trace.specs.declared.rule.Rule.TheVariants as rule
use Rattle.ddr_trace.specs.Commands.{is_auto, is_column, is_same_rank, rank_of}
use Rattle.ddr_trace.specs.Rules.{Spacing, breaks, is_on_commands, is_switched_too_soon, latency, rank_switch, spacing_of, speaks_of}
use Rattle.ddr_trace.specs.Legality.{IsLegal}
use Rattle.ddr_trace.specs.Bus.{KeepsBus, burst_start}

-- the pair of commands is one that the spacing speaks of, and the distance is not kept
abbrev is_close : (ℕ → Bool) → Spacing → Command → Command → Bool
is_close close s a b = speaks_of s a b && close s.at_least

-- two commands keep the distances that are asked of column commands
record KeepsDistances (t : Timing) (x y : ℕ) (p q : Command) : Type 0 where
  same_group : is_close (λ n. nat_lt y (x + n)) (spacing_of t rule.CcdL) p q ≡ false
  other_group : is_close (λ n. nat_lt y (x + n)) (spacing_of t rule.CcdS) p q ≡ false
  read_in_group : is_close (λ n. nat_lt y (x + n)) (spacing_of t rule.WtrL) p q ≡ false
  read_in_other_group : is_close (λ n. nat_lt y (x + n)) (spacing_of t rule.WtrS) p q ≡ false
  write : is_close (λ n. nat_lt y (x + n)) (spacing_of t rule.Rtw) p q ≡ false

-- the distances keep the bursts of one rank's column commands apart
plain_apart : (t : Timing) (x y : ℕ) (p q : Command) → is_auto p ≡ false → is_auto q ≡ false → rank_of p ≡ rank_of q → is_column p ≡ true → is_column q ≡ true → KeepsDistances t x y p q → x + latency t p + 4 ≤ y + latency t q
plain_apart t x y (Rd k g n w l) (Rd k' g' n' w' l') _ _ rank first second kept = grind (arith, nat_tests, kept.same_group, kept.other_group)
plain_apart t x y (Rd k g n w l) (Wr k' g' n' w' l') _ _ rank first second kept = grind (arith, nat_tests, kept.write)
plain_apart t x y (Wr k g n w l) (Rd k' g' n' w' l') _ _ rank first second kept = grind (arith, nat_tests, kept.read_in_group, kept.read_in_other_group)
plain_apart t x y (Wr k g n w l) (Wr k' g' n' w' l') _ _ rank first second kept = grind (arith, nat_tests, kept.same_group, kept.other_group)
plain_apart t x y (RdAuto k g n w l) _ plain _ rank first second kept = cc plain
plain_apart t x y (WrAuto k g n w l) _ plain _ rank first second kept = cc plain
plain_apart t x y _ (RdAuto k g n w l) _ plain rank first second kept = cc plain
plain_apart t x y _ (WrAuto k g n w l) _ plain rank first second kept = cc plain
plain_apart t x y _ _ _ _ rank first second kept = cc

-- an auto-precharge changes nothing of its burst
second_apart : (t : Timing) (x y : ℕ) (p q : Command) → is_auto p ≡ false → rank_of p ≡ rank_of q → is_column p ≡ true → is_column q ≡ true → KeepsDistances t x y p q → x + latency t p + 4 ≤ y + latency t q
second_apart t x y p (RdAuto k g n w l) plain rank first second kept = plain_apart t x y p (Rd k g n w l) plain refl rank first second (record { same_group = kept.same_group; other_group = kept.other_group; read_in_group = kept.read_in_group; read_in_other_group = kept.read_in_other_group; write = kept.write })
second_apart t x y p (WrAuto k g n w l) plain rank first second kept = plain_apart t x y p (Wr k g n w l) plain refl rank first second (record { same_group = kept.same_group; other_group = kept.other_group; read_in_group = kept.read_in_group; read_in_other_group = kept.read_in_other_group; write = kept.write })
second_apart t x y p (Rd k g n w l) plain rank first second kept = plain_apart t x y p (Rd k g n w l) plain refl rank first second kept
second_apart t x y p (Wr k g n w l) plain rank first second kept = plain_apart t x y p (Wr k g n w l) plain refl rank first second kept
second_apart t x y p _ plain rank first second kept = cc

rank_apart : (t : Timing) (x y : ℕ) (p q : Command) → rank_of p ≡ rank_of q → is_column p ≡ true → is_column q ≡ true → KeepsDistances t x y p q → x + latency t p + 4 ≤ y + latency t q
rank_apart t x y (RdAuto k g n w l) q rank first second kept = second_apart t x y (Rd k g n w l) q refl rank first second (record { same_group = kept.same_group; other_group = kept.other_group; read_in_group = kept.read_in_group; read_in_other_group = kept.read_in_other_group; write = kept.write })
rank_apart t x y (WrAuto k g n w l) q rank first second kept = second_apart t x y (Wr k g n w l) q refl rank first second (record { same_group = kept.same_group; other_group = kept.other_group; read_in_group = kept.read_in_group; read_in_other_group = kept.read_in_other_group; write = kept.write })
rank_apart t x y (Rd k g n w l) q rank first second kept = second_apart t x y (Rd k g n w l) q refl rank first second kept
rank_apart t x y (Wr k g n w l) q rank first second kept = second_apart t x y (Wr k g n w l) q refl rank first second kept
rank_apart t x y _ q rank first second kept = cc

-- and the rank switch those of different ranks
switch_apart : (x y p q rtrs : ℕ) → nat_lt y (x + max 4 (p + 4 + rtrs - q)) ≡ false → x + p + 4 ≤ y + q
switch_apart x y p q rtrs h = grind (arith, nat_tests)

ranks_apart : (t : Timing) (a b : Entry) → is_same_rank a.command b.command ≡ false → is_column a.command ≡ true → is_column b.command ≡ true → is_switched_too_soon t a b ≡ false → burst_start t a + 4 ≤ burst_start t b
ranks_apart t a b ranks first second kept =
    switch_apart a.cycle b.cycle (latency t a.command) (latency t b.command) t.rtrs (sym (ap (λ r. is_column a.command && is_column b.command && not r && nat_lt b.cycle (a.cycle + rank_switch t a.command b.command)) ranks ∙ rw (first, second) refl) ∙ kept)

-- an entry that no earlier one breaks a rule with breaks none with each in its history
far_enough : (test : Entry → Bool) (entries : List Entry) (i j : ℕ) (a : Entry) → i < j → j ≤ length entries → slice_get entries i ≡ Some a → list_any test (take j entries) ≡ false → test a ≡ false
far_enough test entries i j a before within here kept = false_from_ne_true (test a) (λ close.
    let size : length (take j entries) ≡ j = length-take-le j entries within in
    false≢true (sym kept ∙ list_any_at test (take j entries) i a (omega arith) (rw there close)))
  where
    there : get_or (take j entries) i a ≡ a
    there = get_or-take j entries i a before ∙ get_or_from_slice_get entries i a a here

-- no two bursts of a legal trace overlap
pub bus_kept : (c : Config) (start end : ℕ) (entries : List Entry) → IsLegal c start end entries → KeepsBus c.timing entries
bus_kept c start end entries legal i j a b before here there first second = by_rank (is_same_rank a.command b.command) refl
  where
    kept : (r : Rule) → is_on_commands r ≡ true → breaks c start end r (take j entries) b ≡ false
    kept r low = rw there at (legal j r low)

    far : (test : Entry → Bool) → list_any test (take j entries) ≡ false → test a ≡ false
    far test h =
        let within : j < length entries = slice_get_within entries j b there in
        far_enough test entries i j a before (omega arith) here h

    by_rank : (same : Bool) → is_same_rank a.command b.command ≡ same → burst_start c.timing a + 4 ≤ burst_start c.timing b
    by_rank false ranks = ranks_apart c.timing a b ranks first second (far _ (kept rule.Rtrs refl))
    by_rank true ranks = rank_apart c.timing a.cycle b.cycle a.command b.command (eqb-true _ _ ranks) first second record {
      same_group = far _ (kept rule.CcdL refl);
      other_group = far _ (kept rule.CcdS refl);
      read_in_group = far _ (kept rule.WtrL refl);
      read_in_other_group = far _ (kept rule.WtrS refl);
      write = far _ (kept rule.Rtw refl);
    }
