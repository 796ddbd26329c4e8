-- What a command asks of the next one is what the rules on two commands say.
use Rattle.std.proofs.Common.{◌≡◌, ℕ, ◌+◌, ◌<◌, Bool, true, false, ◌&&◌, ◌||◌, ◌==◌, nat_lt, refl, arith}
use Rattle.std.specs.List.{list_any}
use Rattle.std.proofs.lemmas.Bool.Decides.{nat_tests}
use Rattle.ddr_timing.specs.declared.timing.Timing.{Timing}
use Rattle.ddr_trace.specs.declared.command.Command.{Command}
use Rattle.ddr_trace.specs.declared.command.Command.TheVariants.{Act, Rd, Wr, RdAuto, WrAuto, Pre, PreAll, Refresh}
use Rattle.ddr_trace.specs.declared.command.Entry.{Entry}
use Rattle.ddr_trace.specs.declared.rule.Rule.{Rule}
use Rattle.ddr_trace.specs.declared.rule.Rule.TheVariants as rule
use Rattle.ddr_trace.specs.declared.rule.TheConstants.Rule.{ALL}
use Rattle.ddr_trace.specs.Commands.{entry, is_same_kind, is_same_rank, rank_of}
use Rattle.ddr_trace.specs.Rules.{Spacing, is_too_close, spacing_of}
use Rattle.ddr_rank.proofs.HeldLemmas.{any_alike}
use Rattle.ddr_rank.proofs.PlaceLemmas.{same_number}
use Rattle.ddr_rank.specs.Ready.{LAST_CYCLE, after, asked_of, asked_of_all, asks_of, data_end, is_held_by}

-- one rule alone speaks of the two
only : (y cycle clocks : ℕ) → y < LAST_CYCLE → nat_lt y (after cycle clocks) ≡ (nat_lt y (cycle + clocks) || false)
only y cycle clocks below = grind (arith, nat_tests)

-- and none does
pub none : (y : ℕ) → nat_lt y 0 ≡ false
none y = grind (arith, nat_tests)

module _ (t : Timing) (g b y : ℕ) (below : y < LAST_CYCLE) where
  -- the next ACT of a bank
  pub asks_activate : (cycle : ℕ) (c : Command) → nat_lt y (asked_of (asks_of t (entry cycle c)) g b).activate ≡ is_held_by t (entry cycle c) (entry y (Act (rank_of c) g b 0))
  asks_activate cycle (Act k g' b' w) = by_place (g' == g) (b' == b) refl refl
    where
      by_place : (x z : Bool) → (g' == g) ≡ x → (b' == b) ≡ z → nat_lt y (asked_of (asks_of t (entry cycle (Act k g' b' w))) g b).activate ≡ is_held_by t (entry cycle (Act k g' b' w)) (entry y (Act k g b 0))
      by_place true true group bank = rw (group, bank, same_number k) (only y cycle t.rc below)
      by_place true false group bank = rw (group, bank, same_number k) (only y cycle t.rrd_l below)
      by_place false z group bank = rw (group, same_number k) (only y cycle t.rrd_s below)
  asks_activate cycle (Rd k g' b' w l) = by_place (g' == g) (b' == b) refl refl
    where
      by_place : (x z : Bool) → (g' == g) ≡ x → (b' == b) ≡ z → nat_lt y (asked_of (asks_of t (entry cycle (Rd k g' b' w l))) g b).activate ≡ is_held_by t (entry cycle (Rd k g' b' w l)) (entry y (Act k g b 0))
      by_place true true group bank = rw (group, bank) (none y)
      by_place true false group bank = rw (group, bank) (none y)
      by_place false z group bank = rw group (none y)
  asks_activate cycle (Wr k g' b' w l) = by_place (g' == g) (b' == b) refl refl
    where
      by_place : (x z : Bool) → (g' == g) ≡ x → (b' == b) ≡ z → nat_lt y (asked_of (asks_of t (entry cycle (Wr k g' b' w l))) g b).activate ≡ is_held_by t (entry cycle (Wr k g' b' w l)) (entry y (Act k g b 0))
      by_place true true group bank = rw (group, bank) (none y)
      by_place true false group bank = rw (group, bank) (none y)
      by_place false z group bank = rw group (none y)
  asks_activate cycle (RdAuto k g' b' w l) = by_place (g' == g) (b' == b) refl refl
    where
      by_place : (x z : Bool) → (g' == g) ≡ x → (b' == b) ≡ z → nat_lt y (asked_of (asks_of t (entry cycle (RdAuto k g' b' w l))) g b).activate ≡ is_held_by t (entry cycle (RdAuto k g' b' w l)) (entry y (Act k g b 0))
      by_place true true group bank = rw (group, bank) (none y)
      by_place true false group bank = rw (group, bank) (none y)
      by_place false z group bank = rw group (none y)
  asks_activate cycle (WrAuto k g' b' w l) = by_place (g' == g) (b' == b) refl refl
    where
      by_place : (x z : Bool) → (g' == g) ≡ x → (b' == b) ≡ z → nat_lt y (asked_of (asks_of t (entry cycle (WrAuto k g' b' w l))) g b).activate ≡ is_held_by t (entry cycle (WrAuto k g' b' w l)) (entry y (Act k g b 0))
      by_place true true group bank = rw (group, bank) (none y)
      by_place true false group bank = rw (group, bank) (none y)
      by_place false z group bank = rw group (none y)
  asks_activate cycle (Pre k g' b') = by_place (g' == g) (b' == b) refl refl
    where
      by_place : (x z : Bool) → (g' == g) ≡ x → (b' == b) ≡ z → nat_lt y (asked_of (asks_of t (entry cycle (Pre k g' b'))) g b).activate ≡ is_held_by t (entry cycle (Pre k g' b')) (entry y (Act k g b 0))
      by_place true true group bank = rw (group, bank, same_number k) (only y cycle t.rp below)
      by_place true false group bank = rw (group, bank, same_number k) (none y)
      by_place false z group bank = rw (group, same_number k) (none y)
  asks_activate cycle (PreAll k) = by_place (0 == g) (0 == b) refl refl
    where
      by_place : (x z : Bool) → (0 == g) ≡ x → (0 == b) ≡ z → nat_lt y (asked_of (asks_of t (entry cycle (PreAll k))) g b).activate ≡ is_held_by t (entry cycle (PreAll k)) (entry y (Act k g b 0))
      by_place true true group bank = rw (group, bank, same_number k) (only y cycle t.rp below)
      by_place true false group bank = rw (group, bank, same_number k) (only y cycle t.rp below)
      by_place false z group bank = rw (group, same_number k) (only y cycle t.rp below)
  asks_activate cycle (Refresh k) = by_place (0 == g) (0 == b) refl refl
    where
      by_place : (x z : Bool) → (0 == g) ≡ x → (0 == b) ≡ z → nat_lt y (asked_of (asks_of t (entry cycle (Refresh k))) g b).activate ≡ is_held_by t (entry cycle (Refresh k)) (entry y (Act k g b 0))
      by_place true true group bank = rw (group, bank, same_number k) (only y cycle t.rfc below)
      by_place true false group bank = rw (group, bank, same_number k) (only y cycle t.rfc below)
      by_place false z group bank = rw (group, same_number k) (only y cycle t.rfc below)

  -- its next read
  pub asks_read : (cycle : ℕ) (c : Command) → nat_lt y (asked_of (asks_of t (entry cycle c)) g b).read ≡ is_held_by t (entry cycle c) (entry y (Rd (rank_of c) g b 0 0))
  asks_read cycle (Act k g' b' w) = by_place (g' == g) (b' == b) refl refl
    where
      by_place : (x z : Bool) → (g' == g) ≡ x → (b' == b) ≡ z → nat_lt y (asked_of (asks_of t (entry cycle (Act k g' b' w))) g b).read ≡ is_held_by t (entry cycle (Act k g' b' w)) (entry y (Rd k g b 0 0))
      by_place true true group bank = rw (group, bank, same_number k) (only y cycle t.rcd below)
      by_place true false group bank = rw (group, bank, same_number k) (none y)
      by_place false z group bank = rw (group, same_number k) (none y)
  asks_read cycle (Rd k g' b' w l) = by_place (g' == g) (b' == b) refl refl
    where
      by_place : (x z : Bool) → (g' == g) ≡ x → (b' == b) ≡ z → nat_lt y (asked_of (asks_of t (entry cycle (Rd k g' b' w l))) g b).read ≡ is_held_by t (entry cycle (Rd k g' b' w l)) (entry y (Rd k g b 0 0))
      by_place true true group bank = rw (group, bank, same_number k) (only y cycle t.ccd_l below)
      by_place true false group bank = rw (group, bank, same_number k) (only y cycle t.ccd_l below)
      by_place false z group bank = rw (group, same_number k) (only y cycle t.ccd_s below)
  asks_read cycle (Wr k g' b' w l) = by_place (g' == g) (b' == b) refl refl
    where
      by_place : (x z : Bool) → (g' == g) ≡ x → (b' == b) ≡ z → nat_lt y (asked_of (asks_of t (entry cycle (Wr k g' b' w l))) g b).read ≡ is_held_by t (entry cycle (Wr k g' b' w l)) (entry y (Rd k g b 0 0))
      by_place true true group bank = rw (group, bank, same_number k) (only y cycle (data_end t + t.wtr_l) below)
      by_place true false group bank = rw (group, bank, same_number k) (only y cycle (data_end t + t.wtr_l) below)
      by_place false z group bank = rw (group, same_number k) (only y cycle (data_end t + t.wtr_s) below)
  asks_read cycle (RdAuto k g' b' w l) = by_place (g' == g) (b' == b) refl refl
    where
      by_place : (x z : Bool) → (g' == g) ≡ x → (b' == b) ≡ z → nat_lt y (asked_of (asks_of t (entry cycle (RdAuto k g' b' w l))) g b).read ≡ is_held_by t (entry cycle (RdAuto k g' b' w l)) (entry y (Rd k g b 0 0))
      by_place true true group bank = rw (group, bank, same_number k) (only y cycle t.ccd_l below)
      by_place true false group bank = rw (group, bank, same_number k) (only y cycle t.ccd_l below)
      by_place false z group bank = rw (group, same_number k) (only y cycle t.ccd_s below)
  asks_read cycle (WrAuto k g' b' w l) = by_place (g' == g) (b' == b) refl refl
    where
      by_place : (x z : Bool) → (g' == g) ≡ x → (b' == b) ≡ z → nat_lt y (asked_of (asks_of t (entry cycle (WrAuto k g' b' w l))) g b).read ≡ is_held_by t (entry cycle (WrAuto k g' b' w l)) (entry y (Rd k g b 0 0))
      by_place true true group bank = rw (group, bank, same_number k) (only y cycle (data_end t + t.wtr_l) below)
      by_place true false group bank = rw (group, bank, same_number k) (only y cycle (data_end t + t.wtr_l) below)
      by_place false z group bank = rw (group, same_number k) (only y cycle (data_end t + t.wtr_s) below)
  asks_read cycle (Pre k g' b') = by_place (g' == g) (b' == b) refl refl
    where
      by_place : (x z : Bool) → (g' == g) ≡ x → (b' == b) ≡ z → nat_lt y (asked_of (asks_of t (entry cycle (Pre k g' b'))) g b).read ≡ is_held_by t (entry cycle (Pre k g' b')) (entry y (Rd k g b 0 0))
      by_place true true group bank = rw (group, bank) (none y)
      by_place true false group bank = rw (group, bank) (none y)
      by_place false z group bank = rw group (none y)
  asks_read cycle (PreAll k) = by_place (0 == g) (0 == b) refl refl
    where
      by_place : (x z : Bool) → (0 == g) ≡ x → (0 == b) ≡ z → nat_lt y (asked_of (asks_of t (entry cycle (PreAll k))) g b).read ≡ is_held_by t (entry cycle (PreAll k)) (entry y (Rd k g b 0 0))
      by_place true true group bank = rw (group, bank) (none y)
      by_place true false group bank = rw (group, bank) (none y)
      by_place false z group bank = rw group (none y)
  asks_read cycle (Refresh k) = by_place (0 == g) (0 == b) refl refl
    where
      by_place : (x z : Bool) → (0 == g) ≡ x → (0 == b) ≡ z → nat_lt y (asked_of (asks_of t (entry cycle (Refresh k))) g b).read ≡ is_held_by t (entry cycle (Refresh k)) (entry y (Rd k g b 0 0))
      by_place true true group bank = rw (group, bank, same_number k) (only y cycle t.rfc below)
      by_place true false group bank = rw (group, bank, same_number k) (only y cycle t.rfc below)
      by_place false z group bank = rw (group, same_number k) (only y cycle t.rfc below)

  -- its next write
  pub asks_write : (cycle : ℕ) (c : Command) → nat_lt y (asked_of (asks_of t (entry cycle c)) g b).write ≡ is_held_by t (entry cycle c) (entry y (Wr (rank_of c) g b 0 0))
  asks_write cycle (Act k g' b' w) = by_place (g' == g) (b' == b) refl refl
    where
      by_place : (x z : Bool) → (g' == g) ≡ x → (b' == b) ≡ z → nat_lt y (asked_of (asks_of t (entry cycle (Act k g' b' w))) g b).write ≡ is_held_by t (entry cycle (Act k g' b' w)) (entry y (Wr k g b 0 0))
      by_place true true group bank = rw (group, bank, same_number k) (only y cycle t.rcd below)
      by_place true false group bank = rw (group, bank, same_number k) (none y)
      by_place false z group bank = rw (group, same_number k) (none y)
  asks_write cycle (Rd k g' b' w l) = by_place (g' == g) (b' == b) refl refl
    where
      by_place : (x z : Bool) → (g' == g) ≡ x → (b' == b) ≡ z → nat_lt y (asked_of (asks_of t (entry cycle (Rd k g' b' w l))) g b).write ≡ is_held_by t (entry cycle (Rd k g' b' w l)) (entry y (Wr k g b 0 0))
      by_place true true group bank = rw (group, bank, same_number k) (only y cycle t.rtw below)
      by_place true false group bank = rw (group, bank, same_number k) (only y cycle t.rtw below)
      by_place false z group bank = rw (group, same_number k) (only y cycle t.rtw below)
  asks_write cycle (Wr k g' b' w l) = by_place (g' == g) (b' == b) refl refl
    where
      by_place : (x z : Bool) → (g' == g) ≡ x → (b' == b) ≡ z → nat_lt y (asked_of (asks_of t (entry cycle (Wr k g' b' w l))) g b).write ≡ is_held_by t (entry cycle (Wr k g' b' w l)) (entry y (Wr k g b 0 0))
      by_place true true group bank = rw (group, bank, same_number k) (only y cycle t.ccd_l below)
      by_place true false group bank = rw (group, bank, same_number k) (only y cycle t.ccd_l below)
      by_place false z group bank = rw (group, same_number k) (only y cycle t.ccd_s below)
  asks_write cycle (RdAuto k g' b' w l) = by_place (g' == g) (b' == b) refl refl
    where
      by_place : (x z : Bool) → (g' == g) ≡ x → (b' == b) ≡ z → nat_lt y (asked_of (asks_of t (entry cycle (RdAuto k g' b' w l))) g b).write ≡ is_held_by t (entry cycle (RdAuto k g' b' w l)) (entry y (Wr k g b 0 0))
      by_place true true group bank = rw (group, bank, same_number k) (only y cycle t.rtw below)
      by_place true false group bank = rw (group, bank, same_number k) (only y cycle t.rtw below)
      by_place false z group bank = rw (group, same_number k) (only y cycle t.rtw below)
  asks_write cycle (WrAuto k g' b' w l) = by_place (g' == g) (b' == b) refl refl
    where
      by_place : (x z : Bool) → (g' == g) ≡ x → (b' == b) ≡ z → nat_lt y (asked_of (asks_of t (entry cycle (WrAuto k g' b' w l))) g b).write ≡ is_held_by t (entry cycle (WrAuto k g' b' w l)) (entry y (Wr k g b 0 0))
      by_place true true group bank = rw (group, bank, same_number k) (only y cycle t.ccd_l below)
      by_place true false group bank = rw (group, bank, same_number k) (only y cycle t.ccd_l below)
      by_place false z group bank = rw (group, same_number k) (only y cycle t.ccd_s below)
  asks_write cycle (Pre k g' b') = by_place (g' == g) (b' == b) refl refl
    where
      by_place : (x z : Bool) → (g' == g) ≡ x → (b' == b) ≡ z → nat_lt y (asked_of (asks_of t (entry cycle (Pre k g' b'))) g b).write ≡ is_held_by t (entry cycle (Pre k g' b')) (entry y (Wr k g b 0 0))
      by_place true true group bank = rw (group, bank) (none y)
      by_place true false group bank = rw (group, bank) (none y)
      by_place false z group bank = rw group (none y)
  asks_write cycle (PreAll k) = by_place (0 == g) (0 == b) refl refl
    where
      by_place : (x z : Bool) → (0 == g) ≡ x → (0 == b) ≡ z → nat_lt y (asked_of (asks_of t (entry cycle (PreAll k))) g b).write ≡ is_held_by t (entry cycle (PreAll k)) (entry y (Wr k g b 0 0))
      by_place true true group bank = rw (group, bank) (none y)
      by_place true false group bank = rw (group, bank) (none y)
      by_place false z group bank = rw group (none y)
  asks_write cycle (Refresh k) = by_place (0 == g) (0 == b) refl refl
    where
      by_place : (x z : Bool) → (0 == g) ≡ x → (0 == b) ≡ z → nat_lt y (asked_of (asks_of t (entry cycle (Refresh k))) g b).write ≡ is_held_by t (entry cycle (Refresh k)) (entry y (Wr k g b 0 0))
      by_place true true group bank = rw (group, bank, same_number k) (only y cycle t.rfc below)
      by_place true false group bank = rw (group, bank, same_number k) (only y cycle t.rfc below)
      by_place false z group bank = rw (group, same_number k) (only y cycle t.rfc below)

  -- its next precharge
  pub asks_precharge : (cycle : ℕ) (c : Command) → nat_lt y (asked_of (asks_of t (entry cycle c)) g b).precharge ≡ is_held_by t (entry cycle c) (entry y (Pre (rank_of c) g b))
  asks_precharge cycle (Act k g' b' w) = by_place (g' == g) (b' == b) refl refl
    where
      by_place : (x z : Bool) → (g' == g) ≡ x → (b' == b) ≡ z → nat_lt y (asked_of (asks_of t (entry cycle (Act k g' b' w))) g b).precharge ≡ is_held_by t (entry cycle (Act k g' b' w)) (entry y (Pre k g b))
      by_place true true group bank = rw (group, bank, same_number k) (only y cycle t.ras below)
      by_place true false group bank = rw (group, bank, same_number k) (none y)
      by_place false z group bank = rw (group, same_number k) (none y)
  asks_precharge cycle (Rd k g' b' w l) = by_place (g' == g) (b' == b) refl refl
    where
      by_place : (x z : Bool) → (g' == g) ≡ x → (b' == b) ≡ z → nat_lt y (asked_of (asks_of t (entry cycle (Rd k g' b' w l))) g b).precharge ≡ is_held_by t (entry cycle (Rd k g' b' w l)) (entry y (Pre k g b))
      by_place true true group bank = rw (group, bank, same_number k) (only y cycle t.rtp below)
      by_place true false group bank = rw (group, bank, same_number k) (none y)
      by_place false z group bank = rw (group, same_number k) (none y)
  asks_precharge cycle (Wr k g' b' w l) = by_place (g' == g) (b' == b) refl refl
    where
      by_place : (x z : Bool) → (g' == g) ≡ x → (b' == b) ≡ z → nat_lt y (asked_of (asks_of t (entry cycle (Wr k g' b' w l))) g b).precharge ≡ is_held_by t (entry cycle (Wr k g' b' w l)) (entry y (Pre k g b))
      by_place true true group bank = rw (group, bank, same_number k) (only y cycle (data_end t + t.wr) below)
      by_place true false group bank = rw (group, bank, same_number k) (none y)
      by_place false z group bank = rw (group, same_number k) (none y)
  asks_precharge cycle (RdAuto k g' b' w l) = by_place (g' == g) (b' == b) refl refl
    where
      by_place : (x z : Bool) → (g' == g) ≡ x → (b' == b) ≡ z → nat_lt y (asked_of (asks_of t (entry cycle (RdAuto k g' b' w l))) g b).precharge ≡ is_held_by t (entry cycle (RdAuto k g' b' w l)) (entry y (Pre k g b))
      by_place true true group bank = rw (group, bank, same_number k) (only y cycle t.rtp below)
      by_place true false group bank = rw (group, bank, same_number k) (none y)
      by_place false z group bank = rw (group, same_number k) (none y)
  asks_precharge cycle (WrAuto k g' b' w l) = by_place (g' == g) (b' == b) refl refl
    where
      by_place : (x z : Bool) → (g' == g) ≡ x → (b' == b) ≡ z → nat_lt y (asked_of (asks_of t (entry cycle (WrAuto k g' b' w l))) g b).precharge ≡ is_held_by t (entry cycle (WrAuto k g' b' w l)) (entry y (Pre k g b))
      by_place true true group bank = rw (group, bank, same_number k) (only y cycle (data_end t + t.wr) below)
      by_place true false group bank = rw (group, bank, same_number k) (none y)
      by_place false z group bank = rw (group, same_number k) (none y)
  asks_precharge cycle (Pre k g' b') = by_place (g' == g) (b' == b) refl refl
    where
      by_place : (x z : Bool) → (g' == g) ≡ x → (b' == b) ≡ z → nat_lt y (asked_of (asks_of t (entry cycle (Pre k g' b'))) g b).precharge ≡ is_held_by t (entry cycle (Pre k g' b')) (entry y (Pre k g b))
      by_place true true group bank = rw (group, bank) (none y)
      by_place true false group bank = rw (group, bank) (none y)
      by_place false z group bank = rw group (none y)
  asks_precharge cycle (PreAll k) = by_place (0 == g) (0 == b) refl refl
    where
      by_place : (x z : Bool) → (0 == g) ≡ x → (0 == b) ≡ z → nat_lt y (asked_of (asks_of t (entry cycle (PreAll k))) g b).precharge ≡ is_held_by t (entry cycle (PreAll k)) (entry y (Pre k g b))
      by_place true true group bank = rw (group, bank) (none y)
      by_place true false group bank = rw (group, bank) (none y)
      by_place false z group bank = rw group (none y)
  asks_precharge cycle (Refresh k) = by_place (0 == g) (0 == b) refl refl
    where
      by_place : (x z : Bool) → (0 == g) ≡ x → (0 == b) ≡ z → nat_lt y (asked_of (asks_of t (entry cycle (Refresh k))) g b).precharge ≡ is_held_by t (entry cycle (Refresh k)) (entry y (Pre k g b))
      by_place true true group bank = rw (group, bank, same_number k) (only y cycle t.rfc below)
      by_place true false group bank = rw (group, bank, same_number k) (only y cycle t.rfc below)
      by_place false z group bank = rw (group, same_number k) (only y cycle t.rfc below)

module _ (t : Timing) (y : ℕ) (below : y < LAST_CYCLE) where
  -- the next PREA
  pub asks_all_precharge : (cycle : ℕ) (c : Command) → nat_lt y (asked_of_all t cycle c).precharge ≡ is_held_by t (entry cycle c) (entry y (PreAll (rank_of c)))
  asks_all_precharge cycle (Act k g b w) = rw (same_number k) (only y cycle t.ras below)
  asks_all_precharge cycle (Rd k g b w l) = rw (same_number k) (only y cycle t.rtp below)
  asks_all_precharge cycle (Wr k g b w l) = rw (same_number k) (only y cycle (data_end t + t.wr) below)
  asks_all_precharge cycle (RdAuto k g b w l) = rw (same_number k) (only y cycle t.rtp below)
  asks_all_precharge cycle (WrAuto k g b w l) = rw (same_number k) (only y cycle (data_end t + t.wr) below)
  asks_all_precharge cycle (Pre k g b) = none y
  asks_all_precharge cycle (PreAll k) = none y
  asks_all_precharge cycle (Refresh k) = rw (same_number k) (only y cycle t.rfc below)

  -- and the next REF
  pub asks_all_refresh : (cycle : ℕ) (c : Command) → nat_lt y (asked_of_all t cycle c).refresh ≡ is_held_by t (entry cycle c) (entry y (Refresh (rank_of c)))
  asks_all_refresh cycle (Act k g b w) = none y
  asks_all_refresh cycle (Rd k g b w l) = none y
  asks_all_refresh cycle (Wr k g b w l) = none y
  asks_all_refresh cycle (RdAuto k g b w l) = none y
  asks_all_refresh cycle (WrAuto k g b w l) = none y
  asks_all_refresh cycle (Pre k g b) = rw (same_number k) (only y cycle t.rp below)
  asks_all_refresh cycle (PreAll k) = rw (same_number k) (only y cycle t.rp below)
  asks_all_refresh cycle (Refresh k) = rw (same_number k) (only y cycle t.rfc below)

-- a command of another rank asks nothing
dead : (x y r w : Bool) → r ≡ false → (((x && y) && r) && w) ≡ false
dead true true r w apart = rw apart refl
dead true false r w apart = refl
dead false y r w apart = refl

unpaired : (s : Spacing) (a e : Entry) → s.pairs a.command e.command ≡ false → is_too_close s a e ≡ false
unpaired s a e apart =
    dead (s.earlier a.command) (s.later e.command) (s.pairs a.command e.command) (nat_lt e.cycle (a.cycle + s.at_least)) apart

and_false : (a : Bool) → (a && false) ≡ false
and_false true = refl
and_false false = refl

far_apart : (t : Timing) (a e : Entry) → is_same_rank a.command e.command ≡ false → (r : Rule) → is_too_close (spacing_of t r) a e ≡ false
far_apart t a e apart rule.Rcd = unpaired (spacing_of t rule.Rcd) a e (rw apart refl)
far_apart t a e apart rule.Ras = unpaired (spacing_of t rule.Ras) a e (rw apart refl)
far_apart t a e apart rule.Rc = unpaired (spacing_of t rule.Rc) a e (rw apart refl)
far_apart t a e apart rule.Rp = unpaired (spacing_of t rule.Rp) a e (rw apart refl)
far_apart t a e apart rule.RrdL = unpaired (spacing_of t rule.RrdL) a e (rw apart refl)
far_apart t a e apart rule.RrdS = unpaired (spacing_of t rule.RrdS) a e (rw apart refl)
far_apart t a e apart rule.WtrL = unpaired (spacing_of t rule.WtrL) a e (rw apart refl)
far_apart t a e apart rule.WtrS = unpaired (spacing_of t rule.WtrS) a e (rw apart refl)
far_apart t a e apart rule.Rtp = unpaired (spacing_of t rule.Rtp) a e (rw apart refl)
far_apart t a e apart rule.Wr = unpaired (spacing_of t rule.Wr) a e (rw apart refl)
far_apart t a e apart rule.CcdL = unpaired (spacing_of t rule.CcdL) a e (rw apart (and_false (is_same_kind a.command e.command)))
far_apart t a e apart rule.CcdS = unpaired (spacing_of t rule.CcdS) a e (rw apart (and_false (is_same_kind a.command e.command)))
far_apart t a e apart rule.Rtw = unpaired (spacing_of t rule.Rtw) a e apart
far_apart t a e apart rule.RpRef = unpaired (spacing_of t rule.RpRef) a e apart
far_apart t a e apart rule.Rfc = unpaired (spacing_of t rule.Rfc) a e apart
far_apart t a e apart r = refl

none_of : (test : Rule → Bool) → ((r : Rule) → test r ≡ false) → list_any test ALL ≡ false
none_of test fails = any_alike test (λ _. false) ALL fails

pub other_rank : (t : Timing) (e : Entry) (c : Command) (y : ℕ) → is_same_rank e.command c ≡ false → is_held_by t e (entry y c) ≡ false
other_rank t e c y apart =
    none_of (λ r. is_too_close (spacing_of t r) e (entry y c)) (far_apart t e (entry y c) apart)
