-- What is kept of the commands of each rank, as the next one is tested against it and joins them.
use Rattle.std.proofs.Common.{◌≡◌, ◌≢◌, ℕ, ◌+◌, ◌-◌, ◌<◌, ◌≤◌, max, nat_le, nat_lt, Bool, true, false, ◌==◌, ◌&&◌, not, if◌then◌else◌, List, Option, Some, None, ◌⊎◌, inl, inr, refl, sym, ap, subst, arith, ◌∙◌}
use Rattle.std.specs.List.{AllByRecursion}
use Rattle.std.proofs.lemmas.Bool.{eqb-true}
use Rattle.std.proofs.lemmas.Bool.Decides.{nat_tests}
use Rattle.ddr_timing.specs.declared.config.Config.{Config}
use Rattle.ddr_timing.specs.declared.timing.Timing.{Timing}
use Rattle.ddr_timing.specs.declared.units.TheConstants.{BURST_CLOCKS}
use Rattle.ddr_trace.specs.declared.command.Command.{Command}
use Rattle.ddr_trace.specs.declared.command.Command.TheVariants.{Rd, Wr, RdAuto, WrAuto, PreAll, Refresh}
use Rattle.ddr_trace.specs.declared.command.Entry.{Entry}
use Rattle.ddr_trace.specs.Commands.{entry, is_column, is_read, is_write, rank_of}
use Rattle.ddr_trace.specs.Rules.{breaks_order, breaks_rtrs, is_in, latency}
use Rattle.ddr_rank.specs.Ready.{LAST_CYCLE, after}
use Rattle.ddr_legality.specs.declared.columns.Columns.{Columns}
use Rattle.ddr_legality.specs.declared.columns.Switch.{Switch}
use Rattle.ddr_legality.specs.declared.bus_readiness.BusReadiness.{BusReadiness}
use Rattle.ddr_legality.specs.Columns.{behind_columns, behind_switch, switch_behind, switches_soon}
use Rattle.ddr_legality.specs.BusReadiness.{HasIssued, behind_last, behind_other, is_later, other_columns, switch_of}
use Rattle.ddr_legality.proofs.RankLemmas.{second_rank}
use Rattle.ddr_legality.proofs.SwitchLemmas.{switch_told}

-- all commands are of banks that there are
pub all_placed : (i : BusReadiness) (history : List Entry) → HasIssued i history → AllByRecursion (λ a. is_in i.config.geometry a.command ≡ true) history
all_placed i history issued =
    subst (λ (c : Config). AllByRecursion (λ a. is_in c.geometry a.command ≡ true) history) i.first_config issued.first.placed

-- RTRS, by what is kept of the other rank
pub other_told : (i : BusReadiness) (history : List Entry) (e : Entry) → HasIssued i history → is_in i.config.geometry e.command ≡ true → switches_soon i.config.timing (other_columns i (rank_of e.command)) e ≡ breaks_rtrs i.config.timing history e
other_told i history e issued placed = by_rank (rank_of e.command == 0) refl
  where
    by_rank : (w : Bool) → (rank_of e.command == 0) ≡ w → switches_soon i.config.timing (if w then i.second_columns else i.first_columns) e ≡ breaks_rtrs i.config.timing history e
    by_rank true is =
        let own : rank_of e.command ≡ 0 = eqb-true _ _ is in
        switch_told i.config.geometry i.config.timing history e 1 i.second_columns (all_placed i history issued) (omega arith) issued.second_columns
    by_rank false is =
        let apart : rank_of e.command ≢ 0 = grind (arith, nat_tests) in
        let own : rank_of e.command ≡ 1 = second_rank i.config.geometry e.command placed apart in
        switch_told i.config.geometry i.config.timing history e 0 i.first_columns (all_placed i history issued) (omega arith) issued.first_columns

-- two commands of one latency wait alike
alike : (t : Timing) (c d : Command) → latency t c ≡ latency t d → (last : Option Entry) → behind_switch t last c ≡ behind_switch t last d
alike t c d same None = refl
alike t c d same (Some a) = ap (λ n. after a.cycle (max BURST_CLOCKS (latency t a.command + BURST_CLOCKS + t.rtrs - n))) same

alike_columns : (t : Timing) (c d : Command) → is_column c ≡ true → is_column d ≡ true → latency t c ≡ latency t d → (columns : Columns) → behind_columns t columns c ≡ behind_columns t columns d
alike_columns t c d first second same columns =
    rw (first, second, alike t c d same columns.read, alike t c d same columns.write) refl

-- the other rank leaves every other command all cycles
pub all_left : (i : BusReadiness) (c : Command) → is_column c ≡ false → 0 ≡ behind_other i c
all_left i c none = rw none refl

pub no_column : (c : Command) → ((k : ℕ) × (c ≡ PreAll k)) ⊎ ((k : ℕ) × (c ≡ Refresh k)) → is_column c ≡ false
no_column c (inl is) = rw is.1 refl
no_column c (inr is) = rw is.1 refl

module _ (i : BusReadiness) (history : List Entry) (issued : HasIssued i history) where
  -- by the rank of the command
  by_rank : (pick : Switch → ℕ) (c : Command) → ((columns : Columns) → pick (switch_behind i.config.timing columns) ≡ behind_columns i.config.timing columns c) → pick (switch_of i (rank_of c)) ≡ behind_other i c
  by_rank pick c picked = cases (rank_of c == 0) refl
    where
      cases : (w : Bool) → (rank_of c == 0) ≡ w → pick (if w then i.first_switch else i.second_switch) ≡ behind_columns i.config.timing (if w then i.second_columns else i.first_columns) c
      cases true is = ap pick issued.first_switch ∙ picked i.second_columns
      cases false is = ap pick issued.second_switch ∙ picked i.first_columns

  -- the first cycles of reads and of writes are kept
  pub read_left : (c : Command) → is_read c ≡ true → (switch_of i (rank_of c)).read ≡ behind_other i c
  read_left (Rd k g b w l) is = by_rank (λ s. s.read) (Rd k g b w l) (alike_columns i.config.timing (Rd 0 0 0 0 0) (Rd k g b w l) refl refl refl)
  read_left (RdAuto k g b w l) is = by_rank (λ s. s.read) (RdAuto k g b w l) (alike_columns i.config.timing (Rd 0 0 0 0 0) (RdAuto k g b w l) refl refl refl)
  read_left _ is = cc

  pub write_left : (c : Command) → is_write c ≡ true → (switch_of i (rank_of c)).write ≡ behind_other i c
  write_left (Wr k g b w l) is = by_rank (λ s. s.write) (Wr k g b w l) (alike_columns i.config.timing (Wr 0 0 0 0 0) (Wr k g b w l) refl refl refl)
  write_left (WrAuto k g b w l) is = by_rank (λ s. s.write) (WrAuto k g b w l) (alike_columns i.config.timing (Wr 0 0 0 0 0) (WrAuto k g b w l) refl refl refl)
  write_left _ is = cc

  pub read_told : (rank : ℕ) (c : Command) → ((g : ℕ) × (b : ℕ) × (w : ℕ) × (l : ℕ) × (c ≡ Rd rank g b w l)) ⊎ ((g : ℕ) × (b : ℕ) × (w : ℕ) × (l : ℕ) × (c ≡ RdAuto rank g b w l)) → (switch_of i rank).read ≡ behind_other i c
  read_told rank c (inl is) = rw is.4 (read_left (Rd rank is.0 is.1 is.2 is.3) refl)
  read_told rank c (inr is) = rw is.4 (read_left (RdAuto rank is.0 is.1 is.2 is.3) refl)

  pub write_told : (rank : ℕ) (c : Command) → ((g : ℕ) × (b : ℕ) × (w : ℕ) × (l : ℕ) × (c ≡ Wr rank g b w l)) ⊎ ((g : ℕ) × (b : ℕ) × (w : ℕ) × (l : ℕ) × (c ≡ WrAuto rank g b w l)) → (switch_of i rank).write ≡ behind_other i c
  write_told rank c (inl is) = rw is.4 (write_left (Wr rank is.0 is.1 is.2 is.3) refl)
  write_told rank c (inr is) = rw is.4 (write_left (WrAuto rank is.0 is.1 is.2 is.3) refl)

  -- the order, by the first cycle behind the last command
  module _ (y : ℕ) (begun : i.start ≤ y) (below : y < LAST_CYCLE) where
    order_by : (last : Option ℕ) → not (is_later last y && nat_le i.start y && nat_lt y (y + 1)) ≡ nat_lt y (behind_last last)
    order_by None = grind (arith, nat_tests)
    order_by (Some last) = grind (arith, nat_tests)

    order_now : (c : Command) → breaks_order i.start (y + 1) history (entry y c) ≡ nat_lt y i.free
    order_now c =
        sym (ap (λ w. not (w && nat_le i.start y && nat_lt y (y + 1))) (issued.last y))
        ∙ order_by i.last ∙ sym (ap (λ n. nat_lt y n) issued.free)

    pub too_early : (c : Command) → y < i.free → breaks_order i.start (y + 1) history (entry y c) ≡ true
    too_early c early = order_now c ∙ grind (arith, nat_tests)

    pub in_time : (c : Command) → i.free ≤ y → breaks_order i.start (y + 1) history (entry y c) ≡ false
    in_time c late = order_now c ∙ grind (arith, nat_tests)
