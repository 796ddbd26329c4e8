-- The first cycles of a rank's next commands, after one more command.
use Rattle.std.proofs.Common.{◌≡◌, ℕ, ◌+◌, ◌*◌, ◌/◌, ◌%◌, ◌<◌, false, List, [], ◌∷◌, ◌++◌, length, ap, arith, ◌∙◌}
use Rattle.ddr_timing.specs.declared.timing.Timing.{Timing}
use Rattle.ddr_timing.specs.declared.units.TheConstants.{GROUP_BANKS}
use Rattle.ddr_trace.specs.declared.command.Command.TheVariants.{Act, Rd, Wr, Pre, PreAll, Refresh}
use Rattle.ddr_trace.specs.declared.command.Entry.{Entry}
use Rattle.ddr_trace.specs.Commands.{rank_of}
use Rattle.ddr_rank.proofs.AskedLemmas.{asks_activate, asks_all_precharge, asks_all_refresh, asks_precharge, asks_read, asks_write, none, other_rank}
use Rattle.ddr_rank.proofs.HeldLemmas.{first_raised, first_stays}
use Rattle.ddr_rank.specs.declared.ready.Ready.{Ready}
use Rattle.ddr_rank.specs.declared.ready.ReadyAll.{ReadyAll}
use Rattle.ddr_rank.specs.Noted.{IsRaised}
use Rattle.ddr_rank.specs.Readiness.{IsWhole, Readiness, ready_at}
use Rattle.ddr_rank.specs.Ready.{KeepsReady, KeepsReadyAll, all_free, all_raised, asked_of, asked_of_all, asks_of, free, raised}
use Rattle.ddr_rank.specs.Stands.{is_of_rank}

-- before the first command
pub ready_new : (t : Timing) (rank g b : ℕ) (ready : Ready) → ready ≡ free → KeepsReady t rank g b [] ready
ready_new t rank g b ready is = rw is record {
  activate = λ y below. none y;
  read = λ y below. none y;
  write = λ y below. none y;
  precharge = λ y below. none y;
}

pub ready_all_new : (t : Timing) (rank : ℕ) (ready : ReadyAll) → ready ≡ all_free → KeepsReadyAll t rank [] ready
ready_all_new t rank ready is = rw is record {
  precharge = λ y below. none y;
  refresh = λ y below. none y;
}

-- what is asked of a bank, in the geometry
pub asked_at : (r new : Readiness) (e : Entry) → IsWhole r → IsRaised r new e → (g b : ℕ) → g < r.config.geometry.groups → b < GROUP_BANKS → ready_at new g b ≡ raised (asked_of (asks_of r.config.timing e) g b) (ready_at r g b)
asked_at r new e whole all g b group bank =
    let within : g * 4 + b < length r.ready = omega (arith, whole.ready) in
    let group_is : (g * 4 + b) / 4 ≡ g = omega arith in
    let bank_is : (g * 4 + b) % 4 ≡ b = omega arith in
    all.banks (g * 4 + b) within ∙ ap (λ n. raised (asked_of (asks_of r.config.timing e) n ((g * 4 + b) % 4)) (ready_at r g b)) group_is
    ∙ ap (λ n. raised (asked_of (asks_of r.config.timing e) g n) (ready_at r g b)) bank_is

pub ready_step : (t : Timing) (g b : ℕ) (history : List Entry) (e : Entry) (ready : Ready) → KeepsReady t (rank_of e.command) g b history ready → KeepsReady t (rank_of e.command) g b (history ++ e ∷ []) (raised (asked_of (asks_of t e) g b) ready)
ready_step t g b history e ready kept =
    let k = rank_of e.command in
    let asked = asked_of (asks_of t e) g b in
    record {
      activate = first_raised t history e (Act k g b 0) ready.activate asked.activate kept.activate (λ y below. asks_activate t g b y below e.cycle e.command);
      read = first_raised t history e (Rd k g b 0 0) ready.read asked.read kept.read (λ y below. asks_read t g b y below e.cycle e.command);
      write = first_raised t history e (Wr k g b 0 0) ready.write asked.write kept.write (λ y below. asks_write t g b y below e.cycle e.command);
      precharge = first_raised t history e (Pre k g b) ready.precharge asked.precharge kept.precharge (λ y below. asks_precharge t g b y below e.cycle e.command);
    }

pub ready_all_step : (t : Timing) (history : List Entry) (e : Entry) (ready : ReadyAll) → KeepsReadyAll t (rank_of e.command) history ready → KeepsReadyAll t (rank_of e.command) (history ++ e ∷ []) (all_raised (asked_of_all t e.cycle e.command) ready)
ready_all_step t history e ready kept =
    let k = rank_of e.command in
    let asked = asked_of_all t e.cycle e.command in
    record {
      precharge = first_raised t history e (PreAll k) ready.precharge asked.precharge kept.precharge (λ y below. asks_all_precharge t y below e.cycle e.command);
      refresh = first_raised t history e (Refresh k) ready.refresh asked.refresh kept.refresh (λ y below. asks_all_refresh t y below e.cycle e.command);
    }

-- a command of another rank
pub ready_away : (t : Timing) (rank g b : ℕ) (history : List Entry) (e : Entry) (ready : Ready) → is_of_rank rank e.command ≡ false → KeepsReady t rank g b history ready → KeepsReady t rank g b (history ++ e ∷ []) ready
ready_away t rank g b history e ready away kept = record {
  activate = first_stays t history e (Act rank g b 0) ready.activate kept.activate (λ y. other_rank t e (Act rank g b 0) y away);
  read = first_stays t history e (Rd rank g b 0 0) ready.read kept.read (λ y. other_rank t e (Rd rank g b 0 0) y away);
  write = first_stays t history e (Wr rank g b 0 0) ready.write kept.write (λ y. other_rank t e (Wr rank g b 0 0) y away);
  precharge = first_stays t history e (Pre rank g b) ready.precharge kept.precharge (λ y. other_rank t e (Pre rank g b) y away);
}

pub ready_all_away : (t : Timing) (rank : ℕ) (history : List Entry) (e : Entry) (ready : ReadyAll) → is_of_rank rank e.command ≡ false → KeepsReadyAll t rank history ready → KeepsReadyAll t rank (history ++ e ∷ []) ready
ready_all_away t rank history e ready away kept = record {
  precharge = first_stays t history e (PreAll rank) ready.precharge kept.precharge (λ y. other_rank t e (PreAll rank) y away);
  refresh = first_stays t history e (Refresh rank) ready.refresh kept.refresh (λ y. other_rank t e (Refresh rank) y away);
}
