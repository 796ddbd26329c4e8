-- In a channel of one rank nothing comes between the rank and its refreshes.
use Rattle.std.proofs.Common.{◌≡◌, ℕ, ◌+◌, ◌<◌, ◌≤◌, Bool, true, false, ◌&&◌, cond, eqb, leb, List, [], ◌∷◌, ◌++◌, length, sym, ap, subst, arith}
use Rattle.std.specs.List.{fold}
use Rattle.std.proofs.lemmas.Bool.{le-ltb}
use Rattle.ddr_timing.specs.declared.config.Config.{Config}
use Rattle.ddr_timing.specs.declared.units.TheConstants.{CLOCK_STOP}
use Rattle.ddr_trace.specs.declared.command.Entry.{Entry}
use Rattle.ddr_trace.specs.Commands.{rank_of}
use Rattle.ddr_legality.specs.Bus.{Bus}
use Rattle.ddr_latency.specs.Latency.{clocks_of, refresh}
use Rattle.ddr_channel.specs.Choice.{bus_of, choice_of}
use Rattle.ddr_channel.specs.Cycle.{after_cycle, at_choice}
use Rattle.ddr_channel.specs.History.{Call, Admit, Cycle, Pop, History, after_call, begun, run, with_owner}
use Rattle.ddr_channel.specs.Promise.{AreCalls}
use Rattle.ddr_channel.specs.Refresh.{refresh_time}
use Rattle.ddr_channel.specs.Sound.{IsSound}
use Rattle.ddr_channel.specs.State.{State, after_admit, is_queue_full, opened}
use Rattle.ddr_channel.proofs.HistoryLemmas.{IsKept, kept_begun, kept_call, kept_run}
use Rattle.ddr_channel.proofs.PlaceLemmas.{none_passes}
use Rattle.ddr_channel.proofs.PromptLemmas.{IsPrompt, due_at, is_before_from, prompt_fresh, taken_from}
use Rattle.ddr_channel.proofs.RefreshLemmas.{IsKeptPrompt, prompt_cycle}
use Rattle.ddr_deadline.specs.Step.{overdue_at}
use Rattle.ddr_deadline.proofs.FreeLemmas.{bus_after, free_run}

-- each rank
abbrev pub ArePrompt : Bus → Type 0
ArePrompt b = (rank : ℕ) → rank < b.config.geometry.ranks → IsPrompt b rank

-- after any calls

prompt_next : (s : State) → IsSound s → ArePrompt (bus_of s) → ArePrompt (bus_of (after_cycle s))
prompt_next s sound all =
    let kept : IsKeptPrompt (at_choice s) = record { legal = sound.legal; begun = sound.begun; all = all } in
    subst ArePrompt (sym (bus_after s)) (prompt_cycle (at_choice s) kept)

prompt_if : (c : Bool) (old new : History) → ArePrompt (bus_of old.state) → ArePrompt (bus_of new.state) → ArePrompt (bus_of (cond c old new).state)
prompt_if true old new o n = o
prompt_if false old new o n = n

prompt_call : (config : Config) (start : ℕ) (h : History) (call : Call) → IsKept config start h → ArePrompt (bus_of h.state) → ArePrompt (bus_of (after_call h call).state)
prompt_call config start h (Admit r) kept all = prompt_if (is_queue_full h.state r.echo.kind) h (record h { state = after_admit r h.state; accepted = h.accepted ++ r ∷ []; waiting = h.waiting ++ length h.accepted ∷ [] }) all all
prompt_call config start h Cycle kept all = prompt_if (eqb h.state.now CLOCK_STOP) h (record (with_owner (choice_of (at_choice h.state)) h) { state = after_cycle h.state }) all (prompt_next h.state kept.sound all)
prompt_call config start h Pop kept all = all

prompt_from : (config : Config) (start : ℕ) (h : History) (calls : List Call) → AreCalls config calls → IsKept config start h → ArePrompt (bus_of h.state) → ArePrompt (bus_of (fold after_call h calls).state)
prompt_from config start h [] may kept all = all
prompt_from config start h (call ∷ calls) may kept all = prompt_from config start (after_call h call) calls may.1 (kept_call config start h call may.0 kept) (prompt_call config start h call kept all)

prompt_begun : (config : Config) (start : ℕ) → ArePrompt (bus_of (opened config start))
prompt_begun config start rank inside = prompt_fresh (bus_of (opened config start)) rank _ _ (omega arith) (λ i e is. cc) (free_run config start [] rank)

pub prompt_run : (config : Config) (start : ℕ) (calls : List Call) → AreCalls config calls → ArePrompt (bus_of (run config start calls).state)
prompt_run config start calls may = prompt_from config start (begun config start) calls may (kept_begun config start) (prompt_begun config start)

-- no rank is tried before rank 0
none_before : (due : ℕ) (trace : List Entry) → taken_from 0 due trace ≡ 0
none_before due trace =
    ap (λ (es : List Entry). length es) (none_passes (is_before_from 0 due) trace (λ i e is. ap (λ w. w && leb due e.cycle) (le-ltb (rank_of e.command) 0 (omega arith))))

-- so a rank that is overdue has its REF as soon as its own commands and the REF before let it
pub refreshed_soon : (b : Bus) → IsPrompt b 0 → b.now + 1 ≤ due_at b 0 + refresh_time b.config.timing
refreshed_soon b p =
    let it = p.by.0 in
    let none = none_before (due_at b 0) b.trace in
    omega (arith, it, none)

pub refresh_soon : (config : Config) (start : ℕ) (calls : List Call) → AreCalls config calls → config.geometry.ranks ≡ 1 →
    (run config start calls).state.now + 2 ≤ overdue_at config (run config start calls).state 0 + refresh (clocks_of config)
refresh_soon config start calls may one =
    let s = (run config start calls).state in
    let kept = kept_run config start calls may in
    subst (λ c. s.now + 2 ≤ overdue_at c s 0 + refresh (clocks_of c)) kept.config_is (soon s (prompt_run config start calls may 0 (subst (λ (c : Config). 0 < c.geometry.ranks) (sym kept.config_is) (omega arith))))
  where
    soon : (s : State) → IsPrompt (bus_of s) 0 → s.now + 2 ≤ overdue_at s.config s 0 + refresh (clocks_of s.config)
    soon s p = let it = refreshed_soon (bus_of s) p in omega (arith, it)
