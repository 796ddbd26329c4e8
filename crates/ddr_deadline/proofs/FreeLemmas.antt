-- While a bank is open, the REFs of its rank are over.
use Rattle.std.proofs.Common.{◌≡◌, ℕ, ◌+◌, ◌*◌, ◌/◌, ◌%◌, Bool, true, false, ◌&&◌, cond, eqb, ltb, List, [], ◌∷◌, ◌++◌, length, Option, Some, None, refl, sym, ap, subst, ◌∙◌, arith}
use Rattle.std.specs.List.{fold, range_with_len}
use Rattle.std.specs.Option.{is_some}
use Rattle.std.proofs.lemmas.Bool.{and_parts, false≢true, ltb-true}
use Rattle.ddr_timing.specs.declared.config.Config.{Config}
use Rattle.ddr_timing.specs.declared.units.TheConstants.{CLOCK_STOP}
use Rattle.ddr_trace.specs.declared.bank.OpenBank.{OpenBank}
use Rattle.ddr_trace.specs.declared.command.Command.{Command}
use Rattle.ddr_trace.specs.declared.command.Command.TheVariants.{Pre}
use Rattle.ddr_trace.specs.Banks.{bank_behind, open_row, row_until}
use Rattle.ddr_trace.specs.Rules.{is_bank_in}
use Rattle.ddr_legality.specs.Bus.{Bus, open_row_now}
use Rattle.ddr_address_map.specs.declared.place.Place.{Place}
use Rattle.ddr_arbiter.specs.Choice.{some_bank_active}
use Rattle.ddr_arbiter.specs.Commands.{precharge_at}
use Rattle.ddr_arbiter.specs.Laws.{command_of}
use Rattle.ddr_arbiter.proofs.LawLemmas.{choice_lawful}
use Rattle.ddr_arbiter.proofs.PlaceLemmas.{any_here}
use Rattle.ddr_channel.specs.Choice.{bus_of, choice_of, situation_of}
use Rattle.ddr_channel.specs.Cycle.{after_cycle, at_choice, recorded, ticked}
use Rattle.ddr_channel.specs.History.{Call, Admit, Cycle, Pop, History, after_call, begun, run, with_owner}
use Rattle.ddr_channel.specs.State.{State, after_admit, is_queue_full, opened}
use Rattle.ddr_channel.proofs.BankTimeLemmas.{any_none}
use Rattle.ddr_channel.proofs.HistoryLemmas.{served_alike}
use Rattle.ddr_channel.proofs.PromptLemmas.{IsFree, after, free_after}

-- of each rank
abbrev pub AreFree : Bus → Type 0
AreFree b = (rank : ℕ) → IsFree b rank

pub bus_after : (s : State) → bus_of (after_cycle s) ≡ after (command_of (at_choice s).pending (choice_of (at_choice s))) (bus_of s)
bus_after s =
    let c = choice_of (at_choice s) in
    served_alike {X = Bus} (λ t. bus_of (ticked t)) (λ t place r. refl) c (recorded (command_of (at_choice s).pending c) (at_choice s)) ∙ same (command_of (at_choice s).pending c)
  where
    same : (o : Option Command) → bus_of (ticked (recorded o (at_choice s))) ≡ after o (bus_of s)
    same None = refl
    same (Some d) = refl

free_cycle : (s : State) → AreFree (bus_of s) → AreFree (bus_of (after_cycle s))
free_cycle s free =
    let g = at_choice s in
    let law = choice_lawful (situation_of g) in
    subst AreFree (sym (bus_after s)) (λ rank. free_after (bus_of s) (command_of g.pending (choice_of g)) rank law.legal (free rank))

free_if : (c : Bool) (old new : History) → AreFree (bus_of old.state) → AreFree (bus_of new.state) → AreFree (bus_of (cond c old new).state)
free_if true old new o n = o
free_if false old new o n = n

free_call : (h : History) (call : Call) → AreFree (bus_of h.state) → AreFree (bus_of (after_call h call).state)
free_call h (Admit r) free = free_if (is_queue_full h.state r.echo.kind) h (record h { state = after_admit r h.state; accepted = h.accepted ++ r ∷ []; waiting = h.waiting ++ length h.accepted ∷ [] }) free free
free_call h Cycle free = free_if (eqb h.state.now CLOCK_STOP) h (record (with_owner (choice_of (at_choice h.state)) h) { state = after_cycle h.state }) free (free_cycle h.state free)
free_call h Pop free = free

free_from : (h : History) (calls : List Call) → AreFree (bus_of h.state) → AreFree (bus_of (fold after_call h calls).state)
free_from h [] free = free
free_from h (call ∷ calls) free = free_from (after_call h call) calls (free_call h call free)

idle_banks : (config : Config) (start rank : ℕ) → some_bank_active (bus_of (opened config start)) rank ≡ false
unfolding bank_behind
idle_banks config start rank = any_none _ (range_with_len 0 (config.geometry.groups * 4)) (λ n. refl)

pub free_run : (config : Config) (start : ℕ) (calls : List Call) → AreFree (bus_of (run config start calls).state)
free_run config start calls = free_from (begun config start) calls (λ rank active. absurd (false≢true (sym (idle_banks config start rank) ∙ active)))

-- a bank of the geometry that is open makes its rank active
pub active_of : (b : Bus) (p : Place) (bank : OpenBank) → is_bank_in b.config.geometry p.rank p.group p.bank ≡ true → bank_behind (precharge_at p) b.trace ≡ Some bank → bank.auto ≡ None → some_bank_active b p.rank ≡ true
active_of b p bank inside held stays =
    let g = b.config.geometry in
    let parts = and_parts (ltb p.rank g.ranks && ltb p.group g.groups) (ltb p.bank 4) inside in
    let group = ltb-true p.group g.groups (and_parts (ltb p.rank g.ranks) (ltb p.group g.groups) parts.0).1 in
    let low = ltb-true p.bank 4 parts.1 in
    let first : (p.group * 4 + p.bank) / 4 ≡ p.group = omega (arith, low) in
    let second : (p.group * 4 + p.bank) % 4 ≡ p.bank = omega (arith, low) in
    let here : is_some (open_row_now b (precharge_at p)) ≡ true = ap (λ o. is_some (open_row b.config.timing b.now o)) held ∙ ap (λ o. is_some (row_until b.config.timing b.now bank o)) stays in
    any_here (λ n. is_some (open_row_now b (Pre p.rank (n / 4) (n % 4)))) (g.groups * 4) (p.group * 4 + p.bank) (omega (arith, group, low)) (rw (first, second) here)
