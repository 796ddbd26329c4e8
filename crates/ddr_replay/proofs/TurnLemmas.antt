-- How a turn leads on along a replay, also by the requests that were not read.
use Rattle.std.proofs.Common.{◌≡◌, ◌<◌, ◌≤◌, ◌-◌, ◌+◌, ℕ, zero, suc, false, List, [], ◌∷◌, Option, Some, Result, Ok, Err, IfErr, OnOk, length, refl, sym, ap, ap₂, subst, ◌∙◌, arith}
use Rattle.std.specs.Prelude.{◌==◌}
use Rattle.std.specs.List.{slice_get, sum_by}
use Rattle.std.proofs.lemmas.Bool.{eqb-false, ne_eqb}
use Rattle.ddr_timing.specs.declared.config.Config.{Config}
use Rattle.ddr_world.specs.Kept.{state_of}
use Rattle.ddr_world.specs.Quiet.{passed}
use Rattle.ddr_world.specs.State.{State}
use Rattle.ddr_text.specs.declared.fault.Fault.{Fault}
use Rattle.ddr_text.specs.declared.fault.Fault.TheVariants as faults
use Rattle.ddr_rounds.specs.Rounds.{channels_served}
use Rattle.ddr_stream.specs.declared.ask.Ask.{Ask}
use Rattle.ddr_stream.specs.Stream.{Queues, queue_at}
use Rattle.ddr_stream.specs.Waiting.{All, IsAhead, IsSized, Waiting, all_in}
use Rattle.ddr_stream.proofs.AllLemmas.{all_first, all_least, all_sized}
use Rattle.ddr_replay.specs.Ahead.{AreAllSubmitted, Carries, IsCutOff, IsStopped, Leads, LeadsAlike}
use Rattle.ddr_replay.specs.declared.order.Asking.{Asking}
use Rattle.ddr_ledger.specs.Activities.{all_acted}
use Rattle.ddr_ledger.specs.Activity.{seen_at}
use Rattle.ddr_ledger.specs.Ledgers.{Ledger}
use Rattle.ddr_replay.specs.Runs.{Run, all_submitted, replayed, round_made, unserved}
use Rattle.ddr_replay.specs.View.{IsCycleFault, Replay, run_of, whole_run}
use Rattle.ddr_replay.specs.Waits.{AreQuiet, all_full, come_of, has_come}
use Rattle.ddr_replay.proofs.AheadLemmas.{carries_same, carries_with, same_itself}
use Rattle.ddr_replay.proofs.QuietLemmas.{replayed_limit, turn_failed, turn_made, turn_reached, turns_passed, turns_reached}
use Rattle.ddr_replay.proofs.RoundLemmas.{all_count}
use Rattle.ddr_replay.proofs.WaitedLemmas.{all_alike}

abbrev MOST : ℕ
MOST = 4294967295

abbrev Known : Type 0
Known = Option (Result All Fault)

is_some : (n : ℕ) → (n == 0) ≡ false → 0 < n
is_some n some =
    let other : (n ≡ 0 → ⊥) = eqb-false n 0 some in
    omega (arith, other)

not_none : (n : ℕ) → 0 < n → (n == 0) ≡ false
not_none n some = ne_eqb n 0 (λ none. omega (arith, some, none))

-- where a request that was read is to be served, one of all is
busy_whole : (r : Replay) (queues : Queues) → sum_by length r.stream.queues ≤ sum_by length queues → (unserved (run_of r) == 0) ≡ false → (unserved (whole_run r queues) == 0) ≡ false
busy_whole r queues most busy = not_none (unserved (whole_run r queues)) (omega (arith, most, is_some (unserved (run_of r)) busy))

still_busy : (config : Config) (run next : Run) → config.limits.ports ≤ length run.queues → all_submitted config run ≡ next → (unserved run == 0) ≡ false → (unserved next == 0) ≡ false
still_busy config run next within is busy = ap (λ (r : Run). unserved r == 0) (sym is) ∙ ap (λ k. k == 0) (all_count config run within) ∙ busy

-- a port whose next request is the same
come_first : (round : ℕ) (a b : List Ask) → slice_get a 0 ≡ slice_get b 0 → has_come round a ≡ has_come round b
come_first round [] [] same = refl
come_first round [] (y ∷ ys) same = absurd (let impossible = same in cc)
come_first round (x ∷ xs) [] same = absurd (let impossible = same in cc)
come_first round (x ∷ xs) (y ∷ ys) same =
    let here : x ≡ y = cc in
    ap (λ (ask : Ask). has_come round (ask ∷ [])) here

-- what the ports have submitted
pub record IsReady (old ready : Replay) : Type 0 where
  pub config : ready.config ≡ old.config
  pub round : ready.round ≡ old.round

-- what is known of the requests that are left where those of all are
pub record IsBusy (old : Replay) (all : All) : Type 0 where
  pub size : length all.queues ≡ old.config.limits.ports
  pub some : (unserved (whole_run old all.queues) == 0) ≡ false

is_busy : (old : Replay) (more : Option (List ℕ)) (all : All) → IsSized old.stream → old.stream.config ≡ old.config → (unserved (run_of old) == 0) ≡ false → all_in old.stream more ≡ Some (Ok all) → IsBusy old all
is_busy old more all sized config busy is = record {
  size = all_sized old.stream more all sized is ∙ ap (λ (c : Config). c.limits.ports) config;
  some = busy_whole old all.queues (all_least old.stream more all is) busy;
}

-- a round was made
made_on : (old ready new : Replay) (all next : All) → IsReady old ready → IsBusy old all → Leads (all_submitted old.config) old ready all next → round_made ready.config (whole_run ready next.queues) ≡ Some (whole_run new next.queues) → ready.round < MOST → new.round ≡ ready.round + 1
    → LeadsAlike old.config (MOST - old.round) (MOST - new.round) old new all next
made_on old ready new all next is busy led made some behind =
    let one : MOST - old.round ≡ suc (MOST - new.round) = omega (arith, is.round, some, behind) in
    let round_is = ap (λ (r : Run). round_made old.config r) led.run ∙ ap (λ (k : Config). round_made k (whole_run ready next.queues)) (sym is.config) ∙ made in
    record {
      requests = led.requests;
      run = turn_made old.config (MOST - old.round) (MOST - new.round) (whole_run old all.queues) (whole_run new next.queues) one busy.some round_is;
      many = 1;
      turns = turn_reached old.config (whole_run old all.queues) (whole_run new next.queues) round_is;
    }

-- so many quiet ones were
passed_on : (old ready new : Replay) (count until : ℕ) (all next : All) → IsReady old ready → IsBusy old all → AreAllSubmitted old.config until old ready all next → 0 < count → AreQuiet ready.config count (state_of ready.world) → ready.round + count ≤ until → count ≤ MOST - ready.round
    → ((p : ℕ) → p < old.config.limits.ports → come_of ready.round ready.stream.queues p ≡ come_of ready.round next.queues p)
    → new.asking ≡ ready.asking → state_of new.world ≡ passed count (state_of ready.world) → new.round ≡ ready.round + count → new.ledger ≡ all_acted ready.round count (seen_at (state_of new.world)) ready.config.geometry.channels (all_full (count - 1) (come_of ready.round ready.stream.queues) ready.config.limits.ports ready.ledger)
    → LeadsAlike old.config (MOST - old.round) (MOST - new.round) old new all next
passed_on old ready new zero until all next is busy led some are within most alike asking state round ledger = absurd (omega (arith, some))
passed_on old ready new (suc k) until all next is busy led some are within most alike asking state round ledger =
    let ports = old.config.limits.ports in
    let read = come_of ready.round ready.stream.queues in
    let come = come_of ready.round next.queues in
    let counted : State → Ledger = λ s. all_acted ready.round (suc k) (seen_at s) old.config.geometry.channels (all_full k come ports ready.ledger) in
    let after = counted (passed (suc k) (state_of ready.world)) in
    let one_less : suc k - 1 ≡ k = omega arith in
    let ledger_is : new.ledger ≡ after =
    ledger
    ∙ ap (λ n. all_acted ready.round (suc k) (seen_at (state_of new.world)) ready.config.geometry.channels (all_full n read ready.config.limits.ports ready.ledger)) one_less
    ∙ ap (λ (c : Config). all_acted ready.round (suc k) (seen_at (state_of new.world)) c.geometry.channels (all_full k read c.limits.ports ready.ledger)) is.config
    ∙ ap (all_acted ready.round (suc k) (seen_at (state_of new.world)) old.config.geometry.channels) (all_alike k ports read come ready.ledger alike)
    ∙ ap counted state in
    let all_left : MOST - old.round ≡ suc ((MOST - new.round) + k) = omega (arith, is.round, most, round) in
    let still = still_busy old.config (whole_run old all.queues) (whole_run ready next.queues) (omega (arith, busy.size)) led.leads.run busy.some in
    let quiet = subst (λ (c : Config). AreQuiet c (suc k) (state_of ready.world)) is.config are in
    let last_is : record { asking = ready.asking; state = passed (suc k) (state_of ready.world); queues = next.queues; ledger = after; round = ready.round + suc k } ≡ whole_run new next.queues =
    ap (λ (s : State). record { asking = ready.asking; state = s; queues = next.queues; ledger = after; round = ready.round + suc k }) (sym state)
    ∙ ap₂ (λ (a : Asking) (r : ℕ). record { asking = a; state = state_of new.world; queues = next.queues; ledger = after; round = r }) (sym asking) (sym round)
    ∙ ap (λ (l : Ledger). record { asking = new.asking; state = state_of new.world; queues = next.queues; ledger = l; round = new.round }) (sym ledger_is) in
    record {
      requests = led.leads.requests;
      run = turns_passed old.config (MOST - old.round) (MOST - new.round) k until (whole_run old all.queues) (whole_run ready next.queues) all_left busy.some still (sym led.leads.run) quiet led.waits within
          ∙ ap (λ (r : Run). replayed old.config (MOST - new.round) r) last_is;
      many = suc k;
      turns = turns_reached old.config k until (whole_run old all.queues) (whole_run ready next.queues) still (sym led.leads.run) quiet led.waits within ∙ ap (λ (r : Run). Some r) last_is;
    }

-- ---- of all requests, where those are known

module _ (old ready : Replay) (until : ℕ) (before behind : Option (List ℕ)) where
  abbrev pub AreReady : Type 0
  AreReady = Carries (λ all next. AreAllSubmitted old.config until old ready all next) (all_in old.stream before) (all_in ready.stream behind)

  abbrev Alike : Replay → All → All → Type 0
  Alike new = λ all next. LeadsAlike old.config (MOST - old.round) (MOST - new.round) old new all next

  same_stream : (new : Replay) → new.stream ≡ ready.stream → Carries (Alike new) (all_in old.stream before) (all_in ready.stream behind) → Carries (Alike new) (all_in old.stream before) (all_in new.stream behind)
  same_stream new same so = subst (λ (w : Waiting). Carries (Alike new) (all_in old.stream before) (all_in w behind)) (sym same) so

  -- quiet rounds were made
  pub passed_turn : (new : Replay) (count : ℕ) → AreReady → IsReady old ready → IsSized old.stream → old.stream.config ≡ old.config → (unserved (run_of old) == 0) ≡ false → IsSized ready.stream → ready.stream.config ≡ ready.config → IsAhead ready.stream
      → 0 < count → AreQuiet ready.config count (state_of ready.world) → ready.round + count ≤ until → count ≤ MOST - ready.round
      → new.asking ≡ ready.asking → state_of new.world ≡ passed count (state_of ready.world) → new.round ≡ ready.round + count → new.stream ≡ ready.stream → new.ledger ≡ all_acted ready.round count (seen_at (state_of new.world)) ready.config.geometry.channels (all_full (count - 1) (come_of ready.round ready.stream.queues) ready.config.limits.ports ready.ledger)
      → Carries (Alike new) (all_in old.stream before) (all_in new.stream behind)
  passed_turn new count led is sized config busy ready_sized ready_config ahead some are within most asking state round stream ledger =
      let ports_are : ready.stream.config.limits.ports ≡ old.config.limits.ports = ap (λ (c : Config). c.limits.ports) (ready_config ∙ is.config) in
      same_stream new stream
      (carries_with (λ all next. AreAllSubmitted old.config until old ready all next) (Alike new) (all_in old.stream before) (all_in ready.stream behind) led (λ all next here there submitted.
      passed_on old ready new count until all next is (is_busy old before all sized config busy here) submitted some are within most
      (λ p below.
      let within_ports : p < ready.stream.config.limits.ports = omega (arith, below, ports_are) in
      come_first ready.round (queue_at ready.stream.queues p) (queue_at next.queues p) (sym (all_first ready.stream behind next p ready_sized within_ports (ahead p within_ports) there)))
      asking state round ledger))

  -- by what making a round answered
  pub made_turn : (new : Replay) (r : Result (Unit {0}) Fault) → AreReady → IsReady old ready → IsSized old.stream → old.stream.config ≡ old.config → (unserved (run_of old) == 0) ≡ false → ready.round < 4294967295
      → OnOk r ((queues : Queues) → round_made ready.config (whole_run ready queues) ≡ Some (whole_run new queues)) → OnOk r (new.round ≡ ready.round + 1) → new.stream ≡ ready.stream → OnOk r (Carries (Alike new) (all_in old.stream before) (all_in new.stream behind))
  made_turn new (Ok v) led is sized config busy some made next stream =
      same_stream new stream
      (carries_with (λ all next. AreAllSubmitted old.config until old ready all next) (Alike new) (all_in old.stream before) (all_in ready.stream behind) led (λ all after here there submitted.
      made_on old ready new all after is (is_busy old before all sized config busy here) submitted.leads (made after.queues) some next))
  made_turn new (Err fault) led is sized config busy some made next stream = tt

  failed_on : (fault : Fault) (all next : All) → IsReady old ready → IsBusy old all → Leads (all_submitted old.config) old ready all next → ready.round < MOST → IsCycleFault fault (channels_served ready.config.geometry.channels (state_of ready.world)) → IsCutOff old.config (MOST - old.round) old fault all
  failed_on fault all next is busy led some failed =
      let one : MOST - old.round ≡ suc (MOST - old.round - 1) = omega (arith, is.round, some) in
      turn_failed old.config (MOST - old.round) (MOST - old.round - 1) (whole_run old all.queues) (whole_run ready next.queues) fault one busy.some (sym led.run)
      (subst (λ (c : Config). IsCycleFault fault (channels_served c.geometry.channels (state_of ready.world))) is.config failed)

  cut_at : (new : Replay) (fault : Fault) → AreReady → IsReady old ready → IsSized old.stream → old.stream.config ≡ old.config → (unserved (run_of old) == 0) ≡ false → ready.round < MOST → new.stream ≡ ready.stream → IsCycleFault fault (channels_served ready.config.geometry.channels (state_of ready.world))
      → Carries (λ all next. IsCutOff old.config (MOST - old.round) old fault all) (all_in old.stream before) (all_in new.stream behind)
  cut_at new fault led is sized config busy some stream failed =
      subst (λ (w : Waiting). Carries (λ all next. IsCutOff old.config (MOST - old.round) old fault all) (all_in old.stream before) (all_in w behind)) (sym stream)
      (carries_with (λ all next. AreAllSubmitted old.config until old ready all next) (λ all next. IsCutOff old.config (MOST - old.round) old fault all) (all_in old.stream before) (all_in ready.stream behind) led (λ all next here there submitted.
      failed_on fault all next is (is_busy old before all sized config busy here) submitted.leads some failed))

  stopped_at : (new : Replay) (fault : Fault) → AreReady → IsReady old ready → IsSized old.stream → old.stream.config ≡ old.config → (unserved (run_of old) == 0) ≡ false → ready.round < MOST → new.stream ≡ ready.stream → IsCycleFault fault (channels_served ready.config.geometry.channels (state_of ready.world))
      → IsStopped old.config (MOST - old.round) old fault (all_in old.stream before) (all_in new.stream behind)
  stopped_at new faults.ClockSpent led is sized config busy some stream failed = cut_at new faults.ClockSpent led is sized config busy some stream failed
  stopped_at new faults.OutOfMemory led is sized config busy some stream failed = tt
  stopped_at new _ led is sized config busy some stream failed = absurd failed

  pub failed_turn : (new : Replay) (r : Result (Unit {0}) Fault) → AreReady → IsReady old ready → IsSized old.stream → old.stream.config ≡ old.config → (unserved (run_of old) == 0) ≡ false → ready.round < 4294967295 → new.stream ≡ ready.stream
      → IfErr r (λ fault. IsCycleFault fault (channels_served ready.config.geometry.channels (state_of ready.world))) → IfErr r (λ fault. IsStopped old.config (MOST - old.round) old fault (all_in old.stream before) (all_in new.stream behind))
  failed_turn new (Ok v) led is sized config busy some stream failed = tt
  failed_turn new (Err fault) led is sized config busy some stream failed = stopped_at new fault led is sized config busy some stream failed

-- no round more may be made
pub limit_reached : (old : Replay) (more : Option (List ℕ)) → IsSized old.stream → old.stream.config ≡ old.config → (unserved (run_of old) == 0) ≡ false → old.round ≡ MOST → IsStopped old.config (MOST - old.round) old faults.ReplayLimit (all_in old.stream more) (all_in old.stream more)
limit_reached old more sized config busy last =
    let none : MOST - old.round ≡ 0 = omega (arith, last) in
    carries_with (λ all next. Unit {0}) (λ all next. IsCutOff old.config (MOST - old.round) old faults.ReplayLimit all) (all_in old.stream more) (all_in old.stream more) (carries_same (λ all next. Unit {0}) (all_in old.stream more) (all_in old.stream more) (same_itself (all_in old.stream more)) (λ all. tt))
    (λ all next here there so. replayed_limit old.config (MOST - old.round) (whole_run old all.queues) none (is_busy old more all sized config busy here).some)
