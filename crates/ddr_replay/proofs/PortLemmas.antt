-- Ports submit, one after another, and wait on while others do.
use Rattle.std.proofs.Common.{◌≡◌, ◌≢◌, ◌<◌, ◌≤◌, ◌+◌, ◌-◌, ℕ, Bool, true, false, List, Option, Result, add-one, below_more, inl, inr, length, refl, sym, ap, ap₂, subst, ◌∙◌, arith}
use Rattle.std.specs.Prelude.{◌==◌}
use Rattle.std.proofs.lemmas.Bool.{cases_lt, ne_eqb}
use Rattle.std.proofs.lemmas.Bool.Decides.{nat_tests}
use Rattle.ddr_timing.specs.declared.config.Config.{Config}
use Rattle.ddr_rounds.specs.Rounds.{outstanding}
use Rattle.ddr_world.specs.Kept.{state_of}
use Rattle.ddr_text.specs.declared.fault.Fault.{Fault}
use Rattle.ddr_stream.specs.declared.ask.Ask.{Ask}
use Rattle.ddr_stream.specs.Stream.{Queues, queue_at}
use Rattle.ddr_stream.specs.Waiting.{All, IsSized, all_in}
use Rattle.ddr_stream.proofs.AllLemmas.{all_sized}
use Rattle.ddr_replay.specs.declared.order.Asking.{Asking}
use Rattle.ddr_replay.specs.Ahead.{AreAllSubmitted, AreSubmitted, Carries, IsSubmitted, Leads}
use Rattle.ddr_replay.specs.Runs.{Run, Submitted, first_behind, first_port, port_submitted, ports_submitted, with_submitted}
use Rattle.ddr_replay.specs.View.{Replay, whole_run}
use Rattle.ddr_replay.specs.Waits.{IsWaiting, IsWaitingIn}
use Rattle.ddr_replay.proofs.AheadLemmas.{carries_on, carries_same, carries_with, same_itself}
use Rattle.ddr_replay.proofs.RoundLemmas.{counted, submitted_counts}
use Rattle.ddr_replay.proofs.SubmitLemmas.{written_here}
use Rattle.ddr_replay.proofs.WaitLemmas.{waits_beside, waits_less}

abbrev Known : Type 0
Known = Option (Result All Fault)

-- as many requests were taken from the stream behind it as before, or not
abbrev pub TakesAs : Bool → ℕ → ℕ → Type 0
TakesAs true before behind = behind ≡ before
TakesAs false before behind = behind ≢ before

same_left : (same : Bool) (left queued after before taken next : ℕ) → TakesAs same taken next → left + after ≡ queued + before → taken + after ≡ next + before → (left == queued) ≡ same
same_left true left queued after before taken next takes counts count =
    let alike : left ≡ queued = omega (arith, takes, counts, count) in
    grind (arith, nat_tests, alike)
same_left false left queued after before taken next takes counts count = ne_eqb left queued (λ alike. takes (omega (arith, alike, counts, count)))

port_leads : (old new : Replay) (p until : ℕ) (all next : All) → p < length all.queues → new.round ≡ old.round → (same : Bool) → TakesAs same old.stream.taken new.stream.taken → old.stream.taken + outstanding (state_of new.world) ≡ new.stream.taken + outstanding (state_of old.world) → new.asking ≡ first_behind p same old.asking → IsSubmitted p old.round until (state_of old.world) old.ledger (state_of new.world) new.ledger all next
    → Leads (port_submitted p) old new all next × IsWaitingIn p until (whole_run new next.queues)
port_leads old new p until all next within round same takes count asking is =
    let counts : length is.rest + outstanding (state_of new.world) ≡ length (queue_at all.queues p) + outstanding (state_of old.world) =
    ap (λ (s : Submitted). counted s) (sym is.submitted) ∙ submitted_counts p old.round (queue_at all.queues p) (state_of old.world) old.ledger in
    let left_is : (length is.rest == length (queue_at all.queues p)) ≡ same = same_left same (length is.rest) (length (queue_at all.queues p)) (outstanding (state_of new.world)) (outstanding (state_of old.world)) old.stream.taken new.stream.taken takes counts count in
    let queue : queue_at next.queues p ≡ is.rest = ap (λ (qs : Queues). queue_at qs p) is.queues ∙ written_here all.queues p is.rest within in (
      record {
        requests = is.requests;
        run = ap (with_submitted p (whole_run old all.queues)) is.submitted
            ∙ ap (λ (qs : Queues). record { asking = first_behind p (length is.rest == length (queue_at all.queues p)) old.asking; state = state_of new.world; queues = qs; ledger = new.ledger; round = old.round }) (sym is.queues)
            ∙ ap₂ (λ (a : Asking) (r : ℕ). record { asking = a; state = state_of new.world; queues = next.queues; ledger = new.ledger; round = r }) (ap (λ b. first_behind p b old.asking) left_is ∙ sym asking) (sym round);
      },
      subst (λ (r : ℕ). IsWaiting p until r (queue_at next.queues p) (state_of new.world)) (sym round)
          (subst (λ (q : List Ask). IsWaiting p until old.round q (state_of new.world)) (sym queue) is.waits),
    )

-- of all requests, where those are known
pub port_led : (old new : Replay) (p until : ℕ) (before : Option (List ℕ)) (behind : Known) → IsSized old.stream → p < old.stream.config.limits.ports → new.round ≡ old.round
    → (same : Bool) → TakesAs same old.stream.taken new.stream.taken → old.stream.taken + outstanding (state_of new.world) ≡ new.stream.taken + outstanding (state_of old.world) → new.asking ≡ first_behind p same old.asking
    → Carries (λ all next. IsSubmitted p old.round until (state_of old.world) old.ledger (state_of new.world) new.ledger all next) (all_in old.stream before) behind
    → Carries (λ all next. Leads (port_submitted p) old new all next × IsWaitingIn p until (whole_run new next.queues)) (all_in old.stream before) behind
port_led old new p until before behind sized within round same takes count asking so =
    carries_with (λ all next. IsSubmitted p old.round until (state_of old.world) old.ledger (state_of new.world) new.ledger all next) (λ all next. Leads (port_submitted p) old new all next × IsWaitingIn p until (whole_run new next.queues)) (all_in old.stream before) behind so
    (λ all next here there is. port_leads old new p until all next (omega (arith, within, all_sized old.stream before all sized here)) round same takes count asking is)

-- none has yet
none_submitted : (r : Replay) (first until : ℕ) (all : All) → AreSubmitted first 0 until r r all all
none_submitted r first until all = record {
  leads = record { requests = refl; run = refl };
  waits = λ p from to. absurd (omega (arith, from, to));
  others = λ p cycle apart was. was;
}

pub ports_begun : (r : Replay) (first until : ℕ) (a : Known) → Carries (λ all next. AreSubmitted first (first - first) until r r all next) a a
ports_begun r first until a =
    let none : 0 ≡ first - first = omega arith in
    carries_same (λ all next. AreSubmitted first (first - first) until r r all next) a a (same_itself a)
    (λ all. subst (λ n. AreSubmitted first n until r r all all) none (none_submitted r first until all))

-- one port more
one_more : (old mid new : Replay) (first n until behind less : ℕ) (x y z : All) → less ≤ until → less ≤ behind → AreSubmitted first n until old mid x y
    → Leads (port_submitted (first + n)) mid new y z × IsWaitingIn (first + n) behind (whole_run new z.queues) → AreSubmitted first (n + 1) less old new x z
one_more old mid new first n until behind less x y z under over before here =
    let p = first + n in
    let now = whole_run mid y.queues in
    let next = whole_run new z.queues in
    record {
      leads = record {
        requests = here.0.requests ∙ before.leads.requests;
        run = ap (λ k. ports_submitted first k (whole_run old x.queues)) (add-one n) ∙ ap (port_submitted p) before.leads.run ∙ here.0.run;
      };
      waits = λ q from to.
          below_more (λ k. first ≤ k → IsWaitingIn k less next) p
          (λ k below from_here.
          let other : k ≢ p = omega (arith, below) in
          subst (λ (r : Run). IsWaitingIn k less r) here.0.run (waits_beside until less p k now other under (before.waits k from_here below)))
          (λ from_here. waits_less behind less p next.round (queue_at next.queues p) next.state over here.1)
          q (omega (arith, to)) from;
      others = λ q cycle apart was.
          elim apart [
            | inl below ↦
                (let other : q ≢ p = omega (arith, below) in
                subst (λ (r : Run). IsWaitingIn q cycle r) here.0.run (waits_beside cycle cycle p q now other (omega arith) (before.others q cycle (inl below) was)))
            | inr above ↦
                (let other : q ≢ p = omega (arith, above) in
                subst (λ (r : Run). IsWaitingIn q cycle r) here.0.run (waits_beside cycle cycle p q now other (omega arith) (before.others q cycle (inr (omega (arith, above))) was)))
          ];
    }

pub ports_led : (old mid new : Replay) (first p until behind less : ℕ) (a b d : Known) → first ≤ p → less ≤ until → less ≤ behind → Carries (λ all next. AreSubmitted first (p - first) until old mid all next) a b
    → Carries (λ all next. Leads (port_submitted p) mid new all next × IsWaitingIn p behind (whole_run new next.queues)) b d → Carries (λ all next. AreSubmitted first (p + 1 - first) less old new all next) a d
ports_led old mid new first p until behind less a b d from under over before here =
    let n = p - first in
    let place : p ≡ first + n = omega (arith, from) in
    let more : n + 1 ≡ p + 1 - first = omega (arith, from) in
    subst (λ k. Carries (λ all next. AreSubmitted first k less old new all next) a d) more
    (carries_on (λ all next. AreSubmitted first n until old mid all next) (λ all next. Leads (port_submitted p) mid new all next × IsWaitingIn p behind (whole_run new next.queues)) (λ all next. AreSubmitted first (n + 1) less old new all next) a b d before here
    (λ x y z led on.
    one_more old mid new first n until behind less x y z under over led (subst (λ k. Leads (port_submitted k) mid new y z × IsWaitingIn k behind (whole_run new z.queues)) place on)))

-- those from the one that submits first on, and then those before it
all_on : (config : Config) (old mid new : Replay) (first until behind less : ℕ) (x y z : All) → first ≡ first_port old.asking config.limits.ports → first ≤ config.limits.ports → less ≤ until → less ≤ behind
    → AreSubmitted first (config.limits.ports - first) until old mid x y → AreSubmitted 0 first behind mid new y z → AreAllSubmitted config less old new x z
all_on config old mid new first until behind less x y z is within under over before here =
    let ports = config.limits.ports in
    let next = whole_run new z.queues in
    record {
      leads = record {
        requests = here.leads.requests ∙ before.leads.requests;
        run = ap (λ f. ports_submitted 0 f (ports_submitted f (ports - f) (whole_run old x.queues))) (sym is) ∙ ap (ports_submitted 0 first) before.leads.run ∙ here.leads.run;
      };
      waits = λ p below. elim (cases_lt p first) [
        | inl early ↦ waits_less behind less p next.round (queue_at next.queues p) next.state over (here.waits p (omega arith) (omega (arith, early)))
        | inr late ↦ waits_less until less p next.round (queue_at next.queues p) next.state under (here.others p until (inr (omega (arith, late))) (before.waits p late (omega (arith, late, below))))
      ];
    }

pub all_led : (config : Config) (old mid new : Replay) (first until behind less : ℕ) (a b d : Known) → first ≡ first_port old.asking config.limits.ports → first ≤ config.limits.ports → less ≤ until → less ≤ behind
    → Carries (λ all next. AreSubmitted first (config.limits.ports - first) until old mid all next) a b → Carries (λ all next. AreSubmitted 0 (first - 0) behind mid new all next) b d → Carries (λ all next. AreAllSubmitted config less old new all next) a d
all_led config old mid new first until behind less a b d is within under over before here =
    let none : first - 0 ≡ first = omega arith in
    carries_on (λ all next. AreSubmitted first (config.limits.ports - first) until old mid all next) (λ all next. AreSubmitted 0 first behind mid new all next) (λ all next. AreAllSubmitted config less old new all next) a b d before
    (subst (λ n. Carries (λ all next. AreSubmitted 0 n behind mid new all next) b d) none here)
    (λ x y z led on. all_on config old mid new first until behind less x y z is within under over led on)
