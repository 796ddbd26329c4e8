-- How a replay comes to its end: no request is left, also none that was not read.
use Rattle.std.proofs.Common.{◌≡◌, ◌<◌, ◌+◌, ◌-◌, ℕ, Bool, true, false, append-nil, List, [], ◌∷◌, ◌++◌, Option, None, Some, Result, Ok, Err, IfOk, IfSome, inl, inr, length, sym, subst, ◌∙◌, arith}
use Rattle.std.specs.Prelude.{◌==◌}
use Rattle.std.specs.List.{sum_by}
use Rattle.std.proofs.lemmas.Bool.{eqb-true}
use Rattle.std.proofs.lemmas.List.Sums.{sum_by-set}
use Rattle.ddr_timing.specs.declared.config.Config.{Config}
use Rattle.ddr_text.specs.declared.fault.Fault.{Fault}
use Rattle.ddr_text.specs.declared.fault.Fault.TheVariants as faults
use Rattle.ddr_replay.specs.Stuck.{CannotGoOn}
use Rattle.ddr_stream.specs.Stream.{Queues, queue_at}
use Rattle.ddr_stream.specs.Waiting.{All, IsAhead, IsSized, Knows, Waiting, all_in}
use Rattle.ddr_stream.proofs.AllLemmas.{all_ended}
use Rattle.std.specs.Io.KnownBytes.{Appends}
use Rattle.ddr_world.specs.Kept.{state_of}
use Rattle.ddr_replay.specs.Ahead.{Carries, HasTold, IsBeginning, IsCutOff, IsCutShort, IsOver, LeadsAlike}
use Rattle.std.proofs.KnownBytes.{Appends-trans}
use Rattle.ddr_text.specs.Sink.{write_fault}
use Rattle.ddr_replay.specs.Told.{comes_at_end, commands_of, said}
use Rattle.ddr_replay.proofs.ToldLemmas.{said_at_end}
use Rattle.ddr_replay.specs.declared.wanted.Wanted.{Wanted}
use Rattle.ddr_replay.specs.Runs.{unserved}
use Rattle.ddr_replay.specs.View.{IsTold, Replay, Tells, run_of, whole_run}
use Rattle.ddr_replay.proofs.AheadLemmas.{carries_ended, carries_on, carries_with}
use Rattle.ddr_replay.proofs.QuietLemmas.{replayed_over, turns_then}

abbrev Known : Type 0
Known = Option (Result All Fault)

-- no queue has a request
all_empty : (queues : Queues) (p : ℕ) → p < length queues → sum_by length queues ≡ 0 → length (queue_at queues p) ≡ 0
all_empty queues p within none = omega (arith, sum_by-set length queues p [] [] within, none)

-- the next request of the first port is known, and isn't there
has_ended : (w : Waiting) → IsAhead w → IsSized w → sum_by length w.queues ≡ 0 → w.ended ≡ true
has_ended w ahead sized none = by_first (ahead 0 (omega (arith, w.config.limits.ports_range.0)))
  where
    by_first : Knows w 0 → w.ended ≡ true
    by_first (inl here) = absurd (omega (arith, here, all_empty w.queues 0 (omega (arith, sized.queues, w.config.limits.ports_range.0)) none))
    by_first (inr ended) = ended

pub run_over : (config : Config) (left behind : ℕ) (old last : Replay) (a : Known) (more : Option (List ℕ)) → Carries (λ all next. LeadsAlike config left behind old last all next) a (all_in last.stream more)
    → IsAhead last.stream → IsSized last.stream → (unserved (run_of last) == 0) ≡ true → IfSome a (λ said. (all : All) × (said ≡ Ok all) × IsOver config left old last all)
run_over config left behind old last a more led ahead sized over = told a (carries_ended (λ all next. LeadsAlike config left behind old last all next) a (all_in last.stream more) left_over led ended)
  where
    left_over : All
    left_over = record { queues = last.stream.queues; requests = last.stream.asked }

    ended : all_in last.stream more ≡ Some (Ok left_over)
    ended = all_ended last.stream more sized (has_ended last.stream ahead sized (omega (arith, eqb-true (unserved (run_of last)) 0 over)))

    told : (o : Known) → IfSome o (λ said. (all : All) × (said ≡ Ok all) × LeadsAlike config left behind old last all left_over) → IfSome o (λ said. (all : All) × (said ≡ Ok all) × IsOver config left old last all)
    told None so = tt
    told (Some said) so = (
      so.0,
      so.1,
      record { requests = sym so.2.requests; run = so.2.run ∙ replayed_over config behind (run_of last) over; many = so.2.many; turns = so.2.turns },
    )

-- rounds behind rounds
leads_both : (config : Config) (n m k : ℕ) (old mid last : Replay) (x y z : All) → LeadsAlike config n m old mid x y → LeadsAlike config m k mid last y z → LeadsAlike config n k old last x z
leads_both config n m k old mid last x y z first second = record {
  requests = second.requests ∙ first.requests;
  run = first.run ∙ second.run;
  many = first.many + second.many;
  turns = turns_then config first.many second.many (whole_run old x.queues) (whole_run mid y.queues) (whole_run last z.queues) first.turns second.turns;
}

pub leads_on : (config : Config) (n m k : ℕ) (old mid last : Replay) (a b d : Known) → Carries (λ all next. LeadsAlike config n m old mid all next) a b → mid.config ≡ config → Carries (λ all next. LeadsAlike mid.config m k mid last all next) b d
    → Carries (λ all next. LeadsAlike config n k old last all next) a d
leads_on config n m k old mid last a b d first same second =
    carries_on (λ all next. LeadsAlike config n m old mid all next) (λ all next. LeadsAlike config m k mid last all next) (λ all next. LeadsAlike config n k old last all next) a b d first
    (subst (λ (c : Config). Carries (λ all next. LeadsAlike c m k mid last all next) b d) same second) (λ x y z. leads_both config n m k old mid last x y z)

-- the run that all requests lead to can go on no more
pub stuck_on : (config : Config) (old last : Replay) (cycle : ℕ) (a d : Known) → Carries (λ all next. LeadsAlike config (4294967295 - old.round) (4294967295 - last.round) old last all next) a d → last.config ≡ config → CannotGoOn last.config (run_of last) cycle
    → Carries (λ all next. IsCutOff config (4294967295 - old.round) old (faults.ReplayStuck cycle) all) a d
stuck_on config old last cycle a d led same stuck =
    let here = subst (λ (c : Config). CannotGoOn c (run_of last) cycle) same stuck in
    carries_with (λ all next. LeadsAlike config (4294967295 - old.round) (4294967295 - last.round) old last all next) (λ all next. IsCutOff config (4294967295 - old.round) old (faults.ReplayStuck cycle) all) a d led (λ x y before behind alike. record {
      run = whole_run last y.queues;
      leads = alike.run;
      stuck = record { short = here.short; waits = here.waits; long = here.long; past = here.past };
    })

-- ---- what was told

-- the beginning of it, where rounds end behind these
begun_here : (config : Config) (n m : ℕ) (old mid : Replay) (text : List ℕ) (a b : Known) → Carries (λ all next. LeadsAlike config n m old mid all next) a b → mid.wanted ≡ old.wanted → IsTold text mid → IfSome a (λ known. IfOk known (IsBeginning config old text))
begun_here config n m old mid text None b led same told = tt
begun_here config n m old mid text (Some (Err fault)) b led same told = tt
begun_here config n m old mid text (Some (Ok all)) b led same told = record {
  many = led.2.many;
  run = whole_run mid led.0.queues;
  turns = led.2.turns;
  rest = mid.text;
  said = subst (λ (w : Wanted). said w mid.ledger.served (commands_of w (state_of mid.world)) ≡ text ++ mid.text) same told;
}

pub cut_here : (config : Config) (n m : ℕ) (old mid : Replay) (fault : Fault) (before after : Option (List ℕ)) (a b : Known) → Carries (λ all next. LeadsAlike config n m old mid all next) a b → mid.wanted ≡ old.wanted → HasTold mid before after → IsCutShort config old fault before after a
cut_here config n m old mid fault before after a b led same told = inr (told.0, told.1, begun_here config n m old mid told.0 a b led same told.2)

-- where another fault is told for the one by which the rounds ended
pub cut_again : (config : Config) (old : Replay) (fault first : Fault) (before after : Option (List ℕ)) (a : Known) → (fault ≡ faults.Write → first ≡ faults.Write) → IsCutShort config old fault before after a → IsCutShort config old first before after a
cut_again config old fault first before after a keeps (inl write) = inl (keeps write)
cut_again config old fault first before after a keeps (inr is) = inr is

-- what is to be written next was written

pub led_written : (config : Config) (n m : ℕ) (old last : Replay) (a d : Known) → Carries (λ all next. LeadsAlike config n m old last all next) a d → Carries (λ all next. LeadsAlike config n m old (record last { text = [] }) all next) a d
led_written config n m old last a d led =
    carries_with (λ all next. LeadsAlike config n m old last all next) (λ all next. LeadsAlike config n m old (record last { text = [] }) all next) a d led (λ x y here there l. record { requests = l.requests; run = l.run; many = l.many; turns = l.turns })

pub told_written : (mid last : Replay) (before middle after : Option (List ℕ)) → HasTold mid before middle → Tells mid last → Appends middle after last.text → HasTold (record last { text = [] }) before after
told_written mid last before middle after told tells written = (
  told.0 ++ last.text,
  Appends-trans before middle after told.0 last.text told.1 written,
  tells told.0 told.2 ∙ sym (append-nil (told.0 ++ last.text)),
)

-- or was not
pub write_failed : (config : Config) (n m : ℕ) (old mid : Replay) (fault : Fault) (before middle after : Option (List ℕ)) (a b : Known) (may_fail : Bool) → Carries (λ all next. LeadsAlike config n m old mid all next) a b → mid.wanted ≡ old.wanted → HasTold mid before middle
    → fault ≡ write_fault may_fail → (fault ≡ faults.OutOfMemory → after ≡ middle) → IsCutShort config old fault before after a
write_failed config n m old mid fault before middle after a b true led same told refused spared = inl refused
write_failed config n m old mid fault before middle after a b false led same told refused spared =
    subst (λ (x : Option (List ℕ)). IsCutShort config old fault before x a) (sym (spared refused)) (cut_here config n m old mid fault before middle a b led same told)

-- nothing is to be written where all is told at the end
empty_behind : (earlier text : List ℕ) → [] ≡ earlier ++ text → text ≡ []
empty_behind [] text is = sym is
empty_behind (x ∷ xs) text is = absurd (let impossible = is in cc)

pub nothing_next : (earlier : List ℕ) (r : Replay) → comes_at_end r.wanted ≡ true → IsTold earlier r → r.text ≡ []
nothing_next earlier r at_end told = empty_behind earlier r.text (sym (said_at_end r.wanted r.ledger.served (commands_of r.wanted (state_of r.world)) at_end) ∙ told)
