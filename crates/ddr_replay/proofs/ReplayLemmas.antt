-- What an input says of a replay.
use Rattle.std.proofs.Common.{◌≡◌, ℕ, List, [], ◌++◌, append_assoc, Bool, true, false, cond, Option, None, Some, Result, Ok, Err, IfErr, IfOk, IfSome, OnOk, if◌then◌else◌, drop, inl, inr, map, refl, sym, ap, subst, ◌∙◌}
use Rattle.std.specs.Prelude.{◌-◌, max}
use Rattle.std.specs.Io.KnownBytes.{Appends}
use Rattle.std.proofs.KnownBytes.{Appends-nil, Appends-trans}
use Rattle.ddr_timing.specs.declared.config.Config.{Config}
use Rattle.ddr_replay.specs.Taken.{IsTaken, IsTakenFault, all_of, taken_of}
use Rattle.ddr_replay.specs.declared.order.Order.{Order}
use Rattle.ddr_replay.specs.declared.taken.Taking.{Taking}
use Rattle.ddr_replay.specs.declared.wanted.Wanted.{Wanted}
use Rattle.ddr_replay.specs.declared.wanted.Wanted.TheVariants as wants
use Rattle.ddr_ledger.specs.Measured.{timed_of}
use Rattle.ddr_ledger.specs.Numbers.{is_any_spent}
use Rattle.ddr_ledger.specs.ServedText.{served_text}
use Rattle.ddr_measure.specs.Series.{series_text}
use Rattle.ddr_measure.specs.Text.{measured_text}
use Rattle.ddr_measure.specs.declared.timed.Timed.{Timed}
use Rattle.ddr_text.specs.Body.{parts_of}
use Rattle.ddr_text.specs.Instructions.{◌>>>◌}
use Rattle.ddr_text.specs.Sink.{write_fault}
use Rattle.ddr_text.specs.declared.fault.Fault.{Fault}
use Rattle.ddr_text.specs.declared.fault.Fault.TheVariants as faults
use Rattle.ddr_text.proofs.BodyLemmas.{not_of_parts}
use Rattle.ddr_capture.specs.Feed.{Along}
use Rattle.ddr_capture.specs.Front.{ComesFirst, IsConfigRefused, IsOpened}
use Rattle.ddr_capture.proofs.FrontLemmas.{opened_first}
use Rattle.std.specs.Io.KnownBytes.{prepend_known}
use Rattle.ddr_stream.specs.declared.requests.Requests.{Requests}
use Rattle.ddr_stream.specs.Requests.{requests_in}
use Rattle.ddr_stream.specs.Stream.{Queues}
use Rattle.ddr_stream.specs.Waiting.{All}
use Rattle.ddr_replay.specs.Ahead as ahead
use Rattle.ddr_replay.specs.Ahead.{IsCutOff, IsCutShort, IsEnded, IsOver}
use Rattle.ddr_replay.specs.Replays.{HasReplayFault, HasWritten, IsBeginning, IsBeginningOf, IsFaultOf, IsReplayed, IsReported, IsSaid, IsWritten, channel_commands, channel_text, is_before_rounds, names_no_channel, report_of, told_behind, told_of}
use Rattle.ddr_replay.specs.Finished.{IsEndFault, IsFinished, IsPartly, IsUnfinished, all_told}
use Rattle.ddr_replay.specs.Told.{comes_at_end, commands_of, keeps_served, said}
use Rattle.ddr_replay.specs.Report.{report_text}
use Rattle.ddr_replay.specs.Runs.{Run, begun, replayed, turns}
use Rattle.ddr_replay.specs.View.{IsRunFault, Replay, run_of, told_so_far, whole_run}
use Rattle.ddr_world.specs.Kept.{state_of}
use Rattle.ddr_replay.proofs.RoundLemmas.{with_queues}

-- of each text that may be known
pub each : {P : List ℕ → Type 0} (o : Option (List ℕ)) → ((text : List ℕ) → P text) → IfSome o P
each None so = tt
each (Some text) so = so text

pub each_with : {P Q : List ℕ → Type 0} (o : Option (List ℕ)) → IfSome o P → ((text : List ℕ) → P text → Q text) → IfSome o Q
each_with None known so = tt
each_with (Some text) known so = so text known

abbrev on_queues : Config → Order → Wanted → Result Queues Fault → Result (List ℕ) Fault
on_queues config order told r = r >>> told_behind config order told

abbrev on_run : Config → Wanted → Queues → Result Run Fault → Result (List ℕ) Fault
on_run config told queues r = r >>> λ run. told_of config told (map requests_in queues) run

abbrev on_channel : Config → Taking → Wanted → List ℕ → Bool → Result (List ℕ) Fault
on_channel config taking told body b = cond b (Err faults.TraceNoSuch) (taken_of config taking body >>> told_behind config taking.order told)

-- there is no such channel
pub no_channel : (config : Config) (taking : Taking) (told : Wanted) (body : List ℕ) → names_no_channel config told ≡ true → report_of config taking told body ≡ Err faults.TraceNoSuch
unfolding report_of
no_channel config taking told body none = ap (on_channel config taking told body) none

there : (config : Config) (taking : Taking) (told : Wanted) (body : List ℕ) → names_no_channel config told ≡ false → report_of config taking told body ≡ on_queues config taking.order told (taken_of config taking body)
unfolding report_of
there config taking told body some = ap (on_channel config taking told body) some

behind : (config : Config) (taking : Taking) (told : Wanted) (body : List ℕ) (queues : Queues) → names_no_channel config told ≡ false → taken_of config taking body ≡ Ok queues → report_of config taking told body ≡ on_run config told queues (replayed config 4294967295 (begun config (keeps_served told) taking.order queues))
behind config taking told body queues some read = there config taking told body some ∙ ap (on_queues config taking.order told) read

-- the run comes to no end
run_said : (config : Config) (taking : Taking) (told : Wanted) (body : List ℕ) (queues : Queues) (fault : Fault) → names_no_channel config told ≡ false → taken_of config taking body ≡ Ok queues → IsRunFault config fault (replayed config 4294967295 (begun config (keeps_served told) taking.order queues)) → IsFaultOf config taking told body fault
run_said config taking told body queues faults.ReplayLimit some read is = behind config taking told body queues some read ∙ ap (on_run config told queues) is
run_said config taking told body queues faults.ClockSpent some read is = behind config taking told body queues some read ∙ ap (on_run config told queues) is
run_said config taking told body queues (faults.ReplayStuck cycle) some read is = record { queues = queues; read = read; stuck = is }
run_said config taking told body queues faults.OutOfMemory some read is = tt
run_said config taking told body queues _ some read is = absurd is

-- what is told of the run
pub told_said : (config : Config) (taking : Taking) (told : Wanted) (body : List ℕ) (queues : Queues) (run : Run) → names_no_channel config told ≡ false → taken_of config taking body ≡ Ok queues → replayed config 4294967295 (begun config (keeps_served told) taking.order queues) ≡ Ok run
    → report_of config taking told body ≡ told_of config told (map requests_in queues) run
told_said config taking told body queues run some read came = behind config taking told body queues some read ∙ ap (on_run config told queues) came

abbrev by_spent : Config → List Requests → Run → Bool → Result (List ℕ) Fault
by_spent config requests run b = cond b (Err faults.ClockSpent) (Ok (report_text config requests run))

-- a clock is spent at the run's end
-- its statistics
-- what is said of a run where it has no text
pub fault_of_run : {X : Type 0} (view : X → List ℕ) (config : Config) (taking : Taking) (told : Wanted) (body : List ℕ) (fault : Fault) → IsSaid view (Err fault) (report_of config taking told body) → IsFaultOf config taking told body fault
fault_of_run view config taking told body (faults.ReplayLine line cause) is = is
fault_of_run view config taking told body (faults.ReplayRange line) is = is
fault_of_run view config taking told body faults.InputTooLong is = is
fault_of_run view config taking told body faults.TraceNoSuch is = is
fault_of_run view config taking told body faults.ReplayLimit is = is
fault_of_run view config taking told body faults.ClockSpent is = is
fault_of_run view config taking told body faults.OutOfMemory is = tt
fault_of_run view config taking told body _ is = absurd is

-- a trace
-- ---- all requests of a body

abbrev pub with_counts : Result Queues Fault → Result All Fault
with_counts r = r >>> λ queues. Ok (record { queues = queues; requests = map requests_in queues })

pub refused_so : (r : Result Queues Fault) (e : Fault) → with_counts r ≡ Err e → r ≡ Err e
refused_so (Ok queues) e is = absurd (let impossible = is in cc)
refused_so (Err f) e is =
    let same : f ≡ e = cc in
    ap (λ (x : Fault). Err x) same

pub read_so : (r : Result Queues Fault) (all : All) → with_counts r ≡ Ok all → (r ≡ Ok all.queues) × (map requests_in all.queues ≡ all.requests)
read_so (Err f) all is = absurd (let impossible = is in cc)
read_so (Ok queues) all is =
    let same : record { queues = queues; requests = map requests_in queues } ≡ all = cc in (
      ap (λ (x : All). Ok x.queues) same,
      ap (λ (x : All). map requests_in x.queues) (sym same) ∙ ap (λ (x : All). x.requests) same,
    )

module _ (config : Config) (taking : Taking) (told : Wanted) (body : List ℕ) where
  refused : (e : Fault) → names_no_channel config told ≡ false → all_of config taking body ≡ Err e → report_of config taking told body ≡ Err e
  refused e some is = there config taking told body some ∙ ap (on_queues config taking.order told) (refused_so (taken_of config taking body) e is)

  -- a line is at fault
  pub taken_said : (fault : Fault) → names_no_channel config told ≡ false → IsTakenFault config taking fault body → IsFaultOf config taking told body fault
  taken_said (faults.ReplayLine line cause) some is = refused (faults.ReplayLine line cause) some is
  taken_said (faults.ReplayRange line) some is = refused (faults.ReplayRange line) some is
  taken_said faults.InputTooLong some is = refused faults.InputTooLong some is
  taken_said faults.Read some is = tt
  taken_said faults.OutOfMemory some is = tt
  taken_said _ some is = absurd is

-- a replay that has just begun
pub record HasBegun (asked : Config) (keeps : Bool) (order : Order) (began : Replay) : Type 0 where
  pub config : began.config ≡ asked
  pub run : run_of began ≡ begun asked keeps order began.stream.queues

begun_whole : (config : Config) (keeps : Bool) (order : Order) (began : Replay) (queues : Queues) → HasBegun config keeps order began → whole_run began queues ≡ begun config keeps order queues
begun_whole config keeps order began queues has = ap (with_queues queues) has.run

begun_left : (config : Config) (keeps : Bool) (order : Order) (began : Replay) → HasBegun config keeps order began → 4294967295 - began.round ≡ 4294967295
begun_left config keeps order began has = ap (λ (r : Run). 4294967295 - r.round) has.run

-- what is so of the run that all requests come to
at_begun : (P : Config → Result Run Fault → Type 0) (config : Config) (keeps : Bool) (order : Order) (began : Replay) (queues : Queues) → HasBegun config keeps order began → P began.config (replayed began.config (4294967295 - began.round) (whole_run began queues)) → P config (replayed config 4294967295 (begun config keeps order queues))
at_begun P config keeps order began queues has so =
    subst (P config) (ap (λ n. replayed config n (whole_run began queues)) (begun_left config keeps order began has) ∙ ap (replayed config 4294967295) (begun_whole config keeps order began queues has))
    (subst (λ (k : Config). P k (replayed k (4294967295 - began.round) (whole_run began queues))) has.config so)

module _ (config : Config) (taking : Taking) (told : Wanted) (began : Replay) (all : Option (Result All Fault)) (body : List ℕ) where
  abbrev Left : ℕ
  Left = 4294967295 - began.round

  cut : (fault : Fault) → names_no_channel config told ≡ false → HasBegun config (keeps_served told) taking.order began → (x : All) → all_of config taking body ≡ Ok x → IsCutOff began.config Left began fault x → IsFaultOf config taking told body fault
  cut fault some has x read is =
      run_said config taking told body x.queues fault some (read_so (taken_of config taking body) x read).0 (at_begun (λ (k : Config) (r : Result Run Fault). IsRunFault k fault r) config (keeps_served told) taking.order began x.queues has is)

  ended : (fault : Fault) → (comes_at_end told ≡ true → fault ≡ faults.Write → ⊥) → names_no_channel config told ≡ false → HasBegun config (keeps_served told) taking.order began → IsEnded began.config Left began fault (Some (all_of config taking body)) → IsFaultOf config taking told body fault
  ended (faults.ReplayLine line cause) silent some has is = taken_said config taking told body (faults.ReplayLine line cause) some is
  ended (faults.ReplayRange line) silent some has is = taken_said config taking told body (faults.ReplayRange line) some is
  ended faults.InputTooLong silent some has is = taken_said config taking told body faults.InputTooLong some is
  ended faults.Read silent some has is = tt
  ended faults.OutOfMemory silent some has is = tt
  ended faults.Write silent some has is = λ at_end. absurd (silent at_end refl)
  ended fault silent some has is = cut fault some has is.0 is.1 is.2

  -- the run ended by a fault
  pub run_ended : (fault : Fault) → (comes_at_end told ≡ true → fault ≡ faults.Write → ⊥) → names_no_channel config told ≡ false → HasBegun config (keeps_served told) taking.order began → IsEnded began.config Left began fault all → IsTaken config taking body all → IsFaultOf config taking told body fault
  run_ended fault silent some has is taken = ended fault silent some has (subst (IsEnded began.config Left began fault) taken is)

  abbrev pub CameTo : Replay → Type 0
  CameTo last = IfSome all (λ said. (x : All) × (said ≡ Ok x) × IsOver began.config Left began last x)

  came_to : (last : Replay) → CameTo last → IsTaken config taking body all → (x : All) × (all_of config taking body ≡ Ok x) × IsOver began.config Left began last x
  came_to last came taken = subst (λ (o : Option (Result All Fault)). IfSome o (λ said. (x : All) × (said ≡ Ok x) × IsOver began.config Left began last x)) taken came

  -- it came to its end, and this is told of it
  pub run_told : (last : Replay) (requests : List Requests) (r : Result (List ℕ) Fault) → names_no_channel config told ≡ false → HasBegun config (keeps_served told) taking.order began → CameTo last → requests ≡ last.stream.asked → told_of config told requests (run_of last) ≡ r
      → IsTaken config taking body all → report_of config taking told body ≡ r
  run_told last requests r some has came same said taken =
      let here = came_to last came taken in
      let x = here.0 in
      let read = read_so (taken_of config taking body) x here.1 in
      let over = here.2 in
      let run = at_begun (λ (k : Config) (q : Result Run Fault). q ≡ Ok (run_of last)) config (keeps_served told) taking.order began x.queues has over.run in
      let counts : map requests_in x.queues ≡ requests = read.1 ∙ over.requests ∙ sym same in
      told_said config taking told body x.queues (run_of last) some read.0 run ∙ ap (λ (rs : List Requests). told_of config told rs (run_of last)) counts ∙ said

  -- ---- what was written

  by_taken : (text : List ℕ) (r : Result Queues Fault) → ((x : All) → with_counts r ≡ Ok x → IsBeginningOf config taking.order told text x.queues) → IfOk r (IsBeginningOf config taking.order told text)
  by_taken text (Ok queues) each = each (record { queues = queues; requests = map requests_in queues }) refl
  by_taken text (Err fault) each = tt

  at_started : (many : ℕ) (run : Run) (queues : Queues) → HasBegun config (keeps_served told) taking.order began → turns began.config many (whole_run began queues) ≡ Some run → turns config many (begun config (keeps_served told) taking.order queues) ≡ Some run
  at_started many run queues has is =
      subst (λ (k : Config). turns k many (begun config (keeps_served told) taking.order queues) ≡ Some run) has.config
      (subst (λ (r : Run). turns began.config many r ≡ Some run) (begun_whole config (keeps_served told) taking.order began queues has) is)

  -- by what is known of the run's requests
  begun_of : (text : List ℕ) → HasBegun config (keeps_served told) taking.order began → began.wanted ≡ told → IfSome all (λ known. IfOk known (ahead.IsBeginning began.config began text)) → IsTaken config taking body all → IsBeginning config taking told body text
  begun_of text has same is taken =
      let here : IfOk (all_of config taking body) (ahead.IsBeginning began.config began text) = subst (λ (o : Option (Result All Fault)). IfSome o (λ known. IfOk known (ahead.IsBeginning began.config began text))) taken is in
      by_taken text (taken_of config taking body) (λ x read.
      let b : ahead.IsBeginning began.config began text x = subst (λ (r : Result All Fault). IfOk r (ahead.IsBeginning began.config began text)) read here in
      record {
        many = b.many;
        run = b.run;
        turns = at_started b.many b.run x.queues has b.turns;
        rest = b.rest;
        said = subst (λ (w : Wanted). said w b.run.ledger.served (commands_of w b.run.state) ≡ text ++ b.rest) same b.said;
      })

  pub cut_short : (fault : Fault) (before after : Option (List ℕ)) → HasBegun config (keeps_served told) taking.order began → began.wanted ≡ told → IsCutShort began.config began fault before after all → IsTaken config taking body all → IsWritten config taking told body fault before after
  cut_short fault before after has same (inl write) taken = inl write
  cut_short fault before after has same (inr is) taken = inr (is.0, is.1, begun_of is.0 has same is.2 taken)

  over_begun : (last : Replay) (text rest : List ℕ) → HasBegun config (keeps_served told) taking.order began → last.wanted ≡ told → (here : (x : All) × (all_of config taking body ≡ Ok x) × IsOver began.config Left began last x) (x : All) → all_of config taking body ≡ Ok x → told_so_far last ≡ text ++ rest
      → IsBeginningOf config taking.order told text x.queues
  over_begun last text rest has same here x read is =
      let over = here.2 in
      let both : ◌≡◌ {A = Result All Fault} (Ok here.0) (Ok x) = sym here.1 ∙ read in
      let one : here.0 ≡ x = cc in
      record {
        many = over.many;
        run = whole_run last last.stream.queues;
        turns = subst (λ (y : All). turns config over.many (begun config (keeps_served told) taking.order y.queues) ≡ Some (whole_run last last.stream.queues)) one (at_started over.many (whole_run last last.stream.queues) here.0.queues has over.turns);
        rest = rest;
        said = subst (λ (w : Wanted). said w last.ledger.served (commands_of w (state_of last.world)) ≡ text ++ rest) same is;
      }

  -- so much was written of a run that came to its end
  pub over_short : (last : Replay) (fault : Fault) (before after : Option (List ℕ)) (text rest : List ℕ) → HasBegun config (keeps_served told) taking.order began → last.wanted ≡ told → CameTo last → IsTaken config taking body all → told_so_far last ≡ text ++ rest → Appends before after text
      → IsWritten config taking told body fault before after
  over_short last fault before after text rest has same came taken is written = inr (text, written, by_taken text (taken_of config taking body) (λ x read. over_begun last text rest has same (came_to last came taken) x read is))

  -- ---- how it was finished

  at_wanted : (last : Replay) → last.wanted ≡ told → all_told config last ≡ told_of config told last.stream.asked (run_of last)
  at_wanted last same = ap (λ (w : Wanted). told_of config w last.stream.asked (run_of last)) same

  all_of_body : (last : Replay) → names_no_channel config told ≡ false → HasBegun config (keeps_served told) taking.order began → last.wanted ≡ told → CameTo last → IsTaken config taking body all → report_of config taking told body ≡ all_told config last
  all_of_body last some has same came taken = run_told last last.stream.asked (told_of config told last.stream.asked (run_of last)) some has came refl refl taken ∙ sym (at_wanted last same)

  by_writing : (last : Replay) (fault : Fault) (may_fail : Bool) (text : List ℕ) → report_of config taking told body ≡ Ok text → fault ≡ write_fault may_fail → IsFaultOf config taking told body fault
  by_writing last fault true text said is = subst (IsFaultOf config taking told body) (sym is) (λ at_end. (text, said))
  by_writing last fault false text said is = subst (IsFaultOf config taking told body) (sym is) tt

  unfinished : (last : Replay) (fault : Fault) (may_fail : Bool) → report_of config taking told body ≡ all_told config last → IsUnfinished config last (write_fault may_fail) fault → IsFaultOf config taking told body fault
  unfinished last fault may_fail all_is (inl said) = fault_of_run {X = List ℕ} (λ text. text) config taking told body fault (subst (IsSaid {X = List ℕ} (λ text. text) (Err fault)) (sym all_is) said)
  unfinished last fault may_fail all_is (inr is) = by_writing last fault may_fail is.1.0 (all_is ∙ is.1.1) is.0

  pub finished_said : (last : Replay) (r : Result (Unit {0}) Fault) (before middle after : Option (List ℕ)) (may_fail : Bool) → names_no_channel config told ≡ false → HasBegun config (keeps_served told) taking.order began → last.wanted ≡ told → CameTo last → IsTaken config taking body all
      → ahead.HasTold last before middle → OnOk r (IsFinished config last middle after) → IfErr r (λ fault. IsUnfinished config last (write_fault may_fail) fault) → IsReported config taking told body before after r
  finished_said last (Err fault) before middle after may_fail some has same came taken so_far done failed = unfinished last fault may_fail (all_of_body last some has same came taken) failed
  finished_said last (Ok v) before middle after may_fail some has same came taken so_far done failed =
      let whole : so_far.0 ++ (last.text ++ done.0) ≡ told_so_far last ++ done.0 = sym (append_assoc so_far.0 last.text done.0) ∙ ap (λ (t : List ℕ). t ++ done.0) (sym so_far.2) in (
        told_so_far last ++ done.0,
        all_of_body last some has same came taken ∙ done.1,
        subst (Appends before after) whole (Appends-trans before middle after so_far.0 (last.text ++ done.0) so_far.1 done.2),
      )

  partly : (last : Replay) (fault : Fault) (before middle after : Option (List ℕ)) → HasBegun config (keeps_served told) taking.order began → last.wanted ≡ told → CameTo last → IsTaken config taking body all → ahead.HasTold last before middle → IsPartly last.text fault middle after → IsWritten config taking told body fault before after
  partly last fault before middle after has same came taken so_far (inl write) = inl write
  partly last fault before middle after has same came taken so_far (inr is) =
      over_short last fault before after (so_far.0 ++ is.0) is.1 has same came taken (so_far.2 ∙ ap (λ (t : List ℕ). so_far.0 ++ t) is.3 ∙ sym (append_assoc so_far.0 is.0 is.1)) (Appends-trans before middle after so_far.0 is.0 so_far.1 is.2)

  pub finished_begun : (last : Replay) (r : Result (Unit {0}) Fault) (before middle after : Option (List ℕ)) → HasBegun config (keeps_served told) taking.order began → last.wanted ≡ told → CameTo last → IsTaken config taking body all → ahead.HasTold last before middle
      → IfErr r (λ fault. IsPartly last.text fault middle after) → IfErr r (λ fault. IsWritten config taking told body fault before after)
  finished_begun last (Ok v) before middle after has same came taken so_far is = tt
  finished_begun last (Err fault) before middle after has same came taken so_far is = partly last fault before middle after has same came taken so_far is

-- a result that is a fault, for each body that may be known
pub each_fault_with : (P : List ℕ → Fault → Type 0) (Q : List ℕ → Type 0) (o : Option (List ℕ)) (r : Result (Unit {0}) Fault) → IfSome o Q → ((body : List ℕ) → Q body → IfErr r (P body)) → IfErr r (λ fault. IfSome o (λ body. P body fault))
each_fault_with P Q o (Ok v) known so = tt
each_fault_with P Q None (Err fault) known so = tt
each_fault_with P Q (Some body) (Err fault) known so = so body known

-- no fault at the end of a replay comes before its rounds, or is one of reading
pub end_comes_later : (r : Result (Unit {0}) Fault) (A : Type 0) → IfErr r IsEndFault → IfErr r (λ fault. is_before_rounds fault ≡ true → A)
end_comes_later (Ok v) A kind = tt
end_comes_later (Err faults.ClockSpent) A kind = λ early. absurd (let impossible = early in cc)
end_comes_later (Err faults.OutOfMemory) A kind = λ early. absurd (let impossible = early in cc)
end_comes_later (Err faults.Write) A kind = λ early. absurd (let impossible = early in cc)
end_comes_later (Err _) A kind = absurd kind

-- nothing is read in it
pub end_reads_nothing : (r : Result (Unit {0}) Fault) → IfErr r IsEndFault → r ≡ Err faults.Read → ⊥
end_reads_nothing r kind read = subst (λ (x : Result (Unit {0}) Fault). IfErr x IsEndFault) read kind

-- what is to be told at the end ends by a spent clock alone
abbrev IsSpentAlone : Result (List ℕ) Fault → Type 0
IsSpentAlone said = (fault : Fault) → said ≡ Err fault → faults.ClockSpent ≡ fault

abbrev failed : Fault → Result (List ℕ) Fault
failed fault = Err fault

spent_alone : (fault : Fault) → failed faults.ClockSpent ≡ failed fault → faults.ClockSpent ≡ fault
spent_alone fault is = cc

spent_or : (spent : Bool) (text : List ℕ) → IsSpentAlone (if spent then Err faults.ClockSpent else Ok text)
spent_or true text fault is = spent_alone fault is
spent_or false text fault is = absurd (let impossible = is in cc)

spent_then : (spent : Bool) (requests : List Timed) (text : List Timed → List ℕ) → IsSpentAlone ((if spent then Err faults.ClockSpent else Ok requests) >>> λ all. Ok (text all))
spent_then true requests text fault is = spent_alone fault is
spent_then false requests text fault is = absurd (let impossible = is in cc)

told_spent : (config : Config) (told : Wanted) (requests : List Requests) (run : Run) → IsSpentAlone (told_of config told requests run)
told_spent config wants.Statistics requests run = spent_or (is_any_spent run.state config.geometry.channels) (report_text config requests run)
told_spent config wants.Requests requests run = spent_or (is_any_spent run.state config.geometry.channels) (served_text run.ledger.served)
told_spent config (wants.Trace channel) requests run = spent_or false (channel_text run.state channel)
told_spent config (wants.Drampower channel) requests run = spent_or false (channel_commands run.state channel)
told_spent config (wants.Numbers skip clock) requests run =
    spent_then (is_any_spent run.state config.geometry.channels) (map timed_of (drop skip run.ledger.served)) (λ all. measured_text config.geometry.channels clock all)
told_spent config (wants.Intervals skip every) requests run =
    spent_then (is_any_spent run.state config.geometry.channels) (map timed_of (drop skip run.ledger.served)) (λ all. series_text (max every 1) all)

said_kind : {X : Type 0} (view : X → List ℕ) (said : Result (List ℕ) Fault) → IsSpentAlone said → (fault : Fault) → IsSaid view (Err fault) said → IsEndFault fault
said_kind view said spent faults.ClockSpent is = tt
said_kind view said spent faults.OutOfMemory is = tt
said_kind view said spent (faults.ReplayLine line cause) is = absurd (let impossible = spent (faults.ReplayLine line cause) is in cc)
said_kind view said spent (faults.ReplayRange line) is = absurd (let impossible = spent (faults.ReplayRange line) is in cc)
said_kind view said spent faults.InputTooLong is = absurd (let impossible = spent faults.InputTooLong is in cc)
said_kind view said spent faults.TraceNoSuch is = absurd (let impossible = spent faults.TraceNoSuch is in cc)
said_kind view said spent faults.ReplayLimit is = absurd (let impossible = spent faults.ReplayLimit is in cc)
said_kind view said spent _ is = absurd is

pub ending_kind : {X : Type 0} (view : X → List ℕ) (config : Config) (told : Wanted) (requests : List Requests) (run : Run) (fault : Fault) → IsSaid view (Err fault) (told_of config told requests run) → IsEndFault fault
ending_kind view config told requests run fault is = said_kind view (told_of config told requests run) (told_spent config told requests run) fault is

pub run_comes_later : (fault : Fault) (A : Type 0) → ahead.IsReplayFault fault → is_before_rounds fault ≡ true → A
run_comes_later (faults.ReplayLine line cause) A kind early = absurd (let impossible = early in cc)
run_comes_later (faults.ReplayRange line) A kind early = absurd (let impossible = early in cc)
run_comes_later faults.InputTooLong A kind early = absurd (let impossible = early in cc)
run_comes_later faults.Read A kind early = absurd (let impossible = early in cc)
run_comes_later faults.Write A kind early = absurd (let impossible = early in cc)
run_comes_later faults.OutOfMemory A kind early = absurd (let impossible = early in cc)
run_comes_later faults.ReplayLimit A kind early = absurd (let impossible = early in cc)
run_comes_later (faults.ReplayStuck cycle) A kind early = absurd (let impossible = early in cc)
run_comes_later faults.ClockSpent A kind early = absurd (let impossible = early in cc)
run_comes_later _ A kind early = absurd kind

-- nothing was written
pub nothing_begun : (config : Config) (taking : Taking) (told : Wanted) (body : List ℕ) → IsBeginning config taking told body []
nothing_begun config taking told body = by_taken (taken_of config taking body)
  where
    by_taken : (r : Result Queues Fault) → IfOk r (IsBeginningOf config taking.order told [])
    by_taken (Err fault) = tt
    by_taken (Ok queues) =
        let run = begun config (keeps_served told) taking.order queues in
        record { many = 0; run = run; turns = refl; rest = said told run.ledger.served (commands_of told run.state); said = refl }

pub nothing_written : (config : Config) (taking : Taking) (told : Wanted) (body : List ℕ) (fault : Fault) (contents : Option (List ℕ)) → IsWritten config taking told body fault contents contents
nothing_written config taking told body fault contents = inr ([], Appends-nil contents, nothing_begun config taking told body)

-- ---- an input

-- nothing of it was read yet
pub unread : (bytes : List ℕ) (more : Option (List ℕ)) → bytes ≡ [] → prepend_known bytes more ≡ more
unread bytes None none = refl
unread bytes (Some text) none = ap (λ (xs : List ℕ). Some (xs ++ text)) none

-- what comes behind its configuration

module _ (sample : Bool) (profile : List ℕ) (taking : Taking) (told : Wanted) where
  config_fault : (input : List ℕ) (fault : Fault) → IsConfigRefused sample profile input fault → HasReplayFault sample profile taking told input fault
  config_fault input (faults.ReplayLine line cause) refused = not_of_parts (parts_of sample profile input) (faults.ReplayLine line cause) refused refl
  config_fault input (faults.ReplayRange line) refused = not_of_parts (parts_of sample profile input) (faults.ReplayRange line) refused refl
  config_fault input faults.TraceNoSuch refused = not_of_parts (parts_of sample profile input) faults.TraceNoSuch refused refl
  config_fault input faults.ReplayLimit refused = not_of_parts (parts_of sample profile input) faults.ReplayLimit refused refl
  config_fault input (faults.ReplayStuck cycle) refused = not_of_parts (parts_of sample profile input) (faults.ReplayStuck cycle) refused refl
  config_fault input faults.ClockSpent refused = not_of_parts (parts_of sample profile input) faults.ClockSpent refused refl
  config_fault input faults.Write refused = not_of_parts (parts_of sample profile input) faults.Write refused refl
  config_fault input faults.Read refused = tt
  config_fault input faults.OutOfMemory refused = tt
  config_fault input faults.InputTooLong refused = inl refused
  config_fault input _ refused = refused

  -- the configuration is at fault
  pub front_said : (a : Option (List ℕ)) (fault : Fault) → IfSome a (λ input. IsConfigRefused sample profile input fault) → IfSome a (λ input. HasReplayFault sample profile taking told input fault)
  front_said None fault refused = tt
  front_said (Some input) fault refused = config_fault input fault refused

  body_fault : (config : Config) (input body : List ℕ) (fault : Fault) → IsOpened sample profile config input body → IsFaultOf config taking told body fault → HasReplayFault sample profile taking told input fault
  body_fault config input body (faults.ReplayLine line cause) opened said = record { config = config; body = body; opened = opened; report = said }
  body_fault config input body (faults.ReplayRange line) opened said = record { config = config; body = body; opened = opened; report = said }
  body_fault config input body faults.TraceNoSuch opened said = record { config = config; body = body; opened = opened; report = said }
  body_fault config input body faults.ReplayLimit opened said = record { config = config; body = body; opened = opened; report = said }
  body_fault config input body (faults.ReplayStuck cycle) opened said = record { config = config; body = body; opened = opened; stuck = said }
  body_fault config input body faults.ClockSpent opened said = record { config = config; body = body; opened = opened; report = said }
  body_fault config input body faults.InputTooLong opened said = inr (record { config = config; body = body; opened = opened; report = said })
  body_fault config input body faults.Write opened said = λ at_end. let s = said at_end in (s.0, record { config = config; body = body; opened = opened; report = s.1 })
  body_fault config input body faults.Read opened said = tt
  body_fault config input body faults.OutOfMemory opened said = tt
  body_fault config input body _ opened said = absurd said

module _ (sample : Bool) (profile : List ℕ) (taking : Taking) (told : Wanted) (before after : Option (List ℕ)) where
  -- by what a body's report is

  told_of_input : (a b : Option (List ℕ)) (config : Config) → Along (IsOpened sample profile config) a b → IfSome b (λ body. (text : List ℕ) × (report_of config taking told body ≡ Ok text) × Appends before after text) → IfSome a (λ input. IsReplayed sample profile taking told input before after)
  told_of_input None b config opened said = tt
  told_of_input (Some input) None config opened said = absurd opened
  told_of_input (Some input) (Some body) config opened said = record { text = said.0; says = record { config = config; body = body; opened = opened; report = said.1 }; written = said.2 }

  fault_of_input : (a b : Option (List ℕ)) (config : Config) (fault : Fault) → Along (IsOpened sample profile config) a b → IfSome b (λ body. IsFaultOf config taking told body fault) → IfSome a (λ input. HasReplayFault sample profile taking told input fault)
  fault_of_input None b config fault opened said = tt
  fault_of_input (Some input) None config fault opened said = absurd opened
  fault_of_input (Some input) (Some body) config fault opened said = body_fault sample profile taking told config input body fault opened said

  pub told_by : (a b : Option (List ℕ)) (config : Config) (r : Result (Unit {0}) Fault) → Along (IsOpened sample profile config) a b → IfSome b (λ body. IsReported config taking told body before after r) → OnOk r (IfSome a (λ input. IsReplayed sample profile taking told input before after))
  told_by a b config (Ok v) opened said = told_of_input a b config opened said
  told_by a b config (Err fault) opened said = tt

  pub said_by : (a b : Option (List ℕ)) (config : Config) (r : Result (Unit {0}) Fault) → Along (IsOpened sample profile config) a b → IfSome b (λ body. IsReported config taking told body before after r) → IfErr r (λ fault. IfSome a (λ input. HasReplayFault sample profile taking told input fault))
  said_by a b config (Ok v) opened said = tt
  said_by a b config (Err fault) opened said = fault_of_input a b config fault opened said

  pub first_by : (a b : Option (List ℕ)) (config : Config) (r : Result (Unit {0}) Fault) → Along (IsOpened sample profile config) a b → IfErr r (λ fault. IfSome a (λ input. ComesFirst sample input fault))
  first_by a b config (Ok v) opened = tt
  first_by a b config (Err fault) opened = opened_first sample profile a b config fault opened

  written_of_input : (config : Config) (input body : List ℕ) (fault : Fault) → IsOpened sample profile config input body → IsWritten config taking told body fault before after → HasWritten sample profile taking told input fault before after
  written_of_input config input body fault opened (inl write) = inl write
  written_of_input config input body fault opened (inr is) = inr (is.0, is.1, inr (record { config = config; body = body; opened = opened; begun = is.2 }))

  pub written_by : (a b : Option (List ℕ)) (config : Config) (r : Result (Unit {0}) Fault) → Along (IsOpened sample profile config) a b → IfErr r (λ fault. IfSome b (λ body. IsWritten config taking told body fault before after)) → IfErr r (λ fault. IfSome a (λ input. HasWritten sample profile taking told input fault before after))
  written_by a b config (Ok v) opened is = tt
  written_by None b config (Err fault) opened is = tt
  written_by (Some input) None config (Err fault) opened is = absurd opened
  written_by (Some input) (Some body) config (Err fault) opened is = written_of_input config input body fault opened is

-- nothing was written where the configuration is at fault
unwritten : (sample : Bool) (profile : List ℕ) (taking : Taking) (told : Wanted) (input : List ℕ) (fault : Fault) (contents : Option (List ℕ)) → HasWritten sample profile taking told input fault contents contents
unwritten sample profile taking told input fault contents = inr ([], Appends-nil contents, inl refl)
