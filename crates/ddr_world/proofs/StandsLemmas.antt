-- A core that stands for a record stands, after one more event, for that record and the event.
use Rattle.std.proofs.Common.{◌≡◌, ℕ, ◌+◌, ◌<◌, length, take, get_or, Bool, cond, List, [], ◌∷◌, ◌++◌, map, count_by, Result, Ok, Err, is_ok, is_err, refl, sym, ap, subst, ◌∙◌, arith, false, Option, Some, None, IfSome, IsTrue}
use Rattle.std.specs.List.{fold, slice_get}
use Rattle.std.specs.Option.{option_map, option_map_or}
use Rattle.std.proofs.lemmas.Bool.{false≢true}
use Rattle.std.proofs.lemmas.Option.{slice_get-map}
use Rattle.ddr_arbiter.specs.declared.choice.Choice.{Choice}
use Rattle.ddr_arbiter.specs.Laws.{command_of}
use Rattle.ddr_channel.specs.Room.{needs_memory, wants_memory}
use Rattle.std.proofs.lemmas.List.{append_assoc, append-nil, map-append, map_more}
use Rattle.std.proofs.lemmas.List.Sums.{sum_by-append, fold-append}
use Rattle.ddr_world.specs.declared.event.Outcome.{Outcome}
use Rattle.ddr_world.specs.declared.event.Refusal.{Refusal}
use Rattle.ddr_world.specs.Answer.{IsAnswered, Issues, MayWantMemory, WantsMemory}
use Rattle.ddr_world.specs.declared.event.Event as given
use Rattle.ddr_world.specs.Events.{Event, Submit, Take, Cycle, Deliver, Collect, Release, End, event_of}
use Rattle.ddr_world.specs.History.{Opening, Answered, History, begun, after, after_answer, after_step, run}
use Rattle.ddr_world.specs.Kept.{KeptSide, Kept, side_of, state_of}
use Rattle.ddr_world.specs.Record.{MayAnswer, IsRecord, StandsFor, RunsTo}
use Rattle.ddr_world.specs.State.{ChannelSide, State}
use Rattle.ddr_world.specs.Step.{Step, step}

record_more : (h : History) (events : List Answered) (a : Answered) → IsRecord h events → MayAnswer (fold after h events).state a.event a.answer → IsRecord h (events ++ a ∷ [])
record_more h [] a is may = (may, tt)
record_more h (first ∷ later) a is may = (is.0, record_more (after h first) later a is.1 may)

-- what finds no room is a command
issued : (x : Option KeptSide) → IfSome x (λ side. IsTrue (wants_memory side.channel)) → IfSome (option_map side_of x) (λ side. Issues side.channel)
issued None wants = tt
issued (Some side) wants = λ nothing.
    false≢true (subst (λ (c : Choice). IsTrue (option_map_or (needs_memory side.channel.config.geometry side.channel.spare side.channel.rows) (command_of side.channel.pending c) false)) nothing wants)

may_want : (k : Kept) (event : Event) → WantsMemory k event → MayWantMemory (state_of k) event
may_want k (Submit p asked) wants = tt
may_want k (Take c) wants = tt
may_want k (Cycle c) wants = subst (λ (x : Option ChannelSide). IfSome x (λ side. Issues side.channel)) (sym (slice_get-map side_of k.channels c)) (issued (slice_get k.channels c) wants)
may_want k (Deliver c) wants = tt
may_want k (Collect p) wants = tt
may_want k (Release p) wants = tt
may_want k (End p c) wants = tt

may_answer : (s : State) (k k' : Kept) (event : Event) (answer : Result Outcome Refusal) → state_of k ≡ s → IsAnswered k k' event answer → MayAnswer s event answer
may_answer s k k' event (Ok o) is answered = (state_of k', ap (λ (t : State). step t event) (sym is) ∙ answered.ok)
may_answer s k k' event (Err cause) is answered = subst (λ (t : State). MayAnswer t event (Err cause)) is (answered.refused, λ memory. may_want k event (answered.memory memory))

state_after : (h : History) (k k' : Kept) (event : Event) (answer : Result Outcome Refusal) → state_of k ≡ h.state → IsAnswered k k' event answer → state_of k' ≡ (after_answer h event answer).state
state_after h k k' event (Ok o) is answered =
    sym (ap (λ (s : Step). (after_step event h s).state) (ap (λ (t : State). step t event) (sym is) ∙ answered.ok))
state_after h k k' event (Err cause) is answered = answered.err ∙ is

pub stands_more : (k k' : Kept) (opening : Opening) (events : List Answered) (event : Event) (answer : Result Outcome Refusal)
    → StandsFor k opening events → IsAnswered k k' event answer → StandsFor k' opening (events ++ record { event = event; answer = answer } ∷ [])
stands_more k k' opening events event answer stands answered =
    let h = run opening events in
    let a : Answered = record { event = event; answer = answer } in
    record {
      config = answered.config ∙ stands.config;
      keeps = answered.keeps ∙ stands.keeps;
      is_record = record_more (begun opening) events a stands.is_record (may_answer h.state k k' event answer stands.state answered);
      state = state_after h k k' event answer stands.state answered ∙ ap (λ (t : History). t.state) (sym (fold-append after (begun opening) events (a ∷ [])));
    }

-- a run that is one event longer

counted : (answered : List Answered) (a : Answered) (test : Result Outcome Refusal → Bool) (n n' : ℕ) → n ≡ count_by (λ (x : Answered). test x.answer) answered → n' ≡ n + cond (test a.answer) 1 0
    → n' ≡ count_by (λ (x : Answered). test x.answer) (answered ++ a ∷ [])
counted answered a test n n' is more = omega (arith, is, more, sum_by-append (λ (x : Answered). cond (test x.answer) 1 0) answered (a ∷ []))

pub runs_more : (k k' k'' : Kept) (events : List Event) (made refused made' refused' : ℕ) (event : Event) (answer : Result Outcome Refusal) → RunsTo k k' events made refused
    → made' ≡ made + cond (is_ok answer) 1 0 → refused' ≡ refused + cond (is_err answer) 1 0
    → ((opening : Opening) (earlier : List Answered) → StandsFor k' opening earlier → StandsFor k'' opening (earlier ++ record { event = event; answer = answer } ∷ []))
    → RunsTo k k'' (events ++ event ∷ []) made' refused'
runs_more k k' k'' events made refused made' refused' event answer runs more_made more_refused next =
    let a : Answered = record { event = event; answer = answer } in
    record {
      answered = runs.answered ++ a ∷ [];
      events_are = map-append (λ (x : Answered). x.event) runs.answered (a ∷ []) ∙ ap (λ es. es ++ event ∷ []) runs.events_are;
      made_are = counted runs.answered a is_ok made made' runs.made_are more_made;
      refused_are = counted runs.answered a is_err refused refused' runs.refused_are more_refused;
      stands = λ opening earlier stands. subst (λ record_now. StandsFor k'' opening record_now) (append_assoc earlier runs.answered (a ∷ [])) (next opening (earlier ++ runs.answered) (runs.stands opening earlier stands));
    }

-- no event leads on from every record to that record
pub runs_none : (k : Kept) → RunsTo k k [] 0 0
runs_none k = record { answered = []; events_are = refl; made_are = refl; refused_are = refl; stands = λ opening earlier stands. subst (λ record_now. StandsFor k opening record_now) (sym (append-nil earlier)) stands }

-- a run over a list of events goes on to the next one
pub run_on : (k k' k'' : Kept) (xs : List given.Event) (i : ℕ) (d : given.Event) (made refused made' refused' : ℕ) (answer : Result Outcome Refusal) → i < length xs
    → RunsTo k k' (map event_of (take i xs)) made refused → made' ≡ made + cond (is_ok answer) 1 0 → refused' ≡ refused + cond (is_err answer) 1 0
    → ((opening : Opening) (earlier : List Answered) → StandsFor k' opening earlier → StandsFor k'' opening (earlier ++ record { event = event_of (get_or xs i d); answer = answer } ∷ []))
    → RunsTo k k'' (map event_of (take (i + 1) xs)) made' refused'
run_on k k' k'' xs i d made refused made' refused' answer within runs more_made more_refused next =
    subst (λ events. RunsTo k k'' events made' refused') (sym (map_more event_of xs i d within))
    (runs_more k k' k'' (map event_of (take i xs)) made refused made' refused' (event_of (get_or xs i d)) answer runs more_made more_refused next)
