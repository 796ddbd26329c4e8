-- A run as a whole.
use Rattle.std.proofs.Common.{◌≡◌, ℕ, List, [], Bool, true, false, Option, None, Some, is_some, Result, Ok, Err, IsTrue, IfSome, ◌⊎◌, inl, inr, refl, sym, ap, subst, ◌∙◌, append-nil}
use Rattle.std.proofs.KnownBytes.{Appends-nil, Appends-trans}
use Rattle.std.proofs.lemmas.Bool.{both_ways}
use Rattle.std.specs.Io.KnownBytes.{Appends, Keeps}
use Rattle.ddr_timing.specs.declared.config.Config.{Config}
use Rattle.ddr_world.specs.Kept.{state_of}
use Rattle.ddr_text.specs.declared.fault.Fault.{Fault}
use Rattle.ddr_text.specs.declared.fault.Fault.TheVariants as faults
use Rattle.ddr_text.specs.Body.{HasParts, IsRefused, parts_of}
use Rattle.ddr_text.specs.Fault.{is_before_output}
use Rattle.ddr_text.specs.Input.{IsText}
use Rattle.ddr_text.specs.Instructions.{AreRead, form_of, instructions_of}
use Rattle.ddr_text.proofs.BodyLemmas.{not_of_parts}
use Rattle.ddr_sim.specs.Rounds.{Course, Run}
use Rattle.ddr_sim.specs.Runs.{begun, channel_text, run_of, whole, written_by}
use Rattle.ddr_text.specs.Script.{Instruction}
use Rattle.ddr_sim.specs.Simulated.{BeginsWith, printed_in, ComesTo, Leads, Prints, Simulated, run_at}
use Rattle.ddr_sim.specs.Sims.{AsksFor, HasSimFault, IsBeginning, IsRun, NamesNoChannel, Says, has_channel}
use Rattle.ddr_sim.proofs.Drained.{run_drained}

-- the bytes that were there to be read were read whole, and are a text
pub record IsInput (remaining : Option (List ℕ)) (items text : List ℕ) : Type 0 where
  pub known : IfSome remaining (λ input. items ≡ input)
  pub same : text ≡ items
  pub is_text : IsText items

pub input_of : (remaining : Option (List ℕ)) {items bytes text : List ℕ} → bytes ≡ items → (text ≡ bytes) × IsText bytes → IfSome remaining (λ input. items ≡ input) → IsInput remaining items text
input_of remaining is told known = record { known = known; same = told.0 ∙ is; is_text = subst IsText is told.1 }

-- what was read and opened says what the body says
pub said_by : {remaining : Option (List ℕ)} {items text : List ℕ} (profile : List ℕ) (sample : Bool) (trace : Option ℕ) (config : Config) (body : List ℕ) (said : Result (List Instruction) Fault) → IsInput remaining items text
    → HasParts (parts_of sample profile text) config body → has_channel config trace ≡ true → instructions_of (form_of config true) body ≡ said → IfSome remaining (λ input. Says sample profile trace input config said)
said_by {remaining = None} profile sample trace config body said read opened there e = tt
said_by {remaining = Some input} profile sample trace config body said read opened there e =
    subst (λ i. Says sample profile trace i config said) read.known (record {
      text = read.is_text;
      body = body;
      opened = subst (λ t. HasParts (parts_of sample profile t) config body) read.same opened;
      there = there;
      script = e;
    })

-- a channel that is not there
pub names_no_channel : {remaining : Option (List ℕ)} {items text : List ℕ} (profile : List ℕ) (sample : Bool) (trace : Option ℕ) (config : Config) (body : List ℕ) → IsInput remaining items text → HasParts (parts_of sample profile text) config body → has_channel config trace ≡ false
    → IfSome remaining (λ input. NamesNoChannel sample profile trace input)
names_no_channel {remaining = None} profile sample trace config body read opened absent = tt
names_no_channel {remaining = Some input} profile sample trace config body read opened absent =
    subst (λ i. NamesNoChannel sample profile trace i) read.known (record {
      text = read.is_text;
      config = config;
      body = body;
      opened = subst (λ t. HasParts (parts_of sample profile t) config body) read.same opened;
      absent = absent;
    })

-- the fault of a text whose parts are refused
text_fault : (profile text : List ℕ) (sample : Bool) (trace : Option ℕ) (old : Option (List ℕ)) (fault : Fault) → IsText text → IsRefused (parts_of sample profile text) fault → HasSimFault sample profile trace text old old fault
text_fault profile text sample trace old faults.ConfigSyntax is_text refused = (is_text, refused)
text_fault profile text sample trace old (faults.ConfigMissing key) is_text refused = (is_text, refused)
text_fault profile text sample trace old faults.ConfigUnknownKey is_text refused = (is_text, refused)
text_fault profile text sample trace old (faults.ConfigRange key) is_text refused = (is_text, refused)
text_fault profile text sample trace old (faults.ConfigNotPowerOfTwo key) is_text refused = (is_text, refused)
text_fault profile text sample trace old (faults.ConfigRelation n) is_text refused = (is_text, refused)
text_fault profile text sample trace old faults.InputHasNoMark is_text refused = (is_text, refused)
text_fault profile text sample trace old faults.InputTooLong is_text refused = not_of_parts (parts_of sample profile text) faults.InputTooLong refused refl
text_fault profile text sample trace old faults.InputNotUtf8 is_text refused = not_of_parts (parts_of sample profile text) faults.InputNotUtf8 refused refl
text_fault profile text sample trace old (faults.ScriptLine line) is_text refused = not_of_parts (parts_of sample profile text) (faults.ScriptLine line) refused refl
text_fault profile text sample trace old (faults.RequestLine line cause) is_text refused = not_of_parts (parts_of sample profile text) (faults.RequestLine line cause) refused refl
text_fault profile text sample trace old (faults.MapLine line) is_text refused = not_of_parts (parts_of sample profile text) (faults.MapLine line) refused refl
text_fault profile text sample trace old (faults.ReplayLine line cause) is_text refused = not_of_parts (parts_of sample profile text) (faults.ReplayLine line cause) refused refl
text_fault profile text sample trace old (faults.ReplayRange line) is_text refused = not_of_parts (parts_of sample profile text) (faults.ReplayRange line) refused refl
text_fault profile text sample trace old faults.ReplayLimit is_text refused = not_of_parts (parts_of sample profile text) faults.ReplayLimit refused refl
text_fault profile text sample trace old (faults.ReplayStuck cycle) is_text refused = not_of_parts (parts_of sample profile text) (faults.ReplayStuck cycle) refused refl
text_fault profile text sample trace old (faults.RunStuck cycle) is_text refused = not_of_parts (parts_of sample profile text) (faults.RunStuck cycle) refused refl
text_fault profile text sample trace old (faults.CaptureLine line cause) is_text refused = not_of_parts (parts_of sample profile text) (faults.CaptureLine line cause) refused refl
text_fault profile text sample trace old (faults.CaptureOrder line) is_text refused = not_of_parts (parts_of sample profile text) (faults.CaptureOrder line) refused refl
text_fault profile text sample trace old faults.TraceHeader is_text refused = not_of_parts (parts_of sample profile text) faults.TraceHeader refused refl
text_fault profile text sample trace old (faults.TraceRow line) is_text refused = not_of_parts (parts_of sample profile text) (faults.TraceRow line) refused refl
text_fault profile text sample trace old (faults.TraceOrder line) is_text refused = not_of_parts (parts_of sample profile text) (faults.TraceOrder line) refused refl
text_fault profile text sample trace old faults.TraceTruncated is_text refused = not_of_parts (parts_of sample profile text) faults.TraceTruncated refused refl
text_fault profile text sample trace old faults.TraceTooLong is_text refused = not_of_parts (parts_of sample profile text) faults.TraceTooLong refused refl
text_fault profile text sample trace old faults.TraceNoSuch is_text refused = not_of_parts (parts_of sample profile text) faults.TraceNoSuch refused refl
text_fault profile text sample trace old faults.DrawTooLong is_text refused = not_of_parts (parts_of sample profile text) faults.DrawTooLong refused refl
text_fault profile text sample trace old faults.ScriptLimit is_text refused = not_of_parts (parts_of sample profile text) faults.ScriptLimit refused refl
text_fault profile text sample trace old faults.Read is_text refused = tt
text_fault profile text sample trace old faults.Write is_text refused = not_of_parts (parts_of sample profile text) faults.Write refused refl
text_fault profile text sample trace old faults.OutOfMemory is_text refused = inl refl
text_fault profile text sample trace old faults.ClockSpent is_text refused = not_of_parts (parts_of sample profile text) faults.ClockSpent refused refl
text_fault profile text sample trace old faults.PortBroken is_text refused = not_of_parts (parts_of sample profile text) faults.PortBroken refused refl
text_fault profile text sample trace old faults.ThreadsRefused is_text refused = not_of_parts (parts_of sample profile text) faults.ThreadsRefused refused refl

pub parts_fault : {remaining : Option (List ℕ)} {items text : List ℕ} (profile : List ℕ) (sample : Bool) (trace : Option ℕ) (old : Option (List ℕ)) (fault : Fault) → IsInput remaining items text → IsRefused (parts_of sample profile text) fault
    → IfSome remaining (λ input. HasSimFault sample profile trace input old old fault)
parts_fault {remaining = None} profile sample trace old fault read refused = tt
parts_fault {remaining = Some input} {items} profile sample trace old fault read refused =
    subst (λ i. HasSimFault sample profile trace i old old fault) read.known
    (text_fault profile items sample trace old fault read.is_text (subst (λ t. IsRefused (parts_of sample profile t) fault) read.same refused))

-- a script that is at fault
pub no_script : {X : Type 0} (view : X → List Instruction) (remaining : Option (List ℕ)) (profile : List ℕ) (sample : Bool) (trace : Option ℕ) (config : Config) (fault : Fault) (said : Result (List Instruction) Fault) (old : Option (List ℕ)) → AreRead view (Err fault) said
    → ((other : Result (List Instruction) Fault) → said ≡ other → IfSome remaining (λ input. Says sample profile trace input config other)) → IfSome remaining (λ input. HasSimFault sample profile trace input old old fault)
no_script view None profile sample trace config fault said old is says = tt
no_script view (Some input) profile sample trace config faults.OutOfMemory said old is says = inl refl
no_script view (Some input) profile sample trace config faults.ScriptLimit said old is says = inl ((config, says (Err faults.ScriptLimit) is), refl)
no_script view (Some input) profile sample trace config (faults.ScriptLine line) said old is says = (config, says (Err (faults.ScriptLine line)) is)
no_script view (Some input) profile sample trace config _ said old is says = absurd is

-- nothing was printed before the first instruction
nothing_printed : (silent : Bool) (old : Option (List ℕ)) → Prints silent old old []
nothing_printed true old = refl
nothing_printed false old = Appends-nil old

-- the simulation began where the run of these instructions begins
course_of : (config same : Config) (xs instructions : List Instruction) (sim : Simulated) → same ≡ config → xs ≡ instructions → run_at sim [] ≡ begun config → whole same xs (run_at sim []) ≡ run_of config instructions
unfolding run_of
course_of config same xs instructions sim e f is =
    ap (λ (k : Config). whole k xs (run_at sim [])) e ∙ ap (λ (ys : List Instruction). whole config ys (run_at sim [])) f ∙ ap (whole config instructions) is

came_to : (config same : Config) (xs instructions : List Instruction) (sim after : Simulated) (old new : Option (List ℕ)) (r : Result (Unit {0}) Fault) → same ≡ config → xs ≡ instructions → run_at sim [] ≡ begun config → Leads (whole same xs) sim old after new r → ComesTo old after new r (run_of config instructions)
came_to config same xs instructions sim after old new r e f is leads =
    subst (ComesTo old after new r) (course_of config same xs instructions sim e f is) (leads old [] (nothing_printed sim.silent old))

-- the input asks for a run, and it came to this
pub record HasRun (remaining : Option (List ℕ)) (profile : List ℕ) (sample : Bool) (trace : Option ℕ) (sim : Simulated) (old new : Option (List ℕ)) (r : Result (Unit {0}) Fault) : Type 0 where
  pub config : Config
  pub instructions : List Instruction
  pub says : IfSome remaining (λ input. Says sample profile trace input config (Ok instructions))
  pub silent : sim.silent ≡ is_some trace
  pub came : ComesTo old sim new r (run_of config instructions)

-- a simulation that began with the configuration that was read, and ran the instructions that were
pub has_run : {remaining : Option (List ℕ)} {items text : List ℕ} (profile : List ℕ) (sample : Bool) (trace : Option ℕ) {config : Config} (body : List ℕ) {xs instructions : List Instruction} (began sim : Simulated) (old new : Option (List ℕ)) (r : Result (Unit {0}) Fault)
    → began.config ≡ config → run_at began [] ≡ begun config → began.silent ≡ is_some trace → xs ≡ instructions → IsInput remaining items text → HasParts (parts_of sample profile text) config body → has_channel config trace ≡ true
    → instructions_of (form_of config true) body ≡ Ok instructions → sim.silent ≡ began.silent → Leads (whole began.config xs) began old sim new r → HasRun remaining profile sample trace sim old new r
has_run profile sample trace {config} body {xs} {instructions} began sim old new r same begins silent read_are read opened there script still leads = record {
  config = config;
  instructions = instructions;
  says = said_by profile sample trace config body (Ok instructions) read opened there script;
  silent = still ∙ silent;
  came = came_to config began.config xs instructions began sim old new r same read_are begins leads;
}

late : (old new : Option (List ℕ)) (sim : Simulated) (fault : Fault) (course : Course) → ComesTo old sim new (Err fault) course → is_before_output fault ≡ false
late old new sim faults.ScriptLimit course is = refl
late old new sim faults.ClockSpent course is = refl
late old new sim faults.OutOfMemory course is = refl
late old new sim faults.Write course is = refl
late old new sim _ course is = absurd is

-- a fault of a run isn't one before any output
pub late_untouched : {remaining : Option (List ℕ)} {profile : List ℕ} {sample : Bool} {trace : Option ℕ} {sim : Simulated} {old new : Option (List ℕ)} {fault : Fault} {A : Type 0} → HasRun remaining profile sample trace sim old new (Err fault) → IsTrue (is_before_output fault) → A
late_untouched {sim} {old} {new} {fault} ran before = absurd (both_ways (is_before_output fault) (late old new sim fault (run_of ran.config ran.instructions) ran.came) before)

-- nor a failed read
pub late_unread : {remaining : Option (List ℕ)} {profile : List ℕ} {sample : Bool} {trace : Option ℕ} {sim : Simulated} {old new : Option (List ℕ)} {fault : Fault} {A : Type 0} → HasRun remaining profile sample trace sim old new (Err fault)
    → ◌≡◌ {A = Result (Unit {0}) Fault} (Err fault) (Err faults.Read) → A
late_unread {fault = faults.ScriptLimit} ran read = absurd (let impossible = read in cc)
late_unread {fault = faults.ClockSpent} ran read = absurd (let impossible = read in cc)
late_unread {fault = faults.OutOfMemory} ran read = absurd (let impossible = read in cc)
late_unread {fault = faults.Write} ran read = absurd (let impossible = read in cc)
late_unread {fault = _} ran read = absurd ran.came

asked_so : (remaining : Option (List ℕ)) (profile : List ℕ) (sample : Bool) (trace : Option ℕ) (config : Config) (instructions : List Instruction) (course : Course) → IfSome remaining (λ input. Says sample profile trace input config (Ok instructions)) → run_of config instructions ≡ course
    → IfSome remaining (λ input. AsksFor sample profile trace input course)
asked_so None profile sample trace config instructions course says is = tt
asked_so (Some input) profile sample trace config instructions course says is = record { config = config; instructions = instructions; says = says; course_is = is }

stop_written : (trace : Option ℕ) (silent : Bool) (old new : Option (List ℕ)) (fault : Fault) (text : List ℕ) → silent ≡ is_some trace → Prints silent old new text → Appends old new (written_by trace (Err (record { fault = fault; text = text })))
stop_written None silent old new fault text e printed = subst (λ b. Prints b old new text) e printed
stop_written (Some c) silent old new fault text e printed =
    let same : new ≡ old = subst (λ b. Prints b old new text) e printed in
    subst (λ n. Appends old n []) (sym same) (Appends-nil old)

beginning : (trace : Option ℕ) (silent : Bool) (old new : Option (List ℕ)) (text : List ℕ) (course : Course) → silent ≡ is_some trace → BeginsWith (printed_in course) text → Prints silent old new text → IsBeginning trace course old new
beginning None silent old new text course e begins printed = (text, begins, subst (λ b. Prints b old new text) e printed)
beginning (Some c) silent old new text course e begins printed = subst (λ b. Prints b old new text) e printed

-- a run that a fault ended
pub run_fault : {remaining : Option (List ℕ)} {profile : List ℕ} {sample : Bool} {trace : Option ℕ} {sim : Simulated} {old new : Option (List ℕ)} {fault : Fault} → HasRun remaining profile sample trace sim old new (Err fault)
    → IfSome remaining (λ input. HasSimFault sample profile trace input old new fault)
run_fault {remaining = None} ran = tt
run_fault {remaining = Some input} {trace} {sim} {old} {new} {fault = faults.ScriptLimit} ran = inr (record {
  stop = record { fault = faults.ScriptLimit; text = ran.came.0 };
  asks = record { config = ran.config; instructions = ran.instructions; says = ran.says; course_is = ran.came.1 };
  fault_is = refl;
  written = stop_written trace sim.silent old new faults.ScriptLimit ran.came.0 ran.silent ran.came.2;
})
run_fault {remaining = Some input} {trace} {sim} {old} {new} {fault = faults.ClockSpent} ran = record {
  stop = record { fault = faults.ClockSpent; text = ran.came.0 };
  asks = record { config = ran.config; instructions = ran.instructions; says = ran.says; course_is = ran.came.1 };
  fault_is = refl;
  written = stop_written trace sim.silent old new faults.ClockSpent ran.came.0 ran.silent ran.came.2;
}
run_fault {remaining = Some input} {trace} {sim} {old} {new} {fault = faults.OutOfMemory} ran = inr (record {
  course = run_of ran.config ran.instructions;
  asks = record { config = ran.config; instructions = ran.instructions; says = ran.says; course_is = refl };
  written = beginning trace sim.silent old new ran.came.0 (run_of ran.config ran.instructions) ran.silent ran.came.1 ran.came.2;
})
run_fault {remaining = Some input} {fault = faults.Write} ran = (run_of ran.config ran.instructions, record { config = ran.config; instructions = ran.instructions; says = ran.says; course_is = refl })
run_fault {remaining = Some input} {fault = _} ran = absurd ran.came

-- a run whose end was not written: its replies, or its trace

pub flush_fault : {remaining : Option (List ℕ)} {profile : List ℕ} {sample : Bool} {trace : Option ℕ} {sim : Simulated} {old mid : Option (List ℕ)} {v : Unit {0}} {fault : Fault} (new : Option (List ℕ)) → HasRun remaining profile sample trace sim old mid (Ok v)
    → fault ≡ faults.Write → IfSome remaining (λ input. HasSimFault sample profile trace input old new fault)
flush_fault {remaining = None} new ran is = tt
flush_fault {remaining = Some input} {profile} {sample} {trace} {old} new ran is =
    subst (λ (f : Fault). HasSimFault sample profile trace input old new f) (sym is) (run_of ran.config ran.instructions, record { config = ran.config; instructions = ran.instructions; says = ran.says; course_is = refl })

-- a run whose trace is asked for printed nothing
none_printed : (trace : Option ℕ) (channel : ℕ) (sim : Simulated) (old mid : Option (List ℕ)) (v : Unit {0}) (course : Course) → trace ≡ Some channel → sim.silent ≡ is_some trace → ComesTo old sim mid (Ok v) course → mid ≡ old
none_printed trace channel sim old mid v course some silent is = subst (λ b. Prints b old mid is.0) (silent ∙ ap (λ (t : Option ℕ). is_some t) some) is.2

pub end_fault : {remaining : Option (List ℕ)} {profile : List ℕ} {sample : Bool} {trace : Option ℕ} {channel : ℕ} {sim : Simulated} {old mid : Option (List ℕ)} {v : Unit {0}} {fault : Fault} (new : Option (List ℕ)) → HasRun remaining profile sample trace sim old mid (Ok v) → trace ≡ Some channel
    → (fault ≡ faults.OutOfMemory → new ≡ mid) → (fault ≡ faults.Write) ⊎ (fault ≡ faults.OutOfMemory) → IfSome remaining (λ input. HasSimFault sample profile trace input old new fault)
end_fault {remaining = None} new ran some spared is = tt
end_fault {remaining = Some input} {fault = faults.Write} new ran some spared is = (run_of ran.config ran.instructions, record { config = ran.config; instructions = ran.instructions; says = ran.says; course_is = refl })
end_fault {remaining = Some input} {trace} {channel} {sim} {old} {mid} {v} {fault = faults.OutOfMemory} new ran some spared is =
    inl (spared refl ∙ none_printed trace channel sim old mid v (run_of ran.config ran.instructions) some ran.silent ran.came)
end_fault {remaining = Some input} {fault = _} new ran some spared is = absurd (elim is as (λ _. ⊥) [ inl e ↦ cc | inr e ↦ cc ])

kept_as_appended : (b c : Option (List ℕ)) → Keeps b c → Appends b c []
kept_as_appended None c q = tt
kept_as_appended (Some x) None q = absurd q
kept_as_appended (Some x) (Some y) q = q ∙ sym (append-nil x)

appends_kept : (a b c : Option (List ℕ)) (bs : List ℕ) → Appends a b bs → Keeps b c → Appends a c bs
appends_kept a b c bs p q = subst (Appends a c) (append-nil bs) (Appends-trans a b c bs [] p (kept_as_appended b c q))

-- what a run without a fault writes, with its last part
end_written : (trace : Option ℕ) (silent : Bool) (old mid new : Option (List ℕ)) (run : Run) → silent ≡ is_some trace → Prints silent old mid run.text → (elim trace as (λ _. Type 0) [ None ↦ Keeps mid new | Some c ↦ Appends mid new (channel_text run.state c) ]) → Appends old new (written_by trace (Ok run))
end_written None silent old mid new run e printed last = appends_kept old mid new run.text (subst (λ b. Prints b old mid run.text) e printed) last
end_written (Some c) silent old mid new run e printed last =
    let same : mid ≡ old = subst (λ b. Prints b old mid run.text) e printed in
    subst (λ m. Appends m new (channel_text run.state c)) same last

run_written : {remaining : Option (List ℕ)} {profile : List ℕ} {sample : Bool} {trace : Option ℕ} {sim : Simulated} {old mid : Option (List ℕ)} {v : Unit {0}} (new : Option (List ℕ)) → HasRun remaining profile sample trace sim old mid (Ok v)
    → (elim trace as (λ _. Type 0) [ None ↦ Keeps mid new | Some c ↦ Appends mid new (channel_text (state_of sim.world) c) ]) → IfSome remaining (λ input. IsRun sample profile trace input old new)
run_written {remaining = None} new ran last = tt
run_written {remaining = Some input} {trace} {sim} {old} {mid} new ran last = record {
  run = run_at sim ran.came.0;
  asks = record { config = ran.config; instructions = ran.instructions; says = ran.says; course_is = ran.came.1 };
  drained = run_drained ran.config ran.instructions (run_at sim ran.came.0) ran.came.1;
  written = end_written trace sim.silent old mid new (run_at sim ran.came.0) ran.silent ran.came.2 last;
}

pub replies_written : {remaining : Option (List ℕ)} {profile : List ℕ} {sample : Bool} {trace : Option ℕ} {sim : Simulated} {old mid : Option (List ℕ)} {v : Unit {0}} (new : Option (List ℕ)) → HasRun remaining profile sample trace sim old mid (Ok v) → trace ≡ None → Keeps mid new
    → IfSome remaining (λ input. IsRun sample profile trace input old new)
replies_written {sim} {mid} new ran none last =
    run_written new ran (subst (λ (t : Option ℕ). elim t as (λ _. Type 0) [ None ↦ Keeps mid new | Some c ↦ Appends mid new (channel_text (state_of sim.world) c) ]) (sym none) last)

pub trace_written : {remaining : Option (List ℕ)} {profile : List ℕ} {sample : Bool} {trace : Option ℕ} {channel : ℕ} {sim : Simulated} {old mid : Option (List ℕ)} {v : Unit {0}} (new : Option (List ℕ)) → HasRun remaining profile sample trace sim old mid (Ok v) → trace ≡ Some channel
    → Appends mid new (channel_text (state_of sim.world) channel) → IfSome remaining (λ input. IsRun sample profile trace input old new)
trace_written {sim} {mid} new ran some last =
    run_written new ran (subst (λ (t : Option ℕ). elim t as (λ _. Type 0) [ None ↦ Keeps mid new | Some c ↦ Appends mid new (channel_text (state_of sim.world) c) ]) (sym some) last)
