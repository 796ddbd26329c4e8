-- How the parts of a run follow one another.
use Rattle.std.proofs.Common.{◌≡◌, ◌<◌, ◌≤◌, ◌-◌, ◌+◌, ℕ, zero, suc, Bool, true, false, cond, List, [], ◌++◌, Option, Some, None, Result, Ok, Err, length, drop, map, get_or, IfErr, OnOk, ◌⊎◌, inl, inr, refl, sym, ap, ap₂, subst, ◌∙◌, arith}
use Rattle.std.specs.Io.KnownBytes.{Appends}
use Rattle.std.specs.List.{slice_get}
use Rattle.std.specs.Option.{option_map, option_map_or}
use Rattle.std.specs.Prelude.{◌==◌}
use Rattle.std.proofs.KnownBytes.{Appends-trans}
use Rattle.ddr_ports.specs.Asked.{Asked}
use Rattle.ddr_reorder.specs.Replies.{Answer}
use Rattle.ddr_timing.specs.declared.config.Config.{Config}
use Rattle.ddr_world.specs.declared.event.Outcome.{Outcome}
use Rattle.ddr_world.specs.declared.event.Refusal.{Refusal}
use Rattle.ddr_world.specs.Answer.{IsAnswered}
use Rattle.ddr_world.specs.Events.{Submit, Take, Collect, Release, End}
use Rattle.ddr_world.specs.History.{front_of}
use Rattle.ddr_world.specs.Kept.{Kept, KeptSide, side_of, state_of}
use Rattle.ddr_world.specs.State.{State, ChannelSide}
use Rattle.ddr_channel.specs.Kept as channel_kept
use Rattle.ddr_trace_text.specs.Text.{trace_text}
use Rattle.std.proofs.lemmas.Option.{slice_get-map}
use Rattle.ddr_world.specs.Step.{Step, made, step}
use Rattle.ddr_rounds.specs.Rounds.{after, channels_served, items_of, outstanding, until_refused}
use Rattle.ddr_rounds.proofs.EventLemmas.{after_end_answer, after_made, after_take_answer, front_fewer}
use Rattle.ddr_text.specs.declared.fault.Fault.{Fault}
use Rattle.ddr_text.specs.declared.fault.Fault.TheVariants as faults
use Rattle.ddr_text.specs.Replies.{reply_text}
use Rattle.ddr_sim.specs.Refusals.{refused_text}
use Rattle.ddr_sim.specs.Rounds.{Run, Course, ◌then◌, port_served, ports_served, replied, round, rounds, round_closed, stopped}
use Rattle.ddr_sim.specs.Runs.{after_submit, all_followed, channel_text, channels_ended, served_out, followed, ports_ended, submitted}
use Rattle.ddr_text.specs.Script.{view}
use Rattle.ddr_text.specs.Sink.{write_fault}
use Rattle.ddr_text.specs.declared.script.Instruction as kept
use Rattle.std.proofs.lemmas.List.{at_drop_more, at_drop_all}
use Rattle.ddr_sim.specs.Simulated.{BeginsWith, printed_in, ComesTo, IsCycleFault, IsFrontPrinted, IsSameRun, Leads, Prints, Simulated, run_at}
use Rattle.ddr_sim.proofs.Growth.{Grows, all_followed_grow, begins_on, begins_then, ports_more, round_grows, submitted_grows}

-- printing

pub printed_more : (silent : Bool) (a b c : Option (List ℕ)) (x y : List ℕ) → Prints silent a b x → Prints silent b c y → Prints silent a c (x ++ y)
printed_more true a b c x y p q = q ∙ p
printed_more false a b c x y p q = Appends-trans a b c x y p q

ok_is : (x y : Run) → ◌≡◌ {A = Course} (Ok x) (Ok y) → x ≡ y
ok_is x y is = ap (λ (c : Course). elim c as (λ _. Run) [ Ok r ↦ r | Err e ↦ x ]) is

-- one part behind another

pub leads_then : (f g : Run → Course) (a b d : Simulated) (ca cb cd : Option (List ℕ)) (v : Unit {0}) (r : Result (Unit {0}) Fault) → Leads f a ca b cb (Ok v) → Leads g b cb d cd r → Leads (λ run. f run then g) a ca d cd r
leads_then f g a b d ca cb cd v r p q = λ begin text printed.
    let first = p begin text printed in
    subst (λ (course : Course). ComesTo begin d cd r (course then g)) (sym first.1) (q begin first.0 first.2)

stop_then : (begin : Option (List ℕ)) (b : Simulated) (cb : Option (List ℕ)) (fault : Fault) (g : Run → Course) (course : Course) → Grows g → ComesTo begin b cb (Err fault) course → ComesTo begin b cb (Err fault) (course then g)
stop_then begin b cb faults.ScriptLimit g course grows p = (p.0, ap (λ (x : Course). x then g) p.1, p.2)
stop_then begin b cb faults.ClockSpent g course grows p = (p.0, ap (λ (x : Course). x then g) p.1, p.2)
stop_then begin b cb faults.OutOfMemory g course grows p = (p.0, begins_then course g p.0 grows p.1, p.2)
stop_then begin b cb faults.Write g course grows p = tt
stop_then begin b cb _ g course grows p = absurd p

pub leads_stop : (f g : Run → Course) (a b : Simulated) (ca cb : Option (List ℕ)) (fault : Fault) → Grows g → Leads f a ca b cb (Err fault) → Leads (λ run. f run then g) a ca b cb (Err fault)
leads_stop f g a b ca cb fault grows p = λ begin text printed. stop_then begin b cb fault g (f (run_at a text)) grows (p begin text printed)

-- whatever part g leads to from here, part f leads to from the start
abbrev pub Onward : (Run → Course) → Simulated → Option (List ℕ) → (Run → Course) → Simulated → Option (List ℕ) → Type 0
Onward f a ca g b cb = (d : Simulated) (cd : Option (List ℕ)) (r : Result (Unit {0}) Fault) → Leads g b cb d cd r → Leads f a ca d cd r

-- the same part
pub leads_same : (f g : Run → Course) (a d : Simulated) (ca cd : Option (List ℕ)) (r : Result (Unit {0}) Fault) → ((text : List ℕ) → f (run_at a text) ≡ g (run_at a text)) → Leads g a ca d cd r → Leads f a ca d cd r
leads_same f g a d ca cd r same p = λ begin text printed. subst (ComesTo begin d cd r) (sym (same text)) (p begin text printed)

-- nothing to be done
pub leads_nowhere : (f : Run → Course) (a : Simulated) (ca : Option (List ℕ)) (v : Unit {0}) → ((text : List ℕ) → f (run_at a text) ≡ Ok (run_at a text)) → Leads f a ca a ca (Ok v)
leads_nowhere f a ca v same = λ begin text printed. (text, same text, printed)

-- a part in which nothing goes wrong but memory or the writer, in one that prints on
only_those : (begin : Option (List ℕ)) (b : Simulated) (cb : Option (List ℕ)) (fault : Fault) (x : Run) (course : Course) → BeginsWith (printed_in course) x.text → ComesTo begin b cb (Err fault) (Ok x) → ComesTo begin b cb (Err fault) course
only_those begin b cb faults.ScriptLimit x course more p = absurd (let impossible = p.1 in cc)
only_those begin b cb faults.ClockSpent x course more p = absurd (let impossible = p.1 in cc)
only_those begin b cb faults.OutOfMemory x course more p = (p.0, begins_on p.0 x.text (printed_in course) p.1 more, p.2)
only_those begin b cb faults.Write x course more p = tt
only_those begin b cb _ x course more p = absurd p

-- a port of the first so many failed
pub ports_stop : (i k n : ℕ) (a b d : Simulated) (ca cb cd : Option (List ℕ)) (v : Unit {0}) (fault : Fault) → n ≡ k + suc i → Leads (λ run. Ok (ports_served i run)) a ca b cb (Ok v) → Leads (λ run. Ok (port_served i run)) b cb d cd (Err fault)
    → Leads (λ run. Ok (ports_served n run)) a ca d cd (Err fault)
ports_stop i k n a b d ca cb cd v fault e p q = λ begin text printed.
    let first = p begin text printed in
    let here : ports_served i (run_at a text) ≡ run_at b first.0 = ok_is (ports_served i (run_at a text)) (run_at b first.0) first.1 in
    only_those begin d cd fault (port_served i (run_at b first.0)) (Ok (ports_served n (run_at a text)))
    (subst (λ m. BeginsWith (ports_served m (run_at a text)).text (port_served i (run_at b first.0)).text) (sym e)
    (subst (λ (x : Run). BeginsWith (ports_served (k + suc i) (run_at a text)).text (port_served i x).text) here (ports_more (suc i) k (run_at a text))))
    (q begin first.0 first.2)

-- the replies in front of a port

abbrev pub replies_of : ℕ → Run → Course
replies_of p run = Ok (replied (items_of run.state (Release p)) p run)

pub none_replied : (n p : ℕ) (run : Run) → front_of run.state p ≡ None → replied n p run ≡ run
none_replied zero p run is = refl
none_replied (suc n) p run is = ap (λ o. option_map_or (λ a. replied n p (record run { state = after run.state (Release p); text = run.text ++ reply_text p a })) o run) is

pub no_replies : (p : ℕ) (a : Simulated) (ca : Option (List ℕ)) (v : Unit {0}) → front_of (state_of a.world) p ≡ None → Leads (replies_of p) a ca a ca (Ok v)
no_replies p a ca v is = leads_nowhere (replies_of p) a ca v (λ text. ap (λ (run : Run). Ok run) (none_replied (items_of (state_of a.world) (Release p)) p (run_at a text) is))

one_replied : (p : ℕ) (a b : Simulated) (x : Answer) (o : Outcome) (text : List ℕ) → front_of (state_of a.world) p ≡ Some x → step (state_of a.world) (Release p) ≡ made (state_of b.world) o → b.left ≡ a.left
    → replies_of p (run_at b (text ++ reply_text p x)) ≡ replies_of p (run_at a text)
one_replied p a b x o text front is left =
    let s = state_of a.world in
    let n = items_of (state_of b.world) (Release p) in
    let more : items_of s (Release p) ≡ suc n = omega (arith, front_fewer s (state_of b.world) p o is) in
    let said = text ++ reply_text p x in
    let here : run_at b said ≡ record { state = after s (Release p); text = said; left = a.left } =
    ap₂ (λ (t : State) (l : ℕ). record { state = t; text = said; left = l }) (sym (after_made s (state_of b.world) (Release p) o is)) left in
    ap (λ (run : Run). Ok (replied n p run)) here
    ∙ sym (ap (λ k. Ok (replied k p (run_at a text))) more
    ∙ ap (λ o. Ok (option_map_or (λ y. replied n p (record { state = after s (Release p); text = text ++ reply_text p y; left = a.left })) o (run_at a text))) front)

-- one reply was printed and released
pub reply_more : (p : ℕ) (f : Run → Course) (start a b : Simulated) (cs ca cb : Option (List ℕ)) (x : Answer) (o : Outcome) → front_of (state_of a.world) p ≡ Some x → step (state_of a.world) (Release p) ≡ made (state_of b.world) o → b.left ≡ a.left → b.silent ≡ a.silent
    → Prints a.silent ca cb (reply_text p x) → Onward f start cs (replies_of p) a ca → Onward f start cs (replies_of p) b cb
reply_more p f start a b cs ca cb x o front is left silent printed onward = λ d cd r q. onward d cd r (λ begin text before.
    subst (ComesTo begin d cd r) (one_replied p a b x o text front is left)
    (q begin (text ++ reply_text p x) (subst (λ k. Prints k begin cb (text ++ reply_text p x)) (sym silent) (printed_more a.silent begin ca cb text (reply_text p x) before printed))))

front_printed : (p : ℕ) (o : Option Answer) (silent : Bool) (before now : Option (List ℕ)) → IsFrontPrinted p o silent before now true → (a : Answer) × (o ≡ Some a) × Prints silent before now (reply_text p a)
front_printed p None silent before now is = absurd (let impossible = is.0 in cc)
front_printed p (Some a) silent before now is = (a, refl, is.1)

pub printed_there : (p : ℕ) (o : Option Answer) (silent there : Bool) (before now : Option (List ℕ)) → there ≡ true → IsFrontPrinted p o silent before now there → (a : Answer) × (o ≡ Some a) × Prints silent before now (reply_text p a)
printed_there p o silent there before now e is = front_printed p o silent before now (subst (λ b. IsFrontPrinted p o silent before now b) e is)

no_front : (p : ℕ) (o : Option Answer) (silent : Bool) (before now : Option (List ℕ)) → IsFrontPrinted p o silent before now false → (o ≡ None) × (now ≡ before)
no_front p None silent before now is = (refl, is.1)
no_front p (Some a) silent before now is = absurd (let impossible = is.0 in cc)

pub printed_none : (p : ℕ) (o : Option Answer) (silent there : Bool) (before now : Option (List ℕ)) → there ≡ false → IsFrontPrinted p o silent before now there → (o ≡ None) × (now ≡ before)
printed_none p o silent there before now e is = no_front p o silent before now (subst (λ b. IsFrontPrinted p o silent before now b) e is)

-- a port's part of a round
pub port_led : (p : ℕ) (a b d : Simulated) (ca cd : Option (List ℕ)) (r : Result (Unit {0}) Fault) → state_of b.world ≡ until_refused (Collect p) (state_of a.world) → b.left ≡ a.left → b.silent ≡ a.silent
    → Leads (replies_of p) b ca d cd r → Leads (λ run. Ok (port_served p run)) a ca d cd r
port_led p a b d ca cd r state left silent q = λ begin text printed.
    subst (ComesTo begin d cd r) (ap₂ (λ (s : State) (l : ℕ). replies_of p (record { state = s; text = text; left = l })) state left)
    (q begin text (subst (λ k. Prints k begin ca text) (sym silent) printed))

-- the device or memory failed
pub device_failed : (f : Run → Course) (a b : Simulated) (ca cb : Option (List ℕ)) (fault : Fault) → Grows f → b.silent ≡ a.silent → (fault ≡ faults.OutOfMemory → cb ≡ ca) → (fault ≡ faults.Write) ⊎ (fault ≡ faults.OutOfMemory) → Leads f a ca b cb (Err fault)
device_failed f a b ca cb faults.Write grows silent spared is = λ begin text printed. tt
device_failed f a b ca cb faults.OutOfMemory grows silent spared is = λ begin text printed. (
  text,
  grows (run_at a text),
  subst (λ n. Prints b.silent begin n text) (sym (spared refl)) (subst (λ k. Prints k begin ca text) (sym silent) printed),
)
device_failed f a b ca cb _ grows silent spared is = absurd (elim is as (λ _. ⊥) [ inl e ↦ cc | inr e ↦ cc ])

-- the writer failed
write_failed : (f : Run → Course) (a b : Simulated) (ca cb : Option (List ℕ)) (may_fail : Bool) (fault : Fault) → Grows f → b.silent ≡ a.silent → (◌≡◌ {A = Result (Unit {0}) Fault} (Err fault) (Err faults.OutOfMemory) → cb ≡ ca) → fault ≡ write_fault may_fail → Leads f a ca b cb (Err fault)
write_failed f a b ca cb true fault grows silent spared is = device_failed f a b ca cb fault grows silent (λ e. spared (ap (λ (x : Fault). Err x) e)) (inl is)
write_failed f a b ca cb false fault grows silent spared is = device_failed f a b ca cb fault grows silent (λ e. spared (ap (λ (x : Fault). Err x) e)) (inr is)

-- a round

round_made : (config : Config) (a : Simulated) (text : List ℕ) (o : Option State) → (a.left == 0) ≡ false → channels_served config.geometry.channels (state_of a.world) ≡ o → round config (run_at a text) ≡ round_closed config (run_at a text) o
round_made config a text o some is =
    ap (λ (b : Bool). cond b (stopped faults.ScriptLimit (run_at a text)) (round_closed config (run_at a text) (channels_served config.geometry.channels (state_of a.world)))) some
    ∙ ap (round_closed config (run_at a text)) is

pub round_stopped : (config : Config) (a b : Simulated) (ca : Option (List ℕ)) (fault : Fault) → (a.left == 0) ≡ false → b.silent ≡ a.silent → IsCycleFault fault (channels_served config.geometry.channels (state_of a.world)) → Leads (round config) a ca b ca (Err fault)
round_stopped config a b ca faults.ClockSpent some silent is = λ begin text printed. (text, round_made config a text None some is, subst (λ k. Prints k begin ca text) (sym silent) printed)
round_stopped config a b ca faults.OutOfMemory some silent is = λ begin text printed. (text, round_grows config (run_at a text), subst (λ k. Prints k begin ca text) (sym silent) printed)
round_stopped config a b ca _ some silent is = absurd is

-- one turn of a loop, its stop and its end

pub onward_turn : (f : Run → Course) (s : Simulated) (cs : Option (List ℕ)) (g part h : Run → Course) (a b : Simulated) (ca cb : Option (List ℕ)) (v : Unit {0}) → ((text : List ℕ) → g (run_at a text) ≡ (part (run_at a text) then h)) → Leads part a ca b cb (Ok v)
    → Onward f s cs g a ca → Onward f s cs h b cb
onward_turn f s cs g part h a b ca cb v turn p onward = λ d cd r q.
    onward d cd r (leads_same g (λ run. part run then h) a d ca cd r turn (leads_then part h a b d ca cb cd v r p q))

pub onward_stop : (f : Run → Course) (s : Simulated) (cs : Option (List ℕ)) (g part h : Run → Course) (a b : Simulated) (ca cb : Option (List ℕ)) (fault : Fault) → Grows h → ((text : List ℕ) → g (run_at a text) ≡ (part (run_at a text) then h)) → Leads part a ca b cb (Err fault)
    → Onward f s cs g a ca → Leads f s cs b cb (Err fault)
onward_stop f s cs g part h a b ca cb fault grows turn p onward =
    onward b cb (Err fault) (leads_same g (λ run. part run then h) a b ca cb (Err fault) turn (leads_stop part h a b ca cb fault grows p))

pub onward_end : (f : Run → Course) (s : Simulated) (cs : Option (List ℕ)) (g : Run → Course) (a : Simulated) (ca : Option (List ℕ)) (v : Unit {0}) → ((text : List ℕ) → g (run_at a text) ≡ Ok (run_at a text)) → Onward f s cs g a ca → Leads f s cs a ca (Ok v)
onward_end f s cs g a ca v same onward = onward a ca (Ok v) (leads_nowhere g a ca v same)

-- rounds while something is outstanding

pub served_out_turn : (config : Config) (n : ℕ) (s : State) (text : List ℕ) → (outstanding s == 0) ≡ false → served_out config n (record { state = s; text = text; left = n }) ≡ (round config (record { state = s; text = text; left = n }) then served_out config (n - 1))
served_out_turn config zero s text busy = ap (λ (b : Bool). cond b (Ok (record { state = s; text = text; left = 0 })) (stopped faults.ScriptLimit (record { state = s; text = text; left = 0 }))) busy
served_out_turn config (suc n) s text busy =
    let run : Run = record { state = s; text = text; left = suc n } in
    let rest : n ≡ suc n - 1 = omega arith in
    ap (λ (b : Bool). cond b (Ok run) (round config run then served_out config n)) busy ∙ ap (λ m. round config run then served_out config m) rest

pub served_out_end : (config : Config) (n : ℕ) (run : Run) → (outstanding run.state == 0) ≡ true → served_out config n run ≡ Ok run
served_out_end config zero run idle = ap (λ (b : Bool). cond b (Ok run) (stopped faults.ScriptLimit run)) idle
served_out_end config (suc n) run idle = ap (λ (b : Bool). cond b (Ok run) (round config run then served_out config n)) idle

-- the Ends

pub port_ended : (k pushed next : Kept) (s : State) (c p n : ℕ) (r q : Result Outcome Refusal) → IsAnswered k pushed (End p c) r → IsAnswered pushed next (Take c) q → state_of k ≡ ports_ended c p s → n ≡ suc p → state_of next ≡ ports_ended c n s
port_ended k pushed next s c p n r q end take is e =
    after_take_answer pushed next c q take ∙ ap (λ x. after x (Take c)) (after_end_answer k pushed p c r end ∙ ap (λ x. after x (End p c)) is) ∙ ap (λ m. ports_ended c m s) (sym e)

pub channel_ended : (k next : Kept) (s : State) (ports c n : ℕ) → state_of next ≡ ports_ended c ports (state_of k) → state_of k ≡ channels_ended ports c s → n ≡ suc c → state_of next ≡ channels_ended ports n s
channel_ended k next s ports c n end is e = end ∙ ap (ports_ended c ports) is ∙ ap (λ m. channels_ended ports m s) (sym e)

-- a request that is refused

refused_run : (p : ℕ) (asked : Asked) (a b : Simulated) (cause : Refusal) (text : List ℕ) → step (state_of a.world) (Submit p asked) ≡ Err cause → state_of b.world ≡ state_of a.world → b.left ≡ a.left
    → ◌≡◌ {A = Course} (Ok (submitted p asked (run_at a text))) (Ok (run_at b (text ++ refused_text p cause)))
refused_run p asked a b cause text is state left =
    ap (λ (r : Step). Ok (after_submit p (run_at a text) r)) is
    ∙ ap₂ (λ (s : State) (l : ℕ). Ok (record { state = s; text = text ++ refused_text p cause; left = l })) (sym state) (sym left)

pub refused_silently : (p : ℕ) (asked : Asked) (a b : Simulated) (ca : Option (List ℕ)) (cause : Refusal) (v : Unit {0}) → step (state_of a.world) (Submit p asked) ≡ Err cause → state_of b.world ≡ state_of a.world → b.left ≡ a.left → b.silent ≡ a.silent → b.silent ≡ true
    → Leads (λ run. Ok (submitted p asked run)) a ca b ca (Ok v)
refused_silently p asked a b ca cause v is state left silent none = λ begin text printed. (
  text ++ refused_text p cause,
  refused_run p asked a b cause text is state left,
  subst (λ k. Prints k begin ca (text ++ refused_text p cause)) (sym none) (subst (λ k. Prints k begin ca text) (sym silent ∙ none) printed),
)

pub refused_aloud : (p : ℕ) (asked : Asked) (a b : Simulated) (ca cb : Option (List ℕ)) (may_fail : Bool) (cause : Refusal) (said : List ℕ) (r : Result (Unit {0}) Fault) → step (state_of a.world) (Submit p asked) ≡ Err cause → state_of b.world ≡ state_of a.world → b.left ≡ a.left → b.silent ≡ a.silent → b.silent ≡ false
    → said ≡ refused_text p cause → OnOk r (Appends ca cb said) → IfErr r (λ fault. fault ≡ write_fault may_fail) → (r ≡ Err faults.OutOfMemory → cb ≡ ca) → Leads (λ run. Ok (submitted p asked run)) a ca b cb r
refused_aloud p asked a b ca cb may_fail cause said (Ok v) is state left silent aloud same wrote failed spared = λ begin text printed. (
  text ++ refused_text p cause,
  refused_run p asked a b cause text is state left,
  subst (λ k. Prints k begin cb (text ++ refused_text p cause)) (sym aloud)
      (Appends-trans begin ca cb text (refused_text p cause) (subst (λ k. Prints k begin ca text) (sym silent ∙ aloud) printed) (subst (Appends ca cb) same wrote)),
)
refused_aloud p asked a b ca cb may_fail cause said (Err fault) is state left silent aloud same wrote failed spared =
    write_failed (λ run. Ok (submitted p asked run)) a b ca cb may_fail fault (submitted_grows p asked) silent spared failed

-- a run that goes on

pub same_on : (a b c : Simulated) (n m : ℕ) → IsSameRun a b n → IsSameRun b c m → IsSameRun a c (n + m)
same_on a b c n m p q = record { config = q.config ∙ p.config; silent = q.silent ∙ p.silent; waiting = omega (arith, p.waiting, q.waiting) }

-- one port more
pub port_more : (i n : ℕ) (a b d : Simulated) (ca cb cd : Option (List ℕ)) (v : Unit {0}) (r : Result (Unit {0}) Fault) → n ≡ suc i → Leads (λ run. Ok (ports_served i run)) a ca b cb (Ok v) → Leads (λ run. Ok (port_served i run)) b cb d cd r
    → Leads (λ run. Ok (ports_served n run)) a ca d cd r
port_more i n a b d ca cb cd v r e p q =
    leads_same (λ run. Ok (ports_served n run)) (λ run. Ok (ports_served i run) then λ x. Ok (port_served i x)) a d ca cd r (λ text. ap (λ m. Ok (ports_served m (run_at a text))) e)
    (leads_then (λ run. Ok (ports_served i run)) (λ x. Ok (port_served i x)) a b d ca cb cd v r p q)

pub rounds_turn : (config : Config) (n m : ℕ) (run : Run) → n ≡ m + 1 → rounds config n run ≡ (round config run then rounds config m)
rounds_turn config n m run e =
    let one : n ≡ suc m = omega (arith, e) in
    ap (λ k. rounds config k run) one

pub rounds_end : (config : Config) (n : ℕ) (run : Run) → n ≡ 0 → rounds config n run ≡ Ok run
rounds_end config n run e = ap (λ k. rounds config k run) e

-- the instructions, one after another

pub followed_turn : (config : Config) (xs : List kept.Instruction) (i : ℕ) (x : kept.Instruction) (run : Run) → i < length xs → x ≡ get_or xs i x
    → all_followed config (map view (drop i xs)) run ≡ (followed config (view x) run then all_followed config (map view (drop (i + 1) xs)))
followed_turn config xs i x run within is =
    at_drop_more (λ ys. all_followed config (map view ys) run) xs i x within
    ∙ ap (λ y. followed config (view y) run then all_followed config (map view (drop (i + 1) xs))) (sym is)

pub followed_end : (config : Config) (xs : List kept.Instruction) (i : ℕ) (run : Run) → length xs ≤ i → all_followed config (map view (drop i xs)) run ≡ Ok run
followed_end config xs i run out = at_drop_all (λ ys. all_followed config (map view ys) run) xs i out

-- one instruction more is followed: those after it are left
pub followed_on : (xs : List kept.Instruction) (i : ℕ) (x : kept.Instruction) (s a b : Simulated) (cs ca cb : Option (List ℕ)) (v : Unit {0}) → i < length xs → x ≡ get_or xs i x → a.config ≡ s.config → Leads (followed a.config (view x)) a ca b cb (Ok v)
    → Onward (all_followed s.config (map view xs)) s cs (all_followed s.config (map view (drop i xs))) a ca → Onward (all_followed s.config (map view xs)) s cs (all_followed s.config (map view (drop (i + 1) xs))) b cb
followed_on xs i x s a b cs ca cb v within is same p onward =
    onward_turn (all_followed s.config (map view xs)) s cs (all_followed s.config (map view (drop i xs))) (followed s.config (view x)) (all_followed s.config (map view (drop (i + 1) xs))) a b ca cb v
    (λ text. followed_turn s.config xs i x (run_at a text) within is) (subst (λ (k : Config). Leads (followed k (view x)) a ca b cb (Ok v)) same p) onward

-- one that fails ends them all
pub followed_stop : (xs : List kept.Instruction) (i : ℕ) (x : kept.Instruction) (s a b : Simulated) (cs ca cb : Option (List ℕ)) (fault : Fault) → i < length xs → x ≡ get_or xs i x → a.config ≡ s.config → Leads (followed a.config (view x)) a ca b cb (Err fault)
    → Onward (all_followed s.config (map view xs)) s cs (all_followed s.config (map view (drop i xs))) a ca → Leads (all_followed s.config (map view xs)) s cs b cb (Err fault)
followed_stop xs i x s a b cs ca cb fault within is same p onward =
    onward_stop (all_followed s.config (map view xs)) s cs (all_followed s.config (map view (drop i xs))) (followed s.config (view x)) (all_followed s.config (map view (drop (i + 1) xs))) a b ca cb fault
    (all_followed_grow s.config (map view (drop (i + 1) xs))) (λ text. followed_turn s.config xs i x (run_at a text) within is) (subst (λ (k : Config). Leads (followed k (view x)) a ca b cb (Err fault)) same p) onward

-- the trace of a channel

channel_is : (c : ℕ) (k : channel_kept.Kept) (o : Option KeptSide) → Some k ≡ option_map (λ (side : KeptSide). side.channel) o
    → option_map_or (λ (side : ChannelSide). trace_text side.channel.trace side.channel.now) (option_map side_of o) [] ≡ trace_text k.trace k.now
channel_is c k None is = absurd (let impossible = is in cc)
channel_is c k (Some side) is =
    let same : k ≡ side.channel = cc in
    ap (λ (x : channel_kept.Kept). trace_text x.trace x.now) (sym same)

pub channel_there : (w : Kept) (c : ℕ) (k : channel_kept.Kept) → Some k ≡ option_map (λ (side : KeptSide). side.channel) (slice_get w.channels c) → channel_text (state_of w) c ≡ trace_text k.trace k.now
channel_there w c k is =
    ap (λ o. option_map_or (λ (side : ChannelSide). trace_text side.channel.trace side.channel.now) o []) (slice_get-map side_of w.channels c) ∙ channel_is c k (slice_get w.channels c) is

no_channel : (c : ℕ) (o : Option KeptSide) → None ≡ option_map (λ (side : KeptSide). side.channel) o → ◌≡◌ {A = List ℕ} (option_map_or (λ (side : ChannelSide). trace_text side.channel.trace side.channel.now) (option_map side_of o) []) []
no_channel c None is = refl
no_channel c (Some side) is = absurd (let impossible = is in cc)

pub channel_absent : (w : Kept) (c : ℕ) → None ≡ option_map (λ (side : KeptSide). side.channel) (slice_get w.channels c) → channel_text (state_of w) c ≡ []
channel_absent w c is =
    ap (λ o. option_map_or (λ (side : ChannelSide). trace_text side.channel.trace side.channel.now) o []) (slice_get-map side_of w.channels c) ∙ no_channel c (slice_get w.channels c) is
