-- What the options of a subcommand say.
use Rattle.std.proofs.Common.{◌≡◌, ℕ, ◌≤◌, Bool, true, false, ◌&&◌, ◌||◌, cond, codes, List, [], ◌∷◌, length, Option, None, Some, Result, Ok, Err, IfSome, IsTrue, option_map, find, refl, sym, subst, ap, ap₂, inl, inr, ◌∙◌, arith, lit<}
use Rattle.std.specs.Prelude.{pos}
use Rattle.std.specs.List.{list_all}
use Rattle.std.specs.Option.{option_map_or}
use Rattle.std.specs.Str.{bytes_eq}
use Rattle.std.specs.Str.Parse.{ParsesUnsigned, digits_value, without_leading_plus}
use Rattle.std.proofs.lemmas.Bool.{le-ltb, lt-ltb}
use Rattle.std.proofs.lemmas.Slice.Eq.{bytes_eq-Decides}
use Rattle.clap.specs.Matches.{ReadsOne}
use Rattle.clap.specs.Simple.{Shape, built, entered, filled, label_of, rows_at}
use Rattle.clap.specs.Walk.{action_of, answers_to}
use Rattle.clap.specs.Words.{App, HasKind, HasMatchesOf, IsUnsignedIn, subcommand_name_of, subcommand_rows_of, Kinds, Row, Rule, Text, fault_of, is_simple, is_simple_and_free, kind_of, one_of, subcommand_of}
use Rattle.clap.specs.declared.builder.ArgAction.{ArgAction}
use Rattle.clap.specs.declared.builder.ArgAction.TheVariants.{Count}
use Rattle.clap.specs.declared.builder.value_parser.ValueParser.TheVariants as parser
use Rattle.clap.specs.declared.ArgMatches.{ArgMatches}
use Rattle.clap.specs.declared.ArgMatches.TheViews.{out-ArgMatches}
use Rattle.clap.specs.declared.Error.{Error}
use Rattle.clap.specs.declared.error.kind.ErrorKind.TheVariants.{OutOfMemory}
use Rattle.clap.proofs.CallerReads.{signed_reads}
use Rattle.clap.proofs.ValueTestLemmas.{accepts-Accepts}
use Rattle.ddr_words.specs.declared.command.Job.TheVariants.{Sim}
use Rattle.ddr_words.specs.Job.{AreTaken, IsTaken, Reads, all_rule, bound_rule, channel_rule, clock_rule, cycle_rule, ddr_app, drampower_rule, dramsim3_rule, every_rule, explain_rule, fair_rule, flag_rule, from_first_rule, from_rule, is_subcommand, job_of, job_or, said_by, most_rule, number_rule, numbers_rule, progress_rule, ramulator2_rule, requests_rule, sample_rule, skip_rule, spread_rule, start_rule, stream_rule, svg_rule, to_rule, trace_rule, wrap_rule}
use Rattle.ddr_words.proofs.PassLemmas.{AllFit, AllSubsLike, IsLike, fit_subcommand, one_passes}

-- a flag, as `get_flag` reads it
pub flag_read : (name : Text) (o : Option Text) (r : Bool) → (o ≡ None → r ≡ false) → (o ≡ Some (codes "true") → r ≡ true) → (o ≡ Some (codes "false") → r ≡ false) → IfSome o (IsTaken (filled (flag_rule name))) → r ≡ option_map_or (λ text. bytes_eq text (codes "true")) o false
flag_read name None r none set other taken = none refl
flag_read name (Some text) r none set other (value, same, accepted) = go (bytes_eq text (codes "true")) refl (subst (λ v. (bytes_eq v (codes "true") || bytes_eq v (codes "false")) ≡ true) (sym same) accepted)
  where
    go : (b : Bool) → bytes_eq text (codes "true") ≡ b → (bytes_eq text (codes "true") || bytes_eq text (codes "false")) ≡ true → r ≡ bytes_eq text (codes "true")
    go true is either = set (ap (λ t. Some t) ((bytes_eq-Decides text (codes "true")).0 is)) ∙ sym is
    go false is either =
        let is_false : bytes_eq text (codes "false") ≡ true = ap (λ b. b || bytes_eq text (codes "false")) (sym is) ∙ either in
        other (ap (λ t. Some t) ((bytes_eq-Decides text (codes "false")).0 is_false)) ∙ sym is

-- an option, as `get_one` reads a `u32`
pub number_read : (name : Text) (E : Type 0) (G : List ℕ → Result ℕ E → Type 0) (o : Option Text) (r : Option ℕ) → ((u : List ℕ) (x : Result ℕ E) → G u x → ParsesUnsigned 32 10 u x) → (o ≡ None → r ≡ None) → ((t : Text) → o ≡ Some t → ReadsOne G t r) → IfSome o (IsTaken (filled (number_rule name))) → r ≡ option_map (λ text. digits_value 10 (without_leading_plus text)) o
number_read name E G None r only none value taken = none refl
number_read name E G (Some text) r only none value (v, same, accepted) =
    let read = value text refl in
    let got = signed_reads E G 32 0 4294967295 v r (subst (λ u. ReadsOne G u r) same read) only (lit< tt) (accepts-Accepts false (parser.Signed (pos 0) (pos 4294967295)) v accepted) in
    let parsed = only text (Ok got.0) (subst (ReadsOne G text) got.1 read) in
    got.1 ∙ ap (λ n. Some n) parsed.1

-- a text that passed as a `u64` reads as the number of its digits
unsigned_read : (E : Type 0) (G : List ℕ → Result ℕ E → Type 0) (t : Text) (r : Option ℕ) → ((u : List ℕ) (x : Result ℕ E) → G u x → ParsesUnsigned 64 10 u x) → ReadsOne G t r → IsUnsignedIn 0 18446744073709551615 t → r ≡ Some (digits_value 10 (without_leading_plus t))
unsigned_read E G t None only read passed = absurd (only t (Err read.0) read.1 (passed.0, passed.1))
unsigned_read E G t (Some n) only read passed = ap (λ n. Some n) (only t (Ok n) read).1

-- an option, as `get_one` reads a `u64`
pub cycle_read : (name : Text) (E : Type 0) (G : List ℕ → Result ℕ E → Type 0) (o : Option Text) (r : Option ℕ) → ((u : List ℕ) (x : Result ℕ E) → G u x → ParsesUnsigned 64 10 u x) → (o ≡ None → r ≡ None) → ((t : Text) → o ≡ Some t → ReadsOne G t r) → IfSome o (IsTaken (filled (cycle_rule name))) → r ≡ option_map (λ text. digits_value 10 (without_leading_plus text)) o
cycle_read name E G None r only none value taken = none refl
cycle_read name E G (Some text) r only none value (v, same, accepted) =
    let passed = subst (IsUnsignedIn 0 18446744073709551615) (sym same) (accepts-Accepts false (parser.Unsigned 0 18446744073709551615) v accepted) in
    unsigned_read E G text r only (value text refl) passed

-- the program's name alone, or not even that
pub job_alone : (words : List Text) → length words ≤ 1 → job_of words ≡ Ok (Ok (Sim true None))
unfolding job_of
job_alone words few = ap (λ b. cond b (Ok (Ok (Sim true None))) (job_or (fault_of ddr_app words) (subcommand_of ddr_app words))) (lt-ltb (length words) 2 (omega arith))

-- further words
pub job_further : (words : List Text) → 2 ≤ length words → job_of words ≡ job_or (fault_of ddr_app words) (subcommand_of ddr_app words)
unfolding job_of
job_further words some = ap (λ b. cond b (Ok (Ok (Sim true None))) (job_or (fault_of ddr_app words) (subcommand_of ddr_app words))) (le-ltb (length words) 2 some)

-- memory ran out
pub without_memory : {X : Type 0} (error : Error) (said : Result X Kinds) → kind_of error ≡ OutOfMemory → Reads (Err error) said
without_memory error (Ok x) e = e
without_memory error (Err kinds) e = inl e

-- what the command line refuses
pub refused_by : (kinds : Kinds) (subcommand : Option (Text × List Row)) (error : Error) → HasKind kinds error → Reads (Err error) (job_or kinds subcommand)
refused_by [] subcommand error (inl memory) = without_memory error (job_or [] subcommand) memory
refused_by [] subcommand error (inr none) = absurd none
refused_by (kind ∷ kinds) subcommand error h = h

-- what was met, by its name and its options
is_met : {X : Type 0} (name_of : X → Text) (options_of : X → List Row) (found : Option X) (name : Text) (options : List Row) → Some name ≡ option_map name_of found → Some options ≡ option_map (λ (p : Text × List Row). p.1) (option_map {U = Text × List Row} (λ b. (name_of b, options_of b)) found) → option_map {U = Text × List Row} (λ b. (name_of b, options_of b)) found ≡ Some (name, options)
is_met name_of options_of None name options p q = cc
is_met name_of options_of (Some b) name options p q =
    let same_name : name ≡ name_of b = cc in
    let same_options : options ≡ options_of b = cc in
    let pair : Text → List Row → Option (Text × List Row) = λ n o. Some (n, o) in
    ap₂ pair (sym same_name) (sym same_options)

pub is_simple_app : is_simple_and_free ddr_app ≡ true
unfolding ddr_app
is_simple_app = refl

is_simple_line : is_simple ddr_app ≡ true
unfolding ddr_app
is_simple_line = refl

-- the subcommand that the matches have is the one that the words name
pub met_of : (app : App) (words : List Text) (matches : ArgMatches) (name : Text) (options : List Row) → app ≡ ddr_app → HasMatchesOf app words matches → Some name ≡ subcommand_name_of matches → Some options ≡ option_map (λ (p : Text × List Row). p.1) (subcommand_rows_of matches) → subcommand_of ddr_app words ≡ Some (name, options)
met_of app words matches name options e has named rows =
    ap (λ a. subcommand_of a words) (sym e) ∙ sym (has (ap is_simple e ∙ is_simple_line)).1
    ∙ is_met _ _ (out-ArgMatches matches).subcommand name options named rows

-- a parse that succeeds has no fault
pub none_of : (app : App) (words : List Text) → app ≡ ddr_app → (is_simple_and_free app ≡ true → fault_of app words ≡ []) → fault_of ddr_app words ≡ []
none_of app words e kinds = ap (λ a. fault_of a words) (sym e) ∙ kinds (ap is_simple_and_free e ∙ is_simple_app)

pub needs_subcommand : ddr_app.top.subcommand_required ≡ true
unfolding ddr_app
needs_subcommand = refl

found_named : (subs : List Shape) (p : Shape → Bool) (words : List Text) (name : Text) (options : List Row) → list_all (λ s. is_subcommand s.name) subs ≡ true → option_map (λ s. rows_at s words) (find p subs) ≡ Some (name, options) → IsTrue (is_subcommand name)
found_named [] p words name options all e = cc
found_named (s ∷ more) p words name options all e = go (is_subcommand s.name) (p s) refl (found_named more p words name options) all e
  where
    go : (a b : Bool) → is_subcommand s.name ≡ a
        → (list_all (λ s. is_subcommand s.name) more ≡ true → option_map (λ s. rows_at s words) (find p more) ≡ Some (name, options) → IsTrue (is_subcommand name))
        → (a && list_all (λ s. is_subcommand s.name) more) ≡ true → option_map (λ s. rows_at s words) (cond b (Some s) (find p more)) ≡ Some (name, options) → IsTrue (is_subcommand name)
    go false b is later all e = cc
    go true true is later all e = let same : s.name ≡ name = ap (λ (o : Option (Text × List Row)). option_map_or (λ (q : Text × List Row). q.0) o []) e in subst (λ n. IsTrue (is_subcommand n)) same is
    go true false is later all e = later all e

entered_named : (a : App) (stop : Option (Text × List Text)) (name : Text) (options : List Row) → list_all (λ s. is_subcommand s.name) a.subs ≡ true → entered a stop ≡ Some (name, options) → IsTrue (is_subcommand name)
entered_named a None name options all e = cc
entered_named a (Some p) name options all e = found_named a.subs (λ s. answers_to p.0 (label_of s)) p.1 name options all e

names : list_all (λ s. is_subcommand s.name) (built ddr_app).subs ≡ true
unfolding ddr_app
names = refl

-- the subcommand that was met is one of seven
pub met_named : (words : List Text) (name : Text) (options : List Row) → subcommand_of ddr_app words ≡ Some (name, options) → IsTrue (is_subcommand name)
met_named words name options met = entered_named (built ddr_app) _ name options names met

-- the job of the subcommand that was met
pub job_met : (words : List Text) (name : Text) (options : List Row) → 2 ≤ length words → fault_of ddr_app words ≡ [] → subcommand_of ddr_app words ≡ Some (name, options) → job_of words ≡ Ok (said_by name options)
job_met words name options some none met = job_further words some ∙ ap₂ job_or none met

-- ---- the options have only texts that their parsers take

is_count : ArgAction → Bool
is_count Count = true
is_count _ = false

like_same : (t a : Rule) → a.parser ≡ t.parser → a.ignore_case ≡ t.ignore_case → is_count (action_of a) ≡ false → IsLike t a
unfolding is_count
like_same t a parser ignore_case uncounted =
    record { parser = λ _. parser; ignore_case = λ _. ignore_case; uncounted = λ count. let counts = ap is_count count in cc }

like_other : (t a : Rule) → bytes_eq a.id t.id ≡ false → is_count (action_of a) ≡ false → IsLike t a
unfolding is_count
like_other t a differ uncounted =
    record { parser = λ same. cc; ignore_case = λ same. cc; uncounted = λ count. let counts = ap is_count count in cc }

samples_alike : AllSubsLike (filled sample_rule) (built ddr_app).subs
unfolding ddr_app is_count
samples_alike =
    ((like_same _ _ refl refl refl, (like_other _ _ refl refl, (like_other _ _ refl refl, tt))), ((like_same _ _ refl refl refl, (like_other _ _ refl refl, tt)), ((like_same _ _ refl refl refl, (like_other _ _ refl refl, (like_other _ _ refl refl, (like_other _ _ refl refl, (like_other _ _ refl refl, (like_other _ _ refl refl, (like_other _ _ refl refl, (like_other _ _ refl refl, (like_other _ _ refl refl, (like_other _ _ refl refl, (like_other _ _ refl refl, (like_other _ _ refl refl, (like_other _ _ refl refl, (like_other _ _ refl refl, (like_other _ _ refl refl, (like_other _ _ refl refl, tt)))))))))))))))), ((like_same _ _ refl refl refl, (like_other _ _ refl refl, (like_other _ _ refl refl, (like_other _ _ refl refl, (like_other _ _ refl refl, (like_other _ _ refl refl, (like_other _ _ refl refl, (like_other _ _ refl refl, (like_other _ _ refl refl, (like_other _ _ refl refl, tt)))))))))), ((like_same _ _ refl refl refl, (like_other _ _ refl refl, (like_other _ _ refl refl, (like_other _ _ refl refl, (like_other _ _ refl refl, tt))))), ((like_same _ _ refl refl refl, (like_other _ _ refl refl, tt)), ((like_same _ _ refl refl refl, (like_other _ _ refl refl, (like_other _ _ refl refl, tt))), tt)))))))

traces_alike : AllSubsLike (filled trace_rule) (built ddr_app).subs
unfolding ddr_app is_count
traces_alike =
    ((like_other _ _ refl refl, (like_same _ _ refl refl refl, (like_other _ _ refl refl, tt))), ((like_other _ _ refl refl, (like_other _ _ refl refl, tt)), ((like_other _ _ refl refl, (like_other _ _ refl refl, (like_other _ _ refl refl, (like_other _ _ refl refl, (like_other _ _ refl refl, (like_other _ _ refl refl, (like_other _ _ refl refl, (like_other _ _ refl refl, (like_same _ _ refl refl refl, (like_other _ _ refl refl, (like_other _ _ refl refl, (like_other _ _ refl refl, (like_other _ _ refl refl, (like_other _ _ refl refl, (like_other _ _ refl refl, (like_other _ _ refl refl, tt)))))))))))))))), ((like_other _ _ refl refl, (like_other _ _ refl refl, (like_other _ _ refl refl, (like_other _ _ refl refl, (like_other _ _ refl refl, (like_other _ _ refl refl, (like_other _ _ refl refl, (like_other _ _ refl refl, (like_other _ _ refl refl, (like_other _ _ refl refl, tt)))))))))), ((like_other _ _ refl refl, (like_other _ _ refl refl, (like_other _ _ refl refl, (like_other _ _ refl refl, (like_other _ _ refl refl, tt))))), ((like_other _ _ refl refl, (like_other _ _ refl refl, tt)), ((like_other _ _ refl refl, (like_other _ _ refl refl, (like_other _ _ refl refl, tt))), tt)))))))

explains_alike : AllSubsLike (filled explain_rule) (built ddr_app).subs
unfolding ddr_app is_count
explains_alike =
    ((like_other _ _ refl refl, (like_other _ _ refl refl, (like_other _ _ refl refl, tt))), ((like_other _ _ refl refl, (like_other _ _ refl refl, tt)), ((like_other _ _ refl refl, (like_other _ _ refl refl, (like_other _ _ refl refl, (like_other _ _ refl refl, (like_other _ _ refl refl, (like_other _ _ refl refl, (like_other _ _ refl refl, (like_other _ _ refl refl, (like_other _ _ refl refl, (like_other _ _ refl refl, (like_other _ _ refl refl, (like_other _ _ refl refl, (like_other _ _ refl refl, (like_other _ _ refl refl, (like_other _ _ refl refl, (like_other _ _ refl refl, tt)))))))))))))))), ((like_other _ _ refl refl, (like_same _ _ refl refl refl, (like_other _ _ refl refl, (like_other _ _ refl refl, (like_other _ _ refl refl, (like_other _ _ refl refl, (like_other _ _ refl refl, (like_other _ _ refl refl, (like_other _ _ refl refl, (like_other _ _ refl refl, tt)))))))))), ((like_other _ _ refl refl, (like_other _ _ refl refl, (like_other _ _ refl refl, (like_other _ _ refl refl, (like_other _ _ refl refl, tt))))), ((like_other _ _ refl refl, (like_other _ _ refl refl, tt)), ((like_other _ _ refl refl, (like_other _ _ refl refl, (like_other _ _ refl refl, tt))), tt)))))))

alls_alike : AllSubsLike (filled all_rule) (built ddr_app).subs
unfolding ddr_app is_count
alls_alike =
    ((like_other _ _ refl refl, (like_other _ _ refl refl, (like_other _ _ refl refl, tt))), ((like_other _ _ refl refl, (like_other _ _ refl refl, tt)), ((like_other _ _ refl refl, (like_other _ _ refl refl, (like_other _ _ refl refl, (like_other _ _ refl refl, (like_other _ _ refl refl, (like_other _ _ refl refl, (like_other _ _ refl refl, (like_other _ _ refl refl, (like_other _ _ refl refl, (like_other _ _ refl refl, (like_other _ _ refl refl, (like_other _ _ refl refl, (like_other _ _ refl refl, (like_other _ _ refl refl, (like_other _ _ refl refl, (like_other _ _ refl refl, tt)))))))))))))))), ((like_other _ _ refl refl, (like_other _ _ refl refl, (like_same _ _ refl refl refl, (like_other _ _ refl refl, (like_other _ _ refl refl, (like_other _ _ refl refl, (like_other _ _ refl refl, (like_other _ _ refl refl, (like_other _ _ refl refl, (like_other _ _ refl refl, tt)))))))))), ((like_other _ _ refl refl, (like_other _ _ refl refl, (like_other _ _ refl refl, (like_other _ _ refl refl, (like_other _ _ refl refl, tt))))), ((like_other _ _ refl refl, (like_other _ _ refl refl, tt)), ((like_other _ _ refl refl, (like_other _ _ refl refl, (like_other _ _ refl refl, tt))), tt)))))))

mosts_alike : AllSubsLike (filled most_rule) (built ddr_app).subs
unfolding ddr_app is_count
mosts_alike =
    ((like_other _ _ refl refl, (like_other _ _ refl refl, (like_other _ _ refl refl, tt))), ((like_other _ _ refl refl, (like_other _ _ refl refl, tt)), ((like_other _ _ refl refl, (like_other _ _ refl refl, (like_other _ _ refl refl, (like_other _ _ refl refl, (like_other _ _ refl refl, (like_other _ _ refl refl, (like_other _ _ refl refl, (like_other _ _ refl refl, (like_other _ _ refl refl, (like_other _ _ refl refl, (like_other _ _ refl refl, (like_other _ _ refl refl, (like_other _ _ refl refl, (like_other _ _ refl refl, (like_other _ _ refl refl, (like_other _ _ refl refl, tt)))))))))))))))), ((like_other _ _ refl refl, (like_other _ _ refl refl, (like_other _ _ refl refl, (like_same _ _ refl refl refl, (like_other _ _ refl refl, (like_other _ _ refl refl, (like_other _ _ refl refl, (like_other _ _ refl refl, (like_other _ _ refl refl, (like_other _ _ refl refl, tt)))))))))), ((like_other _ _ refl refl, (like_other _ _ refl refl, (like_other _ _ refl refl, (like_other _ _ refl refl, (like_other _ _ refl refl, tt))))), ((like_other _ _ refl refl, (like_other _ _ refl refl, tt)), ((like_other _ _ refl refl, (like_other _ _ refl refl, (like_other _ _ refl refl, tt))), tt)))))))

dramsim3_alike : AllSubsLike (filled dramsim3_rule) (built ddr_app).subs
unfolding ddr_app is_count
dramsim3_alike =
    ((like_other _ _ refl refl, (like_other _ _ refl refl, (like_other _ _ refl refl, tt))), ((like_other _ _ refl refl, (like_other _ _ refl refl, tt)), ((like_other _ _ refl refl, (like_same _ _ refl refl refl, (like_other _ _ refl refl, (like_other _ _ refl refl, (like_other _ _ refl refl, (like_other _ _ refl refl, (like_other _ _ refl refl, (like_other _ _ refl refl, (like_other _ _ refl refl, (like_other _ _ refl refl, (like_other _ _ refl refl, (like_other _ _ refl refl, (like_other _ _ refl refl, (like_other _ _ refl refl, (like_other _ _ refl refl, (like_other _ _ refl refl, tt)))))))))))))))), ((like_other _ _ refl refl, (like_other _ _ refl refl, (like_other _ _ refl refl, (like_other _ _ refl refl, (like_other _ _ refl refl, (like_same _ _ refl refl refl, (like_other _ _ refl refl, (like_other _ _ refl refl, (like_other _ _ refl refl, (like_other _ _ refl refl, tt)))))))))), ((like_other _ _ refl refl, (like_other _ _ refl refl, (like_other _ _ refl refl, (like_other _ _ refl refl, (like_other _ _ refl refl, tt))))), ((like_other _ _ refl refl, (like_other _ _ refl refl, tt)), ((like_other _ _ refl refl, (like_other _ _ refl refl, (like_other _ _ refl refl, tt))), tt)))))))

ramulator2_alike : AllSubsLike (filled ramulator2_rule) (built ddr_app).subs
unfolding ddr_app is_count
ramulator2_alike =
    ((like_other _ _ refl refl, (like_other _ _ refl refl, (like_other _ _ refl refl, tt))), ((like_other _ _ refl refl, (like_other _ _ refl refl, tt)), ((like_other _ _ refl refl, (like_other _ _ refl refl, (like_same _ _ refl refl refl, (like_other _ _ refl refl, (like_other _ _ refl refl, (like_other _ _ refl refl, (like_other _ _ refl refl, (like_other _ _ refl refl, (like_other _ _ refl refl, (like_other _ _ refl refl, (like_other _ _ refl refl, (like_other _ _ refl refl, (like_other _ _ refl refl, (like_other _ _ refl refl, (like_other _ _ refl refl, (like_other _ _ refl refl, tt)))))))))))))))), ((like_other _ _ refl refl, (like_other _ _ refl refl, (like_other _ _ refl refl, (like_other _ _ refl refl, (like_other _ _ refl refl, (like_other _ _ refl refl, (like_same _ _ refl refl refl, (like_other _ _ refl refl, (like_other _ _ refl refl, (like_other _ _ refl refl, tt)))))))))), ((like_other _ _ refl refl, (like_other _ _ refl refl, (like_other _ _ refl refl, (like_other _ _ refl refl, (like_other _ _ refl refl, tt))))), ((like_other _ _ refl refl, (like_other _ _ refl refl, tt)), ((like_other _ _ refl refl, (like_other _ _ refl refl, (like_other _ _ refl refl, tt))), tt)))))))

spreads_alike : AllSubsLike (filled spread_rule) (built ddr_app).subs
unfolding ddr_app is_count
spreads_alike =
    ((like_other _ _ refl refl, (like_other _ _ refl refl, (like_other _ _ refl refl, tt))), ((like_other _ _ refl refl, (like_other _ _ refl refl, tt)), ((like_other _ _ refl refl, (like_other _ _ refl refl, (like_other _ _ refl refl, (like_same _ _ refl refl refl, (like_other _ _ refl refl, (like_other _ _ refl refl, (like_other _ _ refl refl, (like_other _ _ refl refl, (like_other _ _ refl refl, (like_other _ _ refl refl, (like_other _ _ refl refl, (like_other _ _ refl refl, (like_other _ _ refl refl, (like_other _ _ refl refl, (like_other _ _ refl refl, (like_other _ _ refl refl, tt)))))))))))))))), ((like_other _ _ refl refl, (like_other _ _ refl refl, (like_other _ _ refl refl, (like_other _ _ refl refl, (like_other _ _ refl refl, (like_other _ _ refl refl, (like_other _ _ refl refl, (like_other _ _ refl refl, (like_other _ _ refl refl, (like_other _ _ refl refl, tt)))))))))), ((like_other _ _ refl refl, (like_other _ _ refl refl, (like_other _ _ refl refl, (like_other _ _ refl refl, (like_other _ _ refl refl, tt))))), ((like_other _ _ refl refl, (like_other _ _ refl refl, tt)), ((like_other _ _ refl refl, (like_other _ _ refl refl, (like_other _ _ refl refl, tt))), tt)))))))

wraps_alike : AllSubsLike (filled wrap_rule) (built ddr_app).subs
unfolding ddr_app is_count
wraps_alike =
    ((like_other _ _ refl refl, (like_other _ _ refl refl, (like_other _ _ refl refl, tt))), ((like_other _ _ refl refl, (like_other _ _ refl refl, tt)), ((like_other _ _ refl refl, (like_other _ _ refl refl, (like_other _ _ refl refl, (like_other _ _ refl refl, (like_same _ _ refl refl refl, (like_other _ _ refl refl, (like_other _ _ refl refl, (like_other _ _ refl refl, (like_other _ _ refl refl, (like_other _ _ refl refl, (like_other _ _ refl refl, (like_other _ _ refl refl, (like_other _ _ refl refl, (like_other _ _ refl refl, (like_other _ _ refl refl, (like_other _ _ refl refl, tt)))))))))))))))), ((like_other _ _ refl refl, (like_other _ _ refl refl, (like_other _ _ refl refl, (like_other _ _ refl refl, (like_other _ _ refl refl, (like_other _ _ refl refl, (like_other _ _ refl refl, (like_other _ _ refl refl, (like_other _ _ refl refl, (like_other _ _ refl refl, tt)))))))))), ((like_other _ _ refl refl, (like_other _ _ refl refl, (like_other _ _ refl refl, (like_other _ _ refl refl, (like_other _ _ refl refl, tt))))), ((like_other _ _ refl refl, (like_other _ _ refl refl, tt)), ((like_other _ _ refl refl, (like_other _ _ refl refl, (like_other _ _ refl refl, tt))), tt)))))))

from_firsts_alike : AllSubsLike (filled from_first_rule) (built ddr_app).subs
unfolding ddr_app is_count
from_firsts_alike =
    ((like_other _ _ refl refl, (like_other _ _ refl refl, (like_other _ _ refl refl, tt))), ((like_other _ _ refl refl, (like_other _ _ refl refl, tt)), ((like_other _ _ refl refl, (like_other _ _ refl refl, (like_other _ _ refl refl, (like_other _ _ refl refl, (like_other _ _ refl refl, (like_same _ _ refl refl refl, (like_other _ _ refl refl, (like_other _ _ refl refl, (like_other _ _ refl refl, (like_other _ _ refl refl, (like_other _ _ refl refl, (like_other _ _ refl refl, (like_other _ _ refl refl, (like_other _ _ refl refl, (like_other _ _ refl refl, (like_other _ _ refl refl, tt)))))))))))))))), ((like_other _ _ refl refl, (like_other _ _ refl refl, (like_other _ _ refl refl, (like_other _ _ refl refl, (like_other _ _ refl refl, (like_other _ _ refl refl, (like_other _ _ refl refl, (like_other _ _ refl refl, (like_other _ _ refl refl, (like_other _ _ refl refl, tt)))))))))), ((like_other _ _ refl refl, (like_other _ _ refl refl, (like_other _ _ refl refl, (like_other _ _ refl refl, (like_other _ _ refl refl, tt))))), ((like_other _ _ refl refl, (like_other _ _ refl refl, tt)), ((like_other _ _ refl refl, (like_other _ _ refl refl, (like_other _ _ refl refl, tt))), tt)))))))

fairs_alike : AllSubsLike (filled fair_rule) (built ddr_app).subs
unfolding ddr_app is_count
fairs_alike =
    ((like_other _ _ refl refl, (like_other _ _ refl refl, (like_other _ _ refl refl, tt))), ((like_other _ _ refl refl, (like_other _ _ refl refl, tt)), ((like_other _ _ refl refl, (like_other _ _ refl refl, (like_other _ _ refl refl, (like_other _ _ refl refl, (like_other _ _ refl refl, (like_other _ _ refl refl, (like_same _ _ refl refl refl, (like_other _ _ refl refl, (like_other _ _ refl refl, (like_other _ _ refl refl, (like_other _ _ refl refl, (like_other _ _ refl refl, (like_other _ _ refl refl, (like_other _ _ refl refl, (like_other _ _ refl refl, (like_other _ _ refl refl, tt)))))))))))))))), ((like_other _ _ refl refl, (like_other _ _ refl refl, (like_other _ _ refl refl, (like_other _ _ refl refl, (like_other _ _ refl refl, (like_other _ _ refl refl, (like_other _ _ refl refl, (like_other _ _ refl refl, (like_other _ _ refl refl, (like_other _ _ refl refl, tt)))))))))), ((like_other _ _ refl refl, (like_other _ _ refl refl, (like_other _ _ refl refl, (like_other _ _ refl refl, (like_other _ _ refl refl, tt))))), ((like_other _ _ refl refl, (like_other _ _ refl refl, tt)), ((like_other _ _ refl refl, (like_other _ _ refl refl, (like_other _ _ refl refl, tt))), tt)))))))

requests_alike : AllSubsLike (filled requests_rule) (built ddr_app).subs
unfolding ddr_app is_count
requests_alike =
    ((like_other _ _ refl refl, (like_other _ _ refl refl, (like_other _ _ refl refl, tt))), ((like_other _ _ refl refl, (like_other _ _ refl refl, tt)), ((like_other _ _ refl refl, (like_other _ _ refl refl, (like_other _ _ refl refl, (like_other _ _ refl refl, (like_other _ _ refl refl, (like_other _ _ refl refl, (like_other _ _ refl refl, (like_same _ _ refl refl refl, (like_other _ _ refl refl, (like_other _ _ refl refl, (like_other _ _ refl refl, (like_other _ _ refl refl, (like_other _ _ refl refl, (like_other _ _ refl refl, (like_other _ _ refl refl, (like_other _ _ refl refl, tt)))))))))))))))), ((like_other _ _ refl refl, (like_other _ _ refl refl, (like_other _ _ refl refl, (like_other _ _ refl refl, (like_other _ _ refl refl, (like_other _ _ refl refl, (like_other _ _ refl refl, (like_other _ _ refl refl, (like_other _ _ refl refl, (like_other _ _ refl refl, tt)))))))))), ((like_other _ _ refl refl, (like_other _ _ refl refl, (like_other _ _ refl refl, (like_other _ _ refl refl, (like_other _ _ refl refl, tt))))), ((like_other _ _ refl refl, (like_other _ _ refl refl, tt)), ((like_other _ _ refl refl, (like_other _ _ refl refl, (like_other _ _ refl refl, tt))), tt)))))))

drampowers_alike : AllSubsLike (filled drampower_rule) (built ddr_app).subs
unfolding ddr_app is_count
drampowers_alike =
    ((like_other _ _ refl refl, (like_other _ _ refl refl, (like_other _ _ refl refl, tt))), ((like_other _ _ refl refl, (like_other _ _ refl refl, tt)), ((like_other _ _ refl refl, (like_other _ _ refl refl, (like_other _ _ refl refl, (like_other _ _ refl refl, (like_other _ _ refl refl, (like_other _ _ refl refl, (like_other _ _ refl refl, (like_other _ _ refl refl, (like_other _ _ refl refl, (like_same _ _ refl refl refl, (like_other _ _ refl refl, (like_other _ _ refl refl, (like_other _ _ refl refl, (like_other _ _ refl refl, (like_other _ _ refl refl, (like_other _ _ refl refl, tt)))))))))))))))), ((like_other _ _ refl refl, (like_other _ _ refl refl, (like_other _ _ refl refl, (like_other _ _ refl refl, (like_other _ _ refl refl, (like_other _ _ refl refl, (like_other _ _ refl refl, (like_other _ _ refl refl, (like_other _ _ refl refl, (like_other _ _ refl refl, tt)))))))))), ((like_other _ _ refl refl, (like_other _ _ refl refl, (like_other _ _ refl refl, (like_other _ _ refl refl, (like_other _ _ refl refl, tt))))), ((like_other _ _ refl refl, (like_other _ _ refl refl, tt)), ((like_other _ _ refl refl, (like_other _ _ refl refl, (like_other _ _ refl refl, tt))), tt)))))))

progress_alike : AllSubsLike (filled progress_rule) (built ddr_app).subs
unfolding ddr_app is_count
progress_alike =
    ((like_other _ _ refl refl, (like_other _ _ refl refl, (like_other _ _ refl refl, tt))), ((like_other _ _ refl refl, (like_other _ _ refl refl, tt)), ((like_other _ _ refl refl, (like_other _ _ refl refl, (like_other _ _ refl refl, (like_other _ _ refl refl, (like_other _ _ refl refl, (like_other _ _ refl refl, (like_other _ _ refl refl, (like_other _ _ refl refl, (like_other _ _ refl refl, (like_other _ _ refl refl, (like_same _ _ refl refl refl, (like_other _ _ refl refl, (like_other _ _ refl refl, (like_other _ _ refl refl, (like_other _ _ refl refl, (like_other _ _ refl refl, tt)))))))))))))))), ((like_other _ _ refl refl, (like_other _ _ refl refl, (like_other _ _ refl refl, (like_other _ _ refl refl, (like_other _ _ refl refl, (like_other _ _ refl refl, (like_other _ _ refl refl, (like_other _ _ refl refl, (like_other _ _ refl refl, (like_other _ _ refl refl, tt)))))))))), ((like_other _ _ refl refl, (like_other _ _ refl refl, (like_other _ _ refl refl, (like_other _ _ refl refl, (like_other _ _ refl refl, tt))))), ((like_other _ _ refl refl, (like_other _ _ refl refl, tt)), ((like_other _ _ refl refl, (like_other _ _ refl refl, (like_other _ _ refl refl, tt))), tt)))))))

numbers_alike : AllSubsLike (filled numbers_rule) (built ddr_app).subs
unfolding ddr_app is_count
numbers_alike =
    ((like_other _ _ refl refl, (like_other _ _ refl refl, (like_other _ _ refl refl, tt))), ((like_other _ _ refl refl, (like_other _ _ refl refl, tt)), ((like_other _ _ refl refl, (like_other _ _ refl refl, (like_other _ _ refl refl, (like_other _ _ refl refl, (like_other _ _ refl refl, (like_other _ _ refl refl, (like_other _ _ refl refl, (like_other _ _ refl refl, (like_other _ _ refl refl, (like_other _ _ refl refl, (like_other _ _ refl refl, (like_same _ _ refl refl refl, (like_other _ _ refl refl, (like_other _ _ refl refl, (like_other _ _ refl refl, (like_other _ _ refl refl, tt)))))))))))))))), ((like_other _ _ refl refl, (like_other _ _ refl refl, (like_other _ _ refl refl, (like_other _ _ refl refl, (like_other _ _ refl refl, (like_other _ _ refl refl, (like_other _ _ refl refl, (like_other _ _ refl refl, (like_other _ _ refl refl, (like_other _ _ refl refl, tt)))))))))), ((like_other _ _ refl refl, (like_other _ _ refl refl, (like_other _ _ refl refl, (like_other _ _ refl refl, (like_other _ _ refl refl, tt))))), ((like_other _ _ refl refl, (like_other _ _ refl refl, tt)), ((like_other _ _ refl refl, (like_other _ _ refl refl, (like_other _ _ refl refl, tt))), tt)))))))

skips_alike : AllSubsLike (filled skip_rule) (built ddr_app).subs
unfolding ddr_app is_count
skips_alike =
    ((like_other _ _ refl refl, (like_other _ _ refl refl, (like_other _ _ refl refl, tt))), ((like_other _ _ refl refl, (like_other _ _ refl refl, tt)), ((like_other _ _ refl refl, (like_other _ _ refl refl, (like_other _ _ refl refl, (like_other _ _ refl refl, (like_other _ _ refl refl, (like_other _ _ refl refl, (like_other _ _ refl refl, (like_other _ _ refl refl, (like_other _ _ refl refl, (like_other _ _ refl refl, (like_other _ _ refl refl, (like_other _ _ refl refl, (like_same _ _ refl refl refl, (like_other _ _ refl refl, (like_other _ _ refl refl, (like_other _ _ refl refl, tt)))))))))))))))), ((like_other _ _ refl refl, (like_other _ _ refl refl, (like_other _ _ refl refl, (like_other _ _ refl refl, (like_other _ _ refl refl, (like_other _ _ refl refl, (like_other _ _ refl refl, (like_other _ _ refl refl, (like_other _ _ refl refl, (like_other _ _ refl refl, tt)))))))))), ((like_other _ _ refl refl, (like_other _ _ refl refl, (like_other _ _ refl refl, (like_other _ _ refl refl, (like_other _ _ refl refl, tt))))), ((like_other _ _ refl refl, (like_other _ _ refl refl, tt)), ((like_other _ _ refl refl, (like_other _ _ refl refl, (like_other _ _ refl refl, tt))), tt)))))))

clocks_alike : AllSubsLike (filled clock_rule) (built ddr_app).subs
unfolding ddr_app is_count
clocks_alike =
    ((like_other _ _ refl refl, (like_other _ _ refl refl, (like_other _ _ refl refl, tt))), ((like_other _ _ refl refl, (like_other _ _ refl refl, tt)), ((like_other _ _ refl refl, (like_other _ _ refl refl, (like_other _ _ refl refl, (like_other _ _ refl refl, (like_other _ _ refl refl, (like_other _ _ refl refl, (like_other _ _ refl refl, (like_other _ _ refl refl, (like_other _ _ refl refl, (like_other _ _ refl refl, (like_other _ _ refl refl, (like_other _ _ refl refl, (like_other _ _ refl refl, (like_same _ _ refl refl refl, (like_other _ _ refl refl, (like_other _ _ refl refl, tt)))))))))))))))), ((like_other _ _ refl refl, (like_other _ _ refl refl, (like_other _ _ refl refl, (like_other _ _ refl refl, (like_other _ _ refl refl, (like_other _ _ refl refl, (like_other _ _ refl refl, (like_other _ _ refl refl, (like_other _ _ refl refl, (like_other _ _ refl refl, tt)))))))))), ((like_other _ _ refl refl, (like_other _ _ refl refl, (like_other _ _ refl refl, (like_other _ _ refl refl, (like_other _ _ refl refl, tt))))), ((like_other _ _ refl refl, (like_other _ _ refl refl, tt)), ((like_other _ _ refl refl, (like_other _ _ refl refl, (like_other _ _ refl refl, tt))), tt)))))))

everys_alike : AllSubsLike (filled every_rule) (built ddr_app).subs
unfolding ddr_app is_count
everys_alike =
    ((like_other _ _ refl refl, (like_other _ _ refl refl, (like_other _ _ refl refl, tt))), ((like_other _ _ refl refl, (like_other _ _ refl refl, tt)), ((like_other _ _ refl refl, (like_other _ _ refl refl, (like_other _ _ refl refl, (like_other _ _ refl refl, (like_other _ _ refl refl, (like_other _ _ refl refl, (like_other _ _ refl refl, (like_other _ _ refl refl, (like_other _ _ refl refl, (like_other _ _ refl refl, (like_other _ _ refl refl, (like_other _ _ refl refl, (like_other _ _ refl refl, (like_other _ _ refl refl, (like_same _ _ refl refl refl, (like_other _ _ refl refl, tt)))))))))))))))), ((like_other _ _ refl refl, (like_other _ _ refl refl, (like_other _ _ refl refl, (like_other _ _ refl refl, (like_other _ _ refl refl, (like_other _ _ refl refl, (like_other _ _ refl refl, (like_other _ _ refl refl, (like_other _ _ refl refl, (like_other _ _ refl refl, tt)))))))))), ((like_other _ _ refl refl, (like_other _ _ refl refl, (like_other _ _ refl refl, (like_other _ _ refl refl, (like_other _ _ refl refl, tt))))), ((like_other _ _ refl refl, (like_other _ _ refl refl, tt)), ((like_other _ _ refl refl, (like_other _ _ refl refl, (like_other _ _ refl refl, tt))), tt)))))))

streams_alike : AllSubsLike (filled stream_rule) (built ddr_app).subs
unfolding ddr_app is_count
streams_alike =
    ((like_other _ _ refl refl, (like_other _ _ refl refl, (like_other _ _ refl refl, tt))), ((like_other _ _ refl refl, (like_other _ _ refl refl, tt)), ((like_other _ _ refl refl, (like_other _ _ refl refl, (like_other _ _ refl refl, (like_other _ _ refl refl, (like_other _ _ refl refl, (like_other _ _ refl refl, (like_other _ _ refl refl, (like_other _ _ refl refl, (like_other _ _ refl refl, (like_other _ _ refl refl, (like_other _ _ refl refl, (like_other _ _ refl refl, (like_other _ _ refl refl, (like_other _ _ refl refl, (like_other _ _ refl refl, (like_other _ _ refl refl, tt)))))))))))))))), ((like_other _ _ refl refl, (like_other _ _ refl refl, (like_other _ _ refl refl, (like_other _ _ refl refl, (like_same _ _ refl refl refl, (like_other _ _ refl refl, (like_other _ _ refl refl, (like_other _ _ refl refl, (like_other _ _ refl refl, (like_other _ _ refl refl, tt)))))))))), ((like_other _ _ refl refl, (like_other _ _ refl refl, (like_other _ _ refl refl, (like_other _ _ refl refl, (like_other _ _ refl refl, tt))))), ((like_other _ _ refl refl, (like_other _ _ refl refl, tt)), ((like_other _ _ refl refl, (like_other _ _ refl refl, (like_other _ _ refl refl, tt))), tt)))))))

starts_alike : AllSubsLike (filled start_rule) (built ddr_app).subs
unfolding ddr_app is_count
starts_alike =
    ((like_other _ _ refl refl, (like_other _ _ refl refl, (like_other _ _ refl refl, tt))), ((like_other _ _ refl refl, (like_other _ _ refl refl, tt)), ((like_other _ _ refl refl, (like_other _ _ refl refl, (like_other _ _ refl refl, (like_other _ _ refl refl, (like_other _ _ refl refl, (like_other _ _ refl refl, (like_other _ _ refl refl, (like_other _ _ refl refl, (like_other _ _ refl refl, (like_other _ _ refl refl, (like_other _ _ refl refl, (like_other _ _ refl refl, (like_other _ _ refl refl, (like_other _ _ refl refl, (like_other _ _ refl refl, (like_other _ _ refl refl, tt)))))))))))))))), ((like_other _ _ refl refl, (like_other _ _ refl refl, (like_other _ _ refl refl, (like_other _ _ refl refl, (like_other _ _ refl refl, (like_other _ _ refl refl, (like_other _ _ refl refl, (like_same _ _ refl refl refl, (like_other _ _ refl refl, (like_other _ _ refl refl, tt)))))))))), ((like_other _ _ refl refl, (like_other _ _ refl refl, (like_other _ _ refl refl, (like_other _ _ refl refl, (like_other _ _ refl refl, tt))))), ((like_other _ _ refl refl, (like_other _ _ refl refl, tt)), ((like_other _ _ refl refl, (like_other _ _ refl refl, (like_other _ _ refl refl, tt))), tt)))))))

channels_alike : AllSubsLike (filled channel_rule) (built ddr_app).subs
unfolding ddr_app is_count
channels_alike =
    ((like_other _ _ refl refl, (like_other _ _ refl refl, (like_other _ _ refl refl, tt))), ((like_other _ _ refl refl, (like_other _ _ refl refl, tt)), ((like_other _ _ refl refl, (like_other _ _ refl refl, (like_other _ _ refl refl, (like_other _ _ refl refl, (like_other _ _ refl refl, (like_other _ _ refl refl, (like_other _ _ refl refl, (like_other _ _ refl refl, (like_other _ _ refl refl, (like_other _ _ refl refl, (like_other _ _ refl refl, (like_other _ _ refl refl, (like_other _ _ refl refl, (like_other _ _ refl refl, (like_other _ _ refl refl, (like_other _ _ refl refl, tt)))))))))))))))), ((like_other _ _ refl refl, (like_other _ _ refl refl, (like_other _ _ refl refl, (like_other _ _ refl refl, (like_other _ _ refl refl, (like_other _ _ refl refl, (like_other _ _ refl refl, (like_other _ _ refl refl, (like_same _ _ refl refl refl, (like_other _ _ refl refl, tt)))))))))), ((like_other _ _ refl refl, (like_other _ _ refl refl, (like_other _ _ refl refl, (like_other _ _ refl refl, (like_other _ _ refl refl, tt))))), ((like_other _ _ refl refl, (like_other _ _ refl refl, tt)), ((like_other _ _ refl refl, (like_other _ _ refl refl, (like_other _ _ refl refl, tt))), tt)))))))

svgs_alike : AllSubsLike (filled svg_rule) (built ddr_app).subs
unfolding ddr_app is_count
svgs_alike =
    ((like_other _ _ refl refl, (like_other _ _ refl refl, (like_other _ _ refl refl, tt))), ((like_other _ _ refl refl, (like_other _ _ refl refl, tt)), ((like_other _ _ refl refl, (like_other _ _ refl refl, (like_other _ _ refl refl, (like_other _ _ refl refl, (like_other _ _ refl refl, (like_other _ _ refl refl, (like_other _ _ refl refl, (like_other _ _ refl refl, (like_other _ _ refl refl, (like_other _ _ refl refl, (like_other _ _ refl refl, (like_other _ _ refl refl, (like_other _ _ refl refl, (like_other _ _ refl refl, (like_other _ _ refl refl, (like_other _ _ refl refl, tt)))))))))))))))), ((like_other _ _ refl refl, (like_other _ _ refl refl, (like_other _ _ refl refl, (like_other _ _ refl refl, (like_other _ _ refl refl, (like_other _ _ refl refl, (like_other _ _ refl refl, (like_other _ _ refl refl, (like_other _ _ refl refl, (like_other _ _ refl refl, tt)))))))))), ((like_other _ _ refl refl, (like_same _ _ refl refl refl, (like_other _ _ refl refl, (like_other _ _ refl refl, (like_other _ _ refl refl, tt))))), ((like_other _ _ refl refl, (like_other _ _ refl refl, tt)), ((like_other _ _ refl refl, (like_other _ _ refl refl, (like_other _ _ refl refl, tt))), tt)))))))

froms_alike : AllSubsLike (filled from_rule) (built ddr_app).subs
unfolding ddr_app is_count
froms_alike =
    ((like_other _ _ refl refl, (like_other _ _ refl refl, (like_other _ _ refl refl, tt))), ((like_other _ _ refl refl, (like_other _ _ refl refl, tt)), ((like_other _ _ refl refl, (like_other _ _ refl refl, (like_other _ _ refl refl, (like_other _ _ refl refl, (like_other _ _ refl refl, (like_other _ _ refl refl, (like_other _ _ refl refl, (like_other _ _ refl refl, (like_other _ _ refl refl, (like_other _ _ refl refl, (like_other _ _ refl refl, (like_other _ _ refl refl, (like_other _ _ refl refl, (like_other _ _ refl refl, (like_other _ _ refl refl, (like_other _ _ refl refl, tt)))))))))))))))), ((like_other _ _ refl refl, (like_other _ _ refl refl, (like_other _ _ refl refl, (like_other _ _ refl refl, (like_other _ _ refl refl, (like_other _ _ refl refl, (like_other _ _ refl refl, (like_other _ _ refl refl, (like_other _ _ refl refl, (like_other _ _ refl refl, tt)))))))))), ((like_other _ _ refl refl, (like_other _ _ refl refl, (like_same _ _ refl refl refl, (like_other _ _ refl refl, (like_other _ _ refl refl, tt))))), ((like_other _ _ refl refl, (like_other _ _ refl refl, tt)), ((like_other _ _ refl refl, (like_other _ _ refl refl, (like_other _ _ refl refl, tt))), tt)))))))

tos_alike : AllSubsLike (filled to_rule) (built ddr_app).subs
unfolding ddr_app is_count
tos_alike =
    ((like_other _ _ refl refl, (like_other _ _ refl refl, (like_other _ _ refl refl, tt))), ((like_other _ _ refl refl, (like_other _ _ refl refl, tt)), ((like_other _ _ refl refl, (like_other _ _ refl refl, (like_other _ _ refl refl, (like_other _ _ refl refl, (like_other _ _ refl refl, (like_other _ _ refl refl, (like_other _ _ refl refl, (like_other _ _ refl refl, (like_other _ _ refl refl, (like_other _ _ refl refl, (like_other _ _ refl refl, (like_other _ _ refl refl, (like_other _ _ refl refl, (like_other _ _ refl refl, (like_other _ _ refl refl, (like_other _ _ refl refl, tt)))))))))))))))), ((like_other _ _ refl refl, (like_other _ _ refl refl, (like_other _ _ refl refl, (like_other _ _ refl refl, (like_other _ _ refl refl, (like_other _ _ refl refl, (like_other _ _ refl refl, (like_other _ _ refl refl, (like_other _ _ refl refl, (like_other _ _ refl refl, tt)))))))))), ((like_other _ _ refl refl, (like_other _ _ refl refl, (like_other _ _ refl refl, (like_same _ _ refl refl refl, (like_other _ _ refl refl, tt))))), ((like_other _ _ refl refl, (like_other _ _ refl refl, tt)), ((like_other _ _ refl refl, (like_other _ _ refl refl, (like_other _ _ refl refl, tt))), tt)))))))

bounds_alike : AllSubsLike (filled bound_rule) (built ddr_app).subs
unfolding ddr_app is_count
bounds_alike =
    ((like_other _ _ refl refl, (like_other _ _ refl refl, (like_other _ _ refl refl, tt))), ((like_other _ _ refl refl, (like_other _ _ refl refl, tt)), ((like_other _ _ refl refl, (like_other _ _ refl refl, (like_other _ _ refl refl, (like_other _ _ refl refl, (like_other _ _ refl refl, (like_other _ _ refl refl, (like_other _ _ refl refl, (like_other _ _ refl refl, (like_other _ _ refl refl, (like_other _ _ refl refl, (like_other _ _ refl refl, (like_other _ _ refl refl, (like_other _ _ refl refl, (like_other _ _ refl refl, (like_other _ _ refl refl, (like_other _ _ refl refl, tt)))))))))))))))), ((like_other _ _ refl refl, (like_other _ _ refl refl, (like_other _ _ refl refl, (like_other _ _ refl refl, (like_other _ _ refl refl, (like_other _ _ refl refl, (like_other _ _ refl refl, (like_other _ _ refl refl, (like_other _ _ refl refl, (like_other _ _ refl refl, tt)))))))))), ((like_other _ _ refl refl, (like_other _ _ refl refl, (like_other _ _ refl refl, (like_other _ _ refl refl, (like_other _ _ refl refl, tt))))), ((like_other _ _ refl refl, (like_other _ _ refl refl, tt)), ((like_other _ _ refl refl, (like_same _ _ refl refl refl, (like_other _ _ refl refl, tt))), tt)))))))

taken_of : (t : Rule) (words : List Text) (name : Text) (options : List Row) → AllSubsLike t (built ddr_app).subs → fault_of ddr_app words ≡ [] → subcommand_of ddr_app words ≡ Some (name, options) → IfSome (one_of t.id options) (IsTaken t)
taken_of t words name options alike none met =
    one_passes t options (subst (λ (o : Option (Text × List Row)). IfSome o (λ p. AllFit t p.1)) met (fit_subcommand t ddr_app words alike none))

-- the options of the subcommand that was met
pub met_taken : (words : List Text) (name : Text) (options : List Row) → fault_of ddr_app words ≡ [] → subcommand_of ddr_app words ≡ Some (name, options) → AreTaken options
met_taken words name options none met = record {
  sample = taken_of (filled sample_rule) words name options samples_alike none met;
  trace = taken_of (filled trace_rule) words name options traces_alike none met;
  explain = taken_of (filled explain_rule) words name options explains_alike none met;
  all = taken_of (filled all_rule) words name options alls_alike none met;
  most = taken_of (filled most_rule) words name options mosts_alike none met;
  dramsim3 = taken_of (filled dramsim3_rule) words name options dramsim3_alike none met;
  ramulator2 = taken_of (filled ramulator2_rule) words name options ramulator2_alike none met;
  spread = taken_of (filled spread_rule) words name options spreads_alike none met;
  wrap = taken_of (filled wrap_rule) words name options wraps_alike none met;
  from_first = taken_of (filled from_first_rule) words name options from_firsts_alike none met;
  fair = taken_of (filled fair_rule) words name options fairs_alike none met;
  requests = taken_of (filled requests_rule) words name options requests_alike none met;
  drampower = taken_of (filled drampower_rule) words name options drampowers_alike none met;
  progress = taken_of (filled progress_rule) words name options progress_alike none met;
  numbers = taken_of (filled numbers_rule) words name options numbers_alike none met;
  skip = taken_of (filled skip_rule) words name options skips_alike none met;
  clock = taken_of (filled clock_rule) words name options clocks_alike none met;
  every = taken_of (filled every_rule) words name options everys_alike none met;
  stream = taken_of (filled stream_rule) words name options streams_alike none met;
  start = taken_of (filled start_rule) words name options starts_alike none met;
  channel = taken_of (filled channel_rule) words name options channels_alike none met;
  svg = taken_of (filled svg_rule) words name options svgs_alike none met;
  from = taken_of (filled from_rule) words name options froms_alike none met;
  to = taken_of (filled to_rule) words name options tos_alike none met;
  bound = taken_of (filled bound_rule) words name options bounds_alike none met;
}
