-- What a parse without a fault leaves: each value of an argument passed that argument's parser.
use Rattle.std.proofs.Common.{◌≡◌, ℕ, suc, zero, Bool, true, false, ◌&&◌, ◌||◌, cond, List, [], ◌∷◌, ◌++◌, length, drop, Option, None, Some, IfSome, find, fold, is_some, option_map, option_and_then, ne_eqb, refl, sym, ap, ap₂, ◌∙◌, arith}
use Rattle.std.specs.Prelude.{encode_utf8, slice_get}
use Rattle.std.specs.Option.{option_map_or}
use Rattle.std.specs.Str.{bytes_eq, chars}
use Rattle.std.proofs.lemmas.Slice.Eq.{bytes_eq-Decides}
use Rattle.clap.specs.Lexer.{long_of, short_of}
use Rattle.clap.specs.Facts.{parser_of_value}
use Rattle.clap.specs.Kinds.{Kinds, or_else, request_kinds, value_kinds, values_kinds}
use Rattle.clap.specs.Faults.{action_fault, entered_fault, fault_of, given_default_fault, bundle_fault, bundle_step_fault, default_fault, defaults_fault, flag_word_fault, flags_fault, level_fault, long_fault, option_fault, other_fault, positional_fault, react_fault, settle_fault, short_fault, step_fault, use_fault, values_fault, walk_fault, word_fault}
use Rattle.clap.specs.Simple.{App, Shape, built, entered, label_of, rows_at, subcommand_of}
use Rattle.clap.specs.Values.{read_as}
use Rattle.clap.specs.ValueTests.{accepts}
use Rattle.clap.specs.declared.error.ErrorKind.{ErrorKind}
use Rattle.clap.specs.Walk.{Held, Names, answers_to, one_of, row_text, after_step, arg_by_index, has_row, is_empty, is_pending, next, positional_held, subcommand, subcommand_met, subcommand_or_other, takes_several, to_positional, trailing, value, walk_from, walked_from, Outcome, Row, Waiting, after_flag, arg_by_long, arg_by_short, attached_value, bundle, done, idle, long_or_other, option, option_word, plain, plain_word, positional, refused, short_or_plain, takes_values, waits, Rule, Step, Text, Walk, action_of, arg_by_id, at_row, bundle_met, bundle_step, default_rows, flag_met, long_met, more_values, nothing_held, option_met, reacted, reading_by, rows_after, settled, settled_rows, short_met, used, used_as, used_by_id, values_or_missing, walk, walked, with_default, with_values, without, word_met}
use Rattle.clap.specs.declared.builder.value_parser.Reading.{Reading}
use Rattle.clap.specs.declared.builder.value_parser.ValueParser.{ValueParser}
use Rattle.clap.specs.declared.parser.matches.ValueSource.{ValueSource}
use Rattle.clap.specs.declared.builder.ArgAction.{ArgAction}
use Rattle.clap.specs.declared.builder.ArgAction.TheVariants.{Set, Append, SetTrue, SetFalse, Count}

-- the values of a row of the rule passed, and are read as its parser says
abbrev pub Fits : Rule → Row → Type 0
Fits t r = bytes_eq r.id t.id ≡ true → (values_fault t r.values ≡ []) × (r.reading ≡ reading_by t)

abbrev pub AllFit : Rule → List Row → Type 0
AllFit t [] = Unit {0}
AllFit t (r ∷ rs) = Fits t r × AllFit t rs

-- a rule of the same name checks the same, and no rule counts
pub record IsLike (t a : Rule) : Type 0 where
  pub parser : bytes_eq a.id t.id ≡ true → a.parser ≡ t.parser
  pub ignore_case : bytes_eq a.id t.id ≡ true → a.ignore_case ≡ t.ignore_case
  pub uncounted : action_of a ≡ Count → ⊥

abbrev pub AllLike : Rule → List Rule → Type 0
AllLike t [] = Unit {0}
AllLike t (a ∷ rest) = IsLike t a × AllLike t rest

none_of_two : (a b : Kinds) → or_else a b ≡ [] → (a ≡ []) × (b ≡ [])
none_of_two [] b e = (refl, e)
none_of_two (k ∷ ks) b e = cc

-- a value that is not refused
accepted : (b : Bool) (k : ErrorKind) → cond b [] (k ∷ []) ≡ [] → b ≡ true
accepted true k e = refl
accepted false k e = cc

-- P holds of a choice where it holds of both, each without its fault
pick : {A : Type 0} (P : A → Type 0) (b : Bool) (x y : Kinds) (u v : A) → cond b x y ≡ [] → (x ≡ [] → P u) → (y ≡ [] → P v) → P (cond b u v)
pick P true x y u v e p q = p e
pick P false x y u v e p q = q e

values_kinds-append : (i : Bool) (p : ValueParser) (xs ys : List Text) → values_kinds i p xs ≡ [] → values_kinds i p ys ≡ [] → values_kinds i p (xs ++ ys) ≡ []
values_kinds-append i p [] ys e f = f
values_kinds-append i p (x ∷ xs) ys e f =
    let parts = none_of_two (value_kinds i p x) (values_kinds i p xs) e in
    ap₂ or_else parts.0 (values_kinds-append i p xs ys parts.1 f)

fit-append : (t : Rule) (xs ys : List Row) → AllFit t xs → AllFit t ys → AllFit t (xs ++ ys)
fit-append t [] ys p q = q
fit-append t (x ∷ xs) ys p q = (p.0, fit-append t xs ys p.1 q)

fit_at_row : (t : Rule) (id : Text) (change : Row → List Row) (missing rows : List Row) → ((r : Row) → bytes_eq r.id id ≡ true → Fits t r → AllFit t (change r)) → AllFit t missing → AllFit t rows → AllFit t (at_row id change missing rows)
fit_at_row t id change missing [] changed absent fit = absent
fit_at_row t id change missing (r ∷ rs) changed absent fit = go (bytes_eq r.id id) refl (fit_at_row t id change missing rs changed absent fit.1)
  where
    go : (b : Bool) → bytes_eq r.id id ≡ b → AllFit t (at_row id change missing rs) → AllFit t (cond b (change r ++ rs) (r ∷ at_row id change missing rs))
    go true e later = fit-append t (change r) rs (changed r e fit.0) fit.1
    go false e later = (fit.0, later)

fit_without : (t : Rule) (id : Text) (rows : List Row) → AllFit t rows → AllFit t (without id rows)
fit_without t id rows fit = fit_at_row t id (λ _. []) [] rows (λ r e f. tt) tt fit

same_id : (a b c : Text) → bytes_eq a b ≡ true → bytes_eq a c ≡ true → bytes_eq b c ≡ true
same_id a b c e f = (bytes_eq-Decides b c).1 (sym ((bytes_eq-Decides a b).0 e) ∙ (bytes_eq-Decides a c).0 f)

fit_with_values : (t : Rule) (id : Text) (how : Reading) (s : ValueSource) (values : List Text) (rows : List Row) → (bytes_eq id t.id ≡ true → (values_fault t values ≡ []) × (how ≡ reading_by t)) → AllFit t rows → AllFit t (with_values id how s values rows)
fit_with_values t id how s values rows passes fit =
    fit_at_row t id (more_values s values) (record { id = id; values = values; count = None; source = Some s; reading = how } ∷ []) rows
    (λ r e f. (λ same. (values_kinds-append t.ignore_case (parser_of_value t.parser) r.values values (f same).0 (passes (same_id r.id id t.id e same)).0, (f same).1), tt))
    (passes, tt) fit

like_passes : (t a : Rule) (values : List Text) → IsLike t a → values_fault a values ≡ [] → bytes_eq a.id t.id ≡ true → (values_fault t values ≡ []) × (reading_by a ≡ reading_by t)
like_passes t a values like e same = (
  ap₂ (λ i p. values_kinds i (parser_of_value p) values) (sym (like.ignore_case same)) (sym (like.parser same)) ∙ e,
  ap (λ p. reading_by (record a { parser = p })) (like.parser same),
)

fit_used_as : (t a : Rule) (x : ArgAction) (again : Bool) (values : List Text) (rows : List Row) → IsLike t a → (x ≡ Count → ⊥) → action_fault x again a values rows ≡ [] → AllFit t rows → AllFit t (used_as x a.id (reading_by a) values rows)
fit_used_as t a Set again values rows like uncounted e fit = fit_with_values t a.id _ _ values _ (like_passes t a values like (none_of_two _ _ e).1) (fit_without t a.id rows fit)
fit_used_as t a SetTrue again values rows like uncounted e fit = fit_with_values t a.id _ _ values _ (like_passes t a values like (none_of_two _ _ e).1) (fit_without t a.id rows fit)
fit_used_as t a SetFalse again values rows like uncounted e fit = fit_with_values t a.id _ _ values _ (like_passes t a values like (none_of_two _ _ e).1) (fit_without t a.id rows fit)
fit_used_as t a Append again values rows like uncounted e fit = fit_with_values t a.id _ _ values _ (like_passes t a values like e) fit
fit_used_as t a Count again values rows like uncounted e fit = absurd (uncounted refl)
fit_used_as t a _ again values rows like uncounted e fit = fit

pub fit_used : (t a : Rule) (again : Bool) (values : List Text) (rows : List Row) → IsLike t a → use_fault again a values rows ≡ [] → AllFit t rows → AllFit t (used a values rows)
fit_used t a again values rows like e fit = fit_used_as t a (action_of a) again (values_or_missing a values) rows like like.uncounted (none_of_two _ _ e).1 fit

pub like_found : (t : Rule) (c : List Rule) (p : Rule → Bool) → AllLike t c → IfSome (find p c) (IsLike t)
like_found t [] p all = tt
like_found t (a ∷ c) p all = go (p a) (like_found t c p all.1)
  where
    go : (b : Bool) → IfSome (find p c) (IsLike t) → IfSome (cond b (Some a) (find p c)) (IsLike t)
    go true later = all.0
    go false later = later

-- ---- the walk over the words

module _ (t : Rule) (c : List Rule) (again : Bool) (all : AllLike t c) where
  fit_by_id : (o : Option Rule) (values : List Text) (rows : List Row) → IfSome o (IsLike t) → option_map_or (λ a. use_fault again a values rows) o [] ≡ [] → AllFit t rows → AllFit t (used_by_id o values rows)
  fit_by_id None values rows like e fit = fit
  fit_by_id (Some a) values rows like e fit = fit_used t a again values rows like e fit

  fit_settled_rows : (p : Option (Text × List Text)) (rows : List Row) → option_map_or (λ p. option_map_or (λ a. use_fault again a p.1 rows) (arg_by_id c p.0) []) p [] ≡ [] → AllFit t rows → AllFit t (settled_rows c p rows)
  fit_settled_rows None rows e fit = fit
  fit_settled_rows (Some p) rows e fit = fit_by_id (arg_by_id c p.0) p.1 rows (like_found t c _ all) e fit

  fit_settled : (h : Held) → settle_fault c again h ≡ [] → AllFit t h.rows → AllFit t (settled c h).rows
  fit_settled h e fit = fit_settled_rows h.pending h.rows e fit

  fit_reacted : (a : Rule) (values : List Text) (h : Held) → IsLike t a → react_fault c again a values h ≡ [] → AllFit t h.rows → AllFit t (reacted c a values h).rows
  fit_reacted a values h like e fit =
      let both = none_of_two _ _ e in
      fit_used t a again values (settled c h).rows like both.1 (fit_settled h both.0 fit)

  fit_option : (a : Rule) (v : Option Text) (h : Held) → IsLike t a → option_fault c again a v h ≡ [] → AllFit t h.rows → AllFit t (option_met c a v h).0.rows
  fit_option a (Some v) h like e fit = fit_reacted a (v ∷ []) h like e fit
  fit_option a None h like e fit = fit_settled h e fit

  fit_flag : (a : Rule) (v : Option Text) (h : Held) (k : Kinds) → IsLike t a → cond (is_some v) k (react_fault c again a [] h) ≡ [] → AllFit t h.rows → AllFit t (flag_met c a v h).0.rows
  fit_flag a (Some v) h k like e fit = fit
  fit_flag a None h k like e fit = fit_reacted a [] h like e fit

  fit_long : (o : Option Rule) (v : Option Text) (h : Held) → IfSome o (IsLike t) → long_fault c again o v h ≡ [] → AllFit t h.rows → AllFit t (long_met c o v h).0.rows
  fit_long None v h like e fit = fit
  fit_long (Some a) v h like e fit =
      pick (λ (r : Held × Outcome). AllFit t r.0.rows) (takes_values a) _ _ (option_met c a v h) (flag_met c a v h) e
      (λ f. fit_option a v h like f fit) (λ f. fit_flag a v h _ like f fit)

  fit_short : (o : Option Rule) (rest : Text) (h : Held) (onward : Held → Held × Outcome) (faults : Held → Kinds) → IfSome o (IsLike t) → ((i : Held) → faults i ≡ [] → AllFit t i.rows → AllFit t (onward i).0.rows) → short_fault c again o rest h faults ≡ [] → AllFit t h.rows → AllFit t (short_met c o rest h onward).0.rows
  fit_short None rest h onward faults like later e fit = fit
  fit_short (Some a) rest h onward faults like later e fit =
      pick (λ (r : Held × Outcome). AllFit t r.0.rows) (takes_values a) _ _ (option_met c a (attached_value rest) h) (onward (reacted c a [] h)) e
      (λ f. fit_option a (attached_value rest) h like f fit)
      (λ f. let both = none_of_two _ _ f in later (reacted c a [] h) both.1 (fit_reacted a [] h like both.0 fit))

  fit_bundle_step : (o : Option ℕ) (flags : Text) (skip : ℕ) (so_far : Outcome) (h : Held) (onward : Text → ℕ → Outcome → Held → Held × Outcome) (faults : Text → ℕ → Held → Kinds)
      → ((fs : Text) (n : ℕ) (s : Outcome) (i : Held) → faults fs n i ≡ [] → AllFit t i.rows → AllFit t (onward fs n s i).0.rows)
      → bundle_step_fault c again o flags skip h faults ≡ [] → AllFit t h.rows → AllFit t (bundle_step c o flags skip so_far h onward).0.rows
  fit_bundle_step None flags skip so_far h onward faults later e fit = fit
  fit_bundle_step (Some x) flags zero so_far h onward faults later e fit =
      let rest = drop (length (encode_utf8 x)) flags in
      fit_short (arg_by_short c x) rest h (onward rest 0 done) (faults rest 0) (like_found t c _ all) (λ i f g. later rest 0 done i f g) e fit
  fit_bundle_step (Some x) flags (suc skip) so_far h onward faults later e fit = later _ skip so_far h e fit

  fit_bundle_met : (k : ℕ) (flags : Text) (skip : ℕ) (so_far : Outcome) (h : Held) → flags_fault c again k flags skip h ≡ [] → AllFit t h.rows → AllFit t (bundle_met c k flags skip so_far h).0.rows
  unfolding bundle_met flags_fault
  fit_bundle_met zero flags skip so_far h e fit = fit
  fit_bundle_met (suc k) flags skip so_far h e fit =
      fit_bundle_step (slice_get (chars flags) 0) flags skip so_far h (bundle_met c k) (flags_fault c again k) (λ fs n s i f g. fit_bundle_met k fs n s i f g) e fit

  fit_option_word : (o : Option Rule) (id word : Text) (h : Held) → AllFit t h.rows → AllFit t (option_word o id word h).0.rows
  fit_option_word None id word h fit = fit
  fit_option_word (Some a) id word h fit = fit

  fit_plain : (waiting : Waiting) (word : Text) (h : Held) → AllFit t h.rows → AllFit t (plain_word c waiting word h).0.rows
  fit_plain (option id) word h fit = fit_option_word (arg_by_id c id) id word h fit
  fit_plain idle word h fit = fit
  fit_plain positional word h fit = fit

  fit_after_flag : (waiting : Waiting) (word : Text) (h : Held) (o : Outcome) → AllFit t h.rows → AllFit t (after_flag c waiting word h o).0.rows
  fit_after_flag waiting word h done fit = fit
  fit_after_flag waiting word h (waits id) fit = fit
  fit_after_flag waiting word h plain fit = fit_plain waiting word h fit
  fit_after_flag waiting word h refused fit = fit_plain waiting word h fit

  fit_short_or_plain : (waiting : Waiting) (word : Text) (o : Option Text) (h : Held) → option_map_or (λ flags. bundle_fault c again flags h) o [] ≡ [] → AllFit t h.rows → AllFit t (short_or_plain c waiting word o h).0.rows
  fit_short_or_plain waiting word None h e fit = fit_plain waiting word h fit
  fit_short_or_plain waiting word (Some flags) h e fit =
      fit_after_flag waiting word (bundle c flags h).0 (bundle c flags h).1 (fit_bundle_met (length flags) flags h.skip plain (record h { skip = 0 }) e fit)

  fit_long_or_other : (waiting : Waiting) (word : Text) (o : Option (Text × Option Text)) (h : Held) → flag_word_fault c again o word h ≡ [] → AllFit t h.rows → AllFit t (long_or_other c waiting word o h).0.rows
  fit_long_or_other waiting word (Some p) h e fit =
      let met = long_met c (arg_by_long c p.0) p.1 h in
      fit_after_flag waiting word met.0 met.1 (fit_long (arg_by_long c p.0) p.1 h (like_found t c _ all) e fit)
  fit_long_or_other waiting word None h e fit = fit_short_or_plain waiting word (short_of word) h e fit

-- ---- one level of a parse

module _ (t : Rule) (s : Shape) (names : Names) (all : AllLike t s.rules) where
  fit_other : (o : Option Text) (waiting : Waiting) (position : ℕ) (word : Text) (h : Held) → other_fault s o word h ≡ [] → AllFit t h.rows → AllFit t (subcommand_or_other s.rules o waiting position word h).0.rows
  fit_other (Some name) waiting position word h e fit = fit
  fit_other None waiting position word h e fit =
      pick (λ (r : Held × Step). AllFit t r.0.rows) (bytes_eq word (45 ∷ 45 ∷ [])) _ _ (h, trailing position) (long_or_other s.rules waiting word (long_of word) h) e
      (λ f. fit) (λ f. fit_long_or_other t s.rules s.args_override_self all waiting word (long_of word) h f fit)

  fit_word : (is_trailing : Bool) (waiting : Waiting) (position : ℕ) (word : Text) (h : Held) → word_fault s names is_trailing waiting word h ≡ [] → AllFit t h.rows → AllFit t (word_met s.rules names is_trailing waiting position word h).0.rows
  fit_word true waiting position word h e fit = fit
  fit_word false waiting position word h e fit = fit_other (subcommand_met names waiting word) waiting position word h e fit

  fit_positional_held : (a : Rule) (word : Text) (h : Held) → positional_fault s.rules s.args_override_self a h ≡ [] → AllFit t h.rows → AllFit t (positional_held s.rules a word h).rows
  fit_positional_held a word h e fit =
      pick (λ (i : Held). AllFit t i.rows) (is_pending a h.pending && takes_several a) _ _ h (settled s.rules h) e
      (λ f. fit) (λ f. fit_settled t s.rules s.args_override_self all h f fit)

  fit_to_positional : (o : Option Rule) (word : Text) (w : Walk) (h : Held) (k : Kinds) → option_map_or (λ a. positional_fault s.rules s.args_override_self a h) o k ≡ [] → AllFit t h.rows → AllFit t (to_positional s.rules o word w h).held.rows
  fit_to_positional None word w h k e fit = fit
  fit_to_positional (Some a) word w h k e fit = fit_positional_held a word h e fit

  fit_after_step : (word : Text) (w : Walk) (h : Held) (o : Step) → step_fault s w.position h o ≡ [] → AllFit t h.rows → AllFit t (after_step s.rules word w h o).held.rows
  fit_after_step word w h (next waiting) e fit = fit
  fit_after_step word w h (trailing position) e fit = fit
  fit_after_step word w h (subcommand name) e fit = fit
  fit_after_step word w h value e fit = fit_to_positional (arg_by_index s.rules w.position) word w h _ e fit

  fit_walked_from : (o : Option (Text × List Text)) (w : Walk) (word : Text)
      → cond (is_some o) [] (let met = word_met s.rules names w.is_trailing w.waiting w.position word w.held in or_else (word_fault s names w.is_trailing w.waiting word w.held) (step_fault s w.position met.0 met.1)) ≡ []
      → AllFit t w.held.rows → AllFit t (walked_from s.rules names o w word).held.rows
  fit_walked_from (Some p) w word e fit = fit
  fit_walked_from None w word e fit =
      let met = word_met s.rules names w.is_trailing w.waiting w.position word w.held in
      let both = none_of_two _ _ e in
      fit_after_step word w met.0 met.1 both.1 (fit_word w.is_trailing w.waiting w.position word w.held both.0 fit)

  fit_walk_from : (w : Walk) (words : List Text) → walk_fault s names w words ≡ [] → AllFit t w.held.rows → AllFit t (fold (walked s.rules names) w words).held.rows
  unfolding walked walk_fault
  fit_walk_from w [] e fit = fit
  fit_walk_from w (word ∷ rest) e fit =
      let both = none_of_two _ _ e in
      fit_walk_from (walked s.rules names w word) rest both.1 (fit_walked_from w.stopped w word both.0 fit)

fit_default_rows : (t a : Rule) (rows : List Row) (values : List Text) → IsLike t a → cond (is_empty values) [] (given_default_fault a values) ≡ [] → AllFit t rows → AllFit t (default_rows a.id (reading_by a) values rows)
fit_default_rows t a rows [] like e fit = fit
fit_default_rows t a rows (v ∷ vs) like e fit =
    let some : is_empty (v ∷ vs) ≡ false = ne_eqb (length (v ∷ vs)) 0 (λ none. omega arith) in
    let given : given_default_fault a (v ∷ vs) ≡ [] = sym (ap (λ b. cond b [] (given_default_fault a (v ∷ vs))) some) ∙ e in
    fit_with_values t a.id _ _ (v ∷ vs) rows (like_passes t a (v ∷ vs) like (none_of_two (request_kinds (action_of a)) (values_fault a (v ∷ vs)) given).1) fit

fit_with_default : (t a : Rule) (rows : List Row) → IsLike t a → default_fault rows a ≡ [] → AllFit t rows → AllFit t (with_default rows a)
fit_with_default t a rows like e fit = go (has_row a.id rows) e
  where
    go : (b : Bool) → cond (b || is_empty a.defaults) [] (given_default_fault a a.defaults) ≡ [] → AllFit t (cond b rows (default_rows a.id (reading_by a) a.defaults rows))
    go true e = fit
    go false e = fit_default_rows t a rows a.defaults like e fit

fit_defaults : (t : Rule) (c : List Rule) (rows : List Row) → AllLike t c → defaults_fault rows c ≡ [] → AllFit t rows → AllFit t (fold with_default rows c)
unfolding defaults_fault
fit_defaults t [] rows all e fit = fit
fit_defaults t (a ∷ c) rows all e fit =
    let both = none_of_two _ _ e in
    fit_defaults t c (with_default rows a) all.1 both.1 (fit_with_default t a rows all.0 both.0 fit)

-- a level without a fault leaves rows that fit
pub fit_level : (t : Rule) (s : Shape) (names : Names) (words : List Text) (has : Bool) (below : Kinds) → AllLike t s.rules → level_fault s names nothing_held words has below ≡ [] → AllFit t (rows_after s.rules names words)
fit_level t s names words has below all e =
    let end = (walk s.rules names nothing_held words).held in
    let first = none_of_two _ _ e in
    let second = none_of_two _ _ first.1 in
    let third = none_of_two _ _ second.1 in
    let fourth = none_of_two _ _ third.1 in
    fit_defaults t s.rules (settled s.rules end).rows all fourth.0
    (fit_settled t s.rules s.args_override_self all end third.0 (fit_walk_from t s names all (walk_from nothing_held) words first.0 tt))

-- ---- the subcommand that was entered

abbrev pub AllSubsLike : Rule → List Shape → Type 0
AllSubsLike t [] = Unit {0}
AllSubsLike t (s ∷ more) = AllLike t s.rules × AllSubsLike t more

sub_like : (t : Rule) (subs : List Shape) (p : Shape → Bool) → AllSubsLike t subs → IfSome (find p subs) (λ s. AllLike t s.rules)
sub_like t [] p all = tt
sub_like t (s ∷ subs) p all = go (p s) (sub_like t subs p all.1)
  where
    go : (b : Bool) → IfSome (find p subs) (λ s. AllLike t s.rules) → IfSome (cond b (Some s) (find p subs)) (λ s. AllLike t s.rules)
    go true later = all.0
    go false later = later

fit_sub : (t : Rule) (o : Option Shape) (words : List Text) → IfSome o (λ s. AllLike t s.rules) → option_map_or (λ s. level_fault s [] nothing_held words false []) o [] ≡ [] → IfSome (option_map (λ s. rows_at s words) o) (λ p. AllFit t p.1)
fit_sub t None words like e = tt
fit_sub t (Some s) words like e = fit_level t s [] words false [] like e

fit_entered : (t : Rule) (a : App) (stop : Option (Text × List Text)) → AllSubsLike t a.subs → entered_fault a stop ≡ [] → IfSome (entered a stop) (λ p. AllFit t p.1)
fit_entered t a None all e = tt
fit_entered t a (Some p) all e = fit_sub t (find (λ s. answers_to p.0 (label_of s)) a.subs) p.1 (sub_like t a.subs _ all) e

-- where the words give no fault, the subcommand's rows fit
pub fit_subcommand : (t : Rule) (a : App) (words : List Text) → AllSubsLike t (built a).subs → fault_of a words ≡ [] → IfSome (subcommand_of a words) (λ p. AllFit t p.1)
fit_subcommand t a words all e =
    let first = none_of_two _ _ e in
    let second = none_of_two _ _ first.1 in
    fit_entered t (built a) _ all second.0

first_passes : (t : Rule) (r : Row) → (values_fault t r.values ≡ []) × (r.reading ≡ reading_by t) → IfSome (row_text r) (λ text. (v : Text) × (text ≡ read_as (reading_by t) v) × (accepts t.ignore_case (parser_of_value t.parser) v ≡ true))
first_passes t r fit = go r.values fit.0
  where
    go : (values : List Text) → values_fault t values ≡ [] → IfSome (option_map (read_as r.reading) (slice_get values 0)) (λ text. (v : Text) × (text ≡ read_as (reading_by t) v) × (accepts t.ignore_case (parser_of_value t.parser) v ≡ true))
    go [] e = tt
    go (v ∷ vs) e = (v, ap (λ how. read_as how v) fit.1, accepted (accepts t.ignore_case (parser_of_value t.parser) v) _ (none_of_two _ _ e).0)

-- the text that a getter reads is that of a value that passed
pub one_passes : (t : Rule) (rows : List Row) → AllFit t rows → IfSome (one_of t.id rows) (λ text. (v : Text) × (text ≡ read_as (reading_by t) v) × (accepts t.ignore_case (parser_of_value t.parser) v ≡ true))
one_passes t [] fit = tt
one_passes t (r ∷ rs) fit = go (bytes_eq r.id t.id) refl (one_passes t rs fit.1)
  where
    go : (b : Bool) → bytes_eq r.id t.id ≡ b → IfSome (one_of t.id rs) (λ text. (v : Text) × (text ≡ read_as (reading_by t) v) × (accepts t.ignore_case (parser_of_value t.parser) v ≡ true))
        → IfSome (option_and_then row_text (cond b (Some r) (find (λ r. bytes_eq r.id t.id) rs))) (λ text. (v : Text) × (text ≡ read_as (reading_by t) v) × (accepts t.ignore_case (parser_of_value t.parser) v ≡ true))
    go true e later = first_passes t r (fit.0 e)
    go false e later = later
