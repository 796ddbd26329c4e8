-- What the choice does for the oldest request, where it is the only candidate.
use Rattle.std.proofs.Common.{◌≡◌, ℕ, Bool, true, false, ◌&&◌, ◌||◌, not, cond, eqb, List, [], ◌∷◌, Some, None, refl, sym, ap, ◌∙◌}
use Rattle.std.specs.List.{filter, find, slice_get}
use Rattle.std.specs.Option.{is_some, option_map_or}
use Rattle.std.proofs.lemmas.Bool.{eq-eqb}
use Rattle.ddr_legality.specs.Bus.{Bus, is_legal_now}
use Rattle.ddr_address_map.specs.declared.place.Place.{Place}
use Rattle.ddr_hazards.specs.declared.waiting.Waiting.{Waiting}
use Rattle.ddr_arbiter.specs.declared.choice.Choice.{Choice}
use Rattle.ddr_arbiter.specs.declared.choice.Choice.TheVariants as choice
use Rattle.ddr_arbiter.specs.Choice.{candidates_of, can_activate, can_column, can_precharge, choice_of, column_choice, column_place, first_choice, is_of_free_rank, is_on_other_row, is_open_row_wanted, is_rank_forced, is_row_open, is_something, open_row_at, passes_at, refresh_choice, row_choice, row_choice_at, wants_open_row}
use Rattle.ddr_arbiter.specs.Commands.{column_of, precharge_at}
use Rattle.ddr_arbiter.specs.Situation.{Situation}
use Rattle.ddr_arbiter.proofs.ChoiceLemmas.{column_chosen, refresh_chosen, row_chosen}
use Rattle.ddr_deadline.specs.Oldest.{IsCappedOldest, IsServedAlone, own_step}

-- lists of one place

kept_one : (test : ℕ → Bool) (w : Bool) → test 0 ≡ w → filter test (0 ∷ []) ≡ cond w (0 ∷ []) []
kept_one test w is = rw is refl

found_one : (test : ℕ → Bool) (room w : Bool) → test 0 ≡ w → cond room (find test (0 ∷ [])) None ≡ cond (room && w) (Some 0) None
found_one test true w is = rw is refl
found_one test false w is = refl

nothing_is : (c : Choice) → is_something c ≡ false → c ≡ choice.Nothing
nothing_is choice.Nothing is = refl
nothing_is (choice.Refresh rank) is = cc
nothing_is (choice.PreAll rank) is = cc
nothing_is (choice.Act place) is = cc
nothing_is (choice.Pre place) is = cc
nothing_is (choice.Column place) is = cc
nothing_is (choice.ColumnAuto place) is = cc

first_one : (f : ℕ → Choice) → first_choice f (0 ∷ []) ≡ f 0
first_one f = by_test (is_something (f 0)) refl
  where
    by_test : (w : Bool) → is_something (f 0) ≡ w → first_choice f (0 ∷ []) ≡ f 0
    by_test true is = rw is refl
    by_test false is = rw is (sym (nothing_is (f 0) is))

-- a test of the place of the request
at_oldest : (test : Waiting → Bool) (waiting : List Waiting) (w : Waiting) → slice_get waiting 0 ≡ Some w → passes_at test waiting 0 ≡ test w
at_oldest test waiting w is = ap (λ o. option_map_or test o false) is

-- the candidates

candidates_are : (s : Situation) (w : Waiting) (forced : Bool) → IsCappedOldest s w → is_rank_forced s.waiting s.refreshes w.request.place.rank ≡ forced → candidates_of s ≡ cond (not forced) (0 ∷ []) []
candidates_are s w forced first is =
    let these : candidates_of s ≡ filter (is_of_free_rank s.waiting s.refreshes) (0 ∷ []) = rw first.capped refl in
    let free : is_of_free_rank s.waiting s.refreshes 0 ≡ not forced = at_oldest (λ v. not (is_rank_forced s.waiting s.refreshes v.request.place.rank)) s.waiting w first.oldest ∙ ap not is in
    these ∙ kept_one (is_of_free_rank s.waiting s.refreshes) (not forced) free

-- where another row is open than that of the only candidate, no candidate wants it

unwanted : (some opened wanted legal : Bool) → wanted ≡ opened → (some && not opened && not wanted && legal) ≡ (some && not opened && legal)
unwanted true true wanted legal is = refl
unwanted true false wanted legal is = rw is refl
unwanted false opened wanted legal is = refl

wanted_one : (rank group bank opened : Bool) → rank ≡ true → group ≡ true → bank ≡ true → ((rank && (group && (bank && opened))) || false) ≡ opened
wanted_one rank group bank true r g b = rw (r, g, b) refl
wanted_one rank group bank false r g b = rw (r, g, b) refl

own_row : (b : Bus) (waiting : List Waiting) (w : Waiting) → slice_get waiting 0 ≡ Some w → is_open_row_wanted b waiting (0 ∷ []) w.request.place ≡ is_row_open b w.request.place
own_row b waiting w is =
    let p = w.request.place in
    let here : passes_at (λ v. wants_open_row b p v.request.place) waiting 0 ≡ wants_open_row b p p = at_oldest (λ v. wants_open_row b p v.request.place) waiting w is in
    ap (λ t. t || false) here ∙ wanted_one (eqb p.rank p.rank) (eqb p.group p.group) (eqb p.bank p.bank) (is_row_open b p) (eq-eqb p.rank p.rank refl) (eq-eqb p.group p.group refl) (eq-eqb p.bank p.bank refl)

can_close : (b : Bus) (waiting : List Waiting) (w : Waiting) → slice_get waiting 0 ≡ Some w → can_precharge b waiting (0 ∷ []) w.request.place ≡ (is_on_other_row b w.request.place && is_legal_now b (precharge_at w.request.place))
can_close b waiting w is =
    let p = w.request.place in
    unwanted (is_some (open_row_at b p)) (is_row_open b p) (is_open_row_wanted b waiting (0 ∷ []) p) (is_legal_now b (precharge_at p)) (own_row b waiting w is)

-- the ACT or the PRE of the only candidate
abbrev row_step : Bus → Place → Choice
row_step b p = cond (can_activate b p) (choice.Act 0) (cond (is_on_other_row b p && is_legal_now b (precharge_at p)) (choice.Pre 0) choice.Nothing)

row_one : (b : Bus) (waiting : List Waiting) (w : Waiting) → slice_get waiting 0 ≡ Some w → row_choice b waiting (0 ∷ []) ≡ row_step b w.request.place
row_one b waiting w is =
    let opens = at_oldest (λ v. can_activate b v.request.place) waiting w is in
    let closes = at_oldest (λ v. can_precharge b waiting (0 ∷ []) v.request.place) waiting w is ∙ can_close b waiting w is in
    first_one (row_choice_at b waiting (0 ∷ []))
    ∙ ap (λ t. cond t (choice.Act 0) (cond (passes_at (λ v. can_precharge b waiting (0 ∷ []) v.request.place) waiting 0) (choice.Pre 0) choice.Nothing)) opens
    ∙ ap (λ t. cond (can_activate b w.request.place) (choice.Act 0) (cond t (choice.Pre 0) choice.Nothing)) closes

pub served_alone : (s : Situation) (w : Waiting) → IsServedAlone s w → choice_of s ≡ own_step s w
served_alone s w alone = by_test (s.room && is_legal_now s.bus (column_of false w.request)) refl
  where
    these : candidates_of s ≡ 0 ∷ []
    these = candidates_are s w false alone.first alone.free

    found : column_place s.bus s.waiting (candidates_of s) s.room ≡ cond (s.room && is_legal_now s.bus (column_of false w.request)) (Some 0) None
    found =
        ap (λ places. column_place s.bus s.waiting places s.room) these
        ∙ found_one (can_column s.bus s.waiting) s.room (is_legal_now s.bus (column_of false w.request)) (at_oldest (λ v. is_legal_now s.bus (column_of false v.request)) s.waiting w alone.first.oldest)

    by_test : (t : Bool) → (s.room && is_legal_now s.bus (column_of false w.request)) ≡ t → choice_of s ≡ cond t (column_choice s.policy.closed s.waiting 0) (row_step s.bus w.request.place)
    by_test true is = sym (column_chosen s 0 alone.unrefreshed (sym (found ∙ ap (λ t. cond t (Some 0) None) is)))
    by_test false is =
        sym (row_chosen s alone.unrefreshed (sym (found ∙ ap (λ t. cond t (Some 0) None) is)))
        ∙ ap (λ places. row_choice s.bus s.waiting places) these ∙ row_one s.bus s.waiting w alone.first.oldest

-- where its rank is forced nothing but a refresh is chosen
pub waits_for_refresh : (s : Situation) (w : Waiting) → IsCappedOldest s w → is_rank_forced s.waiting s.refreshes w.request.place.rank ≡ true → choice_of s ≡ refresh_choice s.bus s.waiting s.refreshes
waits_for_refresh s w first forced = by_test (is_something (refresh_choice s.bus s.waiting s.refreshes)) refl
  where
    these : candidates_of s ≡ []
    these = candidates_are s w true first forced

    nowhere : (room : Bool) → cond room (find (can_column s.bus s.waiting) []) None ≡ None
    nowhere true = refl
    nowhere false = refl

    by_test : (t : Bool) → is_something (refresh_choice s.bus s.waiting s.refreshes) ≡ t → choice_of s ≡ refresh_choice s.bus s.waiting s.refreshes
    by_test true some = sym (refresh_chosen s some)
    by_test false none =
        sym (row_chosen s none (sym (ap (λ places. column_place s.bus s.waiting places s.room) these ∙ nowhere s.room)))
        ∙ ap (λ places. row_choice s.bus s.waiting places) these
        ∙ sym (nothing_is (refresh_choice s.bus s.waiting s.refreshes) none)
