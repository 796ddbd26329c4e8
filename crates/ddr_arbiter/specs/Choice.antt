-- The scheduler's choice of a cycle, step by step. A place is the position of a request in the order of admission, so
-- the oldest pending request has place 0, and the first place of a list that passes a test is that of the oldest request.
use Rattle.std.specs.Prelude.{ℕ, ◌-◌, Bool, true, false, ◌&&◌, not, ◌==◌, nat_le, if◌then◌else◌, List, [], ◌∷◌, ◌++◌, length, filter, find, slice_get, Option, None}
use Rattle.std.specs.List.{list_any, range_with_len}
use Rattle.std.specs.Option.{is_none, is_some, option_map_or}
use Rattle.ddr_trace.specs.Banks.{any_bank, is_row}
use Rattle.ddr_legality.specs.Bus.{Bus, is_legal_now, open_row_now}
use Rattle.ddr_address_map.specs.declared.place.Place.{Place}
use Rattle.ddr_address_map.specs.declared.request.Kind.{Kind}
use Rattle.ddr_address_map.specs.declared.request.Kind.TheVariants.{Read, Write}
use Rattle.ddr_hazards.specs.declared.waiting.Waiting.{Waiting}
use Rattle.ddr_hazards.specs.Hazards.{is_blocked}
use Rattle.ddr_hazards.specs.PendingList.{is_same_kind}
use Rattle.ddr_refresh.specs.Refreshes.{Refreshes, is_forced}
use Rattle.ddr_arbiter.specs.declared.choice.Choice.{Choice}
use Rattle.ddr_arbiter.specs.declared.choice.Choice.TheVariants as choice
use Rattle.ddr_arbiter.specs.Commands.{activate_at, precharge_at, column_of, precharge_all, refresh}
use Rattle.ddr_arbiter.specs.Situation.{Situation}

-- the request at the place passes the test
abbrev pub passes_at : (Waiting → Bool) → List Waiting → ℕ → Bool
passes_at test waiting place = option_map_or test (slice_get waiting place) false

-- 1. A rank is forced, which means that it has to be refreshed, while it owes more REFs than may be put off, or owes one
-- with nothing pending for it. The forced ranks are tried one after another: first those that owe more than may be put
-- off, then the others, each from rank 0 up. The first whose step is legal takes it: REF where all its banks are idle,
-- PREA where some bank is active.

-- nothing is pending for the rank
abbrev pub is_rank_idle : List Waiting → ℕ → Bool
is_rank_idle waiting rank = not (list_any (λ w. w.request.place.rank == rank) waiting)

-- the rank owes more REFs than may be put off
abbrev pub is_overdue : List Refreshes → ℕ → Bool
is_overdue refreshes rank = option_map_or (is_forced false) (slice_get refreshes rank) false

abbrev pub is_rank_forced : List Waiting → List Refreshes → ℕ → Bool
is_rank_forced waiting refreshes rank = option_map_or (is_forced (is_rank_idle waiting rank)) (slice_get refreshes rank) false

-- the rank is forced, though it owes no more than may be put off
abbrev pub is_idly_forced : List Waiting → List Refreshes → ℕ → Bool
is_idly_forced waiting refreshes rank = is_rank_forced waiting refreshes rank && not (is_overdue refreshes rank)

abbrev pub some_bank_active : Bus → ℕ → Bool
some_bank_active b rank = any_bank b.config.geometry rank (λ bank. is_some (open_row_now b bank))

abbrev pub refresh_choice_at : Bus → ℕ → Choice
refresh_choice_at b rank =
    if not (some_bank_active b rank) && is_legal_now b (refresh rank) then choice.Refresh rank
    else (if some_bank_active b rank && is_legal_now b (precharge_all rank) then choice.PreAll rank
    else choice.Nothing)

abbrev pub is_something : Choice → Bool
is_something choice.Nothing = false
is_something _ = true

-- the first choice, of those at some ranks or places, that is not Nothing
abbrev pub first_choice : (ℕ → Choice) → List ℕ → Choice
first_choice choice_at numbers = option_map_or choice_at (find (λ n. is_something (choice_at n)) numbers) choice.Nothing

abbrev pub ranks_of : List Refreshes → List ℕ
ranks_of refreshes = range_with_len 0 (length refreshes)

abbrev pub refresh_choice : Bus → List Waiting → List Refreshes → Choice
refresh_choice b waiting refreshes =
    first_choice (refresh_choice_at b) (filter (is_overdue refreshes) (ranks_of refreshes) ++ filter (is_idly_forced waiting refreshes) (ranks_of refreshes))

-- 2. The candidates: the pending requests with no older one to the same line, of ranks that are not forced. Where the
-- age of the oldest of all pending requests has reached the cap, it alone can be one, and none is where its rank is forced.

-- the rank of the request at the place is not forced
abbrev pub is_of_free_rank : List Waiting → List Refreshes → ℕ → Bool
is_of_free_rank waiting refreshes place = passes_at (λ w. not (is_rank_forced waiting refreshes w.request.place.rank)) waiting place

abbrev pub is_free : List Waiting → List Refreshes → ℕ → Bool
is_free waiting refreshes place = not (is_blocked waiting place) && is_of_free_rank waiting refreshes place

abbrev pub free_places : List Waiting → List Refreshes → List ℕ
free_places waiting refreshes = filter (is_free waiting refreshes) (range_with_len 0 (length waiting))

abbrev pub has_age : ℕ → ℕ → Waiting → Bool
has_age now cap w = nat_le cap (now - w.admitted)

abbrev pub is_oldest_capped : ℕ → ℕ → List Waiting → Bool
is_oldest_capped now cap waiting = passes_at (has_age now cap) waiting 0

-- 3. While draining only the writes among them stay, otherwise only the reads; all, where none would stay.

abbrev pub served_kind : Bool → Kind
served_kind true = Write
served_kind false = Read

abbrev pub of_kind : Kind → List Waiting → List ℕ → List ℕ
of_kind kind waiting places = filter (passes_at (λ w. is_same_kind kind w.request.echo.kind) waiting) places

abbrev pub or_all : List ℕ → List ℕ → List ℕ
or_all [] all = all
or_all (place ∷ places) all = place ∷ places

abbrev pub candidates : ℕ → ℕ → Bool → List Waiting → List Refreshes → List ℕ
candidates now cap drain waiting refreshes =
    if is_oldest_capped now cap waiting then filter (is_of_free_rank waiting refreshes) (0 ∷ [])
    else or_all (of_kind (served_kind drain) waiting (free_places waiting refreshes)) (free_places waiting refreshes)

abbrev pub candidates_of : Situation → List ℕ
candidates_of s = candidates s.bus.now s.policy.cap s.drain s.waiting s.refreshes

-- 4. The oldest candidate whose column command is legal. Where rows are closed, the command has an auto-precharge
-- exactly where no other pending request, of either kind, wants that bank and row. (An RDA is legal exactly where the
-- RD is, and a WRA where the WR is: every rule counts the one as the other.)

abbrev pub can_column : Bus → List Waiting → ℕ → Bool
can_column b waiting place = passes_at (λ w. is_legal_now b (column_of false w.request)) waiting place

abbrev pub is_same_row : Place → Place → Bool
is_same_row p q = p.rank == q.rank && (p.group == q.group && (p.bank == q.bank && p.row == q.row))

-- the requests at two places want one bank and row
abbrev pub share_row : List Waiting → ℕ → ℕ → Bool
share_row waiting place other = passes_at (λ w. passes_at (λ o. is_same_row o.request.place w.request.place) waiting other) waiting place

-- another pending request wants the bank and the row of the one at this place
abbrev pub is_row_shared : List Waiting → ℕ → Bool
is_row_shared waiting place = list_any (λ other. not (other == place) && share_row waiting place other) (range_with_len 0 (length waiting))

abbrev pub column_choice : Bool → List Waiting → ℕ → Choice
column_choice closed waiting place = if closed && not (is_row_shared waiting place) then choice.ColumnAuto place else choice.Column place

-- 5. The oldest candidate whose bank is idle and whose ACT is legal, or whose bank is active with another row that no
-- candidate wants and whose PRE is legal.

-- the open row of the place's bank
abbrev pub open_row_at : Bus → Place → Option ℕ
open_row_at b p = open_row_now b (precharge_at p)

-- the open row is the place's
abbrev pub is_row_open : Bus → Place → Bool
is_row_open b p = is_row (open_row_at b p) p.row

-- a place in the bank of this one and in the row that is open there
abbrev pub wants_open_row : Bus → Place → Place → Bool
wants_open_row b bank p = p.rank == bank.rank && (p.group == bank.group && (p.bank == bank.bank && is_row_open b p))

abbrev pub is_open_row_wanted : Bus → List Waiting → List ℕ → Place → Bool
is_open_row_wanted b waiting places bank = list_any (passes_at (λ w. wants_open_row b bank w.request.place) waiting) places

abbrev pub can_activate : Bus → Place → Bool
can_activate b p = is_none (open_row_at b p) && is_legal_now b (activate_at p)

-- the bank is active with another row than the place's
abbrev pub is_on_other_row : Bus → Place → Bool
is_on_other_row b p = is_some (open_row_at b p) && not (is_row_open b p)

abbrev pub can_precharge : Bus → List Waiting → List ℕ → Place → Bool
can_precharge b waiting places p =
    is_on_other_row b p && not (is_open_row_wanted b waiting places p) && is_legal_now b (precharge_at p)

abbrev pub row_choice_at : Bus → List Waiting → List ℕ → ℕ → Choice
row_choice_at b waiting places place =
    if passes_at (λ w. can_activate b w.request.place) waiting place then choice.Act place
    else (if passes_at (λ w. can_precharge b waiting places w.request.place) waiting place then choice.Pre place
    else choice.Nothing)

abbrev pub row_choice : Bus → List Waiting → List ℕ → Choice
row_choice b waiting places = first_choice (row_choice_at b waiting places) places

-- 4 where there is room, else 5; 6. else nothing

abbrev pub column_place : Bus → List Waiting → List ℕ → Bool → Option ℕ
column_place b waiting places room = if room then find (can_column b waiting) places else None

abbrev pub access_choice : Situation → List ℕ → Choice
access_choice s places =
    option_map_or (column_choice s.policy.closed s.waiting) (column_place s.bus s.waiting places s.room) (row_choice s.bus s.waiting places)

abbrev pub choice_of : Situation → Choice
choice_of s =
    if is_something (refresh_choice s.bus s.waiting s.refreshes) then refresh_choice s.bus s.waiting s.refreshes
    else access_choice s (candidates_of s)
