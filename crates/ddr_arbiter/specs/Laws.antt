-- What holds of every choice, whichever it is.
use Rattle.std.specs.Prelude.{◌≡◌, ℕ, ◌<◌, ◌≤◌, true, false, List, [], length, Contains, Option, Some, None, slice_get, IfSome}
use Rattle.std.specs.Option.{option_map, option_map_or}
use Rattle.ddr_trace.specs.declared.command.Command.{Command}
use Rattle.ddr_legality.specs.Bus.{is_legal_now}
use Rattle.ddr_hazards.specs.declared.waiting.Waiting.{Waiting}
use Rattle.ddr_hazards.specs.Hazards.{is_blocked}
use Rattle.ddr_refresh.specs.Refreshes.{debt_of}
use Rattle.ddr_arbiter.specs.declared.choice.Choice.{Choice}
use Rattle.ddr_arbiter.specs.declared.choice.Choice.TheVariants as choice
use Rattle.ddr_arbiter.specs.Commands.{activate_at, precharge_at, column_of, precharge_all, refresh}
use Rattle.ddr_arbiter.specs.Choice.{candidates_of, can_column, is_oldest_capped, is_rank_forced, is_row_shared}
use Rattle.ddr_arbiter.specs.Situation.{Situation}

-- the place of the request that the choice serves
abbrev pub place_of : Choice → Option ℕ
place_of (choice.Act place) = Some place
place_of (choice.Pre place) = Some place
place_of (choice.Column place) = Some place
place_of (choice.ColumnAuto place) = Some place
place_of _ = None

-- the place of the request whose read or write is chosen
abbrev pub column_place_of : Choice → Option ℕ
column_place_of (choice.Column place) = Some place
column_place_of (choice.ColumnAuto place) = Some place
column_place_of _ = None

-- the rank that is refreshed, or whose banks are closed for it
abbrev pub refreshed_rank : Choice → Option ℕ
refreshed_rank (choice.Refresh rank) = Some rank
refreshed_rank (choice.PreAll rank) = Some rank
refreshed_rank _ = None

-- how many REFs a rank owes
abbrev pub owed : Situation → ℕ → ℕ
owed s rank = option_map_or debt_of (slice_get s.refreshes rank) 0

-- the command that is issued
abbrev pub command_of : List Waiting → Choice → Option Command
command_of waiting choice.Nothing = None
command_of waiting (choice.Refresh rank) = Some (refresh rank)
command_of waiting (choice.PreAll rank) = Some (precharge_all rank)
command_of waiting (choice.Act place) = option_map (λ w. activate_at w.request.place) (slice_get waiting place)
command_of waiting (choice.Pre place) = option_map (λ w. precharge_at w.request.place) (slice_get waiting place)
command_of waiting (choice.Column place) = option_map (λ w. column_of false w.request) (slice_get waiting place)
command_of waiting (choice.ColumnAuto place) = option_map (λ w. column_of true w.request) (slice_get waiting place)

pub record IsLawful (s : Situation) (c : Choice) : Type 0 where
  -- the request that is served is pending
  pub in_list : IfSome (place_of c) (λ place. place < length s.waiting)
  -- the command is legal now
  pub legal : IfSome (command_of s.waiting c) (λ command. is_legal_now s.bus command ≡ true)
  -- no older pending request has the line that is read or written
  pub no_older : IfSome (column_place_of c) (λ place. is_blocked s.waiting place ≡ false)
  -- the request that is read or written has room to be in flight
  pub room : IfSome (column_place_of c) (λ place. s.room ≡ true)
  -- with nothing pending and no refresh due nothing is done
  pub idle : s.waiting ≡ [] → ((rank : ℕ) → owed s rank ≡ 0) → c ≡ choice.Nothing
  -- a rank that has to be refreshed serves no request
  pub forced : IfSome (place_of c) (λ place. IfSome (slice_get s.waiting place) (λ w. is_rank_forced s.waiting s.refreshes w.request.place.rank ≡ false))
  -- REF and PREA are for a refresh that is due
  pub due : IfSome (refreshed_rank c) (λ rank. 1 ≤ owed s rank)
  -- where the oldest request has reached the cap, no other is served
  pub capped : is_oldest_capped s.bus.now s.policy.cap s.waiting ≡ true → IfSome (place_of c) (λ place. place ≡ 0)
  -- the request that is read or written is a candidate, and no older candidate could be: first ready, first come
  pub candidate : IfSome (column_place_of c) (Contains (candidates_of s))
  pub first_come : IfSome (column_place_of c) (λ place. (older : ℕ) → older < place → Contains (candidates_of s) older → can_column s.bus s.waiting older ≡ false)
  -- while a candidate's read or write is legal and has room, no row is opened or closed for another
  pub first_ready : s.room ≡ true → column_place_of c ≡ None → refreshed_rank c ≡ None
      → (place : ℕ) → Contains (candidates_of s) place → can_column s.bus s.waiting place ≡ false
  -- an auto-precharge only where rows are closed, and where no other pending request wants the row
  pub closes : (place : ℕ) → c ≡ choice.ColumnAuto place → (s.policy.closed ≡ true) × (is_row_shared s.waiting place ≡ false)
