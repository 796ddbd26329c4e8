-- What a cycle makes of a channel's fields.
use Rattle.std.proofs.Common.{◌≡◌, ℕ, zero, suc, ◌+◌, ◌-◌, ◌<◌, ◌≤◌, Bool, true, false, ◌&&◌, ◌||◌, cond, eqb, map, replicate, List, [], ◌∷◌, ◌++◌, Option, Some, None, All, length, refl, sym, ap, ap₂, subst, ◌∙◌, arith}
use Rattle.std.proofs.Math.Path.{fun_ext}
use Rattle.std.specs.List.{slice_get}
use Rattle.std.specs.Option.{is_none, option_map, option_map_or, IfSome}
use Rattle.std.proofs.lemmas.Bool.{ltb-true, false≢true}
use Rattle.std.proofs.lemmas.List.Sums.{sum_by_push}
use Rattle.circular_buffer.specs.Buffer.{Buffer}
use Rattle.ddr_timing.specs.declared.config.Config.{Config}
use Rattle.ddr_timing.specs.declared.geometry.Digit.TheVariants.{Bank, Column, Group, Rank}
use Rattle.ddr_timing.specs.declared.geometry.Geometry.{Geometry}
use Rattle.ddr_timing.specs.declared.units.TheConstants.{CLOCK_STOP, LINE_BYTES}
use Rattle.ddr_timing.specs.Banks.{bank_number}
use Rattle.ddr_trace.specs.declared.command.Command.{Command}
use Rattle.ddr_trace.specs.declared.command.Command.TheVariants.{Pre}
use Rattle.ddr_trace.specs.declared.command.Entry.{Entry}
use Rattle.ddr_trace.specs.declared.rule.Rule.TheVariants as rule
use Rattle.ddr_trace.specs.Commands.{entry, is_refresh, is_same_rank, rank_of}
use Rattle.ddr_trace.specs.Banks.{bank_behind, ready_row}
use Rattle.ddr_trace.specs.Rules.{breaks, is_bank_in, refresh_count}
use Rattle.ddr_legality.specs.Bus.{Bus, broken_now, is_legal_now}
use Rattle.ddr_legality.specs.Bus as bus
use Rattle.ddr_legality.specs.Kept as legality
use Rattle.ddr_address_map.specs.declared.place.Place.{Place}
use Rattle.ddr_address_map.specs.declared.request.Kind.{Kind}
use Rattle.ddr_address_map.specs.declared.request.Kind.TheVariants.{Read, Write}
use Rattle.ddr_address_map.specs.Requests.{Completion}
use Rattle.ddr_address_map.proofs.MapLemmas.{IsInRange-test}
use Rattle.ddr_hazards.specs.declared.waiting.Waiting.{Waiting}
use Rattle.ddr_hazards.specs.PendingList.{PendingList}
use Rattle.ddr_refresh.specs.Refreshes.{Refreshes, after_tick, debt_of}
use Rattle.ddr_row_array.specs.Rows.{Rows, open_row, cells}
use Rattle.ddr_row_array.specs.Changes.{SameShape}
use Rattle.ddr_arbiter.specs.declared.choice.Choice.{Choice}
use Rattle.ddr_arbiter.specs.declared.choice.Choice.TheVariants as choice
use Rattle.ddr_arbiter.specs.Commands.{activate_at, precharge_at, column_at, column_of, refresh}
use Rattle.ddr_arbiter.specs.Laws.{IsLawful, column_place_of, command_of}
use Rattle.ddr_arbiter.proofs.CommandLemmas.{column_bank, column_open, legal_keeps, legal_none}
use Rattle.ddr_arbiter.proofs.LawLemmas.{lawful_where}
use Rattle.ddr_channel.specs.declared.channel.Channel.TheInside.{Inside}
use Rattle.ddr_channel.specs.Choice.{bus_of, has_room, rank_refreshes, refreshes_of, situation_of, choice_of}
use Rattle.ddr_channel.specs.Cycle.{at_choice, with_command, recorded, served_by, issued, ticked, after_cycle}
use Rattle.ddr_channel.specs.Issue.{bus_with, refreshes_with}
use Rattle.ddr_channel.specs.Kept.{state_of, line_cells, AgreesWith}
use Rattle.ddr_channel.specs.Memory.{LineAddress}
use Rattle.ddr_channel.specs.Quiet.{IsStillUntil}
use Rattle.ddr_channel.specs.Served.{IsOpenAt, MayServe, Holds}
use Rattle.ddr_channel.specs.Sound.{IsServed, IsSound}
use Rattle.ddr_channel.specs.State.{State}
use Rattle.ddr_channel.specs.View.{kept_of, IsWhole}
use Rattle.ddr_channel.proofs.BankLemmas.{ready_for}
use Rattle.ddr_channel.proofs.HistoryLemmas.{served_alike}
use Rattle.ddr_channel.proofs.IssueLemmas.{agrees_ready}
use Rattle.ddr_channel.proofs.ListLemmas.{All-at}
use Rattle.ddr_channel.proofs.SoundLemmas.{IsSound-after_cycle}

-- the choice

-- the command bus is the state's
pub bus_is : (a : Inside) → IsWhole a → a.legality.bus ≡ bus_of (state_of (kept_of a))
bus_is a whole = ap (λ (c : Config). bus_at a.legality.bus c) whole.of_config
  where
    bus_at : Bus → Config → Bus
    bus_at b c = record { config = c; start = b.start; now = b.now; trace = b.trace }

-- the state in which a cycle's choice is made
abbrev pub choosing : Inside → State
choosing a = at_choice (state_of (kept_of a))

if_legal : (b b' : Bus) → b' ≡ b → (o : Option Command) → IfSome o (λ c. is_legal_now b c ≡ true) → IfSome o (λ c. broken_now b' c ≡ None)
if_legal b b' same None legal = tt
if_legal b b' same (Some c) legal = ap (λ (x : Bus). broken_now x c) same ∙ legal_none b c legal

-- the command that is chosen breaks no rule
pub chosen_legal : (a : Inside) (ch : Choice) (o : Option Command) → IsWhole a → ch ≡ choice_of (choosing a) → o ≡ command_of a.pending.waiting ch → IfSome o (λ c. broken_now a.legality.bus c ≡ None)
chosen_legal a ch o whole is command =
    subst (λ (x : Option Command). IfSome x (λ c. broken_now a.legality.bus c ≡ None)) (sym command)
    (if_legal (bus_of (choosing a)) a.legality.bus (bus_is a whole) (command_of a.pending.waiting ch) (lawful_where (situation_of (choosing a)) ch is).legal)

no_refresh_of : (P : Command → Type 0) (f : Waiting → Command) (o : Option Waiting) → ((w : Waiting) → is_refresh (f w) ≡ false) → IfSome (option_map f o) (λ c. is_refresh c ≡ true → P c)
no_refresh_of P f None none = tt
no_refresh_of P f (Some w) none = λ is. absurd (false≢true (sym (none w) ∙ is))

column_no_refresh : (auto : Bool) (kind : Kind) (p : Place) → is_refresh (column_at auto kind p) ≡ false
column_no_refresh false Read p = refl
column_no_refresh false Write p = refl
column_no_refresh true Read p = refl
column_no_refresh true Write p = refl

-- the debt of the command's rank is at least 1, if the command is a REF
abbrev IsDue : List Refreshes → Command → Type 0
IsDue debts c = is_refresh c ≡ true → 1 ≤ option_map_or debt_of (slice_get debts (rank_of c)) 0

-- a debt of a rank that the channel has is among those of all ranks that there may be
due_among : (s : State) (ranks rank : ℕ) → ranks ≤ 2 → 1 ≤ option_map_or debt_of (slice_get (map after_tick (refreshes_of s ranks)) rank) 0 →
    1 ≤ option_map_or debt_of (slice_get (map after_tick (refreshes_of s 2)) rank) 0
due_among s zero rank few due = absurd (omega arith)
due_among s (suc zero) zero few due = due
due_among s (suc zero) (suc rank) few due = absurd (omega arith)
due_among s (suc (suc zero)) rank few due = due
due_among s (suc (suc (suc ranks))) rank few due = absurd (omega arith)

due_by_law : (s : State) (ch : Choice) → IsLawful (situation_of s) ch → IfSome (command_of s.pending ch) (IsDue (map after_tick (refreshes_of s 2)))
due_by_law s choice.Nothing law = tt
due_by_law s (choice.Refresh rank) law = λ is. due_among s s.config.geometry.ranks rank s.config.geometry.ranks_range.1 law.due
due_by_law s (choice.PreAll rank) law = λ is. absurd (false≢true is)
due_by_law s (choice.Act place) law = no_refresh_of _ (λ w. activate_at w.request.place) (slice_get s.pending place) (λ w. refl)
due_by_law s (choice.Pre place) law = no_refresh_of _ (λ w. precharge_at w.request.place) (slice_get s.pending place) (λ w. refl)
due_by_law s (choice.Column place) law = no_refresh_of _ (λ w. column_of false w.request) (slice_get s.pending place) (λ w. column_no_refresh false w.request.echo.kind w.request.place)
due_by_law s (choice.ColumnAuto place) law = no_refresh_of _ (λ w. column_of true w.request) (slice_get s.pending place) (λ w. column_no_refresh true w.request.echo.kind w.request.place)

-- a REF that is chosen is due
pub chosen_due : (a : Inside) (ch : Choice) (o : Option Command) (debts : List Refreshes) → IsWhole a → ch ≡ choice_of (choosing a) → o ≡ command_of a.pending.waiting ch → debts ≡ map after_tick a.debts →
    IfSome o (IsDue debts)
chosen_due a ch o debts whole is command ticks =
    subst (λ (x : Option Command). IfSome x (IsDue debts)) (sym command)
    (subst (λ (rs : List Refreshes). IfSome (command_of a.pending.waiting ch) (IsDue rs)) (sym (ticks ∙ ap (map after_tick) whole.debts))
    (due_by_law (choosing a) ch (lawful_where (situation_of (choosing a)) ch is)))

room_by_law : (o : Option ℕ) (room : Bool) (flight done most : ℕ) → IfSome o (λ place. room ≡ true) → (room ≡ true → flight + done < most) → IfSome o (λ place. flight < most)
room_by_law None room flight done most law small = tt
room_by_law (Some place) room flight done most law small = omega (arith, small law)

-- a request that is read or written has room to be in flight
pub chosen_room : (a : Inside) (ch : Choice) (flight : Buffer Completion) → IsWhole a → ch ≡ choice_of (choosing a) → flight.items ≡ (choosing a).flight → flight.capacity ≡ a.flight.capacity →
    IfSome (column_place_of ch) (λ place. length flight.items < flight.capacity)
chosen_room a ch flight whole is items capacity =
    room_by_law (column_place_of ch) (has_room (choosing a)) (length flight.items) (length (choosing a).done) flight.capacity (lawful_where (situation_of (choosing a)) ch is).room
    (λ room. let few = ltb-true (length (choosing a).flight + length (choosing a).done) a.config.limits.done room in omega (arith, few, ap length items, capacity, whole.flight_room))

-- a column command

alone : (x : Bool) → (x || false) ≡ false → x ≡ false
alone true none = none
alone false none = refl

-- STATE of a column command, whichever kind it is
column_state : (b : Bus) (auto : Bool) (kind : Kind) (p : Place) → breaks b.config b.start (b.now + 1) rule.State b.trace (entry b.now (column_at auto kind p)) ≡ false →
    is_none (ready_row (bank_behind (column_at auto kind p) b.trace)) ≡ false
column_state b false Read p kept = alone _ kept
column_state b false Write p kept = alone _ kept
column_state b true Read p kept = alone _ kept
column_state b true Write p kept = alone _ kept

-- a legal column command finds its bank ready for its row
column_ready : (b : Bus) (auto : Bool) (kind : Kind) (p : Place) → is_legal_now b (column_at auto kind p) ≡ true → ready_row (bank_behind (Pre p.rank p.group p.bank) b.trace) ≡ Some p.row
column_ready b auto kind p legal =
    let ready = column_state b auto kind p (legal_keeps b (column_at auto kind p) legal rule.State refl) in
    ready_for b.config.timing b.now p.row (bank_behind (Pre p.rank p.group p.bank) b.trace) (sym (ap (λ bank. is_none (ready_row bank)) (column_bank auto kind p b.trace)) ∙ ready) (column_open b auto kind p legal)

-- the row of a request that is read or written is open, and its line is in it
open_at : (config : Config) (b : Bus) (rows : Rows) (auto : Bool) (w : Waiting) → AgreesWith config b.trace rows → IsServed config w.request.place → is_legal_now b (column_of auto w.request) ≡ true →
    IsOpenAt config.geometry rows w.request.place
open_at config b rows auto w agrees served legal =
    let p = w.request.place in
    let inside = IsInRange-test config.geometry p served in record {
      bank = (inside.digits Rank, inside.digits Group, inside.digits Bank);
      opened = agrees.opened p.rank p.group p.bank (inside.digits Rank) (inside.digits Group) (inside.digits Bank) ∙ column_ready b auto w.request.echo.kind p legal;
      line = omega (arith, inside.digits Column, agrees.lines);
    }

if_served : (config : Config) (b : Bus) (rows : Rows) (pending : List Waiting) (auto : Bool) (place : ℕ) (o : Option Waiting) → slice_get pending place ≡ o → AgreesWith config b.trace rows →
    All (λ w. IsServed config w.request.place) pending → IfSome (option_map (λ w. column_of auto w.request) o) (λ c. is_legal_now b c ≡ true) → IfSome o (λ w. IsOpenAt config.geometry rows w.request.place)
if_served config b rows pending auto place None here agrees served legal = tt
if_served config b rows pending auto place (Some w) here agrees served legal =
    open_at config b rows auto w agrees (All-at (λ (v : Waiting). IsServed config v.request.place) pending place w served here) legal

may_by_law : (config : Config) (s : State) (rows : Rows) (ch : Choice) → IsLawful (situation_of s) ch → AgreesWith config s.trace rows → All (λ w. IsServed config w.request.place) s.pending →
    MayServe config.geometry ch s.pending rows
may_by_law config s rows (choice.Column place) law agrees served = if_served config (bus_of s) rows s.pending false place (slice_get s.pending place) refl agrees served law.legal
may_by_law config s rows (choice.ColumnAuto place) law agrees served = if_served config (bus_of s) rows s.pending true place (slice_get s.pending place) refl agrees served law.legal
may_by_law config s rows choice.Nothing law agrees served = tt
may_by_law config s rows (choice.Refresh rank) law agrees served = tt
may_by_law config s rows (choice.PreAll rank) law agrees served = tt
may_by_law config s rows (choice.Act place) law agrees served = tt
may_by_law config s rows (choice.Pre place) law agrees served = tt

pub chosen_served : (a : Inside) (ch : Choice) (rows : Rows) → IsWhole a → ch ≡ choice_of (choosing a) → AgreesWith a.config a.legality.bus.trace rows → MayServe a.config.geometry ch a.pending.waiting rows
chosen_served a ch rows whole is agrees = may_by_law a.config (choosing a) rows ch (lawful_where (situation_of (choosing a)) ch is) agrees whole.sound.served

-- of no cycle it is known that nothing is chosen
pub awake : (end : ℕ) (s : State) → end ≤ s.now → IsStillUntil end s
awake end s past count before = absurd (omega (arith, past, before))

-- the state after a cycle

same_state : {s t : State} → s.config ≡ t.config → s.start ≡ t.start → s.now ≡ t.now → s.pending ≡ t.pending → s.drain ≡ t.drain → s.flight ≡ t.flight → s.done ≡ t.done → s.trace ≡ t.trace → s.cells ≡ t.cells → s ≡ t
same_state config start now pending drain flight done trace cells =
    λ i. record { config = config i; start = start i; now = now i; pending = pending i; drain = drain i; flight = flight i; done = done i; trace = trace i; cells = cells i }

-- the fields that a cycle leaves
abbrev pub after : Inside → PendingList → Bool → List Refreshes → Buffer Completion → Buffer Completion → legality.Kept → Rows → Inside
after a pending drain debts flight done legality rows = record { config = a.config; pending = pending; drain = drain; debts = debts; flight = flight; done = done; legality = legality; rows = rows; still_until = 0; owes_refresh = a.owes_refresh }

-- the same bytes in the rows are the same in their lines
pub same_cells : (shape : Geometry) (old new : Rows) → ((b r l : ℕ) → cells new b r l ≡ cells old b r l) → (address : LineAddress) → line_cells shape new address ≡ line_cells shape old address
same_cells shape old new same address =
    ap (λ (bytes : List ℕ). cond (is_bank_in shape address.rank address.group address.bank) bytes (replicate LINE_BYTES 0)) (same (bank_number shape address.rank address.group address.bank) address.row address.line)

-- what is known of them
pub record Made (a : Inside) (ch : Choice) (o : Option Command) (pending : PendingList) (drain : Bool) (flight done : Buffer Completion) (b : Bus) (rows : Rows) : Type 0 where
  pub chosen : ch ≡ choice_of (choosing a)
  pub command : o ≡ command_of a.pending.waiting ch
  pub on_bus : b ≡ bus.ticked (bus_with o a.legality.bus)
  pub mode : drain ≡ (choosing a).drain
  pub done_is : done.items ≡ (choosing a).done
  pub holds : Holds (served_by ch (recorded o (choosing a))) pending.waiting flight.items rows

pub state_after : (a : Inside) (ch : Choice) (o : Option Command) (pending : PendingList) (drain : Bool) (debts : List Refreshes) (flight done : Buffer Completion) (legality : legality.Kept) (rows : Rows) →
    Made a ch o pending drain flight done legality.bus rows → state_of (kept_of (after a pending drain debts flight done legality rows)) ≡ after_cycle (state_of (kept_of a))
state_after a ch o pending drain debts flight done legality rows made =
    let t = choosing a in
    let r = recorded o t in
    let config = served_alike (λ s. s.config) (λ s place q. refl) ch r in
    let to_served : state_of (kept_of (after a pending drain debts flight done legality rows)) ≡ ticked (served_by ch r) =
    same_state (sym config)
    (ap (λ (x : Bus). x.start) made.on_bus ∙ sym (served_alike (λ s. s.start) (λ s place q. refl) ch r))
    (ap (λ (x : Bus). x.now) made.on_bus ∙ ap (λ n. n + 1) (sym (served_alike (λ s. s.now) (λ s place q. refl) ch r)))
    (sym made.holds.pending_are)
    (made.mode ∙ sym (served_alike (λ s. s.drain) (λ s place q. refl) ch r))
    (sym made.holds.flight_is)
    (made.done_is ∙ sym (served_alike (λ s. s.done) (λ s place q. refl) ch r))
    (ap (λ (x : Bus). x.trace) made.on_bus ∙ sym (served_alike (λ s. s.trace) (λ s place q. refl) ch r))
    (fun_ext (λ address. ap (λ (c : Config). line_cells c.geometry rows address) (sym config) ∙ made.holds.bytes address)) in
    to_served
    ∙ ap (λ (x : Option Command). ticked (served_by ch (recorded x t))) made.command
    ∙ ap (λ (c : Choice). ticked (issued c t)) made.chosen

-- the debts after a cycle

one_more : (counts : Bool) (r : Refreshes) (n : ℕ) → n ≡ r.issued + cond counts 1 0 → cond counts (record r { issued = r.issued + 1 }) r ≡ record r { issued = n }
one_more true r n is = ap (λ m. record r { issued = m }) (sym is)
one_more false r n is = let same : r.issued ≡ n = omega (arith, is) in ap (λ m. record r { issued = m }) same

debt_counts : (s : State) (rank : ℕ) (o : Option Command) → refreshes_with rank o (rank_refreshes s rank) ≡ record (rank_refreshes s rank) { issued = refresh_count (with_command s.now o s.trace) (refresh rank) }
debt_counts s rank None = refl
debt_counts s rank (Some c) =
    one_more (is_refresh c && eqb (rank_of c) rank) (rank_refreshes s rank) (refresh_count (s.trace ++ entry s.now c ∷ []) (refresh rank))
    (sum_by_push (λ (e : Entry). cond (is_refresh e.command && is_same_rank e.command (refresh rank)) 1 0) s.trace (entry s.now c))

ticks_alike : (rank : ℕ) (o : Option Command) (r : Refreshes) → refreshes_with rank o (after_tick r) ≡ after_tick (refreshes_with rank o r)
ticks_alike rank None r = refl
ticks_alike rank (Some c) r = by_test (is_refresh c && eqb (rank_of c) rank)
  where
    by_test : (t : Bool) → cond t (record (after_tick r) { issued = r.issued + 1 }) (after_tick r) ≡ after_tick (cond t (record r { issued = r.issued + 1 }) r)
    by_test true = refl
    by_test false = refl

refreshes_at : Config → ℕ → ℕ → Refreshes
refreshes_at config ticks issued = record { refi = config.timing.refi; postpone = config.timing.postpone; ticks = ticks; issued = issued }

debt_after : (a : Inside) (rank : ℕ) (o : Option Command) (b : Bus) → IsWhole a → b ≡ bus.ticked (bus_with o a.legality.bus) →
    refreshes_with rank o (after_tick (rank_refreshes (state_of (kept_of a)) rank))
    ≡ record { refi = a.config.timing.refi; postpone = a.config.timing.postpone; ticks = b.now - b.start; issued = refresh_count b.trace (refresh rank) }
unfolding refreshes_at
debt_after a rank o b whole on_bus =
    let s = state_of (kept_of a) in
    let counted = ticks_alike rank o (rank_refreshes s rank) ∙ ap after_tick (debt_counts s rank o) in
    let later : (s.now - s.start) + 1 ≡ (s.now + 1) - s.start = omega (arith, whole.sound.begun) in
    counted
    ∙ ap (λ n. refreshes_at a.config n (refresh_count (with_command s.now o s.trace) (refresh rank))) later
    ∙ sym (ap (λ (x : Bus). refreshes_at a.config (x.now - x.start) (refresh_count x.trace (refresh rank))) on_bus)

-- two elements tell a list of two
two_of : {X : Type 0} (xs : List X) (x y : X) → slice_get xs 0 ≡ Some x → slice_get xs 1 ≡ Some y → slice_get xs 2 ≡ None → xs ≡ x ∷ y ∷ []
two_of [] x y first second none = cc
two_of (a ∷ []) x y first second none = cc
two_of (a ∷ b ∷ []) x y first second none = let here : a ≡ x = cc in let there : b ≡ y = cc in ap₂ (λ u v. u ∷ v ∷ []) here there
two_of (a ∷ b ∷ c ∷ more) x y first second none = cc

-- the debts with the cycle's command, as they were counted
abbrev pub AreCounted : List Refreshes → Option Command → List Refreshes → Type 0
AreCounted old o new = (rank : ℕ) → slice_get new rank ≡ option_map (refreshes_with rank o) (slice_get old rank)

debts_after : (a : Inside) (o : Option Command) (debts : List Refreshes) (b : Bus) → IsWhole a → b ≡ bus.ticked (bus_with o a.legality.bus) → AreCounted (map after_tick a.debts) o debts →
    debts ≡ record { refi = a.config.timing.refi; postpone = a.config.timing.postpone; ticks = b.now - b.start; issued = refresh_count b.trace (refresh 0) }
    ∷ record { refi = a.config.timing.refi; postpone = a.config.timing.postpone; ticks = b.now - b.start; issued = refresh_count b.trace (refresh 1) } ∷ []
debts_after a o debts b whole on_bus counted =
    let old = ap (map after_tick) whole.debts in
    two_of debts _ _
    (counted 0 ∙ ap (λ (rs : List Refreshes). option_map (refreshes_with 0 o) (slice_get rs 0)) old ∙ ap Some (debt_after a 0 o b whole on_bus))
    (counted 1 ∙ ap (λ (rs : List Refreshes). option_map (refreshes_with 1 o) (slice_get rs 1)) old ∙ ap Some (debt_after a 1 o b whole on_bus))
    (counted 2 ∙ ap (λ (rs : List Refreshes). option_map (refreshes_with 2 o) (slice_get rs 2)) old)

-- a cycle keeps the fields whole
pub whole_after : (a : Inside) (ch : Choice) (o : Option Command) (pending : PendingList) (drain : Bool) (debts : List Refreshes) (flight done : Buffer Completion) (legality : legality.Kept) (rows : Rows) → IsWhole a →
    Made a ch o pending drain flight done legality.bus rows → a.legality.bus.now < CLOCK_STOP → AreCounted (map after_tick a.debts) o debts →
    pending.read_limit ≡ a.pending.read_limit → pending.write_limit ≡ a.pending.write_limit → flight.capacity ≡ a.flight.capacity → done.capacity ≡ a.done.capacity →
    AgreesWith a.config legality.bus.trace rows → IsWhole (after a pending drain debts flight done legality rows)
whole_after a ch o pending drain debts flight done legality rows whole made clock counted reads writes flight_room done_room agrees = record {
  sound = subst IsSound (sym (state_after a ch o pending drain debts flight done legality rows made)) (IsSound-after_cycle (state_of (kept_of a)) whole.sound);
  of_config = ap (λ (x : Bus). x.config) made.on_bus ∙ whole.of_config;
  clock = omega (arith, clock, ap (λ (x : Bus). x.now) made.on_bus);
  reads = reads ∙ whole.reads;
  writes = writes ∙ whole.writes;
  debts = debts_after a o debts legality.bus whole made.on_bus counted;
  flight_room = flight_room ∙ whole.flight_room;
  done_room = done_room ∙ whole.done_room;
  agrees = agrees;
  still = awake 0 (state_of (kept_of (after a pending drain debts flight done legality rows))) (omega arith);
}

-- at a refusal all stays as it was
pub state_refused : (a : Inside) (legality : legality.Kept) (rows : Rows) → legality.bus ≡ a.legality.bus → ((b r l : ℕ) → cells rows b r l ≡ cells a.rows b r l) →
    state_of (kept_of (record a { legality = legality; rows = rows })) ≡ state_of (kept_of a)
state_refused a legality rows same bytes =
    same_state refl (ap (λ (x : Bus). x.start) same) (ap (λ (x : Bus). x.now) same) refl refl refl refl (ap (λ (x : Bus). x.trace) same) (fun_ext (same_cells a.config.geometry a.rows rows bytes))

pub whole_refused : (a : Inside) (legality : legality.Kept) (rows : Rows) → IsWhole a → legality.bus ≡ a.legality.bus → ((b r l : ℕ) → cells rows b r l ≡ cells a.rows b r l) → SameShape a.rows rows → ((b : ℕ) → open_row rows b ≡ open_row a.rows b) →
    IsWhole (record a { legality = legality; rows = rows })
whole_refused a legality rows whole same bytes shape opened = record {
  sound = subst IsSound (sym (state_refused a legality rows same bytes)) whole.sound;
  of_config = ap (λ (x : Bus). x.config) same ∙ whole.of_config;
  clock = omega (arith, whole.clock, ap (λ (x : Bus). x.now) same);
  reads = whole.reads;
  writes = whole.writes;
  debts = whole.debts ∙ sym (ap (λ (s : State). refreshes_of s 2) (state_refused a legality rows same bytes));
  flight_room = whole.flight_room;
  done_room = whole.done_room;
  agrees = subst (λ (x : Bus). AgreesWith a.config x.trace rows) (sym same) (agrees_ready a.config a.legality.bus.trace a.rows rows whole.agrees shape opened);
  still = subst (IsStillUntil a.still_until) (sym (state_refused a legality rows same bytes)) whole.still;
}
