-- What opening, admission and the look at a cycle's situation make of a channel's fields.
use Rattle.std.proofs.Common.{◌≡◌, IsTrue, ℕ, zero, suc, ◌+◌, ◌-◌, ◌<◌, ◌≤◌, Bool, true, false, cond, eqb, ltb, leb, map, List, [], ◌∷◌, ◌++◌, None, length, take, replicate, get_or, All, refl, sym, ap, subst, ◌∙◌, arith}
use Rattle.std.proofs.Math.Path.{fun_ext}
use Rattle.std.specs.List.{filter}
use Rattle.std.proofs.lemmas.List.{length-append}
use Rattle.circular_buffer.specs.Buffer.{Buffer, buffer}
use Rattle.ddr_timing.specs.declared.config.Config.{Config}
use Rattle.ddr_timing.specs.declared.units.TheConstants.{CLOCK_STOP, LINE_BYTES}
use Rattle.ddr_timing.specs.Banks.{bank_number}
use Rattle.ddr_trace.specs.Banks.{bank_behind, ready_row}
use Rattle.ddr_trace.specs.Rules.{is_bank_in}
use Rattle.ddr_trace.specs.declared.command.Command.TheVariants.{Pre}
use Rattle.ddr_legality.specs.Bus.{Bus}
use Rattle.ddr_legality.specs.Bus as bus
use Rattle.ddr_legality.specs.Kept as legality
use Rattle.ddr_address_map.specs.declared.request.Kind.{Kind}
use Rattle.ddr_address_map.specs.declared.request.Kind.TheVariants.{Read, Write}
use Rattle.ddr_address_map.specs.Requests.{Request, Completion}
use Rattle.ddr_hazards.specs.PendingList.{PendingList, pending_count}
use Rattle.ddr_hazards.specs.PendingList as pending
use Rattle.ddr_refresh.specs.Refreshes.{Refreshes, after_tick}
use Rattle.ddr_refresh.specs.Refreshes as refreshes
use Rattle.ddr_row_array.specs.Rows.{Rows, cells}
use Rattle.ddr_row_array.specs.Changes.{IsFresh}
use Rattle.ddr_arbiter.specs.declared.policy.Policy.{Policy}
use Rattle.ddr_arbiter.specs.Situation.{situation}
use Rattle.ddr_channel.specs.declared.channel.Channel.TheInside.{Inside}
use Rattle.ddr_channel.specs.Choice.{policy_of, has_room, refreshes_of, situation_of}
use Rattle.ddr_channel.specs.Cycle.{completed}
use Rattle.ddr_channel.specs.History.{Call, Admit}
use Rattle.ddr_channel.specs.Kept.{line_cells, state_of}
use Rattle.ddr_channel.specs.Memory.{LineAddress}
use Rattle.ddr_channel.specs.Promise.{StandsFor}
use Rattle.ddr_channel.specs.Sound.{IsServed, IsSound}
use Rattle.ddr_channel.specs.State.{State, opened, after_admit, is_queue_full}
use Rattle.ddr_channel.specs.View.{kept_of, IsWhole}
use Rattle.ddr_channel.proofs.CycleLemmas.{awake, bus_is, choosing}
use Rattle.ddr_channel.proofs.SoundLemmas.{IsSound-opened, IsSound-after_admit, length-filter}
use Rattle.ddr_channel.proofs.StandsLemmas.{stands_admitted, stands_refused}

-- the situation of a cycle

-- in flight and done there are as many completions before the cycle's as after it
pub same_room : (s : State) → has_room (completed s) ≡ ltb (length s.flight + length s.done) s.config.limits.done
same_room s =
    let whole = length-filter (λ d. eqb d.due s.now) s.flight in
    let both = length-append s.done (filter (λ d. eqb d.due s.now) s.flight) in
    let same : length (completed s).flight + length (completed s).done ≡ length s.flight + length s.done = omega arith in
    ap (λ n. ltb n s.config.limits.done) same

pub situation_is : (a : Inside) (debts : List Refreshes) (policy : Policy) (drain room : Bool) → IsWhole a → debts ≡ map after_tick (refreshes_of (state_of (kept_of a)) a.config.geometry.ranks) → policy ≡ policy_of a.config → drain ≡ (choosing a).drain →
    room ≡ ltb (length a.flight.items + length a.done.items) a.config.limits.done → situation a.pending a.legality debts policy drain room ≡ situation_of (choosing a)
situation_is a debts policy drain room whole debts_are policy_is drain_is room_is =
    let room_same = room_is ∙ sym (same_room (state_of (kept_of a))) in
    λ i. record { waiting = a.pending.waiting; bus = bus_is a whole i; refreshes = debts_are i; policy = policy_is i; drain = drain_is i; room = room_same i }

-- the debts of the ranks that the channel has
pub taken_ranks : (s : State) (ranks : ℕ) → ranks ≤ 2 → take ranks (map after_tick (refreshes_of s 2)) ≡ map after_tick (refreshes_of s ranks)
taken_ranks s zero few = refl
taken_ranks s (suc zero) few = refl
taken_ranks s (suc (suc zero)) few = refl
taken_ranks s (suc (suc (suc ranks))) few = absurd (omega arith)

-- no debt has counted more cycles than there were
pub ticks_below : (a : Inside) → IsWhole a → a.legality.bus.now < CLOCK_STOP → All (λ (r : Refreshes). r.ticks < CLOCK_STOP) a.debts
ticks_below a whole clock = subst (All (λ (r : Refreshes). r.ticks < CLOCK_STOP)) (sym whole.debts) by_rank
  where
    by_rank : (k : ℕ) (r : Refreshes) → k < 2 → (get_or (refreshes_of (state_of (kept_of a)) 2) k r).ticks < CLOCK_STOP
    by_rank zero r within = omega (arith, clock)
    by_rank (suc zero) r within = omega (arith, clock)
    by_rank (suc (suc k)) r within = absurd (omega (arith, within))

-- admission

abbrev pub fields_admitted : Inside → PendingList → ℕ → Inside
fields_admitted a p now = record a { pending = p; still_until = now }

whole_with : (a : Inside) (r : Request) (now : ℕ) → IsWhole a → IsServed a.config r.place → now ≡ a.legality.bus.now → IsWhole (fields_admitted a (pending.after_admit r a.legality.bus.now a.pending) now)
whole_with a r now whole served clock = record {
  sound = IsSound-after_admit (state_of (kept_of a)) r whole.sound served;
  of_config = whole.of_config;
  clock = whole.clock;
  reads = whole.reads;
  writes = whole.writes;
  debts = whole.debts;
  flight_room = whole.flight_room;
  done_room = whole.done_room;
  agrees = whole.agrees;
  still = awake now (after_admit r (state_of (kept_of a))) (omega (arith, clock));
}

pub whole_admitted : (a : Inside) (p : PendingList) (r : Request) (now : ℕ) → IsWhole a → IsServed a.config r.place → now ≡ a.legality.bus.now → p ≡ pending.after_admit r now a.pending → IsWhole (fields_admitted a p now)
whole_admitted a p r now whole served clock ok =
    subst (λ (q : PendingList). IsWhole (fields_admitted a q now)) (sym (ok ∙ ap (λ n. pending.after_admit r n a.pending) clock)) (whole_with a r now whole served clock)

pub state_admitted : (a : Inside) (p : PendingList) (r : Request) (now : ℕ) → now ≡ a.legality.bus.now → p ≡ pending.after_admit r now a.pending →
    state_of (kept_of (fields_admitted a p now)) ≡ after_admit r (state_of (kept_of a))
state_admitted a p r now clock ok = ap (λ (q : PendingList). state_of (kept_of (fields_admitted a q now))) (ok ∙ ap (λ n. pending.after_admit r n a.pending) clock)

-- the queue is full by the list's limits, which are the configuration's
pub full_is : (a : Inside) (kind : Kind) → IsWhole a → pending.is_full a.pending kind ≡ is_queue_full (state_of (kept_of a)) kind
full_is a Read whole = ap (λ n. leb n (pending_count Read a.pending.waiting)) whole.reads
full_is a Write whole = ap (λ n. leb n (pending_count Write a.pending.waiting)) whole.writes

not_full : (b : Bool) → (IsTrue b → ⊥) → b ≡ false
not_full true none = absurd (none refl)
not_full false none = refl

pub stands_with : (a : Inside) (p : PendingList) (r : Request) (now : ℕ) (calls : List Call) → IsWhole a → IsServed a.config r.place → now ≡ a.legality.bus.now → p ≡ pending.after_admit r now a.pending →
    (IsTrue (pending.is_full a.pending r.echo.kind) → ⊥) → StandsFor (kept_of a) calls → StandsFor (kept_of (fields_admitted a p now)) (calls ++ Admit r ∷ [])
stands_with a p r now calls whole served clock ok free stands =
    stands_admitted (kept_of a) (kept_of (fields_admitted a p now)) r calls stands served
    (sym (full_is a r.echo.kind whole) ∙ not_full (pending.is_full a.pending r.echo.kind) free)
    (state_admitted a p r now clock ok)

pub stands_without : (a : Inside) (p : PendingList) (r : Request) (calls : List Call) → IsWhole a → IsServed a.config r.place → IsTrue (pending.is_full a.pending r.echo.kind) → p ≡ a.pending →
    StandsFor (kept_of a) calls → StandsFor (kept_of (record a { pending = p })) (calls ++ Admit r ∷ [])
stands_without a p r calls whole served full same stands =
    stands_refused (kept_of a) (kept_of (record a { pending = p })) r calls stands served
    (sym (full_is a r.echo.kind whole) ∙ full) (ap (λ (x : PendingList). kept_of (record a { pending = x })) same)

-- a channel's fields before the first cycle

abbrev pub fields_open : Config → ℕ → ℕ → Bool → Rows → Inside
fields_open config first spare keeps rows = record {
  config = config;
  pending = pending.opened config.limits.reads config.limits.writes;
  drain = false;
  debts = refreshes.opened config.timing ∷ refreshes.opened config.timing ∷ [];
  flight = buffer [] config.limits.done;
  done = buffer [] config.limits.done;
  legality = record { bus = bus.opened config first; spare = spare; keeps = keeps };
  rows = rows;
  still_until = 0;
  owes_refresh = false;
}

pub fields_are_open : (config : Config) (first : ℕ) (p : PendingList) (debts : List Refreshes) (flight done : Buffer Completion) (l : legality.Kept) (rows : Rows) →
    p ≡ pending.opened config.limits.reads config.limits.writes → debts ≡ refreshes.opened config.timing ∷ refreshes.opened config.timing ∷ [] → flight ≡ buffer [] config.limits.done → done ≡ buffer [] config.limits.done → l.bus ≡ bus.opened config first →
    record { config = config; pending = p; drain = false; debts = debts; flight = flight; done = done; legality = l; rows = rows; still_until = 0; owes_refresh = false } ≡ fields_open config first l.spare l.keeps rows
fields_are_open config first p debts flight done l rows p_is debts_are flight_is done_is bus_are =
    λ i. record { config = config; pending = p_is i; drain = false; debts = debts_are i; flight = flight_is i; done = done_is i; legality = record { bus = bus_are i; spare = l.spare; keeps = l.keeps }; rows = rows; still_until = 0; owes_refresh = false }

pub state_open : (config : Config) (first spare : ℕ) (keeps : Bool) (rows : Rows) → IsFresh config rows → state_of (kept_of (fields_open config first spare keeps rows)) ≡ opened config first
state_open config first spare keeps rows fresh =
    let zeros : line_cells config.geometry rows ≡ (λ _. replicate LINE_BYTES 0) = fun_ext (λ address. fresh_line address (is_bank_in config.geometry address.rank address.group address.bank)) in
    ap (λ (f : LineAddress → List ℕ). record (opened config first) { cells = f }) zeros
  where
    fresh_line : (address : LineAddress) (there : Bool) → cond there (cells rows (bank_number config.geometry address.rank address.group address.bank) address.row address.line) (replicate LINE_BYTES 0) ≡ replicate LINE_BYTES 0
    fresh_line address true = fresh.zeros (bank_number config.geometry address.rank address.group address.bank) address.row address.line
    fresh_line address false = refl

-- before the first command no bank is ready
no_command : (rank group bank : ℕ) → ready_row (bank_behind (Pre rank group bank) []) ≡ None
unfolding bank_behind
no_command rank group bank = refl

pub whole_open : (config : Config) (first spare : ℕ) (keeps : Bool) (rows : Rows) → first ≤ CLOCK_STOP → IsFresh config rows → IsWhole (fields_open config first spare keeps rows)
whole_open config first spare keeps rows clock fresh =
    let sound = IsSound-opened config first in
    let none : 0 ≡ first - first = omega arith in
    record {
      sound = subst IsSound (sym (state_open config first spare keeps rows fresh)) sound;
      of_config = refl;
      clock = clock;
      reads = refl;
      writes = refl;
      debts = ap (λ n. record (refreshes.opened config.timing) { ticks = n } ∷ record (refreshes.opened config.timing) { ticks = n } ∷ []) none;
      flight_room = refl;
      done_room = refl;
      agrees = record {
        banks = fresh.banks;
        rows_are = fresh.rows;
        lines = fresh.lines;
        opened = λ rank group bank r g b. fresh.idle (bank_number config.geometry rank group bank) ∙ sym (no_command rank group bank);
      };
      still = awake 0 (state_of (kept_of (fields_open config first spare keeps rows))) (omega arith);
    }
