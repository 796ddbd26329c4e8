-- How soon a request comes that is served alone from now on.
use Rattle.std.proofs.Common.{◌≡◌, ℕ, ◌+◌, ◌<◌, ◌≤◌, Bool, true, false, ◌&&◌, ◌||◌, cond, max, eqb, List, Option, Some, None, refl, sym, ap, subst, ◌∙◌, arith}
use Rattle.std.specs.List.{slice_get}
use Rattle.std.proofs.lemmas.Bool.{and_parts, ltb-true}
use Rattle.ddr_timing.specs.declared.config.Config.{Config}
use Rattle.ddr_timing.specs.declared.timing.Timing.{Timing}
use Rattle.ddr_trace.specs.declared.bank.OpenBank.{OpenBank}
use Rattle.ddr_trace.specs.declared.command.Command.{Command}
use Rattle.ddr_trace.specs.declared.command.Entry.{Entry}
use Rattle.ddr_trace.specs.declared.rule.Rule.{Rule}
use Rattle.ddr_trace.specs.declared.rule.Rule.TheVariants as rule
use Rattle.ddr_trace.specs.Banks.{bank_behind}
use Rattle.ddr_trace.specs.Commands.{is_activate, is_column, is_read, is_refresh, is_same_rank, is_write, rank_of}
use Rattle.ddr_trace.specs.Rules.{is_bank_in, spacing_of, speaks_of}
use Rattle.ddr_latency.specs.Latency as clocks
use Rattle.ddr_address_map.specs.declared.place.Place.{Place}
use Rattle.ddr_address_map.specs.declared.request.Kind.{Kind}
use Rattle.ddr_address_map.specs.declared.request.Kind.TheVariants.{Read, Write}
use Rattle.ddr_address_map.specs.Requests.{Request}
use Rattle.ddr_hazards.specs.declared.waiting.Waiting.{Waiting}
use Rattle.ddr_arbiter.specs.Commands.{activate_at, column_at, column_of, precharge_at}
use Rattle.ddr_channel.specs.Choice.{bus_of}
use Rattle.ddr_channel.specs.History.{Call, run}
use Rattle.ddr_channel.specs.Promise.{AreCalls}
use Rattle.ddr_channel.specs.Refresh.{recovery_time}
use Rattle.ddr_channel.specs.Sound.{IsServed, IsSound}
use Rattle.ddr_channel.specs.State.{State}
use Rattle.ddr_channel.proofs.BankTimeLemmas.{IsBefore, bank_before}
use Rattle.ddr_channel.proofs.BusLemmas.{all_before}
use Rattle.ddr_channel.proofs.HistoryLemmas.{kept_run}
use Rattle.ddr_channel.proofs.ListLemmas.{All-at}
use Rattle.ddr_deadline.specs.Behind.{activate_from, auto_from, column_from, four_from, precharge_from, refreshed_from, spaced_from, switched_from}
use Rattle.ddr_deadline.specs.Wait.{Earliest, by_bank, comes_by, earliest, room_from, served_by}
use Rattle.ddr_deadline.proofs.BehindLemmas.{behind_most}
use Rattle.ddr_deadline.proofs.FreeLemmas.{AreFree, active_of, free_run}
use Rattle.ddr_deadline.proofs.LegalLemmas.{inside}
use Rattle.ddr_deadline.proofs.SoonLemmas.{AreBefore, auto_soon, four_soon, is_rank_act, ranks_inside, refreshed_same, room_soon, spaced_soon, switch_of, switched_soon}

-- by numbers alone

four_below : (a b c d k : ℕ) → a + 1 ≤ k → b + 1 ≤ k → c + 1 ≤ k → d + 1 ≤ k → max (max a b) (max c d) + 1 ≤ k
four_below a b c d k one two three four = omega (arith, one, two, three, four)

seven_below : (a b c d e f g k : ℕ) → a + 1 ≤ k → b + 1 ≤ k → c + 1 ≤ k → d + 1 ≤ k → e + 1 ≤ k → f + 1 ≤ k → g + 1 ≤ k → max (max (max a b) (max c d)) (max (max e f) g) + 1 ≤ k
seven_below a b c d e f g k one two three four five six seven = four_below (max a b) (max c d) (max e f) g k (two_below a b k one two) (two_below c d k three four) (two_below e f k five six) seven
  where
    two_below : (x y n : ℕ) → x + 1 ≤ n → y + 1 ≤ n → max x y + 1 ≤ n
    two_below x y n first second = omega (arith, first, second)

-- what the distances of a configuration ask

pub record Asks (c : Config) (row column : ℕ) : Type 0 where
  pub closed : recovery_time c.timing + c.timing.rp ≤ row
  pub again : c.timing.rc ≤ row
  pub in_group : c.timing.rrd_l ≤ row
  pub four : c.timing.faw ≤ row
  pub kind : c.timing.ccd_l ≤ column
  pub turn : c.timing.rtw ≤ column
  pub read : c.timing.cwl + 4 + c.timing.wtr_s ≤ column
  pub read_in_group : c.timing.cwl + 4 + c.timing.wtr_l ≤ column
  pub burst : max c.timing.cl c.timing.cwl + 4 + switch_of c ≤ column

pub asks : (c : Config) → Asks c (clocks.row (clocks.clocks_of c)) (clocks.column (clocks.clocks_of c))
asks c = record {
  closed = omega arith;
  again = omega arith;
  in_group = omega arith;
  four = omega arith;
  kind = omega arith;
  turn = omega arith;
  read = omega arith;
  read_in_group = omega arith;
  burst = most (max (max c.timing.ccd_l c.timing.rtw) (c.timing.cwl + 4 + max c.timing.wtr_s c.timing.wtr_l)) (max c.timing.ccd_l c.timing.rtw) (c.timing.cwl + 4 + max c.timing.wtr_s c.timing.wtr_l) (max c.timing.cl c.timing.cwl + 4 + switch_of c);
}
  where
    most : (k a b d : ℕ) → d ≤ max a (max b d)
    most k a b d = omega arith

column_rank : (kind : Kind) (p : Place) → rank_of (column_at false kind p) ≡ p.rank
column_rank Read p = refl
column_rank Write p = refl

some_switch : (c : Config) → 1 ≤ switch_of c
some_switch c = by_test (eqb c.geometry.ranks 2) c.timing.rtrs_range.0
  where
    by_test : (w : Bool) → 1 ≤ c.timing.rtrs → 1 ≤ cond w c.timing.rtrs 1
    by_test true some = some
    by_test false some = omega arith

-- each term

-- what is known of a state and of a request in it
record Knows (s : State) (r : Request) : Type 0 where
  sound : IsSound s
  free : AreFree (bus_of s)
  served : IsServed s.config r.place

before_now : (s : State) → IsSound s → (i : ℕ) (e : Entry) → slice_get s.trace i ≡ Some e → e.cycle < s.now
before_now s sound = all_before s.config s.start s.now s.trace sound.legal

held_before : (s : State) (p : Place) → IsSound s → IsBefore s.now (bank_behind (precharge_at p) s.trace)
held_before s p sound = bank_before p.rank p.group p.bank s.now s.trace (λ i e is of. before_now s sound i e is)

-- the earlier command of a rule on an ACT and the ACT behind it is an ACT of its rank

of_rank : (act same rest : Bool) → (act && true && (same && rest)) ≡ true → (act && same) ≡ true
of_rank true true rest is = refl
of_rank true false rest is = is
of_rank false same rest is = is

of_group : (act same group rest : Bool) → (act && true && (same && group && rest)) ≡ true → (act && same) ≡ true
of_group true true group rest is = refl
of_group true false group rest is = is
of_group false same group rest is = is

-- an ACT, where those of its rank stand before one cycle, and its bank's precharges are over by another
pub activate_by : (s : State) (r : Request) (row column before over : ℕ) → Asks s.config row column → AreBefore (is_rank_act (activate_at r.place)) before s.trace →
    spaced_from (spacing_of s.config.timing rule.Rp) (activate_at r.place) s.trace + 1 ≤ over → auto_from s.config.timing (bank_behind (precharge_at r.place) s.trace) + 1 ≤ over →
    activate_from s.config.timing r.place s.trace + 1 ≤ max (max (before + row) over) (refreshed_from s.config.timing r.place.rank s.trace + 1)
activate_by s r row column before over a acts closed auto = seven_below (by rule.Rc) (by rule.Rp) (by rule.RrdL) (by rule.RrdS) (by rule.Rfc) (four_from t (activate_at p) s.trace) (auto_from t (bank_behind (precharge_at p) s.trace)) most
    (let it = soon rule.Rc t.rc_range.0 (λ x speaks. of_rank (is_activate x) (is_same_rank x (activate_at p)) _ speaks) in let ask = a.again in omega arith)
    (omega (arith, closed))
    (let it = soon rule.RrdL t.rrd_l_range.0 (λ x speaks. of_group (is_activate x) (is_same_rank x (activate_at p)) _ _ speaks) in let ask = a.in_group in omega arith)
    (let it = soon rule.RrdS t.rrd_s_range.0 (λ x speaks. of_rank (is_activate x) (is_same_rank x (activate_at p)) _ speaks) in let ask = a.in_group in let slower = t.same_group_activates_slower in omega arith)
    (let it = refreshed_same t (activate_at p) s.trace in omega arith)
    (let it = four_soon t (activate_at p) s.trace before acts t.faw_range.0 in let ask = a.four in omega arith)
    (omega (arith, auto))
  where
    t : Timing
    t = s.config.timing

    p : Place
    p = r.place

    most : ℕ
    most = max (max (before + row) over) (refreshed_from t p.rank s.trace + 1)

    by : Rule → ℕ
    by u = spaced_from (spacing_of t u) (activate_at p) s.trace

    soon : (u : Rule) → 1 ≤ (spacing_of t u).at_least → ((x : Command) → speaks_of (spacing_of t u) x (activate_at p) ≡ true → is_rank_act (activate_at p) x ≡ true) → by u + 1 ≤ before + (spacing_of t u).at_least
    soon u some narrow = spaced_soon (spacing_of t u) (activate_at p) s.trace before (λ i x is speaks. acts i x is (narrow x.command speaks)) some

activate_soon : (s : State) (r : Request) (row column : ℕ) → Asks s.config row column → Knows s r → activate_from s.config.timing r.place s.trace + 1 ≤ max (s.now + row) (refreshed_from s.config.timing r.place.rank s.trace + 1)
activate_soon s r row column a k =
    let t = s.config.timing in
    let closed = spaced_soon (spacing_of t rule.Rp) (activate_at r.place) s.trace s.now (λ i e is _. before_now s k.sound i e is) t.rp_range.0 in
    let auto = auto_soon t (bank_behind (precharge_at r.place) s.trace) s.now (held_before s r.place k.sound) t.rp_range.0 in
    let ask = a.closed in
    let it = activate_by s r row column s.now (s.now + row) a (λ i e is _. before_now s k.sound i e is) (omega (arith, closed, ask)) (omega (arith, auto, ask)) in
    omega (arith, it)

-- a read or a write, and room for its completion, where all reads and writes stand before a cycle

wrote : (read written : Bool) → written ≡ true → (read || written) ≡ true
wrote true written is = refl
wrote false written is = is

was_read : (read written : Bool) → read ≡ true → (read || written) ≡ true
was_read read written is = rw is refl

column_by : (s : State) (r : Request) (row column before : ℕ) → Asks s.config row column → IsSound s → IsServed s.config r.place → AreBefore is_column before s.trace →
    column_from s.config.timing (column_of false r) s.trace + 1 ≤ max (before + column) (refreshed_from s.config.timing r.place.rank s.trace + 1)
column_by s r row column before a sound served columns = seven_below (by rule.CcdL) (by rule.CcdS) (by rule.WtrL) (by rule.WtrS) (by rule.Rtw) (by rule.Rfc) (switched_from t c s.trace) most
    (let it = soon rule.CcdL t.ccd_l_range.0 (λ x speaks. first x _ _ speaks) in let ask = a.kind in omega arith)
    (let it = soon rule.CcdS t.ccd_s_range.0 (λ x speaks. first x _ _ speaks) in let ask = a.kind in let slower = t.same_group_slower in omega arith)
    (let it = soon rule.WtrL (omega arith) (λ x speaks. wrote (is_read x) (is_write x) (earlier (is_write x) _ _ speaks)) in let ask = a.read_in_group in omega arith)
    (let it = soon rule.WtrS (omega arith) (λ x speaks. wrote (is_read x) (is_write x) (earlier (is_write x) _ _ speaks)) in let ask = a.read in omega arith)
    (let it = soon rule.Rtw t.rtw_range.0 (λ x speaks. was_read (is_read x) (is_write x) (earlier (is_read x) _ _ speaks)) in let ask = a.turn in omega arith)
    (let it : by rule.Rfc ≡ refreshed_from t p.rank s.trace = refreshed_same t c s.trace ∙ ap (λ n. refreshed_from t n s.trace) (column_rank r.echo.kind p) in omega arith)
    (let it = switched_soon s.config c s.trace before columns (ranks_inside s.config s.start s.now s.trace sound.legal) rank_there in let ask = a.burst in omega arith)
  where
    t : Timing
    t = s.config.timing

    p : Place
    p = r.place

    c : Command
    c = column_of false r

    most : ℕ
    most = max (before + column) (refreshed_from t p.rank s.trace + 1)

    by : Rule → ℕ
    by u = spaced_from (spacing_of t u) c s.trace

    earlier : (x y z : Bool) → (x && y && z) ≡ true → x ≡ true
    earlier x y z is = (and_parts x y (and_parts (x && y) z is).0).0

    first : (x : Command) (y z : Bool) → (is_column x && y && z) ≡ true → is_column x ≡ true
    first x y z is = earlier (is_column x) y z is

    soon : (u : Rule) → 1 ≤ (spacing_of t u).at_least → ((x : Command) → speaks_of (spacing_of t u) x c ≡ true → is_column x ≡ true) → by u + 1 ≤ before + (spacing_of t u).at_least
    soon u some narrow = spaced_soon (spacing_of t u) c s.trace before (λ i x is speaks. columns i x is (narrow x.command speaks)) some

    rank_of_place : is_bank_in s.config.geometry p.rank p.group p.bank ≡ true → p.rank < s.config.geometry.ranks
    rank_of_place is = ltb-true p.rank s.config.geometry.ranks (and_parts _ _ (and_parts _ _ is).0).0

    rank_there : rank_of c < s.config.geometry.ranks
    rank_there = subst (λ n. n < s.config.geometry.ranks) (sym (column_rank r.echo.kind p)) (rank_of_place (inside (bus_of s) p served).bank)

pub column_close : (s : State) (r : Request) (row column before : ℕ) → Asks s.config row column → IsSound s → IsServed s.config r.place → AreBefore is_column before s.trace →
    (earliest s r).column + 1 ≤ max (before + column) (refreshed_from s.config.timing r.place.rank s.trace + 1)
column_close s r row column before a sound served columns =
    let first = column_by s r row column before a sound served columns in
    let second = room_soon s.config s.trace before s.flight columns sound.traced in
    let switch = some_switch s.config in
    let ask = a.burst in
    joined (column_from s.config.timing (column_of false r) s.trace) (room_from s.flight) (before + column) (refreshed_from s.config.timing r.place.rank s.trace) first (omega (arith, second, switch, ask))
  where
    joined : (x y m n : ℕ) → x + 1 ≤ max m (n + 1) → y + 1 ≤ m → max x y + 1 ≤ max m (n + 1)
    joined x y m n first second = omega (arith, first, second)

-- a PRE for a bank that is open: the REFs are over
precharge_soon : (s : State) (r : Request) (bank : OpenBank) → Knows s r → bank_behind (precharge_at r.place) s.trace ≡ Some bank → bank.auto ≡ None → precharge_from s.config.timing r.place s.trace + 1 ≤ s.now + recovery_time s.config.timing
precharge_soon s r bank k held stays = four_below (by rule.Ras) (by rule.Wr) (by rule.Rtp) (by rule.Rfc) (s.now + recovery_time t)
    (let it = soon rule.Ras t.ras_range.0 in omega arith)
    (let it = soon rule.Wr (omega arith) in omega arith)
    (let it = soon rule.Rtp t.rtp_range.0 in omega arith)
    (let it = refreshed_same t (precharge_at p) s.trace in let some = t.ras_range.0 in omega (arith, it, over, some))
  where
    t : Timing
    t = s.config.timing

    p : Place
    p = r.place

    by : Rule → ℕ
    by u = spaced_from (spacing_of t u) (precharge_at p) s.trace

    soon : (u : Rule) → 1 ≤ (spacing_of t u).at_least → by u + 1 ≤ s.now + (spacing_of t u).at_least
    soon u some = spaced_soon (spacing_of t u) (precharge_at p) s.trace s.now (λ i e is _. before_now s k.sound i e is) some

    over : refreshed_from t p.rank s.trace ≤ s.now
    over = behind_most (λ a. is_refresh a && eqb (rank_of a) p.rank) (λ _. t.rfc) s.trace s.now (k.free p.rank (active_of (bus_of s) p bank (inside (bus_of s) p k.served).bank held stays))

-- all terms

opening_close : (now act col f rcd row column : ℕ) → act + 1 ≤ max (now + row) (f + 1) → col + 1 ≤ max (now + column) (f + 1) → 1 ≤ row → max (max now act + rcd) col + 1 ≤ max (now + max (row + rcd) column) (f + rcd + 1)
opening_close now act col f rcd row column one two some = omega (arith, one, two, some)

own_close : (now since col f rcd row column : ℕ) → since < now → col + 1 ≤ max (now + column) (f + 1) → 1 ≤ row → max now (max (since + rcd) col) + 1 ≤ max (now + max (row + rcd) column) (f + rcd + 1)
own_close now since col f rcd row column early two some = omega (arith, early, two, some)

other_close : (now pre act col f rcd rp recovery row column : ℕ) → pre + 1 ≤ now + recovery → 1 ≤ recovery → recovery + rp ≤ row → act + 1 ≤ max (now + row) (f + 1) → col + 1 ≤ max (now + column) (f + 1) →
    max (max (max now pre + rp) act + rcd) col + 1 ≤ max (now + max (row + rcd) column) (f + rcd + 1)
other_close now pre act col f rcd rp recovery row column early some closed one two = omega (arith, early, some, closed, one, two)

start_close : (s : State) (r : Request) (row column : ℕ) → Asks s.config row column → Knows s r → served_by s r + 1 ≤ max (s.now + max (row + s.config.timing.rcd) column) (refreshed_from s.config.timing r.place.rank s.trace + s.config.timing.rcd + 1)
start_close s r row column a k = by_held (bank_behind (precharge_at p) s.trace) refl
  where
    t : Timing
    t = s.config.timing

    p : Place
    p = r.place

    e : Earliest
    e = earliest s r

    f : ℕ
    f = refreshed_from t p.rank s.trace

    recovery : ℕ
    recovery = recovery_time t

    some : 1 ≤ row
    some = let ask = a.closed in let one = t.rp_range.0 in omega arith

    act : e.activate + 1 ≤ max (s.now + row) (f + 1)
    act = activate_soon s r row column a k

    col : e.column + 1 ≤ max (s.now + column) (f + 1)
    col = column_close s r row column s.now a k.sound k.served (λ i e is _. before_now s k.sound i e is)

    by_row : (bank : OpenBank) → bank_behind (precharge_at p) s.trace ≡ Some bank → bank.auto ≡ None → bank.since < s.now → (w : Bool) →
        cond w (max e.now (max (bank.since + t.rcd) e.column)) (max (max (max e.now e.precharge + t.rp) e.activate + t.rcd) e.column) + 1 ≤ max (s.now + max (row + t.rcd) column) (f + t.rcd + 1)
    by_row bank held stays early true = own_close s.now bank.since e.column f t.rcd row column early col some
    by_row bank held stays early false =
        let pre = precharge_soon s r bank k held stays in
        let one : 1 ≤ recovery = let ras = t.ras_range.0 in omega arith in
        other_close s.now e.precharge e.activate e.column f t.rcd t.rp recovery row column pre one a.closed act col

    by_auto : (bank : OpenBank) → bank_behind (precharge_at p) s.trace ≡ Some bank → bank.since < s.now → (auto : Option Entry) → bank.auto ≡ auto → by_bank t e p.row bank auto + 1 ≤ max (s.now + max (row + t.rcd) column) (f + t.rcd + 1)
    by_auto bank held early (Some x) stays = opening_close s.now e.activate e.column f t.rcd row column act col some
    by_auto bank held early None stays = by_row bank held stays early (eqb bank.row p.row)

    by_held : (o : Option OpenBank) → bank_behind (precharge_at p) s.trace ≡ o → comes_by t e p.row o + 1 ≤ max (s.now + max (row + t.rcd) column) (f + t.rcd + 1)
    by_held None held = opening_close s.now e.activate e.column f t.rcd row column act col some
    by_held (Some bank) held =
        let was : IsBefore s.now (Some bank) = subst (IsBefore s.now) held (held_before s p k.sound) in
        by_auto bank held was.0 bank.auto refl

pub start_run : (config : Config) (start : ℕ) (calls : List Call) → AreCalls config calls → (place : ℕ) (w : Waiting) → slice_get (run config start calls).state.pending place ≡ Some w →
    served_by (run config start calls).state w.request + 1 ≤ max ((run config start calls).state.now + clocks.service (clocks.clocks_of config)) (refreshed_from config.timing w.request.place.rank (run config start calls).state.trace + config.timing.rcd + 1)
start_run config start calls may place w here =
    let s = (run config start calls).state in
    let kept = kept_run config start calls may in
    let k : Knows s w.request = record {
      sound = kept.sound;
      free = free_run config start calls;
      served = All-at (λ (v : Waiting). IsServed s.config v.request.place) s.pending place w kept.sound.served here;
    } in
    subst (λ c. served_by s w.request + 1 ≤ max (s.now + clocks.service (clocks.clocks_of c)) (refreshed_from c.timing w.request.place.rank s.trace + c.timing.rcd + 1)) kept.config_is
    (start_close s w.request (clocks.row (clocks.clocks_of s.config)) (clocks.column (clocks.clocks_of s.config)) (asks s.config) k)
