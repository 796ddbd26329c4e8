-- How far behind now the cycles lie from which on commands may come.
use Rattle.std.proofs.Common.{◌≡◌, ℕ, zero, suc, ◌+◌, ◌-◌, ◌<◌, ◌≤◌, Bool, true, false, ◌&&◌, not, cond, max, eqb, List, [], ◌∷◌, Option, Some, None, refl, sym, ap, ◌∙◌, inl, inr, arith}
use Rattle.std.specs.List.{AllByRecursion, count_by, slice_get}
use Rattle.std.specs.Option.{IfSome}
use Rattle.std.proofs.lemmas.Bool.{and_parts, cases_Bool, eq-eqb, false≢true, not-false}
use Rattle.std.proofs.lemmas.Bool.Decides.{nat_tests}
use Rattle.ddr_timing.specs.declared.config.Config.{Config}
use Rattle.ddr_timing.specs.declared.timing.Timing.{Timing}
use Rattle.ddr_trace.specs.declared.bank.OpenBank.{OpenBank}
use Rattle.ddr_trace.specs.declared.command.Command.{Command}
use Rattle.ddr_trace.specs.declared.command.Entry.{Entry}
use Rattle.ddr_trace.specs.declared.rule.Rule.TheVariants as rule
use Rattle.ddr_trace.specs.Banks.{recovery}
use Rattle.ddr_trace.specs.Commands.{is_activate, is_column, is_read, is_refresh, is_same_rank, rank_of}
use Rattle.ddr_trace.specs.Legality.{IsLegal}
use Rattle.ddr_trace.specs.Rules.{Spacing, is_in, latency, rank_switch, spacing_of, speaks_of}
use Rattle.ddr_legality.proofs.RankLemmas.{rank_within}
use Rattle.ddr_address_map.specs.declared.place.Place.{Place}
use Rattle.ddr_address_map.specs.declared.request.Kind.{Kind}
use Rattle.ddr_address_map.specs.declared.request.Kind.TheVariants.{Read, Write}
use Rattle.ddr_address_map.specs.Requests.{Completion}
use Rattle.ddr_arbiter.specs.Commands.{column_at}
use Rattle.ddr_channel.specs.Cycle.{service_time}
use Rattle.ddr_channel.specs.Refresh.{recovery_time}
use Rattle.ddr_channel.specs.Sound.{IsTraced}
use Rattle.ddr_channel.proofs.BankTimeLemmas.{IsBefore}
use Rattle.ddr_deadline.specs.Behind.{auto_behind, auto_from, behind, four_from, refreshed_from, spaced_from, switched_from}
use Rattle.ddr_deadline.specs.Wait.{room_from}
use Rattle.ddr_deadline.proofs.BehindLemmas.{behind_most}

-- every command that passes stands before a cycle
abbrev pub AreBefore : (Command → Bool) → ℕ → List Entry → Type 0
AreBefore test now history = (i : ℕ) (e : Entry) → slice_get history i ≡ Some e → test e.command ≡ true → e.cycle < now

-- an ACT of the command's rank
abbrev pub is_rank_act : Command → Command → Bool
is_rank_act command a = is_activate a && is_same_rank a command

soon : (test : Command → Bool) (distance : Command → ℕ) (history : List Entry) (k : ℕ) → 1 ≤ k →
    ((i : ℕ) (a : Entry) → slice_get history i ≡ Some a → test a.command ≡ true → a.cycle + distance a.command + 1 ≤ k) → behind test distance history + 1 ≤ k
soon test distance history zero some each = absurd (omega arith)
soon test distance history (suc k) some each =
    let most = behind_most test distance history k (λ i a is passes. let it = each i a is passes in omega arith) in
    omega arith

pub spaced_soon : (s : Spacing) (command : Command) (history : List Entry) (now : ℕ) → AreBefore (λ a. speaks_of s a command) now history → 1 ≤ s.at_least → spaced_from s command history + 1 ≤ now + s.at_least
spaced_soon s command history now before some =
    soon (λ a. speaks_of s a command) (λ _. s.at_least) history (now + s.at_least) (omega (arith, some)) (λ i a is passes. let it = before i a is passes in omega arith)

pub four_soon : (t : Timing) (command : Command) (history : List Entry) (now : ℕ) → AreBefore (is_rank_act command) now history → 1 ≤ t.faw → four_from t command history + 1 ≤ now + t.faw
four_soon t command [] now before some = omega (arith, some)
four_soon t command (a ∷ between) now before some =
    let rest = four_soon t command between now (λ i e is. before (suc i) e is) some in
    let one = by_test (is_activate a.command) (is_activate command) (is_same_rank a.command command) (eqb (count_by (λ m. is_activate m.command && is_same_rank m.command command) between) 3) (before 0 a refl) in
    omega (arith, rest, one)
  where
    by_test : (act later same third : Bool) → ((act && same) ≡ true → a.cycle < now) → cond (act && later && same && third) (a.cycle + t.faw) 0 + 1 ≤ now + t.faw
    by_test true true true true here = let it = here refl in omega arith
    by_test true true true false here = omega (arith, some)
    by_test true true false third here = omega (arith, some)
    by_test true false same third here = omega (arith, some)
    by_test false later same third here = omega (arith, some)

-- an auto-precharge

recovers : (t : Timing) (c : Command) → recovery t c ≤ recovery_time t
recovers t c = by_kind (is_read c)
  where
    by_kind : (w : Bool) → cond w t.rtp (t.cwl + 4 + t.wr) ≤ recovery_time t
    by_kind true = omega arith
    by_kind false = omega arith

pub auto_soon : (t : Timing) (bank : Option OpenBank) (now : ℕ) → IsBefore now bank → 1 ≤ t.rp → auto_from t bank + 1 ≤ now + recovery_time t + t.rp
auto_soon t None now was some = omega (arith, some)
auto_soon t (Some bank) now was some = by_auto bank.auto was.1
  where
    by_auto : (auto : Option Entry) → IfSome auto (λ a. a.cycle < now) → auto_behind t bank auto + 1 ≤ now + recovery_time t + t.rp
    by_auto None early = omega (arith, some)
    by_auto (Some a) early =
        let least = recovers t a.command in
        let since = was.0 in
        omega (arith, least, early, since)

-- REFs

behind_wider : (test other : Command → Bool) (distance : Command → ℕ) (history : List Entry) → ((c : Command) → test c ≡ other c) → behind test distance history ≡ behind other distance history
behind_wider test other distance [] same = refl
behind_wider test other distance (a ∷ later) same = rw (same a.command, behind_wider test other distance later same) refl

pub refreshed_same : (t : Timing) (command : Command) (history : List Entry) → spaced_from (spacing_of t rule.Rfc) command history ≡ refreshed_from t (rank_of command) history
refreshed_same t command history =
    behind_wider (λ a. speaks_of (spacing_of t rule.Rfc) a command) (λ a. is_refresh a && eqb (rank_of a) (rank_of command)) (λ _. t.rfc) history (λ c. any_later (is_refresh c) (eqb (rank_of c) (rank_of command)))
  where
    any_later : (w x : Bool) → (w && true && x) ≡ (w && x)
    any_later true x = refl
    any_later false x = refl

-- data of another rank

pub ranks_inside : (c : Config) (start end : ℕ) (trace : List Entry) → IsLegal c start end trace → (i : ℕ) (e : Entry) → slice_get trace i ≡ Some e → rank_of e.command < c.geometry.ranks
ranks_inside c start end trace legal i e is =
    let kept : not (is_in c.geometry e.command) ≡ false = rw is at (legal i rule.Place refl) in
    rank_within c.geometry e.command (not-false (is_in c.geometry e.command) kept)

-- RTRS, and 1 where there is one rank
abbrev pub switch_of : Config → ℕ
switch_of c = cond (eqb c.geometry.ranks 2) c.timing.rtrs 1

latency_most : (t : Timing) (c : Command) → latency t c ≤ max t.cl t.cwl
latency_most t c = by_kind (is_read c)
  where
    by_kind : (w : Bool) → cond w t.cl t.cwl ≤ max t.cl t.cwl
    by_kind true = omega arith
    by_kind false = omega arith

far_most : (x y m n : ℕ) → x ≤ m → max 4 (x + 4 + n - y) ≤ m + 4 + n
far_most x y m n below = omega (arith, below)

not_two : (n : ℕ) → n ≤ 2 → eqb n 2 ≡ false → n < 2
not_two n most other = grind (arith, nat_tests)

pub switched_soon : (c : Config) (command : Command) (history : List Entry) (now : ℕ) → AreBefore is_column now history → ((i : ℕ) (e : Entry) → slice_get history i ≡ Some e → rank_of e.command < c.geometry.ranks) → rank_of command < c.geometry.ranks →
    switched_from c.timing command history + 1 ≤ now + (max c.timing.cl c.timing.cwl + 4 + switch_of c)
switched_soon c command history now before inside here =
    soon (λ a. is_column a && is_column command && not (is_same_rank a command)) (λ a. rank_switch t a command) history (now + (max t.cl t.cwl + 4 + switch_of c)) (omega arith) (λ i a is passes. let both = and_parts (is_column a.command && is_column command) (not (is_same_rank a.command command)) passes in each i a is (and_parts (is_column a.command) (is_column command) both.0).0 both.1)
  where
    t : Timing
    t = c.timing

    each : (i : ℕ) (a : Entry) → slice_get history i ≡ Some a → is_column a.command ≡ true → not (is_same_rank a.command command) ≡ true → a.cycle + rank_switch t a.command command + 1 ≤ now + (max t.cl t.cwl + 4 + switch_of c)
    each i a is moves other = elim (cases_Bool (eqb c.geometry.ranks 2)) [
      | inl two ↦
          let most = latency_most t a.command in
          let early = before i a is moves in
          let switch : switch_of c ≡ t.rtrs = rw two refl in
          let far : rank_switch t a.command command ≤ max t.cl t.cwl + 4 + t.rtrs = far_most (latency t a.command) (latency t command) (max t.cl t.cwl) t.rtrs most in
          omega (arith, early, switch, far)
      | inr one ↦
          let first = inside i a is in
          let range = c.geometry.ranks_range in
          let few : c.geometry.ranks < 2 = not_two c.geometry.ranks range.1 one in
          let same : rank_of a.command ≡ rank_of command = omega (arith, first, here, few) in
          absurd (false≢true (sym (ap not (eq-eqb (rank_of a.command) (rank_of command) same)) ∙ other))
    ]

-- completions in flight

service_most : (c : Config) (kind : Kind) → service_time c kind ≤ max c.timing.cl c.timing.cwl + 4
service_most c Read = omega arith
service_most c Write = omega arith

column_moves : (auto : Bool) (kind : Kind) (p : Place) → is_column (column_at auto kind p) ≡ true
column_moves false Read p = refl
column_moves false Write p = refl
column_moves true Read p = refl
column_moves true Write p = refl

pub room_soon : (c : Config) (trace : List Entry) (now : ℕ) (flight : List Completion) → AreBefore is_column now trace → AllByRecursion (IsTraced c trace) flight → room_from flight + 1 ≤ now + (max c.timing.cl c.timing.cwl + 4 + 1)
room_soon c trace now [] before traced = omega arith
room_soon c trace now (d ∷ ds) before traced =
    let rest = room_soon c trace now ds before traced.1 in
    let it = traced.0 in
    let early : d.issued < now = before it.at _ it.there (column_moves it.auto d.echo.kind it.place) in
    let due = it.due in
    let most = service_most c d.echo.kind in
    omega (arith, rest, early, due, most)
