-- That each stalled clock is counted once.
use Rattle.std.proofs.Common.{◌≡◌, ◌<◌, ◌≤◌, ℕ, ◌+◌, ◌-◌, ◌^◌, Bool, true, false, if◌then◌else◌, List, [], ◌∷◌, ◌++◌, length, fold, get_or, set, Option, None, Some, refl, sym, subst, ap, ◌∙◌, arith}
use Rattle.std.specs.Prelude.{◌==◌, ◌&&◌, ◌||◌, sum_by}
use Rattle.std.proofs.lemmas.List.Sums.{get_or-le-sum_by, sum_by-cons, sum_by-set}
use Rattle.ddr_trace.specs.declared.command.Entry.{Entry}
use Rattle.ddr_trace.specs.declared.rule.Rule.{Rule}
use Rattle.ddr_trace.specs.declared.rule.Rule.TheVariants as rule
use Rattle.ddr_trace.specs.Rules.{is_in, last_cycle_below}
use Rattle.ddr_statistics.specs.Noted.{raised}
use Rattle.ddr_world.specs.Promise.{is_for_refresh}
use Rattle.ddr_ledger.specs.declared.causes.Causes.{Causes}
use Rattle.ddr_ledger.specs.Causes.{and_clocks, charged, place_of}
use Rattle.ddr_ledger.specs.Stalls.{Stalled, at_cap, ended, held_by, idle_of, idled, passed}
use Rattle.ddr_ledger.specs.Sums.{AddsUp, stalled_clocks, sum_of}

-- each rule has its place
place_within : (r : Rule) → place_of r < 23
place_within rule.Order = omega arith
place_within rule.Place = omega arith
place_within rule.State = omega arith
place_within rule.Row = omega arith
place_within rule.Rcd = omega arith
place_within rule.Ras = omega arith
place_within rule.Rc = omega arith
place_within rule.Rp = omega arith
place_within rule.RrdL = omega arith
place_within rule.RrdS = omega arith
place_within rule.Faw = omega arith
place_within rule.CcdL = omega arith
place_within rule.CcdS = omega arith
place_within rule.WtrL = omega arith
place_within rule.WtrS = omega arith
place_within rule.Rtp = omega arith
place_within rule.Wr = omega arith
place_within rule.Rtw = omega arith
place_within rule.RpRef = omega arith
place_within rule.Rfc = omega arith
place_within rule.RefLate = omega arith
place_within rule.RefGap = omega arith
place_within rule.Rtrs = omega arith

abbrev all_of : List ℕ → ℕ
all_of clocks = sum_by (λ n. n) clocks

more_clocks : (clocks n : ℕ) → n + clocks < 2 ^ 64 → raised clocks n ≡ n + clocks
more_clocks clocks n few = omega (arith, few)

-- one place has so many more
place_more : (clocks k : ℕ) (rules : List ℕ) → k < length rules → all_of rules + clocks < 2 ^ 64 → all_of (set rules k (raised clocks (get_or rules k 0))) ≡ all_of rules + clocks
place_more clocks k rules within few =
    let before = get_or rules k 0 in
    let small : before ≤ all_of rules = get_or-le-sum_by (λ n. n) rules k 0 within in
    let summed : all_of (set rules k (before + clocks)) + before ≡ all_of rules + (before + clocks) = sum_by-set (λ n. n) rules k (before + clocks) 0 within in
    ap (λ n. all_of (set rules k n)) (more_clocks clocks before (omega (arith, small, few))) ∙ omega (arith, summed)

-- so many clocks more are counted for one cause
charged_more : (held : Option Rule) (clocks : ℕ) (c : Causes) → length c.rules ≡ 23 → sum_of c + clocks < 2 ^ 64 → sum_of (charged held clocks c) ≡ sum_of c + clocks
charged_more None clocks c many few = omega (arith, more_clocks clocks c.choice (omega (arith, few)))
charged_more (Some r) clocks c many few =
    let within : place_of r < length c.rules = subst (λ n. place_of r < n) (sym many) (place_within r) in
    omega (arith, place_more clocks (place_of r) c.rules within (omega (arith, few)))

-- a command ends them
abbrev charged_by : Entry → Stalled → Stalled
charged_by e s = record s { waiting = 0; causes = charged (held_by s.config s.past e) s.waiting s.causes }

ended_same : (e : Entry) (s : Stalled) → length s.causes.rules ≡ 23 → stalled_clocks s < 2 ^ 64 → stalled_clocks (ended e s) ≡ stalled_clocks s
ended_same e s many few = by_test (is_for_refresh e.command || s.waiting == 0)
  where
    by_test : (b : Bool) → stalled_clocks (if b then s else charged_by e s) ≡ stalled_clocks s
    by_test true = refl
    by_test false = omega (arith, charged_more (held_by s.config s.past e) s.waiting s.causes many few)

passed_same : (e : Entry) (s : Stalled) → stalled_clocks (passed e s) ≡ stalled_clocks s
passed_same e s = by_test (is_in s.config.geometry e.command && last_cycle_below s.past e.cycle)
  where
    by_test : (b : Bool) → stalled_clocks (if b then record s { past = s.past ++ e ∷ [] } else s) ≡ stalled_clocks s
    by_test true = refl
    by_test false = refl

-- so many cycles more, of which the last ones count for the cap
idled_more : (now cycles admitted : ℕ) (s : Stalled) → stalled_clocks s + cycles < 2 ^ 64 → stalled_clocks (idled now cycles (Some admitted) s) ≡ stalled_clocks s + idle_of cycles s
idled_more now cycles admitted s few =
    let idle = idle_of cycles s in
    let cap = at_cap now cycles admitted s in
    let within : cap ≤ idle = omega arith in
    let some : idle ≤ cycles = by_busy s.busy in
    omega (arith, within, some, few, more_clocks (idle - cap) s.waiting (omega (arith, within, some, few)), more_clocks cap s.causes.cap (omega (arith, within, some, few)))
  where
    by_busy : (b : Bool) → (if b then cycles - 1 else cycles) ≤ cycles
    by_busy true = omega arith
    by_busy false = omega arith

-- what is told of all causes is their sum
folded : (all : ℕ) (rules : List ℕ) → all + all_of rules < 2 ^ 64 → fold and_clocks all rules ≡ all + all_of rules
folded all [] few = omega arith
folded all (n ∷ more) few =
    let cons = sum_by-cons (λ n. n) n more in
    ap (λ m. fold and_clocks m more) (more_clocks n all (omega (arith, few, cons)))
    ∙ folded (all + n) more (omega (arith, few, cons))
    ∙ omega (arith, cons)

pub adds_up : (s : Stalled) → length s.causes.rules ≡ 23 → stalled_clocks s < 2 ^ 64 → AddsUp s
adds_up s many few = record {
  counted = λ now cycles admitted more. idled_more now cycles admitted s more;
  none_pending = λ now cycles. refl;
  kept = λ e. passed_same e (ended e s) ∙ ended_same e s many few;
  told = ap (λ m. fold and_clocks m s.causes.rules) (more_clocks s.causes.choice s.causes.cap (omega (arith, few))) ∙ folded (s.causes.cap + s.causes.choice) s.causes.rules (omega (arith, few));
}
