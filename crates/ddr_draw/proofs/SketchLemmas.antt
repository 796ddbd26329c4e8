-- What is kept of a trace shows what the whole of it does.
use Rattle.std.proofs.Common.{◌≡◌, ℕ, ◌+◌, ◌-◌, ◌*◌, ◌≤◌, Bool, true, false, ◌&&◌, ◌||◌, cond, List, [], ◌∷◌, ◌++◌, Option, Some, None, refl, sym, ap, ◌∙◌, arith, append_assoc}
use Rattle.std.specs.Prelude.{min, max, nat_le, nat_lt, not}
use Rattle.std.specs.Option.{unwrap_or}
use Rattle.std.proofs.lemmas.Bool.{cond-false}
use Rattle.std.proofs.lemmas.Bool.Decides.{nat_tests}
use Rattle.ddr_timing.specs.declared.config.Config.{Config}
use Rattle.ddr_timing.specs.declared.timing.Timing.{Timing}
use Rattle.ddr_trace.specs.declared.command.Command.{Command}
use Rattle.ddr_trace.specs.declared.command.Command.TheVariants.{Act, Rd, Wr, RdAuto, WrAuto, Pre, PreAll, Refresh}
use Rattle.ddr_trace.specs.declared.command.Entry.{Entry}
use Rattle.ddr_trace.specs.Commands.{is_activate, is_column}
use Rattle.ddr_trace.specs.Rules.{is_in}
use Rattle.ddr_draw.specs.declared.view.View.{View}
use Rattle.ddr_draw.specs.Changes.{burst_end, burst_start, burst_until_of, closed_at, closed_at_of, closed_by, is_followed, next_closing, next_column}
use Rattle.ddr_draw.specs.Lanes.{bars, burst, burst_shape, open_row, row_bar}
use Rattle.ddr_draw.specs.Scale.{is_seen, width_of, x_of}
use Rattle.ddr_draw.specs.Sketch.{IsWithin, bar_by, burst_by, first_of, is_gone, may_have_bar, next_ending, row_by}

-- ---- what isn't seen in the wider view isn't in the other

seen_at : (from to wide a b more : ℕ) → to ≤ wide → b ≤ more → nat_lt (60 + 24 * (max from (min wide a) - from)) (60 + 24 * (max from (min wide more) - from)) ≡ false
    → nat_lt (60 + 24 * (max from (min to a) - from)) (60 + 24 * (max from (min to b) - from)) ≡ false
seen_at from to wide a b more narrow later h = grind (arith, nat_tests)

pub unseen : (v wide : View) (a b more : ℕ) → IsWithin v wide → b ≤ more → is_seen wide a more ≡ false → is_seen v a b ≡ false
unseen v wide a b more within later h = rw within.from (seen_at wide.from v.to wide.to a b more within.to later h)

seen_end : (from to wide a b : ℕ) → to ≤ wide → nat_lt (60 + 24 * (max from (min wide a) - from)) (60 + 24 * (max from (min wide wide) - from)) ≡ false
    → nat_lt (60 + 24 * (max from (min to a) - from)) (60 + 24 * (max from (min to b) - from)) ≡ false
seen_end from to wide a b narrow h = grind (arith, nat_tests)

pub unseen_to_end : (v wide : View) (a b : ℕ) → IsWithin v wide → is_seen wide a wide.to ≡ false → is_seen v a b ≡ false
unseen_to_end v wide a b within h = rw within.from (seen_end wide.from v.to wide.to a b within.to h)

-- ---- the bars of one command

no_column : (command : Command) → is_activate command ≡ true → is_column command ≡ false
no_column (Act rank group bank row) h = refl
no_column (Rd rank group bank row line) h = absurd cc
no_column (Wr rank group bank row line) h = absurd cc
no_column (RdAuto rank group bank row line) h = absurd cc
no_column (WrAuto rank group bank row line) h = absurd cc
no_column (Pre rank group bank) h = absurd cc
no_column (PreAll rank) h = absurd cc
no_column (Refresh rank) h = absurd cc

row_same : (act inside : Bool) (f : Option Entry → List ℕ) (x y : Option Entry) → cond (act && inside) (f x) [] ≡ cond (act && inside) (f (cond act x y)) []
row_same true inside f x y = refl
row_same false inside f x y = refl

burst_same : (act column : Bool) (seen : Option Entry → Bool) (f : Option Entry → List ℕ) (x y : Option Entry) → (act ≡ true → column ≡ false)
    → cond (column && seen y) (f y) [] ≡ cond (column && seen (cond act x y)) (f (cond act x y)) []
burst_same true true seen f x y apart = absurd (let e = apart refl in cc)
burst_same true false seen f x y apart = refl
burst_same false column seen f x y apart = refl

-- by the command that ends it
pub bar_first : (c : Config) (v : View) (e : Entry) (later : List Entry) → bars c v (e ∷ later) ≡ bar_by c v e (next_ending e later) ++ bars c v later
unfolding open_row burst bar_by closed_at
bar_first c v e later =
    let act = is_activate e.command in
    let row = row_same act (is_in c.geometry e.command) (λ next. row_bar c v e (unwrap_or (closed_at_of c.timing e next) v.to)) (next_closing e.command later) (next_column later) in
    let burst_bars = burst_same act (is_column e.command) (λ next. is_seen v (burst_start c.timing e) (burst_until_of c.timing e next))
    (λ next. burst_shape (x_of v (burst_start c.timing e)) (width_of v (burst_start c.timing e) (burst_until_of c.timing e next)) e.command)
    (next_closing e.command later) (next_column later) (no_column e.command) in
    ap (λ text. text ++ (burst c.timing v e later ++ bars c v later)) row
    ∙ ap (λ text. row_by c v e (next_ending e later) ++ (text ++ bars c v later)) burst_bars
    ∙ sym (append_assoc (row_by c v e (next_ending e later)) (burst_by c.timing v e (next_ending e later)) (bars c v later))

row_unseen : (c : Config) (v : View) (e : Entry) (closed : ℕ) → is_seen v e.cycle closed ≡ false → row_bar c v e closed ≡ []
unfolding row_bar
row_unseen c v e closed h = cond-false _ _ _ h

-- a row that isn't seen, until whatever it is closed
no_row : (c : Config) (v : View) (e : Entry) (next : Option Entry) → is_seen v e.cycle (unwrap_or (closed_at_of c.timing e next) v.to) ≡ false → row_by c v e next ≡ []
no_row c v e next h = go (is_activate e.command && is_in c.geometry e.command)
  where
    go : (b : Bool) → cond b (row_bar c v e (unwrap_or (closed_at_of c.timing e next) v.to)) [] ≡ []
    go true = row_unseen c v e _ h
    go false = refl

and_front : (a b : Bool) (text : List ℕ) → a ≡ false → cond (a && b) text [] ≡ []
and_front false b text h = refl
and_front true b text h = absurd cc

and_back : (a b : Bool) (text : List ℕ) → b ≡ false → cond (a && b) text [] ≡ []
and_back false b text h = refl
and_back true false text h = refl
and_back true true text h = absurd cc

no_burst : (t : Timing) (v : View) (e : Entry) (next : Option Entry) → is_column e.command ≡ false → burst_by t v e next ≡ []
no_burst t v e next h =
    and_front (is_column e.command) (is_seen v (burst_start t e) (burst_until_of t e next)) (burst_shape (x_of v (burst_start t e)) (width_of v (burst_start t e) (burst_until_of t e next)) e.command) h

pub gone_text : (c : Config) (v wide : View) (e : Entry) (next later : Option Entry) → IsWithin v wide → is_gone c wide e next ≡ true → bar_by c v e (first_of next later) ≡ []
unfolding bar_by
gone_text c v wide e None later within h = absurd cc
gone_text c v wide e (Some next) later within h = go (is_activate e.command) (is_seen wide e.cycle (closed_by c.timing e next)) refl refl h
  where
    go : (act seen : Bool) → is_activate e.command ≡ act → is_seen wide e.cycle (closed_by c.timing e next) ≡ seen → (act && not seen) ≡ true → row_by c v e (Some next) ++ burst_by c.timing v e (Some next) ≡ []
    go false seen acts is both = absurd cc
    go true true acts is both = absurd cc
    go true false acts is both =
        let row = no_row c v e (Some next) (unseen v wide e.cycle (closed_by c.timing e next) (closed_by c.timing e next) within (omega arith) is) in
        ap (λ text. text ++ burst_by c.timing v e (Some next)) row ∙ no_burst c.timing v e (Some next) (no_column e.command acts)

pub or_left : (a b : Bool) → (a || b) ≡ false → a ≡ false
or_left false b h = refl
or_left true b h = absurd cc

pub or_right : (a b : Bool) → (a || b) ≡ false → b ≡ false
or_right false b h = h
or_right true b h = absurd cc

until_end : (start_next end : ℕ) (followed : Bool) → (followed ≡ true → start_next ≤ end) → cond followed start_next end ≤ end
until_end start_next end true early = early refl
until_end start_next end false early = omega arith

followed_early : (start next end : ℕ) → (nat_lt start next && nat_le next end) ≡ true → next ≤ end
followed_early start next end h = grind (arith, nat_tests)

until_burst_end : (t : Timing) (e : Entry) (next : Option Entry) → burst_until_of t e next ≤ burst_end t e
until_burst_end t e None = omega arith
until_burst_end t e (Some next) =
    until_end (burst_start t next) (burst_end t e) (is_followed t e (Some next)) (followed_early (burst_start t e) (burst_start t next) (burst_end t e))

-- no bar of a command that can have none in the wider view
pub no_bar : (c : Config) (v wide : View) (e : Entry) (next : Option Entry) → IsWithin v wide → may_have_bar c wide e ≡ false → bar_by c v e next ≡ []
unfolding bar_by
no_bar c v wide e next within h =
    let row_there = is_activate e.command && (is_in c.geometry e.command && is_seen wide e.cycle wide.to) in
    let burst_there = is_column e.command && is_seen wide (burst_start c.timing e) (burst_end c.timing e) in
    ap (λ text. text ++ burst_by c.timing v e next) (row (is_activate e.command) (is_in c.geometry e.command) (is_seen wide e.cycle wide.to) refl refl refl (or_left row_there burst_there h))
    ∙ column_bar (is_column e.command) (is_seen wide (burst_start c.timing e) (burst_end c.timing e)) refl refl (or_right row_there burst_there h)
  where
    closed : ℕ
    closed = unwrap_or (closed_at_of c.timing e next) v.to

    until : ℕ
    until = burst_until_of c.timing e next

    row : (act inside seen : Bool) → is_activate e.command ≡ act → is_in c.geometry e.command ≡ inside → is_seen wide e.cycle wide.to ≡ seen → (act && (inside && seen)) ≡ false → row_by c v e next ≡ []
    row false inside seen acts lies is none = and_front (is_activate e.command) (is_in c.geometry e.command) (row_bar c v e closed) acts
    row true false seen acts lies is none = and_back (is_activate e.command) (is_in c.geometry e.command) (row_bar c v e closed) lies
    row true true true acts lies is none = absurd cc
    row true true false acts lies is none = no_row c v e next (unseen_to_end v wide e.cycle closed within is)

    column_bar : (column seen : Bool) → is_column e.command ≡ column → is_seen wide (burst_start c.timing e) (burst_end c.timing e) ≡ seen → (column && seen) ≡ false → burst_by c.timing v e next ≡ []
    column_bar false seen is shown none = no_burst c.timing v e next is
    column_bar true true is shown none = absurd cc
    column_bar true false is shown none =
        and_back (is_column e.command) (is_seen v (burst_start c.timing e) until) (burst_shape (x_of v (burst_start c.timing e)) (width_of v (burst_start c.timing e) until) e.command)
        (unseen v wide (burst_start c.timing e) until (burst_end c.timing e) within (until_burst_end c.timing e next) shown)
