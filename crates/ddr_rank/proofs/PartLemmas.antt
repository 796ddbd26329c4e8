-- The first cycles as a rank keeps them, in parts, and those that contracts see.
use Rattle.std.proofs.Common.{◌≡◌, ℕ, ◌+◌, ◌*◌, ◌/◌, ◌%◌, ◌<◌, ◌≤◌, Bool, true, false, ◌==◌, if◌then◌else◌, max, List, length, slice_index_or, replicate, refl, sym, ap, arith, ◌∙◌}
use Rattle.std.proofs.Math.Nat.{max-zero, zero-max}
use Rattle.std.proofs.lemmas.Bool.Decides.{nat_tests}
use Rattle.std.proofs.lemmas.List.{get_or_read, length-replicate}
use Rattle.std.proofs.lemmas.List.FromFn.{fill_by_all, get_or-map-range_with_len, length-map-range_with_len}
use Rattle.ddr_timing.specs.declared.geometry.Geometry.{Geometry}
use Rattle.ddr_timing.specs.declared.timing.Timing.{Timing}
use Rattle.ddr_timing.specs.declared.units.TheConstants.{GROUP_BANKS, MOST_GROUPS}
use Rattle.ddr_trace.specs.declared.command.Command.{Command}
use Rattle.ddr_trace.specs.declared.command.Command.TheVariants.{Act, Rd, Wr, RdAuto, WrAuto, Pre, PreAll, Refresh}
use Rattle.ddr_trace.specs.Commands.{entry}
use Rattle.ddr_rank.proofs.NotedLemmas.{all_blank}
use Rattle.ddr_rank.specs.declared.ready.FirstCycles.{FirstCycles}
use Rattle.ddr_rank.specs.declared.ready.Ready.{Ready}
use Rattle.ddr_rank.specs.declared.ready.ReadyColumns.{ReadyColumns}
use Rattle.ddr_rank.specs.Parts.{AreRaised, asked_of_bank, asked_of_group, columns_free, columns_raised, joined, joined_at, ready_of}
use Rattle.ddr_rank.specs.Ready.{asked_of, asks_of, free, raised}

-- there is room for each group
pub group_fits : (g : Geometry) (n : ℕ) → n < g.groups → n < MOST_GROUPS
group_fits g n within = grind (arith, nat_tests, g.groups_are)

pub groups_fit : (g : Geometry) → g.groups ≤ MOST_GROUPS
groups_fit g = grind (arith, nat_tests, g.groups_are)

-- what asks nothing raises nothing
pub raised_none : (r : Ready) → raised free r ≡ r
raised_none r = rw (max-zero r.activate, max-zero r.read, max-zero r.write, max-zero r.precharge) refl

pub raised_activate : (to : ℕ) (r : Ready) → record r { activate = max r.activate to } ≡ raised (record free { activate = to }) r
raised_activate to r = rw (max-zero r.read, max-zero r.write, max-zero r.precharge) refl

pub raised_precharge : (to : ℕ) (r : Ready) → record r { precharge = max r.precharge to } ≡ raised (record free { precharge = to }) r
raised_precharge to r = rw (max-zero r.activate, max-zero r.read, max-zero r.write) refl

columns_raised_none : (c : ReadyColumns) → columns_raised columns_free c ≡ c
columns_raised_none c = rw (max-zero c.read, max-zero c.write) refl

-- each part raised for itself
max_parts : (x p y q : ℕ) → max (max x p) (max y q) ≡ max (max x y) (max p q)
max_parts x p y q = omega arith

joined_raised : (a r : Ready) (b c : ReadyColumns) → joined (raised a r) (columns_raised b c) ≡ raised (joined a b) (joined r c)
joined_raised a r b c = rw (max_parts r.read a.read c.read b.read, max_parts r.write a.write c.write b.write) refl

-- what is asked, in parts
bank_alone : (r : Ready) → r ≡ joined r columns_free
bank_alone r = rw (max-zero r.read, max-zero r.write) refl

column_parts : (x z : Bool) (precharge : ℕ) (own others : ReadyColumns) → (if x then (if z then record { activate = 0; read = own.read; write = own.write; precharge = precharge } else record free { read = own.read; write = own.write }) else record free { read = others.read; write = others.write }) ≡ joined (if x then (if z then record free { precharge = precharge } else free) else free) (if x then own else others)
column_parts true true precharge own others = rw (zero-max own.read, zero-max own.write) refl
column_parts true false precharge own others = rw (zero-max own.read, zero-max own.write) refl
column_parts false z precharge own others = rw (zero-max others.read, zero-max others.write) refl

anywhere : (x z : Bool) (r : Ready) → (if x then (if z then r else r) else r) ≡ r
anywhere true true r = refl
anywhere true false r = refl
anywhere false z r = refl

parts : (t : Timing) (cycle : ℕ) (c : Command) (g b : ℕ) → asked_of (asks_of t (entry cycle c)) g b ≡ joined (asked_of_bank t cycle c g b) (asked_of_group t cycle c g)
parts t cycle (Act k g' b' w) g b = bank_alone _
parts t cycle (Rd k g' b' w l) g b = column_parts (g' == g) (b' == b) _ _ _
parts t cycle (Wr k g' b' w l) g b = column_parts (g' == g) (b' == b) _ _ _
parts t cycle (RdAuto k g' b' w l) g b = column_parts (g' == g) (b' == b) _ _ _
parts t cycle (WrAuto k g' b' w l) g b = column_parts (g' == g) (b' == b) _ _ _
parts t cycle (Pre k g' b') g b = bank_alone _
parts t cycle (PreAll k) g b = anywhere (0 == g) (0 == b) _ ∙ bank_alone _
parts t cycle (Refresh k) g b = anywhere (0 == g) (0 == b) _ ∙ bank_alone _

-- the first cycles of a bank that there is
bank_joined : (f : FirstCycles) (groups g b : ℕ) → length f.banks.items ≡ groups * GROUP_BANKS → g < groups → b < GROUP_BANKS → slice_index_or (ready_of f) (g * GROUP_BANKS + b) free ≡ joined (slice_index_or f.banks.items (g * GROUP_BANKS + b) free) (slice_index_or f.columns g columns_free)
bank_joined f groups g b whole group bank =
    let within : g * 4 + b < length f.banks.items = omega arith in
    let group_is : (g * 4 + b) / 4 ≡ g = omega arith in
    get_or-map-range_with_len (joined_at f) 0 (length f.banks.items) (g * 4 + b) (g * 4 + b) free within (omega arith)
    ∙ ap (λ n. joined (slice_index_or f.banks.items (g * 4 + b) free) (slice_index_or f.columns n columns_free)) group_is

-- told by what the code reads of it
pub bank_told : (f : FirstCycles) (groups g b n : ℕ) (x : Ready) → length f.banks.items ≡ groups * GROUP_BANKS → g < groups → b < GROUP_BANKS → n ≡ g * GROUP_BANKS + b → x ≡ slice_index_or f.banks.items n x → joined x (slice_index_or f.columns g columns_free) ≡ slice_index_or (ready_of f) (g * GROUP_BANKS + b) free
bank_told f groups g b n x whole group bank is read =
    let within : n < length f.banks.items = omega arith in
    ap (λ r. joined r (slice_index_or f.columns g columns_free)) (rw is at (get_or_read f.banks.items n x within read free))
    ∙ sym (bank_joined f groups g b whole group bank)

pub ready_size : (f : FirstCycles) → length (ready_of f) ≡ length f.banks.items
ready_size f = length-map-range_with_len (joined_at f) 0 (length f.banks.items)

-- before the first command
pub all_free_joined : (f : FirstCycles) (n : ℕ) → f.banks.items ≡ replicate n free → ((g : ℕ) → slice_index_or f.columns g columns_free ≡ columns_free) → ready_of f ≡ replicate n free
all_free_joined f n banks columns =
    sym (rw (ap (λ (xs : List Ready). length xs) banks, length-replicate n free) (fill_by_all (joined_at f) (replicate n free) n free (length-replicate n free) (λ k within. all_blank n _ free refl k ∙ sym (ap (λ r. joined r (slice_index_or f.columns (k / GROUP_BANKS) columns_free)) (all_blank n f.banks.items free banks k) ∙ ap (joined free) (columns (k / GROUP_BANKS))))))

-- the parts raised, and so all first cycles
pub ready_raised : (t : Timing) (cycle : ℕ) (c : Command) (old new : FirstCycles) (groups : ℕ) → length old.banks.items ≡ groups * GROUP_BANKS → groups ≤ MOST_GROUPS → AreRaised t cycle c old new
    → (number : ℕ) → number < length (ready_of old) → slice_index_or (ready_of new) number free ≡ raised (asked_of (asks_of t (entry cycle c)) (number / GROUP_BANKS) (number % GROUP_BANKS)) (slice_index_or (ready_of old) number free)
ready_raised t cycle c old new groups whole few up number within =
    let here : number < length old.banks.items = rw ready_size at within in
    let there : number < length new.banks.items = omega (arith, up.size) in
    let group : number / 4 < 4 = omega arith in
    let as_old = get_or-map-range_with_len (joined_at old) 0 (length old.banks.items) number number free here (omega arith) in
    let as_new = get_or-map-range_with_len (joined_at new) 0 (length new.banks.items) number number free there (omega arith) in
    rw (as_old, as_new, up.of_banks number here, up.of_columns (number / 4) group, parts t cycle c (number / 4) (number % 4))
    (joined_raised (asked_of_bank t cycle c (number / 4) (number % 4)) (slice_index_or old.banks.items number free) (asked_of_group t cycle c (number / 4)) (slice_index_or old.columns (number / 4) columns_free))
