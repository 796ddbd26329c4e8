-- What channels do in their cycles, some at once or one after another.
use Rattle.std.proofs.Common.{◌≡◌, ◌≢◌, ◌≤◌, ◌+◌, ◌*◌, ℕ, zero, suc, Bool, true, false, List, [], ◌∷◌, Option, None, Some, if◌then◌else◌, refl, sym, ap, ap₂, ◌∙◌, arith}
use Rattle.std.specs.Prelude.{◌-◌, min, max}
use Rattle.std.specs.List.{slice_get, slice_index_or, slice_set}
use Rattle.std.specs.Option.{option_map, option_map_or}
use Rattle.std.proofs.Math.Nat.{suc-mul}
use Rattle.std.proofs.lemmas.Option.{slice_get-map}
use Rattle.ddr_statistics.specs.Noted.{raised}
use Rattle.ddr_channel.specs.State as channel
use Rattle.ddr_channel.proofs.QuietLemmas.{cycles_idle}
use Rattle.ddr_world.specs.Quiet.{IsQuietSide, passed, side_passed}
use Rattle.ddr_world.specs.State.{ChannelSide, State}
use Rattle.ddr_ledger.specs.declared.activity.Activity.{Activity}
use Rattle.ddr_ledger.specs.declared.activity.Held.{Held}
use Rattle.ddr_ledger.specs.declared.activity.Seen.{Seen}
use Rattle.ddr_ledger.specs.Activities.{all_acted}
use Rattle.ddr_ledger.specs.Activity.{acted, held, no_activity, nothing_seen, seen_at, seen_of}
use Rattle.ddr_ledger.specs.Ledgers.{Ledger, with_activity, with_full}
use Rattle.ddr_ledger.specs.Stalls.{Stalled, idled, no_stalls}
use Rattle.ddr_replay.specs.Waits.{all_full, filled}

-- of one channel

once_more : (cycles n : ℕ) → raised (suc cycles) (raised 1 n) ≡ raised (suc (suc cycles)) n
once_more cycles n = omega arith

drained_again : (cycles n : ℕ) (b : Bool) → (if b then raised (suc cycles) (if b then raised 1 n else n) else (if b then raised 1 n else n)) ≡ (if b then raised (suc (suc cycles)) n else n)
drained_again cycles n true = once_more cycles n
drained_again cycles n false = refl

held_again : (cycles count : ℕ) (h : Held) → held (suc cycles) count (held 1 count h) ≡ held (suc (suc cycles)) count h
held_again cycles count h =
    let sum : min (min (h.sum + 1 * count) 18446744073709551615 + suc cycles * count) 18446744073709551615 ≡ min (h.sum + suc (suc cycles) * count) 18446744073709551615 =
    omega (arith, suc-mul 0 count, suc-mul (suc cycles) count) in
    let most : max (max h.most count) count ≡ max h.most count = omega arith in
    ap₂ (λ (a b : ℕ). record { sum = a; most = b }) sum most

acted_again : (cycles : ℕ) (seen : Seen) (a : Activity) → acted (suc cycles) seen (acted 1 seen a) ≡ acted (suc (suc cycles)) seen a
acted_again cycles seen a =
    let first = acted 1 seen a in
    ap₂ (λ (n : ℕ) (h : Held). record { drains = n; reads = h; writes = held (suc cycles) seen.writes first.writes; waiting = held (suc cycles) seen.waiting first.waiting }) (drained_again cycles a.drains seen.draining) (held_again cycles seen.reads a.reads)
    ∙ ap₂ (λ (h k : Held). record (acted (suc (suc cycles)) seen a) { writes = h; waiting = k }) (held_again cycles seen.writes a.writes) (held_again cycles seen.waiting a.waiting)

-- what its commands wait for

waiting_again : (now cycles first w : ℕ) (busy : Bool)
    → raised (suc cycles - min (suc cycles) (now + 1 + suc cycles - first)) (raised ((if busy then 1 - 1 else 1) - min (if busy then 1 - 1 else 1) (now + 1 - first)) w)
    ≡ raised ((if busy then suc (suc cycles) - 1 else suc (suc cycles)) - min (if busy then suc (suc cycles) - 1 else suc (suc cycles)) (now + suc (suc cycles) - first)) w
waiting_again now cycles first w true = omega arith
waiting_again now cycles first w false = omega arith

cap_again : (now cycles first n : ℕ) (busy : Bool)
    → raised (min (suc cycles) (now + 1 + suc cycles - first)) (raised (min (if busy then 1 - 1 else 1) (now + 1 - first)) n)
    ≡ raised (min (if busy then suc (suc cycles) - 1 else suc (suc cycles)) (now + suc (suc cycles) - first)) n
cap_again now cycles first n true = omega arith
cap_again now cycles first n false = omega arith

idled_again : (now cycles : ℕ) (oldest : Option ℕ) (s : Stalled) → idled (now + 1) (suc cycles) oldest (idled now 1 oldest s) ≡ idled now (suc (suc cycles)) oldest s
idled_again now cycles None s = refl
idled_again now cycles (Some admitted) s =
    let first = admitted + s.config.limits.cap in
    ap₂ (λ (w n : ℕ). record s { busy = false; waiting = w; causes = record s.causes { cap = n } }) (waiting_again now cycles first s.waiting s.busy) (cap_again now cycles first s.causes.cap s.busy)

-- of one channel of several

abbrev change_in : {X : Type 0} → (X → X) → X → ℕ → List X → List X
change_in change none c all = slice_set all c (change (slice_index_or all c none))

changed_again : {X : Type 0} (first more both : X → X) → ((x : X) → more (first x) ≡ both x) → (none : X) (c : ℕ) (all : List X) → change_in more none c (change_in first none c all) ≡ change_in both none c all
changed_again first more both is none c [] = refl
changed_again first more both is none zero (x ∷ rest) = ap (λ y. y ∷ rest) (is x)
changed_again first more both is none (suc c) (x ∷ rest) = ap (λ ys. x ∷ ys) (changed_again first more both is none c rest)

changed_beside : {X : Type 0} (f g : X → X) (none : X) (c d : ℕ) (all : List X) → c ≢ d → change_in f none c (change_in g none d all) ≡ change_in g none d (change_in f none c all)
changed_beside f g none c d [] other = refl
changed_beside f g none zero zero (x ∷ rest) other = absurd (other refl)
changed_beside f g none zero (suc d) (x ∷ rest) other = refl
changed_beside f g none (suc c) zero (x ∷ rest) other = refl
changed_beside f g none (suc c) (suc d) (x ∷ rest) other = ap (λ ys. x ∷ ys) (changed_beside f g none c d rest (λ e. other (ap suc e)))

abbrev with_both : Ledger → List Activity → List Stalled → Ledger
with_both ledger activity stalls = record ledger { activity = activity; stalls = stalls }

-- of the first so many channels, and one behind them
channels_beside : (now later cycles c n : ℕ) (seen : ℕ → Seen) (ledger : Ledger) → n ≤ c → all_acted later cycles seen n (with_activity c now 1 (seen c) ledger) ≡ with_activity c now 1 (seen c) (all_acted later cycles seen n ledger)
channels_beside now later cycles c zero seen ledger below = refl
channels_beside now later cycles c (suc n) seen ledger below =
    let before = all_acted later cycles seen n ledger in
    let apart : n ≢ c = λ e. absurd (omega (arith, below, e)) in
    ap (with_activity n later cycles (seen n)) (channels_beside now later cycles c n seen ledger (omega (arith, below)))
    ∙ ap₂ (with_both before) (changed_beside (acted cycles (seen n)) (acted 1 (seen c)) no_activity n c before.activity apart)
    (changed_beside (idled later cycles (seen n).oldest) (idled now 1 (seen c).oldest) (no_stalls before.config) n c before.stalls apart)

-- one cycle, and some more
pub channels_again : (now cycles n : ℕ) (seen : ℕ → Seen) (ledger : Ledger) → all_acted (now + 1) (suc cycles) seen n (all_acted now 1 seen n ledger) ≡ all_acted now (suc (suc cycles)) seen n ledger
channels_again now cycles zero seen ledger = refl
channels_again now cycles (suc c) seen ledger =
    let before = all_acted (now + 1) (suc cycles) seen c (all_acted now 1 seen c ledger) in
    ap (with_activity c (now + 1) (suc cycles) (seen c)) (channels_beside now (now + 1) (suc cycles) c c seen (all_acted now 1 seen c ledger) (omega arith))
    ∙ ap₂ (with_both before) (changed_again (acted 1 (seen c)) (acted (suc cycles) (seen c)) (acted (suc (suc cycles)) (seen c)) (acted_again cycles (seen c)) no_activity c before.activity)
    (changed_again (idled now 1 (seen c).oldest) (idled (now + 1) (suc cycles) (seen c).oldest) (idled now (suc (suc cycles)) (seen c).oldest) (idled_again now cycles (seen c).oldest) (no_stalls before.config) c before.stalls)
    ∙ ap (with_activity c now (suc (suc cycles)) (seen c)) (channels_again now cycles c seen ledger)

-- where the same is seen it comes to the same
pub channels_alike : (now cycles n : ℕ) (seen other : ℕ → Seen) (ledger : Ledger) → ((c : ℕ) → seen c ≡ other c) → all_acted now cycles seen n ledger ≡ all_acted now cycles other n ledger
channels_alike now cycles zero seen other ledger alike = refl
channels_alike now cycles (suc c) seen other ledger alike =
    ap (λ (s : Seen). with_activity c now cycles s (all_acted now cycles seen c ledger)) (alike c)
    ∙ ap (with_activity c now cycles (other c)) (channels_alike now cycles c seen other ledger alike)

-- ports that wait are counted beside them

one_past : (rounds p : ℕ) (v : Bool) (now cycles c : ℕ) (seen : Seen) (ledger : Ledger)
    → (if v then with_full p rounds (with_activity c now cycles seen ledger) else with_activity c now cycles seen ledger) ≡ with_activity c now cycles seen (if v then with_full p rounds ledger else ledger)
one_past rounds p true now cycles c seen ledger = refl
one_past rounds p false now cycles c seen ledger = refl

port_past : (rounds p now cycles n : ℕ) (come : ℕ → Bool) (seen : ℕ → Seen) (ledger : Ledger) → filled rounds come p (all_acted now cycles seen n ledger) ≡ all_acted now cycles seen n (filled rounds come p ledger)
port_past rounds p now cycles zero come seen ledger = refl
port_past rounds p now cycles (suc c) come seen ledger =
    one_past rounds p (come p) now cycles c (seen c) (all_acted now cycles seen c ledger) ∙ ap (with_activity c now cycles (seen c)) (port_past rounds p now cycles c come seen ledger)

pub ports_past : (rounds ports now cycles n : ℕ) (come : ℕ → Bool) (seen : ℕ → Seen) (ledger : Ledger) → all_full rounds come ports (all_acted now cycles seen n ledger) ≡ all_acted now cycles seen n (all_full rounds come ports ledger)
ports_past rounds zero now cycles n come seen ledger = refl
ports_past rounds (suc p) now cycles n come seen ledger =
    ap (filled rounds come p) (ports_past rounds p now cycles n come seen ledger) ∙ port_past rounds p now cycles n come seen (all_full rounds come p ledger)

-- in quiet cycles the same is seen of a channel as behind the first

abbrev seen_in : Option ChannelSide → Seen
seen_in o = option_map_or seen_of o nothing_seen

settled_of : (count : ℕ) (o : Option ChannelSide) → ((side : ChannelSide) → o ≡ Some side → IsQuietSide (suc count) side) → seen_in (option_map (side_passed (suc count)) o) ≡ seen_in (option_map (side_passed 1) o)
settled_of count None each = refl
settled_of count (Some side) each =
    let quiet = (each side refl).channel in
    let seen : channel.State → Seen = λ s. seen_of (record side { channel = s }) in
    ap seen (cycles_idle (suc count) side.channel quiet) ∙ sym (ap seen (cycles_idle 1 side.channel (quiet.0, tt)))

pub seen_settled : (count c : ℕ) (s : State) → ((k : ℕ) (side : ChannelSide) → slice_get s.channels k ≡ Some side → IsQuietSide (suc count) side) → seen_at (passed (suc count) s) c ≡ seen_at (passed 1 s) c
seen_settled count c s each =
    ap seen_in (slice_get-map (side_passed (suc count)) s.channels c) ∙ settled_of count (slice_get s.channels c) (each c) ∙ sym (ap seen_in (slice_get-map (side_passed 1) s.channels c))
