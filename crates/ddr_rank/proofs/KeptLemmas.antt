-- What is kept of several banks or groups, against the last command of the whole history.
use Rattle.std.proofs.Common.{◌≡◌, ◌≢◌, ℕ, ◌+◌, ◌*◌, ◌/◌, ◌%◌, ◌<◌, Bool, true, false, ◌&&◌, not, ◌==◌, if◌then◌else◌, List, length, slice_index_or, Option, None, refl, sym, arith, ◌∙◌}
use Rattle.std.proofs.lemmas.Bool.Decides.{nat_tests}
use Rattle.ddr_timing.specs.declared.units.TheConstants.{GROUP_BANKS}
use Rattle.ddr_trace.specs.declared.command.Command.{Command}
use Rattle.ddr_trace.specs.declared.command.Command.TheVariants.{Act, Pre, PreAll}
use Rattle.ddr_trace.specs.declared.command.Entry.{Entry}
use Rattle.ddr_trace.specs.Commands.{bank_of, group_of, is_activate, is_other_bank, is_other_group, is_precharge, is_read, is_write, rank_of}
use Rattle.ddr_trace.specs.Rules.{is_in}
use Rattle.ddr_rank.proofs.LatestLemmas.{any_below, any_below-none, any_below-one, any_below-some, latest-alike, latest-none, latest_among-latest}
use Rattle.ddr_trace.proofs.PlaceLemmas.{bank_in, group_in}
use Rattle.ddr_rank.proofs.PlaceLemmas.{same_number}
use Rattle.ddr_rank.specs.declared.last.LastKind.{LastKind}
use Rattle.ddr_rank.specs.declared.last.LastKind.TheVariants.{Activate, Read, Write}
use Rattle.ddr_rank.specs.declared.last.Last.{Last}
use Rattle.ddr_rank.specs.Breaks.{all_groups, any_precharge, other_banks, other_groups}
use Rattle.ddr_rank.specs.Latest.{latest}
use Rattle.ddr_rank.specs.Readiness.{Readiness, bank_at, group_at, last_of}
use Rattle.ddr_rank.specs.Stands.{KeepsLast, StandsFor, is_of_bank, is_of_group, is_of_rank}

abbrev pub is_kind : LastKind → Command → Bool
is_kind Activate c = is_activate c
is_kind Read c = is_read c
is_kind Write c = is_write c

pub last_told : (place : Command → Bool) (history : List Entry) (last : Last) → KeepsLast place history last → (kind : LastKind) → last_of kind last ≡ latest (λ a. is_kind kind a && place a) history
last_told place history last kept Activate = kept.activate
last_told place history last kept Read = kept.read
last_told place history last kept Write = kept.write

other_number : (m n : ℕ) → m ≢ n → (n == m) ≡ false
other_number m n apart = grind (arith, nat_tests)

-- a command that is left out
unless : (w : Bool) (o : Option ℕ) (p : Command → Bool) (history : List Entry) → o ≡ latest p history → (if w then None else o) ≡ latest (λ a. not w && p a) history
unless true o p history same = sym (latest-none (λ _. false) history (λ _. refl))
unless false o p history same = same

-- of the groups one alone is a command's, and of its banks one alone
dead : (x y z : Bool) → (x && (y && (z && false))) ≡ false
dead true true true = refl
dead true true false = refl
dead true false z = refl
dead false y z = refl

dead_all : (x y : Bool) → (x && (y && false)) ≡ false
dead_all true true = refl
dead_all true false = refl
dead_all false y = refl

moved : (n k r : Bool) → (n && (k && (r && true))) ≡ (k && (r && n))
moved true true true = refl
moved true true false = refl
moved true false r = refl
moved false true true = refl
moved false true false = refl
moved false false r = refl

alone : (k r : Bool) → (k && (r && true)) ≡ (k && r)
alone true true = refl
alone true false = refl
alone false r = refl

pub other_groups_told : (r : Readiness) (k : ℕ) (history : List Entry) → StandsFor r k history → (kind : LastKind) (g : ℕ) → other_groups r kind g ≡ latest (λ a. is_kind kind a && is_other_group a (Pre k g 0)) history
other_groups_told r k history s kind g =
    latest_among-latest (λ i. if i == g then None else last_of kind (group_at r i)) (λ i a. not (i == g) && (is_kind kind a && is_of_group k i a)) history r.config.geometry.groups
    (λ i within. unless (i == g) _ (λ a. is_kind kind a && is_of_group k i a) history (last_told _ history _ (s.groups i within) kind))
    ∙ latest-alike r.config.geometry _ _ history s.placed (λ a placed.
    any_below-one (λ i. not (i == g) && (is_kind kind a && is_of_group k i a)) r.config.geometry.groups (group_of a) (group_in r.config.geometry a placed) (λ i apart. rw (other_number i (group_of a) apart) (dead (not (i == g)) (is_kind kind a) (rank_of a == k)))
    ∙ rw (same_number (group_of a)) (moved (not (group_of a == g)) (is_kind kind a) (rank_of a == k)))

pub all_groups_told : (r : Readiness) (k : ℕ) (history : List Entry) → StandsFor r k history → (kind : LastKind) → all_groups r kind ≡ latest (λ a. is_kind kind a && is_of_rank k a) history
all_groups_told r k history s kind =
    latest_among-latest (λ i. last_of kind (group_at r i)) (λ i a. is_kind kind a && is_of_group k i a) history r.config.geometry.groups
    (λ i within. last_told _ history _ (s.groups i within) kind)
    ∙ latest-alike r.config.geometry _ _ history s.placed (λ a placed.
    any_below-one (λ i. is_kind kind a && is_of_group k i a) r.config.geometry.groups (group_of a) (group_in r.config.geometry a placed) (λ i apart. rw (other_number i (group_of a) apart) (dead_all (is_kind kind a) (rank_of a == k)))
    ∙ rw (same_number (group_of a)) (alone (is_kind kind a) (rank_of a == k)))

-- an ACT is of one bank
one_bank : (k g b n : ℕ) (a : Command) → bank_of a < n → any_below (λ i. not (i == b) && (is_activate a && is_of_bank k g i a)) n ≡ (is_activate a && is_other_bank a (Pre k g b))
one_bank k g b n (Act k' g' b' w) within =
    any_below-one (λ i. not (i == b) && (is_activate (Act k' g' b' w) && is_of_bank k g i (Act k' g' b' w))) n b' within (λ i apart. rw (other_number i b' apart) (dead (not (i == b)) (k' == k) (g' == g)))
    ∙ rw (same_number b') (moved_bank (not (b' == b)) (k' == k) (g' == g))
  where
    moved_bank : (n r g : Bool) → (n && (r && (g && true))) ≡ ((r && g) && n)
    moved_bank true true true = refl
    moved_bank true true false = refl
    moved_bank true false g = refl
    moved_bank false true true = refl
    moved_bank false true false = refl
    moved_bank false false g = refl
one_bank k g b n _ within = any_below-none _ n (λ i _. none (not (i == b)))
  where
    none : (x : Bool) → (x && false) ≡ false
    none true = refl
    none false = refl

pub other_banks_told : (r : Readiness) (k : ℕ) (history : List Entry) → StandsFor r k history → (g b : ℕ) → g < r.config.geometry.groups → other_banks r g b ≡ latest (λ a. is_activate a && is_other_bank a (Pre k g b)) history
other_banks_told r k history s g b group =
    latest_among-latest (λ i. if i == b then None else (bank_at r g i).last.activate) (λ i a. not (i == b) && (is_activate a && is_of_bank k g i a)) history GROUP_BANKS
    (λ i within. unless (i == b) _ (λ a. is_activate a && is_of_bank k g i a) history (s.banks g i group within).last.activate)
    ∙ latest-alike r.config.geometry _ _ history s.placed (λ a placed. one_bank k g b GROUP_BANKS a (bank_in r.config.geometry a placed))

-- a precharge is of one bank or of all
some_bank : (k n : ℕ) (a : Command) → group_of a * GROUP_BANKS + bank_of a < n → bank_of a < GROUP_BANKS → any_below (λ i. is_precharge a && is_of_bank k (i / 4) (i % 4) a) n ≡ (is_precharge a && is_of_rank k a)
some_bank k n (Pre k' g b) within bank =
    let group_is : (g * 4 + b) / 4 ≡ g = omega arith in
    let bank_is : (g * 4 + b) % 4 ≡ b = omega arith in
    by_rank (k' == k) refl
  where
    by_rank : (w : Bool) → (k' == k) ≡ w → any_below (λ i. is_of_bank k (i / 4) (i % 4) (Pre k' g b)) n ≡ w
    by_rank true e =
        let group_is : (g * 4 + b) / 4 ≡ g = omega arith in
        let bank_is : (g * 4 + b) % 4 ≡ b = omega arith in
        any_below-some _ n (g * 4 + b) within (rw (group_is, bank_is, e, same_number g, same_number b) refl)
    by_rank false e = any_below-none _ n (λ i _. rw e refl)
some_bank k n (PreAll k') within bank = by_rank (k' == k) refl
  where
    by_rank : (w : Bool) → (k' == k) ≡ w → any_below (λ i. is_of_bank k (i / 4) (i % 4) (PreAll k')) n ≡ w
    by_rank true e = any_below-some _ n 0 within (rw e refl)
    by_rank false e = any_below-none _ n (λ i _. rw e refl)
some_bank k n _ within bank = any_below-none _ n (λ i _. refl)

pub any_precharge_told : (r : Readiness) (k : ℕ) (history : List Entry) → StandsFor r k history → any_precharge r ≡ latest (λ a. is_precharge a && is_of_rank k a) history
any_precharge_told r k history s =
    latest_among-latest _ (λ i a. is_precharge a && is_of_bank k (i / 4) (i % 4) a) history (length r.banks) kept
    ∙ latest-alike r.config.geometry _ _ history s.placed (λ a placed. some_bank k (length r.banks) a (place a placed) (bank_in r.config.geometry a placed))
  where
    kept : (i : ℕ) → i < length r.banks → (slice_index_or r.banks i record { opened = None; precharge = None; last = record { activate = None; read = None; write = None } }).precharge ≡ latest (λ a. is_precharge a && is_of_bank k (i / 4) (i % 4) a) history
    kept i within =
        let place : i / 4 * 4 + i % 4 ≡ i = omega arith in
        let group : i / 4 < r.config.geometry.groups = omega (arith, s.whole.banks) in
        let bank : i % 4 < GROUP_BANKS = omega arith in
        rw place at (s.banks (i / 4) (i % 4) group bank).precharge

    place : (a : Command) → is_in r.config.geometry a ≡ true → group_of a * GROUP_BANKS + bank_of a < length r.banks
    place a placed =
        omega (arith, s.whole.banks, group_in r.config.geometry a placed, bank_in r.config.geometry a placed)
