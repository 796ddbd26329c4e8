-- What is kept after one more command stands for the history with that command.
use Rattle.std.proofs.Common.{◌≡◌, ℕ, zero, suc, ◌+◌, ◌*◌, ◌<◌, Bool, true, false, ◌&&◌, ◌==◌, if◌then◌else◌, List, [], ◌∷◌, ◌++◌, length, map, filter, Option, Some, None, slice_index_or, replicate, refl, sym, ap, arith, ◌∙◌}
use Rattle.std.specs.List.{AllByRecursion}
use Rattle.std.proofs.lemmas.Bool.{ltb-true}
use Rattle.std.proofs.lemmas.Bool.Decides.{nat_tests}
use Rattle.std.proofs.lemmas.List.{length-replicate, get_or-map, length-map, map-append, append-nil}
use Rattle.std.proofs.lemmas.List.Elements.{filter-append}
use Rattle.std.proofs.Math.ListN.{length-set}
use Rattle.circular_buffer.specs.Buffer.{keep_last}
use Rattle.ddr_timing.specs.declared.config.Config.{Config}
use Rattle.ddr_timing.specs.declared.geometry.Geometry.{Geometry}
use Rattle.ddr_timing.specs.declared.units.TheConstants.{GROUP_BANKS}
use Rattle.ddr_trace.specs.declared.command.Command.{Command}
use Rattle.ddr_trace.specs.declared.command.Command.TheVariants.{Act, Rd, Wr, RdAuto, WrAuto, Pre, PreAll, Refresh}
use Rattle.ddr_trace.specs.declared.command.Entry.{Entry}
use Rattle.ddr_trace.specs.Banks.{bank_behind, changed_by}
use Rattle.ddr_trace.specs.Commands.{entry, is_activate, is_precharge, is_read, is_refresh, is_write, rank_of}
use Rattle.ddr_trace.specs.Rules.{is_in}
use Rattle.ddr_trace.proofs.BankLemmas.{bank_behind-append}
use Rattle.ddr_trace.proofs.WindowLemmas.{last_cycle_below-append}
use Rattle.ddr_rank.proofs.FawLemmas.{keep_last-more}
use Rattle.ddr_rank.proofs.LatestLemmas.{latest-append}
use Rattle.ddr_trace.proofs.PlaceLemmas.{bank_in, group_in}
use Rattle.ddr_rank.proofs.PlaceLemmas.{bank_written, group_written, same_number}
use Rattle.ddr_rank.specs.declared.bank.Bank.{Bank}
use Rattle.ddr_rank.specs.declared.last.Last.{Last}
use Rattle.ddr_rank.specs.Latest.{latest}
use Rattle.ddr_rank.proofs.ReadyLemmas.{asked_at, ready_all_away, ready_all_new, ready_all_step, ready_away, ready_new, ready_step}
use Rattle.ddr_rank.specs.declared.ready.Ready.{Ready}
use Rattle.ddr_rank.specs.declared.ready.ReadyAll.{ReadyAll}
use Rattle.ddr_rank.specs.Noted.{IsRaised, bank_noted, last_noted, noted, noted_at, noted_by}
use Rattle.ddr_rank.specs.Ready.{all_free, free}
use Rattle.ddr_rank.specs.Readiness.{IsWhole, Readiness, bank_at, group_at, idle, never, ready_at}
use Rattle.ddr_rank.specs.Stands.{IsAfter, KeepsBank, KeepsLast, StandsFor, activates_of, is_of_bank, is_of_group, is_of_rank}

abbrev AllBelow : ℕ → List Entry → Type 0
AllBelow cycle history = AllByRecursion (λ e. e.cycle < cycle) history

and_true : (a : Bool) → (a && true) ≡ a
and_true true = refl
and_true false = refl

and_false : (a : Bool) → (a && false) ≡ false
and_false true = refl
and_false false = refl

-- the last command of a kind at a place, after one more command: here, or away from the place
time_step : (p : Command → Bool) (history : List Entry) (e : Entry) (o : Option ℕ) → AllBelow e.cycle history → o ≡ latest p history → (if p e.command then Some e.cycle else o) ≡ latest p (history ++ e ∷ [])
time_step p history e o below kept =
    ap (λ t. if p e.command then Some e.cycle else t) kept ∙ sym (latest-append p history e below)

here_step : (kind place : Command → Bool) (history : List Entry) (e : Entry) (o : Option ℕ) → AllBelow e.cycle history → place e.command ≡ true → o ≡ latest (λ a. kind a && place a) history → (if kind e.command then Some e.cycle else o) ≡ latest (λ a. kind a && place a) (history ++ e ∷ [])
here_step kind place history e o below here kept =
    sym (ap (λ w. if w then Some e.cycle else o) (ap (λ w. kind e.command && w) here ∙ and_true (kind e.command)))
    ∙ time_step (λ a. kind a && place a) history e o below kept

away_step : (kind place : Command → Bool) (history : List Entry) (e : Entry) (o : Option ℕ) → AllBelow e.cycle history → place e.command ≡ false → o ≡ latest (λ a. kind a && place a) history → o ≡ latest (λ a. kind a && place a) (history ++ e ∷ [])
away_step kind place history e o below away kept =
    sym (ap (λ w. if w then Some e.cycle else o) (ap (λ w. kind e.command && w) away ∙ and_false (kind e.command)))
    ∙ time_step (λ a. kind a && place a) history e o below kept

last_step : (place : Command → Bool) (history : List Entry) (e : Entry) (last : Last) (w : Bool) → AllBelow e.cycle history → place e.command ≡ w → KeepsLast place history last → KeepsLast place (history ++ e ∷ []) (if w then last_noted e last else last)
last_step place history e last true below here kept = record {
  activate = here_step is_activate place history e last.activate below here kept.activate;
  read = here_step is_read place history e last.read below here kept.read;
  write = here_step is_write place history e last.write below here kept.write;
}
last_step place history e last false below away kept = record {
  activate = away_step is_activate place history e last.activate below away kept.activate;
  read = away_step is_read place history e last.read below away kept.read;
  write = away_step is_write place history e last.write below away kept.write;
}

opened_step : (k g b : ℕ) (history : List Entry) (e : Entry) (w : Bool) → is_of_bank k g b e.command ≡ w → bank_behind (Pre k g b) (history ++ e ∷ []) ≡ (if w then changed_by e (bank_behind (Pre k g b) history) else bank_behind (Pre k g b) history)
opened_step k g b history e w place =
    bank_behind-append (Pre k g b) history e
    ∙ ap (λ here. if here then changed_by e (bank_behind (Pre k g b) history) else bank_behind (Pre k g b) history) place

bank_step : (k g b : ℕ) (history : List Entry) (e : Entry) (bank : Bank) (w : Bool) → AllBelow e.cycle history → is_of_bank k g b e.command ≡ w → KeepsBank k g b history bank → KeepsBank k g b (history ++ e ∷ []) (if w then bank_noted e bank else bank)
bank_step k g b history e bank true below here kept = record {
  opened = ap (changed_by e) kept.opened ∙ sym (opened_step k g b history e true here);
  precharge = here_step is_precharge (is_of_bank k g b) history e bank.precharge below here kept.precharge;
  last = last_step (is_of_bank k g b) history e bank.last true below here kept.last;
}
bank_step k g b history e bank false below away kept = record {
  opened = kept.opened ∙ sym (opened_step k g b history e false away);
  precharge = away_step is_precharge (is_of_bank k g b) history e bank.precharge below away kept.precharge;
  last = last_step (is_of_bank k g b) history e bank.last false below away kept.last;
}

-- a command of one bank changes that one
same_bank : (r : Readiness) (g b g' b' : ℕ) → (g == g' && b == b') ≡ true → bank_at r g b ≡ bank_at r g' b'
same_bank r g b g' b' h =
    let group : g ≡ g' = grind (arith, nat_tests) in
    let bank : b ≡ b' = grind (arith, nat_tests) in
    rw (group, bank) refl

same_group : (r : Readiness) (g g' : ℕ) → (g == g') ≡ true → group_at r g ≡ group_at r g'
same_group r g g' h = let group : g ≡ g' = grind (arith, nat_tests) in rw group refl

one_changed : {X : Type 0} (f : X → X) (w : Bool) (mine old : X) → (w ≡ true → mine ≡ old) → (if w then f mine else old) ≡ (if w then f old else old)
one_changed f true mine old same = ap f (same refl)
one_changed f false mine old same = refl

bank_noted_at : (r : Readiness) (e : Entry) (k g b g' b' : ℕ) → IsWhole r → g < r.config.geometry.groups → b < GROUP_BANKS → b' < GROUP_BANKS
    → bank_at (noted_at r e g b) g' b' ≡ (if k == k && (g == g' && b == b') then bank_noted e (bank_at r g' b') else bank_at r g' b')
bank_noted_at r e k g b g' b' whole group bank bank' =
    rw (same_number k)
    (bank_written r.banks r.config.geometry.groups g b g' b' _ idle whole.banks group bank bank'
    ∙ one_changed (bank_noted e) (g == g' && b == b') (bank_at r g b) (bank_at r g' b') (same_bank r g b g' b'))

group_noted_at : (r : Readiness) (e : Entry) (k g b g' : ℕ) → IsWhole r → g < r.config.geometry.groups
    → group_at (noted_at r e g b) g' ≡ (if k == k && g == g' then last_noted e (group_at r g') else group_at r g')
group_noted_at r e k g b g' whole group =
    rw (same_number k)
    (group_written r.groups r.config.geometry.groups g g' _ never whole.groups group
    ∙ one_changed (last_noted e) (g == g') (group_at r g) (group_at r g') (same_group r g g'))

-- REF and PREA leave the last commands as they were, and REF the banks
kept_last : (e : Entry) (last : Last) → is_activate e.command ≡ false → is_read e.command ≡ false → is_write e.command ≡ false → last_noted e last ≡ last
kept_last e last act read write = rw (act, read, write) refl

either_way : {X : Type 0} (w : Bool) (new old : X) → new ≡ old → old ≡ (if w then new else old)
either_way true new old same = sym same
either_way false new old same = refl

refreshed_bank : (e : Entry) (k : ℕ) (bank : Bank) → e.command ≡ Refresh k → bank_noted e bank ≡ bank
refreshed_bank e k bank is = rw is refl

bank_after : (r : Readiness) (e : Entry) (c : Command) → e.command ≡ c → IsWhole r → is_in r.config.geometry c ≡ true → (g' b' : ℕ) → g' < r.config.geometry.groups → b' < GROUP_BANKS
    → bank_at (noted_by r e c) g' b' ≡ (if is_of_bank (rank_of c) g' b' c then bank_noted e (bank_at r g' b') else bank_at r g' b')
bank_after r e (Act k g b w) is whole placed g' b' group bank = bank_noted_at r e k g b g' b' whole (group_in r.config.geometry (Act k g b w) placed) (bank_in r.config.geometry (Act k g b w) placed) bank
bank_after r e (Rd k g b w l) is whole placed g' b' group bank = bank_noted_at r e k g b g' b' whole (group_in r.config.geometry (Rd k g b w l) placed) (bank_in r.config.geometry (Rd k g b w l) placed) bank
bank_after r e (Wr k g b w l) is whole placed g' b' group bank = bank_noted_at r e k g b g' b' whole (group_in r.config.geometry (Wr k g b w l) placed) (bank_in r.config.geometry (Wr k g b w l) placed) bank
bank_after r e (RdAuto k g b w l) is whole placed g' b' group bank = bank_noted_at r e k g b g' b' whole (group_in r.config.geometry (RdAuto k g b w l) placed) (bank_in r.config.geometry (RdAuto k g b w l) placed) bank
bank_after r e (WrAuto k g b w l) is whole placed g' b' group bank = bank_noted_at r e k g b g' b' whole (group_in r.config.geometry (WrAuto k g b w l) placed) (bank_in r.config.geometry (WrAuto k g b w l) placed) bank
bank_after r e (Pre k g b) is whole placed g' b' group bank = bank_noted_at r e k g b g' b' whole (group_in r.config.geometry (Pre k g b) placed) (bank_in r.config.geometry (Pre k g b) placed) bank
bank_after r e (PreAll k) is whole placed g' b' group bank =
    let within : g' * 4 + b' < length r.banks = omega (arith, whole.banks) in
    rw (same_number k) (get_or-map (bank_noted e) r.banks (g' * 4 + b') idle idle within)
bank_after r e (Refresh k) is whole placed g' b' group bank = either_way _ _ _ (refreshed_bank e k (bank_at r g' b') is)

group_after : (r : Readiness) (e : Entry) (c : Command) → e.command ≡ c → IsWhole r → is_in r.config.geometry c ≡ true → (g' : ℕ)
    → group_at (noted_by r e c) g' ≡ (if is_of_group (rank_of c) g' c then last_noted e (group_at r g') else group_at r g')
group_after r e (Act k g b w) is whole placed g' = group_noted_at r e k g b g' whole (group_in r.config.geometry (Act k g b w) placed)
group_after r e (Rd k g b w l) is whole placed g' = group_noted_at r e k g b g' whole (group_in r.config.geometry (Rd k g b w l) placed)
group_after r e (Wr k g b w l) is whole placed g' = group_noted_at r e k g b g' whole (group_in r.config.geometry (Wr k g b w l) placed)
group_after r e (RdAuto k g b w l) is whole placed g' = group_noted_at r e k g b g' whole (group_in r.config.geometry (RdAuto k g b w l) placed)
group_after r e (WrAuto k g b w l) is whole placed g' = group_noted_at r e k g b g' whole (group_in r.config.geometry (WrAuto k g b w l) placed)
group_after r e (Pre k g b) is whole placed g' = group_noted_at r e k g b g' whole (group_in r.config.geometry (Pre k g b) placed)
group_after r e (PreAll k) is whole placed g' = either_way _ _ _ (kept_last e (group_at r g') (ap is_activate is) (ap is_read is) (ap is_write is))
group_after r e (Refresh k) is whole placed g' = either_way _ _ _ (kept_last e (group_at r g') (ap is_activate is) (ap is_read is) (ap is_write is))

one_bank_whole : (r : Readiness) (e : Entry) (g b : ℕ) → IsWhole r → IsWhole (noted_at r e g b)
one_bank_whole r e g b whole = record { banks = length-set r.banks _ _ ∙ whole.banks; groups = length-set r.groups g _ ∙ whole.groups; ready = whole.ready }

whole_after : (r : Readiness) (e : Entry) (c : Command) → IsWhole r → IsWhole (noted_by r e c)
whole_after r e (Act k g b w) whole = let same = one_bank_whole r e g b whole in record { banks = same.banks; groups = same.groups; ready = same.ready }
whole_after r e (Rd k g b w l) whole = one_bank_whole r e g b whole
whole_after r e (Wr k g b w l) whole = one_bank_whole r e g b whole
whole_after r e (RdAuto k g b w l) whole = one_bank_whole r e g b whole
whole_after r e (WrAuto k g b w l) whole = one_bank_whole r e g b whole
whole_after r e (Pre k g b) whole = one_bank_whole r e g b whole
whole_after r e (PreAll k) whole = record { banks = length-map r.banks (bank_noted e) ∙ whole.banks; groups = whole.groups; ready = whole.ready }
whole_after r e (Refresh k) whole = record { banks = whole.banks; groups = whole.groups; ready = whole.ready }

config_after : (r : Readiness) (e : Entry) (c : Command) → (noted_by r e c).config ≡ r.config
config_after r e (Act k g b w) = refl
config_after r e c = refl

refresh_after : (r : Readiness) (e : Entry) (c : Command) → (noted_by r e c).refresh ≡ (if is_refresh c && is_of_rank (rank_of c) c then Some e.cycle else r.refresh)
refresh_after r e (Refresh k) = rw (same_number k) refl
refresh_after r e c = refl

activates-append : (k : ℕ) (history : List Entry) (e : Entry) → activates_of k (history ++ e ∷ []) ≡ (if is_activate e.command && is_of_rank k e.command then activates_of k history ++ e.cycle ∷ [] else activates_of k history)
activates-append k history e =
    ap (λ (es : List Entry). map (λ e. e.cycle) es) (filter-append (λ e. is_activate e.command && is_of_rank k e.command) history (e ∷ []))
    ∙ map-append (λ (e : Entry). e.cycle) (filter (λ e. is_activate e.command && is_of_rank k e.command) history) _
    ∙ by_kind (is_activate e.command && is_of_rank k e.command)
  where
    by_kind : (x : Bool) → activates_of k history ++ map (λ e. e.cycle) (if x then e ∷ [] else []) ≡ (if x then activates_of k history ++ e.cycle ∷ [] else activates_of k history)
    by_kind true = refl
    by_kind false = append-nil (activates_of k history)

more_activates : (r : Readiness) (k : ℕ) (history : List Entry) (e : Entry) (w : Bool) → (is_activate e.command && is_of_rank k e.command) ≡ w → r.activates ≡ keep_last 4 (activates_of k history)
    → (if w then keep_last 4 (r.activates ++ e.cycle ∷ []) else r.activates) ≡ keep_last 4 (activates_of k (history ++ e ∷ []))
more_activates r k history e true act kept =
    ap (λ (xs : List ℕ). keep_last 4 (xs ++ e.cycle ∷ [])) kept
    ∙ keep_last-more (activates_of k history) e.cycle
    ∙ sym (ap (λ (xs : List ℕ). keep_last 4 xs) (activates-append k history e ∙ ap (λ w. if w then activates_of k history ++ e.cycle ∷ [] else activates_of k history) act))
more_activates r k history e false other kept =
    kept ∙ sym (ap (λ (xs : List ℕ). keep_last 4 xs) (activates-append k history e ∙ ap (λ w. if w then activates_of k history ++ e.cycle ∷ [] else activates_of k history) other))

activates_after : (r : Readiness) (e : Entry) (c : Command) → (noted_by r e c).activates ≡ (if is_activate c && is_of_rank (rank_of c) c then keep_last 4 (r.activates ++ e.cycle ∷ []) else r.activates)
activates_after r e (Act k g b w) = rw (same_number k) refl
activates_after r e c = refl

placed_more : (g : Geometry) (history : List Entry) (e : Entry) → AllByRecursion (λ e. is_in g e.command ≡ true) history → is_in g e.command ≡ true → AllByRecursion (λ e. is_in g e.command ≡ true) (history ++ e ∷ [])
placed_more g [] e placed here = (here, tt)
placed_more g (a ∷ history) e placed here = (placed.0, placed_more g history e placed.1 here)

below_more : (history : List Entry) (e : Entry) (n : ℕ) → AllBelow e.cycle history → e.cycle < n → AllBelow n (history ++ e ∷ [])
below_more [] e n below here = (here, tt)
below_more (a ∷ history) e n below here =
    (let first : a.cycle < e.cycle = below.0 in omega arith, below_more history e n below.1 here)

ordered_more : (history : List Entry) (e : Entry) → AllBelow e.cycle history → (n : ℕ) → IsAfter (history ++ e ∷ []) n → AllBelow n (history ++ e ∷ [])
ordered_more history e below n later =
    below_more history e n below (ltb-true e.cycle n (sym (last_cycle_below-append history e n) ∙ later))

-- what is kept of the first cycles, before they are raised
ready_after : (r : Readiness) (e : Entry) (c : Command) → (noted_by r e c).ready ≡ r.ready
ready_after r e (Act k g b w) = refl
ready_after r e c = refl

all_ready_after : (r : Readiness) (e : Entry) (c : Command) → (noted_by r e c).ready_all ≡ r.ready_all
all_ready_after r e (Act k g b w) = refl
all_ready_after r e c = refl

-- a rank in which the first cycles were raised too
abbrev with_ready : Readiness → List Ready → ReadyAll → Readiness
with_ready r ready all = record r { ready = ready; ready_all = all }

raised_from : (r new : Readiness) (e : Entry) → IsRaised (noted r e) new e → IsRaised r new e
raised_from r new e up = record {
  size = up.size ∙ ap (λ (xs : List Ready). length xs) (ready_after r e e.command);
  banks = rw (ready_after r e e.command, config_after r e e.command) at up.banks;
  all = rw (all_ready_after r e e.command, config_after r e e.command) at up.all;
}

whole_raised : (r new : Readiness) (e : Entry) → new ≡ with_ready (noted r e) new.ready new.ready_all → IsRaised r new e → IsWhole r → IsWhole new
whole_raised r new e is up whole =
    let noted = whole_after r e e.command whole in
    let config = ap (λ (n : Readiness). n.config) is in
    let there = ap (λ (n : Config). n.geometry.groups * GROUP_BANKS) config in
    record {
      banks = ap (λ (n : Readiness). length n.banks) is ∙ noted.banks ∙ sym there;
      groups = ap (λ (n : Readiness). length n.groups) is ∙ noted.groups ∙ sym (ap (λ (n : Config). n.geometry.groups) config);
      ready = up.size ∙ whole.ready ∙ sym (there ∙ ap (λ (n : Config). n.geometry.groups * GROUP_BANKS) (config_after r e e.command));
    }

-- a command of the rank
pub stands_after : (r new : Readiness) (history : List Entry) (e : Entry) → new ≡ with_ready (noted r e) new.ready new.ready_all → IsRaised (noted r e) new e → StandsFor r (rank_of e.command) history → IsAfter history e.cycle → is_in r.config.geometry e.command ≡ true → StandsFor new (rank_of e.command) (history ++ e ∷ [])
stands_after r new history e is raise s after placed =
    let k = rank_of e.command in
    let c = e.command in
    let below = s.ordered e.cycle after in
    let same = config_after r e c in
    let config : new.config ≡ r.config = ap (λ (n : Readiness). n.config) is ∙ same in
    let up = raised_from r new e raise in
    record {
      placed = rw config (placed_more r.config.geometry history e s.placed placed);
      ordered = ordered_more history e below;
      whole = whole_raised r new e is up s.whole;
      banks = rw config (λ g b group bank. rw (ap (λ (n : Readiness). bank_at n g b) is, bank_after r e c refl s.whole placed g b group bank) (bank_step k g b history e (bank_at r g b) (is_of_bank k g b c) below refl (s.banks g b group bank)));
      groups = rw config (λ g group. rw (ap (λ (n : Readiness). group_at n g) is, group_after r e c refl s.whole placed g) (last_step (is_of_group k g) history e (group_at r g) (is_of_group k g c) below refl (s.groups g group)));
      refresh = ap (λ (n : Readiness). n.refresh) is ∙ refresh_after r e c ∙ time_step (λ a. is_refresh a && is_of_rank k a) history e r.refresh below s.refresh;
      activates = ap (λ (n : Readiness). n.activates) is ∙ activates_after r e c ∙ more_activates r k history e (is_activate c && is_of_rank k c) refl s.activates;
      ready = rw config (λ g b group bank. rw (asked_at r new e s.whole up g b group bank) (ready_step r.config.timing g b history e (ready_at r g b) (s.ready g b group bank)));
      ready_all = rw (config, up.all) (ready_all_step r.config.timing history e r.ready_all s.ready_all);
    }

-- a command of another rank
pub stands_other : (r : Readiness) (rank : ℕ) (history : List Entry) → StandsFor r rank history → (cycle : ℕ) (c : Command) → IsAfter history cycle → is_in r.config.geometry c ≡ true → is_of_rank rank c ≡ false → StandsFor r rank (history ++ entry cycle c ∷ [])
stands_other r rank history s cycle c after placed other =
    let e = entry cycle c in
    let below = s.ordered cycle after in
    record {
      placed = placed_more r.config.geometry history e s.placed placed;
      ordered = ordered_more history e below;
      whole = s.whole;
      banks = λ g b group bank. bank_step rank g b history e (bank_at r g b) false below (rw other refl) (s.banks g b group bank);
      groups = λ g group. last_step (is_of_group rank g) history e (group_at r g) false below (rw other refl) (s.groups g group);
      refresh = away_step is_refresh (is_of_rank rank) history e r.refresh below other s.refresh;
      activates = more_activates r rank history e false (rw other (and_false (is_activate c))) s.activates;
      ready = λ g b group bank. ready_away r.config.timing rank g b history e (ready_at r g b) other (s.ready g b group bank);
      ready_all = ready_all_away r.config.timing rank history e r.ready_all other s.ready_all;
    }

-- a list of blanks
pub all_blank : {X : Type 0} (n : ℕ) (xs : List X) (d : X) → xs ≡ replicate n d → (i : ℕ) → slice_index_or xs i d ≡ d
all_blank n xs d is i = rw is (blank n i)
  where
    blank : (n i : ℕ) → slice_index_or (replicate n d) i d ≡ d
    blank zero i = refl
    blank (suc n) zero = refl
    blank (suc n) (suc i) = blank n i

-- before the first command
pub stands_new : (r : Readiness) (rank : ℕ) → r.banks ≡ replicate (r.config.geometry.groups * GROUP_BANKS) idle → r.groups ≡ replicate r.config.geometry.groups never → r.refresh ≡ None → r.activates ≡ [] → r.ready ≡ replicate (r.config.geometry.groups * GROUP_BANKS) free → r.ready_all ≡ all_free → StandsFor r rank []
unfolding bank_behind
stands_new r rank banks groups refresh activates ready ready_all = record {
  placed = tt;
  ordered = λ cycle after. tt;
  whole = record { banks = ap length banks ∙ length-replicate _ idle; groups = ap length groups ∙ length-replicate _ never; ready = ap length ready ∙ length-replicate _ free };
  banks = λ g b group bank. new_bank g b;
  groups = λ g group. new_last (λ c. is_of_group rank g c) (group_at r g) (all_blank _ r.groups never groups g);
  refresh = refresh;
  activates = ap (λ (xs : List ℕ). xs) activates;
  ready = λ g b group bank. ready_new r.config.timing rank g b (ready_at r g b) (all_blank _ r.ready free ready (g * GROUP_BANKS + b));
  ready_all = ready_all_new r.config.timing rank r.ready_all ready_all;
}
  where
    new_last : (place : Command → Bool) (last : Last) → last ≡ never → KeepsLast place [] last
    new_last place last is = record { activate = rw is refl; read = rw is refl; write = rw is refl }

    new_bank : (g b : ℕ) → KeepsBank rank g b [] (bank_at r g b)
    new_bank g b =
        let is = all_blank _ r.banks idle banks (g * GROUP_BANKS + b) in
        record {
          opened = ap (λ (k : Bank). k.opened) is;
          precharge = ap (λ (k : Bank). k.precharge) is;
          last = new_last (λ c. is_of_bank rank g b c) (bank_at r g b).last (ap (λ (k : Bank). k.last) is);
        }
