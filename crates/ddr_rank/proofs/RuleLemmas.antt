-- What a rank tells of each rule is what the whole history says.
use Rattle.std.proofs.Common.{◌≡◌, ℕ, ◌<◌, Bool, true, false, ◌&&◌, ◌||◌, not, List, Option, is_none, refl, ap, ◌∙◌}
use Rattle.ddr_timing.specs.declared.config.Config.{Config}
use Rattle.ddr_timing.specs.declared.units.TheConstants.{GROUP_BANKS}
use Rattle.ddr_trace.specs.declared.command.Command.{Command}
use Rattle.ddr_trace.specs.declared.command.Command.TheVariants.{Act, Rd, Wr, RdAuto, WrAuto, Pre, PreAll, Refresh}
use Rattle.ddr_trace.specs.declared.command.Entry.{Entry}
use Rattle.ddr_trace.specs.declared.rule.Rule.{Rule}
use Rattle.ddr_trace.specs.declared.rule.Rule.TheVariants as rule
use Rattle.ddr_trace.specs.Banks.{bank_behind, is_active, is_auto_within, is_row, open_row, ready_row}
use Rattle.ddr_trace.specs.Commands.{entry, is_activate, is_of_all_banks, is_precharge, is_read, is_refresh, is_same_bank, is_write, rank_of}
use Rattle.ddr_trace.specs.Rules.{breaks_on_rank, is_in, spacing_of}
use Rattle.ddr_rank.proofs.FawLemmas.{faw_told, faw_untold}
use Rattle.ddr_rank.proofs.KeptLemmas.{all_groups_told, any_precharge_told, other_banks_told, other_groups_told}
use Rattle.ddr_rank.proofs.LatestLemmas.{latest-same, told, untold}
use Rattle.ddr_rank.proofs.OpenLemmas.{any_told}
use Rattle.ddr_trace.proofs.PlaceLemmas.{bank_in, group_in}
use Rattle.ddr_rank.specs.declared.last.LastKind.TheVariants.{Activate, Read, Write}
use Rattle.ddr_rank.specs.Breaks.{activate_breaks, breaks_now, precharge_all_breaks, precharge_breaks, read_breaks, refresh_breaks, write_breaks}
use Rattle.ddr_rank.specs.Latest.{latest}
use Rattle.ddr_rank.specs.Readiness.{Readiness}
use Rattle.ddr_rank.specs.Stands.{StandsFor, is_of_rank}

-- the tests of a pair, where what comes next is known
any_later : (x y : Bool) → (x && y) ≡ ((x && true) && y)
any_later true y = refl
any_later false y = refl

-- the last of a kind at a place, where the rule asks for this kind
paired : (kind place : Command → Bool) (history : List Entry) (last : Option ℕ) → last ≡ latest (λ a. kind a && place a) history → last ≡ latest (λ a. (kind a && true) && place a) history
paired kind place history last kept =
    kept ∙ latest-same _ _ history (λ a. any_later (kind a) (place a))

reads_alike : (x y z : Bool) → (x && z) ≡ (((x || y) && true) && (((x && true) || (y && false)) && z))
reads_alike true y z = refl
reads_alike false true z = refl
reads_alike false false z = refl

-- a read after a read, a write after a write
paired_reads : (place : Command → Bool) (history : List Entry) (last : Option ℕ) → last ≡ latest (λ a. is_read a && place a) history → last ≡ latest (λ a. ((is_read a || is_write a) && true) && (((is_read a && true) || (is_write a && false)) && place a)) history
paired_reads place history last kept =
    kept ∙ latest-same _ _ history (λ a. reads_alike (is_read a) (is_write a) (place a))

writes_alike : (x y z : Bool) → (y && z) ≡ (((x || y) && true) && (((x && false) || (y && true)) && z))
writes_alike true true z = refl
writes_alike true false z = refl
writes_alike false true z = refl
writes_alike false false z = refl

paired_writes : (place : Command → Bool) (history : List Entry) (last : Option ℕ) → last ≡ latest (λ a. is_write a && place a) history → last ≡ latest (λ a. ((is_read a || is_write a) && true) && (((is_read a && false) || (is_write a && true)) && place a)) history
paired_writes place history last kept =
    kept ∙ latest-same _ _ history (λ a. writes_alike (is_read a) (is_write a) (place a))

-- any bank, before a precharge of all
all_alike : (x r a z : Bool) → (x && r) ≡ ((x && true) && (r && ((a || true) || z)))
all_alike true true true z = refl
all_alike true true false z = refl
all_alike true false a z = refl
all_alike false r a z = refl

paired_all : (k : ℕ) (kind : Command → Bool) (history : List Entry) (last : Option ℕ) → last ≡ latest (λ a. kind a && is_of_rank k a) history → last ≡ latest (λ a. (kind a && true) && is_same_bank a (PreAll k)) history
paired_all k kind history last kept =
    kept ∙ latest-same _ _ history (λ a. all_alike (kind a) (is_of_rank k a) (is_of_all_banks a) _)

-- a bank is named by each command of it
pub named_by_act : (history : List Entry) (k g b w : ℕ) → bank_behind (Pre k g b) history ≡ bank_behind (Act k g b w) history
unfolding bank_behind
named_by_act history k g b w = refl

pub named_by_read : (history : List Entry) (k g b w l : ℕ) → bank_behind (Pre k g b) history ≡ bank_behind (Rd k g b w l) history
unfolding bank_behind
named_by_read history k g b w l = refl

pub named_by_write : (history : List Entry) (k g b w l : ℕ) → bank_behind (Pre k g b) history ≡ bank_behind (Wr k g b w l) history
unfolding bank_behind
named_by_write history k g b w l = refl

-- a test that stands alone
alone : (a : Bool) → a ≡ ((a || false) || false)
alone true = refl
alone false = refl

second_alone : (a : Bool) → a ≡ ((false || a) || false)
second_alone true = refl
second_alone false = refl

-- RP and RP_REF by two tests
either : (a b c d : Bool) → a ≡ c → b ≡ d → (a || b) ≡ (c || d)
either a b c d first second = rw (first, second) refl

-- only an ACT breaks RP, and only a REF breaks RP_REF
neither : (a : Bool) → false ≡ a → false ≡ (a || false)
neither a none = rw (← none) refl

module _ (r : Readiness) (k : ℕ) (history : List Entry) (s : StandsFor r k history) (cycle : ℕ) where
  activate_law : (g b w : ℕ) → g < r.config.geometry.groups → b < GROUP_BANKS → (q : Rule) → activate_breaks r q cycle g b ≡ breaks_on_rank r.config q history (entry cycle (Act k g b w))
  activate_law g b w group bank rule.State = ap (is_active r.config.timing cycle) ((s.banks g b group bank).opened ∙ named_by_act history k g b w) ∙ alone _
  activate_law g b w group bank rule.Row = refl
  activate_law g b w group bank rule.Rc = told (spacing_of r.config.timing rule.Rc) history cycle (Act k g b w) _ (paired is_activate _ history _ (s.banks g b group bank).last.activate)
  activate_law g b w group bank rule.Rp =
      either _ _ _ _ (told (spacing_of r.config.timing rule.Rp) history cycle (Act k g b w) _ (paired is_precharge _ history _ (s.banks g b group bank).precharge))
      (ap (is_auto_within r.config.timing r.config.timing.rp cycle) ((s.banks g b group bank).opened ∙ named_by_act history k g b w))
  activate_law g b w group bank rule.RpRef = neither _ (untold (spacing_of r.config.timing rule.RpRef) history cycle (Act k g b w) refl)
  activate_law g b w group bank rule.RrdL = told (spacing_of r.config.timing rule.RrdL) history cycle (Act k g b w) _ (paired is_activate _ history _ (other_banks_told r k history s g b group))
  activate_law g b w group bank rule.RrdS = told (spacing_of r.config.timing rule.RrdS) history cycle (Act k g b w) _ (paired is_activate _ history _ (other_groups_told r k history s Activate g))
  activate_law g b w group bank rule.Faw = faw_told r k history r.config.timing cycle g b w s.activates
  activate_law g b w group bank rule.Rfc = told (spacing_of r.config.timing rule.Rfc) history cycle (Act k g b w) _ (paired is_refresh _ history _ s.refresh)
  activate_law g b w group bank q = untold (spacing_of r.config.timing q) history cycle (Act k g b w) refl

  read_law : (g b w l : ℕ) → g < r.config.geometry.groups → b < GROUP_BANKS → (q : Rule) → read_breaks r q cycle g b w ≡ breaks_on_rank r.config q history (entry cycle (Rd k g b w l))
  read_law g b w l group bank rule.State = ap (λ o. is_none (ready_row o)) ((s.banks g b group bank).opened ∙ named_by_read history k g b w l) ∙ second_alone _
  read_law g b w l group bank rule.Row = ap (λ o. not (is_row (open_row r.config.timing cycle o) w)) ((s.banks g b group bank).opened ∙ named_by_read history k g b w l)
  read_law g b w l group bank rule.Rp = neither _ (untold (spacing_of r.config.timing rule.Rp) history cycle (Rd k g b w l) refl)
  read_law g b w l group bank rule.RpRef = neither _ (untold (spacing_of r.config.timing rule.RpRef) history cycle (Rd k g b w l) refl)
  read_law g b w l group bank rule.Rcd = told (spacing_of r.config.timing rule.Rcd) history cycle (Rd k g b w l) _ (paired is_activate _ history _ (s.banks g b group bank).last.activate)
  read_law g b w l group bank rule.CcdL = told (spacing_of r.config.timing rule.CcdL) history cycle (Rd k g b w l) _ (paired_reads _ history _ (s.groups g group).read)
  read_law g b w l group bank rule.CcdS = told (spacing_of r.config.timing rule.CcdS) history cycle (Rd k g b w l) _ (paired_reads _ history _ (other_groups_told r k history s Read g))
  read_law g b w l group bank rule.WtrL = told (spacing_of r.config.timing rule.WtrL) history cycle (Rd k g b w l) _ (paired is_write _ history _ (s.groups g group).write)
  read_law g b w l group bank rule.WtrS = told (spacing_of r.config.timing rule.WtrS) history cycle (Rd k g b w l) _ (paired is_write _ history _ (other_groups_told r k history s Write g))
  read_law g b w l group bank rule.Rfc = told (spacing_of r.config.timing rule.Rfc) history cycle (Rd k g b w l) _ (paired is_refresh _ history _ s.refresh)
  read_law g b w l group bank rule.Faw = faw_untold r.config.timing history cycle (Rd k g b w l) refl
  read_law g b w l group bank q = untold (spacing_of r.config.timing q) history cycle (Rd k g b w l) refl

  write_law : (g b w l : ℕ) → g < r.config.geometry.groups → b < GROUP_BANKS → (q : Rule) → write_breaks r q cycle g b w ≡ breaks_on_rank r.config q history (entry cycle (Wr k g b w l))
  write_law g b w l group bank rule.State = ap (λ o. is_none (ready_row o)) ((s.banks g b group bank).opened ∙ named_by_write history k g b w l) ∙ second_alone _
  write_law g b w l group bank rule.Row = ap (λ o. not (is_row (open_row r.config.timing cycle o) w)) ((s.banks g b group bank).opened ∙ named_by_write history k g b w l)
  write_law g b w l group bank rule.Rp = neither _ (untold (spacing_of r.config.timing rule.Rp) history cycle (Wr k g b w l) refl)
  write_law g b w l group bank rule.RpRef = neither _ (untold (spacing_of r.config.timing rule.RpRef) history cycle (Wr k g b w l) refl)
  write_law g b w l group bank rule.Rcd = told (spacing_of r.config.timing rule.Rcd) history cycle (Wr k g b w l) _ (paired is_activate _ history _ (s.banks g b group bank).last.activate)
  write_law g b w l group bank rule.CcdL = told (spacing_of r.config.timing rule.CcdL) history cycle (Wr k g b w l) _ (paired_writes _ history _ (s.groups g group).write)
  write_law g b w l group bank rule.CcdS = told (spacing_of r.config.timing rule.CcdS) history cycle (Wr k g b w l) _ (paired_writes _ history _ (other_groups_told r k history s Write g))
  write_law g b w l group bank rule.Rtw = told (spacing_of r.config.timing rule.Rtw) history cycle (Wr k g b w l) _ (paired is_read _ history _ (all_groups_told r k history s Read))
  write_law g b w l group bank rule.Rfc = told (spacing_of r.config.timing rule.Rfc) history cycle (Wr k g b w l) _ (paired is_refresh _ history _ s.refresh)
  write_law g b w l group bank rule.Faw = faw_untold r.config.timing history cycle (Wr k g b w l) refl
  write_law g b w l group bank q = untold (spacing_of r.config.timing q) history cycle (Wr k g b w l) refl

  precharge_law : (g b : ℕ) → g < r.config.geometry.groups → b < GROUP_BANKS → (q : Rule) → precharge_breaks r q cycle g b ≡ breaks_on_rank r.config q history (entry cycle (Pre k g b))
  precharge_law g b group bank rule.State = refl
  precharge_law g b group bank rule.Row = refl
  precharge_law g b group bank rule.Rp = neither _ (untold (spacing_of r.config.timing rule.Rp) history cycle (Pre k g b) refl)
  precharge_law g b group bank rule.RpRef = neither _ (untold (spacing_of r.config.timing rule.RpRef) history cycle (Pre k g b) refl)
  precharge_law g b group bank rule.Ras = told (spacing_of r.config.timing rule.Ras) history cycle (Pre k g b) _ (paired is_activate _ history _ (s.banks g b group bank).last.activate)
  precharge_law g b group bank rule.Faw = faw_untold r.config.timing history cycle (Pre k g b) refl
  precharge_law g b group bank rule.Rtp = told (spacing_of r.config.timing rule.Rtp) history cycle (Pre k g b) _ (paired is_read _ history _ (s.banks g b group bank).last.read)
  precharge_law g b group bank rule.Wr = told (spacing_of r.config.timing rule.Wr) history cycle (Pre k g b) _ (paired is_write _ history _ (s.banks g b group bank).last.write)
  precharge_law g b group bank rule.Rfc = told (spacing_of r.config.timing rule.Rfc) history cycle (Pre k g b) _ (paired is_refresh _ history _ s.refresh)
  precharge_law g b group bank q = untold (spacing_of r.config.timing q) history cycle (Pre k g b) refl

  precharge_all_law : (q : Rule) → precharge_all_breaks r q cycle ≡ breaks_on_rank r.config q history (entry cycle (PreAll k))
  precharge_all_law rule.State = refl
  precharge_all_law rule.Row = refl
  precharge_all_law rule.Rp = neither _ (untold (spacing_of r.config.timing rule.Rp) history cycle (PreAll k) refl)
  precharge_all_law rule.RpRef = neither _ (untold (spacing_of r.config.timing rule.RpRef) history cycle (PreAll k) refl)
  precharge_all_law rule.Ras = told (spacing_of r.config.timing rule.Ras) history cycle (PreAll k) _ (paired_all k is_activate history _ (all_groups_told r k history s Activate))
  precharge_all_law rule.Faw = faw_untold r.config.timing history cycle (PreAll k) refl
  precharge_all_law rule.Rtp = told (spacing_of r.config.timing rule.Rtp) history cycle (PreAll k) _ (paired_all k is_read history _ (all_groups_told r k history s Read))
  precharge_all_law rule.Wr = told (spacing_of r.config.timing rule.Wr) history cycle (PreAll k) _ (paired_all k is_write history _ (all_groups_told r k history s Write))
  precharge_all_law rule.Rfc = told (spacing_of r.config.timing rule.Rfc) history cycle (PreAll k) _ (paired is_refresh _ history _ s.refresh)
  precharge_all_law q = untold (spacing_of r.config.timing q) history cycle (PreAll k) refl

  refresh_law : (q : Rule) → refresh_breaks r q cycle ≡ breaks_on_rank r.config q history (entry cycle (Refresh k))
  refresh_law rule.State = any_told r k history s (is_active r.config.timing cycle)
  refresh_law rule.Row = refl
  refresh_law rule.Rp = neither _ (untold (spacing_of r.config.timing rule.Rp) history cycle (Refresh k) refl)
  refresh_law rule.Faw = faw_untold r.config.timing history cycle (Refresh k) refl
  refresh_law rule.RpRef =
      either _ _ _ _ (told (spacing_of r.config.timing rule.RpRef) history cycle (Refresh k) _ (paired is_precharge _ history _ (any_precharge_told r k history s)))
      (any_told r k history s (is_auto_within r.config.timing r.config.timing.rp cycle))
  refresh_law rule.Rfc = told (spacing_of r.config.timing rule.Rfc) history cycle (Refresh k) _ (paired is_refresh _ history _ s.refresh)
  refresh_law q = untold (spacing_of r.config.timing q) history cycle (Refresh k) refl

-- an auto-precharge changes nothing of what a read or a write breaks
read_alike : (c : Config) (history : List Entry) (cycle k g b w l : ℕ) (q : Rule) → breaks_on_rank c q history (entry cycle (Rd k g b w l)) ≡ breaks_on_rank c q history (entry cycle (RdAuto k g b w l))
unfolding bank_behind
read_alike c history cycle k g b w l rule.State = refl
read_alike c history cycle k g b w l q = refl

write_alike : (c : Config) (history : List Entry) (cycle k g b w l : ℕ) (q : Rule) → breaks_on_rank c q history (entry cycle (Wr k g b w l)) ≡ breaks_on_rank c q history (entry cycle (WrAuto k g b w l))
unfolding bank_behind
write_alike c history cycle k g b w l rule.State = refl
write_alike c history cycle k g b w l q = refl

-- each rule on a rank, for each command in the geometry
pub law : (r : Readiness) (history : List Entry) (cycle : ℕ) (c : Command) → StandsFor r (rank_of c) history → is_in r.config.geometry c ≡ true → (q : Rule) → breaks_now r q cycle c ≡ breaks_on_rank r.config q history (entry cycle c)
law r history cycle (Act k g b w) s placed q = activate_law r k history s cycle g b w (group_in r.config.geometry (Act k g b w) placed) (bank_in r.config.geometry (Act k g b w) placed) q
law r history cycle (Rd k g b w l) s placed q = read_law r k history s cycle g b w l (group_in r.config.geometry (Rd k g b w l) placed) (bank_in r.config.geometry (Rd k g b w l) placed) q
law r history cycle (Wr k g b w l) s placed q = write_law r k history s cycle g b w l (group_in r.config.geometry (Wr k g b w l) placed) (bank_in r.config.geometry (Wr k g b w l) placed) q
law r history cycle (RdAuto k g b w l) s placed q =
    read_law r k history s cycle g b w l (group_in r.config.geometry (RdAuto k g b w l) placed) (bank_in r.config.geometry (RdAuto k g b w l) placed) q
    ∙ read_alike r.config history cycle k g b w l q
law r history cycle (WrAuto k g b w l) s placed q =
    write_law r k history s cycle g b w l (group_in r.config.geometry (WrAuto k g b w l) placed) (bank_in r.config.geometry (WrAuto k g b w l) placed) q
    ∙ write_alike r.config history cycle k g b w l q
law r history cycle (Pre k g b) s placed q = precharge_law r k history s cycle g b (group_in r.config.geometry (Pre k g b) placed) (bank_in r.config.geometry (Pre k g b) placed) q
law r history cycle (PreAll k) s placed q = precharge_all_law r k history s cycle q
law r history cycle (Refresh k) s placed q = refresh_law r k history s cycle q
