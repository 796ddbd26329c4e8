-- What is kept of a channel, after one more command and at the end.
use Rattle.std.proofs.Common.{◌≡◌, ℕ, ◌+◌, ◌<◌, true, false, List, [], ◌∷◌, ◌++◌, length, Option, Some, None, sym, ap, subst, ◌∙◌, arith}
use Rattle.std.specs.Option.{is_some}
use Rattle.std.proofs.lemmas.List.{length-map, length_push}
use Rattle.ddr_timing.specs.declared.config.Config.{Config}
use Rattle.ddr_trace.specs.declared.command.Entry.{Entry}
use Rattle.ddr_trace.specs.declared.rule.Rule.{Rule}
use Rattle.ddr_trace.specs.declared.rule.Rule.TheVariants as rule
use Rattle.ddr_trace.specs.Legality.{IsFirstFault, lowest_rule}
use Rattle.ddr_trace.specs.Rules.{breaks, ends_late}
use Rattle.ddr_trace.proofs.FaultLemmas.{IsCleanBelow, clean_all, first_at_end}
use Rattle.ddr_legality.specs.declared.one_pass.Checker.{Checker}
use Rattle.ddr_legality.specs.OnePass.{HasPassed, config_of, start_of}
use Rattle.ddr_judge.specs.declared.fault.Fault.{Fault}
use Rattle.ddr_judge.specs.declared.channel_judge.ChannelJudge.{ChannelJudge}
use Rattle.ddr_judge.specs.Heard.{IsAtFault, IsTold, KeepsAll}
use Rattle.ddr_judge.specs.Records.{AllBelow, Record, entries_of, line_at}
use Rattle.ddr_judge.specs.Verdict.{IsVerdict}
use Rattle.ddr_judge.proofs.RecordLemmas.{entries_more, line_kept, line_last, line_past}
use Rattle.ddr_judge.proofs.TraceLemmas.{below_parts, clean_by, fault_by, fault_stays}

module _ (c : Config) (start : ℕ) (records : List Record) (x : Record) where
  -- the ends behind all commands, the last one among them
  parts : (end : ℕ) → AllBelow end (entries_of (records ++ x ∷ [])) → AllBelow end (entries_of records) × (x.entry.cycle < end)
  parts end below = below_parts end (entries_of records) x.entry (subst (λ es. AllBelow end es) (entries_more records x) below)

  -- behind a fault
  pub still_at_fault : (f : Fault) → IsAtFault f c start records → IsAtFault f c start (records ++ x ∷ [])
  still_at_fault f fault = record {
    within = omega (arith, length_push records x, fault.within);
    line = fault.line ∙ sym (line_kept records x f.place fault.within);
    first = λ end below.
        subst (λ es. IsFirstFault c start end es f.place f.rule) (sym (entries_more records x))
        (fault_stays c start end (entries_of records) x.entry f.place f.rule (omega (arith, fault.within, length-map records (λ r. r.entry))) (fault.first end (parts end below).0));
  }

  pub told_behind : (l m : ChannelJudge) (o : Option Fault) → is_some o ≡ true → IsTold l c start records o → IsTold m c start (records ++ x ∷ []) o
  told_behind l m (Some f) at_fault told = still_at_fault f told
  told_behind l m None off told = cc

  -- the first fault
  pub now_at_fault : (l : ChannelJudge) (place line : ℕ) (r : Rule) → KeepsAll l c start (entries_of records) → place ≡ length records → x.line ≡ line
      → Some r ≡ lowest_rule (λ q. breaks c start (x.entry.cycle + 1) q (entries_of records) x.entry)
      → IsAtFault (record { place = place; rule = r; line = Some line }) c start (records ++ x ∷ [])
  now_at_fault l place line r kept here stands lowest = record {
    within = omega (arith, length_push records x);
    line = ap (λ n. Some n) (sym stands) ∙ sym (line_last records x) ∙ ap (λ n. line_at (records ++ x ∷ []) n) (sym here);
    first = λ end below.
        let below_end = parts end below in
        subst (λ es. IsFirstFault c start end es place r) (sym (entries_more records x))
        (subst (λ n. IsFirstFault c start end (entries_of records ++ x.entry ∷ []) n r) (length-map records (λ e. e.entry) ∙ sym here)
        (fault_by c start end (entries_of records) x.entry (x.entry.cycle + 1) below_end.1 (omega arith) (kept.clean end below_end.0) r lowest));
  }

  -- no fault yet
  pub still_kept : (l m : ChannelJudge) → KeepsAll l c start (entries_of records) → config_of m.checker ≡ config_of l.checker → start_of m.checker ≡ start_of l.checker
      → HasPassed m.checker (entries_of records ++ x.entry ∷ [])
      → None ≡ lowest_rule (λ q. breaks c start (x.entry.cycle + 1) q (entries_of records) x.entry)
      → KeepsAll m c start (entries_of (records ++ x ∷ []))
  still_kept l m kept same_config same_start passed none = record {
    config = same_config ∙ kept.config;
    begun = same_start ∙ kept.begun;
    passed = subst (λ es. HasPassed m.checker es) (sym (entries_more records x)) passed;
    clean = λ end below.
        let below_end = parts end below in
        subst (λ es. IsCleanBelow c start end es (length es)) (sym (entries_more records x))
        (clean_by c start end (entries_of records) x.entry (x.entry.cycle + 1) below_end.1 (omega arith) (kept.clean end below_end.0) none);
  }

-- the verdict of a channel at fault
pub verdict_at_fault : (l : ChannelJudge) (c : Config) (start end : ℕ) (records : List Record) (o : Option Fault) → is_some o ≡ true → IsTold l c start records o → AllBelow end (entries_of records) → IsVerdict c start end records o
verdict_at_fault l c start end records (Some f) at_fault told below = (told.first end below, told.line)
verdict_at_fault l c start end records None off told below = cc

-- where no command is at fault, nothing else was kept
pub told_kept : (l : ChannelJudge) (c : Config) (start : ℕ) (records : List Record) (o : Option Fault) → is_some o ≡ false → IsTold l c start records o → KeepsAll l c start (entries_of records)
told_kept l c start records None off told = told
told_kept l c start records (Some f) none told = cc

pub told_none : (l : ChannelJudge) (c : Config) (start : ℕ) (records : List Record) (o : Option Fault) → is_some o ≡ false → KeepsAll l c start (entries_of records) → IsTold l c start records o
told_none l c start records None off kept = kept
told_none l c start records (Some f) none kept = cc

-- what the checker tells of an entry
pub told_of : (k : Checker) (c : Config) (start end : ℕ) (history : List Entry) (e : Entry) → config_of k ≡ c → start_of k ≡ start → lowest_rule (λ q. breaks (config_of k) (start_of k) end q history e) ≡ lowest_rule (λ q. breaks c start end q history e)
told_of k c start end history e same_config same_start =
    ap (λ d. lowest_rule (λ q. breaks d (start_of k) end q history e)) same_config
    ∙ ap (λ n. lowest_rule (λ q. breaks c n end q history e)) same_start

-- and that of another: its end alone may be
module _ (l : ChannelJudge) (c : Config) (start end : ℕ) (records : List Record) (kept : KeepsAll l c start (entries_of records)) (below : AllBelow end (entries_of records)) where
  by_kept : ends_late (config_of l.checker) (start_of l.checker) end (entries_of records) ≡ ends_late c start end (entries_of records)
  by_kept =
      ap (λ d. ends_late d (start_of l.checker) end (entries_of records)) kept.config
      ∙ ap (λ n. ends_late c n end (entries_of records)) kept.begun

  pub verdict_at_end : (place : ℕ) → place ≡ length records → true ≡ ends_late (config_of l.checker) (start_of l.checker) end (entries_of records)
      → IsVerdict c start end records (Some (record { place = place; rule = rule.RefLate; line = None }))
  verdict_at_end place all late =
      let told : true ≡ ends_late c start end (entries_of records) = late ∙ by_kept in (
        subst (λ n. IsFirstFault c start end (entries_of records) n rule.RefLate) (length-map records (λ r. r.entry) ∙ sym all)
            (first_at_end c start end (entries_of records) (kept.clean end below) told),
        sym (line_past records) ∙ ap (λ n. line_at records n) (sym all),
      )

  pub verdict_legal : false ≡ ends_late (config_of l.checker) (start_of l.checker) end (entries_of records) → IsVerdict c start end records None
  verdict_legal early =
      let told : false ≡ ends_late c start end (entries_of records) = early ∙ by_kept in
      clean_all c start end (entries_of records) (kept.clean end below) told
