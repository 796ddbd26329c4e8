-- One command more of those that count.
use Rattle.std.proofs.Common.{◌≡◌, ℕ, ◌+◌, Bool, true, false, ◌&&◌, List, [], ◌∷◌, ◌++◌, length, Option, Some, None, sym, ap, subst, ◌∙◌}
use Rattle.std.specs.Prelude.{if◌then◌else◌}
use Rattle.ddr_timing.specs.declared.config.Config.{Config}
use Rattle.ddr_trace.specs.declared.command.Entry.{Entry}
use Rattle.ddr_trace.specs.declared.rule.Rule.{Rule}
use Rattle.ddr_trace.specs.Legality.{lowest_rule}
use Rattle.ddr_trace.specs.Rules.{breaks, is_in, last_cycle_below}
use Rattle.ddr_trace.proofs.LowestLemmas.{lowest_passes}
use Rattle.ddr_legality.specs.declared.one_pass.Checker.{Checker}
use Rattle.ddr_legality.specs.OnePass.{HasPassed, config_of, start_of}
use Rattle.ddr_watch.specs.declared.recent.Recent.{Recent}
use Rattle.ddr_watch.specs.declared.told.Told.{Told}
use Rattle.ddr_watch.specs.declared.watch.Watch.{Watch}
use Rattle.ddr_watch.specs.Finds.{IsFound}
use Rattle.ddr_watch.specs.Kept.{AreLast, HasCounted}
use Rattle.ddr_watch.specs.Told.{IsTold, counted_with, is_counted}
use Rattle.ddr_watch.proofs.KeptLemmas.{last_count}

module _ (w : Watch) (c : Config) (start : ℕ) (history : List Entry) (e : Entry) (counted : HasCounted w c start history) where
  -- what the checker tells
  pub lowest_of : (o : Option Rule) → ((h : List Entry) → HasPassed w.checker h → o ≡ lowest_rule (λ r. breaks (config_of w.checker) (start_of w.checker) (e.cycle + 1) r h e))
      → o ≡ lowest_rule (λ r. breaks c start (e.cycle + 1) r history e)
  lowest_of o lowest =
      lowest history counted.passed
      ∙ ap (λ d. lowest_rule (λ r. breaks d (start_of w.checker) (e.cycle + 1) r history e)) counted.checked
      ∙ ap (λ n. lowest_rule (λ r. breaks c n (e.cycle + 1) r history e)) counted.since

  pub told_some : (t : Told) → Some t.rule ≡ lowest_rule (λ r. breaks c start (e.cycle + 1) r history e) → t.place ≡ w.recent.first + length w.recent.entries.items
      → ((h : List Entry) → AreLast w.recent h → breaks w.config w.start (e.cycle + 1) t.rule h e ≡ true → IsFound w.config w.start t.rule h e t.evidence)
      → IsTold c start history e (Some t)
  told_some t lowest at found =
      let broken : breaks c start (e.cycle + 1) t.rule history e ≡ true = lowest_passes _ t.rule (sym lowest) in
      let here : breaks w.config w.start (e.cycle + 1) t.rule history e ≡ true = ap (λ d. breaks d w.start (e.cycle + 1) t.rule history e) counted.config ∙ ap (λ n. breaks c n (e.cycle + 1) t.rule history e) counted.begun ∙ broken in
      record {
        rule = lowest;
        place = at ∙ last_count w.recent history counted.last;
        found =
            subst (λ n. IsFound c n t.rule history e t.evidence) counted.begun
            (subst (λ d. IsFound d w.start t.rule history e t.evidence) counted.config (found history counted.last here));
      }

  pub told_none : None ≡ lowest_rule (λ r. breaks c start (e.cycle + 1) r history e) → IsTold c start history e None
  told_none lowest = record { rule = lowest; place = tt; found = tt }

  -- whether it counts
  pub is_counted_by : (b : Bool) → ((h : List Entry) → HasPassed w.checker h → b ≡ (is_in (config_of w.checker).geometry e.command && last_cycle_below h e.cycle)) → b ≡ is_counted c history e
  is_counted_by b told = told history counted.passed ∙ ap (λ (d : Config). is_in d.geometry e.command && last_cycle_below history e.cycle) counted.checked

  pub counted_more : (k : Checker) (r : Recent) → true ≡ is_counted c history e → config_of k ≡ config_of w.checker → start_of k ≡ start_of w.checker
      → ((h : List Entry) → HasPassed w.checker h → HasPassed k (h ++ e ∷ [])) → ((h : List Entry) → AreLast w.recent h → AreLast r (h ++ e ∷ []))
      → HasCounted (record { config = w.config; start = w.start; checker = k; recent = r }) c start (counted_with c history e)
  counted_more k r is same_config same_start passed last =
      subst (λ b. HasCounted (record { config = w.config; start = w.start; checker = k; recent = r }) c start (if b then history ++ e ∷ [] else history)) is
      (record {
        config = counted.config;
        begun = counted.begun;
        checked = same_config ∙ counted.checked;
        since = same_start ∙ counted.since;
        passed = passed history counted.passed;
        last = last history counted.last;
      })

  pub counted_same : false ≡ is_counted c history e → HasCounted w c start (counted_with c history e)
  counted_same is = subst (λ b. HasCounted w c start (if b then history ++ e ∷ [] else history)) is counted
