-- The oldest are let go.
use Rattle.std.proofs.Common.{◌≡◌, ◌≤◌, ◌-◌, length, drop, refl, ap, arith, rules, ◌∙◌}
use Rattle.ddr_watch.proofs.KeptLemmas.{last_cut}
use Rattle.ddr_watch.proofs.recent.Recent.shorten.Goals as goal

pub returns-clause-last : goal.returns-clause-last
returns-clause-last c = λ history last.
    let items = c.args.self.now.entries.items in
    let many : 8192 ≤ length items = search rules in
    let few : length items ≤ 8192 = search rules in
    let full : length items ≡ 8192 = omega (arith, many, few) in
    let cut : c.keep_last.new.entries.items ≡ drop 4096 items = c.keep_last.ensures.items ∙ ap (λ n. drop (n - 4096) items) full in
    last_cut c.args.self.now _ 4096 history last (omega (arith, many)) refl cut
