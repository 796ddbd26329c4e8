use Rattle.std.proofs.Common.{◌≤◌, ◌-◌, length, rules, arith}
use Rattle.ddr_draw.specs.declared.held.TheConstants.{MOST_BACK}
use Rattle.ddr_draw.proofs.KeptLemmas.{last_cut}
use Rattle.ddr_draw.proofs.sketch.shorten.Goals as goal

pub returns-then-len-ge-MOST_RECENT-clause-last : goal.returns-then-len-ge-MOST_RECENT-clause-last
returns-then-len-ge-MOST_RECENT-clause-last c = λ entries are.
    let items = c.args.recent.now.items in
    let many : 512 ≤ length items = search rules in
    rw c.keep_last.ensures (last_cut (length items - MOST_BACK) items entries are (omega (arith, many)))
