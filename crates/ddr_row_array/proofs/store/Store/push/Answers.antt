use Rattle.std.proofs.Common.{◌+◌, refl, ap, ◌∙◌}
use Rattle.ddr_row_array.proofs.Entered.{IsKept-pushed}
use Rattle.ddr_row_array.proofs.Slots.{fresh}
use Rattle.ddr_row_array.proofs.store.Store.push.Goals as goal

pub returns-clause-kept : goal.returns-clause-kept
returns-clause-kept c =
    let s = c.args.self.now in
    IsKept-pushed s (record s { slots = c.push.new.self; unentered = s.unentered + c.width.result }) (fresh c.args.address s.slots.width) c.requires.kept c.requires.room refl c.push.ensures.width c.push.ensures.items refl (ap (λ n. s.unentered + n) (c.width.ensures ∙ c.push.ensures.width))
