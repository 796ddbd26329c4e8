-- The core is that of the text's configuration.
use Rattle.std.proofs.Common.{ℤ, sym, subst, w32, rules}
use Rattle.std.proofs.lemmas.Int.{to_z-of_z}
use Rattle.ddr_c.specs.Calls.{held_in}
use Rattle.ddr_c.specs.Opens.{IsOpening}
use Rattle.ddr_c.proofs.OpenLemmas.{opening}
use Rattle.ddr_c.proofs.open.open.Goals as goal

pub returns-in-Ok-clause-opened : goal.returns-in-Ok-clause-opened
returns-in-Ok-clause-opened c =
    subst (λ (told : ℤ). IsOpening c.args.traces c.args.text.now told (held_in c.opened.new.slot)) (sym (to_z-of_z w32 c.opened.result (search rules)))
    (opening c.args.traces c.args.text.now c.in-Ok.config c.opened.result (held_in c.opened.new.slot) c.in-Ok.ensures.read c.opened.ensures)
