use Rattle.std.proofs.Common.{ap, sym, ◌∙◌}
use Rattle.std.specs.Str.{bytes_eq}
use Rattle.ddr_draw.specs.declared.long.TheConstants.{HEADER}
use Rattle.ddr_draw.proofs.LongLemmas.{header_stands, header_wrong}
use Rattle.ddr_draw.proofs.long.text_header.Goals as goal

pub returns-then-eq-clause-said : goal.returns-then-eq-clause-said
returns-then-eq-clause-said c = λ a b f line is other text.
    header_stands f line a b is other (ap (λ t. bytes_eq t HEADER.now) (sym text) ∙ sym c.eq.ensures ∙ c.if-eq.true)

pub returns-else-eq-clause-said : goal.returns-else-eq-clause-said
returns-else-eq-clause-said c = λ a b f line is other text.
    header_wrong f line a b is other (ap (λ t. bytes_eq t HEADER.now) (sym text) ∙ sym c.eq.ensures ∙ c.if-eq.false)
