use Rattle.std.proofs.Common.{◌≡◌, IfOk, sym, subst, append_assoc, string_bytes, ◌∙◌}
use Rattle.ddr_text.proofs.MapLemmas.{address_text-in, address_text-out, address_text-ranked}
use Rattle.ddr_text.proofs.map.address_text.Goals as goal

pub returns-in_default : goal.returns-in_default
returns-in_default c =
    subst (λ bs. IfOk c.format.result (λ text. string_bytes text ≡ bs))
    (address_text-out c.args.map.now.geometry c.args.addr (sym c.place.ensures.exact ∙ c.in_default.is)) c.format.ensures.ok

pub returns-then-map-eq2 : goal.returns-then-map-eq2
returns-then-map-eq2 c =
    subst (λ bs. IfOk c.format-then-map-eq2.result (λ text. string_bytes text ≡ bs))
    (address_text-ranked c.args.map.now.geometry c.args.addr c.in-Some.place (sym c.place.ensures.exact ∙ c.in-Some.is) c.if-map-eq2.true) (simp (append_assoc, c.from.ensures, c.from-2.ensures) at c.format-then-map-eq2.ensures.ok)

pub returns : goal.returns
returns c =
    subst (λ bs. IfOk c.format-2.result (λ text. string_bytes text ≡ bs))
    (address_text-in c.args.map.now.geometry c.args.addr c.in-Some.place (sym c.place.ensures.exact ∙ c.in-Some.is) c.if-map-eq2.false) (simp (append_assoc, c.from.ensures, c.from-2.ensures) at c.format-2.ensures.ok)
