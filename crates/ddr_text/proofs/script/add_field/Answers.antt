use Rattle.std.proofs.Common.{◌≡◌, ◌≤◌, length, map, sym, ◌∙◌, rules, arith}
use Rattle.std.proofs.lemmas.List.{length-map}
use Rattle.std.proofs.lemmas.Bool.Decides.{nat_tests}
use Rattle.ddr_text.proofs.FieldLemmas.{fields_full, fields_same}
use Rattle.ddr_text.proofs.script.add_field.Goals as goal
use Rattle.ddr_text.proofs.script.add_field.Goals.{else-not-is_full-via-then-not-is_full+else-not-is_empty, else-not-is_full-via-else-not-is_full}

pub returns-else-not-is_full : goal.returns-else-not-is_full
returns-else-not-is_full c =
    let kept = length-map c.args.fields.now.items (λ field. field.now) in
    elim c.else-not-is_full.branch [
      | else-not-is_full-via-then-not-is_full+else-not-is_empty w ↦
          let empty : length c.args.field.now ≡ 0 = grind (arith, nat_tests) in
          fields_same _ c.args.field.now (omega (arith, kept, c.is_full.ensures.fits)) empty
      | else-not-is_full-via-else-not-is_full w ↦
          let full : length c.args.fields.now.items ≡ 6 = grind (arith, nat_tests) in
          fields_full _ c.args.field.now (kept ∙ full)
    ]
