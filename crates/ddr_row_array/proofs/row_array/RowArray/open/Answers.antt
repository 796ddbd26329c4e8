use Rattle.std.proofs.Common.{None, refl, rules, ap, ◌∙◌, replicate, Option}
use Rattle.ddr_row_array.specs.declared.row_array.OpenRow.{OpenRow}
use Rattle.ddr_row_array.specs.declared.row_array.RowArray.TheInside.{Inside}
use Rattle.ddr_row_array.proofs.Fresh.{IsFresh-new}
use Rattle.ddr_row_array.proofs.row_array.RowArray.open.Goals as goal

pub returns : goal.returns
returns c =
    let made : Inside = record {
      alloc = c.args.alloc;
      geometry = c.args.config.now.geometry;
      opened = c.in_ok-vec.field-0;
      store = c.in_ok-new.field-0;
      index = c.new-2.result;
      ensured = None;
    } in
    IsFresh-new c.args.config.now made refl (c.in_ok-vec.ensures.items_if_clones_equal (λ y h. search rules) ∙ ap (λ n. replicate {A = Option OpenRow} n None) c.banks-banks.ensures) c.in_ok-new.ensures.slots
