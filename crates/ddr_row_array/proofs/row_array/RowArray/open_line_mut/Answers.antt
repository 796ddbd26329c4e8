use Rattle.std.proofs.Common.{◌≡◌, Some, refl, ap, sym, subst, ◌∙◌}
use Rattle.ddr_row_array.specs.declared.row_array.RowArray.TheInside.{Inside}
use Rattle.ddr_row_array.specs.Rows.{Rows, open_burst}
use Rattle.ddr_row_array.specs.View.{rows_of}
use Rattle.ddr_row_array.specs.Writes.{with_burst, ChangesLineAlone}
use Rattle.ddr_row_array.proofs.Bursts.{IsOpenAt-read, IsOpenAt-same, IsSound-lent, ChangesLineAlone-at, HasPlace-at, open_burst-at, rows_of-lent}
use Rattle.ddr_row_array.proofs.Slots.{IsSound-same}
use Rattle.ddr_row_array.proofs.row_array.RowArray.open_line_mut.Goals as goal

pub enter-place-requires-clause-there : goal.enter-place-requires-clause-there
enter-place-requires-clause-there c =
    let at = IsOpenAt-read c.self.inside c.args.bank c.args.line c.index.result.now c.unwrap-open.result c.self.invariant (rw (← c.self.view_is) at c.requires) c.index.ensures c.unwrap-open.ensures in
    HasPlace-at c.self.inside c.args.bank c.args.line c.unwrap-open.result c.self.invariant at

pub invariant_of-self-lent : goal.invariant_of-self-lent
invariant_of-self-lent c =
    let a = c.self.inside in
    let o = c.unwrap-open.result in
    let at = IsOpenAt-read a c.args.bank c.args.line c.index.result.now o c.self.invariant (rw (← c.self.view_is) at c.requires) c.index.ensures c.unwrap-open.ensures in
    let store = c.enter-place.new.self in
    let rows = c.enter-place.ensures.rows in
    let sound = IsSound-same a store c.self.invariant c.enter-place.ensures.kept c.enter-place.ensures.width rows in
    let here = IsOpenAt-same a store c.args.bank c.args.line o rows at in
    let mid : Inside = record a { store = store } in
    let p = c.enter-place.result in
    let is_p = c.enter-place.ensures.place in
    let set_p = c.enter-place.ensures.entered in
    IsSound-lent mid c.args.bank c.args.line o sound here p is_p set_p

pub returns : goal.returns
returns c =
    let a = c.self.inside in
    let o = c.unwrap-open.result in
    let at = IsOpenAt-read a c.args.bank c.args.line c.index.result.now o c.self.invariant (rw (← c.self.view_is) at c.requires) c.index.ensures c.unwrap-open.ensures in
    let store = c.enter-place.new.self in
    let rows = c.enter-place.ensures.rows in
    let sound = IsSound-same a store c.self.invariant c.enter-place.ensures.kept c.enter-place.ensures.width rows in
    let here = IsOpenAt-same a store c.args.bank c.args.line o rows at in
    let mid : Inside = record a { store = store } in
    let p = c.enter-place.result in
    let is_p = c.enter-place.ensures.place in
    let set_p = c.enter-place.ensures.entered in
    let same : rows_of mid ≡ rows_of a = ap (λ stored. record (rows_of a) { stored = stored }) rows in (
      (refl, λ w. rw (← c.self.view_is) (rows_of-lent mid c.args.bank c.args.line o sound here p is_p set_p w ∙ ap (λ r. with_burst r c.args.bank c.args.line w) same)),
      record {
        writes_back = tt;
        value = (
          rw (← c.self.view_is) (ap (λ r. open_burst r c.args.bank c.args.line) (sym same) ∙ open_burst-at mid c.args.bank c.args.line o sound here p is_p ∙ ap Some (sym c.line_mut.ensures.value)),
          c.line_mut.ensures.length,
        );
        only_the_line = rw (← c.self.view_is) (subst (λ (r : Rows). ChangesLineAlone r c.args.bank c.args.line) same (ChangesLineAlone-at mid c.args.bank c.args.line o sound here p is_p set_p));
      },
    )
