use Rattle.std.proofs.Common.{◌≡◌, ℕ, refl, subst, ap, sym, ◌∙◌, None, Some, cond, length, is_some}
use Rattle.std.specs.BTreeMap.{get}
use Rattle.std.specs.Option.{option_copied}
use Rattle.std.specs.Ordering.{is_eq}
use Rattle.ddr_row_array.specs.Rows.{StoredRow}
use Rattle.ddr_row_array.specs.Store.{stored_of, stored_rows}
use Rattle.ddr_row_array.specs.View.{IsSound, address_cmp}
use Rattle.ddr_row_array.proofs.Addresses.{swapped_pair}
use Rattle.ddr_row_array.proofs.Slots.{IsSound-grown, absent_is_not_stored, fresh, fresh_lines, is_some-new, line-new, or_kept, or_new, or_none, same_address, stored_from_index, stored_rows-push}
use Rattle.ddr_row_array.proofs.row_array.RowArray.ensure.Goals as goal

pub returns-in-Some-clause-ok : goal.returns-in-Some-clause-ok
returns-in-Some-clause-ok c =
    stored_from_index c.self.inside c.args.bank c.args.row c.self.invariant (ap is_some (sym c.get.ensures.value ∙ ap option_copied c.in-Some.is))

pub invariant_of-self-2 : goal.invariant_of-self-2
invariant_of-self-2 c =
    let old = c.self.inside.store in
    let new = fresh (record { bank = c.args.bank; row = c.args.row }) old.slots.width in
    let added : StoredRow = stored_of old.lines.items new in
    let pushed = stored_rows-push old c.reserve.new.self c.push.new.self new.address c.reserve.ensures.same c.push.ensures.slots c.push.ensures.lines in
    let absent : get address_cmp c.self.inside.index new.address ≡ None = sym c.get.ensures.value ∙ ap option_copied c.in_default.is in
    let place : c.len-slot.result ≡ length old.slots.items = c.len-slot.ensures ∙ ap length c.reserve.ensures.same.slots in
    subst (λ (n : ℕ). IsSound (record c.self.inside { store = c.push.new.self; index = c.insert.new.self; ensured = Some (record { address = new.address; slot = n }) })) (sym place)
    (IsSound-grown c.self.inside c.self.invariant new.address added (refl, refl) c.push.new.self c.insert.new.self pushed absent c.push.ensures.kept (c.push.ensures.width ∙ c.reserve.ensures.same.width)
    (λ k. c.in_ok-insert.ensures.updates.0 k ∙ ap (λ n. cond (is_eq (address_cmp new.address k)) (Some n) (get address_cmp c.self.inside.index k)) place))

pub returns-clause-ok : goal.returns-clause-ok
returns-clause-ok c =
    let old = c.self.inside.store in
    let new = fresh (record { bank = c.args.bank; row = c.args.row }) old.slots.width in
    let added : StoredRow = stored_of old.lines.items new in
    let pushed = stored_rows-push old c.reserve.new.self c.push.new.self new.address c.reserve.ensures.same c.push.ensures.slots c.push.ensures.lines in
    rw pushed (is_some-new (stored_rows old) added c.args.bank c.args.row ∙ or_new _ _ (same_address c.args.bank c.args.row))

pub returns-clause-others : goal.returns-clause-others
returns-clause-others c =
    let old = c.self.inside.store in
    let new = fresh (record { bank = c.args.bank; row = c.args.row }) old.slots.width in
    let added : StoredRow = stored_of old.lines.items new in
    let pushed = stored_rows-push old c.reserve.new.self c.push.new.self new.address c.reserve.ensures.same c.push.ensures.slots c.push.ensures.lines in
    rw (pushed, ← c.self.view_is) (λ b r differ.
    is_some-new (stored_rows old) added b r ∙ or_none _ _ (swapped_pair c.args.bank b c.args.row r ∙ differ))

pub returns-clause-kept : goal.returns-clause-kept
returns-clause-kept c =
    let old = c.self.inside.store in
    let new = fresh (record { bank = c.args.bank; row = c.args.row }) old.slots.width in
    let added : StoredRow = stored_of old.lines.items new in
    let pushed = stored_rows-push old c.reserve.new.self c.push.new.self new.address c.reserve.ensures.same c.push.ensures.slots c.push.ensures.lines in
    rw (pushed, ← c.self.view_is) (λ b r h. is_some-new (stored_rows old) added b r ∙ or_kept _ _ h)

pub returns-clause-bytes : goal.returns-clause-bytes
returns-clause-bytes c =
    let old = c.self.inside.store in
    let new = fresh (record { bank = c.args.bank; row = c.args.row }) old.slots.width in
    let added : StoredRow = stored_of old.lines.items new in
    let pushed = stored_rows-push old c.reserve.new.self c.push.new.self new.address c.reserve.ensures.same c.push.ensures.slots c.push.ensures.lines in
    rw (pushed, ← c.self.view_is) (line-new (stored_rows old) added (fresh_lines old new c.self.invariant.store refl))

pub returns-in_err-reserve-clause-stored : goal.returns-in_err-reserve-clause-stored
returns-in_err-reserve-clause-stored c =
    rw (← c.self.view_is) (absent_is_not_stored c.self.inside c.args.bank c.args.row c.self.invariant (ap is_some (sym c.get.ensures.value ∙ ap option_copied c.in_default.is)))

pub returns-in_err-insert-clause-stored : goal.returns-in_err-insert-clause-stored
returns-in_err-insert-clause-stored c =
    rw (← c.self.view_is) (absent_is_not_stored c.self.inside c.args.bank c.args.row c.self.invariant (ap is_some (sym c.get.ensures.value ∙ ap option_copied c.in_default.is)))
