use Rattle.std.proofs.Common.{◌≡◌, ◌++◌, ◌∷◌, [], false, length, set, refl, ap, sym, ◌∙◌, arith}
use Rattle.std.specs.List.{count_by}
use Rattle.std.proofs.lemmas.List.Sums.{count_by-le-length}
use Rattle.ddr_hazards.specs.declared.waiting.Waiting.{Waiting}
use Rattle.ddr_hazards.specs.Banks.{bank_number, bank_slots, with_slots}
use Rattle.ddr_hazards.specs.PendingList.{is_full}
use Rattle.ddr_hazards.specs.Slots.{at, is_line}
use Rattle.ddr_hazards.specs.View.{pending_list}
use Rattle.ddr_hazards.proofs.Soundness.{bank_below, bank_short, below_capacity, IsSound-push}
use Rattle.ddr_hazards.proofs.pending.Pending.admit.Goals as goal

pub push-slot-requires-clause-room : goal.push-slot-requires-clause-room
push-slot-requires-clause-room c =
    let room : is_full (pending_list c.self.inside) c.request.inside.echo.kind ≡ false =
    ap (λ p. is_full p c.request.inside.echo.kind) c.self.view_is ∙ sym c.if-is_full.ensures in
    below_capacity c.self.inside c.request.inside.echo.kind c.self.invariant room

pub overflow_cast-self : goal.overflow_cast-self
overflow_cast-self c =
    let room : is_full (pending_list c.self.inside) c.request.inside.echo.kind ≡ false =
    ap (λ p. is_full p c.request.inside.echo.kind) c.self.view_is ∙ sym c.if-is_full.ensures in
    let number = c.bank_number-bank.ensures ∙ ap (λ r. bank_number r.place) c.request.view_is in
    let short = bank_short c.self.inside c.bank_number-bank.result c.self.invariant (rw number (bank_below c.args.request.place c.requires)) in
    omega (
      arith,
      below_capacity c.self.inside c.request.inside.echo.kind c.self.invariant room,
      short,
      ap length c.slots.ensures,
      count_by-le-length (is_line (at c.self.inside.slots) c.request.inside.place) c.slots.result.now,
      c.count_line-older.ensures,
    )

pub push-requires-clause-room : goal.push-requires-clause-room
push-requires-clause-room c =
    let room : is_full (pending_list c.self.inside) c.request.inside.echo.kind ≡ false =
    ap (λ p. is_full p c.request.inside.echo.kind) c.self.view_is ∙ sym c.if-is_full.ensures in
    let number = c.bank_number-bank.ensures ∙ ap (λ r. bank_number r.place) c.request.view_is in
    omega (
      arith,
      below_capacity c.self.inside c.request.inside.echo.kind c.self.invariant room,
      bank_short c.self.inside c.bank_number-bank.result c.self.invariant (rw number (bank_below c.args.request.place c.requires)),
    )

pub invariant_of-self : goal.invariant_of-self
invariant_of-self c =
    let a = c.self.inside in
    let room : is_full (pending_list a) c.request.inside.echo.kind ≡ false =
    ap (λ p. is_full p c.request.inside.echo.kind) c.self.view_is ∙ sym c.if-is_full.ensures in
    let w : Waiting = record { request = c.args.request; admitted = c.args.now } in
    let number : c.bank_number-bank.result ≡ bank_number c.args.request.place = c.bank_number-bank.ensures ∙ ap (λ r. bank_number r.place) c.request.view_is in
    let older : c.count_line-older.result ≡ count_by (is_line (at a.slots) c.args.request.place) (bank_slots a.banks.lists (bank_number c.args.request.place)) =
    c.count_line-older.ensures ∙ (λ i. count_by (is_line (at a.slots) (c.request.view_is i).place) ((c.slots.ensures ∙ ap (bank_slots a.banks.lists) number) i)) in
    IsSound-push a _ w c.push-slot.result c.request.inside.echo.kind
    (record {
      sound = c.self.invariant;
      ordered = c.push-slot.ensures.ordered;
      order = c.push-slot.ensures.order;
      held = c.push-slot.ensures.held;
      one = c.push-slot.ensures.one;
      others = c.push-slot.ensures.others;
      in_rank = c.requires;
      hazards = ap (set a.hazards c.push-slot.result) older;
      banks = c.push.ensures ∙ ap (λ n. with_slots a.banks.lists n (bank_slots a.banks.lists n ++ c.push-slot.result ∷ [])) number;
      limits = refl;
    })
    (ap (λ r. r.echo.kind) c.request.view_is) room c.add.ensures

pub returns-clause-full : goal.returns-clause-full
returns-clause-full c =
    let room : is_full c.args.self.now c.args.request.echo.kind ≡ false =
    sym (c.if-is_full.ensures ∙ ap (λ r. is_full c.args.self.now r.echo.kind) c.request.view_is) in
    rw room (λ full. full, λ full. full)
