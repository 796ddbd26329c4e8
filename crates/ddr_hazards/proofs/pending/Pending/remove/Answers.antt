use Rattle.std.proofs.Common.{◌≡◌, ℕ, ◌<◌, eqb, length, drop, Some, refl, ap, sym, ◌∙◌, subst, arith}
use Rattle.std.specs.List.{position_or_len, remove}
use Rattle.std.specs.Option.{option_map}
use Rattle.std.proofs.lemmas.List.Edits.{length-remove}
use Rattle.ddr_hazards.specs.declared.pending.Pending.TheInside.{Inside}
use Rattle.ddr_hazards.specs.declared.banks.TheConstants.{BANKS}
use Rattle.ddr_hazards.specs.declared.slots.Slots.{Slots}
use Rattle.ddr_hazards.specs.declared.waiting.Waiting.{Waiting}
use Rattle.ddr_hazards.specs.Banks.{bank_number, bank_slots, with_slots}
use Rattle.ddr_hazards.specs.PendingList.{after_remove, request_at}
use Rattle.ddr_hazards.specs.Slots.{at, count_less, is_line}
use Rattle.ddr_hazards.specs.View.{IsSound}
use Rattle.ddr_hazards.proofs.Soundness.{bank_below, behind_in, counts_one, in_rank_of, index_in, list_eq, slots_left, IsSound-remove}
use Rattle.ddr_hazards.proofs.pending.Pending.remove.Goals as goal

pub remove-requires : goal.remove-requires
remove-requires c = c.self.invariant.ordered

pub invariant_of-self : goal.invariant_of-self
invariant_of-self c =
    let a = c.self.inside in
    subst (λ (s : Slots). IsSound (record { slots = s; banks = a.banks; hazards = a.hazards; counts = a.counts; limits = a.limits })) (sym c.in_err-slot.ensures.none) c.self.invariant

pub returns-in_err-slot-clause-taken : goal.returns-in_err-slot-clause-taken
returns-in_err-slot-clause-taken c =
    c.from_residual.ensures ∙ ap (option_map (λ (w : Waiting). w.request)) c.in_err-slot.ensures.request ∙ ap (λ p. request_at p c.args.place) c.self.view_is

pub returns-in_err-slot-clause-rest : goal.returns-in_err-slot-clause-rest
returns-in_err-slot-clause-rest c = list_eq c.in_err-slot.ensures.held refl refl ∙ ap (after_remove c.args.place) c.self.view_is

pub slots-requires : goal.slots-requires
slots-requires c =
    let number : c.bank_number-bank.result ≡ bank_number c.in_ok-slot.waiting.request.place = c.bank_number-bank.ensures ∙ ap (λ r. bank_number r.place) c.request.view_is in
    rw number (bank_below c.in_ok-slot.waiting.request.place (in_rank_of c.self.inside c.args.place c.in_ok-slot.waiting c.in_ok-slot.slot (record { sound = c.self.invariant; there = sym c.in_ok-slot.ensures.slot; request = sym c.in_ok-slot.ensures.request })))

pub remove-requires-2-clause-bank_in : goal.remove-requires-2-clause-bank_in
remove-requires-2-clause-bank_in c =
    let number : c.bank_number-bank.result ≡ bank_number c.in_ok-slot.waiting.request.place = c.bank_number-bank.ensures ∙ ap (λ r. bank_number r.place) c.request.view_is in
    rw number (bank_below c.in_ok-slot.waiting.request.place (in_rank_of c.self.inside c.args.place c.in_ok-slot.waiting c.in_ok-slot.slot (record { sound = c.self.invariant; there = sym c.in_ok-slot.ensures.slot; request = sym c.in_ok-slot.ensures.request })))

pub remove-requires-2-clause-index_in : goal.remove-requires-2-clause-index_in
remove-requires-2-clause-index_in c =
    let number : c.bank_number-bank.result ≡ bank_number c.in_ok-slot.waiting.request.place = c.bank_number-bank.ensures ∙ ap (λ r. bank_number r.place) c.request.view_is in
    let index : c.position-index.result ≡ position_or_len (λ t. eqb t c.in_ok-slot.slot) (bank_slots c.self.inside.banks.lists (bank_number c.in_ok-slot.waiting.request.place)) =
    c.position-index.ensures ∙ ap (position_or_len (λ t. eqb t c.in_ok-slot.slot)) (c.slots.ensures ∙ ap (bank_slots c.self.inside.banks.lists) number) in
    rw (index, number) (index_in c.self.inside c.args.place c.in_ok-slot.waiting c.in_ok-slot.slot (record { sound = c.self.invariant; there = sym c.in_ok-slot.ensures.slot; request = sym c.in_ok-slot.ensures.request }))

pub behind-behind-requires-clause-bank_in : goal.behind-behind-requires-clause-bank_in
behind-behind-requires-clause-bank_in c =
    let number : c.bank_number-bank.result ≡ bank_number c.in_ok-slot.waiting.request.place = c.bank_number-bank.ensures ∙ ap (λ r. bank_number r.place) c.request.view_is in
    rw number (bank_below c.in_ok-slot.waiting.request.place (in_rank_of c.self.inside c.args.place c.in_ok-slot.waiting c.in_ok-slot.slot (record { sound = c.self.invariant; there = sym c.in_ok-slot.ensures.slot; request = sym c.in_ok-slot.ensures.request })))

pub behind-behind-requires-clause-index_in : goal.behind-behind-requires-clause-index_in
behind-behind-requires-clause-index_in c =
    let number : c.bank_number-bank.result ≡ bank_number c.in_ok-slot.waiting.request.place = c.bank_number-bank.ensures ∙ ap (λ r. bank_number r.place) c.request.view_is in
    let index : c.position-index.result ≡ position_or_len (λ t. eqb t c.in_ok-slot.slot) (bank_slots c.self.inside.banks.lists (bank_number c.in_ok-slot.waiting.request.place)) =
    c.position-index.ensures ∙ ap (position_or_len (λ t. eqb t c.in_ok-slot.slot)) (c.slots.ensures ∙ ap (bank_slots c.self.inside.banks.lists) number) in
    let lists = c.self.inside.banks.lists in
    let bank = c.bank_number-bank.result in
    let below : bank < BANKS = rw number (bank_below c.in_ok-slot.waiting.request.place (in_rank_of c.self.inside c.args.place c.in_ok-slot.waiting c.in_ok-slot.slot (record { sound = c.self.invariant; there = sym c.in_ok-slot.ensures.slot; request = sym c.in_ok-slot.ensures.request }))) in
    let inside : bank < length lists = omega (arith, c.self.invariant.banks, below) in
    let left : bank_slots c.remove-2.new.self.lists bank ≡ remove (bank_slots lists bank) c.position-index.result =
    slots_left lists c.remove-2.new.self.lists bank c.position-index.result inside c.remove-2.ensures in
    let within : c.position-index.result < length (bank_slots lists bank) = rw (index, number) (index_in c.self.inside c.args.place c.in_ok-slot.waiting c.in_ok-slot.slot (record { sound = c.self.invariant; there = sym c.in_ok-slot.ensures.slot; request = sym c.in_ok-slot.ensures.request })) in
    omega (arith, within, ap (length {A = ℕ}) left, length-remove (bank_slots lists bank) c.position-index.result within)

pub count_less-requires : goal.count_less-requires
count_less-requires c =
    let number : c.bank_number-bank.result ≡ bank_number c.in_ok-slot.waiting.request.place = c.bank_number-bank.ensures ∙ ap (λ r. bank_number r.place) c.request.view_is in
    let index : c.position-index.result ≡ position_or_len (λ t. eqb t c.in_ok-slot.slot) (bank_slots c.self.inside.banks.lists (bank_number c.in_ok-slot.waiting.request.place)) =
    c.position-index.ensures ∙ ap (position_or_len (λ t. eqb t c.in_ok-slot.slot)) (c.slots.ensures ∙ ap (bank_slots c.self.inside.banks.lists) number) in
    let lists = c.self.inside.banks.lists in
    let bank = c.bank_number-bank.result in
    let below : bank < BANKS = rw number (bank_below c.in_ok-slot.waiting.request.place (in_rank_of c.self.inside c.args.place c.in_ok-slot.waiting c.in_ok-slot.slot (record { sound = c.self.invariant; there = sym c.in_ok-slot.ensures.slot; request = sym c.in_ok-slot.ensures.request }))) in
    let inside : bank < length lists = omega (arith, c.self.invariant.banks, below) in
    let left : bank_slots c.remove-2.new.self.lists bank ≡ remove (bank_slots lists bank) c.position-index.result =
    slots_left lists c.remove-2.new.self.lists bank c.position-index.result inside c.remove-2.ensures in
    let is : c.behind-behind.result.now ≡ drop c.position-index.result (remove (bank_slots lists bank) c.position-index.result) =
    c.behind-behind.ensures ∙ ap (drop c.position-index.result) left in
    rw is (behind_in c.self.inside bank c.position-index.result c.position-index.result c.self.invariant below)

pub subtract-requires : goal.subtract-requires
subtract-requires c =
    counts_one c.self.inside c.args.place c.in_ok-slot.waiting c.request.inside.echo.kind c.self.invariant (ap (λ r. r.echo.kind) c.request.view_is) (sym c.in_ok-slot.ensures.request)

pub invariant_of-self-2 : goal.invariant_of-self-2
invariant_of-self-2 c =
    let a = c.self.inside in
    let lists = a.banks.lists in
    let number : c.bank_number-bank.result ≡ bank_number c.in_ok-slot.waiting.request.place = c.bank_number-bank.ensures ∙ ap (λ r. bank_number r.place) c.request.view_is in
    let index : c.position-index.result ≡ position_or_len (λ t. eqb t c.in_ok-slot.slot) (bank_slots c.self.inside.banks.lists (bank_number c.in_ok-slot.waiting.request.place)) =
    c.position-index.ensures ∙ ap (position_or_len (λ t. eqb t c.in_ok-slot.slot)) (c.slots.ensures ∙ ap (bank_slots c.self.inside.banks.lists) number) in
    IsSound-remove a _ c.args.place c.in_ok-slot.waiting c.in_ok-slot.slot c.request.inside.echo.kind
    (record {
      here = record { sound = c.self.invariant; there = sym c.in_ok-slot.ensures.slot; request = sym c.in_ok-slot.ensures.request };
      ordered = c.in_ok-slot.ensures.ordered;
      order = c.in_ok-slot.ensures.order;
      held = c.in_ok-slot.ensures.held;
      others = c.in_ok-slot.ensures.others;
      banks = c.remove-2.ensures ∙ (λ i. with_slots lists (number i) (remove (bank_slots lists (number i)) (index i)));
      hazards = c.count_less.ensures
          ∙ (λ i. count_less (is_line (at c.remove.new.self) (c.request.view_is i).place)
          ((c.behind-behind.ensures ∙ (λ k. drop (index k) (bank_slots c.remove-2.new.self.lists (number k)))) i) a.hazards);
      limits = refl;
    })
    (ap (λ r. r.echo.kind) c.request.view_is) c.subtract.ensures

pub returns-clause-taken : goal.returns-clause-taken
returns-clause-taken c =
    ap (option_map (λ (w : Waiting). w.request)) c.in_ok-slot.ensures.request ∙ ap (λ p. request_at p c.args.place) c.self.view_is

pub returns-clause-rest : goal.returns-clause-rest
returns-clause-rest c = list_eq c.in_ok-slot.ensures.held refl refl ∙ ap (after_remove c.args.place) c.self.view_is
