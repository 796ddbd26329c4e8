-- Of completions due one after another, the first alone can be due now.
use Rattle.std.proofs.Common.{◌≡◌, List, [], ◌∷◌, ◌++◌, sym, ap, ◌∙◌}
use Rattle.std.proofs.lemmas.List.{append-nil}
use Rattle.circular_buffer.specs.Buffer.{buffer}
use Rattle.ddr_address_map.specs.Requests.{Completion}
use Rattle.ddr_channel.proofs.QueueLemmas.{no_first, first_later, first_now}
use Rattle.ddr_channel.proofs.queue.complete.Goals as goal

pub returns-in_default-clause-flight : goal.returns-in_default-clause-flight
returns-in_default-clause-flight c =
    let split = no_first c.args.now c.args.flight.now.items (sym c.in_default.ensures) in
    ap (λ (ds : List Completion). buffer ds c.args.flight.now.capacity) (sym split.1)

pub returns-in_default-clause-done : goal.returns-in_default-clause-done
returns-in_default-clause-done c =
    let split = no_first c.args.now c.args.flight.now.items (sym c.in_default.ensures) in
    ap (λ (ds : List Completion). buffer ds c.args.done.now.capacity) (sym (append-nil c.args.done.now.items) ∙ ap (λ (ds : List Completion). c.args.done.now.items ++ ds) (sym split.0))

pub returns-then-first-now-clause-flight : goal.returns-then-first-now-clause-flight
returns-then-first-now-clause-flight c =
    let due = ap (λ (d : Completion). d.due) c.first.view_is in
    let split = first_later c.args.now c.args.flight.now.items c.in-Some.first.now c.requires.due (sym c.in-Some.ensures) (λ here. c.if-first-now.true (due ∙ here)) in
    ap (λ (ds : List Completion). buffer ds c.args.flight.now.capacity) (sym split.1)

pub returns-then-first-now-clause-done : goal.returns-then-first-now-clause-done
returns-then-first-now-clause-done c =
    let due = ap (λ (d : Completion). d.due) c.first.view_is in
    let split = first_later c.args.now c.args.flight.now.items c.in-Some.first.now c.requires.due (sym c.in-Some.ensures) (λ here. c.if-first-now.true (due ∙ here)) in
    ap (λ (ds : List Completion). buffer ds c.args.done.now.capacity) (sym (append-nil c.args.done.now.items) ∙ ap (λ (ds : List Completion). c.args.done.now.items ++ ds) (sym split.0))

pub returns-in-Some-pop_front-clause-flight : goal.returns-in-Some-pop_front-clause-flight
returns-in-Some-pop_front-clause-flight c =
    let due = ap (λ (d : Completion). d.due) c.first.view_is in
    let split = first_now c.args.now c.args.flight.now.items c.in-Some.first.now c.requires.due (sym c.in-Some.ensures) (sym due ∙ c.if-first-now.false) in
    c.pop_front.ensures.items ∙ ap (λ (ds : List Completion). buffer ds c.args.flight.now.capacity) (sym split.1)

pub returns-in-Some-pop_front-clause-done : goal.returns-in-Some-pop_front-clause-done
returns-in-Some-pop_front-clause-done c =
    let due = ap (λ (d : Completion). d.due) c.first.view_is in
    let split = first_now c.args.now c.args.flight.now.items c.in-Some.first.now c.requires.due (sym c.in-Some.ensures) (sym due ∙ c.if-first-now.false) in
    let popped : c.in-Some.first.now ≡ c.in-Some-pop_front.first = cc (c.in-Some.ensures, c.in-Some-pop_front.ensures.value) in
    c.push.ensures ∙ ap (λ (ds : List Completion). buffer (c.args.done.now.items ++ ds) c.args.done.now.capacity) (ap (λ (d : Completion). d ∷ []) (sym popped) ∙ sym split.0)
