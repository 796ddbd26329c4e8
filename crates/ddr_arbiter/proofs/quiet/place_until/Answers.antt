-- The bank of the request was asked before, or it is asked now.
use Rattle.std.proofs.Common.{◌≡◌, ◌≤◌, ℕ, Bool, true, false, List, Option, Some, sym, ap, ◌∙◌, arith, All}
use Rattle.std.specs.List.{slice_get}
use Rattle.ddr_address_map.specs.declared.place.Place.{Place}
use Rattle.ddr_address_map.specs.Requests.{Request}
use Rattle.ddr_hazards.specs.declared.waiting.Waiting.{Waiting}
use Rattle.ddr_hazards.specs.PendingList.{IsInRank, waiting_of}
use Rattle.ddr_arbiter.specs.Known.{AreInOneBank}
use Rattle.ddr_arbiter.specs.Until.{MarkTellsUntil}
use Rattle.ddr_arbiter.proofs.KnownLemmas.{in_rank_at, number_below, table_at, table_set}
use Rattle.ddr_arbiter.proofs.StuckLemmas.{bank_shared, bank_sooner, marks_sooner, sooner}
use Rattle.ddr_arbiter.proofs.quiet.place_until.Goals as goal

-- the place of the request that is lent

lent_inside : (waiting : List Waiting) (place : ℕ) (v : Waiting) (p : Place) → p ≡ v.request.place → Some v ≡ slice_get waiting place → All (λ w. IsInRank w.request.place) waiting → IsInRank p
lent_inside waiting place v p is lent inside = rw is (in_rank_at waiting place v inside (sym lent))

lent_bank : (waiting : List Waiting) (place : ℕ) (v w : Waiting) (p : Place) → p ≡ v.request.place → Some v ≡ slice_get waiting place → slice_get waiting place ≡ Some w → AreInOneBank p w.request.place
lent_bank waiting place v w p is lent here =
    let again : Some v ≡ Some w = lent ∙ here in
    let one : v ≡ w = cc in
    let same : p ≡ w.request.place = is ∙ ap (λ (x : Waiting). x.request.place) one in
    (ap (λ (x : Place). x.rank) same, ap (λ (x : Place). x.group) same, ap (λ (x : Place). x.bank) same)

pub returns-then-asked-number-clause-stuck : goal.returns-then-asked-number-clause-stuck
returns-then-asked-number-clause-stuck c = λ w candidate.
    let waiting = c.args.pending.now.waiting in
    let at : Place = c.request.inside.place in
    let v : Waiting = waiting_of (c.in-Some.request, c.in-Some.field-0-1) in
    let is : at ≡ v.request.place = ap (λ (r : Request). r.place) c.request.view_is in
    table_at (λ (p : Place) (o : Option Bool). MarkTellsUntil c.args.until c.args.legality.now.bus c.args.candidates.now waiting c.args.room p o)
    c.args.asked.now c.bank_number-number.result at true false c.told-asked c.bank_number-number.ensures (lent_inside waiting c.args.place v at is c.in-Some.ensures c.requires.inside) c.requires.asked c.if-asked-number.true
    c.args.place w candidate (lent_bank waiting c.args.place v w at is c.in-Some.ensures candidate.here)

pub bounds-asked-number-2 : goal.bounds-asked-number-2
bounds-asked-number-2 c =
    let at : Place = c.request.inside.place in
    let v : Waiting = waiting_of (c.in-Some.request, c.in-Some.field-0-1) in
    let is : at ≡ v.request.place = ap (λ (r : Request). r.place) c.request.view_is in
    rw c.bank_number-number.ensures (number_below at (lent_inside c.args.pending.now.waiting c.args.place v at is c.in-Some.ensures c.requires.inside))

pub bank_until-requires-clause-at : goal.bank_until-requires-clause-at
bank_until-requires-clause-at c =
    let at : Place = c.request.inside.place in
    let v : Waiting = waiting_of (c.in-Some.request, c.in-Some.field-0-1) in
    let is : at ≡ v.request.place = ap (λ (r : Request). r.place) c.request.view_is in
    lent_inside c.args.pending.now.waiting c.args.place v at is c.in-Some.ensures c.requires.inside

pub returns-clause-stuck : goal.returns-clause-stuck
returns-clause-stuck c = λ w candidate.
    let waiting = c.args.pending.now.waiting in
    let at : Place = c.request.inside.place in
    let v : Waiting = waiting_of (c.in-Some.request, c.in-Some.field-0-1) in
    let is : at ≡ v.request.place = ap (λ (r : Request). r.place) c.request.view_is in
    let below : c.min.result ≤ c.bank_until.result = omega (arith, c.min.ensures) in
    sooner c.bank_until.result c.min.result c.args.legality.now.bus c.args.candidates.now waiting c.args.room w.request.place below
    (c.bank_until.ensures c.args.place w candidate (lent_bank waiting c.args.place v w at is c.in-Some.ensures candidate.here))

pub returns-clause-asked : goal.returns-clause-asked
returns-clause-asked c =
    let bus = c.args.legality.now.bus in
    let served = c.args.candidates.now in
    let waiting = c.args.pending.now.waiting in
    let at : Place = c.request.inside.place in
    let v : Waiting = waiting_of (c.in-Some.request, c.in-Some.field-0-1) in
    let is : at ≡ v.request.place = ap (λ (r : Request). r.place) c.request.view_is in
    let below : c.min.result ≤ c.bank_until.result = omega (arith, c.min.ensures) in
    let no_later : c.min.result ≤ c.args.until = omega (arith, c.min.ensures) in
    table_set (λ (p : Place) (o : Option Bool). MarkTellsUntil c.min.result bus served waiting c.args.room p o)
    c.args.asked.now c.bank_number-number.result at true c.told-asked c.bank_number-number.ensures (lent_inside waiting c.args.place v at is c.in-Some.ensures c.requires.inside)
    (λ p same. bank_shared c.min.result bus served waiting c.args.room at p same (bank_sooner c.bank_until.result c.min.result bus served waiting c.args.room at below c.bank_until.ensures))
    (marks_sooner c.args.until c.min.result bus served waiting c.args.room c.args.asked.now no_later c.requires.asked)
