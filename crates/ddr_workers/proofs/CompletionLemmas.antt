-- What a channel's list keeps as it grows, and what a pop tells of its completion.
use Rattle.std.proofs.Common.{◌≡◌, ℕ, ◌<◌, List, [], ◌∷◌, ◌++◌, unwrap_or, sym, ap, subst}
use Rattle.std.proofs.lemmas.List.Elements.{All-nil, All-cons, All-append}
use Rattle.ddr_address_map.specs.Requests.{Completion}
use Rattle.ddr_workers.specs.declared.completions.Delivery.{Delivery}
use Rattle.ddr_workers.specs.Completions.{IsFrom, source_of, of_channel, AreDelivered, IsNext}
use Rattle.ddr_workers.specs.Sides as sides
use Rattle.ddr_workers.proofs.ItemLemmas.{All-of, of_source-next}

module _ (delivery : Delivery) where
  pub source_of-from : (channel : ℕ) (done : Completion) → IsFrom delivery channel done → source_of delivery done ≡ channel
  source_of-from channel done from = ap (λ o. unwrap_or o 0) from.channel

  pub AreDelivered-nil : AreDelivered delivery []
  AreDelivered-nil = All-nil (λ x. IsFrom delivery (source_of delivery x) x)

  pub AreDelivered-push : (dones : List Completion) (channel : ℕ) (done : Completion) → IsFrom delivery channel done → AreDelivered delivery dones → AreDelivered delivery (dones ++ done ∷ [])
  AreDelivered-push dones channel done from before =
      let own : IsFrom delivery (source_of delivery done) done = subst (λ c. IsFrom delivery c done) (sym (source_of-from channel done from)) from in
      All-append (λ x. IsFrom delivery (source_of delivery x) x) dones (done ∷ []) before (All-cons (λ x. IsFrom delivery (source_of delivery x) x) done [] own AreDelivered-nil)

pub is_next : (t : sides.TakeSide Delivery Completion) (done : Completion) → sides.IsNext source_of AreDelivered t done → IsNext t done
is_next t done told =
    let delivery = t.who.queue.purpose in
    let channel = source_of delivery done in
    let own : AreDelivered delivery (of_channel delivery channel t.took ++ done ∷ of_channel delivery channel told.0) = subst (AreDelivered delivery) (of_source-next (source_of delivery) t.took done told.0) (told.1.proper channel) in
    record {
      channel = channel;
      below = All-of (λ x. source_of delivery x < t.who.count) t.took done told.0 told.1.made;
      from = All-of (λ x. IsFrom delivery (source_of delivery x) x) (of_channel delivery channel t.took) done (of_channel delivery channel told.0) own;
    }
