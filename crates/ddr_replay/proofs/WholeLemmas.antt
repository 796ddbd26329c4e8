-- A replay stays whole, as the core does something that its books hear.
use Rattle.std.proofs.Common.{◌≡◌, ◌+◌, ℕ, Bool, List, ap, sym, subst, ◌∙◌, arith}
use Rattle.ddr_counting.specs.Noting.{AreNoted}
use Rattle.ddr_counting.proofs.NotingLemmas.{noted_heard, noted_still}
use Rattle.ddr_rounds.specs.Rounds.{outstanding}
use Rattle.ddr_rounds.specs.Telling.{IsHeard}
use Rattle.ddr_world.specs.Kept.{Kept, state_of}
use Rattle.ddr_world.specs.Promise.{trace_at}
use Rattle.ddr_stream.specs.Waiting.{IsSized, Waiting}
use Rattle.ddr_replay.specs.declared.books.Books.{Books}
use Rattle.ddr_replay.specs.declared.order.Asking.{Asking}
use Rattle.ddr_replay.specs.declared.replaying.Replaying.TheInside.{Inside}
use Rattle.ddr_ledger.specs.declared.released.ReleasedRequest.{ReleasedRequest}
use Rattle.ddr_replay.specs.declared.teller.Tale.{Tale}
use Rattle.ddr_replay.specs.declared.teller.Teller.{Teller}
use Rattle.ddr_replay.specs.Books.{heard}
use Rattle.ddr_ledger.specs.Ledgers.{Ledger}
use Rattle.ddr_replay.specs.Told.{IsKept, channel_of, wanted_of}
use Rattle.ddr_replay.specs.View.{IsWhole}
use Rattle.ddr_replay.proofs.BooksLemmas.{all_watched, heard_served, noting_heard}

-- the channels' part of a round
pub whole_served : (a : Inside) (world : Kept) (before books : Books) (teller : Teller) → IsWhole a → before.noting ≡ a.books.noting → before.watched ≡ a.books.watched → before.ledger.served ≡ a.books.ledger.served → world.config ≡ a.world.config → world.keeps ≡ a.world.keeps → outstanding (state_of world) ≡ outstanding (state_of a.world)
    → IsHeard heard before books (state_of a.world) (state_of world) → teller.tale ≡ a.teller.tale → IsWhole (record a { world = world; books = books; teller = teller })
whole_served a world before books teller k noting watched served config keeps waiting h tale = record {
  config = config ∙ k.config;
  unkept = keeps ∙ k.unkept;
  stream = k.stream;
  sized = k.sized;
  counted = omega (arith, k.counted, waiting);
  noted = noted_heard a.config (state_of a.world) (state_of world) before.noting books.noting (subst (AreNoted a.config (state_of a.world)) (sym noting) k.noted) (noting_heard before books (state_of a.world) (state_of world) h);
  watched = ap (λ (b : Books). b.watched) h.heard ∙ all_watched h.told before ∙ watched ∙ k.watched ∙ ap (λ (t : Tale). channel_of (wanted_of t)) (sym tale);
  kept = subst (λ (t : Tale). IsKept t books.ledger.served) (sym tale) (subst (λ (xs : List ReleasedRequest). IsKept a.teller.tale xs) (sym (ap (λ (b : Books). b.ledger.served) h.heard ∙ heard_served h.told before ∙ served)) k.kept);
}

-- a port's submissions
pub whole_submitted : (a : Inside) (asking : Asking) (world : Kept) (stream : Waiting) (ledger : Ledger) (went_on : Bool) → IsWhole a → world.config ≡ a.world.config → world.keeps ≡ a.world.keeps → stream.config ≡ a.stream.config → IsSized stream → a.stream.taken + outstanding (state_of world) ≡ stream.taken + outstanding (state_of a.world)
    → ((d : ℕ) → trace_at (state_of world) d ≡ trace_at (state_of a.world) d) → ledger.served ≡ a.books.ledger.served → IsWhole (record a { asking = asking; world = world; stream = stream; books = record a.books { ledger = ledger }; went_on = went_on })
whole_submitted a asking world stream ledger went_on k config keeps same sized count traces served = record {
  config = config ∙ k.config;
  unkept = keeps ∙ k.unkept;
  stream = same ∙ k.stream;
  sized = sized;
  counted = omega (arith, count, k.counted);
  noted = noted_still a.config (state_of a.world) (state_of world) a.books.noting k.noted traces;
  watched = k.watched;
  kept = subst (λ (xs : List ReleasedRequest). IsKept a.teller.tale xs) (sym served) k.kept;
}
