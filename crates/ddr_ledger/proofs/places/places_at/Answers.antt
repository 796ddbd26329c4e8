-- The channel's tables are those of its trace, by its statistics.
use Rattle.std.proofs.Common.{◌≡◌, List, ℕ, IfOk, string_bytes, sym, subst, ◌∙◌}
use Rattle.ddr_counting.proofs.NotingLemmas.{noted_of}
use Rattle.ddr_ledger.proofs.NumberLemmas.{places_absent, places_there}
use Rattle.ddr_ledger.proofs.places.places_at.Goals as goal

pub channel_places-requires-clause-noted : goal.channel_places-requires-clause-noted
channel_places-requires-clause-noted c =
    noted_of c.args.world.now c.args.noting.now c.args.number c.in-Some.channel.now c.at.result.now c.requires.noted c.at.ensures c.in-Some.ensures.value c.in-Some.ensures.config

pub returns-in-Some : goal.returns-in-Some
returns-in-Some c =
    subst (λ (x : List ℕ). IfOk c.channel_places.result (λ text. string_bytes text ≡ x)) (sym (places_there c.args.world.now c.args.number c.in-Some.channel.now c.in-Some.ensures.value)) c.channel_places.ensures

pub returns-in-None : goal.returns-in-None
returns-in-None c = c.new.ensures.bytes ∙ sym (places_absent c.args.world.now c.args.number c.in-None.ensures.value)
