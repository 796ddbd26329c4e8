-- Records that go on.
use Rattle.std.proofs.Common.{ℕ, List, [], ◌∷◌, ◌++◌, Result, sym, subst, append_assoc}
use Rattle.std.proofs.lemmas.List.{append-nil}
use Rattle.ddr_world.specs.declared.event.Outcome.{Outcome}
use Rattle.ddr_world.specs.declared.event.Refusal.{Refusal}
use Rattle.ddr_world.specs.Events.{Event}
use Rattle.ddr_world.specs.History.{Opening, Answered}
use Rattle.ddr_world.specs.Kept.{Kept}
use Rattle.ddr_world.specs.Quiet.{cycles_made}
use Rattle.ddr_world.specs.Record.{StandsFor}
use Rattle.ddr_rounds.specs.Continues.{Continues}

pub continues_still : (k : Kept) → Continues k k
continues_still k opening earlier stands = ([], subst (StandsFor k opening) (sym (append-nil earlier)) stands)

pub continues_then : (a b c : Kept) → Continues a b → Continues b c → Continues a c
continues_then a b c first second opening earlier stands =
    let one = first opening earlier stands in
    let two = second opening (earlier ++ one.0) one.1 in
    (one.0 ++ two.0, subst (StandsFor c opening) (append_assoc earlier one.0 two.0) two.1)

-- by an event, whatever it was answered
pub continues_by : (a b : Kept) (event : Event) (answer : Result Outcome Refusal)
    → ((opening : Opening) (earlier : List Answered) → StandsFor a opening earlier → StandsFor b opening (earlier ++ record { event = event; answer = answer } ∷ [])) → Continues a b
continues_by a b event answer stands opening earlier before = (record { event = event; answer = answer } ∷ [], stands opening earlier before)

-- by cycles that were passed
pub continues_past : (a b : Kept) (count channels : ℕ)
    → ((opening : Opening) (earlier : List Answered) → StandsFor a opening earlier → StandsFor b opening (earlier ++ cycles_made count channels)) → Continues a b
continues_past a b count channels stands opening earlier before = (cycles_made count channels, stands opening earlier before)
