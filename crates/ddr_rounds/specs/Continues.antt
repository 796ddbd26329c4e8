-- What holds of the core's record of events, whatever calls are made.
use Rattle.std.specs.Prelude.{List, ◌++◌}
use Rattle.ddr_world.specs.History.{Opening, Answered}
use Rattle.ddr_world.specs.Kept.{Kept}
use Rattle.ddr_world.specs.Record.{StandsFor}

-- of each record that the core stood for, it stands for one that goes on from there
abbrev pub Continues : Kept → Kept → Type 0
Continues before after = (opening : Opening) (earlier : List Answered) → StandsFor before opening earlier
    → (later : List Answered) × StandsFor after opening (earlier ++ later)
