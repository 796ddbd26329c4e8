use Rattle.std.proofs.Common.{List, [], ◌∷◌, ◌++◌, subst}
use Rattle.ddr_channel.specs.History.{Call, Pop}
use Rattle.ddr_channel.specs.Kept.{Kept}
use Rattle.ddr_channel.specs.Promise.{StandsFor}
use Rattle.ddr_workers.proofs.judged.JudgedChannel.pop_done.Goals as goal

pub returns-clause-stands : goal.returns-clause-stands
returns-clause-stands c = subst (λ (k : Kept). (calls : List Call) → StandsFor k calls → StandsFor c.pop_done.new.self (calls ++ Pop ∷ [])) c.self.view_is c.pop_done.ensures.stands
