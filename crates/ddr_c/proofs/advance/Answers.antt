-- A round was refused.
use Rattle.std.proofs.Common.{◌∙◌, w32, rules}
use Rattle.std.specs.Prelude.{Some}
use Rattle.std.proofs.lemmas.Int.{to_z-of_z}
use Rattle.ddr_c.proofs.advance.Goals as goal

pub returns-in-Some : goal.returns-in-Some
returns-in-Some c = record {
  stopped = Some c.in-Some.cause;
  whole = λ is. absurd (let impossible = is in cc);
  partly = (to_z-of_z w32 c.code_of.result (search rules) ∙ c.code_of.ensures, search rules, search rules);
  refused = search rules;
  drains = c.rounds-rounds.ensures.drains;
  stamps = c.rounds-rounds.ensures.stamps;
  traffic = c.rounds-rounds.ensures.traffic;
  config = c.rounds-rounds.ensures.config;
  continues = c.rounds-rounds.ensures.continues;
}
