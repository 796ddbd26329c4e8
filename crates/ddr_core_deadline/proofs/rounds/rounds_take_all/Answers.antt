-- Rounds find all taken, and leave nothing done.
use Rattle.ddr_core_deadline.proofs.NoneLemmas.{begun_none, answer_none}
use Rattle.ddr_core_deadline.proofs.RoundLemmas.{refused_all, rounds_all}
use Rattle.ddr_world.specs.History.{run}
use Rattle.ddr_core_deadline.proofs.rounds.rounds_take_all.Goals as goal

pub returns : goal.returns
returns c = record {
  rounds = λ opening earlier count next none made. rounds_all opening earlier count next none made;
  refused = λ opening earlier cause made next none is. refused_all opening earlier cause made next none is;
  begun = begun_none;
  others = λ opening earlier a other none. answer_none (run opening earlier) a.event a.answer other none;
}
