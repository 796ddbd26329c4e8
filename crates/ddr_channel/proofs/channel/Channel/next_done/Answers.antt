-- What is done first is the right answer to the next owner.
use Rattle.std.proofs.Common.{◌≡◌, List, Option, Some, None, IfSome, sym, ap, ◌∙◌}
use Rattle.std.specs.List.{slice_get}
use Rattle.std.specs.Borrow.{Bor}
use Rattle.std.specs.Option.{option_copied}
use Rattle.ddr_address_map.specs.Requests.{Completion}
use Rattle.ddr_channel.specs.History.{Call, run}
use Rattle.ddr_channel.specs.Kept.{Kept}
use Rattle.ddr_channel.specs.Promise.{StandsFor, IsNextAnswer}
use Rattle.ddr_channel.proofs.StandsLemmas.{next_answer}
use Rattle.ddr_channel.proofs.channel.Channel.next_done.Goals as goal

shown : (k : Kept) (calls : List Call) (o : Option (Bor Completion)) → StandsFor k calls → option_copied o ≡ slice_get k.done 0 → IfSome o (λ d. IsNextAnswer (run k.config k.start calls) d.now)
shown k calls None stands is = tt
shown k calls (Some d) stands is = next_answer k calls d.now stands (sym is)

pub returns-clause-right : goal.returns-clause-right
returns-clause-right c = λ calls stands.
    shown c.args.self.now calls c.front.result stands (c.front.ensures ∙ ap (λ (k : Kept). slice_get k.done 0) c.self.view_is)
