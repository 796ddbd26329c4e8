use Rattle.toml.specs.Parse.{parse_document}
use Rattle.ddr_lint.proofs.BoundLemmas.{bound_told}
use Rattle.ddr_lint.proofs.bound.tell.Goals as goal

pub returns-in-Ok-clause-written : goal.returns-in-Ok-clause-written
returns-in-Ok-clause-written g c =
    bound_told (parse_document c.args.text.now) c.in-Ok.config c.write_bound.result _ _ c.in-Ok.ensures.read c.write_bound.ensures.written c.write_bound.ensures.answered
