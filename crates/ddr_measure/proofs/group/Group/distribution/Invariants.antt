use Rattle.std.proofs.Common.{◌≡◌, drop}
use Rattle.std.specs.Prelude.{fold}
use Rattle.ddr_measure.specs.Groups.{distribution_of, noted}
use Rattle.ddr_measure.proofs.group.Group.distribution.Given as goal

abbrev pub invariant-loop-request : goal.invariant-loop-request
invariant-loop-request l = fold (noted l.self l.span) l.spread (drop l.request-index l.requests) ≡ distribution_of l.self l.span l.requests
