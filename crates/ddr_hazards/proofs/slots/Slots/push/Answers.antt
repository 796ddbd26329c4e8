use Rattle.std.proofs.Common.{refl}
use Rattle.ddr_hazards.specs.declared.slots.Slots.{Slots}
use Rattle.ddr_hazards.proofs.Order.{Pushed, IsOrdered-push, in_slots-push, new-push, others-push}
use Rattle.ddr_hazards.proofs.slots.Slots.push.Goals as goal

pub returns-clause-held : goal.returns-clause-held
returns-clause-held c =
    in_slots-push c.args.self.now _ c.args.waiting (record { ordered = c.requires.ordered; room = c.requires.room; cells = c.fill.ensures; order = refl; places = refl; len = refl })

pub returns-clause-one : goal.returns-clause-one
returns-clause-one c =
    new-push c.args.self.now _ c.args.waiting (record { ordered = c.requires.ordered; room = c.requires.room; cells = c.fill.ensures; order = refl; places = refl; len = refl })

pub returns-clause-others : goal.returns-clause-others
returns-clause-others c =
    others-push c.args.self.now _ c.args.waiting (record { ordered = c.requires.ordered; room = c.requires.room; cells = c.fill.ensures; order = refl; places = refl; len = refl })

pub returns-clause-ordered : goal.returns-clause-ordered
returns-clause-ordered c =
    IsOrdered-push c.args.self.now _ c.args.waiting (record { ordered = c.requires.ordered; room = c.requires.room; cells = c.fill.ensures; order = refl; places = refl; len = refl })
