-- The event is one more of the record.
use Rattle.std.proofs.Common.{sym, subst}
use Rattle.ddr_world.specs.declared.event.Event.{Event}
use Rattle.ddr_world.specs.Answer.{IsAnswered}
use Rattle.ddr_world.specs.Events.{event_of}
use Rattle.ddr_world.proofs.StandsLemmas.{stands_more}
use Rattle.ddr_world.proofs.world.World.step.Goals as goal

pub returns-in-Submit-clause-stands : goal.returns-in-Submit-clause-stands
returns-in-Submit-clause-stands c = λ opening earlier stands.
    stands_more c.args.self.now c.submit.new.self opening earlier (event_of c.args.event) c.submit.result stands
    (subst (λ (e : Event). IsAnswered c.args.self.now c.submit.new.self (event_of e) c.submit.result) (sym c.in-Submit.is) c.submit.ensures)

pub returns-in-Take-clause-stands : goal.returns-in-Take-clause-stands
returns-in-Take-clause-stands c = λ opening earlier stands.
    stands_more c.args.self.now c.take.new.self opening earlier (event_of c.args.event) c.take.result stands
    (subst (λ (e : Event). IsAnswered c.args.self.now c.take.new.self (event_of e) c.take.result) (sym c.in-Take.is) c.take.ensures)

pub returns-in-Deliver-clause-stands : goal.returns-in-Deliver-clause-stands
returns-in-Deliver-clause-stands c = λ opening earlier stands.
    stands_more c.args.self.now c.deliver.new.self opening earlier (event_of c.args.event) c.deliver.result stands
    (subst (λ (e : Event). IsAnswered c.args.self.now c.deliver.new.self (event_of e) c.deliver.result) (sym c.in-Deliver.is) c.deliver.ensures)

pub returns-in-Collect-clause-stands : goal.returns-in-Collect-clause-stands
returns-in-Collect-clause-stands c = λ opening earlier stands.
    stands_more c.args.self.now c.collect.new.self opening earlier (event_of c.args.event) c.collect.result stands
    (subst (λ (e : Event). IsAnswered c.args.self.now c.collect.new.self (event_of e) c.collect.result) (sym c.in-Collect.is) c.collect.ensures)

pub returns-in-Release-clause-stands : goal.returns-in-Release-clause-stands
returns-in-Release-clause-stands c = λ opening earlier stands.
    stands_more c.args.self.now c.release.new.self opening earlier (event_of c.args.event) c.release.result stands
    (subst (λ (e : Event). IsAnswered c.args.self.now c.release.new.self (event_of e) c.release.result) (sym c.in-Release.is) c.release.ensures)

pub returns-in-End-clause-stands : goal.returns-in-End-clause-stands
returns-in-End-clause-stands c = λ opening earlier stands.
    stands_more c.args.self.now c.end.new.self opening earlier (event_of c.args.event) c.end.result stands
    (subst (λ (e : Event). IsAnswered c.args.self.now c.end.new.self (event_of e) c.end.result) (sym c.in-End.is) c.end.ensures)
