use Rattle.ddr_ports.specs.Asked.{asked_of}
use Rattle.ddr_run.proofs.HostLemmas.{asked_not, asked_one, hosting_submitted}
use Rattle.ddr_run.proofs.hosting.Host.try_ask.Goals.{in-Ok, in-Err-Busy, in-Err-Refused-WindowFull, in-Err, in-Err-2}
use Rattle.ddr_run.proofs.hosting.Host.try_ask.Goals as goal

pub invariant_of-self : goal.invariant_of-self
invariant_of-self g c = hosting_submitted c.self.inside c.submit.new.self (asked_of c.args.request) c.submit.result c.self.invariant c.submit.ensures.ok c.submit.ensures.err

pub returns : goal.returns
returns g c = elim c.match-submit.branch [
  | in-Ok w ↦ rw w.result-is (rw (← c.self.view_is) (asked_one c.self.inside.port c.submit.new.self (asked_of c.args.request) _ c.submit.ensures.same w.in-Ok.ensures.ok))
  | in-Err-Busy w ↦ rw w.result-is (rw (← c.self.view_is) (asked_not c.self.inside.port c.submit.new.self (asked_of c.args.request) w.in-Err-Busy.field-0 c.submit.ensures.same w.in-Err-Busy.ensures.err))
  | in-Err-Refused-WindowFull w ↦ rw w.result-is (rw (← c.self.view_is) (asked_not c.self.inside.port c.submit.new.self (asked_of c.args.request) w.in-Err-Refused-WindowFull.field-0 c.submit.ensures.same w.in-Err-Refused-WindowFull.ensures.err))
  | in-Err w ↦ rw w.result-is tt
  | in-Err-2 w ↦ rw w.result-is tt
]
