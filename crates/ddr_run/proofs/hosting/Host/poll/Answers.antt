use Rattle.ddr_run.proofs.HostLemmas.{asked_polled, hosting_polled}
use Rattle.ddr_run.proofs.hosting.Host.poll.Goals as goal

pub invariant_of-self : goal.invariant_of-self
invariant_of-self g c = hosting_polled c.self.inside c.poll.new.self c.poll.result c.self.invariant c.poll.ensures.ok c.poll.ensures.err

pub returns : goal.returns
returns g c = rw (← c.self.view_is) (asked_polled c.self.inside.port c.poll.new.self c.poll.result c.poll.ensures.same c.poll.ensures.ok c.poll.ensures.err)
