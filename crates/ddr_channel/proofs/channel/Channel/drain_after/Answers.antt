-- With no cycle the mode is the old one, and else that of the next cycle.
use Rattle.std.proofs.Common.{ap, sym, ◌∙◌}
use Rattle.ddr_channel.specs.Kept.{Kept, state_of}
use Rattle.ddr_channel.specs.Quiet.{drain_after}
use Rattle.ddr_channel.specs.View.{kept_of}
use Rattle.ddr_channel.proofs.QuietLemmas.{drain_later}
use Rattle.ddr_channel.proofs.channel.Channel.drain_after.Goals as goal

pub returns : goal.returns
returns c = c.next_drain.ensures ∙ drain_later c.args.count (state_of c.args.self.now) c.«if-count-eq0».false

pub returns-then-count-eq0 : goal.returns-then-count-eq0
returns-then-count-eq0 c =
    ap (λ n. drain_after n (state_of (kept_of c.self.inside))) (sym c.«if-count-eq0».true)
    ∙ ap (λ (k : Kept). drain_after c.args.count (state_of k)) c.self.view_is
