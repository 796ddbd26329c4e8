-- The scheduler finds the situation that the state is in.
use Rattle.std.proofs.Common.{◌+◌, List, map, take, sym, ap, ap₂, subst, ltb, ◌∙◌}
use Rattle.ddr_arbiter.specs.Quiet.{IsQuietUntil}
use Rattle.ddr_arbiter.specs.Situation.{Situation}
use Rattle.ddr_refresh.specs.Refreshes.{Refreshes, after_tick}
use Rattle.ddr_channel.specs.Choice.{refreshes_of, situation_of}
use Rattle.ddr_channel.specs.Cycle.{at_choice}
use Rattle.ddr_channel.specs.Kept.{Kept, state_of}
use Rattle.ddr_channel.specs.View.{kept_of}
use Rattle.ddr_channel.proofs.ChannelLemmas.{situation_is, taken_ranks}
use Rattle.ddr_channel.proofs.channel.Channel.rest_of_choice.Goals as goal

pub returns : goal.returns
returns c =
    let a = c.self.inside in
    subst (λ (s : Situation). IsQuietUntil c.rest_of.result.until s)
    (situation_is a _ c.policy.result c.args.drain (ltb (c.len.result + c.len-2.result) a.config.limits.done) c.self.invariant
    (ap (λ (rs : List Refreshes). take a.config.geometry.ranks rs) (c.requires.debts ∙ ap (λ (k : Kept). map after_tick (refreshes_of (state_of k) 2)) (sym c.self.view_is))
    ∙ taken_ranks (state_of (kept_of a)) a.config.geometry.ranks a.config.geometry.ranks_range.1)
    c.policy.ensures
    (c.requires.mode ∙ ap (λ (k : Kept). (at_choice (state_of k)).drain) (sym c.self.view_is))
    (ap₂ (λ m n. ltb (m + n) a.config.limits.done) c.len.ensures.len c.len-2.ensures.len)
    ∙ ap (λ (k : Kept). situation_of (at_choice (state_of k))) c.self.view_is)
    c.rest_of.ensures.until
