-- By what is wanted.
use Rattle.std.proofs.Common.{◌≡◌, ◌<◌, ◌++◌, ℕ, List, Vec, Global, false, arith, ap, sym, subst, ◌∙◌}
use Rattle.std.proofs.lemmas.Bool.Decides.{nat_tests}
use Rattle.std.specs.Prelude.{nat_le, Result}
use Rattle.ddr_text.specs.declared.fault.Fault.{Fault}
use Rattle.ddr_timing.specs.declared.config.Config.{Config}
use Rattle.ddr_stream.specs.declared.requests.Requests.{Requests}
use Rattle.ddr_world.specs.Kept.{state_of}
use Rattle.ddr_replay.specs.Replays.{IsSaid, names_no_channel, told_of}
use Rattle.ddr_replay.specs.Told.{IsKept, commands_of, said, wanted_of}
use Rattle.ddr_replay.specs.View.{Replay, run_of}
use Rattle.ddr_replay.specs.declared.teller.Tale.{Tale}
use Rattle.ddr_replay.specs.declared.wanted.Wanted.{Wanted}
use Rattle.ddr_replay.proofs.telling.ending_of.Goals as goal

abbrev Text : Type 0
Text = Vec ℕ Global

-- what is said where this is wanted
abbrev Says : Config → List Requests → Replay → Result Text Fault → Wanted → Type 0
Says config requests r result w = IsSaid {X = Text} (λ v. said w r.ledger.served (commands_of w (state_of r.world)) ++ v.items) result (told_of config w requests (run_of r))

below : (channels channel : ℕ) → nat_le channels channel ≡ false → channel < channels
below channels channel is = grind (arith, nat_tests)

there : (config : Config) (r : Replay) (t : Tale) (w : Wanted) → names_no_channel config r.wanted ≡ false → wanted_of t ≡ r.wanted → wanted_of t ≡ w → names_no_channel config w ≡ false
there config r t w some is same = ap (names_no_channel config) (sym same ∙ is) ∙ some

pub trace_ended-requires : goal.trace_ended-requires
trace_ended-requires c =
    let some = there c.args.config.now c.args.replaying.now c.tale.result.now _ c.requires.channel c.tale.ensures.wanted (ap wanted_of c.in-Trace.is) in
    subst (λ (k : Config). c.in-Trace.channel < k.geometry.channels) (sym (c.world-world.ensures.config ∙ c.requires.config)) (below c.args.config.now.geometry.channels c.in-Trace.channel some)

pub commands_ended-requires : goal.commands_ended-requires
commands_ended-requires c =
    let some = there c.args.config.now c.args.replaying.now c.tale.result.now _ c.requires.channel c.tale.ensures.wanted (ap wanted_of c.in-Drampower.is) in
    subst (λ (k : Config). c.in-Drampower.channel < k.geometry.channels) (sym (c.world-world.ensures.config ∙ c.requires.config)) (below c.args.config.now.geometry.channels c.in-Drampower.channel some)

pub returns-in-Requests : goal.returns-in-Requests
returns-in-Requests c =
    let r = c.args.replaying.now in
    subst (Says c.args.config.now c.args.requests.now r c.rows_ended.result) (sym (ap wanted_of c.in-Requests.is) ∙ c.tale.ensures.wanted)
    (c.rows_ended.ensures (run_of r) (ap state_of (sym c.world-world.ensures.value)))

pub returns-in-Numbers : goal.returns-in-Numbers
returns-in-Numbers c =
    let r = c.args.replaying.now in
    let kept = subst (λ (t : Tale). IsKept t r.ledger.served) c.in-Numbers.is c.tale.ensures.kept in
    subst (Says c.args.config.now c.args.requests.now r c.measured.result) (sym (ap wanted_of c.in-Numbers.is) ∙ c.tale.ensures.wanted)
    (c.measured.ensures c.in-Numbers.skip (run_of r) (ap state_of (sym c.world-world.ensures.value)) kept.1)

pub returns-in-Intervals : goal.returns-in-Intervals
returns-in-Intervals c =
    let r = c.args.replaying.now in
    let kept = subst (λ (t : Tale). IsKept t r.ledger.served) c.in-Intervals.is c.tale.ensures.kept in
    subst (Says c.args.config.now c.args.requests.now r c.series.result) (sym (ap wanted_of c.in-Intervals.is) ∙ c.tale.ensures.wanted)
    (c.series.ensures c.in-Intervals.skip (run_of r) (ap state_of (sym c.world-world.ensures.value)) (c.as_slice.ensures.value ∙ kept.1))
