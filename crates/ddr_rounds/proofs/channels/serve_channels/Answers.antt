-- One channel more was served, or its part failed.
use Rattle.std.proofs.Common.{◌+◌, arith, refl, sym, append-nil, ◌∙◌}
use Rattle.std.proofs.lemmas.Result.{err_from_is_err_and}
use Rattle.ddr_world.specs.Kept.{state_of}
use Rattle.ddr_world.specs.Promise.{trace_at}
use Rattle.ddr_rounds.proofs.ContinueLemmas.{continues_still, continues_then}
use Rattle.ddr_rounds.proofs.PartLemmas.{channel_more, channel_stopped, refused_at}
use Rattle.ddr_rounds.proofs.TraceLemmas.{channels_traced, heard_nothing, heard_then, told_more}
use Rattle.ddr_rounds.proofs.channels.serve_channels.Goals as goal

pub loop-channel-init : goal.loop-channel-init
loop-channel-init g c = record {
  served = refl;
  told = refl;
  trace = λ d. sym (append-nil (trace_at (state_of c.args.world.now) d));
  heard = heard_nothing g.W.Watcher.hears c.args.watcher.now (state_of c.args.world.now) (state_of c.args.world.now) (λ d. refl);
  outstanding = refl;
  config = refl;
  keeps = refl;
  continues = continues_still c.args.world.now;
}

pub loop-channel-preserved : goal.loop-channel-preserved
loop-channel-preserved g c =
    let kept = c.loop-channel.invariant in
    let before = c.args.world.now in
    let now = c.loop-channel.world in
    let next = c.serve_channel.new.world in
    let i = c.loop-channel.channel in
    let served = channel_more (state_of before) (state_of now) (state_of next) i (i + 1) kept.served c.in_ok-serve_channel.ensures.served (omega arith) in
    record {
      served = served;
      trace = λ d. channels_traced d (i + 1) (state_of before) (state_of next) served;
      told = told_more g.W.Watcher.hears i (i + 1) (state_of before) (state_of now) c.args.watcher.now c.loop-channel.watcher c.serve_channel.new.watcher kept.served kept.told c.in_ok-serve_channel.ensures.told (omega arith);
      heard = heard_then g.W.Watcher.hears c.args.watcher.now c.loop-channel.watcher c.serve_channel.new.watcher (state_of before) (state_of now) (state_of next) kept.heard c.serve_channel.ensures.heard;
      outstanding = c.serve_channel.ensures.outstanding ∙ kept.outstanding;
      config = c.serve_channel.ensures.config ∙ kept.config;
      keeps = c.serve_channel.ensures.keeps ∙ kept.keeps;
      continues = continues_then before now next kept.continues c.serve_channel.ensures.continues;
    }

pub returns-in_err-serve_channel-clause-stopped : goal.returns-in_err-serve_channel-clause-stopped
returns-in_err-serve_channel-clause-stopped g c =
    let p = err_from_is_err_and c.from_residual.result c.from_residual.ensures.1 in
    rw (p.1, p.2) (channel_stopped c.in_err-serve_channel.field-0.0 (state_of c.args.world.now) (state_of c.loop-channel.world) c.loop-channel.channel c.args.channels c.loop-channel.invariant.served c.loop-channel-test.true c.in_err-serve_channel.ensures.stopped)

pub returns-in_err-serve_channel-clause-refused : goal.returns-in_err-serve_channel-clause-refused
returns-in_err-serve_channel-clause-refused g c =
    let p = err_from_is_err_and c.from_residual.result c.from_residual.ensures.1 in
    rw (p.1, p.2) (refused_at c.in_err-serve_channel.field-0.0 (state_of c.args.world.now) (state_of c.loop-channel.world) (state_of c.serve_channel.new.world) c.loop-channel.channel c.args.channels c.loop-channel.invariant.served c.loop-channel-test.true c.in_err-serve_channel.ensures.refused)

pub returns-in_err-serve_channel-clause-heard : goal.returns-in_err-serve_channel-clause-heard
returns-in_err-serve_channel-clause-heard g c =
    heard_then g.W.Watcher.hears c.args.watcher.now c.loop-channel.watcher c.serve_channel.new.watcher (state_of c.args.world.now) (state_of c.loop-channel.world) (state_of c.serve_channel.new.world) c.loop-channel.invariant.heard c.serve_channel.ensures.heard

pub returns-in_err-serve_channel-clause-continues : goal.returns-in_err-serve_channel-clause-continues
returns-in_err-serve_channel-clause-continues g c =
    continues_then c.args.world.now c.loop-channel.world c.serve_channel.new.world c.loop-channel.invariant.continues c.serve_channel.ensures.continues
