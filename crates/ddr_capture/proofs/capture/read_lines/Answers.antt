use Rattle.std.proofs.Common.{◌∙◌, arith}
use Rattle.ddr_judge.proofs.JudgedLemmas.{commands_within}
use Rattle.ddr_capture.specs.Captured.{nothing}
use Rattle.ddr_capture.specs.Feed.{left}
use Rattle.ddr_capture.proofs.LineLemmas.{stands_first}
use Rattle.ddr_capture.proofs.capture.read_lines.Goals as goal

pub loop-count-init : goal.loop-count-init
loop-count-init g c = record {
  well = c.requires.well;
  form = c.in_ok-reading.ensures.form;
  channels = c.in_ok-reading.ensures.channels;
  there = c.in_ok-reading.ensures.there;
  known = rw (c.in_ok-reading.ensures.form, c.in_ok-reading.ensures.channels) c.requires.known;
  read = nothing;
  has = c.in_ok-reading.ensures.read;
  few = omega arith;
  stands = stands_first c.args.form c.args.config.now c.args.start (left c.args.feed.now (g.R.Read.remaining c.args.reader.now)) c.requires.known;
}

pub loop-count-preserved : goal.loop-count-preserved
loop-count-preserved g c =
    let a = left c.args.feed.now (g.R.Read.remaining c.args.reader.now) in
    let kept = c.loop-count.invariant in
    let next = rw (c.if-ended.false, kept.form) at (c.in_ok-ended.ensures.said c.args.config.now c.args.start kept.read a kept.channels kept.has (rw kept.form kept.stands)) in
    record {
      well = c.in_ok-ended.ensures.well;
      form = c.in_ok-ended.ensures.form ∙ kept.form;
      channels = c.in_ok-ended.ensures.channels ∙ kept.channels;
      there = c.in_ok-ended.ensures.there;
      known = rw (c.in_ok-ended.ensures.form, c.in_ok-ended.ensures.channels) kept.known;
      read = next.0;
      has = next.1;
      few = omega (arith, next.2, kept.few);
      stands = next.3;
    }

pub take_next-requires-clause-countable : goal.take_next-requires-clause-countable
take_next-requires-clause-countable g c = λ channel below.
    let kept = c.loop-count.invariant in
    omega (arith, commands_within c.loop-count.reading.judge c.args.config.now c.args.start kept.read.records channel kept.has.judged below, kept.few, c.loop-count-test.true)
