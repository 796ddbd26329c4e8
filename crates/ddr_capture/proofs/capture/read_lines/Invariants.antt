use Rattle.std.proofs.Common.{◌≡◌, ◌≤◌, false, length}
use Rattle.ddr_judge.specs.Judged.{channels_of}
use Rattle.ddr_capture.specs.Captured.{HasRead, Read}
use Rattle.ddr_capture.specs.Form.{is_missing}
use Rattle.ddr_capture.specs.Feed.{Along, IsWell, left}
use Rattle.ddr_capture.specs.Lines.{StandsAt}
use Rattle.ddr_capture.proofs.capture.read_lines.Given as goal

abbrev pub invariant-loop-count : goal.invariant-loop-count
invariant-loop-count g l = record {
  well : IsWell l.feed;
  form : l.reading.form ≡ l.fn.form;
  channels : l.reading.channels ≡ l.fn.config.geometry.channels;
  there : channels_of l.reading.judge ≡ l.reading.channels;
  known : is_missing l.reading.form l.reading.channels ≡ false;
  read : Read;
  has : HasRead l.reading l.fn.config l.fn.start read;
  few : length read.records ≤ l.count;
  stands : Along (StandsAt l.fn.form l.fn.config l.fn.start l.count read) (left l.fn.feed (g.R.Read.remaining l.fn.reader)) (left l.feed (g.R.Read.remaining l.reader));
}
