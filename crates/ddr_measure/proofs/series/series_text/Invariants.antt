use Rattle.std.proofs.Common.{◌≡◌, ◌++◌, string_bytes}
use Rattle.std.specs.Prelude.{max}
use Rattle.ddr_measure.specs.Series.{interval_lines, series_head}
use Rattle.ddr_measure.proofs.series.series_text.Given as goal

abbrev pub invariant-loop-at : goal.invariant-loop-at
invariant-loop-at l = string_bytes l.text ≡ series_head ++ interval_lines (max l.every 1) l.requests l.at
