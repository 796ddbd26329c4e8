use Rattle.std.proofs.Common.{rules, vec_len, ◌≤◌}
use Rattle.std.proofs.lemmas.Result.{err_from_is_err_and}
use Rattle.ddr_capture.specs.Feed.{left}
use Rattle.ddr_capture.proofs.FrontLemmas.{front_none}
use Rattle.ddr_capture.proofs.front.fill_front.Goals as goal

pub lines-init : goal.lines-init
lines-init g c =
    let few : vec_len c.args.front.now ≤ 16777216 = search rules in
    record {
      well = c.requires.well;
      few = few;
      said = rw c.requires.nothing (front_none (left c.args.feed.now (g.R.Read.remaining c.args.reader.now)));
    }

pub lines-preserved : goal.lines-preserved
lines-preserved g c =
    let a = left c.args.feed.now (g.R.Read.remaining c.args.reader.now) in
    record {
      well = search rules;
      few = search rules;
      said = rw c.if-marked.false at (c.in_ok-marked.ensures.said a c.lines.invariant.said);
    }

pub returns-then-marked-clause-front : goal.returns-then-marked-clause-front
returns-then-marked-clause-front g c =
    let a = left c.args.feed.now (g.R.Read.remaining c.args.reader.now) in
    rw c.if-marked.true at (c.in_ok-marked.ensures.said a c.lines.invariant.said)

pub returns-in_err-marked-clause-refused : goal.returns-in_err-marked-clause-refused
returns-in_err-marked-clause-refused g c =
    let a = left c.args.feed.now (g.R.Read.remaining c.args.reader.now) in
    let p = err_from_is_err_and c.from_residual.result c.from_residual.ensures.1 in
    rw (p.1, p.2) (c.in_err-marked.ensures.said a c.lines.invariant.said)
