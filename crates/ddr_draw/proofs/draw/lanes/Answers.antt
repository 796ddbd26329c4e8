-- What was written is the picture that is asked for.
use Rattle.std.proofs.Common.{string_bytes, ◌∙◌}
use Rattle.std.proofs.lemmas.Result.{err_from_is_err_and}
use Rattle.ddr_timing.specs.declared.profile.TheConstants.{PROFILE_S}
use Rattle.ddr_draw.proofs.PartLemmas.{lanes_unwritten, lanes_written}
use Rattle.ddr_draw.proofs.draw.lanes.Goals as goal

pub returns-clause-written : goal.returns-clause-written
returns-clause-written g c =
    lanes_written c.args.sample PROFILE_S.now (g.R.Read.remaining c.args.reader.now) c.args.from c.args.to (string_bytes c.in_ok-text.text) (g.W.Write.contents c.args.writer.now) (g.W.Write.contents c.write_whole.new.writer)
    c.in_ok-text.ensures.said (rw c.as_str.ensures.value at c.in_ok-write_whole.ensures.written)

pub returns-in_err-write_whole-clause-fault : goal.returns-in_err-write_whole-clause-fault
returns-in_err-write_whole-clause-fault g c =
    let p = err_from_is_err_and c.from_residual-in_err-write_whole.result c.from_residual-in_err-write_whole.ensures.1 in
    rw p.1 (lanes_unwritten c.args.sample PROFILE_S.now (g.R.Read.remaining c.args.reader.now) c.args.from c.args.to (string_bytes c.in_ok-text.text) g.W.Sink.may_fail p.0 (p.2 ∙ c.in_err-write_whole.ensures.refused)
    c.in_ok-text.ensures.said)
