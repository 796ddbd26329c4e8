use Rattle.std.proofs.Common.{Ok, ap, sym, subst, ◌∙◌}
use Rattle.ddr_text.specs.Input.{IsText}
use Rattle.std.proofs.lemmas.Result.{err_from_is_err_and}
use Rattle.ddr_timing.specs.declared.profile.TheConstants.{PROFILE_S}
use Rattle.ddr_text.specs.MapText.{map_text}
use Rattle.ddr_text.proofs.MapLemmas.{map_fault, map_unwritten, map_written, opening_fault, said_of}
use Rattle.ddr_text.proofs.map.map.Goals as goal

pub returns-in_err-config-clause-fault : goal.returns-in_err-config-clause-fault
returns-in_err-config-clause-fault g c =
    let text = c.in_ok-text.ensures.text in
    let same = text.0 ∙ c.as_slice.ensures.value in
    let is_text = subst IsText c.as_slice.ensures.value text.1 in
    let p = err_from_is_err_and c.from_residual-in_err-config.result c.from_residual-in_err-config.ensures.1 in
    rw (p.1, p.2) (opening_fault (g.R.Read.remaining c.args.reader.now) c.in_ok-input.input.items c.in_ok-text.text.now PROFILE_S.now c.args.sample c.in_err-config.field-0.0 c.in_ok-input.ensures.all same is_text c.in_err-config.ensures.refused)

pub returns-in_err-lines-clause-fault : goal.returns-in_err-lines-clause-fault
returns-in_err-lines-clause-fault g c =
    let text = c.in_ok-text.ensures.text in
    let same = text.0 ∙ c.as_slice.ensures.value in
    let is_text = subst IsText c.as_slice.ensures.value text.1 in
    let p = err_from_is_err_and c.from_residual-in_err-lines.result c.from_residual-in_err-lines.ensures.1 in
    rw (p.1, p.2) (map_fault (g.R.Read.remaining c.args.reader.now) PROFILE_S.now c.args.sample c.in_err-lines.field-0.0 (map_text c.new.result.geometry c.in_ok-config.body.now) c.in_err-lines.ensures
    (λ said e. said_of (g.R.Read.remaining c.args.reader.now) c.in_ok-input.input.items c.in_ok-text.text.now PROFILE_S.now c.args.sample c.in_ok-config.config c.in_ok-config.body.now c.new.result.geometry said c.in_ok-input.ensures.all same is_text c.in_ok-config.ensures.opened c.new.ensures e))

pub returns-clause-written : goal.returns-clause-written
returns-clause-written g c =
    let text = c.in_ok-text.ensures.text in
    let same = text.0 ∙ c.as_slice.ensures.value in
    let is_text = subst IsText c.as_slice.ensures.value text.1 in
    map_written c.write_whole.result (g.R.Read.remaining c.args.reader.now) PROFILE_S.now c.as_str.result.now c.args.sample (g.W.Write.contents c.args.writer.now) (g.W.Write.contents c.write_whole.new.writer)
    (said_of (g.R.Read.remaining c.args.reader.now) c.in_ok-input.input.items c.in_ok-text.text.now PROFILE_S.now c.args.sample c.in_ok-config.config c.in_ok-config.body.now c.new.result.geometry (Ok c.as_str.result.now) c.in_ok-input.ensures.all same is_text c.in_ok-config.ensures.opened c.new.ensures (c.in_ok-lines.ensures ∙ ap Ok (sym c.as_str.ensures.value)))
    c.write_whole.ensures.written

pub returns-clause-fault : goal.returns-clause-fault
returns-clause-fault g c =
    let text = c.in_ok-text.ensures.text in
    let same = text.0 ∙ c.as_slice.ensures.value in
    let is_text = subst IsText c.as_slice.ensures.value text.1 in
    map_unwritten c.write_whole.result (g.R.Read.remaining c.args.reader.now) PROFILE_S.now c.as_str.result.now c.args.sample g.W.Sink.may_fail
    (said_of (g.R.Read.remaining c.args.reader.now) c.in_ok-input.input.items c.in_ok-text.text.now PROFILE_S.now c.args.sample c.in_ok-config.config c.in_ok-config.body.now c.new.result.geometry (Ok c.as_str.result.now) c.in_ok-input.ensures.all same is_text c.in_ok-config.ensures.opened c.new.ensures (c.in_ok-lines.ensures ∙ ap Ok (sym c.as_str.ensures.value)))
    c.write_whole.ensures.refused
