-- A request more is told of, where it is kept.
use Rattle.std.proofs.Common.{◌++◌, ap, sym, ◌∙◌}
use Rattle.ddr_ledger.specs.Ledgers.{Ledger}
use Rattle.ddr_replay.specs.Told.{wanted_of}
use Rattle.ddr_replay.specs.declared.teller.Teller.{Teller}
use Rattle.ddr_replay.proofs.ToldLemmas.{noted_more, noted_none, noted_nothing, noted_some}
use Rattle.ddr_replay.proofs.teller.note_release.Goals.{in-Some+in_ok-note, in_default}
use Rattle.ddr_replay.proofs.teller.note_release.Goals as goal

pub returns-clause-told : goal.returns-clause-told
returns-clause-told c = λ commands earlier so.
    let wanted = wanted_of c.args.teller.now.tale in
    let text = c.args.teller.now.text.items in
    let old = c.args.ledger.now in
    let rows = ap (λ (l : Ledger). l.served) c.release.ensures in
    elim c.match-next_row.branch [
      | in-Some+in_ok-note w ↦
          noted_more wanted commands text c.match-next_row.teller.text.items old.served c.release.new.self.served w.in-Some.row
          (rows ∙ noted_some c.args.port c.args.round c.args.service old w.in-Some.row (sym c.next_row.ensures ∙ w.in-Some.is)) (ap (λ t. t.text.items) w.teller-is ∙ w.in_ok-note.ensures.text) earlier so
      | in_default w ↦
          (noted_none wanted commands text old.served c.release.new.self.served (rows ∙ noted_nothing c.args.port c.args.round c.args.service old (sym c.next_row.ensures ∙ w.in_default.is)) earlier so)
          ∙ ap (λ (t : Teller). earlier ++ t.text.items) (sym w.teller-is)
    ]
