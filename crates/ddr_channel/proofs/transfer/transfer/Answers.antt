use Rattle.std.proofs.Common.{◌≡◌, ℕ, List, sym, ap, subst, ◌∙◌}
use Rattle.ddr_address_map.specs.Requests.{Request}
use Rattle.ddr_row_array.specs.Rows.{Rows}
use Rattle.ddr_row_array.specs.Writes.{MergesLine}
use Rattle.ddr_channel.specs.Cycle.{cells_after}
use Rattle.ddr_channel.specs.Kept.{line_cells}
use Rattle.ddr_channel.specs.Served.{IsOpenAt}
use Rattle.std.specs.Bool.{OnTrue}
use Rattle.ddr_channel.proofs.TransferLemmas.{read_leaves, write_merges}
use Rattle.ddr_channel.proofs.transfer.transfer.Goals as goal
use Rattle.ddr_channel.proofs.transfer.transfer.Goals.{in-Read, in-Write}

pub returns-clause-bytes : goal.returns-clause-bytes
returns-clause-bytes c = λ address.
    let shape = c.args.config.now.geometry in
    let old = c.args.rows.now in
    let r : Request = record { port = c.request.inside.port; number = c.request.inside.number; echo = c.request.inside.echo; place = c.request.inside.place; mask = c.request.inside.mask; line = c.request.inside.line.value } in
    let same : r ≡ c.args.request = c.request.view_is in
    let ready = subst (λ (q : Request). IsOpenAt shape old q.place) (sym same) c.requires.opened in
    subst (λ (q : Request). line_cells shape c.match-echo.rows address ≡ cells_after q (line_cells shape old) address) same
    (elim c.match-echo.branch [
      | in-Read w ↦ ap (λ (rows : Rows). line_cells shape rows address) w.rows-is ∙ read_leaves shape old r w.in-Read.is address
      | in-Write w ↦
          let written = subst (λ (bytes : List ℕ). OnTrue w.write.result (MergesLine old w.write.new.self c.number-bank.result r.place.line r.mask bytes)) w.deref.ensures w.write.ensures.written in
          ap (λ (rows : Rows). line_cells shape rows address) w.rows-is
          ∙ write_merges shape old w.write.new.self c.number-bank.result r w.write.result w.in-Write.is ready c.number-bank.ensures.number w.write.ensures.there written address
    ])
