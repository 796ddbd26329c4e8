use Rattle.std.proofs.Common.{◌++◌, sym, ap, ◌∙◌}
use Rattle.ddr_address_map.specs.declared.request.Kind.{Kind}
use Rattle.ddr_reorder.specs.Replies.{said}
use Rattle.ddr_text.specs.Replies.{done_text}
use Rattle.ddr_sim.proofs.LineLemmas.{five_pieces}
use Rattle.ddr_sim.proofs.line.add_done.Goals as goal

pub returns-in-Read : goal.returns-in-Read
returns-in-Read c =
    five_pieces c.args.line.now.items _ _ _ _ _ _ _ _ _ _ c.add_bytes.ensures.items c.add_number.ensures.items c.add_bytes-in-Read.ensures.items c.add_hex.ensures.items c.add_bytes-in-Read-2.ensures.items
    ∙ ap (λ (kind : Kind). c.args.line.now.items ++ done_text kind (said c.args.reply.now)) (sym c.in-Read.is)
