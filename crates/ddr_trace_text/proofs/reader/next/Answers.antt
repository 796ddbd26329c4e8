use Rattle.ddr_trace_text.proofs.ReadLemmas.{takes_next}
use Rattle.ddr_trace_text.proofs.reader.next.Goals as goal

pub returns-in-Ok-clause-takes : goal.returns-in-Ok-clause-takes
returns-in-Ok-clause-takes g c =
    takes_next g.R.Read.remaining c.args.table.now c.read_byte_record.new.self c.in-Ok.found _ c.requires.config (c.in-Ok.ensures.reads c.requires.trim c.requires.ready)
