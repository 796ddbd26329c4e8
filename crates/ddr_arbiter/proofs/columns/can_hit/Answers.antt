-- Where the first line may not be read or written, no line of the bank may.
use Rattle.std.proofs.Common.{Option, sym, ap, ◌∙◌}
use Rattle.ddr_legality.specs.Bus.{is_legal_now}
use Rattle.ddr_address_map.specs.declared.place.Place.{Place}
use Rattle.ddr_arbiter.specs.declared.columns.KnownBank.{KnownBank}
use Rattle.ddr_arbiter.specs.declared.columns.KnownBank.TheVariants as bank
use Rattle.ddr_arbiter.specs.Known.{Tells}
use Rattle.ddr_arbiter.proofs.KnownLemmas.{line_refused, bank_refused, table_set}
use Rattle.ddr_arbiter.proofs.columns.can_hit.Goals as goal

pub returns-clause-can : goal.returns-clause-can
returns-clause-can c =
    sym (line_refused c.args.legality.now.bus c.args.kind c.args.at
    (sym (c.if-may.ensures ∙ ap (is_legal_now c.args.legality.now.bus) c.column_at.ensures)))

pub returns-clause-known : goal.returns-clause-known
returns-clause-known c =
    table_set (λ (p : Place) (o : Option KnownBank). Tells c.args.legality.now.bus c.args.kind p o) c.args.banks.now c.bank_number.result c.args.at bank.Refused
    c.told-banks c.bank_number.ensures c.requires.inside
    (bank_refused c.args.legality.now.bus c.args.kind c.args.at c.requires.opened
    (sym (c.if-may.ensures ∙ ap (is_legal_now c.args.legality.now.bus) c.column_at.ensures))) c.requires.known
