-- What the entry of the bank says of the place, or the open row of the bank that is met.
use Rattle.std.proofs.Common.{Option, sym, ◌∙◌}
use Rattle.ddr_address_map.specs.declared.place.Place.{Place}
use Rattle.ddr_arbiter.specs.declared.columns.KnownBank.{KnownBank}
use Rattle.ddr_arbiter.specs.declared.columns.KnownBank.TheVariants as bank
use Rattle.ddr_arbiter.specs.Known.{Tells}
use Rattle.ddr_arbiter.proofs.CommandLemmas.{closed_no_column}
use Rattle.ddr_arbiter.proofs.KnownLemmas.{no_row, row_is, same_open_row, table_at, table_set}
use Rattle.ddr_arbiter.proofs.columns.is_hit.Goals as goal

pub returns-in-Some-clause-other : goal.returns-in-Some-clause-other
returns-in-Some-clause-other c = λ other.
    closed_no_column c.args.legality.now.bus c.args.kind c.args.at (row_is c.args.legality.now.bus c.args.at c.in-Some.row (sym c.in-Some.ensures) ∙ other)

pub returns-in-Some-clause-known : goal.returns-in-Some-clause-known
returns-in-Some-clause-known c =
    table_set (λ (p : Place) (o : Option KnownBank). Tells c.args.legality.now.bus c.args.kind p o) c.args.banks.now c.bank_number-number.result c.args.at (bank.Open c.in-Some.row)
    c.told-banks c.bank_number-number.ensures c.requires.inside
    (λ p same. same_open_row c.args.legality.now.bus c.args.at p same ∙ sym c.in-Some.ensures) c.requires.known

pub returns-in-None-clause-other : goal.returns-in-None-clause-other
returns-in-None-clause-other c = λ other. closed_no_column c.args.legality.now.bus c.args.kind c.args.at (no_row c.args.legality.now.bus c.args.at (sym c.in-None.ensures))

pub returns-in-None-clause-known : goal.returns-in-None-clause-known
returns-in-None-clause-known c =
    table_set (λ (p : Place) (o : Option KnownBank). Tells c.args.legality.now.bus c.args.kind p o) c.args.banks.now c.bank_number-number.result c.args.at bank.Refused
    c.told-banks c.bank_number-number.ensures c.requires.inside
    (λ p same. closed_no_column c.args.legality.now.bus c.args.kind p (no_row c.args.legality.now.bus p (same_open_row c.args.legality.now.bus c.args.at p same ∙ sym c.in-None.ensures)))
    c.requires.known

pub returns-in-Open-clause-hit : goal.returns-in-Open-clause-hit
returns-in-Open-clause-hit c = λ own.
    row_is c.args.legality.now.bus c.args.at c.in-Open.row
    (table_at (λ (p : Place) (o : Option KnownBank). Tells c.args.legality.now.bus c.args.kind p o) c.args.banks.now c.bank_number-number.result c.args.at (bank.Open c.in-Open.row) bank.Unmet
    c.told-banks c.bank_number-number.ensures c.requires.inside c.requires.known c.in-Open.is) ∙ own

pub returns-in-Open-clause-other : goal.returns-in-Open-clause-other
returns-in-Open-clause-other c = λ other.
    closed_no_column c.args.legality.now.bus c.args.kind c.args.at
    (row_is c.args.legality.now.bus c.args.at c.in-Open.row
    (table_at (λ (p : Place) (o : Option KnownBank). Tells c.args.legality.now.bus c.args.kind p o) c.args.banks.now c.bank_number-number.result c.args.at (bank.Open c.in-Open.row) bank.Unmet
    c.told-banks c.bank_number-number.ensures c.requires.inside c.requires.known c.in-Open.is) ∙ other)

pub returns-in-Refused-clause-other : goal.returns-in-Refused-clause-other
returns-in-Refused-clause-other c = λ other.
    table_at (λ (p : Place) (o : Option KnownBank). Tells c.args.legality.now.bus c.args.kind p o) c.args.banks.now c.bank_number-number.result c.args.at bank.Refused bank.Unmet
    c.told-banks c.bank_number-number.ensures c.requires.inside c.requires.known (cc)
