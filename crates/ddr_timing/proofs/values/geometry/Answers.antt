-- The order is there and has each digit once; rows and columns passed the test for powers of two.
use Rattle.std.proofs.Common.{◌∙◌, sym, subst}
use Rattle.toml.specs.View.{table_view}
use Rattle.ddr_timing.specs.Tables.{value_of}
use Rattle.ddr_timing.specs.Values.{Lists}
use Rattle.ddr_timing.specs.declared.key.Key.TheVariants.{Map}
use Rattle.ddr_timing.proofs.Ranges.{columns-power, is_one_or_two, one_rank, order_at-once, order_at-some, order_at-text, rows-power, version-said}
use Rattle.ddr_timing.proofs.values.geometry.Goals as goal

pub unwrap-requires : goal.unwrap-requires
unwrap-requires c = rw c.order_at.ensures (order_at-some (table_view c.args.table.now) c.requires.ranged)

pub invariant_of-result-clause-version_is : goal.invariant_of-result-clause-version_is
invariant_of-result-clause-version_is c = is_one_or_two c.number.result c.number.ensures.range.0 c.number.ensures.range.1

pub invariant_of-result-clause-one_rank : goal.invariant_of-result-clause-one_rank
invariant_of-result-clause-one_rank c =
    one_rank (table_view c.args.table.now) c.number.result c.ranks.result c.number.ensures.value c.ranks.ensures.value

pub invariant_of-result-clause-rows_power : goal.invariant_of-result-clause-rows_power
invariant_of-result-clause-rows_power c = rw c.number-4.ensures.value (rows-power (table_view c.args.table.now) c.requires.powers)

pub invariant_of-result-clause-columns_power : goal.invariant_of-result-clause-columns_power
invariant_of-result-clause-columns_power c = rw c.number-5.ensures.value (columns-power (table_view c.args.table.now) c.requires.powers)

pub invariant_of-result-clause-map_order : goal.invariant_of-result-clause-map_order
invariant_of-result-clause-map_order c =
    order_at-once (table_view c.args.table.now) c.unwrap.result (sym c.order_at.ensures ∙ c.unwrap.ensures)

pub returns : goal.returns
returns c =
    let table = table_view c.args.table.now in
    let said = c.number.ensures.value ∙ version-said table c.requires.ranged in
    record {
      version = c.number.ensures.value;
      channels = c.number-2.ensures.value;
      ranks = c.ranks.ensures.value;
      groups = c.number-3.ensures.value;
      rows = c.number-4.ensures.value;
      columns = c.number-5.ensures.value;
      map = subst (λ version. Lists version (value_of table Map) c.unwrap.result) (sym said) (order_at-text table c.unwrap.result (sym c.order_at.ensures ∙ c.unwrap.ensures));
      bank_xor = c.flag_at.ensures;
    }
