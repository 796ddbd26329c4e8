use Rattle.std.proofs.Common.{◌≡◌, string_bytes}
use Rattle.std.specs.List.{flat_map, range_with_len}
use Rattle.ddr_ledger.specs.Places.{bank_table_at}
use Rattle.ddr_ledger.proofs.places.banks_tables.Given as goal

abbrev pub invariant-loop-place : goal.invariant-loop-place
invariant-loop-place l = string_bytes l.text ≡ flat_map (bank_table_at l.rank_banks l.number l.channel.trace) (range_with_len 0 l.place)
