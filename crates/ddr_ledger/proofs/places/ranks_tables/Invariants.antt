use Rattle.std.proofs.Common.{◌≡◌, string_bytes}
use Rattle.std.specs.List.{flat_map, range_with_len}
use Rattle.ddr_ledger.specs.Places.{rank_table_of}
use Rattle.ddr_ledger.proofs.places.ranks_tables.Given as goal

abbrev pub invariant-loop-rank : goal.invariant-loop-rank
invariant-loop-rank l = string_bytes l.text ≡ flat_map (rank_table_of l.channel.config l.number l.channel.now l.channel.trace) (range_with_len 0 l.rank)
