-- The text of the numbers of each rank and of each bank: TOML tables.
use Rattle.std.specs.Prelude.{ℕ, ◌*◌, ◌/◌, ◌%◌, if◌then◌else◌, List, [], ◌∷◌, ◌++◌, codes, flat_map, slice_get}
use Rattle.std.specs.Fmt.{decimal}
use Rattle.std.specs.List.{range_with_len}
use Rattle.std.specs.Option.{option_map_or}
use Rattle.ddr_timing.specs.declared.config.Config.{Config}
use Rattle.ddr_timing.specs.declared.units.TheConstants.{GROUP_BANKS}
use Rattle.ddr_trace.specs.declared.command.Entry.{Entry}
use Rattle.ddr_statistics.specs.declared.counts.Counts.{Counts}
use Rattle.ddr_statistics.specs.Background.{active_clocks, idle_clocks, refresh_clocks}
use Rattle.ddr_statistics.specs.Counts.{counts_of, is_of_one, is_of_rank}
use Rattle.ddr_statistics.specs.Debts.{debt_most}
use Rattle.ddr_statistics.specs.Text.{counts_text, is_unused, line}
use Rattle.ddr_world.specs.State.{State}
use Rattle.ddr_ledger.specs.declared.places.RankNumbers.{RankNumbers}

unfoldable pub rank_title : ℕ → ℕ → List ℕ
rank_title channel rank = 10 ∷ (codes "[channel." ++ (decimal channel ++ (codes ".rank." ++ (decimal rank ++ (codes "]" ++ 10 ∷ [])))))

-- a bank of a rank, by its group and its number in it
unfoldable pub bank_title : ℕ → ℕ → ℕ → List ℕ
bank_title rank group bank = decimal rank ++ (codes "." ++ (decimal group ++ (codes "." ++ decimal bank)))

-- the table of a place of a channel that has this title
unfoldable pub bank_head : ℕ → List ℕ → List ℕ
bank_head channel title = 10 ∷ (codes "[channel." ++ (decimal channel ++ (codes ".bank." ++ (title ++ (codes "]" ++ 10 ∷ [])))))

-- the most refreshes that a rank owed
unfoldable pub debt_line : ℕ → List ℕ
debt_line most = line (codes "refresh_debt_most = ") most []

-- in how many clocks it was active, was refreshed and was idle
unfoldable pub clocks_lines : RankNumbers → List ℕ
clocks_lines numbers =
    line (codes "active_clocks = ") numbers.active_clocks
    (line (codes "refresh_clocks = ") numbers.refresh_clocks
    (line (codes "idle_clocks = ") numbers.idle_clocks []))

-- the table of a rank of these numbers
unfoldable pub rank_table : ℕ → ℕ → RankNumbers → List ℕ
rank_table channel rank numbers = rank_title channel rank ++ debt_line numbers.refresh_debt_most ++ clocks_lines numbers ++ counts_text numbers.counts

-- the table of a bank of these numbers, if it had a command
unfoldable pub bank_table : ℕ → ℕ → ℕ → ℕ → Counts → List ℕ
bank_table channel rank group bank counts =
    if is_unused counts then [] else bank_head channel (bank_title rank group bank) ++ counts_text counts

-- the numbers of a rank, in a trace that begins in cycle 0 and ends before this one
abbrev pub rank_numbers : Config → ℕ → List Entry → ℕ → RankNumbers
rank_numbers config end trace rank = record {
  refresh_debt_most = debt_most config.timing.refi 0 end rank trace;
  active_clocks = active_clocks config.timing config.geometry 0 end rank trace;
  refresh_clocks = refresh_clocks config.timing config.geometry 0 end rank trace;
  idle_clocks = idle_clocks config.timing config.geometry 0 end rank trace;
  counts = counts_of (is_of_rank rank) trace;
}

abbrev pub rank_table_of : Config → ℕ → ℕ → List Entry → ℕ → List ℕ
rank_table_of config channel end trace rank = rank_table channel rank (rank_numbers config end trace rank)

-- of the commands of one bank alone
abbrev pub bank_table_of : ℕ → List Entry → ℕ → ℕ → ℕ → List ℕ
bank_table_of channel trace rank group bank = bank_table channel rank group bank (counts_of (is_of_one rank group bank) trace)

-- of the bank that has this number in its channel, where each rank has so many
abbrev pub bank_table_at : ℕ → ℕ → List Entry → ℕ → List ℕ
bank_table_at rank_banks channel trace place =
    bank_table_of channel trace (place / rank_banks) (place % rank_banks / GROUP_BANKS) (place % GROUP_BANKS)

unfoldable pub ranks_tables : Config → ℕ → ℕ → List Entry → List ℕ
ranks_tables config channel end trace = flat_map (rank_table_of config channel end trace) (range_with_len 0 config.geometry.ranks)

unfoldable pub banks_tables : Config → ℕ → List Entry → List ℕ
banks_tables config channel trace =
    flat_map (bank_table_at (config.geometry.groups * GROUP_BANKS) channel trace) (range_with_len 0 (config.geometry.ranks * (config.geometry.groups * GROUP_BANKS)))

-- the tables of a channel's ranks, and of its banks
unfoldable pub channel_places : Config → ℕ → ℕ → List Entry → List ℕ
channel_places config channel end trace = ranks_tables config channel end trace ++ banks_tables config channel trace

-- those of the channel of that number
abbrev pub places_at : State → ℕ → List ℕ
places_at s channel = option_map_or (λ side. channel_places side.channel.config channel side.channel.now side.channel.trace) (slice_get s.channels channel) []

-- those of so many channels
unfoldable pub places_tables : State → ℕ → List ℕ
places_tables s channels = flat_map (places_at s) (range_with_len 0 channels)
