-- The commands of a capture, in the order in which they came.
use Rattle.std.specs.Prelude.{ℕ, ◌+◌, ◌<◌, ◌==◌, max, List, map, filter, Option, option_map, slice_get}
use Rattle.std.specs.List.{AllByRecursion, fold}
use Rattle.ddr_trace.specs.declared.command.Entry.{Entry}

-- a command of a channel, and the line that it stands in
pub record Record : Type 0 where
  pub channel : ℕ
  pub entry : Entry
  pub line : ℕ

-- those of a channel
abbrev pub of_channel : ℕ → List Record → List Record
of_channel channel records = filter (λ r. r.channel == channel) records

abbrev pub entries_of : List Record → List Entry
entries_of records = map (λ r. r.entry) records

-- the line of the command at a place, if there is one
abbrev pub line_at : List Record → ℕ → Option ℕ
line_at records place = option_map (λ r. r.line) (slice_get records place)

-- every entry stands before the trace's end
abbrev pub AllBelow : ℕ → List Entry → Type 0
AllBelow end entries = AllByRecursion (λ e. e.cycle < end) entries

-- the first cycle from the start on that is behind every command
abbrev pub end_behind : ℕ → List Record → ℕ
end_behind start records = fold (λ end r. max end (r.entry.cycle + 1)) start records
