-- By which cycle the read or write of a request comes, where nothing but its own commands is issued.
use Rattle.std.specs.Prelude.{ℕ, ◌+◌, false, ◌==◌, max, if◌then◌else◌, List, [], ◌∷◌, Option, Some, None}
use Rattle.ddr_timing.specs.declared.timing.Timing.{Timing}
use Rattle.ddr_trace.specs.declared.bank.OpenBank.{OpenBank}
use Rattle.ddr_trace.specs.declared.command.Entry.{Entry}
use Rattle.ddr_trace.specs.Banks.{bank_behind}
use Rattle.ddr_address_map.specs.Requests.{Request, Completion}
use Rattle.ddr_arbiter.specs.Commands.{column_of, precharge_at}
use Rattle.ddr_channel.specs.State.{State}
use Rattle.ddr_deadline.specs.Behind.{activate_from, column_from, precharge_from}

-- the cycle from which on nothing is in flight any more
abbrev pub room_from : List Completion → ℕ
room_from [] = 0
room_from (d ∷ ds) = max (d.due + 1) (room_from ds)

-- the cycles from which on the commands of a request may come, each where its bank is as it has to be, and none before now
pub record Earliest : Type 0 where
  pub now : ℕ
  pub precharge : ℕ
  pub activate : ℕ
  pub column : ℕ

abbrev pub earliest : State → Request → Earliest
earliest s r = record {
  now = s.now;
  precharge = precharge_from s.config.timing r.place s.trace;
  activate = activate_from s.config.timing r.place s.trace;
  column = max (column_from s.config.timing (column_of false r) s.trace) (room_from s.flight);
}

-- the read or write comes by this cycle, where the bank has to be opened;
abbrev pub by_opening : Timing → Earliest → ℕ
by_opening t e = max (max e.now e.activate + t.rcd) e.column

-- where it is open, with an auto-precharge to come, with this row, or with another one;
abbrev pub by_bank : Timing → Earliest → ℕ → OpenBank → Option Entry → ℕ
by_bank t e row bank (Some auto) = by_opening t e
by_bank t e row bank None =
    if bank.row == row then max e.now (max (bank.since + t.rcd) e.column)
    else max (max (max e.now e.precharge + t.rp) e.activate + t.rcd) e.column

-- and whatever the bank is.
abbrev pub comes_by : Timing → Earliest → ℕ → Option OpenBank → ℕ
comes_by t e row None = by_opening t e
comes_by t e row (Some bank) = by_bank t e row bank bank.auto

-- so it is of a request in a state
abbrev pub served_by : State → Request → ℕ
served_by s r = comes_by s.config.timing (earliest s r) r.place.row (bank_behind (precharge_at r.place) s.trace)
