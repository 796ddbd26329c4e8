-- From which cycle on the commands that were issued let another one come.
use Rattle.std.specs.Prelude.{ℕ, ◌+◌, Bool, ◌&&◌, not, ◌==◌, max, if◌then◌else◌, List, [], ◌∷◌, count_by, Option, Some, None}
use Rattle.ddr_timing.specs.declared.timing.Timing.{Timing}
use Rattle.ddr_trace.specs.declared.bank.OpenBank.{OpenBank}
use Rattle.ddr_trace.specs.declared.command.Command.{Command}
use Rattle.ddr_trace.specs.declared.command.Entry.{Entry}
use Rattle.ddr_trace.specs.declared.rule.Rule.TheVariants as rule
use Rattle.ddr_trace.specs.Banks.{auto_start, bank_behind}
use Rattle.ddr_trace.specs.Commands.{is_activate, is_column, is_refresh, is_same_rank, rank_of}
use Rattle.ddr_trace.specs.Rules.{Spacing, rank_switch, spacing_of, speaks_of}
use Rattle.ddr_address_map.specs.declared.place.Place.{Place}
use Rattle.ddr_arbiter.specs.Commands.{activate_at, precharge_at}

-- the greatest cycle behind the commands that pass, each with its distance; 0 where none passes
abbrev pub behind : (Command → Bool) → (Command → ℕ) → List Entry → ℕ
behind test distance [] = 0
behind test distance (e ∷ later) = max (if test e.command then e.cycle + distance e.command else 0) (behind test distance later)

-- by a rule on two commands
abbrev pub spaced_from : Spacing → Command → List Entry → ℕ
spaced_from s command history = behind (λ a. speaks_of s a command) (λ _. s.at_least) history

-- by RFC behind the REFs of a rank
abbrev pub refreshed_from : Timing → ℕ → List Entry → ℕ
refreshed_from t rank history = behind (λ a. is_refresh a && rank_of a == rank) (λ _. t.rfc) history

-- by RTRS
abbrev pub switched_from : Timing → Command → List Entry → ℕ
switched_from t command history = behind (λ a. is_column a && is_column command && not (is_same_rank a command)) (λ a. rank_switch t a command) history

-- by FAW: behind an ACT of the command's rank that three ACTs of it follow
abbrev pub four_from : Timing → Command → List Entry → ℕ
four_from t command [] = 0
four_from t command (a ∷ between) = max
    (if is_activate a.command && is_activate command && is_same_rank a.command command
    && count_by (λ m. is_activate m.command && is_same_rank m.command command) between == 3 then a.cycle + t.faw else 0)
    (four_from t command between)

-- by RP behind an auto-precharge of the bank
abbrev pub auto_behind : Timing → OpenBank → Option Entry → ℕ
auto_behind t bank None = 0
auto_behind t bank (Some auto) = auto_start t bank auto + t.rp

abbrev pub auto_from : Timing → Option OpenBank → ℕ
auto_from t None = 0
auto_from t (Some bank) = auto_behind t bank bank.auto

-- From this cycle on a PRE of the place's bank,
abbrev pub precharge_from : Timing → Place → List Entry → ℕ
precharge_from t p history = max
    (max (spaced_from (spacing_of t rule.Ras) (precharge_at p) history) (spaced_from (spacing_of t rule.Wr) (precharge_at p) history))
    (max (spaced_from (spacing_of t rule.Rtp) (precharge_at p) history) (spaced_from (spacing_of t rule.Rfc) (precharge_at p) history))

-- and an ACT of the place's row, where the bank is idle;
abbrev pub activate_from : Timing → Place → List Entry → ℕ
activate_from t p history = max
    (max (max (spaced_from (spacing_of t rule.Rc) (activate_at p) history) (spaced_from (spacing_of t rule.Rp) (activate_at p) history))
    (max (spaced_from (spacing_of t rule.RrdL) (activate_at p) history) (spaced_from (spacing_of t rule.RrdS) (activate_at p) history)))
    (max (max (spaced_from (spacing_of t rule.Rfc) (activate_at p) history) (four_from t (activate_at p) history)) (auto_from t (bank_behind (precharge_at p) history)))

-- and this read or write, where the bank is open with its row, and RCD behind the bank's ACT.
abbrev pub column_from : Timing → Command → List Entry → ℕ
column_from t command history = max
    (max (max (spaced_from (spacing_of t rule.CcdL) command history) (spaced_from (spacing_of t rule.CcdS) command history))
    (max (spaced_from (spacing_of t rule.WtrL) command history) (spaced_from (spacing_of t rule.WtrS) command history)))
    (max (max (spaced_from (spacing_of t rule.Rtw) command history) (spaced_from (spacing_of t rule.Rfc) command history)) (switched_from t command history))
