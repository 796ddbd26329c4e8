-- What a replay counts twice agrees, behind any number of turns and at its end.
use Rattle.std.proofs.Common.{◌≡◌, ◌<◌, ◌*◌, ◌^◌, ℕ, Bool, Some, Ok}
use Rattle.ddr_timing.specs.declared.config.Config.{Config}
use Rattle.ddr_stream.specs.Stream.{Queues}
use Rattle.ddr_replay.specs.declared.order.Order.{Order}
use Rattle.ddr_replay.specs.Runs.{Run, begun, replayed, turns}
use Rattle.ddr_replay_counts.specs.Rows.{CountsAddUp, CountsAgree}
use Rattle.ddr_replay_counts.specs.Times.{TimesAgree}
use Rattle.ddr_replay_counts.proofs.AgreeLemmas.{even_add_up, even_agree}
use Rattle.ddr_replay_counts.proofs.BegunLemmas.{begun_even}
use Rattle.ddr_replay_counts.proofs.RunLemmas.{AreEven, turn_even}
use Rattle.ddr_replay_counts.proofs.TimesLemmas.{AreTimed, begun_timed, timed_agree, turn_timed}
use Rattle.ddr_replay_counts.proofs.TurnLemmas.{replay_keeps, turns_keep}

turns_even : (config : Config) (keeps : Bool) (order : Order) (queues : Queues) (n : ℕ) (last : Run)
    → turns config n (begun config keeps order queues) ≡ Some last → AreEven config last
turns_even config keeps order queues n last made =
    turns_keep config (AreEven config) (turn_even config) n (begun config keeps order queues) last made
    (begun_even config keeps order queues)

replay_even : (config : Config) (keeps : Bool) (order : Order) (queues : Queues) (n : ℕ) (last : Run)
    → replayed config n (begun config keeps order queues) ≡ Ok last → AreEven config last
replay_even config keeps order queues n last made =
    replay_keeps config (AreEven config) (turn_even config) n (begun config keeps order queues) last made
    (begun_even config keeps order queues)

pub turns_agree : (config : Config) (keeps : Bool) (order : Order) (queues : Queues) (n : ℕ) (last : Run)
    → turns config n (begun config keeps order queues) ≡ Some last → CountsAgree config last
turns_agree config keeps order queues n last made = even_agree config last (turns_even config keeps order queues n last made)

pub replay_agrees : (config : Config) (keeps : Bool) (order : Order) (queues : Queues) (n : ℕ) (last : Run)
    → replayed config n (begun config keeps order queues) ≡ Ok last → CountsAgree config last
replay_agrees config keeps order queues n last made = even_agree config last (replay_even config keeps order queues n last made)

pub turns_add_up : (config : Config) (keeps : Bool) (order : Order) (queues : Queues) (n : ℕ) (last : Run)
    → config.geometry.channels * last.round < 2 ^ 64 → turns config n (begun config keeps order queues) ≡ Some last
    → CountsAddUp config last
turns_add_up config keeps order queues n last few made = even_add_up config last few (turns_even config keeps order queues n last made)

pub replay_adds_up : (config : Config) (keeps : Bool) (order : Order) (queues : Queues) (n : ℕ) (last : Run)
    → config.geometry.channels * last.round < 2 ^ 64 → replayed config n (begun config keeps order queues) ≡ Ok last
    → CountsAddUp config last
replay_adds_up config keeps order queues n last few made = even_add_up config last few (replay_even config keeps order queues n last made)

-- the times

abbrev Timed : Config → Run → Type 0
Timed config run = AreTimed config.limits.ports run.ledger

pub turns_time : (config : Config) (keeps : Bool) (order : Order) (queues : Queues) (n : ℕ) (last : Run)
    → turns config n (begun config keeps order queues) ≡ Some last → TimesAgree last.ledger.total last.ledger.ports
turns_time config keeps order queues n last made =
    timed_agree config.limits.ports last.ledger
    (turns_keep config (Timed config) (turn_timed config) n (begun config keeps order queues) last made (begun_timed config keeps order queues))

pub replay_times : (config : Config) (keeps : Bool) (order : Order) (queues : Queues) (n : ℕ) (last : Run)
    → replayed config n (begun config keeps order queues) ≡ Ok last → TimesAgree last.ledger.total last.ledger.ports
replay_times config keeps order queues n last made =
    timed_agree config.limits.ports last.ledger
    (replay_keeps config (Timed config) (turn_timed config) n (begun config keeps order queues) last made (begun_timed config keeps order queues))
