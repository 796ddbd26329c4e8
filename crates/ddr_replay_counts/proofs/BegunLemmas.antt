-- Before its first turn a replay has counted nothing.
use Rattle.std.proofs.Common.{◌≡◌, ◌*◌, ◌∙◌, ℕ, zero, suc, Bool, List, [], length, replicate, refl, ap, arith}
use Rattle.std.specs.List.{slice_get, sum_by}
use Rattle.std.specs.Option.{option_map_or}
use Rattle.std.proofs.lemmas.List.{length-replicate}
use Rattle.std.proofs.lemmas.List.Folds.{sum_by-replicate}
use Rattle.ddr_timing.specs.declared.config.Config.{Config}
use Rattle.ddr_trace.specs.declared.command.Entry.{Entry}
use Rattle.ddr_statistics.specs.Counts.{count_behind}
use Rattle.ddr_world.specs.Promise.{trace_at}
use Rattle.ddr_world.specs.State.{ChannelSide, opened, opened_channel}
use Rattle.ddr_stream.specs.Stream.{Queues}
use Rattle.ddr_ledger.specs.Rows.{no_rows}
use Rattle.ddr_replay.specs.declared.order.Order.{Order}
use Rattle.ddr_replay.specs.Runs.{begun}
use Rattle.ddr_replay_counts.proofs.HistoryLemmas.{Test, passed}
use Rattle.ddr_replay_counts.proofs.PartLemmas.{all_passed}
use Rattle.ddr_replay_counts.proofs.PortLemmas.{opened_of}
use Rattle.ddr_replay_counts.proofs.RunLemmas.{AreEven}
use Rattle.ddr_replay_counts.proofs.SumLemmas.{over}

no_trace : (n c : ℕ) (side : ChannelSide) → side.channel.trace ≡ []
    → option_map_or (λ (x : ChannelSide). x.channel.trace) (slice_get (replicate n side) c) [] ≡ []
no_trace zero c side is = refl
no_trace (suc n) zero side is = is
no_trace (suc n) (suc c) side is = no_trace n c side is

none_passed : (test : Test) → passed test [] ≡ 0
unfolding count_behind
none_passed test = refl

none_over : (f : ℕ → ℕ) (n : ℕ) → ((c : ℕ) → f c ≡ 0) → over f n ≡ 0
none_over f zero none = refl
none_over f (suc n) none = omega (arith, none_over f n none, none n)

none_of_channels : (config : Config) (test : Test) → all_passed test config.geometry.channels (opened config 0 0) ≡ 0
none_of_channels config test =
    none_over (λ c. passed test (trace_at (opened config 0 0) c)) config.geometry.channels
    (λ c. ap (passed test) (no_trace config.geometry.channels c (opened_channel config 0) refl) ∙ none_passed test)

pub none_of_ports : {X : Type 0} (f : X → ℕ) (n : ℕ) (x : X) → f x ≡ 0 → sum_by f (replicate n x) ≡ 0
none_of_ports f n x none = sum_by-replicate f n x ∙ ap (λ k. n * k) none ∙ (let nothing : n * 0 ≡ 0 = omega arith in nothing)

pub begun_even : (config : Config) (keeps : Bool) (order : Order) (queues : Queues) → AreEven config (begun config keeps order queues)
begun_even config keeps order queues = record {
  numbered = opened_of config 0 0;
  long = length-replicate config.limits.ports no_rows;
  short = λ c.
      let none : length (trace_at (opened config 0 0) c) ≡ 0 =
      ap (λ (es : List Entry). length es) (no_trace config.geometry.channels c (opened_channel config 0) refl) in
      omega (arith, none);
  even = λ row test counter. omega (arith, none_of_ports row config.limits.ports no_rows counter.none_yet, none_of_channels config test);
}
