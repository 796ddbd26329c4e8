-- A column command of a legal trace completes after each earlier one.
use Rattle.std.proofs.Common.{◌≡◌, ℕ, ◌+◌, ◌<◌, Bool, true, false, List, [], ◌∷◌, ◌++◌, Some, length, refl, ◌∙◌, arith}
use Rattle.std.specs.List.{slice_get}
use Rattle.std.proofs.lemmas.Option.{slice_get_within}
use Rattle.circular_buffer.proofs.Places.{slice_get-append_left, slice_get-last}
use Rattle.ddr_timing.specs.declared.config.Config.{Config}
use Rattle.ddr_trace.specs.declared.command.Entry.{Entry}
use Rattle.ddr_trace.specs.Commands.{entry, is_column}
use Rattle.ddr_trace.specs.Legality.{IsLegal}
use Rattle.ddr_trace.specs.Rules.{latency}
use Rattle.ddr_trace.proofs.BusLemmas.{bus_kept}
use Rattle.ddr_address_map.specs.declared.place.Place.{Place}
use Rattle.ddr_address_map.specs.declared.request.Kind.{Kind}
use Rattle.ddr_address_map.specs.declared.request.Kind.TheVariants.{Read, Write}
use Rattle.ddr_arbiter.specs.Commands.{column_at}
use Rattle.ddr_channel.specs.Cycle.{service_time}

-- the read or write of a place, with or without auto-precharge

pub column_is : (auto : Bool) (kind : Kind) (p : Place) → is_column (column_at auto kind p) ≡ true
column_is false Read p = refl
column_is false Write p = refl
column_is true Read p = refl
column_is true Write p = refl

latency_is : (config : Config) (auto : Bool) (kind : Kind) (p : Place) → latency config.timing (column_at auto kind p) + 4 ≡ service_time config kind
latency_is config false Read p = refl
latency_is config false Write p = refl
latency_is config true Read p = refl
latency_is config true Write p = refl

-- Its burst begins when that of the earlier one has ended, whichever their ranks are.
pub later_due : (config : Config) (start end : ℕ) (trace : List Entry) (now cycle : ℕ) (auto auto' : Bool) (kind earlier : Kind) (p q : Place) (k : ℕ) →
    IsLegal config start end (trace ++ entry now (column_at auto kind p) ∷ []) → slice_get trace k ≡ Some (entry cycle (column_at auto' earlier q)) →
    cycle + service_time config earlier < now + service_time config kind
later_due config start end trace now cycle auto auto' kind earlier p q k legal is =
    let e = entry now (column_at auto kind p) in
    let a = entry cycle (column_at auto' earlier q) in
    let within = slice_get_within trace k a is in
    let apart = bus_kept config start end (trace ++ e ∷ []) legal k (length trace) a e within (slice_get-append_left trace (e ∷ []) k within ∙ is) (slice_get-last trace e (length trace) refl) (column_is auto' earlier q) (column_is auto kind p) in
    let first = latency_is config auto' earlier q in
    let second = latency_is config auto kind p in
    omega arith
