-- How long a request takes at most, from its admission to its completion, by the configuration alone.
use Rattle.std.specs.Prelude.{ℕ, ◌+◌, ◌-◌, ◌*◌, ◌/◌, ◌==◌, Bool, min, max, nat_le, if◌then◌else◌}
use Rattle.ddr_timing.specs.declared.config.Config.{Config}
use Rattle.ddr_timing.specs.declared.units.TheConstants.{BURST_CLOCKS}
use Rattle.ddr_latency.specs.Latency.{alone, clocks_of, service}

-- as many requests as are pending at most
abbrev pub most_pending : Config → ℕ
most_pending c = c.limits.reads + c.limits.writes

-- the clocks from a read or write to its completion, at most
abbrev pub burst : Config → ℕ
burst c = max c.timing.cl c.timing.cwl + BURST_CLOCKS

-- The cycles that the refresh commands of the ranks take from a request in each interval, where there are two: a REF for each one that
-- either rank may owe, a PREA for each rank that is overdue, and a PREA of the other rank while nothing is pending for that.
abbrev pub stolen : Config → ℕ
stolen c = if c.geometry.ranks == 2 then 2 * c.timing.postpone + 5 else 0

-- the clocks of a request that meets its refresh
abbrev pub refreshed : Config → ℕ
refreshed c = alone (clocks_of c) + stolen c

-- each refresh interval leaves time to serve a request, whatever they take: with one rank that is `leaves_time`
abbrev pub leaves_room : Config → Bool
leaves_room c = nat_le (refreshed c) c.timing.refi

-- the clocks that a refresh interval leaves beside those of a request that meets its refresh
abbrev pub left_over : Config → ℕ
left_over c = c.timing.refi - refreshed c

abbrev pub rounded_up : ℕ → ℕ → ℕ
rounded_up clocks interval = (clocks + interval - 1) / interval

-- how many refreshes those requests meet at most until all are served: one each, and one for each interval until what the intervals leave
-- over is enough for all
abbrev pub most_refreshes : Config → ℕ
most_refreshes c =
    if left_over c == 0 then most_pending c
    else min (most_pending c) (rounded_up (most_pending c * service (clocks_of c) + refreshed c) (left_over c))

-- The clocks of a request: until no younger one is served before it; those of all that are pending; those of the refreshes that they
-- meet, and of one more, that may be under way; and its own data.
abbrev pub latency : Config → ℕ
latency c = c.limits.cap + most_pending c * service (clocks_of c) + (most_refreshes c + 1) * refreshed c + burst c
