-- What contracts see of the pending requests of a channel, and what each call makes of it.
use Rattle.std.specs.Prelude.{◌≡◌, ℕ, ◌+◌, ◌<◌, ◌≤◌, Bool, true, false, nat_le, List, [], ◌∷◌, ◌++◌, length, count_by, slice_get, remove, All, Option}
use Rattle.std.specs.Option.{option_map}
use Rattle.std.specs.Borrow.{Bor}
use Rattle.ddr_timing.specs.declared.units.TheConstants.{GROUP_BANKS, MOST_GROUPS, MOST_RANKS}
use Rattle.ddr_address_map.specs.declared.place.Place.{Place}
use Rattle.ddr_address_map.specs.declared.request.Kind.{Kind}
use Rattle.ddr_address_map.specs.declared.request.Kind.TheVariants.{Read, Write}
use Rattle.ddr_address_map.specs.Requests.{Request}
use Rattle.ddr_hazards.specs.declared.pending.TheConstants.{KIND_CAPACITY}
use Rattle.ddr_hazards.specs.declared.waiting.Waiting.{Waiting}

pub record PendingList : Type 0 where
  -- admitted and not removed, the oldest first
  pub waiting : List Waiting
  -- how many reads may be pending, and how many writes
  pub read_limit : ℕ
  pub write_limit : ℕ

-- nothing is pending
abbrev pub opened : ℕ → ℕ → PendingList
opened reads writes = record { waiting = []; read_limit = reads; write_limit = writes }

abbrev pub is_same_kind : Kind → Kind → Bool
is_same_kind Read Read = true
is_same_kind Write Write = true
is_same_kind _ _ = false

-- how many requests of a kind are pending
abbrev pub pending_count : Kind → List Waiting → ℕ
pending_count kind waiting = count_by (λ w. is_same_kind kind w.request.echo.kind) waiting

-- how many requests of a kind may be pending
abbrev pub limit_of : PendingList → Kind → ℕ
limit_of p Read = p.read_limit
limit_of p Write = p.write_limit

-- the queue of the kind has no free place
abbrev pub is_full : PendingList → Kind → Bool
is_full p kind = nat_le (limit_of p kind) (pending_count kind p.waiting)

-- the request is the youngest one
abbrev pub after_admit : Request → ℕ → PendingList → PendingList
after_admit r now p = record p { waiting = p.waiting ++ record { request = r; admitted = now } ∷ [] }

-- the request at a place, if there is one
abbrev pub request_at : PendingList → ℕ → Option Request
request_at p place = option_map (λ w. w.request) (slice_get p.waiting place)

-- the request at a place is out, and the others stay in their order
abbrev pub after_remove : ℕ → PendingList → PendingList
after_remove place p = record p { waiting = remove p.waiting place }

-- what a call that lends a request says of it
abbrev pub waiting_of : Bor Request × ℕ → Waiting
waiting_of lent = record { request = lent.0.now; admitted = lent.1 }

-- the rank is one that a channel may have, and the group and the bank of the place lie in it
abbrev pub IsInRank : Place → Type 0
IsInRank place = (place.group < MOST_GROUPS) × (place.bank < GROUP_BANKS) × (place.rank < MOST_RANKS)

-- what holds of every list of pending requests
pub record IsWithinLimits (p : PendingList) : Type 0 where
  pub reads : pending_count Read p.waiting ≤ p.read_limit
  pub writes : pending_count Write p.waiting ≤ p.write_limit
  -- each request is of one kind
  pub kinds : pending_count Read p.waiting + pending_count Write p.waiting ≡ length p.waiting
  pub length : length p.waiting ≤ p.read_limit + p.write_limit
  pub read_limit : p.read_limit ≤ KIND_CAPACITY
  pub write_limit : p.write_limit ≤ KIND_CAPACITY
  pub in_rank : All (λ w. IsInRank w.request.place) p.waiting
