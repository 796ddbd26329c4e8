-- What contracts see of a reorder buffer, and what each call makes of it.
use Rattle.std.specs.Prelude.{◌≡◌, ℕ, ◌+◌, ◌-◌, ◌%◌, ◌≤◌, ◌==◌, Bool, true, false, ◌&&◌, if◌then◌else◌, List, [], ◌∷◌, ◌++◌, length, map, take, drop, Option, Some, None, is_none, IsSomeAnd, slice_get}
use Rattle.std.specs.List.{list_any}
use Rattle.ddr_timing.specs.declared.units.TheConstants.{CLOCK_STOP, LINE_BYTES}
use Rattle.ddr_address_map.specs.declared.request.Echo.{Echo}
use Rattle.ddr_address_map.specs.declared.request.Kind.{Kind}
use Rattle.ddr_address_map.specs.declared.request.Kind.TheVariants.{Read, Write}
use Rattle.ddr_reorder.specs.declared.refusal.ReorderError.{ReorderError}
use Rattle.ddr_reorder.specs.declared.refusal.ReorderError.TheVariants.{Spent, WindowFull}
use Rattle.ddr_reorder.specs.declared.reply.Service.{Service}

-- a number from its issue to its release: what its request asked for, and once it has come back its line, and the cycles in
-- which it was served
pub record Outstanding : Type 0 where
  pub number : ℕ
  pub echo : Echo
  pub line : Option (List ℕ)
  pub service : Option Service

pub record ReorderState : Type 0 where
  -- the most numbers that may be outstanding at a time
  pub window : ℕ
  -- the number that is issued next
  pub next : ℕ
  -- the oldest first
  pub outstanding : List Outstanding

-- what is asked for lies in one line
abbrev pub IsWithinLine : Echo → Type 0
IsWithinLine echo = echo.addr % LINE_BYTES + echo.len ≤ LINE_BYTES

-- before the first number
abbrev pub opened : ℕ → ℕ → ReorderState
opened window first = record { window = window; next = first; outstanding = [] }

-- why no number can be issued, if there is a cause
abbrev pub issue_refusal : ReorderState → Option ReorderError
issue_refusal s =
    if s.next == CLOCK_STOP then Some Spent
    else if length s.outstanding == s.window then Some WindowFull
    else None

-- after the next number was issued for what this echo asks
abbrev pub after_issue : Echo → ReorderState → ReorderState
after_issue echo s = record s {
  next = s.next + 1;
  outstanding = s.outstanding ++ record { number = s.next; echo = echo; line = None; service = None } ∷ [];
}

-- the number that was issued last, if it is outstanding
abbrev pub newest : ReorderState → Option Outstanding
newest s = slice_get s.outstanding (length s.outstanding - 1)

-- the number was issued last, and its line has not come back
abbrev pub IsRecallable : ReorderState → ℕ → Type 0
IsRecallable s number = IsSomeAnd (newest s) (λ o. (o.number ≡ number) × (o.line ≡ None))

-- after the newest number was taken back, which is issued again
abbrev pub after_recall : ReorderState → ReorderState
after_recall s = record s {
  next = s.next - 1;
  outstanding = take (length s.outstanding - 1) s.outstanding;
}

abbrev pub is_same_kind : Kind → Kind → Bool
is_same_kind Read Read = true
is_same_kind Write Write = true
is_same_kind _ _ = false

abbrev pub is_same_echo : Echo → Echo → Bool
is_same_echo a b = is_same_kind a.kind b.kind && a.addr == b.addr && a.len == b.len

-- the number is this one, its echo too, and its line has not come back
abbrev pub is_awaited : ℕ → Echo → Outstanding → Bool
is_awaited number echo o = o.number == number && is_same_echo o.echo echo && is_none o.line

-- some outstanding number waits for a line with that number and that echo
abbrev pub awaits : ReorderState → ℕ → Echo → Bool
awaits s number echo = list_any (is_awaited number echo) s.outstanding

-- the outstanding number, with its line and the cycles in which it was served if it is this one
abbrev pub filled : ℕ → Service → List ℕ → Outstanding → Outstanding
filled number service line o = if o.number == number then record o { line = Some line; service = Some service } else o

-- after the line of a number has come back
abbrev pub after_fill : ℕ → Service → List ℕ → ReorderState → ReorderState
after_fill number service line s = record s { outstanding = map (filled number service line) s.outstanding }

-- after the oldest number was given up
abbrev pub after_release : ReorderState → ReorderState
after_release s = record s { outstanding = drop 1 s.outstanding }
