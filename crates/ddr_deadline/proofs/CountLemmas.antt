-- Counts of served requests and of ticks: the arithmetic behind the bound on a request's time.
use Rattle.std.proofs.Common.{◌≡◌, ℕ, suc, ◌+◌, ◌-◌, ◌*◌, ◌/◌, ◌<◌, ◌≤◌, ap, ◌∙◌, ◌⊎◌, inl, inr, arith}
use Rattle.std.proofs.Math.Nat.{add-mul, le-div_iff_mul-le, mul-le-mul_right, suc-mul}
use Rattle.std.proofs.lemmas.Bool.{cases_lt, cases_order}
use Rattle.ddr_refresh.specs.Refreshes.{due_by}
use Rattle.ddr_latency.specs.Bound.{rounded_up}

-- The cycle before which a request stands that reached the cap in cycle `from`, where so many requests were served since, and so many
-- ticks fell.
unfoldable pub limit : ℕ → ℕ → ℕ → ℕ → ℕ → ℕ
limit service alone from served ticks = from + (served + 1) * service + (ticks + 1) * alone

-- how many ticks fell before now from a cycle on
unfoldable pub ticks_since : ℕ → ℕ → ℕ → ℕ → ℕ
ticks_since start refi from now = due_by (now - start) refi - due_by (from - start) refi

-- the last of all ticks before now, and the first cycle where none was
unfoldable pub last_tick : ℕ → ℕ → ℕ → ℕ
last_tick start refi now = start + due_by (now - start) refi * refi

one_more : (a n : ℕ) → (a + 1) * n ≡ a * n + n
one_more a n = let next : a + 1 ≡ suc a = omega arith in ap (λ k. k * n) next ∙ suc-mul a n

-- the limit

pub limit_served : (service alone from served ticks : ℕ) → limit service alone from (served + 1) ticks ≡ limit service alone from served ticks + service
unfolding limit
limit_served service alone from served ticks = let more = one_more (served + 1) service in omega (arith, more)

pub limit_ticked : (service alone from served ticks : ℕ) → limit service alone from served (ticks + 1) ≡ limit service alone from served ticks + alone
unfolding limit
limit_ticked service alone from served ticks = let more = one_more (ticks + 1) alone in omega (arith, more)

pub limit_least : (service alone from served ticks : ℕ) → from + service + alone ≤ limit service alone from served ticks
unfolding limit
limit_least service alone from served ticks =
    let first = one_more served service in
    let second = one_more ticks alone in
    omega (arith, first, second)

-- ticks

-- where the cycle is no tick, and where it is one
pub record IsTickless (start refi now : ℕ) : Type 0 where
  pub due : due_by (now + 1 - start) refi ≡ due_by (now - start) refi

pub record IsTick (start refi now : ℕ) : Type 0 where
  pub due : due_by (now + 1 - start) refi ≡ due_by (now - start) refi + 1
  pub here : start + due_by (now + 1 - start) refi * refi ≡ now

-- the greatest number of intervals in so many clocks
interval_most : (clocks refi n : ℕ) → 1 ≤ refi → n ≤ clocks / refi → n * refi ≤ clocks
interval_most clocks refi n some most = (le-div_iff_mul-le {k = refi} {x = n} {y = clocks} (omega (arith, some))).0 most

interval_least : (clocks refi n : ℕ) → 1 ≤ refi → n * refi ≤ clocks → n ≤ clocks / refi
interval_least clocks refi n some most = (le-div_iff_mul-le {k = refi} {x = n} {y = clocks} (omega (arith, some))).1 most

not_all : (clocks refi : ℕ) → 1 ≤ refi → clocks < (clocks / refi + 1) * refi
not_all clocks refi some = elim (cases_lt clocks ((clocks / refi + 1) * refi)) [
  | inl before ↦ before
  | inr all ↦ absurd (let most = interval_least clocks refi (clocks / refi + 1) some all in omega (arith, most))
]

same_self : (n : ℕ) → n ≤ n
same_self n = omega arith

-- one clock more ends an interval, or doesn't
interval_ends : (clocks refi : ℕ) → 1 ≤ refi → (clocks / refi ≡ (clocks - 1) / refi) ⊎ ((clocks / refi ≡ (clocks - 1) / refi + 1) × (clocks / refi * refi ≡ clocks))
interval_ends clocks refi some = elim (cases_order (clocks / refi) ((clocks - 1) / refi)) [
  | inl same ↦ inl same
  | inr (inl less) ↦
      let most = interval_most (clocks - 1) refi ((clocks - 1) / refi) some (same_self ((clocks - 1) / refi)) in
      let least = interval_least clocks refi ((clocks - 1) / refi) some (omega (arith, most)) in
      absurd (omega (arith, less, least))
  | inr (inr more) ↦
      let most = interval_most clocks refi (clocks / refi) some (same_self (clocks / refi)) in
      let past = not_all (clocks - 1) refi some in
      let next = mul-le-mul_right {m = (clocks - 1) / refi + 1} {n = clocks / refi} refi (omega (arith, more)) in
      elim (cases_lt ((clocks - 1) / refi + 1) (clocks / refi)) [
        | inl two ↦
            let farther = mul-le-mul_right {m = (clocks - 1) / refi + 1 + 1} {n = clocks / refi} refi (omega (arith, two)) in
            let step = one_more ((clocks - 1) / refi + 1) refi in
            absurd (omega (arith, most, past, farther, step, some))
        | inr one ↦ inr (omega (arith, more, one), omega (arith, most, past, next))
      ]
]

pub tick_or_not : (start refi now : ℕ) → 1 ≤ refi → start ≤ now → IsTickless start refi now ⊎ IsTick start refi now
tick_or_not start refi now some begun =
    let clocks : now + 1 - start - 1 ≡ now - start = omega (arith, begun) in
    let due : due_by (now + 1 - start) refi ≡ (now - start) / refi = ap (λ n. n / refi) clocks in
    elim (interval_ends (now - start) refi some) [
      | inl same ↦ inl (record { due = due ∙ same })
      | inr more ↦ inr (record {
        due = due ∙ more.0;
        here = let ends = ap (λ n. n * refi) due ∙ more.1 in omega (arith, ends, begun);
      })
    ]

-- the ticks since a cycle, and the last one

pub ticks_kept : (start refi from now : ℕ) → IsTickless start refi now → ticks_since start refi from (now + 1) ≡ ticks_since start refi from now
unfolding ticks_since
ticks_kept start refi from now none = ap (λ n. n - due_by (from - start) refi) none.due

pub last_kept : (start refi now : ℕ) → IsTickless start refi now → last_tick start refi (now + 1) ≡ last_tick start refi now
unfolding last_tick
last_kept start refi now none = ap (λ n. start + n * refi) none.due

due_later : (start refi from now : ℕ) → 1 ≤ refi → from ≤ now → due_by (from - start) refi ≤ due_by (now - start) refi
due_later start refi from now some later =
    let most = interval_most (from - start - 1) refi ((from - start - 1) / refi) some (same_self ((from - start - 1) / refi)) in
    interval_least (now - start - 1) refi ((from - start - 1) / refi) some (omega (arith, most, later))

pub ticks_more : (start refi from now : ℕ) → 1 ≤ refi → from ≤ now → IsTick start refi now → ticks_since start refi from (now + 1) ≡ ticks_since start refi from now + 1
unfolding ticks_since
ticks_more start refi from now some later tick = let early = due_later start refi from now some later in let due = tick.due in omega (arith, early, due)

pub last_here : (start refi now : ℕ) → IsTick start refi now → last_tick start refi (now + 1) ≡ now
unfolding last_tick
last_here start refi now tick = tick.here

-- the one before it stands an interval behind
pub last_before : (start refi now : ℕ) → IsTick start refi now → now ≡ last_tick start refi now + refi
unfolding last_tick
last_before start refi now tick =
    let more = one_more (due_by (now - start) refi) refi in
    let due = ap (λ n. n * refi) tick.due in
    let here = tick.here in
    omega (arith, more, due, here)

pub ticks_none : (start refi from now : ℕ) → 1 ≤ refi → now ≤ from → ticks_since start refi from now ≡ 0
unfolding ticks_since
ticks_none start refi from now some early = let it = due_later start refi now from some early in omega (arith, it)

pub last_early : (start refi now : ℕ) → 1 ≤ refi → start ≤ now → last_tick start refi now ≤ now
unfolding last_tick
last_early start refi now some begun =
    let most = interval_most (now - start - 1) refi ((now - start - 1) / refi) some (same_self ((now - start - 1) / refi)) in
    omega (arith, most, begun)

-- each tick before now is at or before the last one
pub tick_early : (start refi now j : ℕ) → 1 ≤ refi → start + j * refi < now → start + j * refi ≤ last_tick start refi now
unfolding last_tick
tick_early start refi now j some early =
    let least = interval_least (now - start - 1) refi j some (omega (arith, early)) in
    let most = mul-le-mul_right {m = j} {n = due_by (now - start) refi} refi least in
    omega (arith, most)

-- the last of some ticks stands all their intervals but one behind the first, which is no earlier than the cycle
pub last_far : (start refi from now ticks : ℕ) → 1 ≤ refi → ticks_since start refi from now ≡ ticks + 1 → from + ticks * refi ≤ last_tick start refi now
unfolding ticks_since last_tick
last_far start refi from now ticks some many =
    let early = due_by (from - start) refi in
    let late = due_by (now - start) refi in
    let count : late ≡ (early + 1) + ticks = omega (arith, many) in
    let product = ap (λ n. n * refi) count ∙ add-mul (early + 1) ticks refi in
    let past = not_all (from - start - 1) refi some in
    omega (arith, product, past)

-- the two bounds on ticks, and the end

-- what the last tick leaves room for
pub few_ticks : (service alone refi from served ticks n last : ℕ) → alone < refi → served + 1 ≤ n → from + ticks * refi ≤ last → last + alone + 1 ≤ limit service alone from served (ticks + 1) →
    ticks + 1 ≤ rounded_up (n * service + alone) (refi - alone)
unfolding limit
few_ticks service alone refi from served ticks n last leaves few far ends =
    let left = refi - alone in
    let whole : refi ≡ left + alone = omega (arith, leaves) in
    let parts = ap (λ k. ticks * k) whole ∙ mul_add ticks left alone in
    let all = mul-le-mul_right {m = served + 1} {n = n} service few in
    let first = one_more (ticks + 1) alone in
    let second = one_more ticks alone in
    let third = one_more ticks left in
    interval_least (n * service + alone + left - 1) left (ticks + 1) (omega (arith, leaves)) (omega (arith, parts, all, first, second, third, far, ends, leaves))
  where
    mul_add : (a b d : ℕ) → a * (b + d) ≡ a * b + a * d
    mul_add a b d = omega arith

-- requests and refreshes that are counted keep below the limit of all
pub all_served : (service alone from served ticks n most : ℕ) → served + 1 ≤ n → ticks ≤ most → limit service alone from served ticks ≤ from + n * service + (most + 1) * alone
unfolding limit
all_served service alone from served ticks n most few less =
    let first = mul-le-mul_right {m = served + 1} {n = n} service few in
    let second = mul-le-mul_right {m = ticks + 1} {n = most + 1} alone (omega (arith, less)) in
    omega (arith, first, second)
