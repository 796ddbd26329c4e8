-- Many cycles of a rank's refreshes at once, with some that fall due in them.
use Rattle.std.proofs.Common.{◌≡◌, ℕ, ◌+◌, ◌-◌, ◌*◌, ◌/◌, ◌%◌, ◌<◌, ◌≤◌, sym, ap, ◌∙◌, arith}
use Rattle.std.proofs.Math.Nat.{add-mul, div-add-mod, mod-lt, mul-add, mul-add-div}
use Rattle.ddr_timing.specs.declared.units.TheConstants.{CLOCK_STOP}
use Rattle.ddr_refresh.specs.declared.debt.Debt.TheInside.{Inside}
use Rattle.ddr_refresh.specs.Refreshes.{due_by}
use Rattle.ddr_refresh.specs.View.{IsSound}

-- so many cycles, of which some are over the one in which the next refresh falls due
pub pass_sound : (a : Inside) (count : ℕ) → IsSound a → a.until_due ≤ count → a.ticks + count ≤ CLOCK_STOP
    → IsSound (record {
      refi = a.refi;
      postpone = a.postpone;
      ticks = a.ticks + count;
      until_due = a.refi - (count - a.until_due) % a.refi;
      due = a.due + (1 + (count - a.until_due) / a.refi);
      issued = a.issued;
    })
pass_sound a count sound over clock = record {
  interval = sound.interval;
  clock = clock;
  due = sym due;
  until = until;
  running = omega (arith, mod-lt more sound.interval);
  issued_are_due = omega (arith, sound.issued_are_due);
}
  where
    more : ℕ
    more = count - a.until_due

    d : ℕ
    d = more / a.refi

    r : ℕ
    r = more % a.refi

    parted : a.refi * d + r ≡ more
    parted = div-add-mod more a.refi

    next : a.ticks + a.until_due ≡ a.refi * (a.due + 1) + 1
    next = sound.until ∙ ap (λ n. a.refi * (n + 1) + 1) (sym sound.due)

    last : a.ticks + count - 1 ≡ a.refi * (a.due + 1) + more
    last = omega (arith, next, over)

    due : due_by (a.ticks + count) a.refi ≡ a.due + (1 + d)
    due = ap (λ n. n / a.refi) last ∙ mul-add-div sound.interval (a.due + 1) more ∙ omega arith

    spread : a.refi * (a.due + (1 + d) + 1) ≡ a.refi * (a.due + 1) + (a.refi * d + a.refi * 1)
    spread = ap (λ n. a.refi * n) (omega arith) ∙ mul-add a.refi (a.due + 1) (d + 1) ∙ ap (λ n. a.refi * (a.due + 1) + n) (mul-add a.refi d 1)

    until : a.ticks + count + (a.refi - r) ≡ a.refi * (due_by (a.ticks + count) a.refi + 1) + 1
    until = omega (arith, next, over, parted, spread, mod-lt more sound.interval) ∙ ap (λ n. a.refi * (n + 1) + 1) (sym due)
