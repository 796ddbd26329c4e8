use Rattle.std.proofs.Common.{◌≡◌, ◌+◌, ◌-◌, ◌%◌, arith, append-nil, append_assoc, length-set}
use Rattle.std.proofs.lemmas.Fmt.{decimal_digit, decimal_step, length-decimal-le}
use Rattle.std.proofs.lemmas.List.{drop-set, drop_all}
use Rattle.ddr_sim.proofs.LineLemmas.{digit_longer, one_digit}
use Rattle.ddr_sim.proofs.line.write_digits.Goals as goal

pub tens-init : goal.tens-init
tens-init c = record {
  within = omega arith;
  whole = omega arith;
  room = length-decimal-le 20 c.args.number (omega arith) (omega arith) c.ranges.number.fits;
  split = rw (drop_all 20 c.args.digits.now (omega arith), append-nil);
}

pub overflow_sub-place : goal.overflow_sub-place
overflow_sub-place c = omega (arith, digit_longer c.tens.rest (omega arith) c.tens.auto.rest-fits.fits)

pub tens-preserved : goal.tens-preserved
tens-preserved c =
    let l = c.tens in
    let longer = digit_longer l.rest (omega arith) l.auto.rest-fits.fits in
    let e : l.place - 1 + 1 ≡ l.place = omega arith in record {
      within = omega arith;
      whole = omega (arith, length-set l.digits (l.place - 1) (48 + l.rest % 10));
      room = omega arith;
      split = rw (drop-set l.digits (l.place - 1) _ (omega arith), e) (rw (decimal_step l.rest (omega arith) l.auto.rest-fits.fits, append_assoc) at l.invariant.split);
    }

pub overflow_sub-place-2 : goal.overflow_sub-place-2
overflow_sub-place-2 c = omega (arith, one_digit c.tens.rest (omega arith))

pub returns-clause-written : goal.returns-clause-written
returns-clause-written c =
    let l = c.tens in
    let one = one_digit l.rest (omega arith) in
    let e : l.place - 1 + 1 ≡ l.place = omega arith in
    rw (drop-set l.digits (l.place - 1) _ (omega arith), e) (rw (decimal_digit l.rest (omega arith)) at l.invariant.split)
