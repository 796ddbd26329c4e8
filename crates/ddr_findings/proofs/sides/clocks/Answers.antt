-- Where all of the keys are sound, each number is that of its key.
use Rattle.std.proofs.Common.{◌≡◌, true, All, refl, arith}
use Rattle.std.proofs.lemmas.List.Sums.{AllPass-from_list_all}
use Rattle.toml.specs.View.{table_view}
use Rattle.ddr_timing.specs.declared.key.Key.TheVariants as key
use Rattle.ddr_findings.specs.Sound.{is_sound}
use Rattle.ddr_findings.specs.Warnings.{clock_keys}
use Rattle.ddr_findings.proofs.sides.clocks.Goals as goal

pub returns : goal.returns
returns c sound =
    let t = table_view c.args.table.now in
    let all : All (λ k. is_sound t k ≡ true) clock_keys = AllPass-from_list_all (is_sound t) clock_keys sound in
    rw (
      c.clock.ensures (all 1 key.Cl (omega arith)),
      c.clock-2.ensures (all 2 key.Cwl (omega arith)),
      c.clock-3.ensures (all 3 key.Rcd (omega arith)),
      c.clock-4.ensures (all 4 key.Rp (omega arith)),
      c.clock-5.ensures (all 5 key.Ras (omega arith)),
      c.clock-6.ensures (all 6 key.Rc (omega arith)),
      c.clock-7.ensures (all 7 key.RrdL (omega arith)),
      c.clock-8.ensures (all 8 key.Faw (omega arith)),
      c.clock-9.ensures (all 9 key.CcdL (omega arith)),
      c.clock-10.ensures (all 10 key.WtrS (omega arith)),
      c.clock-11.ensures (all 11 key.WtrL (omega arith)),
      c.clock-12.ensures (all 12 key.Wr (omega arith)),
      c.clock-13.ensures (all 13 key.Rtp (omega arith)),
      c.clock-14.ensures (all 14 key.Rtw (omega arith)),
      c.clock-15.ensures (all 15 key.Rfc (omega arith)),
    ) refl
