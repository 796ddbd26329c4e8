use Rattle.std.proofs.Common.{◌≡◌, ◌/◌, ◌^◌, bit_and, refl, sym, ◌∙◌, arith}
use Rattle.std.proofs.lemmas.List.{places}
use Rattle.ddr_row_array.proofs.Words.{whole_word, no_word, byte_of-set, byte_of-clear}
use Rattle.ddr_row_array.proofs.merge.merge_word.Goals as goal

pub returns-then-bits-eq255 : goal.returns-then-bits-eq255
returns-then-bits-eq255 c =
    let all : bit_and (c.args.mask / 2 ^ c.args.start) 255 ≡ 255 = omega arith in
    record {
      long = grind (arith, places);
      before = λ k h. grind (arith, places);
      within = λ j h. grind (arith, places, c.copy_from_slice.ensures.after) ∙ sym (byte_of-set c.args.mask c.args.line.now c.args.burst.now _ (whole_word c.args.mask c.args.start j all h));
      after = λ k h. grind (arith, places);
    }

pub returns-else-bits-ne0 : goal.returns-else-bits-ne0
returns-else-bits-ne0 c =
    let none : bit_and (c.args.mask / 2 ^ c.args.start) 255 ≡ 0 = omega arith in
    record {
      long = c.requires.long;
      before = λ k h. refl;
      within = λ j h. sym (byte_of-clear c.args.mask c.args.line.now c.args.burst.now _ (no_word c.args.mask c.args.start j none h));
      after = λ k h. refl;
    }
