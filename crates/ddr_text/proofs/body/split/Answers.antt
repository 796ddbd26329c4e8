use Rattle.std.proofs.Common.{◌≡◌, true, false, cond, codes, [], ◌∷◌, ◌++◌, None, Some, refl, sym, ap, ◌∙◌, rules, lit<}
use Rattle.std.specs.Str.{bytes_eq}
use Rattle.std.specs.Str.Lines.{lines, strip_carriage_return}
use Rattle.std.proofs.lemmas.Slice.Eq.{bytes_eq-Decides}
use Rattle.ddr_text.specs.Body.{split_of}
use Rattle.ddr_text.proofs.BodyLemmas.{front_range, is_line, lines_at_mark, lines_more, lines_round, split_last, split_mark, split_more, strip_other, unmarked_all, unmarked_before, unmarked_more, whole_more}
use Rattle.ddr_text.proofs.body.split.Goals as goal

pub lines-init : goal.lines-init
unfolding split_of
lines-init c = record {
  utf8 = c.utf8.text;
  front = [];
  whole = refl;
  seen = [];
  lined = λ r. refl;
  unmarked = refl;
  said = refl;
}

pub returns-then-is_mark : goal.returns-then-is_mark
returns-then-is_mark c =
    let kept = c.lines.invariant in
    let turn = is_line c.lines.rest.now c.in-Some.line.now c.in-Some.behind.now (c.in-Some.ensures.byte (lit< tt) (λ w o h. h)) in
    let mark = sym c.is_mark.ensures ∙ c.if-is_mark.true in
    let front = front_range c.args.text.now kept.front c.lines.rest.now kept.whole ∙ sym c.range.ensures.value in
    record {
      parts = split_mark kept.front c.lines.rest.now c.in-Some.line.now c.in-Some.behind.now (split_of c.args.text.now) turn mark kept.said ∙ ap (λ f. Some (f, c.in-Some.behind.now)) front;
      lines = lines_round c.args.text.now kept.front c.lines.rest.now c.range.result.now c.in-Some.behind.now kept.seen kept.whole kept.lined (lines_at_mark c.lines.rest.now c.in-Some.line.now c.in-Some.behind.now turn mark) front;
      first = unmarked_before kept.front c.range.result.now kept.seen kept.lined front kept.unmarked;
      short = search rules;
      refused = tt;
    }

pub lines-preserved : goal.lines-preserved
lines-preserved c =
    let kept = c.lines.invariant in
    let turn = is_line c.lines.rest.now c.in-Some.line.now c.in-Some.behind.now (c.in-Some.ensures.byte (lit< tt) (λ w o h. h)) in
    let other = sym c.is_mark.ensures ∙ c.if-is_mark.false in
    record {
      utf8 = search rules;
      front = kept.front ++ (c.in-Some.line.now ++ 10 ∷ []);
      whole = whole_more c.args.text.now kept.front c.lines.rest.now c.in-Some.line.now c.in-Some.behind.now turn kept.whole;
      seen = kept.seen ++ strip_carriage_return c.in-Some.line.now ∷ [];
      lined = lines_more kept.front c.in-Some.line.now kept.seen turn.unfed kept.lined;
      unmarked = unmarked_more kept.seen (strip_carriage_return c.in-Some.line.now) kept.unmarked (strip_other c.in-Some.line.now other);
      said = split_more kept.front c.lines.rest.now c.in-Some.line.now c.in-Some.behind.now (split_of c.args.text.now) turn other kept.said;
    }

pub returns-then-eq : goal.returns-then-eq
returns-then-eq c =
    let kept = c.lines.invariant in
    let none = c.in_default.ensures.byte (lit< tt) (λ w o h. h) in
    let is_last : bytes_eq c.lines.rest.now (codes "---") ≡ true = search rules in
    let rest = (bytes_eq-Decides c.lines.rest.now (codes "---")).0 is_last in
    let front = front_range c.args.text.now kept.front c.lines.rest.now kept.whole ∙ sym c.range-then-eq.ensures.value in
    record {
      parts = split_last kept.front c.lines.rest.now (split_of c.args.text.now) none kept.said ∙ ap (λ b. cond b (Some (kept.front, [])) None) is_last ∙ ap (λ f. Some (f, [])) front;
      lines = lines_round c.args.text.now kept.front c.lines.rest.now c.range-then-eq.result.now [] kept.seen kept.whole kept.lined (ap lines rest) front;
      first = unmarked_before kept.front c.range-then-eq.result.now kept.seen kept.lined front kept.unmarked;
      short = search rules;
      refused = tt;
    }

pub returns-clause-refused : goal.returns-clause-refused
returns-clause-refused c =
    let kept = c.lines.invariant in
    let none = c.in_default.ensures.byte (lit< tt) (λ w o h. h) in
    let is_last : bytes_eq c.lines.rest.now (codes "---") ≡ false = search rules in (
      refl,
      split_last kept.front c.lines.rest.now (split_of c.args.text.now) none kept.said ∙ ap (λ b. cond b (Some (kept.front, [])) None) is_last,
      unmarked_all c.args.text.now kept.front c.lines.rest.now kept.seen kept.whole kept.lined kept.unmarked none is_last,
    )
