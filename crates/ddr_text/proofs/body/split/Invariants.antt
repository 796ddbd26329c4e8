use Rattle.std.proofs.Common.{◌≡◌, ℕ, false, List, ◌++◌, ◌==◌, length}
use Rattle.std.specs.List.{slice_split}
use Rattle.std.specs.Str.Lines.{lines}
use denote.Text.{Utf8}
use denote.Shadow.{shadow}
use Rattle.ddr_text.specs.Body.{split_from, split_of}
use Rattle.ddr_text.proofs.BodyLemmas.{are_marked}
use Rattle.ddr_text.proofs.body.split.Given as goal

abbrev pub invariant-lines : goal.invariant-lines
invariant-lines l = record {
  utf8 : shadow (Utf8 l.rest);
  front : List ℕ;
  whole : l.text ≡ front ++ l.rest;
  seen : List (List ℕ);
  lined : (r : List ℕ) → lines (front ++ r) ≡ seen ++ lines r;
  unmarked : are_marked seen ≡ false;
  said : split_from front (slice_split (λ byte. byte == 10) l.rest) ≡ split_of l.text;
}

abbrev pub decreases-lines : goal.decreases-lines
decreases-lines l = length l.rest
