use Rattle.std.proofs.Common.{◌≡◌, ◌++◌, length, map, take}
use denote.Text.{Utf8}
use denote.Shadow.{shadow}
use Rattle.ddr_text.specs.Script.{fields_of}
use Rattle.ddr_text.proofs.script.fields.Given as goal

abbrev pub invariant-fields : goal.invariant-fields
invariant-fields l = record {
  utf8 : shadow (Utf8 l.rest);
  said : take 6 (map (λ field. field.now) l.fields.items ++ fields_of l.rest) ≡ take 6 (fields_of l.line);
}

abbrev pub decreases-fields : goal.decreases-fields
decreases-fields l = length l.rest
