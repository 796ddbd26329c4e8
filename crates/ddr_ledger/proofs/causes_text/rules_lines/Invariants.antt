use Rattle.std.proofs.Common.{◌≡◌, ◌++◌, drop, string_bytes}
use Rattle.ddr_ledger.specs.CausesText.{rules_lines}
use Rattle.ddr_ledger.proofs.causes_text.rules_lines.Given as goal

abbrev pub invariant-loop-place : goal.invariant-loop-place
invariant-loop-place l = string_bytes l.text ++ rules_lines l.place (drop l.place l.rules) l.clocks ≡ rules_lines 0 l.rules l.clocks
