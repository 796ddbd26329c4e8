use Rattle.std.proofs.Common.{◌≡◌, ◌+◌, [], length, string_bytes}
use Rattle.ddr_run.specs.Hosting.{HasAsked, replies_text}
use Rattle.ddr_run.proofs.hosting.Host.finish.Given as goal

abbrev pub invariant-loop : goal.invariant-loop
invariant-loop g l = record {
  asked : HasAsked l.fn.self l.port [];
  counted : l.port.taken + length l.port.core.reorder.outstanding ≡ l.port.core.reorder.next;
  taken : l.port.taken ≡ l.fn.self.taken;
  took : l.port.completions.took ≡ l.fn.self.completions.took;
  text : string_bytes l.text ≡ replies_text l.fn.self.core.port l.fn.self.completions.took l.fn.self.taken;
}
