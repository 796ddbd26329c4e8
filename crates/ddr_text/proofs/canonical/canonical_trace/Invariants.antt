use Rattle.std.proofs.Common.{◌≡◌, ◌≤◌, ◌++◌, ◌&&◌, true, length}
use Rattle.std.specs.Prelude.{nat_le}
use Rattle.std.specs.List.{flat_map, list_all}
use Rattle.ddr_timing.specs.declared.units.TheConstants.{CLOCK_STOP}
use Rattle.ddr_trace.specs.Rules.{is_in}
use Rattle.ddr_trace_text.specs.Text.{command_fields, header, record_text}
use Rattle.ddr_text.proofs.canonical.canonical_trace.Given as goal

abbrev pub invariant-lines : goal.invariant-lines
invariant-lines l = record {
  few : length l.entries.items ≤ 65536;
  fits : list_all (λ e. is_in l.geometry e.command && nat_le e.cycle CLOCK_STOP) l.entries.items ≡ true;
  whole : l.text ≡ record_text header ++ (flat_map (λ e. record_text (command_fields e.cycle e.command)) l.entries.items ++ l.rest);
}

abbrev pub decreases-lines : goal.decreases-lines
decreases-lines l = length l.rest
