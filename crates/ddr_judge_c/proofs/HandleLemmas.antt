-- `Handle` is the handle of a judge.
use Rattle.std.proofs.Common.{refl}
use Rattle.ddr_loose.proofs.Handles.{IsHandle}
use Rattle.ddr_judge_c.specs.contracts.handle.Handle as handle
use Rattle.ddr_judge_c.specs.contracts.judge.Judge as judge

abbrev pub is_handle : IsHandle judge.the_row handle.the_row
is_handle = record {
  parts = λ handle. (handle.at, (handle.alloc, handle.holds));
  make = λ parts. record { at = parts.0; alloc = parts.1.0; holds = parts.1.1 };
  made = λ parts. refl;
  owns_it = λ handle vs. refl;
  silent = λ handle last. refl;
}
