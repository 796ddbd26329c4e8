-- What contracts see of a whole trace.
use Rattle.std.specs.Prelude.{ℕ, List}
use Rattle.ddr_trace.specs.declared.command.Entry.{Entry}

pub record Recorded : Type 0 where
  pub start : ℕ
  pub end : ℕ
  pub entries : List Entry
