-- The last read and the last write of a rank, as the trace grows by an entry.
use Rattle.std.proofs.Common.{◌≡◌, ℕ, ◌<◌, Bool, true, false, ◌&&◌, if◌then◌else◌, List, [], ◌∷◌, ◌++◌, Option, Some, None, refl, sym, ◌∙◌}
use Rattle.std.specs.List.{AllByRecursion}
use Rattle.ddr_trace.specs.declared.command.Command.{Command}
use Rattle.ddr_trace.specs.declared.command.Entry.{Entry}
use Rattle.ddr_trace.specs.Commands.{is_read, is_write}
use Rattle.ddr_rank.proofs.LatestLemmas.{latest-append}
use Rattle.ddr_rank.specs.Stands.{is_of_rank}
use Rattle.ddr_legality.specs.declared.columns.Columns.{Columns}
use Rattle.ddr_legality.specs.Columns.{IsLast, KeepsColumns, columns_noted}

-- before the first command
no_last : (test : Command → Bool) → IsLast test [] None
no_last test = record {
  cycle = refl;
  passes = λ e same. cc;
}

pub no_columns : (rank : ℕ) → KeepsColumns rank [] (record { read = None; write = None })
no_columns rank = record {
  read = no_last _;
  write = no_last _;
}

-- one more command, later than all
last_more : (test : Command → Bool) (history : List Entry) (e : Entry) (last : Option Entry) → AllByRecursion (λ a. a.cycle < e.cycle) history → IsLast test history last → (w : Bool) → test e.command ≡ w → IsLast test (history ++ e ∷ []) (if w then Some e else last)
last_more test history e last below kept true is = record {
  cycle = sym (latest-append test history e below ∙ rw is refl);
  passes = λ a same.
      let here : e ≡ a = cc in
      rw (← here) is;
}
last_more test history e last below kept false is = record {
  cycle = kept.cycle ∙ sym (latest-append test history e below ∙ rw is refl);
  passes = kept.passes;
}

both : (a b : Bool) → b ≡ true → (a && b) ≡ a
both true b h = h
both false b h = refl

neither : (a b : Bool) → b ≡ false → (a && b) ≡ false
neither true b h = h
neither false b h = refl

-- a command of the rank
pub columns_more : (rank : ℕ) (history : List Entry) (columns : Columns) (e : Entry) → AllByRecursion (λ a. a.cycle < e.cycle) history → is_of_rank rank e.command ≡ true → KeepsColumns rank history columns → KeepsColumns rank (history ++ e ∷ []) (columns_noted e columns)
columns_more rank history columns e below own kept = record {
  read = last_more _ history e columns.read below kept.read (is_read e.command) (both (is_read e.command) _ own);
  write = last_more _ history e columns.write below kept.write (is_write e.command) (both (is_write e.command) _ own);
}

-- a command of another rank
pub columns_same : (rank : ℕ) (history : List Entry) (columns : Columns) (e : Entry) → AllByRecursion (λ a. a.cycle < e.cycle) history → is_of_rank rank e.command ≡ false → KeepsColumns rank history columns → KeepsColumns rank (history ++ e ∷ []) columns
columns_same rank history columns e below other kept = record {
  read = last_more _ history e columns.read below kept.read false (neither (is_read e.command) _ other);
  write = last_more _ history e columns.write below kept.write false (neither (is_write e.command) _ other);
}
