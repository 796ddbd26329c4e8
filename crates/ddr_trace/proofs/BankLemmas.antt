-- What a history makes of a bank, as the newest entry joins it.
use Rattle.std.proofs.Common.{◌≡◌, List, [], ◌∷◌, ◌++◌, None}
use Rattle.std.proofs.lemmas.List.Sums.{fold_push}
use Rattle.ddr_trace.specs.declared.command.Command.{Command}
use Rattle.ddr_trace.specs.declared.command.Entry.{Entry}
use Rattle.ddr_trace.specs.Banks.{bank_after, bank_behind}

-- the newest entry tells last
pub bank_behind-append : (command : Command) (before : List Entry) (x : Entry) → bank_behind command (before ++ x ∷ []) ≡ bank_after command (bank_behind command before) x
unfolding bank_behind
bank_behind-append command before x = fold_push (bank_after command) None before x
