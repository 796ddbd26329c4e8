-- What a line of the code's table of the rules on two commands means.
use Rattle.std.specs.Prelude.{Bool, true, ◌&&◌, Option, Some, None}
use Rattle.ddr_trace.specs.declared.command.Command.{Command}
use Rattle.ddr_trace.specs.declared.spacing.CommandKind.{CommandKind}
use Rattle.ddr_trace.specs.declared.spacing.CommandKind.TheVariants as kind
use Rattle.ddr_trace.specs.declared.spacing.Scope.{Scope}
use Rattle.ddr_trace.specs.declared.spacing.Scope.TheVariants as scope
use Rattle.ddr_trace.specs.declared.spacing.Spacing.{Spacing as Line}
use Rattle.ddr_trace.specs.Commands.{is_activate, is_column, is_other_bank, is_other_group, is_precharge, is_read, is_refresh, is_same_bank, is_same_group, is_same_kind, is_same_rank, is_write}
use Rattle.ddr_trace.specs.Rules.{Spacing, no_spacing, spacing}

-- the command is of the kind
abbrev pub is_of_kind : CommandKind → Command → Bool
is_of_kind kind.Activate = is_activate
is_of_kind kind.Column = is_column
is_of_kind kind.Read = is_read
is_of_kind kind.Write = is_write
is_of_kind kind.Precharge = is_precharge
is_of_kind kind.Refresh = is_refresh
is_of_kind kind.Any = λ _. true

-- the two commands are such a pair
abbrev pub is_paired : Scope → Command → Command → Bool
is_paired scope.SameRank = is_same_rank
is_paired scope.SameGroup = is_same_group
is_paired scope.OtherGroup = is_other_group
is_paired scope.SameKindSameGroup = λ a b. is_same_kind a b && is_same_group a b
is_paired scope.SameKindOtherGroup = λ a b. is_same_kind a b && is_other_group a b
is_paired scope.SameBank = is_same_bank
is_paired scope.OtherBank = is_other_bank

-- the spacing that the line stands for
abbrev pub meant_by : Line → Spacing
meant_by l = spacing (is_of_kind l.earlier) (is_of_kind l.later) (is_paired l.scope) l.at_least

-- a rule with no line speaks of no commands
abbrev pub meaning_of : Option Line → Spacing
meaning_of (Some l) = meant_by l
meaning_of None = no_spacing
