-- The rules on a rank, parted: two look at the state of banks, and all others are distances.
use Rattle.std.specs.Prelude.{Bool, true, false, not, ◌&&◌, List}
use Rattle.std.specs.Option.{is_none}
use Rattle.ddr_timing.specs.declared.config.Config.{Config}
use Rattle.ddr_trace.specs.declared.command.Entry.{Entry}
use Rattle.ddr_trace.specs.declared.rule.Rule.{Rule}
use Rattle.ddr_trace.specs.declared.rule.Rule.TheVariants as rule
use Rattle.ddr_trace.specs.Legality.{lowest_rule}
use Rattle.ddr_trace.specs.Rules.{breaks_on_rank, breaks_row, breaks_state}

abbrev pub is_on_state : Rule → Bool
is_on_state rule.State = true
is_on_state rule.Row = true
is_on_state _ = false

-- the banks are in a state that the command may find: neither STATE nor ROW is broken
abbrev pub state_fits : Config → List Entry → Entry → Bool
state_fits c history e = not (breaks_state c history e) && not (breaks_row c.timing history e)

-- of the rules that the test finds broken, none is a distance
abbrev pub no_distance : (Rule → Bool) → Bool
no_distance broken = is_none (lowest_rule (λ r. not (is_on_state r) && broken r))

-- bank states aside, the entry breaks no rule on its rank
abbrev pub keeps_distances : Config → List Entry → Entry → Bool
keeps_distances c history e = no_distance (λ r. breaks_on_rank c r history e)
