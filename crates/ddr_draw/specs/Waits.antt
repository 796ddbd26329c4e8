-- What a command is told to have waited for is what allowed it last.
use Rattle.std.specs.Prelude.{◌≡◌, ℕ, ◌-◌, ◌<◌, ◌≤◌, ◌^◌, Bool, true, false, List, Option, Some, None, IfSome}
use Rattle.ddr_timing.specs.declared.config.Config.{Config}
use Rattle.ddr_trace.specs.declared.command.Entry.{Entry}
use Rattle.ddr_trace.specs.declared.rule.Rule.{Rule}
use Rattle.ddr_trace.specs.declared.rule.Rule.TheVariants as rule
use Rattle.ddr_trace.specs.Commands.{entry}
use Rattle.ddr_trace.specs.Rules.{breaks_faw, breaks_rp, breaks_rp_ref, breaks_rtrs, breaks_spacing, spacing_of}
use Rattle.ddr_draw.specs.declared.held.Held.{Held}
use Rattle.ddr_draw.specs.Held.{allowed, held_by, recent}

-- The entry breaks a rule on distances behind a history: one of those on two commands, FAW, RTRS, or RP or RP_REF, which count from the
-- start of an auto-precharge too. The other rules are on no distance that a command waits for.
abbrev pub breaks_distance : Config → Rule → List Entry → Entry → Bool
breaks_distance c rule.Faw history e = breaks_faw c.timing history e
breaks_distance c rule.Rtrs history e = breaks_rtrs c.timing history e
breaks_distance c rule.Rp history e = breaks_rp c.timing history e
breaks_distance c rule.RpRef history e = breaks_rp_ref c history e
breaks_distance c r history e = breaks_spacing (spacing_of c.timing r) history e

-- what is told, if anything, allows the command in the cycle
abbrev pub IsAllowed : Option Held → ℕ → Type 0
IsAllowed None cycle = Unit {0}
IsAllowed (Some h) cycle = allowed h ≤ cycle

-- in each cycle in which what is told allows the entry's command no rule on distances is broken, behind the commands that are looked at
abbrev pub AllowsLast : Config → List Entry → Entry → Type 0
AllowsLast c history e =
    (cycle : ℕ) → cycle < 2 ^ 64 - 1 → IsAllowed (held_by c history e) cycle
    → (r : Rule) → breaks_distance c r (recent history) (entry cycle e.command) ≡ false

-- in each cycle before the rule that is told is broken
abbrev pub ForbidsBefore : Config → List Entry → Entry → Type 0
ForbidsBefore c history e =
    IfSome (held_by c history e) (λ h. (cycle : ℕ) → cycle < allowed h → breaks_distance c h.rule (recent history) (entry cycle e.command) ≡ true)
