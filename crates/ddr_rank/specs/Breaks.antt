-- What a rank tells of each rule, by the command that would come next.
use Rattle.std.specs.Prelude.{ℕ, ◌+◌, Bool, false, not, ◌||◌, ◌==◌, if◌then◌else◌, length, Option, None, is_none, slice_index_or}
use Rattle.std.specs.List.{list_any}
use Rattle.ddr_timing.specs.declared.units.TheConstants.{BURST_CLOCKS, GROUP_BANKS}
use Rattle.ddr_trace.specs.declared.command.Command.{Command}
use Rattle.ddr_trace.specs.declared.command.Command.TheVariants.{Act, Rd, Wr, RdAuto, WrAuto, Pre, PreAll, Refresh}
use Rattle.ddr_trace.specs.declared.rule.Rule.{Rule}
use Rattle.ddr_trace.specs.declared.rule.Rule.TheVariants as rule
use Rattle.ddr_trace.specs.Banks.{is_active, is_auto_within, is_row, open_row, ready_row}
use Rattle.ddr_rank.specs.declared.last.LastKind.{LastKind}
use Rattle.ddr_rank.specs.declared.last.LastKind.TheVariants.{Activate, Read, Write}
use Rattle.ddr_rank.specs.Latest.{is_within, latest_among}
use Rattle.ddr_rank.specs.Readiness.{Readiness, bank_at, fourth_activate, group_at, idle, last_of}

-- the last ACT of the group's other banks
abbrev pub other_banks : Readiness → ℕ → ℕ → Option ℕ
other_banks r group bank = latest_among (λ b. if b == bank then None else (bank_at r group b).last.activate) GROUP_BANKS

-- the last command of the kind in the other groups
abbrev pub other_groups : Readiness → LastKind → ℕ → Option ℕ
other_groups r kind group = latest_among (λ g. if g == group then None else last_of kind (group_at r g)) r.config.geometry.groups

-- the last command of the kind in any group
abbrev pub all_groups : Readiness → LastKind → Option ℕ
all_groups r kind = latest_among (λ g. last_of kind (group_at r g)) r.config.geometry.groups

-- the last precharge of any bank
abbrev pub any_precharge : Readiness → Option ℕ
any_precharge r = latest_among (λ i. (slice_index_or r.banks i idle).precharge) (length r.banks)

-- some bank has an open row in the cycle
abbrev pub any_active : Readiness → ℕ → Bool
any_active r cycle = list_any (λ bank. is_active r.config.timing cycle bank.opened) r.banks

-- RP isn't over since the start of some bank's auto-precharge
abbrev pub any_auto_within : Readiness → ℕ → Bool
any_auto_within r cycle = list_any (λ bank. is_auto_within r.config.timing r.config.timing.rp cycle bank.opened) r.banks

abbrev pub activate_breaks : Readiness → Rule → ℕ → ℕ → ℕ → Bool
activate_breaks r rule.State cycle group bank = is_active r.config.timing cycle (bank_at r group bank).opened
activate_breaks r rule.Rc cycle group bank = is_within r.config.timing.rc cycle (bank_at r group bank).last.activate
activate_breaks r rule.Rp cycle group bank =
    is_within r.config.timing.rp cycle (bank_at r group bank).precharge
    || is_auto_within r.config.timing r.config.timing.rp cycle (bank_at r group bank).opened
activate_breaks r rule.RrdL cycle group bank = is_within r.config.timing.rrd_l cycle (other_banks r group bank)
activate_breaks r rule.RrdS cycle group bank = is_within r.config.timing.rrd_s cycle (other_groups r Activate group)
activate_breaks r rule.Faw cycle group bank = is_within r.config.timing.faw cycle (fourth_activate r)
activate_breaks r rule.Rfc cycle group bank = is_within r.config.timing.rfc cycle r.refresh
activate_breaks r _ cycle group bank = false

abbrev pub read_breaks : Readiness → Rule → ℕ → ℕ → ℕ → ℕ → Bool
read_breaks r rule.State cycle group bank row = is_none (ready_row (bank_at r group bank).opened)
read_breaks r rule.Row cycle group bank row = not (is_row (open_row r.config.timing cycle (bank_at r group bank).opened) row)
read_breaks r rule.Rcd cycle group bank row = is_within r.config.timing.rcd cycle (bank_at r group bank).last.activate
read_breaks r rule.CcdL cycle group bank row = is_within r.config.timing.ccd_l cycle (group_at r group).read
read_breaks r rule.CcdS cycle group bank row = is_within r.config.timing.ccd_s cycle (other_groups r Read group)
read_breaks r rule.WtrL cycle group bank row = is_within (r.config.timing.cwl + BURST_CLOCKS + r.config.timing.wtr_l) cycle (group_at r group).write
read_breaks r rule.WtrS cycle group bank row = is_within (r.config.timing.cwl + BURST_CLOCKS + r.config.timing.wtr_s) cycle (other_groups r Write group)
read_breaks r rule.Rfc cycle group bank row = is_within r.config.timing.rfc cycle r.refresh
read_breaks r _ cycle group bank row = false

abbrev pub write_breaks : Readiness → Rule → ℕ → ℕ → ℕ → ℕ → Bool
write_breaks r rule.State cycle group bank row = is_none (ready_row (bank_at r group bank).opened)
write_breaks r rule.Row cycle group bank row = not (is_row (open_row r.config.timing cycle (bank_at r group bank).opened) row)
write_breaks r rule.Rcd cycle group bank row = is_within r.config.timing.rcd cycle (bank_at r group bank).last.activate
write_breaks r rule.CcdL cycle group bank row = is_within r.config.timing.ccd_l cycle (group_at r group).write
write_breaks r rule.CcdS cycle group bank row = is_within r.config.timing.ccd_s cycle (other_groups r Write group)
write_breaks r rule.Rtw cycle group bank row = is_within r.config.timing.rtw cycle (all_groups r Read)
write_breaks r rule.Rfc cycle group bank row = is_within r.config.timing.rfc cycle r.refresh
write_breaks r _ cycle group bank row = false

abbrev pub precharge_breaks : Readiness → Rule → ℕ → ℕ → ℕ → Bool
precharge_breaks r rule.Ras cycle group bank = is_within r.config.timing.ras cycle (bank_at r group bank).last.activate
precharge_breaks r rule.Rtp cycle group bank = is_within r.config.timing.rtp cycle (bank_at r group bank).last.read
precharge_breaks r rule.Wr cycle group bank = is_within (r.config.timing.cwl + BURST_CLOCKS + r.config.timing.wr) cycle (bank_at r group bank).last.write
precharge_breaks r rule.Rfc cycle group bank = is_within r.config.timing.rfc cycle r.refresh
precharge_breaks r _ cycle group bank = false

abbrev pub precharge_all_breaks : Readiness → Rule → ℕ → Bool
precharge_all_breaks r rule.Ras cycle = is_within r.config.timing.ras cycle (all_groups r Activate)
precharge_all_breaks r rule.Rtp cycle = is_within r.config.timing.rtp cycle (all_groups r Read)
precharge_all_breaks r rule.Wr cycle = is_within (r.config.timing.cwl + BURST_CLOCKS + r.config.timing.wr) cycle (all_groups r Write)
precharge_all_breaks r rule.Rfc cycle = is_within r.config.timing.rfc cycle r.refresh
precharge_all_breaks r _ cycle = false

abbrev pub refresh_breaks : Readiness → Rule → ℕ → Bool
refresh_breaks r rule.State cycle = any_active r cycle
refresh_breaks r rule.RpRef cycle = is_within r.config.timing.rp cycle (any_precharge r) || any_auto_within r cycle
refresh_breaks r rule.Rfc cycle = is_within r.config.timing.rfc cycle r.refresh
refresh_breaks r _ cycle = false

-- the command would break the rule in this cycle, by what is kept
abbrev pub breaks_now : Readiness → Rule → ℕ → Command → Bool
breaks_now r q cycle (Act rank group bank row) = activate_breaks r q cycle group bank
breaks_now r q cycle (Rd rank group bank row line) = read_breaks r q cycle group bank row
breaks_now r q cycle (Wr rank group bank row line) = write_breaks r q cycle group bank row
breaks_now r q cycle (RdAuto rank group bank row line) = read_breaks r q cycle group bank row
breaks_now r q cycle (WrAuto rank group bank row line) = write_breaks r q cycle group bank row
breaks_now r q cycle (Pre rank group bank) = precharge_breaks r q cycle group bank
breaks_now r q cycle (PreAll rank) = precharge_all_breaks r q cycle
breaks_now r q cycle (Refresh rank) = refresh_breaks r q cycle
