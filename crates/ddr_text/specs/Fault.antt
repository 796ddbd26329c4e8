-- The faults of a run.
use Rattle.std.specs.Prelude.{ℕ, Bool, true, false}
use Rattle.ddr_timing.specs.declared.error.ConfigError.{ConfigError}
use Rattle.ddr_timing.specs.declared.error.ConfigError.TheVariants as refusals
use Rattle.ddr_trace_text.specs.declared.text.TraceError.{TraceError}
use Rattle.ddr_trace_text.specs.declared.text.TraceError.TheVariants as traces
use Rattle.ddr_text.specs.declared.fault.Fault.{Fault}
use Rattle.ddr_text.specs.declared.fault.Fault.TheVariants as faults

-- the status that a run ends with: 3 where the device, the memory, the clock, a port or the system's threads are at fault, or where a
-- run goes on no more, 2 where the input is
abbrev pub status_of : Fault → ℕ
status_of faults.Read = 3
status_of faults.Write = 3
status_of faults.OutOfMemory = 3
status_of (faults.ReplayStuck cycle) = 3
status_of (faults.RunStuck cycle) = 3
status_of faults.ClockSpent = 3
status_of faults.PortBroken = 3
status_of faults.ThreadsRefused = 3
status_of _ = 2

-- a fault that comes before anything is written. That is another thing than a fault of the input: a reader that fails comes
-- before too, and a script that needs too many rounds may be told behind replies.
abbrev pub is_before_output : Fault → Bool
is_before_output faults.ConfigSyntax = true
is_before_output (faults.ConfigMissing key) = true
is_before_output faults.ConfigUnknownKey = true
is_before_output (faults.ConfigRange key) = true
is_before_output (faults.ConfigNotPowerOfTwo key) = true
is_before_output (faults.ConfigRelation n) = true
is_before_output faults.InputTooLong = true
is_before_output faults.InputNotUtf8 = true
is_before_output faults.InputHasNoMark = true
is_before_output (faults.MapLine line) = true
is_before_output (faults.ScriptLine line) = true
is_before_output (faults.RequestLine line cause) = true
is_before_output (faults.ReplayLine line cause) = true
is_before_output (faults.ReplayRange line) = true
is_before_output faults.ReplayLimit = true
is_before_output (faults.ReplayStuck cycle) = true
is_before_output (faults.RunStuck cycle) = true
is_before_output (faults.CaptureLine line cause) = true
is_before_output (faults.CaptureOrder line) = true
is_before_output faults.TraceHeader = true
is_before_output (faults.TraceRow line) = true
is_before_output (faults.TraceOrder line) = true
is_before_output faults.TraceTruncated = true
is_before_output faults.TraceTooLong = true
is_before_output faults.TraceNoSuch = true
is_before_output faults.DrawTooLong = true
is_before_output faults.Read = true
is_before_output _ = false

-- the fault that refuses a configuration's text
abbrev pub fault_of : ConfigError → Fault
fault_of refusals.Syntax = faults.ConfigSyntax
fault_of (refusals.Missing key) = faults.ConfigMissing key
fault_of refusals.UnknownKey = faults.ConfigUnknownKey
fault_of (refusals.Range key) = faults.ConfigRange key
fault_of (refusals.NotPowerOfTwo key) = faults.ConfigNotPowerOfTwo key
fault_of (refusals.Relation n) = faults.ConfigRelation n
fault_of refusals.OutOfMemory = faults.OutOfMemory

-- the fault that refuses a trace's text, or ends its writing
abbrev pub trace_fault_of : TraceError → Fault
trace_fault_of traces.Read = faults.Read
trace_fault_of traces.Write = faults.Write
trace_fault_of traces.Header = faults.TraceHeader
trace_fault_of (traces.Row line) = faults.TraceRow line
trace_fault_of (traces.Order line) = faults.TraceOrder line
trace_fault_of traces.Truncated = faults.TraceTruncated
trace_fault_of traces.TooLong = faults.TraceTooLong
trace_fault_of traces.OutOfMemory = faults.OutOfMemory
