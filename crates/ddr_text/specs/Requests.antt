-- The requests of a script that no port takes, whatever else it was asked for.
use Rattle.std.specs.Prelude.{◌≡◌, ℕ, ◌+◌, ◌%◌, not, nat_le, ◌==◌, if◌then◌else◌, List, [], ◌∷◌, Option, Some, None, is_none, option_and_then, option_map, Result, Ok, Err}
use Rattle.std.specs.Option.{option_or}
use Rattle.ddr_timing.specs.declared.config.Config.{Config}
use Rattle.ddr_timing.specs.declared.geometry.Geometry.{Geometry}
use Rattle.ddr_timing.specs.declared.units.TheConstants.{LINE_BYTES}
use Rattle.ddr_address_map.specs.Map.{place_of}
use Rattle.ddr_ports.specs.Asked.{first_address, len_of}
use Rattle.ddr_text.specs.declared.fault.Fault.{Fault}
use Rattle.ddr_text.specs.declared.fault.Fault.TheVariants.{OutOfMemory, RequestLine}
use Rattle.ddr_text.specs.declared.fault.RequestError.{RequestError}
use Rattle.ddr_text.specs.declared.fault.RequestError.TheVariants.{OutOfRange, EmptyLength, CrossesLine}
use Rattle.ddr_text.specs.Script.{Instruction, Ask, Rounds, instruction_of, is_skipped}

-- why so many bytes from an address on are not read or written, if there is a cause: the first that applies
abbrev pub cause_at : Geometry → ℕ → ℕ → Option RequestError
cause_at geometry addr len =
    if is_none (place_of geometry addr) then Some OutOfRange
    else if len == 0 then Some EmptyLength
    else if not (nat_le (addr % LINE_BYTES + len) LINE_BYTES) then Some CrossesLine
    else None

-- why no port takes what an instruction asks for
abbrev pub cause_of : Geometry → Instruction → Option RequestError
cause_of geometry (Ask port asked) = cause_at geometry (first_address asked) (len_of asked)
cause_of geometry (Rounds count) = None

-- the fault of the line of this number, if it is a request that no port takes
abbrev pub fault_at : ℕ → Geometry → ℕ → List ℕ → Option Fault
fault_at ports geometry line text =
    if is_skipped text then None
    else option_and_then (λ instruction. option_map (RequestLine line) (cause_of geometry instruction)) (instruction_of ports text)

-- the first such fault of the lines behind so many
abbrev pub first_fault : Config → ℕ → List (List ℕ) → Option Fault
first_fault config count [] = None
first_fault config count (text ∷ more) = option_or (fault_at config.limits.ports config.geometry (count + 1) text) (first_fault config (count + 1) more)

-- what was answered is whether there is a fault, unless memory ran out
abbrev pub IsTaken : Result (Unit {0}) Fault → Option Fault → Type 0
IsTaken (Ok _) said = said ≡ None
IsTaken (Err OutOfMemory) said = Unit {0}
IsTaken (Err (RequestLine line cause)) said = said ≡ Some (RequestLine line cause)
IsTaken (Err _) said = ⊥
