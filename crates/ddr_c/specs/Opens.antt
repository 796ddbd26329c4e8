-- What comes of opening a core.
use Rattle.std.specs.Prelude.{◌≡◌, ◌≢◌, ◌⊎◌, ℕ, ℤ, Bool, List, [], replicate, Option, Some, None}
use Rattle.std.specs.Str.{IsUtf8}
use Rattle.toml.specs.Parse.{parse_document}
use Rattle.ddr_timing.specs.declared.config.Config.{Config}
use Rattle.ddr_timing.specs.Values.{IsReadAs}
use Rattle.ddr_loose.specs.Text.{IsMessage, IsRefusedText}
use Rattle.ddr_world.specs.Kept.{state_of}
use Rattle.ddr_world.specs.Record.{StandsFor}
use Rattle.ddr_world.specs.State.{opened}
use Rattle.ddr_c.specs.Traffic.{no_traffic}
use Rattle.ddr_c.specs.declared.host.Core.{Core}
use Rattle.ddr_c.specs.declared.codes.TheConstants as code

-- a core of this configuration before its first event, with or without the traces of its channels
pub record IsFresh (traces : Bool) (config : Config) (core : Core) : Type 0 where
  pub state : state_of core.world ≡ opened config 0 0
  pub stands : StandsFor core.world (record { config = config; keeps = traces; cycle = 0; number = 0 }) []
  pub drains : core.drains.items ≡ replicate config.geometry.channels 0
  pub traffic : core.traffic.items ≡ replicate config.limits.ports no_traffic

-- opened, or memory was refused
abbrev pub IsOpened : Bool → Config → ℤ → Option Core → Type 0
IsOpened traces config told None = told ≡ code.NO_MEMORY
IsOpened traces config told (Some core) = (told ≡ code.OK) × IsFresh traces config core

-- the core is that of the configuration which the text is read as; or there is none, since the text is refused, or it is UTF-8 and
-- memory was refused
abbrev pub IsOpening : Bool → List ℕ → ℤ → Option Core → Type 0
IsOpening traces text told None = ((told ≡ code.CONFIG) × IsRefusedText text) ⊎ ((told ≡ code.NO_MEMORY) × IsUtf8 text)
IsOpening traces text told (Some core) = (told ≡ code.OK) × ((config : Config) × IsReadAs (parse_document text) config × IsFresh traces config core)

-- a refusal's text is shown where the code is that of one, with its whole length, and else nothing is written
pub record IsShown (told : ℤ) (old new : List ℕ) (length_old length_new : ℕ) : Type 0 where
  pub shown : told ≡ code.CONFIG → IsMessage old new length_new
  pub untouched : told ≢ code.CONFIG → (new ≡ old) × (length_new ≡ length_old)
