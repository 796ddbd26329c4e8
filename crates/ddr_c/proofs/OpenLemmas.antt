-- A core of the configuration that a text is read as.
use Rattle.std.proofs.Common.{ℕ, Bool, List, Option, Some, None, inr}
use Rattle.std.specs.Prelude.{ℤ}
use Rattle.std.specs.Str.{IsUtf8}
use Rattle.toml.specs.Parse.{parse_document}
use Rattle.ddr_timing.specs.declared.config.Config.{Config}
use Rattle.ddr_timing.specs.Values.{IsReadAs}
use Rattle.ddr_c.specs.declared.host.Core.{Core}
use Rattle.ddr_c.specs.Opens.{IsOpened, IsOpening}

pub opening : (traces : Bool) (text : List ℕ) (config : Config) (told : ℤ) (held : Option Core) → IsUtf8 text × IsReadAs (parse_document text) config → IsOpened traces config told held → IsOpening traces text told held
opening traces text config told None read is = inr (is, read.0)
opening traces text config told (Some core) read is = (is.0, (config, read.1, is.1))
