-- A judge of the configuration that a text is read as.
use Rattle.std.proofs.Common.{ℕ, List, Option, Some, None, inr}
use Rattle.std.specs.Prelude.{ℤ}
use Rattle.std.specs.Str.{IsUtf8}
use Rattle.toml.specs.Parse.{parse_document}
use Rattle.ddr_timing.specs.declared.config.Config.{Config}
use Rattle.ddr_timing.specs.Values.{IsReadAs}
use Rattle.ddr_judge_c.specs.declared.judge.Judge.{Judge}
use Rattle.ddr_judge_c.specs.Opens.{IsOpened, IsOpening}

pub opening : (text : List ℕ) (config : Config) (start : ℕ) (told : ℤ) (held : Option Judge) → IsUtf8 text × IsReadAs (parse_document text) config → IsOpened config start told held → IsOpening text start told held
opening text config start told None read is = inr (is, read.0)
opening text config start told (Some judge) read is = (is.0, (config, read.1, is.1))
