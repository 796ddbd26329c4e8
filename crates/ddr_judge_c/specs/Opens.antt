-- What comes of opening a judge.
use Rattle.std.specs.Prelude.{◌≡◌, ◌≢◌, ◌⊎◌, ℕ, ℤ, List, [], Option, Some, None}
use Rattle.std.specs.Str.{IsUtf8}
use Rattle.toml.specs.Parse.{parse_document}
use Rattle.ddr_timing.specs.declared.config.Config.{Config}
use Rattle.ddr_timing.specs.Values.{IsReadAs}
use Rattle.ddr_loose.specs.Text.{IsMessage, IsRefusedText}
use Rattle.ddr_watch.specs.Kept.{HasCounted}
use Rattle.ddr_judge_c.specs.declared.judge.Judge.{Judge}
use Rattle.ddr_judge_c.specs.declared.codes.TheConstants as code

-- a judge of this configuration before its first command, from this cycle on
pub record IsFresh (config : Config) (start : ℕ) (judge : Judge) : Type 0 where
  pub config_is : judge.watch.config ≡ config
  pub start_is : judge.watch.start ≡ start
  pub counted : HasCounted judge.watch config start []
  pub none : judge.last ≡ None

-- opened, or memory was refused
abbrev pub IsOpened : Config → ℕ → ℤ → Option Judge → Type 0
IsOpened config start told None = told ≡ code.NO_MEMORY
IsOpened config start told (Some judge) = (told ≡ code.OK) × IsFresh config start judge

-- the judge is that of the configuration which the text is read as; or there is none, since the text is refused, or it is UTF-8 and
-- memory was refused
abbrev pub IsOpening : List ℕ → ℕ → ℤ → Option Judge → Type 0
IsOpening text start told None = ((told ≡ code.CONFIG) × IsRefusedText text) ⊎ ((told ≡ code.NO_MEMORY) × IsUtf8 text)
IsOpening text start told (Some judge) = (told ≡ code.OK) × ((config : Config) × IsReadAs (parse_document text) config × IsFresh config start judge)

-- a refusal's text is shown where the code is that of one, with its whole length, and else nothing is written
pub record IsShown (told : ℤ) (old new : List ℕ) (length_old length_new : ℕ) : Type 0 where
  pub shown : told ≡ code.CONFIG → IsMessage old new length_new
  pub untouched : told ≢ code.CONFIG → (new ≡ old) × (length_new ≡ length_old)
