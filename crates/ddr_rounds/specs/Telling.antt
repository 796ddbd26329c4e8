-- What a watcher is told of a call: a list, in order, that the state before the call and its answer say.
use Rattle.std.specs.Prelude.{◌≡◌, ℕ, ◌==◌, suc, zero, if◌then◌else◌, List, [], ◌∷◌, ◌++◌, fold, slice_get, Option, Some, None, Result, Ok, Err}
use Rattle.std.specs.Option.{option_map_or}
use Rattle.ddr_trace.specs.declared.command.Entry.{Entry}
use Rattle.ddr_channel.specs.declared.issued.Issued.{Issued}
use Rattle.ddr_channel.specs.Told.{issued_in}
use Rattle.ddr_world.specs.declared.event.Outcome.{Outcome}
use Rattle.ddr_world.specs.declared.event.Outcome.TheVariants as outcome
use Rattle.ddr_world.specs.declared.event.Refusal.{Refusal}
use Rattle.ddr_world.specs.Events.{Take}
use Rattle.ddr_world.specs.Promise.{trace_at}
use Rattle.ddr_world.specs.State.{State}
use Rattle.ddr_rounds.specs.declared.told.Told.{Told}
use Rattle.ddr_rounds.specs.declared.told.Told.TheVariants as tell
use Rattle.ddr_rounds.specs.Rounds.{channels_served, until_refused}

-- of a channel's cycle the command that it issues, with the request that it serves
abbrev pub issue_told : ℕ → Option Issued → List Told
issue_told c None = []
issue_told c (Some i) = tell.Issued c i ∷ []

-- of a channel's part of a round, what its cycle issues behind what it takes
abbrev pub channel_told : ℕ → State → List Told
channel_told c s = option_map_or (λ side. issue_told c (issued_in side.channel)) (slice_get (until_refused (Take c) s).channels c) []

-- of the parts of the first so many channels, in order
abbrev pub channels_told : ℕ → State → List Told
channels_told zero s = []
channels_told (suc c) s = channels_told c s ++ option_map_or (channel_told c) (channels_served c s) []

-- of a request, its number or why it was refused
abbrev pub submit_told : ℕ → Result Outcome Refusal → List Told
submit_told p (Ok (outcome.Accepted number)) = tell.Accepted p number ∷ []
submit_told p (Ok _) = []
submit_told p (Err cause) = tell.Refused p cause ∷ []

-- of a release, the number of the reply that was given up, if there was one
abbrev pub release_told : ℕ → Result Outcome Refusal → List Told
release_told p (Ok (outcome.Released number)) = tell.Released p number ∷ []
release_told p _ = []

-- of what was told, the commands of a channel
abbrev pub entry_told : ℕ → Told → List Entry
entry_told c (tell.Issued d i) = if d == c then i.entry ∷ [] else []
entry_told c _ = []

abbrev pub entries_told : ℕ → List Told → List Entry
entries_told c [] = []
entries_told c (x ∷ more) = entry_told c x ++ entries_told c more

-- A watcher was told all that came of the way from one state to another: of each channel the commands that it was told are, in
-- order, what the channel's trace has more.
pub record IsHeard {W : Type 0} (hears : W → Told → W) (before after : W) (s next : State) : Type 0 where
  pub told : List Told
  pub heard : after ≡ fold hears before told
  pub traces : (c : ℕ) → trace_at next c ≡ trace_at s c ++ entries_told c told
