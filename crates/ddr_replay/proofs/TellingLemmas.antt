-- What is told of a channel of the core at the end of a replay.
use Rattle.std.proofs.Common.{◌≡◌, ℕ, List, [], Option, Some, None, sym, ap, ◌∙◌}
use Rattle.std.specs.List.{slice_get}
use Rattle.std.specs.Option.{option_map, option_map_or}
use Rattle.std.proofs.lemmas.Option.{slice_get-map}
use Rattle.ddr_channel.specs.Kept as channel_kept
use Rattle.ddr_trace.specs.declared.command.Entry.{Entry}
use Rattle.ddr_world.specs.Kept.{Kept, KeptSide, side_of, state_of}
use Rattle.ddr_world.specs.State.{ChannelSide}

by_side : (text : List Entry → ℕ → List ℕ) (channel : channel_kept.Kept) (o : Option KeptSide) → Some channel ≡ option_map (λ (side : KeptSide). side.channel) o
    → option_map_or (λ (side : ChannelSide). text side.channel.trace side.channel.now) (option_map side_of o) [] ≡ text channel.trace channel.now
by_side text channel None is = absurd (let impossible = is in cc)
by_side text channel (Some side) is = let same : channel ≡ side.channel = cc in ap (λ (x : channel_kept.Kept). text x.trace x.now) (sym same)

pub text_there : (text : List Entry → ℕ → List ℕ) (k : Kept) (c : ℕ) (channel : channel_kept.Kept) → Some channel ≡ option_map (λ (side : KeptSide). side.channel) (slice_get k.channels c)
    → option_map_or (λ (side : ChannelSide). text side.channel.trace side.channel.now) (slice_get (state_of k).channels c) [] ≡ text channel.trace channel.now
text_there text k c channel is =
    ap (λ (o : Option ChannelSide). option_map_or (λ (side : ChannelSide). text side.channel.trace side.channel.now) o []) (slice_get-map side_of k.channels c) ∙ by_side text channel (slice_get k.channels c) is
