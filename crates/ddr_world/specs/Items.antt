-- What a channel does with an item that it takes, beside the Ends that it noted.
use Rattle.std.specs.Prelude.{◌≡◌, ◌<◌, Bool, true, false, List, [], ◌∷◌, ◌++◌, length, slice_set}
use Rattle.ddr_address_map.specs.Requests.{Request}
use Rattle.ddr_channel.specs.History.{Call, Admit}
use Rattle.ddr_channel.specs.Kept.{Kept, state_of}
use Rattle.ddr_channel.specs.Promise.{StandsFor}
use Rattle.ddr_channel.specs.Sound.{IsServed}
use Rattle.ddr_channel.specs.State.{State, after_admit, is_queue_full}
use Rattle.ddr_world.specs.declared.item.Item.{Item}
use Rattle.ddr_world.specs.declared.item.Item.TheVariants as item

-- of a channel's state: a request is admitted
abbrev pub channel_after : Item → State → State
channel_after (item.Request r) s = after_admit r s
channel_after (item.End p) s = s

-- of the ports whose Ends were taken: an End is noted
abbrev pub noted_after : Item → List Bool → List Bool
noted_after (item.Request r) noted = noted
noted_after (item.End p) noted = slice_set noted p true

-- the request goes to a place that the channel serves, and the queue of its kind has a free place; the End is of a port that
-- may be noted
abbrev pub MayTake : Item → Kept → List Bool → Type 0
MayTake (item.Request r) k noted = IsServed k.config r.place × (is_queue_full (state_of k) r.echo.kind ≡ false)
MayTake (item.End p) k noted = p < length noted

-- the channel admitted the request: whatever calls it stood for, this one comes behind
pub record Admits (r : Request) (before after : Kept) : Type 0 where
  pub state : state_of after ≡ after_admit r (state_of before)
  pub config : after.config ≡ before.config
  pub keeps : after.keeps ≡ before.keeps
  pub stands : (calls : List Call) → StandsFor before calls → StandsFor after (calls ++ Admit r ∷ [])

-- one of both changes, as said above, and the other stays as it was
abbrev pub Takes : Item → Kept → Kept → List Bool → List Bool → Type 0
Takes (item.Request r) before after noted noted' = Admits r before after × (noted' ≡ noted)
Takes (item.End p) before after noted noted' = (after ≡ before) × (noted' ≡ slice_set noted p true)
