-- What becomes of the reply in front of a port.
use Rattle.std.specs.Prelude.{◌≡◌, ◌<◌, ◌≤◌, ℕ, List, ◌++◌, length, drop, Option, Some, None, Ok}
use Rattle.ddr_reorder.specs.Replies.{Answer, lent_service}
use Rattle.ddr_reorder.specs.declared.reply.Reply.{Reply}
use Rattle.ddr_world.specs.declared.event.Outcome.TheVariants.{Released}
use Rattle.ddr_world.specs.Answer.{IsAnswered}
use Rattle.ddr_world.specs.Events.{Release}
use Rattle.ddr_world.specs.Kept.{Kept, state_of}
use Rattle.ddr_reorder.specs.declared.reply.Service.{Service}
use Rattle.ddr_world.specs.Served.{TellsService, front_service}
use Rattle.ddr_c.specs.Stamps.{accepted_at}
use Rattle.ddr_c.specs.declared.host.Front.{Front}
use Rattle.ddr_c.specs.declared.host.Next.{Next}
use Rattle.ddr_c.specs.declared.host.Next.TheVariants as next

-- of a reply of a port that is lent
abbrev pub front_at : List ℕ → ℕ → Reply → Front
front_at stamps port r = record {
  number = r.number;
  echo = r.echo;
  length = length r.bytes.now;
  accepted = accepted_at stamps port r.number;
  service = lent_service r;
}

-- the reply without its bytes, when its request was accepted, and when it was served
pub record IsFrontOf (a : Answer) (its_service : Option Service) (stamp : ℕ) (before : Kept) (front : Front) : Type 0 where
  pub number : front.number ≡ a.number
  pub echo : front.echo ≡ a.echo
  pub length : front.length ≡ length a.bytes
  pub accepted : front.accepted ≡ stamp
  pub service : its_service ≡ Some front.service
  pub served : TellsService before a front.service

-- the buffer is too short for its bytes, and nothing was done
pub record IsTooLong (a : Answer) (port : ℕ) (stamps : List ℕ) (before after : Kept) (old new : List ℕ) (front : Front) : Type 0 where
  pub short : length old < length a.bytes
  pub told : IsFrontOf a (front_service (state_of before) port) (accepted_at stamps port a.number) before front
  pub world : after ≡ before
  pub buffer : new ≡ old

-- its bytes were copied to the front of the buffer, and it was given up
pub record IsGiven (a : Answer) (port : ℕ) (stamps : List ℕ) (before after : Kept) (old new : List ℕ) (front : Front) : Type 0 where
  pub room : length a.bytes ≤ length old
  pub told : IsFrontOf a (front_service (state_of before) port) (accepted_at stamps port a.number) before front
  pub answer : IsAnswered before after (Release port) (Ok (Released a.number))
  pub buffer : new ≡ a.bytes ++ drop (length a.bytes) old

-- what was done about it
abbrev pub IsNextOf : Option Answer → ℕ → List ℕ → Kept → Kept → List ℕ → List ℕ → Next → Type 0
IsNextOf None port stamps before after old new next.Nothing = (after ≡ before) × (new ≡ old)
IsNextOf (Some a) port stamps before after old new (next.TooShort front) = IsTooLong a port stamps before after old new front
IsNextOf (Some a) port stamps before after old new (next.Given front) = IsGiven a port stamps before after old new front
IsNextOf _ port stamps before after old new _ = ⊥

-- the buffer is too short for its bytes
pub record IsTooLongAt (a : Answer) (its_service : Option Service) (stamp : ℕ) (k : Kept) (old new : List ℕ) (front : Front) : Type 0 where
  pub short : length old < length a.bytes
  pub told : IsFrontOf a its_service stamp k front
  pub buffer : new ≡ old

-- its bytes were copied to the front of the buffer
pub record IsCopiedAt (a : Answer) (its_service : Option Service) (stamp : ℕ) (k : Kept) (old new : List ℕ) (front : Front) : Type 0 where
  pub room : length a.bytes ≤ length old
  pub told : IsFrontOf a its_service stamp k front
  pub buffer : new ≡ a.bytes ++ drop (length a.bytes) old

-- what was copied of a reply of the port that stays
abbrev pub IsSeen : Option Answer → Option Service → ℕ → List ℕ → Kept → List ℕ → List ℕ → Next → Type 0
IsSeen None service port stamps k old new next.Nothing = new ≡ old
IsSeen (Some a) service port stamps k old new (next.TooShort front) = IsTooLongAt a service (accepted_at stamps port a.number) k old new front
IsSeen (Some a) service port stamps k old new (next.Given front) = IsCopiedAt a service (accepted_at stamps port a.number) k old new front
IsSeen _ service port stamps k old new _ = ⊥
