-- What the choice of a cycle looks at.
use Rattle.std.specs.Prelude.{Bool, List}
use Rattle.ddr_hazards.specs.declared.waiting.Waiting.{Waiting}
use Rattle.ddr_hazards.specs.PendingList.{PendingList}
use Rattle.ddr_legality.specs.Bus.{Bus}
use Rattle.ddr_legality.specs.Kept.{Kept}
use Rattle.ddr_refresh.specs.Refreshes.{Refreshes}
use Rattle.ddr_arbiter.specs.declared.policy.Policy.{Policy}

pub record Situation : Type 0 where
  -- the pending requests, the oldest first
  pub waiting : List Waiting
  -- the commands that were issued, and this cycle
  pub bus : Bus
  -- of each rank, from rank 0 on, the refreshes that fell due and that were issued
  pub refreshes : List Refreshes
  pub policy : Policy
  -- writes are being drained
  pub drain : Bool
  -- one more request may be in flight or done
  pub room : Bool

-- the situation that a scheduler finds in what it is given
abbrev pub situation : PendingList → Kept → List Refreshes → Policy → Bool → Bool → Situation
situation pending legality debts policy drain room = record {
  waiting = pending.waiting;
  bus = legality.bus;
  refreshes = debts;
  policy = policy;
  drain = drain;
  room = room;
}
