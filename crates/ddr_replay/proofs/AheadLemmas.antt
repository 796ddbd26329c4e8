-- What becomes of all requests that are left, from step to step.
use Rattle.std.proofs.Common.{◌≡◌, ℕ, true, false, Option, None, Some, IfSome, Result, Ok, Err, refl, sym, ap, subst, ◌∙◌}
use Rattle.ddr_timing.specs.declared.config.Config.{Config}
use Rattle.ddr_text.specs.declared.fault.Fault.{Fault}
use Rattle.ddr_text.specs.declared.fault.Fault.TheVariants as faults
use Rattle.ddr_stream.specs.Waiting.{All, IsSaidFault, IsSame, IsStreamFault}
use Rattle.ddr_replay.specs.Ahead.{Carries, IsCutOff, IsEnded, IsReplayFault, IsStopped, IsTurnFault, LeadsAlike, is_of_run}
use Rattle.ddr_replay.specs.View.{IsRunFault, Replay}

abbrev Known : Type 0
Known = Option (Result All Fault)

-- nothing becomes of them
pub carries_same : (P : All → All → Type 0) (a b : Known) → IsSame a b → ((all : All) → P all all) → Carries P a b
carries_same P None b same each = tt
carries_same P (Some (Err fault)) b same each = same
carries_same P (Some (Ok all)) b same each = (all, same, each all)

pub same_itself : (a : Known) → IsSame a a
same_itself None = tt
same_itself (Some said) = refl

-- nothing becomes of what was left
pub carries_read : (P : All → All → Type 0) (a b d : Known) → Carries P a b → IsSame b d → Carries P a d
carries_read P None b d so same = tt
carries_read P (Some (Err fault)) b d so same = subst (λ (o : Known). IsSame o d) so same
carries_read P (Some (Ok all)) b d so same = (so.0, subst (λ (o : Known). IsSame o d) so.1 same, so.2)

-- one step behind another
pub carries_on : (P Q R : All → All → Type 0) (a b d : Known) → Carries P a b → Carries Q b d → ((x y z : All) → P x y → Q y z → R x z) → Carries R a d
carries_on P Q R None b d first second both = tt
carries_on P Q R (Some (Err fault)) b d first second both = subst (λ (o : Known). Carries Q o d) first second
carries_on P Q R (Some (Ok all)) b d first second both =
    let next = first.0 in
    let last : Carries Q (Some (Ok next)) d = subst (λ (o : Known). Carries Q o d) first.1 second in
    (last.0, last.1, both all next last.0 first.2 last.2)

-- what is said of them says this too
pub carries_with : (P Q : All → All → Type 0) (a b : Known) → Carries P a b → ((x y : All) → a ≡ Some (Ok x) → b ≡ Some (Ok y) → P x y → Q x y) → Carries Q a b
carries_with P Q None b so says = tt
carries_with P Q (Some (Err fault)) b so says = so
carries_with P Q (Some (Ok all)) b so says = (so.0, so.1, says all so.0 refl so.1 so.2)

-- these are left in the end
pub carries_ended : (P : All → All → Type 0) (a b : Known) (last : All) → Carries P a b → b ≡ Some (Ok last) → IfSome a (λ said. (all : All) × (said ≡ Ok all) × P all last)
carries_ended P None b last so is = tt
carries_ended P (Some (Err fault)) b last so is = absurd (let impossible : ◌≡◌ {A = Known} (Some (Err fault)) (Some (Ok last)) = sym so ∙ is in cc)
carries_ended P (Some (Ok all)) b last so is =
    let both : ◌≡◌ {A = Known} (Some (Ok so.0)) (Some (Ok last)) = sym so.1 ∙ is in
    let same : so.0 ≡ last = cc in
    (all, refl, subst (P all) same so.2)

-- a fault that is found later was there before
carries_refusal : (P : All → All → Type 0) (a b : Known) (e : Fault) → Carries P a b → IfSome b (λ said. said ≡ Err e) → IfSome a (λ said. said ≡ Err e)
carries_refusal P None b e so found = tt
carries_refusal P (Some (Err fault)) b e so found = subst (λ (o : Known). IfSome o (λ said. said ≡ Err e)) so found
carries_refusal P (Some (Ok all)) b e so found =
    let here : ◌≡◌ {A = Result All Fault} (Ok so.0) (Err e) = subst (λ (o : Known). IfSome o (λ said. said ≡ Err e)) so.1 found in
    absurd (let impossible = here in cc)

pub carries_fault : (P : All → All → Type 0) (a b : Known) (fault : Fault) → Carries P a b → IsSaidFault fault b → IsSaidFault fault a
carries_fault P a b (faults.ReplayLine line cause) so is = carries_refusal P a b (faults.ReplayLine line cause) so is
carries_fault P a b (faults.ReplayRange line) so is = carries_refusal P a b (faults.ReplayRange line) so is
carries_fault P a b faults.InputTooLong so is = carries_refusal P a b faults.InputTooLong so is
carries_fault P a b faults.Read so is = tt
carries_fault P a b faults.OutOfMemory so is = tt
carries_fault P a b _ so is = absurd is

-- what is known in the end was known before
pub carries_known : (P : All → All → Type 0) (a b : Known) → Carries P a b → IfSome b (λ said. (all : All) × (said ≡ Ok all)) → IfSome a (λ said. (all : All) × (next : All) × (said ≡ Ok all) × P all next)
carries_known P None b so known = tt
carries_known P (Some (Err fault)) b so known =
    let here : (all : All) × ◌≡◌ {A = Result All Fault} (Err fault) (Ok all) = subst (λ (o : Known). IfSome o (λ said. (all : All) × (said ≡ Ok all))) so known in
    absurd (let impossible = here.1 in cc)
carries_known P (Some (Ok all)) b so known = (all, so.0, refl, so.2)

-- ---- how rounds end

module _ (config : Config) where
  -- a fault of the lines stops them
  cut_alike : (left behind : ℕ) (old mid : Replay) (fault : Fault) (x y z : All) → LeadsAlike config left behind old mid x y → IsCutOff config behind mid fault y → IsCutOff config left old fault x
  cut_alike left behind old mid fault x y z alike cut = subst (IsRunFault config fault) (sym alike.run) cut

  -- and one that comes later than some rounds
  pub stopped_on : (left behind : ℕ) (old mid : Replay) (fault : Fault) (a b d : Known) → Carries (λ all next. LeadsAlike config left behind old mid all next) a b → IsStopped config behind mid fault b d → IsStopped config left old fault a d
  stopped_on left behind old mid (faults.ReplayLine line cause) a b d led is = carries_fault (λ all next. LeadsAlike config left behind old mid all next) a b (faults.ReplayLine line cause) led is
  stopped_on left behind old mid (faults.ReplayRange line) a b d led is = carries_fault (λ all next. LeadsAlike config left behind old mid all next) a b (faults.ReplayRange line) led is
  stopped_on left behind old mid faults.InputTooLong a b d led is = carries_fault (λ all next. LeadsAlike config left behind old mid all next) a b faults.InputTooLong led is
  stopped_on left behind old mid faults.Read a b d led is = tt
  stopped_on left behind old mid faults.Write a b d led is = tt
  stopped_on left behind old mid faults.OutOfMemory a b d led is = tt
  stopped_on left behind old mid fault a b d led is =
      carries_on (λ all next. LeadsAlike config left behind old mid all next) (λ all next. IsCutOff config behind mid fault all) (λ all next. IsCutOff config left old fault all) a b d led is
      (λ x y z alike cut. cut_alike left behind old mid fault x y z alike cut)

-- no line that is left is at fault, so that of the run is told
pub ended_run : (config : Config) (left : ℕ) (old : Replay) (fault : Fault) (a b : Known) → IsStopped config left old fault a b → IfSome b (λ said. (all : All) × (said ≡ Ok all)) → IsEnded config left old fault a
ended_run config left old (faults.ReplayLine line cause) a b is known = is
ended_run config left old (faults.ReplayRange line) a b is known = is
ended_run config left old faults.InputTooLong a b is known = is
ended_run config left old faults.Read a b is known = tt
ended_run config left old faults.Write a b is known = tt
ended_run config left old faults.OutOfMemory a b is known = tt
ended_run config left old fault a b is known = before a (carries_known (λ all next. IsCutOff config left old fault all) a b is known)
  where
    before : (o : Known) → IfSome o (λ said. (all : All) × (next : All) × (said ≡ Ok all) × IsCutOff config left old fault all) → IfSome o (λ said. (all : All) × (said ≡ Ok all) × IsCutOff config left old fault all)
    before None so = tt
    before (Some said) so = (so.0, so.2, so.3)

-- another fault is told as it is
pub ended_other : (config : Config) (left : ℕ) (old : Replay) (fault : Fault) (a b : Known) → is_of_run fault ≡ false → IsReplayFault fault → IsStopped config left old fault a b → IsEnded config left old fault a
ended_other config left old (faults.ReplayLine line cause) a b other kind is = is
ended_other config left old (faults.ReplayRange line) a b other kind is = is
ended_other config left old faults.InputTooLong a b other kind is = is
ended_other config left old faults.Read a b other kind is = tt
ended_other config left old faults.Write a b other kind is = tt
ended_other config left old faults.OutOfMemory a b other kind is = tt
ended_other config left old faults.ReplayLimit a b other kind is = absurd (let impossible = other in cc)
ended_other config left old (faults.ReplayStuck cycle) a b other kind is = absurd (let impossible = other in cc)
ended_other config left old faults.ClockSpent a b other kind is = absurd (let impossible = other in cc)
ended_other config left old _ a b other kind is = absurd kind

-- a line that is left is at fault, and is told before the run's own
said_first : (config : Config) (left : ℕ) (old : Replay) (first : Fault) (a : Known) → IsSaidFault first a → IsEnded config left old first a
said_first config left old (faults.ReplayLine line cause) a is = is
said_first config left old (faults.ReplayRange line) a is = is
said_first config left old faults.InputTooLong a is = is
said_first config left old faults.Read a is = tt
said_first config left old faults.OutOfMemory a is = tt
said_first config left old _ a is = absurd is

pub ended_first : (config : Config) (left : ℕ) (old : Replay) (fault first : Fault) (a b : Known) → is_of_run fault ≡ true → IsStopped config left old fault a b → IsSaidFault first b → IsEnded config left old first a
ended_first config left old faults.ReplayLimit first a b own is said = said_first config left old first a (carries_fault (λ all next. IsCutOff config left old faults.ReplayLimit all) a b first is said)
ended_first config left old (faults.ReplayStuck cycle) first a b own is said = said_first config left old first a (carries_fault (λ all next. IsCutOff config left old (faults.ReplayStuck cycle) all) a b first is said)
ended_first config left old faults.ClockSpent first a b own is said = said_first config left old first a (carries_fault (λ all next. IsCutOff config left old faults.ClockSpent all) a b first is said)
ended_first config left old _ first a b own is said = absurd (let impossible = own in cc)

-- ---- faults of writing

pub turn_is_replay : (fault : Fault) → IsTurnFault fault → IsReplayFault fault
turn_is_replay (faults.ReplayLine line cause) kind = tt
turn_is_replay (faults.ReplayRange line) kind = tt
turn_is_replay faults.InputTooLong kind = tt
turn_is_replay faults.Read kind = tt
turn_is_replay faults.OutOfMemory kind = tt
turn_is_replay faults.ReplayLimit kind = tt
turn_is_replay faults.ClockSpent kind = tt
turn_is_replay _ kind = absurd kind

-- no turn ends by one, and no line is at fault so
pub turn_writes_nothing : (fault : Fault) → IsTurnFault fault → fault ≡ faults.Write → ⊥
turn_writes_nothing fault kind write = subst IsTurnFault write kind

pub line_writes_nothing : (fault : Fault) → IsStreamFault fault → fault ≡ faults.Write → ⊥
line_writes_nothing fault kind write = subst IsStreamFault write kind

pub run_writes_nothing : (fault : Fault) → is_of_run fault ≡ true → fault ≡ faults.Write → ⊥
run_writes_nothing fault own write = absurd (let impossible : false ≡ true = sym (ap is_of_run write) ∙ own in cc)

-- a result that is this fault is no other
pub same_fault : (r : Result (Unit {0}) Fault) (fault other : Fault) → r ≡ Err fault → r ≡ Err other → fault ≡ other
same_fault r fault other one two =
    let both : ◌≡◌ {A = Result (Unit {0}) Fault} (Err fault) (Err other) = sym one ∙ two in
    cc
