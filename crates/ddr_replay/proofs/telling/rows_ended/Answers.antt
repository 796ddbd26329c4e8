-- Nothing stands behind the requests.
use Rattle.std.proofs.Common.{◌≡◌, Bool, false, cond, List, ◌++◌, ℕ, Result, Ok, Err, append-nil, ap, sym, ◌∙◌}
use Rattle.ddr_text.specs.declared.fault.Fault.{Fault}
use Rattle.ddr_text.specs.declared.fault.Fault.TheVariants as faults
use Rattle.ddr_timing.specs.declared.config.Config.{Config}
use Rattle.ddr_world.specs.State.{State}
use Rattle.ddr_ledger.specs.Numbers.{is_any_spent}
use Rattle.ddr_replay.specs.Replays.{listed}
use Rattle.ddr_replay.specs.Runs.{Run}
use Rattle.ddr_ledger.specs.ServedText.{served_text}
use Rattle.ddr_replay.proofs.telling.rows_ended.Goals as goal

abbrev by_spent : Run → Bool → Result (List ℕ) Fault
by_spent run b = cond b (Err faults.ClockSpent) (Ok (served_text run.ledger.served))

spent_of : (config : Config) (run : Run) (s : State) (b : Bool) → run.state ≡ s → is_any_spent s config.geometry.channels ≡ b → listed config run ≡ by_spent run b
spent_of config run s b same is = ap (by_spent run) (ap (λ (t : State). is_any_spent t config.geometry.channels) same ∙ is)

pub returns : goal.returns
unfolding served_text
returns c = λ run same.
    spent_of c.args.config.now run _ false same (sym c.is_any_spent.ensures ∙ c.if-is_any_spent.false)
    ∙ ap (λ (t : List ℕ). Ok t) (sym (ap (λ (t : List ℕ). served_text run.ledger.served ++ t) c.new.ensures.items ∙ append-nil (served_text run.ledger.served)))
