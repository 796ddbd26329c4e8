-- How far a refresh moves the cycle by which a request is served.
use Rattle.std.proofs.Common.{◌≡◌, ℕ, ◌<◌, true, List, sym, subst}
use Rattle.std.proofs.lemmas.Bool.{and_parts, ltb-true}
use Rattle.ddr_timing.specs.declared.config.Config.{Config}
use Rattle.ddr_trace.specs.Rules.{is_bank_in}
use Rattle.ddr_address_map.specs.Requests.{Request}
use Rattle.ddr_arbiter.specs.declared.choice.Choice.TheVariants as choice
use Rattle.ddr_channel.specs.Choice.{bus_of, choice_of}
use Rattle.ddr_channel.specs.Cycle.{at_choice}
use Rattle.ddr_channel.specs.History.{Call, run}
use Rattle.ddr_channel.specs.Promise.{AreCalls}
use Rattle.ddr_channel.specs.Sound.{IsServed}
use Rattle.ddr_channel.specs.State.{State}
use Rattle.ddr_channel.proofs.HistoryLemmas.{kept_run}
use Rattle.ddr_deadline.specs.Step.{ComesBehindRefresh}
use Rattle.ddr_deadline.proofs.AsideLemmas.{other_keeps}
use Rattle.ddr_deadline.proofs.LegalLemmas.{inside}
use Rattle.ddr_deadline.proofs.PromptLemmas.{prompt_run}
use Rattle.ddr_deadline.proofs.RefreshedLemmas.{refresh_close}
use Rattle.ddr_deadline.proofs.wait.refreshes_move_requests.Goals as goal

refreshed_run : (config : Config) (start : ℕ) (calls : List Call) → AreCalls config calls → (r : Request) → IsServed config r.place → choice_of (at_choice (run config start calls).state) ≡ choice.Refresh r.place.rank →
    ComesBehindRefresh config (run config start calls).state r
refreshed_run config start calls may r served is =
    let s = (run config start calls).state in
    let kept = kept_run config start calls may in
    let here : IsServed s.config r.place = subst (λ (c : Config). IsServed c r.place) (sym kept.config_is) served in
    subst (λ c. ComesBehindRefresh c s r) kept.config_is (refresh_close s r kept.sound here (prompt_run config start calls may r.place.rank (there s here (inside (bus_of s) r.place here).bank)) is)
  where
    there : (s : State) → IsServed s.config r.place → is_bank_in s.config.geometry r.place.rank r.place.group r.place.bank ≡ true → r.place.rank < s.config.geometry.ranks
    there s here bank = ltb-true r.place.rank s.config.geometry.ranks (and_parts _ _ (and_parts _ _ bank).0).0

pub returns : goal.returns
returns c = record { own = refreshed_run; other = other_keeps }
