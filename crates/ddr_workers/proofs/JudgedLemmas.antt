-- A channel and its judge over the calls of the channel, and what the judge's verdict says of its trace.
use Rattle.std.proofs.Common.{◌≡◌, ℕ, ◌+◌, ◌<◌, ◌≤◌, Bool, List, [], ◌∷◌, ◌++◌, length, Option, Some, None, Result, Ok, Err, refl, sym, ap, subst, ◌∙◌, arith}
use Rattle.std.specs.Prelude.{max}
use Rattle.std.specs.Option.{option_map}
use Rattle.std.specs.Result.{IsErrAnd, IsErrOf}
use Rattle.std.proofs.lemmas.List.{length-map, length_push, map-append}
use Rattle.ddr_timing.specs.declared.config.Config.{Config}
use Rattle.ddr_trace.specs.declared.command.Command.{Command}
use Rattle.ddr_trace.specs.declared.command.Entry.{Entry}
use Rattle.ddr_trace.specs.Legality.{IsFirstFault, IsLegal, IsRefreshed}
use Rattle.ddr_channel.specs.declared.channel.CycleError.{CycleError}
use Rattle.ddr_channel.specs.declared.issued.Issued.{Issued}
use Rattle.ddr_channel.specs.declared.issued.Served.{Served}
use Rattle.ddr_channel.specs.Choice.{choice_of}
use Rattle.ddr_channel.specs.Cycle.{at_choice}
use Rattle.ddr_channel.specs.Kept.{Kept}
use Rattle.ddr_channel.specs.State.{State}
use Rattle.ddr_channel.specs.Told.{column_request, issued_in, issued_with, served_as, with_issued}
use Rattle.ddr_arbiter.specs.Laws.{command_of}
use Rattle.ddr_judge.specs.declared.fault.Fault.{Fault}
use Rattle.ddr_judge.specs.declared.judge.Judge.{Judge}
use Rattle.ddr_judge.specs.Judged.{HasJudged, channels_of, commands_of, end_of}
use Rattle.ddr_judge.specs.Records.{Record, entries_of, of_channel}
use Rattle.ddr_judge.specs.Verdict.{IsVerdict}
use Rattle.ddr_judge.proofs.JudgedLemmas.{commands_within}
use Rattle.ddr_past.specs.declared.past.Past.{Past}
use Rattle.ddr_world.specs.declared.item.Item.{Item}
use Rattle.ddr_world.specs.declared.item.Item.TheVariants.{Request, End}
use Rattle.ddr_world.specs.Items.{Takes}
use Rattle.ddr_workers.specs.declared.judged.JudgedChannel.TheInside.{Inside}
use Rattle.ddr_workers.specs.declared.judged.TheConstants.{CHANNEL}
use Rattle.ddr_workers.specs.Judged.{IsJudged, IsWhole, told}

abbrev record_of : Entry → Record
record_of e = record { channel = CHANNEL; entry = e; line = e.cycle }

-- all that the judge was told came on the one channel
channel_told : (entries : List Entry) → of_channel CHANNEL (told entries) ≡ told entries
channel_told [] = refl
channel_told (e ∷ entries) = ap (λ (rs : List Record). record { channel = CHANNEL; entry = e; line = e.cycle } ∷ rs) (channel_told entries)

entries_told : (entries : List Entry) → entries_of (told entries) ≡ entries
entries_told [] = refl
entries_told (e ∷ entries) = ap (λ (es : List Entry). e ∷ es) (entries_told entries)

entries_are : (entries : List Entry) → entries_of (of_channel CHANNEL (told entries)) ≡ entries
entries_are entries = ap entries_of (channel_told entries) ∙ entries_told entries

-- a call that issues nothing
pub whole_kept : (a : Inside) (k : Kept) → IsWhole a → k.config ≡ a.channel.config → k.start ≡ a.channel.start → k.trace ≡ a.channel.trace → a.channel.now ≤ k.now → IsWhole (record a { channel = k })
whole_kept a k whole config start trace later = record {
  first = whole.first ∙ sym start;
  commands = whole.commands ∙ sym trace;
  judged =
      subst (λ (c : Config). HasJudged a.judge c k.start (told k.trace)) (sym config)
      (subst (λ s. HasJudged a.judge a.channel.config s (told k.trace)) (sym start)
      (subst (λ (es : List Entry). HasJudged a.judge a.channel.config a.channel.start (told es)) (sym trace) whole.judged));
  behind = omega (arith, whole.behind, later);
  few = omega (arith, whole.few, later, ap (λ (es : List Entry). length es) trace);
}

-- a cycle that issues a command, of which the judge is told
pub whole_told : (a : Inside) (k : Kept) (judge : Judge) (commands : Past Entry) (e : Entry) (line : ℕ) → IsWhole a → k.config ≡ a.channel.config → k.start ≡ a.channel.start
    → k.trace ≡ a.channel.trace ++ e ∷ [] → k.now ≡ a.channel.now + 1 → line ≡ e.cycle → e.cycle ≡ a.channel.now → commands.items ≡ a.commands.items ++ e ∷ [] → end_of judge ≡ max (end_of a.judge) (e.cycle + 1)
    → ((c : Config) (start : ℕ) (records : List Record) → HasJudged a.judge c start records → HasJudged judge c start (records ++ record { channel = CHANNEL; entry = e; line = line } ∷ []))
    → IsWhole (record a { channel = k; judge = judge; commands = commands })
whole_told a k judge commands e line whole config start trace clock at_cycle now behind end hears =
    let grown : told (a.channel.trace ++ e ∷ []) ≡ told a.channel.trace ++ record { channel = CHANNEL; entry = e; line = line } ∷ [] =
    map-append record_of a.channel.trace (e ∷ []) ∙ ap (λ n. told a.channel.trace ++ record { channel = CHANNEL; entry = e; line = n } ∷ []) (sym at_cycle) in
    record {
      first = whole.first ∙ sym start;
      commands = behind ∙ ap (λ (es : List Entry). es ++ e ∷ []) whole.commands ∙ sym trace;
      judged =
          subst (λ (c : Config). HasJudged judge c k.start (told k.trace)) (sym config)
          (subst (λ s. HasJudged judge a.channel.config s (told k.trace)) (sym start)
          (subst (λ (es : List Entry). HasJudged judge a.channel.config a.channel.start (told es)) (sym trace)
          (subst (λ (rs : List Record). HasJudged judge a.channel.config a.channel.start rs) (sym grown) (hears a.channel.config a.channel.start (told a.channel.trace) whole.judged))));
      behind = max_below (end_of a.judge) (e.cycle + 1) (end_of judge) k.now end (omega (arith, whole.behind, clock)) (omega (arith, now, clock));
      few = omega (arith, whole.few, clock, ap (λ (es : List Entry). length es) trace, length_push a.channel.trace e);
    }
  where
    max_below : (x y z n : ℕ) → z ≡ max x y → x ≤ n → y ≤ n → z ≤ n
    max_below x y z n is left right = omega (arith, is, left, right)

pub whole_taken : (a : Inside) (k : Kept) (item : Item) (noted noted' : List Bool) → IsWhole a → Takes item a.channel k noted noted' → IsWhole (record a { channel = k })
whole_taken a k (Request r) noted noted' whole takes =
    let made = takes.0.state in
    whole_kept a k whole takes.0.config (ap (λ (s : State). s.start) made) (ap (λ (s : State). s.trace) made) (omega (arith, ap (λ (s : State). s.now) made))
whole_taken a k (End p) noted noted' whole takes = subst (λ (x : Kept). IsWhole (record a { channel = x })) (sym takes.0) whole

-- the judge was told of no more commands than there were cycles
pub heard_few : (a : Inside) → IsWhole a → commands_of a.judge CHANNEL ≤ a.channel.now
heard_few a whole =
    let there : CHANNEL < channels_of a.judge = omega (arith, whole.judged.channels, a.channel.config.geometry.channels_range) in
    omega (arith, commands_within a.judge a.channel.config a.channel.start (told a.channel.trace) CHANNEL whole.judged there, length-map a.channel.trace record_of, whole.few)

pub none_issued : (o : Option Issued) (trace : List Entry) → ((i : Issued) → o ≡ Some i → ⊥) → with_issued o trace ≡ trace
none_issued None trace none = refl
none_issued (Some i) trace none = absurd (none i refl)

-- a refusal that is handed on is the same
pub refused_alike : {T U : Type 0} (e x : CycleError) (r : Result T CycleError) → IsErrAnd r (λ cause. cause ≡ e) → IsErrOf r x → IsErrOf {T = U} {E = CycleError} (Err e) x
refused_alike e x (Ok v) is of = absurd is
refused_alike e x (Err cause) is of = let same : cause ≡ x = cc in ap (λ y. Err y) (sym is ∙ same)

-- what is issued is issued in the cycle of the clock

cycle_of : (n : ℕ) (served : Option Served) (o : Option Command) (i : Issued) → option_map (issued_with n served) o ≡ Some i → i.entry.cycle ≡ n
cycle_of n served (Some command) i is =
    let same : issued_with n served command ≡ i = cc in
    ap (λ (x : Issued). x.entry.cycle) (sym same)
cycle_of n served None i is = absurd (let impossible = is in cc)

pub issued_now : (s : State) (i : Issued) → issued_in s ≡ Some i → i.entry.cycle ≡ s.now
issued_now s i is =
    let before = at_choice s in
    let chosen = choice_of before in
    cycle_of before.now (option_map (served_as before.config before.now) (column_request before.pending chosen)) (command_of before.pending chosen) i is

-- what the verdict says

pub judged_none : (c : Config) (start end : ℕ) (entries : List Entry) → IsVerdict c start end (of_channel CHANNEL (told entries)) None → IsJudged c (record { start = start; end = end; entries = entries }) None
judged_none c start end entries verdict = record {
  legal = λ none. subst (λ (es : List Entry). IsLegal c start end es × IsRefreshed c start end es) (entries_are entries) verdict;
  first = tt;
}

pub judged_fault : (c : Config) (start end : ℕ) (entries : List Entry) (f : Fault) → IsVerdict c start end (of_channel CHANNEL (told entries)) (Some f)
    → IsJudged c (record { start = start; end = end; entries = entries }) (Some (record { place = f.place; rule = f.rule }))
judged_fault c start end entries f verdict = record {
  legal = λ none. absurd (let impossible = none in cc);
  first = subst (λ (es : List Entry). IsFirstFault c start end es f.place f.rule) (entries_are entries) verdict.0;
}
