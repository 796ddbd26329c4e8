-- What is kept of a capture.
use Rattle.std.proofs.Common.{◌≡◌, ◌≢◌, ℕ, zero, suc, ◌+◌, ◌<◌, ◌≤◌, ◌==◌, Bool, true, false, List, [], ◌∷◌, ◌++◌, length, get_or, set, Option, Some, None, ◌⊎◌, inl, inr, refl, sym, ap, subst, ◌∙◌, arith}
use Rattle.std.specs.Prelude.{map}
use Rattle.std.specs.List.{slice_get, slice_index_or}
use Rattle.std.proofs.lemmas.Bool.{cases_lt, eqb-true}
use Rattle.std.proofs.lemmas.Bool.Decides.{nat_tests}
use Rattle.std.proofs.lemmas.List.{get_or-map, get_or-set_other, get_or-set_same, length-set, length_push, map-set}
use Rattle.std.proofs.lemmas.Option.{get_or_from_slice_get, slice_get-get_or, slice_get_within}
use Rattle.ddr_timing.specs.declared.config.Config.{Config}
use Rattle.ddr_judge.specs.declared.judge.Judge.{Judge}
use Rattle.ddr_judge.specs.declared.channel_judge.ChannelJudge.{ChannelJudge}
use Rattle.ddr_judge.specs.Heard.{HasHeard}
use Rattle.ddr_judge.specs.Judged.{HasJudged, channels_of, commands_of}
use Rattle.ddr_judge.specs.Records.{Record, of_channel}
use Rattle.ddr_judge.proofs.RecordLemmas.{channel_length, channel_other, channel_same}
use Rattle.ddr_judge.proofs.TraceLemmas.{kept_at, last_at}

no_item : {X : Type 0} (xs : List X) (place : ℕ) → place < length xs → slice_get xs place ≡ None → ⊥
no_item [] place before is = omega arith
no_item (x ∷ xs) zero before is = cc
no_item (x ∷ xs) (suc place) before is = no_item xs place (omega arith) is

-- each channel's judge heard the channel's records
abbrev pub HeardEach : List ChannelJudge → Config → ℕ → List Record → Type 0
HeardEach judges c start records =
    (channel : ℕ) (l : ChannelJudge) → slice_get judges channel ≡ Some l → HasHeard l c start (of_channel channel records)

-- one judge hears a record of its channel, and the others don't
pub heard_more : (judges : List ChannelJudge) (c : Config) (start : ℕ) (records : List Record) (x : Record) (l : ChannelJudge) → x.channel < length judges → HeardEach judges c start records
    → HasHeard l c start (of_channel x.channel records ++ x ∷ []) → HeardEach (set judges x.channel l) c start (records ++ x ∷ [])
heard_more judges c start records x l there heard longer channel m is = by_channel (channel == x.channel) refl
  where
    within : channel < length judges
    within = omega (arith, slice_get_within (set judges x.channel l) channel m is, length-set judges x.channel l)

    by_channel : (w : Bool) → (channel == x.channel) ≡ w → HasHeard m c start (of_channel channel (records ++ x ∷ []))
    by_channel true on =
        let same : channel ≡ x.channel = eqb-true _ _ on in
        let now : l ≡ m =
        sym (get_or-set_same judges x.channel l l there)
        ∙ ap (λ n. get_or (set judges x.channel l) n l) (sym same)
        ∙ get_or_from_slice_get (set judges x.channel l) channel m l is in
        subst (λ k. HasHeard k c start (of_channel channel (records ++ x ∷ []))) now
        (subst (λ rs. HasHeard l c start rs) (sym (channel_same records x channel (sym same)))
        (subst (λ n. HasHeard l c start (of_channel n records ++ x ∷ [])) (sym same) longer))
    by_channel false off =
        let apart : channel ≢ x.channel = grind (arith, nat_tests) in
        let before : slice_get judges channel ≡ Some m =
        slice_get-get_or judges channel l within
        ∙ ap (λ y. Some y) (sym (get_or-set_other judges x.channel channel l l apart) ∙ get_or_from_slice_get (set judges x.channel l) channel m l is) in
        subst (λ rs. HasHeard m c start rs) (sym (channel_other records x channel (λ same. apart (sym same)))) (heard channel m before)

-- one judge more, before the first command
pub heard_push : (judges : List ChannelJudge) (c : Config) (start : ℕ) (l : ChannelJudge) → HeardEach judges c start [] → HasHeard l c start [] → HeardEach (judges ++ l ∷ []) c start []
heard_push judges c start l heard new channel m is = by_place (cases_lt channel (length judges))
  where
    same_judge : (a b : ChannelJudge) → Some a ≡ Some b → a ≡ b
    same_judge a b e = cc

    by_place : (channel < length judges) ⊎ (length judges ≤ channel) → HasHeard m c start []
    by_place (inl before) = heard channel m (sym (kept_at judges l channel before) ∙ is)
    by_place (inr above) =
        let last : channel ≡ length judges = omega (arith, slice_get_within (judges ++ l ∷ []) channel m is, length_push judges l) in
        subst (λ k. HasHeard k c start []) (same_judge l m (sym (last_at judges l) ∙ ap (slice_get (judges ++ l ∷ [])) (sym last) ∙ is)) new

-- one judge counts a command more, and the others don't
abbrev counts : List ChannelJudge → List ℕ
counts judges = map (λ (l : ChannelJudge). l.count) judges

pub count_same : (judges : List ChannelJudge) (channel : ℕ) (l m : ChannelJudge) → channel < length judges → l ≡ get_or judges channel l → m.count ≡ l.count + 1 → slice_index_or (counts (set judges channel m)) channel 0 ≡ slice_index_or (counts judges) channel 0 + 1
count_same judges channel l m there is more =
    let now : slice_index_or (counts (set judges channel m)) channel 0 ≡ m.count =
    get_or-map (λ (k : ChannelJudge). k.count) (set judges channel m) channel m 0 (omega (arith, there, length-set judges channel m))
    ∙ ap (λ (k : ChannelJudge). k.count) (get_or-set_same judges channel m m there) in
    let before : slice_index_or (counts judges) channel 0 ≡ l.count =
    get_or-map (λ (k : ChannelJudge). k.count) judges channel l 0 there ∙ ap (λ (k : ChannelJudge). k.count) (sym is) in
    now ∙ more ∙ ap (λ n. n + 1) (sym before)

pub count_other : (judges : List ChannelJudge) (channel other : ℕ) (m : ChannelJudge) → other ≢ channel → slice_index_or (counts (set judges channel m)) other 0 ≡ slice_index_or (counts judges) other 0
count_other judges channel other m apart =
    ap (λ ns. slice_index_or ns other 0) (map-set (λ (k : ChannelJudge). k.count) judges channel m)
    ∙ get_or-set_other (counts judges) channel other m.count 0 apart

-- before the first command none counted one
pub none_counted : (judges : List ChannelJudge) (c : Config) (start : ℕ) → HeardEach judges c start [] → (channel : ℕ) → channel < length judges → slice_index_or (counts judges) channel 0 ≡ 0
none_counted judges c start heard channel there = by_judge (slice_get judges channel) refl
  where
    by_judge : (o : Option ChannelJudge) → slice_get judges channel ≡ o → slice_index_or (counts judges) channel 0 ≡ 0
    by_judge (Some l) is =
        get_or-map (λ (k : ChannelJudge). k.count) judges channel l 0 there
        ∙ ap (λ (k : ChannelJudge). k.count) (get_or_from_slice_get judges channel l l is)
        ∙ (heard channel l is).count
    by_judge None none = absurd (no_item judges channel there none)

-- the commands of a channel are counted
pub counted : (j : Judge) (c : Config) (start : ℕ) (records : List Record) (channel : ℕ) → HasJudged j c start records → channel < channels_of j → commands_of j channel ≡ length (of_channel channel records)
counted j c start records channel judged there = by_judge (slice_get j.judges.items channel) refl
  where
    by_judge : (o : Option ChannelJudge) → slice_get j.judges.items channel ≡ o → commands_of j channel ≡ length (of_channel channel records)
    by_judge (Some l) is =
        get_or-map (λ (m : ChannelJudge). m.count) j.judges.items channel l 0 there
        ∙ ap (λ (m : ChannelJudge). m.count) (get_or_from_slice_get j.judges.items channel l l is)
        ∙ (judged.each channel l is).count
    by_judge None none = absurd (no_item j.judges.items channel there none)

-- and a channel has no more than were judged
pub commands_within : (j : Judge) (c : Config) (start : ℕ) (records : List Record) (channel : ℕ) → HasJudged j c start records → channel < channels_of j → commands_of j channel ≤ length records
commands_within j c start records channel judged there =
    omega (arith, counted j c start records channel judged there, channel_length channel records)
