-- What was counted of each channel's commands are its statistics, as its trace grows by what a watcher is told.
use Rattle.std.proofs.Common.{◌≡◌, ℕ, zero, suc, ◌+◌, ◌<◌, Bool, true, false, if◌then◌else◌, List, [], ◌∷◌, ◌++◌, All, Option, Some, None, IsTrue, length, get_or, replicate, refl, sym, ap, subst, ◌∙◌, arith, ◌==◌, ◌≢◌}
use Rattle.std.specs.List.{fold, slice_get, slice_set}
use Rattle.std.specs.Option.{option_map, option_map_or}
use Rattle.std.proofs.lemmas.Bool.{false≢true}
use Rattle.std.proofs.lemmas.Bool.Decides.{nat_tests}
use Rattle.std.proofs.lemmas.List.{append_assoc, append-nil, length-append, length-set}
use Rattle.std.proofs.lemmas.List.Sums.{fold-append}
use Rattle.std.proofs.lemmas.Option.{slice_get_within, slice_get-map}
use Rattle.circular_buffer.proofs.Places.{slice_get-set_other, slice_get-set_same}
use Rattle.ddr_timing.specs.declared.config.Config.{Config}
use Rattle.ddr_timing.specs.declared.geometry.Geometry.{Geometry}
use Rattle.ddr_timing.specs.declared.units.TheConstants.{CLOCK_STOP}
use Rattle.ddr_trace.specs.declared.command.Entry.{Entry}
use Rattle.ddr_trace.specs.Rules.{is_in}
use Rattle.ddr_statistics.specs.Stands.{noted}
use Rattle.ddr_statistics.specs.Tally.{Tally}
use Rattle.ddr_trace.proofs.PlaceLemmas.{bank_in}
use Rattle.ddr_statistics.proofs.PlaceLemmas.{group_fits_in, rank_in}
use Rattle.ddr_statistics.proofs.StandLemmas.{stands_noted}
use Rattle.ddr_channel.proofs.ListLemmas.{All-at}
use Rattle.ddr_channel.specs.Kept as channel_kept
use Rattle.ddr_rounds.specs.declared.told.Told.{Told}
use Rattle.ddr_rounds.specs.declared.told.Told.TheVariants as tell
use Rattle.ddr_rounds.specs.Telling.{IsHeard, entries_told, entry_told}
use Rattle.ddr_world.specs.Kept.{Kept, KeptSide, side_of, state_of}
use Rattle.ddr_world.specs.Promise.{trace_at}
use Rattle.ddr_world.specs.State.{ChannelSide, State, opened, opened_channel}
use Rattle.ddr_counting.specs.Noting.{AreNew, AreNoted, IsNotedOf, all_counted, counted, heard}

-- what holds of the elements of a longer list holds of those of its front, and of its last one

front : {X : Type 0} (P : X → Type 0) (xs ys : List X) → All P (xs ++ ys) → (k : ℕ) (d : X) → k < length xs → P (get_or xs k d)
front P [] ys all k d within = absurd (omega (arith, within))
front P (x ∷ xs) ys all zero d within = all 0 d (omega arith)
front P (x ∷ xs) ys all (suc k) d within = front P xs ys (λ j e below. all (suc j) e (omega (arith, below))) k d (omega (arith, within))

last : {X : Type 0} (P : X → Type 0) (xs : List X) (x : X) → All P (xs ++ x ∷ []) → P x
last P [] x all = all 0 x (omega arith)
last P (y ∷ xs) x all = last P xs x (λ j e below. all (suc j) e (omega (arith, below)))

-- one command more of a channel

counted_one : (config : Config) (h : List Entry) (e : Entry) (t : Tally) → IsNotedOf config h t → IsNotedOf config (h ++ e ∷ []) (counted e t)
counted_one config h e t k = by_test (is_in t.geometry e.command) refl
  where
    by_test : (b : Bool) → is_in t.geometry e.command ≡ b → IsNotedOf config (h ++ e ∷ []) (if b then noted e t else t)
    by_test true is = record {
      geometry = k.geometry;
      timing = k.timing;
      start = k.start;
      stands = λ placed few.
          let shorter : length h + 1 < CLOCK_STOP = omega (arith, few, length-append h (e ∷ [])) in
          stands_noted t h e (k.stands (front (λ x. IsTrue (is_in config.geometry x.command)) h (e ∷ []) placed) (omega (arith, shorter))) shorter
          (rank_in t.geometry e.command is) (group_fits_in t.geometry e.command is) (bank_in t.geometry e.command is);
    }
    by_test false is = record {
      geometry = k.geometry;
      timing = k.timing;
      start = k.start;
      stands = λ placed few. absurd (false≢true (sym is ∙ ap (λ (g : Geometry). is_in g e.command) k.geometry ∙ last (λ x. IsTrue (is_in config.geometry x.command)) h e placed));
    }

counted_more : (config : Config) (h es : List Entry) (t : Tally) → IsNotedOf config h t → IsNotedOf config (h ++ es) (all_counted t es)
counted_more config h [] t k = subst (λ (entries : List Entry). IsNotedOf config entries t) (sym (append-nil h)) k
counted_more config h (e ∷ es) t k =
    subst (λ (entries : List Entry). IsNotedOf config entries (all_counted (counted e t) es)) (append_assoc h (e ∷ []) es)
    (counted_more config (h ++ e ∷ []) es (counted e t) (counted_one config h e t k))

-- where the statistics of a channel come from, behind some that was told
pub record ComeFrom (all : List Tally) (c : ℕ) (entries : List Entry) (t : Tally) : Type 0 where
  pub first : Tally
  pub there : slice_get all c ≡ Some first
  pub is : t ≡ all_counted first entries

come_set : (all : List Tally) (c d : ℕ) (e : Entry) (u t : Tally) → slice_get all d ≡ Some u → slice_get (slice_set all d (counted e u)) c ≡ Some t → ComeFrom all c (if d == c then e ∷ [] else []) t
come_set all c d e u t there at = by_test (d == c) refl
  where
    by_test : (b : Bool) → (d == c) ≡ b → ComeFrom all c (if b then e ∷ [] else []) t
    by_test true is =
        let same : d ≡ c = grind (arith, nat_tests) in
        let new = slice_get-set_same all d (counted e u) (slice_get_within all d u there) in
        let told : Some (counted e u) ≡ Some t = sym new ∙ ap (slice_get (slice_set all d (counted e u))) same ∙ at in
        let value : counted e u ≡ t = cc in
        record { first = u; there = ap (slice_get all) (sym same) ∙ there; is = sym value }
    by_test false is =
        let other : c ≢ d = grind (arith, nat_tests) in
        record { first = t; there = sym (slice_get-set_other all d c (counted e u) other) ∙ at; is = refl }

come_noted : (all : List Tally) (c d : ℕ) (e : Entry) (o : Option Tally) (t : Tally) → slice_get all d ≡ o → slice_get (option_map_or (λ u. slice_set all d (counted e u)) o all) c ≡ Some t
    → ComeFrom all c (if d == c then e ∷ [] else []) t
come_noted all c d e (Some u) t there at = come_set all c d e u t there at
come_noted all c d e None t there at = by_test (d == c) refl
  where
    by_test : (b : Bool) → (d == c) ≡ b → ComeFrom all c (if b then e ∷ [] else []) t
    by_test true is =
        let same : d ≡ c = grind (arith, nat_tests) in
        absurd (let impossible : None ≡ Some t = sym there ∙ ap (slice_get all) same ∙ at in cc)
    by_test false is = record { first = t; there = at; is = refl }

come_one : (x : Told) (all : List Tally) (c : ℕ) (t : Tally) → slice_get (heard all x) c ≡ Some t → ComeFrom all c (entry_told c x) t
come_one (tell.Issued d i) all c t at = come_noted all c d i.entry (slice_get all d) t refl at
come_one (tell.Accepted p number) all c t at = record { first = t; there = at; is = refl }
come_one (tell.Refused p cause) all c t at = record { first = t; there = at; is = refl }
come_one (tell.Released p number) all c t at = record { first = t; there = at; is = refl }
come_one (tell.Passed rounds) all c t at = record { first = t; there = at; is = refl }

pub come_all : (told : List Told) (all : List Tally) (c : ℕ) (t : Tally) → slice_get (fold heard all told) c ≡ Some t → ComeFrom all c (entries_told c told) t
come_all [] all c t at = record { first = t; there = at; is = refl }
come_all (x ∷ more) all c t at =
    let later = come_all more (heard all x) c t at in
    let one = come_one x all c later.first later.there in
    record {
      first = one.first;
      there = one.there;
      is = later.is ∙ ap (λ (u : Tally). all_counted u (entries_told c more)) one.is ∙ sym (fold-append (λ y e. counted e y) one.first (entry_told c x) (entries_told c more));
    }

-- as many as before

many_noted : (all : List Tally) (c : ℕ) (e : Entry) (o : Option Tally) → length (option_map_or (λ u. slice_set all c (counted e u)) o all) ≡ length all
many_noted all c e (Some u) = length-set all c (counted e u)
many_noted all c e None = refl

many_one : (x : Told) (all : List Tally) → length (heard all x) ≡ length all
many_one (tell.Issued d i) all = many_noted all d i.entry (slice_get all d)
many_one (tell.Accepted p number) all = refl
many_one (tell.Refused p cause) all = refl
many_one (tell.Released p number) all = refl
many_one (tell.Passed rounds) all = refl

pub many_all : (told : List Told) (all : List Tally) → length (fold heard all told) ≡ length all
many_all [] all = refl
many_all (x ∷ more) all = many_all more (heard all x) ∙ many_one x all

-- a watcher that was told all goes on to be those of each channel
pub noted_heard : (config : Config) (s next : State) (before after : List Tally) → AreNoted config s before → IsHeard heard before after s next → AreNoted config next after
noted_heard config s next before after k h = record {
  many = ap length h.heard ∙ many_all h.told before ∙ k.many;
  each = λ c t at.
      let come = come_all h.told before c t (ap (λ (all : List Tally). slice_get all c) (sym h.heard) ∙ at) in
      subst (λ (entries : List Entry). IsNotedOf config entries t) (sym (h.traces c))
      (subst (IsNotedOf config (trace_at s c ++ entries_told c h.told)) (sym come.is)
      (counted_more config (trace_at s c) (entries_told c h.told) come.first (k.each c come.first come.there)));
}

-- and stays so where no command is issued
pub noted_still : (config : Config) (s next : State) (all : List Tally) → AreNoted config s all → ((c : ℕ) → trace_at next c ≡ trace_at s c) → AreNoted config next all
noted_still config s next all k same = record {
  many = k.many;
  each = λ c t at. subst (λ (entries : List Entry). IsNotedOf config entries t) (sym (same c)) (k.each c t at);
}

-- before the first command

none_issued : (config : Config) (start n c : ℕ) → option_map_or (λ (side : ChannelSide). side.channel.trace) (slice_get (replicate n (opened_channel config start)) c) [] ≡ []
none_issued config start zero c = refl
none_issued config start (suc n) zero = refl
none_issued config start (suc n) (suc c) = none_issued config start n c

pub noted_new : (config : Config) (s : State) (first number : ℕ) (all : List Tally) → AreNew config all → s ≡ opened config first number → AreNoted config s all
noted_new config s first number all new is = record {
  many = new.many;
  each = λ c t at. subst (λ (entries : List Entry). IsNotedOf config entries t)
      (sym (ap (λ (x : State). trace_at x c) is ∙ none_issued config first config.geometry.channels c))
      (All-at (IsNotedOf config []) all c t new.each at);
}

-- the trace of a channel of the core

by_side : (channel : channel_kept.Kept) (o : Option KeptSide) → Some channel ≡ option_map (λ (side : KeptSide). side.channel) o → option_map_or (λ (side : ChannelSide). side.channel.trace) (option_map side_of o) [] ≡ channel.trace
by_side channel None is = cc
by_side channel (Some side) is = let same : channel ≡ side.channel = cc in ap (λ (x : channel_kept.Kept). x.trace) (sym same)

pub trace_of_channel : (k : Kept) (c : ℕ) (channel : channel_kept.Kept) → Some channel ≡ option_map (λ (side : KeptSide). side.channel) (slice_get k.channels c) → trace_at (state_of k) c ≡ channel.trace
trace_of_channel k c channel is = ap (λ (o : Option ChannelSide). option_map_or (λ side. side.channel.trace) o []) (slice_get-map side_of k.channels c) ∙ by_side channel (slice_get k.channels c) is

-- the statistics of a channel of the core
pub noted_of : (k : Kept) (all : List Tally) (c : ℕ) (channel : channel_kept.Kept) (t : Tally) → AreNoted k.config (state_of k) all → slice_get all c ≡ Some t
    → Some channel ≡ option_map (λ (side : KeptSide). side.channel) (slice_get k.channels c) → channel.config ≡ k.config → IsNotedOf channel.config channel.trace t
noted_of k all c channel t noted there is config =
    subst (λ (f : Config). IsNotedOf f channel.trace t) (sym config)
    (subst (λ (entries : List Entry). IsNotedOf k.config entries t) (trace_of_channel k c channel is) (noted.each c t there))
