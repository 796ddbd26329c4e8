-- What users of the calls have of the promise, for every record that a core stands for.
use Rattle.std.proofs.Common.{◌≡◌, ℕ, suc, ◌+◌, Bool, true, false, if◌then◌else◌, All, List, [], ◌∷◌, Option, Some, None, IfSome, map, length, refl, sym, ap, ap₂, subst, subst₂, ◌∙◌, arith}
use Rattle.std.specs.List.{AllByRecursion, slice_get, range_with_len}
use Rattle.std.specs.Option.{IsSomeAnd, option_map, option_and_then}
use Rattle.std.proofs.lemmas.List.{length-map}
use Rattle.std.proofs.lemmas.Option.{slice_get-map}
use Rattle.ddr_timing.specs.declared.config.Config.{Config}
use Rattle.ddr_trace.specs.Legality.{IsLegal, IsRefreshed}
use Rattle.ddr_channel.proofs.ListLemmas.{All-at}
use Rattle.ddr_reorder.specs.declared.reply.Reply.{Reply}
use Rattle.ddr_reorder.specs.Replies.{Answer, lent_service, said, nth_answer, nth_service, served_answer, served_service}
use Rattle.ddr_world.specs.Close.{trace_of, kept_trace, IsRightTrace, GaveAll}
use Rattle.ddr_world.specs.History.{Opening, History, front_of, run}
use Rattle.ddr_world.specs.Kept.{KeptSide, Kept, Left, opened_with, side_of, state_of}
use Rattle.ddr_world.specs.Promise.{replies_of_port, KeepsPromise}
use Rattle.ddr_world.specs.Record.{IsNext, IsRightAt}
use Rattle.ddr_world.specs.Served.{WasServed, TellsService}
use Rattle.ddr_world.specs.State.{PortSide, ChannelSide, State, IsPortDrained, IsDrained}
use Rattle.ddr_world.proofs.CorePromise.{core_keeps_promise}
use Rattle.ddr_world.proofs.CoreRuns.{run_keeps}
use Rattle.ddr_world.proofs.CoreReplies.{is_served, lent_right}
use Rattle.ddr_world.proofs.CoreServed.{front_served, number_served}

-- the reply that is lent is the next one of the port
pub lent_is_next : (k : Kept) (p : ℕ) (side : PortSide) (result : Option Reply) → slice_get k.ports p ≡ Some side → option_map said result ≡ nth_answer side.core.reorder 0 → IfSome result (λ reply. IsNext k p (said reply))
lent_is_next k p side None there is = tt
lent_is_next k p side (Some reply) there is = λ opening events stands.
    let h = run opening events in
    let promise = core_keeps_promise opening events in
    let front : front_of h.state p ≡ Some (said reply) =
    ap (λ (s : State). front_of s p) (sym stands.state) ∙ ap (λ (x : Option PortSide). option_and_then (λ port. nth_answer port.core.reorder 0) x) there ∙ sym is in
    subst (λ (x : Option Answer). IfSome x (λ a. slice_get (replies_of_port h p) (length (h.taken p)) ≡ Some (Some a))) front (promise.lent p)

-- and it tells when its request was served
pub lent_tells : (k : Kept) (p : ℕ) (side : PortSide) (result : Option Reply) → slice_get k.ports p ≡ Some side → option_map said result ≡ nth_answer side.core.reorder 0
    → option_map lent_service result ≡ nth_service side.core.reorder 0 → IfSome result (λ reply. TellsService k (said reply) (lent_service reply))
lent_tells k p side None there answer service = tt
lent_tells k p side (Some reply) there answer service = λ opening events stands.
    let h = run opening events in
    let at : slice_get h.state.ports p ≡ Some side = ap (λ (s : State). slice_get s.ports p) (sym stands.state) ∙ there in
    let served = front_served opening.config h.state side (said reply) (lent_service reply) ((run_keeps opening events).served p side at) (sym answer) (sym service) in
    subst₂ (λ (config : Config) (s : State). WasServed config s (said reply).echo (lent_service reply)) (sym stands.config) (sym stands.state) served

-- the reply to a number is the right one
pub served_is_right : (k : Kept) (p number : ℕ) (side : PortSide) (result : Option Reply) → slice_get k.ports p ≡ Some side → option_map said result ≡ served_answer side.core.reorder number
    → IfSome result (λ reply. IsRightAt k p number (said reply))
served_is_right k p number side None there is = tt
served_is_right k p number side (Some reply) there is = λ opening events stands.
    let h = run opening events in
    let at : slice_get h.state.ports p ≡ Some side = ap (λ (s : State). slice_get s.ports p) (sym stands.state) ∙ there in
    let served = is_served side.core.reorder number (said reply) (sym is) in
    let right = lent_right opening h p side served.place (said reply) (run_keeps opening events) at served.lent in
    (length (h.taken p) + served.place, sym served.number_is ∙ right.number, right.right)

-- and it tells when its request was served
pub served_tells : (k : Kept) (p number : ℕ) (side : PortSide) (result : Option Reply) → slice_get k.ports p ≡ Some side → option_map said result ≡ served_answer side.core.reorder number
    → option_map lent_service result ≡ served_service side.core.reorder number → IfSome result (λ reply. TellsService k (said reply) (lent_service reply))
served_tells k p number side None there answer service = tt
served_tells k p number side (Some reply) there answer service = λ opening events stands.
    let h = run opening events in
    let at : slice_get h.state.ports p ≡ Some side = ap (λ (s : State). slice_get s.ports p) (sym stands.state) ∙ there in
    let served = number_served opening.config h.state side number (said reply) (lent_service reply) ((run_keeps opening events).served p side at) (sym answer) (sym service) in
    subst₂ (λ (config : Config) (s : State). WasServed config s (said reply).echo (lent_service reply)) (sym stands.config) (sym stands.state) served

told_by_index : {X : Type 0} (f : X → ℕ) (g : ℕ → ℕ) (a : ℕ) (xs : List X) → ((i : ℕ) (x : X) → slice_get xs i ≡ Some x → f x ≡ g (a + i)) → map f xs ≡ map g (range_with_len a (length xs))
told_by_index f g a [] told = refl
told_by_index f g a (x ∷ xs) told = ap₂ ◌∷◌ (told 0 x refl ∙ ap g (omega arith)) (told_by_index f g (a + 1) xs (λ i y is. told (suc i) y is ∙ ap g (omega arith)))

-- the trace of a channel that keeps it is there, and of one that doesn't is not
there : (o : Opening) (side : KeptSide) → side.channel.keeps ≡ true → IsRightTrace o (trace_of side) → IsSomeAnd (kept_trace side) (IsRightTrace o)
there o side keeps right = subst (λ b. IsSomeAnd (if b then Some (trace_of side) else None) (IsRightTrace o)) (sym keeps) right

not_there : (side : KeptSide) → side.channel.keeps ≡ false → kept_trace side ≡ None
not_there side keeps = ap (λ b. if b then Some (trace_of side) else None) keeps

-- each trace is there, and is right where that of its channel is
each_trace : (o : Opening) (sides : List KeptSide) → ((c : ℕ) (side : KeptSide) → slice_get sides c ≡ Some side → (side.channel.keeps ≡ true) × IsRightTrace o (trace_of side))
    → AllByRecursion (λ t. IsSomeAnd t (IsRightTrace o)) (map kept_trace sides)
each_trace o [] told = tt
each_trace o (side ∷ sides) told = (there o side (told 0 side refl).0 (told 0 side refl).1, each_trace o sides (λ c later is. told (suc c) later is))

-- or none is
no_trace : (sides : List KeptSide) → ((c : ℕ) (side : KeptSide) → slice_get sides c ≡ Some side → side.channel.keeps ≡ false) → AllByRecursion (λ t. t ≡ None) (map kept_trace sides)
no_trace [] told = tt
no_trace (side ∷ sides) told = (not_there side (told 0 side refl), no_trace sides (λ c later is. told (suc c) later is))

-- that of a channel begins with the core's first cycle, and is legal and refreshed under its configuration
trace_right : (o : Opening) (h : History) (c : ℕ) (side : KeptSide) → KeepsPromise o h → slice_get h.state.channels c ≡ Some (side_of side) → IsRightTrace o (trace_of side)
trace_right o h c side promise there =
    let opened = promise.opened c (side_of side) there in
    record {
      start = opened.1;
      legal = subst₂ (λ config start. IsLegal config start side.channel.now side.channel.trace) opened.0 opened.1 (promise.legal c (side_of side) there);
      refreshed = subst₂ (λ config start. IsRefreshed config start side.channel.now side.channel.trace) opened.0 opened.1 (promise.refreshed c (side_of side) there);
    }

-- a drained core that is closed gave all
pub closed_gave_all : (k : Kept) (left : Left) → All (λ side. opened_with side ≡ (k.config, k.keeps)) k.channels → IsDrained (state_of k) → left.accepted ≡ map (λ side. side.accepted) k.ports → left.taken ≡ map (λ side. side.taken) k.ports
    → left.traces ≡ map kept_trace k.channels → GaveAll k left
closed_gave_all k left as_opened drained accepted taken traces opening events stands =
    let h = run opening events in
    let promise = core_keeps_promise opening events in
    let ports : k.ports ≡ h.state.ports = ap (λ (s : State). s.ports) stands.state in
    let channels : map side_of k.channels ≡ h.state.channels = ap (λ (s : State). s.channels) stands.state in
    let all : IsDrained h.state = subst IsDrained stands.state drained in
    let kept : (c : ℕ) (side : KeptSide) → slice_get k.channels c ≡ Some side → side.channel.keeps ≡ opening.keeps = λ c side is.
    ap (λ (p : Config × Bool). p.1) (All-at (λ (s : KeptSide). opened_with s ≡ (k.config, k.keeps)) k.channels c side as_opened is) ∙ stands.keeps in
    record {
      finished = promise.finished all;
      accepted = accepted ∙ ap (map (λ (side : PortSide). side.accepted)) ports
          ∙ told_by_index (λ (side : PortSide). side.accepted) (λ p. length (h.sent p)) 0 h.state.ports (λ p side is. (promise.counted p side is).accepted ∙ ap (λ n. length (h.sent n)) (omega arith));
      taken = taken ∙ ap (map (λ (side : PortSide). side.taken)) ports
          ∙ told_by_index (λ (side : PortSide). side.taken) (λ p. length (h.sent p)) 0 h.state.ports (λ p side is.
          let counted = promise.counted p side is in
          let empty = All-at IsPortDrained h.state.ports p side all.ports is in
          let same : side.taken ≡ length (h.sent p) = omega (arith, counted.taken, counted.outstanding, empty.outstanding) in
          same ∙ ap (λ n. length (h.sent n)) (omega arith));
      channels = ap length traces ∙ length-map k.channels kept_trace ∙ sym (length-map k.channels side_of) ∙ ap length channels ∙ (run_keeps opening events).channels_are;
      traces = λ keeps. subst (AllByRecursion (λ t. IsSomeAnd t (IsRightTrace opening))) (sym traces) (each_trace opening k.channels (λ c side is. (
        kept c side is ∙ keeps,
        trace_right opening h c side promise (ap (λ (sides : List ChannelSide). slice_get sides c) (sym channels) ∙ slice_get-map side_of k.channels c ∙ ap (option_map side_of) is),
      )));
      untold = λ keeps. subst (AllByRecursion (λ t. t ≡ None)) (sym traces) (no_trace k.channels (λ c side is. kept c side is ∙ keeps));
    }
