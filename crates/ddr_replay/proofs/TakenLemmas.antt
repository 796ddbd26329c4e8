-- A stream's requests, as they stand or counted from the first one's cycle.
use Rattle.std.proofs.Common.{◌≡◌, ℕ, Bool, true, false, not, List, [], ◌∷◌, suc, Option, None, Some, Result, Ok, Err, IfSome, length, map, refl, sym, ap, ap₂, subst, ◌∙◌}
use Rattle.std.specs.Io.KnownBytes.{prepend_known}
use Rattle.ddr_timing.specs.declared.config.Config.{Config}
use Rattle.ddr_text.specs.declared.fault.Fault.{Fault}
use Rattle.ddr_text.specs.declared.fault.Fault.TheVariants as faults
use Rattle.ddr_text.specs.Instructions.{◌>>>◌}
use Rattle.ddr_stream.specs.declared.ask.Ask.{Ask}
use Rattle.ddr_stream.specs.declared.requests.Requests.{Requests}
use Rattle.ddr_stream.specs.Requests.{no_requests, requests_in, with_requests}
use Rattle.ddr_stream.specs.Stream.{Queues, queues_of}
use Rattle.ddr_stream.specs.Waiting.{All, IsSaidFault, IsSame, IsSized, Waiting, all_in, begun}
use Rattle.ddr_stream.proofs.AllLemmas.{all_begun, all_ended}
use Rattle.ddr_replay.specs.Taken.{IsTaken, IsTakenFault, all_of, first_of, shifted, shifted_ask, started}
use Rattle.ddr_replay.specs.declared.taken.Taking.{Taking}
use Rattle.ddr_replay.proofs.ReplayLemmas.{read_so, refused_so, with_counts}

abbrev Known : Type 0
Known = Option (Result All Fault)

-- requests that come earlier are as many of each kind

counts_earlier : (by : ℕ) (asks : List Ask) (counted : Requests) → with_requests counted (map (shifted_ask by) asks) ≡ with_requests counted asks
counts_earlier by [] counted = refl
counts_earlier by (ask ∷ more) counted = counts_earlier by more (with_requests counted (ask ∷ []))

counts_shifted : (by : ℕ) (queues : Queues) → map requests_in (shifted by queues) ≡ map requests_in queues
counts_shifted by [] = refl
counts_shifted by (q ∷ qs) = ap₂ (λ (r : Requests) (rs : List Requests). r ∷ rs) (counts_earlier by q no_requests) (counts_shifted by qs)

asks_shifted : (by : ℕ) (asks : List Ask) → length (map (shifted_ask by) asks) ≡ length asks
asks_shifted by [] = refl
asks_shifted by (ask ∷ more) = ap suc (asks_shifted by more)

-- and as many of each port
pub lengths_shifted : (by : ℕ) (queues : Queues) → map length (shifted by queues) ≡ map length queues
lengths_shifted by [] = refl
lengths_shifted by (q ∷ qs) = ap₂ (λ (n : ℕ) (ns : List ℕ). n ∷ ns) (asks_shifted by q) (lengths_shifted by qs)

-- ---- as they stand

abbrev taken_from : Bool → Result Queues Fault → Result All Fault
taken_from from_first r = with_counts (r >>> λ queues. Ok (started from_first queues))

plainly : (r : Result Queues Fault) → taken_from false r ≡ with_counts r
plainly (Ok queues) = refl
plainly (Err fault) = refl

refused_from : (from_first : Bool) (r : Result Queues Fault) (e : Fault) → with_counts r ≡ Err e → taken_from from_first r ≡ Err e
refused_from from_first r e is = ap (taken_from from_first) (refused_so r e is)

module _ (config : Config) (taking : Taking) (bytes : List ℕ) (first : Option (List ℕ)) where
  abbrev Opened : Waiting
  Opened = begun config taking.reading bytes

  -- a line is at fault
  fault_known : (text : List ℕ) (fault : Fault) → prepend_known bytes first ≡ Some text → IsSaidFault fault (all_in Opened first) → IsTakenFault config taking fault text
  fault_known text fault is said =
      by_fault fault (subst (IsSaidFault fault) (all_begun config taking.reading bytes first text is) said)
    where
      r : Result Queues Fault
      r = queues_of config taking.reading text

      by_fault : (e : Fault) → IsSaidFault e (Some (with_counts r)) → IsTakenFault config taking e text
      by_fault (faults.ReplayLine line cause) so = refused_from taking.from_first r (faults.ReplayLine line cause) so
      by_fault (faults.ReplayRange line) so = refused_from taking.from_first r (faults.ReplayRange line) so
      by_fault faults.InputTooLong so = refused_from taking.from_first r faults.InputTooLong so
      by_fault faults.Read so = tt
      by_fault faults.OutOfMemory so = tt
      by_fault _ so = absurd so

  pub taken_fault : (fault : Fault) → IsSaidFault fault (all_in Opened first) → IfSome (prepend_known bytes first) (λ text. IsTakenFault config taking fault text)
  taken_fault fault said = go (prepend_known bytes first) refl
    where
      go : (o : Option (List ℕ)) → prepend_known bytes first ≡ o → IfSome o (λ text. IsTakenFault config taking fault text)
      go None is = tt
      go (Some text) is = fault_known text fault is said

  -- what all requests are, as far as they were read
  read_to : (w : Waiting) (last : Option (List ℕ)) (text : List ℕ) → IsSame (all_in Opened first) (all_in w last) → prepend_known bytes first ≡ Some text → all_in w last ≡ Some (with_counts (queues_of config taking.reading text))
  read_to w last text same is = subst (λ (o : Known). IsSame o (all_in w last)) (all_begun config taking.reading bytes first text is) same

  pub taken_plainly : (w : Waiting) (last : Option (List ℕ)) → IsSame (all_in Opened first) (all_in w last) → taking.from_first ≡ false → IfSome (prepend_known bytes first) (λ text. IsTaken config taking text (all_in w last))
  taken_plainly w last same from = go (prepend_known bytes first) refl
    where
      go : (o : Option (List ℕ)) → prepend_known bytes first ≡ o → IfSome o (λ text. IsTaken config taking text (all_in w last))
      go None is = tt
      go (Some text) is =
          let r = queues_of config taking.reading text in
          read_to w last text same is ∙ ap (λ (x : Result All Fault). Some x) (sym (ap (λ b. taken_from b r) from ∙ plainly r))

  -- ---- counted from the first one's

  shifted_all : (w next : Waiting) (last : Option (List ℕ)) (text : List ℕ) → next ≡ record w { queues = shifted (first_of w.queues) w.queues } → IsSized w → IsSized next → w.ended ≡ true → all_in w last ≡ Some (with_counts (queues_of config taking.reading text)) → taking.from_first ≡ true
      → IsTaken config taking text (all_in next last)
  shifted_all w next last text shift sized next_sized ended all from =
      let r = queues_of config taking.reading text in
      let x : All = record { queues = w.queues; requests = w.asked } in
      let both : ◌≡◌ {A = Known} (Some (with_counts r)) (Some (Ok x)) = sym all ∙ all_ended w last sized ended in
      let whole : with_counts r ≡ Ok x = cc in
      let read = read_so r x whole in
      let queues = shifted (first_of w.queues) w.queues in
      let next_ended : next.ended ≡ true = ap (λ (v : Waiting). v.ended) shift ∙ ended in
      let so : all_of config taking text ≡ Ok (record { queues = queues; requests = map requests_in queues }) = ap (λ b. taken_from b r) from ∙ ap (taken_from true) read.0 in
      let counts : map requests_in queues ≡ w.asked = counts_shifted (first_of w.queues) w.queues ∙ read.1 in
      all_ended next last next_sized next_ended
      ∙ ap (λ (v : Waiting). Some (Ok (record { queues = v.queues; requests = v.asked }))) shift
      ∙ ap (λ (rs : List Requests). Some (Ok (record { queues = queues; requests = rs }))) (sym counts)
      ∙ ap (λ (y : Result All Fault). Some y) (sym so)

  pub taken_shifted : (w next : Waiting) (last : Option (List ℕ)) → IsSame (all_in Opened first) (all_in w last) → next ≡ record w { queues = shifted (first_of w.queues) w.queues } → IsSized w → IsSized next → w.ended ≡ true → taking.from_first ≡ true
      → IfSome (prepend_known bytes first) (λ text. IsTaken config taking text (all_in next last))
  taken_shifted w next last same shift sized next_sized ended from = go (prepend_known bytes first) refl
    where
      go : (o : Option (List ℕ)) → prepend_known bytes first ≡ o → IfSome o (λ text. IsTaken config taking text (all_in next last))
      go None is = tt
      go (Some text) is = shifted_all w next last text shift sized next_sized ended (read_to w last text same is) from

pub not_so : (b : Bool) → not b ≡ true → b ≡ false
not_so false is = refl
not_so true is = sym is

pub so_it_is : (b : Bool) → not b ≡ false → b ≡ true
so_it_is true is = refl
so_it_is false is = sym is
