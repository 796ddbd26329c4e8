-- A place more, where some may be at fault.
use Rattle.std.proofs.Common.{◌≡◌, ◌<◌, false, length, Some, true, sym, ap, arith, ◌∙◌}
use Rattle.std.specs.List.{slice_get}
use Rattle.std.proofs.lemmas.Option.{slice_get-get_or}
use Rattle.ddr_explain.proofs.AllLemmas.{all_kept, place_kept, place_more}
use Rattle.ddr_explain.proofs.faults.place_faults.Goals as goal
use Rattle.ddr_explain.proofs.faults.place_faults.Goals.{then-not-kept-place+in_ok-add_faults, else-not-kept-place}

pub returns-then-are_all_kept : goal.returns-then-are_all_kept
returns-then-are_all_kept c =
    let a = c.args in
    c.new-faults.ensures.items ∙ all_kept a.config.now a.start a.end a.entries.now a.kept.now c.requires.each c.requires.kept (sym c.are_all_kept.ensures ∙ c.if-are_all_kept.true)

pub loop-place-preserved : goal.loop-place-preserved
loop-place-preserved c =
    let a = c.args in
    let place = c.loop-place.place in
    let kept = a.kept.now in
    elim c.if-not-kept-place.branch [
      | then-not-kept-place+in_ok-add_faults w ↦
          rw w.faults-is (place_more a.config.now a.start a.end a.entries.now place c.loop-place.faults.items w.add_faults.new.faults.items w.in_ok-add_faults.ensures c.loop-place.invariant)
      | else-not-kept-place w ↦
          let within : place < length kept = omega (arith, c.requires.each) in
          let at : slice_get kept place ≡ Some true = slice_get-get_or kept place false within ∙ ap Some w.if-not-kept-place.false in
          rw w.faults-is (place_kept a.config.now a.start a.end a.entries.now place c.loop-place.faults.items (λ r. c.requires.kept place r at) c.loop-place.invariant)
    ]

pub returns : goal.returns
returns c =
    let all : c.loop-place.place ≡ length c.args.entries.now = omega arith in
    rw all at c.loop-place.invariant
