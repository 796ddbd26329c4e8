-- One more rank: it is forced with no more owed than may be put off or not, and has a command or none.
use Rattle.std.proofs.Common.{◌≡◌, ◌∙◌, ◌<◌, ◌&&◌, not, ℕ, Bool, true, false, List, get_or, sym, ap, ap₂, refl, arith}
use Rattle.std.proofs.lemmas.Option.{get_or_from_slice_get}
use Rattle.ddr_hazards.specs.declared.waiting.Waiting.{Waiting}
use Rattle.ddr_refresh.specs.Refreshes.{Refreshes}
use Rattle.ddr_arbiter.specs.Choice.{is_idly_forced, is_overdue, is_rank_forced, is_something, refresh_choice_at}
use Rattle.ddr_arbiter.specs.Forced.{AreForced}
use Rattle.ddr_arbiter.proofs.PlaceLemmas.{choice_found, no_choice_more, no_choice_out}
use Rattle.ddr_arbiter.proofs.refresh.idle_choice.Goals as goal
use Rattle.ddr_arbiter.proofs.refresh.idle_choice.Goals.{then-forced-rank+then-not-is_overdue+else-is_something, else-forced-rank, else-forced-rank-via-then-forced-rank+else-not-is_overdue, else-forced-rank-via-else-forced-rank}

idly : (waiting : List Waiting) (refreshes : List Refreshes) (marks : List Bool) (rank : ℕ) (over test : Bool) → AreForced waiting refreshes marks → rank < 2 → over ≡ is_overdue refreshes rank →
    get_or marks rank false ≡ test → is_idly_forced waiting refreshes rank ≡ (test && not over)
idly waiting refreshes marks rank over test forced within over_is test_is =
    ap₂ (λ (a b : Bool). a && not b) (sym (get_or_from_slice_get marks rank (is_rank_forced waiting refreshes rank) false (forced rank within)) ∙ test_is) (sym over_is)

pub returns-then-is_something : goal.returns-then-is_something
returns-then-is_something c =
    let within : c.loop-rank.rank < 2 = omega (arith, c.loop-rank-test.true, c.loop-rank.auto.rank-end, c.requires.ranks) in
    let is = idly c.args.pending.now.waiting c.args.debts.now c.args.forced.now c.loop-rank.rank c.is_overdue.result true c.requires.forced within c.is_overdue.ensures c.if-forced-rank.true in
    c.refresh_choice_at-choice.ensures
    ∙ choice_found (refresh_choice_at c.args.legality.now.bus) (is_idly_forced c.args.pending.now.waiting c.args.debts.now) c.loop-rank.rank _ c.loop-rank-test.true c.loop-rank.invariant
    (is ∙ ap not c.if-not-is_overdue.true) (ap is_something (sym c.refresh_choice_at-choice.ensures) ∙ sym c.is_something.ensures ∙ c.if-is_something.true)

pub loop-rank-preserved : goal.loop-rank-preserved
loop-rank-preserved c =
    let within : c.loop-rank.rank < 2 = omega (arith, c.loop-rank-test.true, c.loop-rank.auto.rank-end, c.requires.ranks) in
    elim c.if-forced-rank.branch [
      | then-forced-rank+then-not-is_overdue+else-is_something w ↦
          let is = idly c.args.pending.now.waiting c.args.debts.now c.args.forced.now c.loop-rank.rank w.is_overdue.result true c.requires.forced within w.is_overdue.ensures w.if-forced-rank.true in
          no_choice_more (refresh_choice_at c.args.legality.now.bus) (is_idly_forced c.args.pending.now.waiting c.args.debts.now) c.loop-rank.rank c.loop-rank.invariant
          (is ∙ ap not w.if-not-is_overdue.true) (ap is_something (sym w.refresh_choice_at-choice.ensures) ∙ sym w.is_something.ensures ∙ w.if-is_something.false)
      | else-forced-rank w ↦
          no_choice_out (refresh_choice_at c.args.legality.now.bus) (is_idly_forced c.args.pending.now.waiting c.args.debts.now) c.loop-rank.rank c.loop-rank.invariant
          (elim w.else-forced-rank.branch [
            | else-forced-rank-via-then-forced-rank+else-not-is_overdue v ↦
                idly c.args.pending.now.waiting c.args.debts.now c.args.forced.now c.loop-rank.rank v.is_overdue.result true c.requires.forced within v.is_overdue.ensures v.if-forced-rank.true ∙ ap not v.if-not-is_overdue.false
            | else-forced-rank-via-else-forced-rank v ↦
                idly c.args.pending.now.waiting c.args.debts.now c.args.forced.now c.loop-rank.rank (is_overdue c.args.debts.now c.loop-rank.rank) false c.requires.forced within refl v.if-forced-rank.false
          ])
    ]
