-- All is known of an entry as long as those before it were passed.
use Rattle.std.proofs.Common.{take, sym, ◌∙◌}
use Rattle.ddr_legality.proofs.KeptLemmas.{flags_more, follows_before, follows_here, passed_more}
use Rattle.ddr_legality.proofs.checker.kept_places.Goals as goal
use Rattle.ddr_legality.proofs.checker.kept_places.Goals.{then-is_followed, else-is_followed, then-is_followed-2, else-is_followed-2}

pub loop-entry-preserved : goal.loop-entry-preserved
loop-entry-preserved c =
    let k = c.loop-entry.invariant in
    let entries = c.args.entries.now in
    let before = take c.loop-entry.entry-index entries in
    let within = c.loop-entry-test.true in
    record {
      config = elim c.if-is_followed-2.branch [
        | then-is_followed-2 w ↦ rw w.so_far-is (w.follow-is_followed.ensures.config ∙ k.config)
        | else-is_followed-2 w ↦ rw w.so_far-is k.config
      ];
      start = elim c.if-is_followed-2.branch [
        | then-is_followed-2 w ↦ rw w.so_far-is (w.follow-is_followed.ensures.start ∙ k.start)
        | else-is_followed-2 w ↦ rw w.so_far-is k.start
      ];
      flags = rw c.in_ok-push.ensures.items (flags_more c.args.config.now c.args.start c.args.end entries c.loop-entry.kept.items c.loop-entry.entry-index _ c.loop-entry.is_followed c.if-is_followed.is_kept within k.flags
          (λ is. elim c.if-is_followed.branch [
            | then-is_followed w ↦ w.is_kept-is ∙ rw (k.config, k.start) at (w.is_kept_by-is_kept.ensures before (k.passed is))
            | else-is_followed w ↦ (let off = w.if-is_followed.false in cc)
          ])
          (λ not. elim c.if-is_followed.branch [
            | then-is_followed w ↦ (let on = w.if-is_followed.true in cc)
            | else-is_followed w ↦ w.is_kept-is ∙ not
          ])
          k.rising);
      passed = λ is. elim c.if-is_followed-2.branch [
        | then-is_followed-2 w ↦ rw w.so_far-is (passed_more w.follow-is_followed.new.self entries c.loop-entry.entry-index _ within (w.follow-is_followed.ensures.passed before (k.passed w.if-is_followed-2.true) (sym w.is_followed-is ∙ is)))
        | else-is_followed-2 w ↦ (let off = w.if-is_followed-2.false in let same = w.is_followed-is in cc)
      ];
      rising = λ followed. elim c.if-is_followed-2.branch [
        | then-is_followed-2 w ↦ w.is_followed-is ∙ w.follow-is_followed.ensures.told before (k.passed w.if-is_followed-2.true) ∙ rw k.config (follows_here c.args.config.now.geometry entries c.loop-entry.entry-index _ within followed)
        | else-is_followed-2 w ↦ w.is_followed-is ∙ k.rising (follows_before c.args.config.now.geometry entries c.loop-entry.entry-index followed)
      ];
    }
