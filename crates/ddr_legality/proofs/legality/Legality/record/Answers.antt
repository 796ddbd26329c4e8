-- A command that breaks no rule leaves the trace legal.
use Rattle.std.proofs.Common.{◌+◌, ◌++◌, [], ◌∷◌, ap, ◌∙◌}
use Rattle.ddr_trace.specs.Commands.{entry}
use Rattle.ddr_legality.proofs.BrokenLemmas.{after_kept, place_kept}
use Rattle.ddr_legality.proofs.FewLemmas.{few_more, reach_more}
use Rattle.ddr_legality.proofs.LegalLemmas.{IsLegal-append, keeps_from_none}
use Rattle.ddr_legality.proofs.legality.Legality.record.Goals as goal

pub issue-requires : goal.issue-requires
issue-requires c =
    let a = c.self.inside in
    place_kept a.issued.config a.issued.start (a.now + 1) a.past.items (entry a.now c.args.command) (rw (← c.self.view_is) at c.requires.legal)

pub invariant_of-self : goal.invariant_of-self
invariant_of-self c =
    let a = c.self.inside in
    let e = entry a.now c.args.command in
    let after = after_kept a.issued.config a.issued.start (a.now + 1) a.past.items e (rw (← c.self.view_is) at c.requires.legal) in
    let fits = keeps_from_none a.issued.config a.issued.start (a.now + 1) a.past.items e (rw (← c.self.view_is) at c.requires.legal) in
    record {
      issued = rw c.and-self-inside.ensures (c.issue.ensures.issued a.past.items c.self.invariant.issued after);
      legal = rw (c.issue.ensures.config, c.issue.ensures.start, c.and-self-inside.ensures)
          (IsLegal-append a.issued.config a.issued.start (a.now + 1) a.past.items e c.self.invariant.legal fits);
      begun = rw c.issue.ensures.start c.self.invariant.begun;
      clock = c.self.invariant.clock;
      few = rw c.and-self-inside.ensures (few_more a.past.items e c.self.invariant.few after);
      reach = rw c.and-self-inside.ensures (reach_more a.past.items e c.self.invariant.clock);
      kept = λ keeps. rw c.and-self-inside.ensures (c.note.ensures.kept keeps ∙ ap (λ h. h ++ e ∷ []) (c.self.invariant.kept keeps));
      unkept = λ none. rw (c.note.ensures.unkept none) (c.self.invariant.unkept none);
    }
