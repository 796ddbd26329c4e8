-- The commands go on, and so do the REFs.
use Rattle.std.proofs.Common.{◌≡◌, ◌≢◌, [], ◌∷◌, ◌++◌, ◌∙◌, refl, sym, subst, arith}
use Rattle.std.proofs.lemmas.Bool.{and_parts}
use Rattle.ddr_trace.specs.Commands.{rank_of}
use Rattle.ddr_legality.specs.Refreshes.{HasCounted}
use Rattle.ddr_legality.proofs.RankLemmas.{second_rank}
use Rattle.ddr_legality.proofs.RefreshLemmas.{counted_elsewhere}
use Rattle.ddr_legality.proofs.one_pass.Checker.pass.Goals as goal

pub returns-in-0-clause-passed : goal.returns-in-0-clause-passed
returns-in-0-clause-passed c = λ history passed.
    let s = c.args.self.now in
    let e = c.args.entry.now in
    let own : rank_of e.command ≡ 0 = cc in
    let fits = and_parts _ _ c.requires in
    let later = sym (passed.issued.last e.cycle) ∙ fits.1 in
    record {
      issued = c.issue.ensures.issued history passed.issued later;
      first = subst (λ n. HasCounted n c.note.new.self (history ++ e ∷ [])) own (c.note.ensures history (subst (λ n. HasCounted n s.first history) (sym own) passed.first));
      second = counted_elsewhere 1 history e s.second passed.second (rw own refl);
    }

pub returns-in_default-clause-passed : goal.returns-in_default-clause-passed
returns-in_default-clause-passed c = λ history passed.
    let s = c.args.self.now in
    let i = s.issued in
    let e = c.args.entry.now in
    let apart : rank_of e.command ≢ 0 = omega arith in
    let fits = and_parts _ _ c.requires in
    let own : rank_of e.command ≡ 1 = second_rank i.config.geometry e.command fits.0 apart in
    let later = sym (passed.issued.last e.cycle) ∙ fits.1 in
    record {
      issued = c.issue.ensures.issued history passed.issued later;
      first = counted_elsewhere 0 history e s.first passed.first (rw own refl);
      second = subst (λ n. HasCounted n c.note-in_default.new.self (history ++ e ∷ [])) own (c.note-in_default.ensures history (subst (λ n. HasCounted n s.second history) (sym own) passed.second));
    }
