-- A command is the next one kept, or the first at fault, or it stands behind that.
use Rattle.std.proofs.Common.{refl, sym, ap, ◌+◌, ◌∙◌}
use Rattle.std.proofs.lemmas.List.{length_push}
use Rattle.ddr_judge.specs.Records.{entries_of}
use Rattle.ddr_judge.proofs.HeardLemmas.{now_at_fault, still_kept, told_behind, told_kept, told_none, told_of}
use Rattle.ddr_judge.proofs.channel_judge.ChannelJudge.pass.Goals as goal

pub returns-then-is_some-clause-heard : goal.returns-then-is_some-clause-heard
returns-then-is_some-clause-heard c = λ config start records channel heard. record {
  count = ap (λ n. n + 1) heard.count ∙ sym (length_push records _);
  told = told_behind config start records _ c.args.self.now _ c.args.self.now.fault (sym c.is_some.ensures ∙ c.if-is_some.true) heard.told;
}

pub returns-in-None-clause-heard : goal.returns-in-None-clause-heard
returns-in-None-clause-heard c = λ config start records channel heard.
    let l = c.args.self.now in
    let e = c.args.entry.now in
    let off = sym c.is_some.ensures ∙ c.if-is_some.false in
    let kept = told_kept l config start records l.fault off heard.told in
    let none = sym c.in-None.is ∙ c.lowest.ensures.lowest (entries_of records) kept.passed ∙ told_of l.checker config start (e.cycle + 1) (entries_of records) e kept.config kept.begun in
    record {
      count = ap (λ n. n + 1) heard.count ∙ sym (length_push records _);
      told = told_none _ config start _ l.fault off
          (still_kept config start records _ l _ kept c.pass.ensures.config c.pass.ensures.start (c.pass.ensures.passed (entries_of records) kept.passed) none);
    }

pub returns-in-Some-clause-heard : goal.returns-in-Some-clause-heard
returns-in-Some-clause-heard c = λ config start records channel heard.
    let l = c.args.self.now in
    let e = c.args.entry.now in
    let off = sym c.is_some.ensures ∙ c.if-is_some.false in
    let kept = told_kept l config start records l.fault off heard.told in
    let lowest = sym c.in-Some.is ∙ c.lowest.ensures.lowest (entries_of records) kept.passed ∙ told_of l.checker config start (e.cycle + 1) (entries_of records) e kept.config kept.begun in
    record {
      count = ap (λ n. n + 1) heard.count ∙ sym (length_push records _);
      told = now_at_fault config start records _ l l.count c.args.line c.in-Some.rule kept heard.count refl lowest;
    }
