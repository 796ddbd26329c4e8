-- The judge of the command's channel hears it.
use Rattle.std.proofs.Common.{◌+◌, ◌∙◌, Some, ap, max, sym}
use Rattle.std.proofs.lemmas.List.{length-set}
use Rattle.std.proofs.lemmas.Option.{slice_get-get_or}
use Rattle.ddr_judge.specs.Records.{Record, of_channel}
use Rattle.ddr_judge.proofs.JudgedLemmas.{count_other, count_same, heard_more}
use Rattle.ddr_judge.proofs.RecordLemmas.{end_more}
use Rattle.ddr_judge.proofs.judge.Judge.pass.Goals as goal

pub returns-clause-judged : goal.returns-clause-judged
returns-clause-judged c = λ config start records judged.
    let l = c.index_mut.result.now in
    let judges = c.args.self.now.judges.items in
    let x : Record = record { channel = c.args.channel; entry = c.args.entry.now; line = c.args.line } in
    let there = slice_get-get_or judges c.args.channel l c.requires.there ∙ ap (λ k. Some k) (sym c.index_mut.ensures.value) in
    record {
      channels = length-set _ _ _ ∙ judged.channels;
      each = heard_more judges config start records x c.pass.new.self c.requires.there judged.each
          (c.pass.ensures.heard config start (of_channel c.args.channel records) c.args.channel (judged.each c.args.channel l there));
      end = c.max-self.ensures ∙ ap (λ n. max n (c.args.entry.now.cycle + 1)) judged.end ∙ sym (end_more records x start);
    }

pub returns-clause-counted : goal.returns-clause-counted
returns-clause-counted c =
    count_same c.args.self.now.judges.items c.args.channel c.index_mut.result.now c.pass.new.self c.requires.there c.index_mut.ensures.value c.pass.ensures.count

pub returns-clause-others : goal.returns-clause-others
returns-clause-others c = λ other apart. count_other c.args.self.now.judges.items c.args.channel other c.pass.new.self apart
