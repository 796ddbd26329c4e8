use Rattle.std.proofs.Common.{[], ◌∷◌, arith, length-append, sym, ◌∙◌}
use Rattle.ddr_judge.specs.Records.{Record}
use Rattle.ddr_capture.specs.Captured.{with_record}
use Rattle.ddr_capture.proofs.ReadLemmas.{command_refused, command_said, open_behind}
use Rattle.ddr_capture.proofs.reading.Reading.take_command.Goals as goal

pub returns-in-Ok-clause-said : goal.returns-in-Ok-clause-said
returns-in-Ok-clause-said c = λ config start read has.
    let channel = c.in-Ok.channel in
    let x : Record = record { channel = channel; entry = c.args.entry.now; line = c.args.line } in
    let next = with_record c.args.line read c.args.entry.now channel in (
      next,
      record {
        judged = c.pass.ensures.judged config start read.records has.judged;
        ended = has.ended;
        behind = open_behind start next (sym has.ended ∙ c.requires.open);
      },
      command_said c.args.self.now.form c.args.self.now.channels c.args.line read c.args.named c.args.entry.now channel (sym c.in-Ok.ensures.exact),
      omega (arith, length-append read.records (x ∷ [])),
    )

pub returns-in-Err-clause-said : goal.returns-in-Err-clause-said
returns-in-Err-clause-said c = λ config start read has.
    command_refused c.args.self.now.form c.args.self.now.channels c.args.line read c.args.named c.args.entry.now c.in-Err.cause (sym c.in-Err.ensures.exact)
