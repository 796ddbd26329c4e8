use Rattle.std.proofs.Common.{ap, sym, ◌∙◌, arith}
use Rattle.ddr_stream.specs.Waiting.{Waiting, all_in}
use Rattle.ddr_stream.proofs.NextLemmas.{on_nothing, read_on, skipped_ask, skipped_nothing, skipped_sound}
use Rattle.ddr_stream.proofs.stream.Stream.skip_all.Goals as goal

pub skipped-preserved-in-Ask : goal.skipped-preserved-in-Ask
skipped-preserved-in-Ask g c =
    let remaining = g.R.Read.remaining in
    let before = c.skipped.invariant in
    let unended = ap (λ (w : Waiting). w.ended) (sym c.self-in-skipped.view_is) ∙ c.skipped-test.true in
    let next = rw c.in-Ask.is at c.in_ok-next.ensures.next in
    let count = rw c.in-Ask.is at c.in_ok-next.ensures.count in
    record {
      same = skipped_ask (all_in c.args.self.now (remaining c.args.reader.now)) c.skipped.self c.next.new.self c.skipped.sent (remaining c.skipped.reader) (remaining c.next.new.reader) c.next.ensures.kept unended c.in-Ask.field-0 before.same next.1;
      rest = read_on c.args.self.now c.skipped.self c.next.new.self before.rest (on_nothing c.skipped.self c.next.new.self c.next.ensures.kept before.rest.sized);
      each = omega (arith, before.each, count);
    }

pub skipped-preserved-in-Nothing : goal.skipped-preserved-in-Nothing
skipped-preserved-in-Nothing g c =
    let remaining = g.R.Read.remaining in
    let before = c.skipped.invariant in
    let unended = ap (λ (w : Waiting). w.ended) (sym c.self-in-skipped.view_is) ∙ c.skipped-test.true in
    let next = rw c.in-Nothing.is at c.in_ok-next.ensures.next in
    let count = rw c.in-Nothing.is at c.in_ok-next.ensures.count in
    record {
      same = skipped_nothing (all_in c.args.self.now (remaining c.args.reader.now)) c.skipped.self c.next.new.self c.skipped.sent (remaining c.skipped.reader) (remaining c.next.new.reader) c.next.ensures.kept unended before.same next;
      rest = read_on c.args.self.now c.skipped.self c.next.new.self before.rest (on_nothing c.skipped.self c.next.new.self c.next.ensures.kept before.rest.sized);
      each = omega (arith, before.each, count);
    }

pub returns-clause-sound : goal.returns-clause-sound
returns-clause-sound g c =
    let ended = ap (λ (w : Waiting). w.ended) (sym c.self-in-skipped.view_is) ∙ c.skipped-test.false in
    skipped_sound (all_in c.args.self.now (g.R.Read.remaining c.args.reader.now)) (record c.skipped.self { sent = c.skipped.sent }) (g.R.Read.remaining c.skipped.reader) ended c.skipped.invariant.same
