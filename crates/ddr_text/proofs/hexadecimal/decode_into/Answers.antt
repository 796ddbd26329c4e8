use Rattle.std.proofs.Common.{sym, ◌∙◌, arith, rules}
use Rattle.ddr_text.proofs.HexadecimalLemmas.{pair_bad, pair_read, pairs_done}
use Rattle.ddr_text.proofs.hexadecimal.decode_into.Goals as goal

pub returns-in_err-bytes-clause-none : goal.returns-in_err-bytes-clause-none
returns-in_err-bytes-clause-none c =
    let refused = pair_bad c.args.field.now c.pairs.bytes c.pairs.i _ (omega arith) c.if-field-ne0.false c.if-field-bytes.false (sym c.in_err-bytes.was ∙ c.pair.ensures) c.pairs.invariant in
    search rules

pub pairs-preserved : goal.pairs-preserved
pairs-preserved c =
    pair_read c.args.field.now c.pairs.bytes c.pairs.i _ (omega arith) (omega arith) (sym c.in_ok-bytes.was ∙ c.pair.ensures) c.pairs.invariant

pub returns-clause-some : goal.returns-clause-some
returns-clause-some c =
    pairs_done c.args.field.now c.pairs.bytes c.pairs.i _ c.if-field-ne0.false c.if-field-bytes.false (omega arith) (omega arith) c.pairs.invariant
