use Rattle.std.proofs.Common.{Ok, subst}
use Rattle.ddr_trace_text.specs.Reader.{IsAnswer, records_in, trace_of}
use Rattle.ddr_text.proofs.CanonicalLemmas.{canonical_answer}
use Rattle.ddr_text.proofs.check.trace_in.Goals as goal

pub returns-in-Some-clause-read : goal.returns-in-Some-clause-read
returns-in-Some-clause-read c =
    subst (λ t. IsAnswer (trace_of (records_in t)) (Ok c.in-Some.trace)) c.as_bytes.ensures.value (canonical_answer c.args.geometry.now c.as_bytes.result.now c.in-Some.trace c.in-Some.ensures)
