use Rattle.std.proofs.Common.{◌≡◌, arith, length}
use Rattle.ddr_capture.proofs.FrontLemmas.{front_end, last_step}
use Rattle.ddr_capture.proofs.front.take_found.Goals as goal

pub returns-in-Line-clause-said : goal.returns-in-Line-clause-said
returns-in-Line-clause-said c = λ a b d so_far has. c.take_line.ensures.said a b d so_far (rw c.in-Line.is at has)

pub returns-in-Last-clause-said : goal.returns-in-Last-clause-said
returns-in-Last-clause-said c =
    let all : c.len.result ≡ length c.args.front.now.items = omega (arith, c.len.ensures) in
    λ a b d so_far has. last_step a b d c.args.front.now.items c.args.line.now c.len.result c.take_last.result all so_far (rw c.in-Last.is at has) c.take_last.ensures.marked c.take_last.ensures.refused

pub returns-in-End-clause-said : goal.returns-in-End-clause-said
returns-in-End-clause-said c =
    λ a b d so_far has. front_end a b d c.args.front.now.items c.args.line.now (omega (arith, c.requires)) so_far (rw c.in-End.is at has)
