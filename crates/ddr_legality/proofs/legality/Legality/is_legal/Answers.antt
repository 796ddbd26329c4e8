use Rattle.ddr_legality.proofs.legality.Legality.is_legal.Goals as goal

pub returns : goal.returns
returns c =
    let a = c.self.inside in
    rw (← c.self.view_is) (c.is_legal.ensures a.past.items c.self.invariant.issued)
