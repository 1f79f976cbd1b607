use Rattle.operands.proofs.answer.answer_of.Goals as goal

pub returns-in-Add-clause-within : goal.returns-in-Add-clause-within
returns-in-Add-clause-within g c u hr hg hs hc = c.given-in-Add.ensures.within u (c.arith.ensures.within u)

pub returns-in-Sub-clause-within : goal.returns-in-Sub-clause-within
returns-in-Sub-clause-within g c u hr hg hs hc = c.given-in-Sub.ensures.within u (c.arith-in-Sub.ensures.within u)

pub returns-in-Mul-clause-within : goal.returns-in-Mul-clause-within
returns-in-Mul-clause-within g c u hr hg hs hc = c.given-in-Mul.ensures.within u (c.arith-in-Mul.ensures.within u)

pub returns-in-Div-clause-within : goal.returns-in-Div-clause-within
returns-in-Div-clause-within g c u hr hg hs hc = c.given-in-Div.ensures.within u (c.arith-in-Div.ensures.within u)

pub returns-in-Lt-clause-within : goal.returns-in-Lt-clause-within
returns-in-Lt-clause-within g c u hr hg hs hc = c.given-in-Lt.ensures.within u (c.ordered.ensures.within u)

pub returns-in-Leq-clause-within : goal.returns-in-Leq-clause-within
returns-in-Leq-clause-within g c u hr hg hs hc = c.given-in-Leq.ensures.within u (c.ordered-in-Leq.ensures.within u)

pub returns-in-IsInt-clause-within : goal.returns-in-IsInt-clause-within
returns-in-IsInt-clause-within g c u hr hg hs hc = c.given-in-IsInt.ensures.within u (c.kind.ensures.within u)

pub returns-in-IsStr-clause-within : goal.returns-in-IsStr-clause-within
returns-in-IsStr-clause-within g c u hr hg hs hc = c.given-in-IsStr.ensures.within u (c.kind-in-IsStr.ensures.within u)

pub returns-in-IsTab-clause-within : goal.returns-in-IsTab-clause-within
returns-in-IsTab-clause-within g c u hr hg hs hc = c.given-in-IsTab.ensures.within u (c.kind-in-IsTab.ensures.within u)

pub returns-in-HasTab-clause-within : goal.returns-in-HasTab-clause-within
returns-in-HasTab-clause-within g c u hr hg hs hc = c.given-in-HasTab.ensures.within u (c.has_key.ensures.within u)
