use Rattle.orders.proofs.any.AnyOrderCostOrder.at_most.Goals as goal

pub returns-in-Count-clause-exact : goal.returns-in-Count-clause-exact
returns-in-Count-clause-exact c = rw c.in-Count.is c.at_most.ensures.exact

pub returns-in-Price-clause-exact : goal.returns-in-Price-clause-exact
returns-in-Price-clause-exact c = rw c.in-Price.is c.at_most-in-Price.ensures.exact

pub returns-in-Longest-clause-exact : goal.returns-in-Longest-clause-exact
returns-in-Longest-clause-exact c = rw c.in-Longest.is c.at_most-in-Longest.ensures.exact
