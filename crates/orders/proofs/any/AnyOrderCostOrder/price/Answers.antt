use Rattle.orders.proofs.any.AnyOrderCostOrder.price.Goals as goal

pub returns-in-Count-clause-exact : goal.returns-in-Count-clause-exact
returns-in-Count-clause-exact c = rw c.in-Count.is c.price.ensures.exact

pub returns-in-Price-clause-exact : goal.returns-in-Price-clause-exact
returns-in-Price-clause-exact c = rw c.in-Price.is c.price-in-Price.ensures.exact

pub returns-in-Longest-clause-exact : goal.returns-in-Longest-clause-exact
returns-in-Longest-clause-exact c = rw c.in-Longest.is c.price-in-Longest.ensures.exact
