use Rattle.std.proofs.Common.{rules, tests, arith}
use Rattle.std.proofs.lemmas.Iterator.{YieldsList-from_range}
use Rattle.std.proofs.lemmas.Iterator.Consumers.{YieldsList-from_filter}
use Rattle.charts.specs.Best.{problem}
use Rattle.covering.specs.Floors.{cheaper}
use Rattle.covering.proofs.Picking.{reduced}
use Rattle.covering.proofs.floor.cheapest.Goals as goal

pub returns : goal.returns
returns g c =
    let m = g.C.Chart.grid c.args.chart.now in
    reduced _ (cheaper (problem (g.O.CostOrder.meaning c.args.order.now) m)) _ (λ a x b q k. search (rules, tests)) c.filter.result c.reduce.result c.reduce.ensures.ran
    (YieldsList-from_filter _ _ (YieldsList-from_range 0 m.width m.width (cc) (omega arith)) c.filter.ensures.closure (λ x r q k. search (rules, tests)))
