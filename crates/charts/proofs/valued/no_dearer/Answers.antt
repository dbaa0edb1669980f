use Rattle.std.proofs.Common.{sym}
use Rattle.charts.proofs.Values.{priced}
use Rattle.charts.proofs.valued.no_dearer.Goals as goal

pub returns : goal.returns
returns g c =
    let o = g.O.CostOrder in
    let me = c.args.order.now in
    let term = (g.C.Chart.grid c.args.chart.now).term in
    sym (priced (o.meaning me) (o.laws me) (term c.args.a) (term c.args.b) (o.exact me c.price-first.result) (o.exact me c.price-second.result) c.at_most.result c.price-first.ensures c.price-second.ensures c.at_most.ensures.exact)
