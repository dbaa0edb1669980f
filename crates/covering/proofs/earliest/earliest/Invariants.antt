use Rattle.charts.specs.Best.{problem}
use Rattle.fixed.specs.Sets.{member}
use Rattle.charts.specs.Sets.{Least, Settled}
use Rattle.charts.specs.Sets.{Priced}
use Rattle.covering.proofs.earliest.earliest.Given as goal

abbrev pub invariant-loop-j : goal.invariant-loop-j
invariant-loop-j g l =
    let o = g.O.CostOrder in
    let p = problem (o.meaning l.order) (g.C.Chart.grid l.chart) in
    let s = member l.best.set in
    Least p s × Settled p s l.j × Priced p (o.exact l.order l.best.total) l.best.size s
