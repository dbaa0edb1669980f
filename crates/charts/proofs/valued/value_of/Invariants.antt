use Rattle.std.proofs.Common.{◌≡◌, map, length}
use Rattle.orders.specs.Orders.{total}
use Rattle.fixed.specs.Sets.{member}
use Rattle.charts.specs.Sets.{down}
use Rattle.charts.proofs.valued.value_of.Given as goal

abbrev pub invariant-loop-k : goal.invariant-loop-k
invariant-loop-k g l =
    let o = g.O.CostOrder in
    (o.exact l.order l.total ≡ total (o.meaning l.order) (map (g.C.Chart.grid l.chart).term (down (member l.set) l.k)))
    × (l.size ≡ length (down (member l.set) l.k))
