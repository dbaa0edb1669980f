use Rattle.std.proofs.Common.{◌≤◌}
use Rattle.charts.specs.Best.{problem}
use Rattle.fixed.specs.Sets.{member}
use Rattle.reductions.specs.Trails.{taken, banned}
use Rattle.covering.specs.Floors.{Floor}
use Rattle.covering.proofs.quest.Quest.is_hopeless.Given as goal

abbrev pub invariant-loop-need : goal.invariant-loop-need
invariant-loop-need g l =
    let o = g.O.CostOrder in
    let p = problem (o.meaning l.self.order.now) (g.C.Chart.grid l.self.chart.now) in
    Floor p l.self.strict (member l.self.bound.set) (taken l.node) (banned l.node) (member l.used) (o.exact l.self.order.now l.low.total) l.low.size × (l.low.size ≤ 256)
