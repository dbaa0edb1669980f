use Rattle.charts.specs.Best.{problem}
use Rattle.reductions.proofs.Trailing.{narrowed_twice}
use Rattle.reductions.proofs.reducing.reduce.Goals as goal

pub returns-then-len-before : goal.returns-then-len-before
returns-then-len-before g c =
    let p = problem (g.O.CostOrder.meaning c.args.order.now) (g.C.Chart.grid c.args.chart.now) in
    narrowed_twice p c.args.trail.now c.loop-before.trail c.take_singles.new.trail c.drop_columns.new.trail c.loop-before.invariant c.take_singles.ensures c.drop_columns.ensures

pub loop-before-preserved : goal.loop-before-preserved
loop-before-preserved g c =
    let p = problem (g.O.CostOrder.meaning c.args.order.now) (g.C.Chart.grid c.args.chart.now) in
    narrowed_twice p c.args.trail.now c.loop-before.trail c.take_singles.new.trail c.drop_columns.new.trail c.loop-before.invariant c.take_singles.ensures c.drop_columns.ensures
