use Rattle.charts.specs.Best.{problem}
use Rattle.fixed.specs.Sets.{member}
use Rattle.reductions.specs.Goals.{Narrowed}
use Rattle.reductions.specs.Spares.{Enough}
use Rattle.reductions.specs.Trails.{taken, banned}
use Rattle.reductions.proofs.reducing.drop_columns.Given as goal

abbrev pub invariant-loop-column : goal.invariant-loop-column
invariant-loop-column g l =
    Narrowed (problem (g.O.CostOrder.meaning l.order) (g.C.Chart.grid l.chart)) l.initial.trail l.trail
    × Enough (g.C.Chart.grid l.chart) (taken l.trail.node) (banned l.trail.node) (member l.needs)
