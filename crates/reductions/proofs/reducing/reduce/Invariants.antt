use Rattle.charts.specs.Best.{problem}
use Rattle.reductions.specs.Goals.{Narrowed, turns}
use Rattle.reductions.specs.Trails.{steps_of}
use Rattle.reductions.proofs.reducing.reduce.Given as goal

abbrev pub invariant-loop-before : goal.invariant-loop-before
invariant-loop-before g l = Narrowed (problem (g.O.CostOrder.meaning l.order) (g.C.Chart.grid l.chart)) l.initial.trail l.trail

abbrev pub decreases-loop-before : goal.decreases-loop-before
decreases-loop-before g l = turns 256 (steps_of l.trail)
