use Rattle.charts.specs.Best.{problem}
use Rattle.reductions.specs.Goals.{Narrowed}
use Rattle.reductions.proofs.reducing.take_singles.Given as goal

abbrev pub invariant-loop-need : goal.invariant-loop-need
invariant-loop-need g l = Narrowed (problem (g.O.CostOrder.meaning l.order) (g.C.Chart.grid l.chart)) l.initial.trail l.trail
