use Rattle.charts.specs.Best.{problem}
use Rattle.fixed.specs.Sets.{member}
use Rattle.charts.specs.Sets.{Covers}
use Rattle.reductions.specs.Goals.{turns}
use Rattle.reductions.specs.Trails.{steps_of}
use Rattle.charts.specs.Sets.{Priced}
use Rattle.covering.proofs.Walking.{Chasing}
use Rattle.covering.proofs.seeking.least.Given as goal

abbrev pub invariant-loop-set : goal.invariant-loop-set
invariant-loop-set g l =
    let o = g.O.CostOrder in
    let p = problem (o.meaning l.order) (g.C.Chart.grid l.chart) in
    let s = member l.best.set in
    Covers p.grid s × Priced p (o.exact l.order l.best.total) l.best.size s × Chasing p (o.laws l.order) l.initial.trail.root s l.trail

abbrev pub decreases-loop-set : goal.decreases-loop-set
decreases-loop-set g l = turns 256 (steps_of l.trail)
