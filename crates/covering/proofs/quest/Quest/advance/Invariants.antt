use Rattle.charts.specs.Best.{problem}
use Rattle.fixed.specs.Sets.{member}
use Rattle.reductions.specs.Goals.{turns}
use Rattle.reductions.specs.Trails.{steps_of}
use Rattle.covering.specs.Seeking.{Leads}
use Rattle.covering.proofs.quest.Quest.advance.Given as goal

abbrev pub invariant-loop-trail : goal.invariant-loop-trail
invariant-loop-trail g l = Leads (problem (g.O.CostOrder.meaning l.self.order.now) (g.C.Chart.grid l.self.chart.now)) l.self.strict (member l.self.bound.set) l.initial.trail l.trail

abbrev pub decreases-loop-trail : goal.decreases-loop-trail
decreases-loop-trail g l = turns 256 (steps_of l.trail)
