use Rattle.fixed.specs.Sets.{member}
use Rattle.reductions.specs.Spares.{Enough}
use Rattle.reductions.specs.Trails.{taken, banned}
use Rattle.reductions.proofs.needs.methods.needs_to_hold.Given as goal

abbrev pub invariant-loop-need : goal.invariant-loop-need
invariant-loop-need g l = Enough (g.C.Chart.grid l.chart) (taken l.node) (banned l.node) (member l.needs)
