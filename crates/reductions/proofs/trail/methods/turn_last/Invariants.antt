use Rattle.std.proofs.Common.{◌≡◌, reverse, length}
use Rattle.fixed.specs.Lists.{entries}
use Rattle.reductions.specs.Steps.{owes, backed}
use Rattle.reductions.proofs.trail.methods.turn_last.Given as goal

-- what came off decided nothing
abbrev pub invariant-loop-last : goal.invariant-loop-last
invariant-loop-last l =
    record {
      owed : owes (reverse (entries l.steps)) ≡ owes (reverse (entries l.initial.steps));
      left : backed (reverse (entries l.steps)) ≡ backed (reverse (entries l.initial.steps));
    }

abbrev pub decreases-loop-last : goal.decreases-loop-last
decreases-loop-last l = length (entries l.steps)
