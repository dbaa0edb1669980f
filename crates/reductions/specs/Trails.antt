-- The trail of a search, by its steps.
use Rattle.std.specs.Prelude.{ℕ, Bool, List, reverse}
use Rattle.fixed.specs.Lists.{entries}
use Rattle.fixed.specs.Sets.{member}
use Rattle.reductions.specs.declared.node.Node.{Node}
use Rattle.reductions.specs.declared.step.Step.{Step}
use Rattle.reductions.specs.declared.trail.Trail.{Trail}

-- the columns that a node has, and those that it lacks
abbrev pub taken : Node → ℕ → Bool
taken n = member n.taken

abbrev pub banned : Node → ℕ → Bool
banned n = member n.banned

-- the steps since the root, the last one first
abbrev pub steps_of : Trail → List Step
steps_of t = reverse (entries t.steps)
