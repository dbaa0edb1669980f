use Rattle.std.proofs.Common.{◌≡◌, ℕ, take, reverse}
use Rattle.fixed.specs.Sets.{member}
use Rattle.reductions.specs.Steps.{taken_by, banned_by}
use Rattle.reductions.proofs.trail.methods.replay.Given as goal

-- the steps so far lead to the node
abbrev pub invariant-loop-step : goal.invariant-loop-step
invariant-loop-step l =
    record {
      taken : (k : ℕ) → member l.node.taken k ≡ taken_by (member l.root.taken) (reverse (take l.step-index l.steps)) k;
      banned : (k : ℕ) → member l.node.banned k ≡ banned_by (member l.root.banned) (reverse (take l.step-index l.steps)) k;
    }
