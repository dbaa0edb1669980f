use Rattle.std.proofs.Common.{◌≡◌, ℕ, ◌<◌, ◌≤◌, false}
use Rattle.fixed.specs.Sets.{member}
use Rattle.fixed.proofs.set.FixedSet.from_fn_below.Given as goal

-- below the number the set has what the test said, and from it on nothing
abbrev pub invariant-loop-number : goal.invariant-loop-number
invariant-loop-number g l =
    record {
      judged : (k : ℕ) → k < l.number → goal.F-post g l.test k (member l.set k);
      past : (k : ℕ) → l.number ≤ k → member l.set k ≡ false;
    }
