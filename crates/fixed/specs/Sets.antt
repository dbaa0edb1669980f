-- Sets of numbers below a bound.
use Rattle.std.specs.Prelude.{ℕ, Bool, false, slice_index_or}
use Rattle.fixed.specs.declared.set.FixedSet.{FixedSet}

-- whether a set has a number
abbrev pub member : {n : ℕ} → FixedSet n → ℕ → Bool
member s k = slice_index_or s.on k false
