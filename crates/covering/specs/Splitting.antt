-- Asking whether a set that is the same before a column can have that column.
use Rattle.std.specs.Prelude.{◌≡◌, ℕ, ◌<◌, Bool, true, false, not}

-- below j, u has what s has, and v what s lacks; u has j as well, and neither has more
pub record Asks (s u v : ℕ → Bool) (j : ℕ) : Type 0 where
  pub below : (k : ℕ) → k < j → (u k ≡ s k) × (v k ≡ not (s k))
  pub at : (u j ≡ true) × (v j ≡ false)
  pub above : (k : ℕ) → j < k → (u k ≡ false) × (v k ≡ false)
