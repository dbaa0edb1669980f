-- What a search is after, where it may still be, and how far the search is from its end.
use Rattle.std.specs.Prelude.{◌≡◌, ℕ, zero, suc, ◌+◌, ◌-◌, ◌<◌, ◌≤◌, Bool, true, false, cond, ◌⊎◌, List, [], ◌∷◌, length, ◌≢◌}
use Rattle.charts.specs.Best.{Problem}
use Rattle.charts.specs.Sets.{Covers, fine}
use Rattle.reductions.specs.declared.step.Step.{Step}
use Rattle.reductions.specs.declared.trail.Trail.{Trail}
use Rattle.reductions.specs.Steps.{step, taken_by, banned_by}
use Rattle.reductions.specs.Trails.{steps_of, taken, banned}

-- d covers, has the columns t, lacks the columns b, and is better than the set bound or, where that will do, no worse
pub record Good (p : Problem) (strict : Bool) (bound t b d : ℕ → Bool) : Type 0 where
  pub covers : Covers p.grid d
  pub has : (k : ℕ) → k < p.grid.width → t k ≡ true → d k ≡ true
  pub lacks : (k : ℕ) → k < p.grid.width → b k ≡ true → d k ≡ false
  pub worth : fine p strict bound d ≡ true

-- there is one at the node that the steps lead to
abbrev pub Here : Problem → Bool → (ℕ → Bool) → (ℕ → Bool) → (ℕ → Bool) → List Step → Type 0
Here p strict bound t b r = (d : ℕ → Bool) × Good p strict bound (taken_by t r) (banned_by b r) d

-- there is one at a node that is still owed: for a decision, the node that bans its column instead
abbrev pub Owed : Problem → Bool → (ℕ → Bool) → (ℕ → Bool) → (ℕ → Bool) → List Step → Type 0
Owed p strict bound t b [] = ⊥
Owed p strict bound t b (e ∷ r) = ((e.decided ≡ true) × Here p strict bound t b (step e.column false false ∷ r)) ⊎ Owed p strict bound t b r

abbrev pub Somewhere : Problem → Bool → (ℕ → Bool) → (ℕ → Bool) → (ℕ → Bool) → List Step → Type 0
Somewhere p strict bound t b r = Here p strict bound t b r ⊎ Owed p strict bound t b r

-- how many turns a node with k columns to settle takes at most
unfoldable pub nodes : ℕ → ℕ
nodes zero = 1
nodes (suc k) = suc (nodes k + nodes k)

-- the turns of the nodes that are still owed
unfoldable pub pending : ℕ → List Step → ℕ
pending n [] = 0
pending n (e ∷ r) = cond e.decided (nodes (n - suc (length r))) 0 + pending n r

-- the turns that are left, of n columns
unfoldable pub turns : ℕ → List Step → ℕ
turns n r = nodes (n - length r) + pending n r

-- from the steps r the search went on to r': no good set was lost, whatever is sought, and it is no farther from its end
pub record Narrows (p : Problem) (t b : ℕ → Bool) (r r' : List Step) : Type 0 where
  pub keeps : (strict : Bool) (bound : ℕ → Bool) → Somewhere p strict bound t b r → Somewhere p strict bound t b r'
  pub falls : turns 256 r' ≤ turns 256 r
  pub moves : (length r ≢ length r') → turns 256 r' < turns 256 r

-- the same of two trails, from one root
pub record Narrowed (p : Problem) (s s' : Trail) : Type 0 where
  pub root : s'.root ≡ s.root
  pub narrows : Narrows p (taken s.root) (banned s.root) (steps_of s) (steps_of s')
