-- What one look at a node says, and what a search keeps on its way.
use Rattle.std.specs.Prelude.{◌≡◌, ℕ, ◌<◌, ◌≤◌, Bool, true, false, Option, Some, None}
use Rattle.charts.specs.Best.{Problem}
use Rattle.charts.specs.Sets.{ColumnSet, fine, exceeds, Covers}
use Rattle.reductions.specs.declared.node.Node.{Node}
use Rattle.reductions.specs.declared.trail.Trail.{Trail}
use Rattle.reductions.specs.Goals.{Good, Somewhere, turns}
use Rattle.reductions.specs.Trails.{steps_of, taken, banned}
use Rattle.covering.specs.declared.turn.Turn.{Turn}
use Rattle.covering.specs.declared.turn.Turn.TheVariants.{Found, Dead, Take}

-- the node has no set that is good for the bound
abbrev pub Barren : Problem → Bool → (ℕ → Bool) → Node → Type 0
Barren p strict bound n = (d : ℕ → Bool) → Good p strict bound (taken n) (banned n) d → ⊥

-- found: what is taken covers and is good enough; dead: nothing here is; take: this column is free
abbrev pub Seen : Problem → Bool → (ℕ → Bool) → Node → Turn → Type 0
Seen p strict bound n Found = Covers p.grid (taken n) × (fine p strict bound (taken n) ≡ true)
Seen p strict bound n Dead = Barren p strict bound n
Seen p strict bound n (Take c) = (c < p.grid.width) × (taken n c ≡ false) × (banned n c ≡ false)

-- the search went from the trail s to s': for no bound that is as good as this one was a good set lost, and the end is no farther
pub record Leads (p : Problem) (strict : Bool) (bound : ℕ → Bool) (s s' : Trail) : Type 0 where
  pub root : s'.root ≡ s.root
  pub falls : turns 256 (steps_of s') ≤ turns 256 (steps_of s)
  pub keeps : (low : ℕ → Bool) → exceeds p bound low ≡ false
      → Somewhere p strict low (taken s.root) (banned s.root) (steps_of s) → Somewhere p strict low (taken s.root) (banned s.root) (steps_of s')

-- from the trail s there is nothing left that is as good as the bound asks
abbrev pub Exhausted : Problem → Bool → (ℕ → Bool) → Trail → Type 0
Exhausted p strict bound s =
    (low : ℕ → Bool) → exceeds p bound low ≡ false → Somewhere p strict low (taken s.root) (banned s.root) (steps_of s) → ⊥

-- how a search ended: at a node whose taken columns are good, which are given, or with nothing left
abbrev pub Ended : Problem → Bool → (ℕ → Bool) → Trail → Trail → Option ColumnSet → Type 0
Ended p strict bound s s' (Some c) = Leads p strict bound s s' × Covers p.grid (taken s'.node) × (fine p strict bound (taken s'.node) ≡ true) × (c ≡ s'.node.taken)
Ended p strict bound s s' None = Exhausted p strict bound s
