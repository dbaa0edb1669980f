-- What a good set costs at least: needs that share no column.
use Rattle.std.specs.Prelude.{◌≡◌, ℕ, ◌<◌, ◌≤◌, Bool, true, false, not, ◌&&◌, ◌⊎◌, if◌then◌else◌, List, length}
use Rattle.terms.specs.declared.term.Term.{Term}
use Rattle.orders.specs.Orders.{total}
use Rattle.charts.specs.Grids.{Grid}
use Rattle.charts.specs.Best.{Problem}
use Rattle.charts.specs.Sets.{cost, size}
use Rattle.reductions.specs.Goals.{Good}
use Rattle.reductions.specs.Spares.{no_dearer}

-- a part of d that costs at least x and has at least n columns, each of them taken or used
pub record Under (p : Problem) (t used : ℕ → Bool) (x : p.order.Total) (n : ℕ) (d : ℕ → Bool) : Type 0 where
  pub part : ℕ → Bool
  pub inside : (c : ℕ) → c < p.grid.width → part c ≡ true → d c ≡ true
  pub dear : p.order.at_most x (cost p part) ≡ true
  pub many : n ≤ size p.grid part
  pub from : (c : ℕ) → c < p.grid.width → part c ≡ true → (t c ≡ true) ⊎ (used c ≡ true)

-- each good set of the node has such a part; x is the total of n terms
pub record Floor (p : Problem) (strict : Bool) (bound t b used : ℕ → Bool) (x : p.order.Total) (n : ℕ) : Type 0 where
  pub ts : List Term
  pub sum : x ≡ total p.order ts
  pub count : length ts ≡ n
  pub under : (d : ℕ → Bool) → Good p strict bound t b d → Under p t used x n d

-- the column is neither taken nor used
abbrev pub is_unused : (ℕ → Bool) → (ℕ → Bool) → ℕ → Bool
is_unused t used c = not (t c) && not (used c)

-- the cheaper of two columns; the first where they cost the same
abbrev pub cheaper : Problem → ℕ → ℕ → ℕ
cheaper p a b = if no_dearer p a b then a else b

-- no column that is left for the need is taken or used
abbrev pub Apart : Grid → (ℕ → Bool) → (ℕ → Bool) → (ℕ → Bool) → ℕ → Type 0
Apart g t b used i = (c : ℕ) → c < g.width → g.held c i ≡ true → b c ≡ false → (t c ≡ false) × (used c ≡ false)

-- of the columns that are left for the need, none is cheaper than r
abbrev pub Cheapest : Problem → (ℕ → Bool) → ℕ → ℕ → Type 0
Cheapest p b i r =
    (c : ℕ) → c < p.grid.width → p.grid.held c i ≡ true → b c ≡ false → p.order.at_most (p.order.price (p.grid.term r)) (p.order.price (p.grid.term c)) ≡ true
