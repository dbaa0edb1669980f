-- The best set of columns of a chart under a cost order.
use Rattle.std.specs.Prelude.{◌≡◌, ℕ, Bool, true, not, ◌&&◌, ◌||◌, List, map, length, nat_lt}
use Rattle.std.specs.List.{range_with_len}
use Rattle.orders.specs.Orders.{Meaning, total}
use Rattle.charts.specs.Grids.{Grid}
use Rattle.charts.specs.Choice.{all_of, some_of, first_best, BestPart}

-- a chart, and the order in which its columns are priced
pub record Problem : Type 1 where
  pub order : Meaning
  pub grid : Grid

abbrev pub problem : Meaning → Grid → Problem
problem m g = record { order = m; grid = g }

-- the columns, in order; a set of columns is a part of this list
abbrev pub columns : Grid → List ℕ
columns g = range_with_len 0 g.width

-- each need is held by one of the columns
abbrev pub covering : Grid → List ℕ → Bool
covering g c = all_of (λ i. some_of (λ k. g.held k i) c) (range_with_len 0 g.wanted)

-- what the columns cost together
abbrev pub total_of : (p : Problem) → List ℕ → p.order.Total
total_of p c = total p.order (map p.grid.term c)

-- a total of x columns is better than one of y: it is less, or it is no more and x is fewer
abbrev pub beats : (m : Meaning) → m.Total → ℕ → m.Total → ℕ → Bool
beats m a x b y = not (m.at_most b a) || (m.at_most a b && nat_lt x y)

-- c is better than d
abbrev pub better : Problem → List ℕ → List ℕ → Bool
better p c d = beats p.order (total_of p c) (length c) (total_of p d) (length d)

-- the best set: of the sets that cover, the first that none is better than
abbrev pub best_set : Problem → List ℕ
best_set p = first_best (covering p.grid) (better p) (columns p.grid)

-- c is the best set, in words: it covers, no set that covers is better, and of those that are as good it is the earliest
abbrev pub IsBest : Problem → List ℕ → Type 0
IsBest p = BestPart (λ k. k) (columns p.grid) (covering p.grid) (better p)

-- where all columns together cover, the best set is best in those words, and no other set is
abbrev pub BestSet : Problem → Type 0
BestSet p = covering p.grid (columns p.grid) ≡ true → IsBest p (best_set p) × ((c : List ℕ) → IsBest p c → c ≡ best_set p)
