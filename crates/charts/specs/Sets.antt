-- Sets of columns as tests: what they hold and what they cost.
use Rattle.std.specs.Prelude.{◌≡◌, ℕ, zero, suc, ◌<◌, Bool, true, false, cond, not, ◌&&◌, ◌||◌, List, [], ◌∷◌, length, filter, ◌==◌}
use Rattle.std.specs.List.{list_any, range_with_len}
use Rattle.orders.specs.Orders.{Meaning}
use Rattle.charts.specs.Grids.{Grid}
use Rattle.charts.specs.Best.{Problem, columns, beats, total_of}
use Rattle.fixed.specs.declared.set.FixedSet.{FixedSet}
use Rattle.fixed.specs.Sets.{member}

-- a set of columns: a chart has at most 256
abbrev pub ColumnSet : Type 0
ColumnSet = FixedSet 256

-- the members below n, in order
unfoldable pub members_below : ℕ → (ℕ → Bool) → List ℕ
members_below n s = filter s (range_with_len 0 n)

-- the columns of a set, in order
abbrev pub columns_in : ColumnSet → List ℕ
columns_in s = members_below 256 (member s)

-- the members below k, the last one first
abbrev pub down : (ℕ → Bool) → ℕ → List ℕ
down s zero = []
down s (suc k) = cond (s k) (k ∷ down s k) (down s k)

-- what the members cost together, and how many there are
abbrev pub cost : (p : Problem) → (ℕ → Bool) → p.order.Total
cost p s = total_of p (down s p.grid.width)

abbrev pub size : Grid → (ℕ → Bool) → ℕ
size g s = length (down s g.width)

-- a total and a number of columns are those of the set s
pub record Priced (p : Problem) (x : p.order.Total) (n : ℕ) (s : ℕ → Bool) : Type 0 where
  pub total : x ≡ cost p s
  pub size : n ≡ size p.grid s

-- s is better than t
abbrev pub exceeds : Problem → (ℕ → Bool) → (ℕ → Bool) → Bool
exceeds p s t = beats p.order (cost p s) (size p.grid s) (cost p t) (size p.grid t)

-- a total is better than another, or, where that will do, no worse
abbrev pub passes : (m : Meaning) → Bool → m.Total → ℕ → m.Total → ℕ → Bool
passes m true a x b y = beats m a x b y
passes m false a x b y = not (beats m b y a x)

-- s is better than the set b, or, where that will do, no worse
abbrev pub fine : Problem → Bool → (ℕ → Bool) → (ℕ → Bool) → Bool
fine p strict b s = passes p.order strict (cost p s) (size p.grid s) (cost p b) (size p.grid b)

-- whether one of the members holds a need
abbrev pub is_held : Grid → (ℕ → Bool) → ℕ → Bool
is_held g s i = list_any (λ c. g.held c i) (filter s (columns g))

-- one of the members holds a need
abbrev pub Held : Grid → (ℕ → Bool) → ℕ → Type 0
Held g s i = (c : ℕ) × (c < g.width) × (s c ≡ true) × (g.held c i ≡ true)

-- a need that is held is held by a member, and one that is not by none
abbrev pub HeldTells : Type 0
HeldTells =
    (g : Grid) (s : ℕ → Bool) (i : ℕ)
    → (is_held g s i ≡ true → Held g s i) × (is_held g s i ≡ false → (c : ℕ) → c < g.width → s c ≡ true → g.held c i ≡ false)

-- the members hold every need
abbrev pub Covers : Grid → (ℕ → Bool) → Type 0
Covers g s = (i : ℕ) → i < g.wanted → Held g s i

-- s with the column c
abbrev pub put : (ℕ → Bool) → ℕ → ℕ → Bool
put s c k = c == k || s k

-- s without the column c
abbrev pub without : (ℕ → Bool) → ℕ → ℕ → Bool
without s c k = not (c == k) && s k

-- s covers, and no set that covers is better
pub record Least (p : Problem) (s : ℕ → Bool) : Type 0 where
  pub covers : Covers p.grid s
  pub least : (d : ℕ → Bool) → Covers p.grid d → exceeds p d s ≡ false

-- below j, s has a column wherever a cover has it that is as good as s and the same before that column
abbrev pub Settled : Problem → (ℕ → Bool) → ℕ → Type 0
Settled p s j =
    (i : ℕ) → i < j → (d : ℕ → Bool) → Covers p.grid d → exceeds p s d ≡ false → ((k : ℕ) → k < i → d k ≡ s k) → d i ≡ true → s i ≡ true

-- of the best covers, s is the earliest
pub record FirstBest (p : Problem) (s : ℕ → Bool) : Type 0 where
  pub least : Least p s
  pub earliest : Settled p s p.grid.width
